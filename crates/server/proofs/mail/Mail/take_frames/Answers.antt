use Rattle.std.proofs.Common.{◌≡◌, ◌+◌, ◌-◌, ◌++◌, ◌∷◌, [], ◌<◌, ◌^◌, ℕ, List, length, min, refl, sym, ap, ◌∙◌, append_assoc, append-nil, arith}
use Rattle.server_packets.specs.Packets.{framed, framed_all}
use Rattle.server_packets.proofs.FrameLemmas.{first_is_shorter, frames_behind, none_left}
use Rattle.server.specs.Mailing.{waiting_of, counted}
use Rattle.server.proofs.mail.Mail.take_frames.Goals as goal

-- these datagrams are what was taken and what is left
abbrev IsTaken : List (List ℕ) → List ℕ → List (List ℕ) → List (List ℕ) → ℕ → ℕ → Type 0
IsTaken ds rest before now had has = (done left : List (List ℕ)) × (ds ≡ done ++ left) × (rest ≡ framed_all left)
    × (now ≡ before ++ done) × (has ≡ counted had done)

-- one more is counted
counted_more : (had : ℕ) (done : List (List ℕ)) (d : List ℕ)
    → counted (counted had done) (d ∷ []) ≡ counted had (done ++ d ∷ [])
counted_more had [] d = refl
counted_more had (x ∷ xs) d = counted_more (min (had + length x) (2 ^ 64 - 1)) xs d

-- one more is taken
one_more : (ds : List (List ℕ)) (rest d behind : List ℕ) (before mid now : List (List ℕ)) (had then has : ℕ)
    → length rest < 2 ^ 32 → rest ≡ framed d ++ behind → now ≡ mid ++ d ∷ []
    → has ≡ counted then (d ∷ []) → IsTaken ds rest before mid had then → IsTaken ds behind before now had has
one_more ds rest d behind before mid now had then has short is more counts (done, left, all, frames, waits, so) =
    let l = ap length is in
    let f = frames_behind d behind left (omega (arith, l, short)) (sym is ∙ frames) in (
      done ++ d ∷ [],
      f.0,
      all ∙ ap (λ x. done ++ x) f.1 ∙ sym (append_assoc done (d ∷ []) f.0),
      f.2,
      more ∙ ap (λ x. x ++ d ∷ []) waits ∙ append_assoc before done (d ∷ []),
      counts ∙ ap (λ k. counted k (d ∷ [])) so ∙ counted_more had done d,
    )

pub loop-datagram-preserved : goal.loop-datagram-preserved
loop-datagram-preserved c =
    let i = c.loop-datagram.invariant in
    let d = c.in-Some.datagram.now in
    let behind = c.in-Some.behind.now in
    let m = first_is_shorter d behind in
    let l = ap length c.in-Some.ensures.found in
    record {
      taken = λ ds e.
          one_more ds c.loop-datagram.rest.now d behind
          (waiting_of c.args.self.now) (waiting_of c.loop-datagram.self) (waiting_of c.push.new.self)
          c.args.self.now.bytes c.loop-datagram.self.bytes c.push.new.self.bytes
          (omega (arith, c.requires, i.short)) c.in-Some.ensures.found
          c.in_ok-push.ensures.came c.in_ok-push.ensures.room (i.taken ds e);
      letters = c.push.ensures.same ∙ i.letters;
      peers = (c.push.ensures.peers.0 ∙ i.peers.0, c.push.ensures.peers.1 ∙ i.peers.1);
      short = omega (arith, i.short);
    }

-- where none is left, all of them were taken
pub returns-clause-came : goal.returns-clause-came
returns-clause-came c = λ ds e.
    let i = c.loop-datagram.invariant in
    let t = i.taken ds e in
    let none = none_left c.loop-datagram.rest.now t.1 c.in_default.ensures.none (omega (arith, c.requires, i.short)) t.3 in
    let all = sym (t.2 ∙ ap (λ x. t.0 ++ x) none ∙ append-nil t.0) in
    (t.4 ∙ ap (λ x. waiting_of c.args.self.now ++ x) all, t.5 ∙ ap (λ x. counted c.args.self.now.bytes x) all)
