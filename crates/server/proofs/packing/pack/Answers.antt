use Rattle.std.proofs.Common.{rules, ◌≡◌, ◌≤◌, ℕ, List, Bool, true, inl, inr, [], ◌∷◌, ◌++◌, append-nil, length, take, refl, sym, ap, subst, ◌∙◌, arith}
use Rattle.std.proofs.lemmas.List.{get_or_default}
use Rattle.site_drive.specs.Posting.{letters_of}
use Rattle.server_packets.specs.Making.{HasRoom, Packs}
use Rattle.server.specs.Mailing.{own_of}
use Rattle.server.specs.Speaking.{MayJoin}
use Rattle.server.proofs.Owning.{own_more, own_of_none, own_of_one}
use Rattle.server.proofs.packing.pack.Goals as goal
use Rattle.server.proofs.packing.pack.Goals.{then-reaches+else-not-may_join+in_ok-push, else-reaches}

-- what may join has room
room_of : (ds : List (List ℕ)) (len : ℕ) (alone : Bool) → MayJoin ds len alone → HasRoom ds len
room_of ds len alone (inl none) = inl none
room_of ds len alone (inr some) = some.1

-- and what goes alone is the first
first_alone : (ds : List (List ℕ)) (d : List ℕ) (len : ℕ) (alone : Bool) → MayJoin ds len alone → alone ≡ true → length (ds ++ d ∷ []) ≤ 1
first_alone ds d len alone (inl none) is = subst (λ b. length (b ++ d ∷ []) ≤ 1) (sym none) (omega arith)
first_alone ds d len alone (inr more) is = let together = more.0 in absurd (cc)

-- the first one may join, so it was not skipped
pub returns-then-not-may_join-clause-goes_on : goal.returns-then-not-may_join-clause-goes_on
returns-then-not-may_join-clause-goes_on c = λ ds made none.
    let zero : Packs c.loop-n.packet [] = subst (λ k. Packs c.loop-n.packet (own_of c.args.to (letters_of (take k c.args.letters.now)))) none (c.loop-n.invariant ds made).0 in
    let room = (c.may_join.ensures [] zero).1 (inl refl) in
    absurd (grind (arith, room, c.if-not-may_join.true))

-- the letter after those that were packed may not join
pub returns-then-not-may_join-clause-full : goal.returns-then-not-may_join-clause-full
returns-then-not-may_join-clause-full c = λ ds made x below at may.
    let letters = c.args.letters.now in
    let n = c.loop-n.n in
    let before = own_of c.args.to (letters_of (take n letters)) in
    let y = c.index-letters-n.result in
    let same : x ≡ y = at ∙ get_or_default letters n x y below ∙ sym c.index-letters-n.is in
    let long : length x.bytes.items ≡ c.len.result =
    ap (λ z. length z.bytes.items) same ∙ grind (arith, c.len.ensures) in
    let so = (c.may_join.ensures before (c.loop-n.invariant ds made).0).1
    (subst (λ k. MayJoin before k c.args.alone) long may) in
    absurd (grind (arith, so, c.if-not-may_join.true))

pub loop-n-preserved : goal.loop-n-preserved
loop-n-preserved c = λ ds made.
    let p = c.args.to in
    let letters = c.args.letters.now in
    let x = c.index-letters-n.result in
    let before = own_of p (letters_of (take c.loop-n.n letters)) in
    let more = own_more p letters c.loop-n.n x c.loop-n-test.true c.index-letters-n.is in
    let so_far = c.loop-n.invariant ds made in
    elim c.if-reaches.branch [
      | then-reaches+else-not-may_join+in_ok-push w ↦
          let may = (w.may_join.ensures before so_far.0).0 (grind (arith, w.if-not-may_join.false)) in
          let has = room_of before w.len.result c.args.alone may in
          let room : HasRoom before (length w.as_slice.result.now) = subst (λ k. HasRoom before k) (grind (arith, w.len.ensures, w.as_slice.ensures.len)) has in
          let whole = ap (λ d. before ++ d ∷ []) w.as_slice.ensures.value ∙ ap (λ l. before ++ l) (sym (own_of_one p x (grind (arith, w.if-reaches.true, w.if-reaches.ensures)))) ∙ more in (
            subst (λ l. Packs c.if-reaches.packet l) whole (subst (λ q. Packs q (before ++ w.as_slice.result.now ∷ [])) (sym w.packet-is) (w.in_ok-push.ensures.ok before so_far.0 room)),
            λ alone. subst (λ l. length l ≤ 1) whole (first_alone before w.as_slice.result.now w.len.result c.args.alone may alone),
          )
      | else-reaches w ↦
          let whole = sym (append-nil before) ∙ ap (λ l. before ++ l) (sym (own_of_none p x (grind (arith, w.if-reaches.false, w.if-reaches.ensures)))) ∙ more in (
            subst (λ l. Packs c.if-reaches.packet l) whole (subst (λ q. Packs q before) (sym w.packet-is) so_far.0),
            λ alone. subst (λ l. length l ≤ 1) whole (so_far.1 alone),
          )
    ]

pub returns-then-not-may_join-clause-single : goal.returns-then-not-may_join-clause-single
returns-then-not-may_join-clause-single c = λ ds made alone. (c.loop-n.invariant ds made).1 alone

pub returns-clause-single : goal.returns-clause-single
returns-clause-single c = λ ds made alone.
    let letters = c.args.letters.now in
    subst (λ k. length (own_of c.args.to (letters_of (take k letters))) ≤ 1) (search rules) ((c.loop-n.invariant ds made).1 alone)
