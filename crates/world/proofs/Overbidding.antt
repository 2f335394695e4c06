-- A tick whose prepare is refused: the node hears of the highest promise, and its next ballot is above all of them.
use Rattle.std.proofs.Common.{◌≡◌, ◌≢◌, inl, ℕ, ◌+◌, ◌<◌, ◌≤◌, max, Option, Some, List, [], ◌∷◌, ◌++◌, length, refl, sym, ap, subst, ◌∙◌, arith}
use Rattle.site_ids.specs.Ids.{BallotOf, IsNode}
use Rattle.site_ids.specs.Lists.{In, put_at}
use Rattle.site_ids.specs.Spans.{last_of}
use Rattle.site_ids.proofs.MapLemmas.{put_other}
use Rattle.wire.specs.declared.message.Message.{Message}
use Rattle.wire.specs.declared.message.Message.TheVariants.{Prepare, Nack}
use Rattle.durable.specs.Entries.{Entry, Round, Voted, Raises, last_round, last_vote, greatest_round, with_entry, floor_of}
use Rattle.durable.proofs.Push.{round_after-push}
use Rattle.proposer.specs.Attempts.{Attempt, opened}
use Rattle.node.specs.declared.to.To.{To}
use Rattle.node.specs.Nodes.{Node, IsFirstUnknown, IsMute}
use Rattle.node.specs.Effects.{Effect, recorded, messages_of}
use Rattle.node.specs.Calls.{deliver, fresh_ballot, HasRound, oldest, AreOpenElsewhere}
use Rattle.world.specs.declared.event.Event.TheVariants.{Tick, Deliver}
use Rattle.world.specs.Worlds.{World}
use Rattle.world.specs.Taking.{Takes}
use Rattle.world.specs.Quiet.{AllRun, quorum, Overbids}
use Rattle.world.proofs.Calm.{Acts, deliver_acts, for_each}
use Rattle.world.proofs.QuietLists.{quorum_within}
use Rattle.world.proofs.QuietAnswers.{IsClear, SameMind, same_mind, Nacks, nacks}
use Rattle.world.proofs.Attempting.{Ticked, ticked, first_behind, longer}
use Rattle.node.proofs.OnRecord.{last_vote-in}
use Rattle.world.proofs.Bounds.{raised_within, round_least}

-- what is left of a refused attempt
pub record Heard (n p i : ℕ) (w after : World) (elsewhere : List (ℕ × Attempt)) : Type 0 where
  pub first : IsFirstUnknown (after.node p).known i
  pub not_mute : ¬ IsMute (after.node p) i
  pub round : HasRound (after.node p)
  pub open_elsewhere : AreOpenElsewhere (after.node p) i elsewhere
  pub clear : (r : ℕ) → IsNode (quorum n) r → IsClear (after.node r).entries i (fresh_ballot p (after.node p))
  pub sent : length after.sent ≡ length w.sent + 2 + length elsewhere
  pub last : (r : ℕ) → last_vote i (after.node r).entries ≡ last_vote i (w.node r).entries
  pub pending : (after.node p).pending ≡ (w.node p).pending

mind_over : (s : Node) (q i r : ℕ) (b d : BallotOf) (effect : Effect) → Nacks q (record s { reached = r }) i b d effect → SameMind s (recorded (record s { reached = r }) effect)
mind_over s q i r b d effect how = record {
  attempts = ap (λ (x : Node). x.attempts) how.after;
  known = ap (λ (x : Node). x.known) how.after;
  votes = ap (λ (x : Node). x.votes) how.after;
  pending = ap (λ (x : Node). x.pending) how.after;
  heard = ap (λ (x : Node). x.heard) how.after;
  round = ap (λ x. last_round (with_entry s.entries x)) how.entry;
}

some_attempt : (a c : Attempt) (o : Option Attempt) → o ≡ Some a → o ≡ Some c → a ≡ c
some_attempt a c o x y = cc

module _ (n p i : ℕ) (w : World) (elsewhere : List (ℕ × Attempt)) (node : IsNode n p) (first : IsFirstUnknown (w.node p).known i) (not_mute : ¬ IsMute (w.node p) i) (round : HasRound (w.node p)) (open_elsewhere : AreOpenElsewhere (w.node p) i elsewhere) (q : ℕ)
    (over : Overbids n w i (fresh_ballot p (w.node p)) q) (last_low : last_round (w.node p).entries ≤ 4294967293) (heard_low : (w.node p).heard ≤ 4294967293)
    (none_mute : (r : ℕ) → IsNode (quorum n) r → ¬ IsMute (w.node r) i) (rounds : (r : ℕ) → IsNode n r → greatest_round (w.node r).entries ≤ 4294967293)
  where
    abbrev b : BallotOf
    b = fresh_ballot p (w.node p)

    some : 1 ≤ n
    some = let a = node.0 in let c = node.1 in omega (arith, a, c)

    there : IsNode n q
    there = quorum_within n q some over.node

    module _ (w1 : World) (run_1 : AllRun n w1) (tick_taken : Takes n w (Tick p) w1) where
      began : Ticked p i w w1 (length elsewhere)
      began = ticked n p i w w1 elsewhere first not_mute round open_elsewhere (run_1 p node) tick_taken

      pub long_1 : length w1.sent ≡ length w.sent + 1 + length elsewhere
      long_1 = let l = longer w1.sent w.sent (Prepare p i b 1 ∷ began.again) began.sent in let m = began.many in omega (arith, l, m)

      module _ (w2 : World) (run_2 : AllRun n w2) (asked : Takes n w1 (Deliver q (length w.sent)) w2) where
        acts_2 : Acts n w1 q (deliver (Prepare p i b 1)) w2
        acts_2 = deliver_acts n w1 q (length w.sent) (Prepare p i b 1) w2 (first_behind w1.sent w.sent began.again (Prepare p i b 1) (length w.sent) began.sent refl) (λ x. x) (run_2 q there) asked

        told : Nacks q (record (w1.node q) { reached = max (w1.node q).reached (last_of i 1) }) i b over.promised acts_2.effect
        told =
            nacks q (record (w1.node q) { reached = max (w1.node q).reached (last_of i 1) }) i b over.promised acts_2.effect over.on_record.0.0 (began.kept q over.on_record.0.0 over.on_record.0.1) over.on_record.0.2 over.above (began.not_mute q (none_mute q over.node)) acts_2.does

        entries_2 : (r : ℕ) → (w2.node r).entries ≡ (w1.node r).entries
        entries_2 = for_each n w1 q (deliver (Prepare p i b 1)) w2 (λ s t. t.entries ≡ s.entries) (λ s. refl) acts_2 (ap (λ x. with_entry (w1.node q).entries x) told.entry)

        mind_2 : (r : ℕ) → SameMind (w1.node r) (w2.node r)
        mind_2 = for_each n w1 q (deliver (Prepare p i b 1)) w2 SameMind same_mind acts_2 (mind_over (w1.node q) q i (max (w1.node q).reached (last_of i 1)) b over.promised acts_2.effect told)

        sent_2 : w2.sent ≡ w1.sent ++ Nack q i b told.told ∷ []
        sent_2 = acts_2.sent ∙ ap (λ (l : List (To × Message)). w1.sent ++ messages_of l) told.out

        pub long_2 : length w2.sent ≡ length w.sent + 2 + length elsewhere
        long_2 = let l = longer w2.sent w1.sent (Nack q i b told.told ∷ []) sent_2 in let j = long_1 in omega (arith, l, j)

        told_low : told.told.round ≤ 4294967293
        told_low =
            let r = raised_within (w.node q).entries told.on_record.0 i told.told (began.raised q told.on_record.0 told.told told.on_record.1 told.on_record.2) told.on_record.2 in
            let g = rounds q there in
            omega (arith, r, g)

        module _ (w3 : World) (run_3 : AllRun n w3) (hears : Takes n w2 (Deliver p (length w.sent + 1 + length elsewhere)) w3) where
          acts_3 : Acts n w2 p (deliver (Nack q i b told.told)) w3
          acts_3 =
              deliver_acts n w2 p (length w.sent + 1 + length elsewhere) (Nack q i b told.told) w3 (first_behind w2.sent w1.sent [] (Nack q i b told.told) (length w.sent + 1 + length elsewhere) sent_2 long_1) (λ x. x)
              (run_3 p node) hears

          entries_3 : (r : ℕ) → (w3.node r).entries ≡ (w1.node r).entries
          entries_3 r =
              for_each n w2 p (deliver (Nack q i b told.told)) w3 (λ s t. t.entries ≡ s.entries) (λ s. refl) acts_3 (ap (λ (x : Effect). with_entry (w2.node p).entries x.entry) acts_3.does) r ∙ entries_2 r

          heard_3 : (w3.node p).heard ≡ max (w.node p).heard told.told.round
          heard_3 = ap (λ (x : Node). x.heard) acts_3.at ∙ ap (λ (x : Effect). x.after.heard) acts_3.does ∙ ap (λ h. max h told.told.round) ((mind_2 p).heard ∙ began.heard)

          known_3 : (w3.node p).known ≡ (w.node p).known
          known_3 = ap (λ (x : Node). x.known) acts_3.at ∙ ap (λ (x : Effect). x.after.known) acts_3.does ∙ (mind_2 p).known ∙ began.known

          attempts_3 : (w3.node p).attempts ≡ put_at (w.node p).attempts i (Some (opened b (oldest (w.node p).pending)))
          attempts_3 = ap (λ (x : Node). x.attempts) acts_3.at ∙ ap (λ (x : Effect). x.after.attempts) acts_3.does ∙ (mind_2 p).attempts ∙ began.attempts

          pending_3 : (w3.node p).pending ≡ (w.node p).pending
          pending_3 = ap (λ (x : Node). x.pending) acts_3.at ∙ ap (λ (x : Effect). x.after.pending) acts_3.does ∙ (mind_2 p).pending ∙ began.pending

          last_3 : last_round (w3.node p).entries ≡ b.round
          last_3 = ap (λ es. last_round es) (entries_3 p ∙ began.entries) ∙ round_after-push 0 (w.node p).entries (Round b.round ∷ [])

          other_attempt : (j : ℕ) → j ≢ i → (w3.node p).attempts j ≡ (w.node p).attempts j
          other_attempt j apart = ap (λ (f : ℕ → Option Attempt). f j) attempts_3 ∙ put_other (w.node p).attempts i (Some (opened b (oldest (w.node p).pending))) j apart

          -- a ballot promised there is below the next fresh one
          low_3 : (r : ℕ) (e : Entry) (c : BallotOf) → IsNode (quorum n) r → In (w3.node r).entries e → Raises e i c → c.round < (fresh_ballot p (w3.node p)).round
          low_3 r e c is k raised =
              let d = round_least c over.promised (over.highest r e c is (began.raised r e c (subst (λ es. In es e) (entries_3 r) k) raised) raised) in
              let x = round_least over.promised told.told told.high in
              let h = heard_3 in
              omega (arith, d, x, h)

          pub refused : Heard n p i w w3 elsewhere
          refused = record {
            first = subst (λ f. IsFirstUnknown f i) (sym known_3) first;
            not_mute = λ mute. began.not_mute p not_mute (subst (λ es. i ≤ floor_of es) (entries_3 p) mute);
            round = let a = last_3 in let h = heard_3 in let t = told_low in omega (arith, a, h, t, last_low, heard_low);
            open_elsewhere = record {
              rising = open_elsewhere.rising;
              each = λ x k. let h = open_elsewhere.each x k in (h.0, other_attempt x.0 h.0 ∙ h.1);
              whole = λ j a apart is. open_elsewhere.whole j a apart (sym (other_attempt j apart) ∙ is);
            };
            clear = λ r is. record {
              below = λ e c k raised. inl (low_3 r e c is k raised);
              unvoted = λ x last same. let h = low_3 r (Voted i x.ballot x.value) x.ballot is (last_vote-in i (w3.node r).entries x last) (refl, refl) in let e : x.ballot.round ≡ (fresh_ballot p (w3.node p)).round = ap (λ (y : BallotOf). y.round) same in
                  omega (arith, h, e);
              not_mute = λ mute. began.not_mute r (none_mute r is) (subst (λ es. i ≤ floor_of es) (entries_3 r) mute);
            };
            sent = let l = longer w3.sent w2.sent (messages_of acts_3.effect.out) acts_3.sent in let j = long_2 in let none : length (messages_of acts_3.effect.out) ≡ 0 = ap (λ (x : Effect). length (messages_of x.out)) acts_3.does in omega (arith, l, j, none);
            last = λ r. ap (λ es. last_vote i es) (entries_3 r) ∙ began.last r;
            pending = pending_3;
          }
