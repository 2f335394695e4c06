-- What the calls of a node hand out is from that node.
use Rattle.std.proofs.Common.{◌≡◌, ℕ, suc, ◌<◌, Option, Some, None, List, [], ◌∷◌, ◌++◌, map, length, refl, sym, ap, subst, ⊎_elim}
use Rattle.site_ids.specs.Ids.{BallotOf}
use Rattle.site_ids.specs.Lists.{In}
use Rattle.wire.specs.declared.message.Message.{Message}
use Rattle.wire.specs.declared.message.Message.TheVariants.{Prepare, Promise, Propose, Accepted, Nack, Ask, Chosen}
use Rattle.wire.specs.Messages.{sender_of}
use Rattle.acceptor.specs.Steps.{Answer, promise, accepted, nack, no_answer}
use Rattle.durable.specs.Entries.{Voted, last_vote}
use Rattle.learner.specs.ToldVotes.{told_vote, HasMajority}
use Rattle.proposer.specs.Attempts.{Attempt, latest}
use Rattle.site_ids.specs.declared.value.Vote.{Vote}
use Rattle.site_ids.specs.declared.TheConstants.{MAX_PENDING}
use Rattle.node.specs.declared.to.To.{To}
use Rattle.node.specs.declared.to.To.TheVariants.{One, All}
use Rattle.node.specs.Nodes.{Value, Node, IsKnown, IsUnknown, IsMute}
use Rattle.node.specs.Tickets.{IsCommand, IsHeld}
use Rattle.node.specs.Effects.{Effect, quiet, says, learned}
use Rattle.node.specs.Tellings.{tells, told_from, addressed, remembered}
use Rattle.node.specs.Deliveries.{Judged, prepare_out, span_out, propose_out, promise_out, reached_by, with_vote, Counted, ByKind, OnPrepare, OnPropose}
use Rattle.node.specs.Calls.{Call, submit, tick, widen, ask, tell, deliver, queued, resent, Begins, MayWiden, Does, Ticks, AsksInstead, keep, KeepsOne, MayKeep}
use Rattle.node.specs.Endings.{Ending, Whole, Refused, Failed, Ends}
use Rattle.world.specs.Batches.{SaysItself}
use Rattle.node.proofs.ToldAgain.{each_told}
use Rattle.site_ids.proofs.MemberLemmas.{in_split}

abbrev AreFrom : ℕ → List (To × Message) → Type 0
AreFrom p out = (x : To × Message) → In out x → sender_of x.1 ≡ p

none_from : (p : ℕ) → AreFrom p []
none_from p x k = absurd k

first_from : (p : ℕ) (x : To × Message) (out : List (To × Message)) → sender_of x.1 ≡ p → AreFrom p out → AreFrom p (x ∷ out)
first_from p x out is others y k = ⊎_elim (λ (e : x ≡ y). subst (λ (z : To × Message). sender_of z.1 ≡ p) e is) (λ k. others y k) k

both_from : (p : ℕ) (xs ys : List (To × Message)) → AreFrom p xs → AreFrom p ys → AreFrom p (xs ++ ys)
both_from p xs ys first then x k = ⊎_elim (λ k. first x k) (λ k. then x k) (in_split xs ys x k)

of_effect : (p : ℕ) (effect e : Effect) → effect ≡ e → AreFrom p e.out → AreFrom p effect.out
of_effect p effect e is from = subst (λ (x : Effect). AreFrom p x.out) (sym is) from

prepare_from : (p i : ℕ) (b : BallotOf) (answer : Answer) → AreFrom p (prepare_out p i b answer)
prepare_from p i b (promise prior) = first_from p (One b.node, Promise p i b prior) [] refl (none_from p)
prepare_from p i b (nack c) = first_from p (One b.node, Nack p i b c) [] refl (none_from p)
prepare_from p i b accepted = none_from p
prepare_from p i b no_answer = none_from p

span_from : (p i : ℕ) (b : BallotOf) (xs : List Judged) → AreFrom p (span_out p i b xs)
span_from p i b [] = none_from p
span_from p i b (x ∷ xs) = both_from p (prepare_out p i b x.answer) (span_out p (suc i) b xs) (prepare_from p i b x.answer) (span_from p (suc i) b xs)

propose_from : (p i : ℕ) (b : BallotOf) (v : Value) (answer : Answer) → AreFrom p (propose_out p i b v answer)
propose_from p i b v accepted = first_from p (All, Accepted p i b v) [] refl (none_from p)
propose_from p i b v (nack c) = first_from p (One b.node, Nack p i b c) [] refl (none_from p)
propose_from p i b v (promise prior) = none_from p
propose_from p i b v no_answer = none_from p

promise_from : (p i : ℕ) (b : BallotOf) (proposed : Option Value) → AreFrom p (promise_out p i b proposed)
promise_from p i b None = none_from p
promise_from p i b (Some v) = first_from p (All, Propose p i b v) [] refl (none_from p)

latest_from : (p i : ℕ) (b : BallotOf) (proposal : Option Value) → sender_of (latest p i b proposal) ≡ p
latest_from p i b None = refl
latest_from p i b (Some v) = refl

again_from : (p : ℕ) (xs : List (ℕ × Attempt)) → AreFrom p (map (resent p) xs)
again_from p [] = none_from p
again_from p (x ∷ xs) = first_from p (resent p x) (map (resent p) xs) (latest_from p x.0 x.1.ballot x.1.proposal) (again_from p xs)

telling_from : (p : ℕ) (s : Node) (to : To) (i : ℕ) → AreFrom p (map (addressed to) (told_from p s i))
telling_from p s to i x k =
    let told = each_told p s to i x k in
    let j = told.0 in
    ⊎_elim
    (λ (y : (v : Value) × (remembered s j ≡ Some v) × (x.1 ≡ Chosen p j v)). ap sender_of y.2)
    (λ (y : (w : Vote) × In s.entries (Voted j w.ballot w.value) × (last_vote j s.entries ≡ Some w) × (remembered s j ≡ None) × (x.1 ≡ Accepted p j w.ballot w.value)). ap sender_of y.4)
    told.2.is

delivery_from : (n p : ℕ) (s : Node) (m : Message) (effect : Effect) → ByKind n p s m effect → AreFrom p effect.out
delivery_from n p s (Prepare q i b k) effect how =
    ⊎_elim
    (λ (x : IsMute s i × (effect ≡ quiet s)). of_effect p effect (quiet s) x.1 (none_from p))
    (λ (x : (¬ IsMute s i) × OnPrepare p s i b k effect). of_effect p effect (record { entry = x.1.entry; after = s; out = span_out p i b x.1.judged }) x.1.is (span_from p i b x.1.judged))
    how
delivery_from n p s (Propose q i b v) effect how =
    ⊎_elim
    (λ (x : IsMute s i × (effect ≡ quiet s)). of_effect p effect (quiet s) x.1 (none_from p))
    (λ (x : (¬ IsMute s i) × OnPropose p s i b v effect). of_effect p effect (record { entry = x.1.entry; after = s; out = propose_out p i b v x.1.answer }) x.1.is (propose_from p i b v x.1.answer))
    how
delivery_from n p s (Promise q i b prior) effect how =
    of_effect p effect (record { entry = None; after = record s { attempts = how.attempts }; out = promise_out p i b how.proposed }) how.is (promise_from p i b how.proposed)
delivery_from n p s (Accepted q i b v) effect how =
    let voted : Node = with_vote s (told_vote q i b v) in
    ⊎_elim
    (λ (x : IsUnknown s i × Counted n voted i b v effect).
    ⊎_elim
    (λ (few : (¬ HasMajority n (In voted.votes) i b v) × (effect ≡ quiet voted)). of_effect p effect (quiet voted) few.1 (none_from p))
    (λ (enough : HasMajority n (In voted.votes) i b v × (effect ≡ quiet (learned voted i v))). of_effect p effect (quiet (learned voted i v)) enough.1 (none_from p))
    x.1)
    (λ (x : IsKnown s i × (effect ≡ quiet s)). of_effect p effect (quiet s) x.1 (none_from p))
    how
delivery_from n p s (Nack q i b c) effect how = of_effect p effect (quiet (record s { heard = _ })) how (none_from p)
delivery_from n p s (Ask q i) effect how =
    ⊎_elim
    (λ (x : (v : Value) × (s.known i ≡ Some v) × (effect ≡ says s (One q) (Chosen p i v))). of_effect p effect (says s (One q) (Chosen p i x.0)) x.2 (first_from p (One q, Chosen p i x.0) [] refl (none_from p)))
    (λ (x : IsUnknown s i × (effect ≡ quiet s)). of_effect p effect (quiet s) x.1 (none_from p))
    how
delivery_from n p s (Chosen q i v) effect how =
    ⊎_elim
    (λ (x : IsUnknown s i × (effect ≡ quiet (learned s i v))). of_effect p effect (quiet (learned s i v)) x.1 (none_from p))
    (λ (x : (s.known i ≡ Some v) × (effect ≡ quiet s)). of_effect p effect (quiet s) x.1 (none_from p))
    how

call_from : (n p : ℕ) (s : Node) (call : Call) (effect : Effect) → Does n p s call effect → AreFrom p effect.out
call_from n p s (submit v) effect how =
    ⊎_elim
    (λ (x : IsCommand v × IsHeld s v × (effect ≡ quiet s)). of_effect p effect (quiet s) x.2 (none_from p))
    (λ (x : IsCommand v × (¬ IsHeld s v) × (length s.pending < MAX_PENDING) × (effect ≡ quiet (queued s v))). of_effect p effect (quiet (queued s v)) x.3 (none_from p))
    how
call_from n p s tick effect how =
    ⊎_elim
    (λ (x : Ticks p s effect).
    of_effect p effect (record { entry = _; after = record s { attempts = _ }; out = (All, Prepare p x.instance _ 1) ∷ map (resent p) x.elsewhere }) x.is
    (first_from p (All, Prepare p x.instance _ 1) (map (resent p) x.elsewhere) refl (again_from p x.elsewhere)))
    (λ (x : AsksInstead p s effect). of_effect p effect (says s All (Ask p x.asks.instance)) x.asks.is (first_from p (All, Ask p x.asks.instance) [] refl (none_from p)))
    how
call_from n p s widen effect how =
    ⊎_elim
    (λ (x : Begins p s effect). of_effect p effect (record { entry = _; after = record s { attempts = _ }; out = (All, Prepare p x.instance _ _) ∷ [] }) x.is (first_from p (All, Prepare p x.instance _ _) [] refl (none_from p)))
    (λ (x : (¬ MayWiden s) × (effect ≡ quiet s)). of_effect p effect (quiet s) x.1 (none_from p))
    how
call_from n p s ask effect how = of_effect p effect (says s All (Ask p how.instance)) how.is (first_from p (All, Ask p how.instance) [] refl (none_from p))
call_from n p s (tell to i) effect how = of_effect p effect (tells p s to i) how (telling_from p s to i)
call_from n p s (deliver m) effect how = delivery_from n p (record s { reached = reached_by s.reached m }) m effect how
call_from n p s (keep i) effect how =
    ⊎_elim
    (λ (x : KeepsOne s i effect). of_effect p effect (record { entry = _; after = s; out = [] }) x.is (none_from p))
    (λ (x : (¬ MayKeep s i) × (effect ≡ quiet s)). of_effect p effect (quiet s) x.1 (none_from p))
    how

ends_from : (n p : ℕ) (s : Node) (call : Call) (ending : Ending) (out : List (To × Message)) (new : Node) → Ends n p s call ending out new → AreFrom p out
ends_from n p s call Whole out new ends = subst (AreFrom p) (sym ends.handed_out) (call_from n p s call ends.effect ends.does)
ends_from n p s call (Refused cause) out new ends = subst (AreFrom p) (sym ends.nothing) (none_from p)
ends_from n p s call Failed out new ends = subst (AreFrom p) (sym ends.nothing) (none_from p)

pub says_itself : SaysItself
says_itself n p s next [] out ends = subst (AreFrom p) (sym ends.0) (none_from p)
says_itself n p s next (call ∷ calls) out (ending, first, mid, then, ends, rest, joined) =
    subst (AreFrom p) (sym joined) (both_from p first then (ends_from n p s call ending first mid ends) (says_itself n p mid next calls then rest))
