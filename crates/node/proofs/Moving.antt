-- At a node that runs no call is stuck.
use Rattle.std.proofs.Common.{◌≡◌, ◌≢◌, ◌⊎◌, inl, inr, ⊎_elim, ℕ, zero, suc, ◌+◌, ◌<◌, ◌≤◌, max, Option, Some, None, Result, Ok, Err, List, [], ◌∷◌, ◌++◌, length, length-append, append_assoc, map, refl, sym, ap, subst, ◌∙◌, arith}
use Rattle.site_ids.specs.Ids.{BallotOf, Below, NotAbove, IsInstance}
use Rattle.site_ids.specs.Lists.{In}
use Rattle.site_ids.specs.Spans.{IsInSpan}
use Rattle.proposer.specs.declared.TheConstants.{MAX_ATTEMPTS}
use Rattle.site_ids.specs.Majorities.{Majority}
use Rattle.site_ids.specs.declared.value.Vote.{Vote}
use Rattle.site_ids.proofs.BallotLemmas.{one_of_three}
use Rattle.wire.specs.declared.message.Message.{Message}
use Rattle.wire.specs.declared.message.Message.TheVariants.{Prepare, Promise, Propose, Accepted, Nack, Ask, Chosen}
use Rattle.acceptor.specs.declared.slot.Slot.{Slot}
use Rattle.acceptor.specs.declared.judging.PrepareVerdict.{PrepareVerdict}
use Rattle.acceptor.specs.declared.judging.PrepareVerdict.TheVariants as to_prepare
use Rattle.acceptor.specs.declared.judging.ProposeVerdict.{ProposeVerdict}
use Rattle.acceptor.specs.declared.judging.ProposeVerdict.TheVariants as to_proposal
use Rattle.acceptor.specs.Judging.{IsFreeAt, IsVotedAt, IsVotedFor, JudgesPrepare, JudgesProposal}
use Rattle.durable.specs.Entries.{Entry, Round, Promised, PromisedSpan, Voted, Floor, Learned, Raises, IsPromise, IsSlot, last_vote, promise_of, floor_of}
use Rattle.command.specs.Action.{Order}
use Rattle.command.specs.Reading.{value_reading}
use Rattle.command.specs.declared.fault.CommandFault.{CommandFault}
use Rattle.learner.specs.ToldVotes.{told_vote, HasMajority}
use Rattle.proposer.specs.Attempts.{Answer, Attempt, senders, Counts, with_answer}
use Rattle.proposer.specs.Best.{IsBest, value_by}
use Rattle.proposer.proofs.BestLemmas.{best_chooses}
use Rattle.node.specs.declared.fault.NodeFault.TheVariants as fault
use Rattle.node.specs.Nodes.{Value, Node, IsKnown, IsFirstUnknown, AllKnown, IsMute, OnlyLearns}
use Rattle.node.specs.Tickets.{IsHeld}
use Rattle.node.specs.Effects.{quiet, says, learned}
use Rattle.node.specs.Deliveries.{Judged, AreJudged, span_out, reached_by, with_vote}
use Rattle.node.specs.Calls.{submit, tick, widen, ask, tell, deliver, fresh_ballot, HasRound, oldest, IsFree, IsNextFree, IsTried, AreUntried, IsNextSpan, MayWiden, queued, resent, keep, MayKeep}
use Rattle.node.specs.declared.to.To.TheVariants.{All}
use Rattle.node.specs.Beginning.{begun}
use Rattle.node.specs.Tellings.{tells}
use Rattle.node.specs.Tidy.{IsTidy}
use Rattle.node.specs.Stuck.{IsStuck, NeverStuck}
use Rattle.node.proofs.Gaps.{not_all_known, one_first}
use Rattle.node.proofs.Windows.{untried_stays}
use Rattle.node.proofs.SendingAgain.{open_past, all_in_window}
use Rattle.node.proofs.FreshAttempts.{ticks, begins}
use Rattle.node.proofs.Verdicts.{proposal_effect, judged_as, steps_so, changes_or_not, proposes}

-- against a contradiction anything holds or does not
cases : {P : Type 0} → ((P ⊎ (¬ P)) → ⊥) → ⊥
cases h = h (inr (λ p. h (inl p)))

given : (o : Option Value) → ((v : Value) × (o ≡ Some v)) ⊎ (o ≡ None)
given None = inr (λ _. None)
given (Some v) = inl (v, λ _. Some v)

below_or_not : (a b : BallotOf) → Below a b ⊎ NotAbove b a
below_or_not a b = grind arith

under : (a b c : BallotOf) → NotAbove a b → Below b c → NotAbove a c
under a b c = grind arith

itself : (a b : BallotOf) → a ≡ b → NotAbove a b
itself a b e = subst (NotAbove a) e (same a)
  where
    same : (a : BallotOf) → NotAbove a a
    same a = grind arith

-- ---- slots

-- the ballot that an entry promises at an instance, if any
abbrev RaisesOne : Entry → ℕ → Type 0
RaisesOne e i = ((b : BallotOf) × Raises e i b × ((c : BallotOf) → Raises e i c → b ≡ c)) ⊎ ((c : BallotOf) → ¬ Raises e i c)

equal : (j i : ℕ) → (j ≡ i) ⊎ (j ≢ i)
equal j i = grind arith

in_span : (j k i : ℕ) → IsInSpan j k i ⊎ (¬ IsInSpan j k i)
in_span j k i = grind arith

raised_at : (e : Entry) (j i : ℕ) (b : BallotOf) → ((c : BallotOf) → Raises e i c → (j ≡ i) × (b ≡ c)) → (j ≡ i → Raises e i b) → RaisesOne e i
raised_at e j i b only at = ⊎_elim (λ is. inl (b, at is, λ c r. (only c r).1)) (λ apart. inr (λ c r. apart (only c r).0)) (equal j i)

raised : (e : Entry) (i : ℕ) → RaisesOne e i
raised (Round r) i = inr (λ c k. k)
raised (Promised j b) i = raised_at (Promised j b) j i b (λ c r. r) (λ is. (is, refl))
raised (PromisedSpan j k b) i = ⊎_elim (λ within. inl (b, (within, refl), λ c r. r.1)) (λ outside. inr (λ c r. outside r.0)) (in_span j k i)
raised (Voted j b v) i = raised_at (Voted j b v) j i b (λ c r. r) (λ is. (is, refl))
raised (Floor f) i = inr (λ c k. k)
raised (Learned j v) i = inr (λ c k. k)

abbrev Promises : List Entry → ℕ → Type 0
Promises es i = (p : Option BallotOf) × IsPromise es i p

-- with one entry more in front
with_more : (e : Entry) (es : List Entry) (i : ℕ) → RaisesOne e i → (p : Option BallotOf) → IsPromise es i p → Promises (e ∷ es) i
with_more e es i one None none =
    ⊎_elim
    (λ (r : (b : BallotOf) × Raises e i b × ((c : BallotOf) → Raises e i c → b ≡ c)).
    (Some r.0, ((e, inl refl, r.1), λ d c k raises. ⊎_elim (λ (is : e ≡ d). itself c r.0 (sym (r.2 c (subst (λ (x : Entry). Raises x i c) (sym is) raises)))) (λ m. absurd (none d c m raises)) k)))
    (λ (never : (c : BallotOf) → ¬ Raises e i c). (None, λ d c k raises. ⊎_elim (λ (is : e ≡ d). never c (subst (λ (x : Entry). Raises x i c) (sym is) raises)) (λ m. none d c m raises) k))
    one
with_more e es i one (Some p) is =
    ⊎_elim
    (λ (r : (b : BallotOf) × Raises e i b × ((c : BallotOf) → Raises e i c → b ≡ c)).
    let mine : (d : Entry) (c : BallotOf) → e ≡ d → Raises d i c → r.0 ≡ c = λ d c same raises. r.2 c (subst (λ (x : Entry). Raises x i c) (sym same) raises) in
    ⊎_elim
    (λ (low : Below p r.0). (Some r.0, ((e, inl refl, r.1), λ d c k raises. ⊎_elim (λ same. itself c r.0 (sym (mine d c same raises))) (λ m. under c p r.0 (is.1 d c m raises) low) k)))
    (λ (high : NotAbove r.0 p).
    (Some p, ((is.0.0, inr is.0.1, is.0.2), λ d c k raises. ⊎_elim (λ same. subst (λ (x : BallotOf). NotAbove x p) (mine d c same raises) high) (λ m. is.1 d c m raises) k)))
    (below_or_not p r.0))
    (λ (never : (c : BallotOf) → ¬ Raises e i c).
    (Some p, ((is.0.0, inr is.0.1, is.0.2), λ d c k raises. ⊎_elim (λ (same : e ≡ d). absurd (never c (subst (λ (x : Entry). Raises x i c) (sym same) raises))) (λ m. is.1 d c m raises) k)))
    one

promised : (es : List Entry) (i : ℕ) → Promises es i
promised [] i = (None, λ e b k raises. k)
promised (e ∷ es) i = let rest = promised es i in with_more e es i (raised e i) rest.0 rest.1

slot : (es : List Entry) (i : ℕ) → (s : Slot) × IsSlot es i s
slot es i = let p = promised es i in (record { promised = p.0; vote = last_vote i es }, record { promise = p.1; vote = refl })

-- ---- verdicts

on_prepare : (s : Slot) (b : BallotOf) → ((verdict : PrepareVerdict) → ¬ JudgesPrepare s b verdict) → (p : Option BallotOf) → s.promised ≡ p → ⊥
on_prepare s b none None is = none to_prepare.Promise (rw is tt)
on_prepare s b none (Some c) is =
    ⊎_elim (λ (low : Below c b). none to_prepare.Promise (rw is low))
    (λ (more : (c ≡ b) ⊎ Below b c).
    ⊎_elim
    (λ (same : c ≡ b).
    let at : s.promised ≡ Some b = is ∙ ap Some same in
    cases (λ (voted : IsVotedAt s.vote b ⊎ (¬ IsVotedAt s.vote b)). ⊎_elim (λ yes. none to_prepare.Silent (at, yes)) (λ no. none to_prepare.Again (at, no)) voted))
    (λ (high : Below b c). none (to_prepare.Nack c) (is, high))
    more)
    (one_of_three c b).0

-- the judgement of some instances, and whether a slot changes
abbrev AnyChanges : List Judged → Type 0
AnyChanges xs = ((x : Judged) × In xs x × (x.after ≢ x.slot)) ⊎ ((x : Judged) → In xs x → x.after ≡ x.slot)

one_changes : (x : Judged) (xs : List Judged) → (x.after ≡ x.slot) ⊎ (x.after ≢ x.slot) → AnyChanges xs → AnyChanges (x ∷ xs)
one_changes x xs here rest = ⊎_elim
    (λ same. ⊎_elim (λ (r : (y : Judged) × In xs y × (y.after ≢ y.slot)). inl (r.0, inr r.1, r.2)) (λ none. inr (λ y k. ⊎_elim (λ e. subst (λ (z : Judged). z.after ≡ z.slot) e same) (λ m. none y m) k)) rest)
    (λ other. inl (x, inl refl, other))
    here

on_span : (es : List Entry) (b : BallotOf) (k i : ℕ) → ((xs : List Judged) → length xs ≡ k → AreJudged es b i xs → AnyChanges xs → ⊥) → ⊥
on_span es b zero i none = none [] refl tt (inr (λ x k. absurd k))
on_span es b (suc k) i none =
    let at = slot es i in
    on_prepare at.0 b (λ verdict judged. on_span es b k (suc i) (λ xs counted each any.
    none (judged_as b at.0 verdict ∷ xs) (ap suc counted) (at.1, steps_so at.0 b verdict judged, each) (one_changes (judged_as b at.0 verdict) xs (changes_or_not at.0 b verdict judged) any))) at.0.promised refl

free_proposal : (s : Slot) (b : BallotOf) (v : Value) → ((verdict : ProposeVerdict) → ¬ JudgesProposal s b v verdict) → IsFreeAt s.promised b → ⊥
free_proposal s b v none free =
    cases (λ (voted : IsVotedAt s.vote b ⊎ (¬ IsVotedAt s.vote b)).
    ⊎_elim
    (λ yes. cases (λ (same : IsVotedFor s.vote b v ⊎ (¬ IsVotedFor s.vote b v)). ⊎_elim (λ again. none to_proposal.Again (free, again)) (λ other. none to_proposal.Silent (free, yes, other)) same))
    (λ no. none to_proposal.Vote (free, no))
    voted)

on_proposal : (s : Slot) (b : BallotOf) (v : Value) → ((verdict : ProposeVerdict) → ¬ JudgesProposal s b v verdict) → (p : Option BallotOf) → s.promised ≡ p → ⊥
on_proposal s b v none None is = free_proposal s b v none (rw is tt)
on_proposal s b v none (Some c) is = ⊎_elim (λ (low : Below b c). none (to_proposal.Nack c) (is, low)) (λ (high : NotAbove c b). free_proposal s b v none (rw is high)) (below_or_not b c)

-- ---- the highest vote reported

best : (answers : List Answer) → (prior : Option Vote) × IsBest answers prior
best [] = (None, λ x k. absurd k)
best (x ∷ xs) = let rest = best xs in ahead x xs x.prior refl rest.0 rest.1
  where
    no_vote : (w : Vote) → ◌≡◌ {A = Option Vote} None (Some w) → ⊥
    no_vote w e = cc

    same_vote : (u w : Vote) → Some u ≡ Some w → u ≡ w
    same_vote u w e = cc

    not_above_itself : (a : BallotOf) → NotAbove a a
    not_above_itself a = grind arith

    ahead : (x : Answer) (xs : List Answer) (prior : Option Vote) → x.prior ≡ prior → (top : Option Vote) → IsBest xs top → (p : Option Vote) × IsBest (x ∷ xs) p
    ahead x xs None is None none = (None, λ y k. ⊎_elim (λ (e : x ≡ y). ap (λ (z : Answer). z.prior) (sym e) ∙ is) (λ m. none y m) k)
    ahead x xs None is (Some top) told = (
      Some top,
      (
        (told.0.0, inr told.0.1, told.0.2),
        λ y w k e. ⊎_elim (λ (f : x ≡ y). absurd (no_vote w (sym is ∙ ap (λ (z : Answer). z.prior) f ∙ e))) (λ m. told.1 y w m e) k,
      ),
    )
    ahead x xs (Some u) is None none = (
      Some u,
      (
        (x, inl refl, is),
        λ y w k e. ⊎_elim (λ (f : x ≡ y). let same = same_vote u w (sym is ∙ ap (λ (z : Answer). z.prior) f ∙ e) in subst (λ (z : Vote). NotAbove z.ballot u.ballot) same (not_above_itself u.ballot))
            (λ m. absurd (no_vote w (sym (none y m) ∙ e))) k,
      ),
    )
    ahead x xs (Some u) is (Some top) told =
        let mine : (y : Answer) (w : Vote) → x ≡ y → y.prior ≡ Some w → u ≡ w = λ y w f e. same_vote u w (sym is ∙ ap (λ (z : Answer). z.prior) f ∙ e) in
        ⊎_elim
        (λ (low : Below top.ballot u.ballot). (
          Some u,
          (
            (x, inl refl, is),
            λ y w k e. ⊎_elim (λ f. subst (λ (z : Vote). NotAbove z.ballot u.ballot) (mine y w f e) (not_above_itself u.ballot)) (λ m. under w.ballot top.ballot u.ballot (told.1 y w m e) low) k,
          ),
        ))
        (λ (high : NotAbove u.ballot top.ballot). (
          Some top,
          (
            (told.0.0, inr told.0.1, told.0.2),
            λ y w k e. ⊎_elim (λ f. subst (λ (z : Vote). NotAbove z.ballot top.ballot) (mine y w f e) high) (λ m. told.1 y w m e) k,
          ),
        ))
        (below_or_not top.ballot u.ballot)

-- ---- the first unknown instance

known_up_to : (s : Node) → ((i : ℕ) → ¬ IsFirstUnknown s.known i) → (k j : ℕ) → IsInstance j → j ≤ k → IsKnown s j
known_up_to s none zero j instance low = absurd (omega arith)
known_up_to s none (suc k) j instance low =
    let before : (j : ℕ) → IsInstance j → j ≤ k → IsKnown s j = known_up_to s none k in
    ⊎_elim (λ is. is) (λ (unknown : s.known j ≡ None). absurd (none j (record { instance = instance; unknown = unknown; before = λ i at less. before i at (omega arith) }))) (given (s.known j))

all_known : (s : Node) → ((i : ℕ) → ¬ IsFirstUnknown s.known i) → AllKnown s
all_known s none i instance = known_up_to s none i i instance (omega arith)

-- ---- calls

on_value : (n p : ℕ) (s : Node) (v : Value) → IsTidy s → IsStuck n p s (submit v) → (r : Result Order CommandFault) → value_reading v ≡ r → ⊥
on_value n p s v tidy stuck (Err why) is = stuck.no_cause (fault.NotACommand why) (λ e. cc) is
on_value n p s v tidy stuck (Ok order) is =
    cases (λ (held : IsHeld s v ⊎ (¬ IsHeld s v)).
    ⊎_elim (λ yes. stuck.no_effect (quiet s) (inl ((order, is), yes, refl)))
    (λ no. ⊎_elim (λ room. stuck.no_effect (quiet (queued s v)) (inr ((order, is), no, room, refl))) (λ full. stuck.no_cause fault.QueueFull (λ e. cc) ((order, is), no, full)) (room (length s.pending) tidy.few)) held)
  where
    room : (k : ℕ) → k ≤ 64 → (k < 64) ⊎ (k ≡ 64)
    room k few = grind arith

at_gap : (s : Node) → (AllKnown s → ⊥) → ((i : ℕ) → IsFirstUnknown s.known i → ⊥) → ⊥
at_gap s full gap = full (all_known s gap)

on_promise : (n p : ℕ) (s : Node) (q i : ℕ) (b : BallotOf) (prior : Option Vote) → IsStuck n p s (deliver (Promise q i b prior)) → ⊥
on_promise n p s q i b prior stuck =
    let t : Node = record s { reached = reached_by s.reached (Promise q i b prior) } in
    cases (λ (counts : ((a : Attempt) × (s.attempts i ≡ Some a) × Counts a q b) ⊎ (¬ ((a : Attempt) × (s.attempts i ≡ Some a) × Counts a q b))).
    ⊎_elim
    (λ (x : (a : Attempt) × (s.attempts i ≡ Some a) × Counts a q b).
    let answers = with_answer x.0 q prior in
    cases (λ (enough : Majority n (senders answers) ⊎ (¬ Majority n (senders answers))).
    ⊎_elim
    (λ yes. let top = best answers in stuck.no_effect _ (record { attempts = _; proposed = Some (value_by x.0.own top.0); step = (x.0, x.1, x.2, yes, best_chooses x.0.own answers top.0 top.1, refl); is = refl }))
    (λ no. stuck.no_effect _ (record { attempts = _; proposed = None; step = inr (x.0, x.1, x.2, no, refl); is = refl }))
    enough))
    (λ none. stuck.no_effect _ (record { attempts = s.attempts; proposed = None; step = inl (λ a at counts. none (a, at, counts), refl); is = refl }))
    counts)

on_accepted : (n p : ℕ) (s : Node) (q i : ℕ) (b : BallotOf) (v : Value) → IsStuck n p s (deliver (Accepted q i b v)) → ⊥
on_accepted n p s q i b v stuck =
    let t : Node = record s { reached = reached_by s.reached (Accepted q i b v) } in
    let u : Node = with_vote t (told_vote q i b v) in
    ⊎_elim (λ known. stuck.no_effect (quiet t) (inr (known, refl)))
    (λ unknown. cases (λ (enough : HasMajority n (In u.votes) i b v ⊎ (¬ HasMajority n (In u.votes) i b v)).
    ⊎_elim (λ yes. stuck.no_effect (quiet (learned u i v)) (inl (unknown, inr (yes, refl)))) (λ no. stuck.no_effect (quiet u) (inl (unknown, inl (no, refl)))) enough))
    (given (s.known i))

on_chosen : (n p : ℕ) (s : Node) (q i : ℕ) (v : Value) → IsStuck n p s (deliver (Chosen q i v)) → ⊥
on_chosen n p s q i v stuck =
    let t : Node = record s { reached = reached_by s.reached (Chosen q i v) } in
    ⊎_elim
    (λ (known : (u : Value) × (s.known i ≡ Some u)).
    cases (λ (same : (known.0 ≡ v) ⊎ (known.0 ≢ v)). ⊎_elim (λ is. stuck.no_effect (quiet t) (inr (known.1 ∙ ap Some is, refl))) (λ other. stuck.no_cause fault.Conflict (λ e. cc) (known.0, known.1, other)) same))
    (λ unknown. stuck.no_effect (quiet (learned t i v)) (inl (unknown, refl)))
    (given (s.known i))

mute_or_not : (i floor : ℕ) → (i ≤ floor) ⊎ (¬ (i ≤ floor))
mute_or_not i floor = grind arith

on_message : (n p : ℕ) (s : Node) (m : Message) → IsStuck n p s (deliver m) → ⊥
on_message n p s (Prepare q i b k) stuck =
    let t : Node = record s { reached = reached_by s.reached (Prepare q i b k) } in
    ⊎_elim
    (λ (mute : IsMute s i). stuck.no_effect (quiet t) (inl (mute, refl)))
    (λ (not_mute : ¬ IsMute s i).
    on_span s.entries b k i (λ xs counted each any. ⊎_elim
    (λ changed. stuck.no_effect (record { entry = Some (promise_of i k b); after = t; out = span_out p i b xs })
    (inr (not_mute, record { judged = xs; entry = Some (promise_of i k b); counted = counted; each = each; records = (changed, refl); is = refl })))
    (λ same. stuck.no_effect (record { entry = None; after = t; out = span_out p i b xs }) (inr (not_mute, record { judged = xs; entry = None; counted = counted; each = each; records = same; is = refl })))
    any))
    (mute_or_not i (floor_of s.entries))
on_message n p s (Propose q i b v) stuck =
    let at = slot s.entries i in
    let t : Node = record s { reached = reached_by s.reached (Propose q i b v) } in
    ⊎_elim
    (λ (mute : IsMute s i). stuck.no_effect (quiet t) (inl (mute, refl)))
    (λ (not_mute : ¬ IsMute s i). on_proposal at.0 b v (λ verdict judged. stuck.no_effect (proposal_effect p t i b v verdict) (inr (not_mute, proposes p t i b v at.0 verdict at.1 judged))) at.0.promised refl)
    (mute_or_not i (floor_of s.entries))
on_message n p s (Promise q i b prior) stuck = on_promise n p s q i b prior stuck
on_message n p s (Accepted q i b v) stuck = on_accepted n p s q i b v stuck
on_message n p s (Nack q i b c) stuck = stuck.no_effect (quiet (record s { heard = max s.heard c.round })) refl
on_message n p s (Ask q i) stuck = ⊎_elim (λ (known : (v : Value) × (s.known i ≡ Some v)). stuck.no_effect _ (inl (known.0, known.1, refl))) (λ unknown. stuck.no_effect _ (inr (unknown, refl))) (given (s.known i))
on_message n p s (Chosen q i v) stuck = on_chosen n p s q i v stuck

-- ---- a widening

free_or_not : (s : Node) (i : ℕ) → ((IsFree s i ⊎ (¬ IsFree s i)) → ⊥) → ⊥
free_or_not s i h = cases h

untried_of : (s : Node) (vs : List Value) → ((left : List Value) → AreUntried s vs left → ⊥) → ⊥
untried_of s [] none = none [] refl
untried_of s (v ∷ vs) none = untried_of s vs (λ left are. cases (λ (tried : IsTried s v ⊎ (¬ IsTried s v)). ⊎_elim (λ yes. none left (inl (yes, are))) (λ no. none (v ∷ left) (inr (no, (left, refl, are)))) tried))

-- as many instances as are free, for these values and as many of those left
run_on : (s : Node) (i : ℕ) (start : IsNextFree s i) (values left : List Value) → 1 ≤ length values → AreUntried s s.pending (values ++ left) → i + length values ≤ start.first + MAX_ATTEMPTS
    → ((j : ℕ) → IsInSpan i (length values) j → IsFree s j) → ((all : List Value) → IsNextSpan s i all → ⊥) → ⊥
run_on s i start values [] some oldest near free none = none values (record { start = start; some = some; left = []; oldest = oldest; near = near; free = free; ends = inl refl })
run_on s i start values (v ∷ left) some oldest near free none =
    ⊎_elim
    (λ full. none values (record { start = start; some = some; left = v ∷ left; oldest = oldest; near = near; free = free; ends = inr (inl full) }))
    (λ room. free_or_not s (i + length values) (λ next. ⊎_elim
    (λ yes. run_on s i start (values ++ v ∷ []) left (omega (arith, longer)) (subst (λ (l : List Value). AreUntried s s.pending l) (sym (append_assoc values (v ∷ []) left)) oldest) (omega (arith, longer, room))
    (λ j within. ⊎_elim (λ inside. free j inside) (λ (e : j ≡ i + length values). subst (IsFree s) (sym e) yes) (last_or_not j within)) none)
    (λ no. none values (record { start = start; some = some; left = v ∷ left; oldest = oldest; near = near; free = free; ends = inr (inr no) }))
    next))
    (full_or_not (i + length values) (start.first + MAX_ATTEMPTS) near)
  where
    longer : length (values ++ v ∷ []) ≡ length values + 1
    longer = length-append values (v ∷ [])

    full_or_not : (a b : ℕ) → a ≤ b → (a ≡ b) ⊎ (a < b)
    full_or_not a b h = grind (arith, h)

    last_or_not : (j : ℕ) → IsInSpan i (length (values ++ v ∷ [])) j → IsInSpan i (length values) j ⊎ (j ≡ i + length values)
    last_or_not j within = by j (length values) (within.0, (let high = within.1 in omega (arith, longer, high)))
      where
        by : (j k : ℕ) → (i ≤ j) × (j < i + (k + 1)) → IsInSpan i k j ⊎ (j ≡ i + k)
        by j k h = grind (arith, h.0, h.1)

next_span : (s : Node) → MayWiden s → ((i : ℕ) (values : List Value) → IsNextSpan s i values → ⊥) → ⊥
next_span s may none = untried_of s s.pending (λ left are. from left are (untried_stays s s.pending left may.1.0 are may.1.1.0 may.1.1.1))
  where
    from : (left : List Value) → AreUntried s s.pending left → In left may.1.0 → ⊥
    from [] are k = k
    from (v ∷ left) are k =
        let start = may.0.1 in
        let near = start.near in
        run_on s may.0.0 start (v ∷ []) left (omega arith) are (omega (arith, near)) (λ j within. subst (IsFree s) (only may.0.0 j within) start.free) (none may.0.0)
      where
        only : (i j : ℕ) → IsInSpan i 1 j → i ≡ j
        only i j within = omega (arith, within.0, within.1)

pub never_stuck : NeverStuck
never_stuck n p s (submit v) runs tidy stuck = on_value n p s v tidy stuck (value_reading v) refl
never_stuck n p s tick runs tidy stuck =
    at_gap s (λ full. stuck.no_cause fault.InstancesUsedUp (λ e. cc) full)
    (λ i first. ⊎_elim
    (λ (mute : IsMute s i). stuck.no_effect (says s All (Ask p i)) (inr (record { asks = record { instance = i; first = first; is = refl }; mute = mute })))
    (λ (not_mute : ¬ IsMute s i). cases (λ (round : HasRound s ⊎ (¬ HasRound s)). ⊎_elim
    (λ yes. stuck.no_effect (begun p s i (fresh_ballot p s) (oldest s.pending ∷ []) (map (resent p) (open_past s.attempts i 63)))
    (inl (ticks p s i (fresh_ballot p s) (oldest s.pending) (open_past s.attempts i 63) (all_in_window s i tidy first) first not_mute yes refl refl)))
    (λ no. stuck.no_cause fault.RoundsUsedUp (λ e. cc)
    (not_all_known s i first, (λ (x : OnlyLearns s). not_mute (subst (IsMute s) (one_first s.known i x.0 first x.1) x.2)), no))
    round))
    (mute_or_not i (floor_of s.entries)))
never_stuck n p s widen runs tidy stuck =
    cases (λ (may : MayWiden s ⊎ (¬ MayWiden s)).
    ⊎_elim
    (λ (at : MayWiden s). cases (λ (round : HasRound s ⊎ (¬ HasRound s)).
    ⊎_elim (λ yes. next_span s at (λ i values next. stuck.no_effect _ (inl (begins p s i (fresh_ballot p s) values next yes refl)))) (λ no. stuck.no_cause fault.RoundsUsedUp (λ e. cc) (at, no)) round))
    (λ none. stuck.no_effect (quiet s) (inr (none, refl)))
    may)
never_stuck n p s ask runs tidy stuck = at_gap s (λ full. stuck.no_cause fault.InstancesUsedUp (λ e. cc) full) (λ i first. stuck.no_effect _ (record { instance = i; first = first; is = refl }))
never_stuck n p s (tell to i) runs tidy stuck = stuck.no_effect (tells p s to i) refl
never_stuck n p s (deliver m) runs tidy stuck = on_message n p s m stuck
never_stuck n p s (keep i) runs tidy stuck =
    cases (λ (may : MayKeep s i ⊎ (¬ MayKeep s i)).
    ⊎_elim
    (λ (x : MayKeep s i). stuck.no_effect (record { entry = Some (Learned i x.0); after = s; out = [] }) (inl (record { value = x.0; unkept = x.1; is = refl })))
    (λ none. stuck.no_effect (quiet s) (inr (none, refl)))
    may)
