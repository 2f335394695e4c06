-- What a node hands out is in its ranges.
use Rattle.std.proofs.Common.{◌≡◌, ⊎_elim, inl, inr, ℕ, suc, ◌+◌, ◌<◌, ◌≤◌, max, Bool, true, false, cond, not, leb, Option, Some, None, Result, Ok, Err, List, [], ◌∷◌, ◌++◌, length, map, refl, sym, ap, subst, ◌∙◌, arith}
use Rattle.std.specs.Prelude.{filter, IfSome}
use Rattle.std.proofs.lemmas.Bool.Decides.{nat_tests}
use Rattle.std.proofs.lemmas.Bool.{cases_eq}
use Rattle.site_ids.specs.Ids.{BallotOf, IsNode, IsInstance, IsBallot}
use Rattle.site_ids.specs.Spans.{IsSpan}
use Rattle.site_ids.specs.Lists.{In, put_at}
use Rattle.site_ids.specs.Majorities.{Majority}
use Rattle.site_ids.specs.declared.value.Vote.{Vote}
use Rattle.site_ids.proofs.MapLemmas.{put_here, put_other}
use Rattle.site_ids.proofs.MemberLemmas.{in_push}
use Rattle.wire.specs.declared.message.Message.{Message}
use Rattle.wire.specs.declared.message.Message.TheVariants.{Prepare, Promise, Propose, Accepted, Nack, Ask, Chosen}
use Rattle.wire.specs.Messages.{IsMessage}
use Rattle.acceptor.specs.declared.slot.Slot.{Slot}
use Rattle.acceptor.specs.Steps.{Answer as Reply, promise, accepted, nack, no_answer, prepare, proposal, Steps}
use Rattle.durable.specs.Entries.{Entry, Round, Promised, PromisedSpan, Voted, Floor, Learned, Raises, IsPromise, IsSlot, last_vote}
use Rattle.durable.specs.Histories.{IsInRange, IsHistory}
use Rattle.learner.specs.ToldVotes.{told_vote, HasMajority}
use Rattle.std.specs.Option.{ok_or}
use Rattle.site_ids.specs.declared.TheConstants.{MAX_VALUE}
use Rattle.site_ids.specs.declared.Ticket.{Ticket}
use Rattle.command.specs.Rows.{Row}
use Rattle.command.specs.declared.fault.CommandFault.{CommandFault}
use Rattle.command.specs.declared.fault.CommandFault.TheVariants.{TooLong, Form}
use Rattle.command.specs.Action.{Order}
use Rattle.command.specs.Reading.{read_row, with_ticket, ticket_of, text_row}
use Rattle.proposer.specs.Attempts.{Answer, Attempt, opened, opened_span, latest, senders, Chooses, Counts, with_answer, waiting, proposing, TakesPromise}
use Rattle.node.specs.declared.to.To.{To}
use Rattle.node.specs.declared.to.To.TheVariants.{One, All}
use Rattle.node.specs.Nodes.{Value, Node, IsKnown, IsUnknown, IsMute}
use Rattle.node.specs.Tickets.{IsCommand, IsHeld, has_same_ticket}
use Rattle.node.specs.Effects.{Effect, quiet, says, learned}
use Rattle.node.specs.Deliveries.{Judged, AreJudged, prepare_out, span_out, propose_out, promise_out, with_vote, Counted, ByKind, OnPrepare, OnPropose}
use Rattle.node.specs.Calls.{Call, submit, tick, widen, ask, tell, deliver, queued, oldest, fresh_ballot, HasRound, resent, Ticks, AsksInstead, Begins, MayWiden, Does, keep, KeepsOne, MayKeep}
use Rattle.node.specs.Endings.{Whole, Refused, Failed}
use Rattle.node.specs.Tellings.{tells, remembered}
use Rattle.node.specs.Tidy.{IsTidy}
use Rattle.node.specs.Ranges.{IsAttemptInRange, HasRanges, IsCallInRange, OpensInRange, StaysInRange, SaysMessages}
use Rattle.node.proofs.OnRecord.{last_vote-in, entry_in_range}
use Rattle.node.proofs.ToldAgain.{IsToldOf, each_told, remembered_from}
use Rattle.node.proofs.Windows.{next_in, next_is_span}

same_some : {X : Type 0} (x y : X) → Some x ≡ Some y → x ≡ y
same_some x y e = cc

no_attempt : (a : Attempt) → ◌≡◌ {A = Option Attempt} None (Some a) → ⊥
no_attempt a e = cc

no_value : (v : Value) → ◌≡◌ {A = Option Value} None (Some v) → ⊥
no_value v e = cc

-- ---- values

is_short : (b : Bool) (t : Ticket) (row : Result Row CommandFault) (o : Order) → with_ticket t (read_row (cond b row (Err TooLong))) ≡ Ok o → b ≡ true
is_short true t row o e = refl
is_short false t row o e = absurd (clash o e)
  where
    clash : (o : Order) → ◌≡◌ {A = Result Order CommandFault} (Err TooLong) (Ok o) → ⊥
    clash o e = cc

low : (n : ℕ) → leb n MAX_VALUE ≡ true → n ≤ MAX_VALUE
low n is = grind (arith, nat_tests)

short : (v : Value) → IsCommand v → length v ≤ MAX_VALUE
short v command = low (length v) (is_short (leb (length v) MAX_VALUE) (ticket_of v) (ok_or (text_row v) Form) command.0 command.1)

kept_in : (f : Value → Bool) (xs : List Value) (x : Value) → In (filter f xs) x → In xs x
kept_in f [] x h = h
kept_in f (y ∷ xs) x h =
    let rest : In (filter f xs) x → In xs x = kept_in f xs x in
    elim (f y) as (λ b. In (cond b (y ∷ filter f xs) (filter f xs)) x → In (y ∷ xs) x) [
      | true ↦ λ h. ⊎_elim (λ e. inl e) (λ k. inr (rest k)) h
      | false ↦ λ h. inr (rest h)
    ] h

oldest_short : (vs : List Value) → ((v : Value) → In vs v → length v ≤ MAX_VALUE) → length (oldest vs) ≤ MAX_VALUE
oldest_short [] h = omega arith
oldest_short (v ∷ vs) h = h v (inl refl)

-- ---- ranges are kept

put_attempt : (n : ℕ) (attempts : ℕ → Option Attempt) (i : ℕ) (a : Attempt) → ((j : ℕ) (b : Attempt) → attempts j ≡ Some b → IsAttemptInRange n b) → IsAttemptInRange n a
    → (j : ℕ) (b : Attempt) → put_at attempts i (Some a) j ≡ Some b → IsAttemptInRange n b
put_attempt n attempts i a h is j b e =
    ⊎_elim (λ (at : j ≡ i). subst (IsAttemptInRange n) (same_some a b (sym (put_here attempts i (Some a) j at) ∙ e)) is)
    (λ apart. h j b (sym (put_other attempts i (Some a) j apart) ∙ e)) (cases_eq j i)

prior_short : (prior : Option Vote) (w : Vote) → IfSome prior (λ vote. length vote.value ≤ MAX_VALUE) → prior ≡ Some w → length w.value ≤ MAX_VALUE
prior_short None w h e = cc
prior_short (Some x) w h e = subst (λ (y : Vote). length y.value ≤ MAX_VALUE) (same_some x w e) h

with_one : (n : ℕ) (a : Attempt) (q : ℕ) (prior : Option Vote) → IsAttemptInRange n a → IfSome prior (λ vote. length vote.value ≤ MAX_VALUE)
    → (x : Answer) (w : Vote) → In (with_answer a q prior) x → x.prior ≡ Some w → length w.value ≤ MAX_VALUE
with_one n a q prior h fits x w k e =
    ⊎_elim (λ m. h.told x w m e) (λ (is : record { sender = q; prior = prior } ≡ x). prior_short prior w fits (ap (λ (y : Answer). y.prior) is ∙ e))
    (in_push a.answers (record { sender = q; prior = prior }) x k)

chosen_short : (own : Value) (answers : List Answer) (v : Value) → length own ≤ MAX_VALUE → ((x : Answer) (w : Vote) → In answers x → x.prior ≡ Some w → length w.value ≤ MAX_VALUE) → Chooses own answers v → length v ≤ MAX_VALUE
chosen_short own answers v fits told chooses =
    ⊎_elim
    (λ none. subst (λ (x : Value). length x ≤ MAX_VALUE) (sym none.1) fits)
    (λ (h : (x : Answer) × (c : BallotOf) × In answers x × (x.prior ≡ Some (record { ballot = c; value = v })) × _). told h.0 (record { ballot = h.1; value = v }) h.2 h.3)
    chooses

waiting_in_range : (n : ℕ) (a : Attempt) (q : ℕ) (prior : Option Vote) → IsAttemptInRange n a → IfSome prior (λ vote. length vote.value ≤ MAX_VALUE) → IsAttemptInRange n (waiting a q prior)
waiting_in_range n a q prior h fits = record { ballot = h.ballot; own = h.own; proposed = h.proposed; told = with_one n a q prior h fits }

proposing_in_range : (n : ℕ) (a : Attempt) (q : ℕ) (prior : Option Vote) (v : Value) → IsAttemptInRange n a → IfSome prior (λ vote. length vote.value ≤ MAX_VALUE) → Chooses a.own (with_answer a q prior) v
    → IsAttemptInRange n (proposing a q prior v)
proposing_in_range n a q prior v h fits chooses = record {
  ballot = h.ballot;
  own = h.own;
  proposed = λ u e. subst (λ (x : Value). length x ≤ MAX_VALUE) (same_some v u e) (chosen_short a.own (with_answer a q prior) v h.own (with_one n a q prior h fits) chooses);
  told = with_one n a q prior h fits;
}

taken_ranges : (n : ℕ) (attempts : ℕ → Option Attempt) (q i : ℕ) (b : BallotOf) (prior : Option Vote) (after : ℕ → Option Attempt) (proposed : Option Value) → TakesPromise n attempts q i b prior after proposed
    → IfSome prior (λ vote. length vote.value ≤ MAX_VALUE) → ((j : ℕ) (a : Attempt) → attempts j ≡ Some a → IsAttemptInRange n a) → (j : ℕ) (a : Attempt) → after j ≡ Some a → IsAttemptInRange n a
taken_ranges n attempts q i b prior after None step fits h =
    ⊎_elim
    (λ (x : ((a : Attempt) → attempts i ≡ Some a → ¬ Counts a q b) × (after ≡ attempts)). λ j a e. h j a (ap (λ (f : ℕ → Option Attempt). f j) (sym x.1) ∙ e))
    (λ (x : (a : Attempt) × (attempts i ≡ Some a) × Counts a q b × (¬ Majority n (senders (with_answer a q prior))) × (after ≡ put_at attempts i (Some (waiting a q prior)))).
    λ j a e. put_attempt n attempts i (waiting x.0 q prior) h (waiting_in_range n x.0 q prior (h i x.0 x.1) fits) j a (ap (λ (f : ℕ → Option Attempt). f j) (sym x.4) ∙ e))
    step
taken_ranges n attempts q i b prior after (Some v) step fits h = λ j a e.
    put_attempt n attempts i (proposing step.0 q prior v) h (proposing_in_range n step.0 q prior v (h i step.0 step.1) fits step.4) j a (ap (λ (f : ℕ → Option Attempt). f j) (sym step.5) ∙ e)

learned_ranges : (n : ℕ) (s : Node) (i : ℕ) (v : Value) → HasRanges n s → IsInstance i → length v ≤ MAX_VALUE → HasRanges n (learned s i v)
learned_ranges n s i v h instance fits = record {
  known = λ j u e. ⊎_elim (λ (at : j ≡ i). (subst IsInstance (sym at) instance, subst (λ (x : Value). length x ≤ MAX_VALUE) (same_some v u (sym (put_here s.known i (Some v) j at) ∙ e)) fits))
      (λ apart. h.known j u (sym (put_other s.known i (Some v) j apart) ∙ e)) (cases_eq j i);
  pending = λ u k. h.pending u (kept_in (λ u. not (has_same_ticket u v)) s.pending u k);
  attempts = λ j a e. ⊎_elim (λ (at : j ≡ i). absurd (no_attempt a (sym (put_here s.attempts i None j at) ∙ e)))
      (λ apart. h.attempts j a (sym (put_other s.attempts i None j apart) ∙ e)) (cases_eq j i);
}

same_ranges : (n : ℕ) (s t : Node) → HasRanges n s → t.known ≡ s.known → t.pending ≡ s.pending → t.attempts ≡ s.attempts → HasRanges n t
same_ranges n s t h known pending attempts = record {
  known = λ i v e. h.known i v (ap (λ (f : ℕ → Option Value). f i) (sym known) ∙ e);
  pending = λ v k. h.pending v (subst (λ (vs : List Value). In vs v) pending k);
  attempts = λ i a e. h.attempts i a (ap (λ (f : ℕ → Option Attempt). f i) (sym attempts) ∙ e);
}

by_effect : {n : ℕ} (effect e : Effect) → effect ≡ e → HasRanges n e.after → HasRanges n effect.after
by_effect {n = n} effect e is h = subst (λ (x : Effect). HasRanges n x.after) (sym is) h

delivery_ranges : (n p : ℕ) (s : Node) (m : Message) (effect : Effect) → HasRanges n s → IsMessage n m → ByKind n p s m effect → HasRanges n effect.after
delivery_ranges n p s (Prepare q i b k) effect h m how =
    ⊎_elim
    (λ (x : IsMute s i × (effect ≡ quiet s)). by_effect effect (quiet s) x.1 h)
    (λ (x : (¬ IsMute s i) × OnPrepare p s i b k effect). by_effect effect (record { entry = x.1.entry; after = s; out = _ }) x.1.is h)
    how
delivery_ranges n p s (Propose q i b v) effect h m how =
    ⊎_elim
    (λ (x : IsMute s i × (effect ≡ quiet s)). by_effect effect (quiet s) x.1 h)
    (λ (x : (¬ IsMute s i) × OnPropose p s i b v effect). by_effect effect (record { entry = x.1.entry; after = s; out = _ }) x.1.is h)
    how
delivery_ranges n p s (Promise q i b prior) effect h m how =
    by_effect effect (record { entry = None; after = record s { attempts = how.attempts }; out = _ }) how.is
    (record { known = h.known; pending = h.pending; attempts = taken_ranges n s.attempts q i b prior how.attempts how.proposed how.step m.fits h.attempts })
delivery_ranges n p s (Accepted q i b v) effect h m how =
    let told : HasRanges n (with_vote s (told_vote q i b v)) = same_ranges n s (with_vote s (told_vote q i b v)) h refl refl refl in
    ⊎_elim
    (λ (x : IsUnknown s i × Counted n (with_vote s (told_vote q i b v)) i b v effect).
    ⊎_elim
    (λ (few : (¬ HasMajority n (In (with_vote s (told_vote q i b v)).votes) i b v) × (effect ≡ quiet (with_vote s (told_vote q i b v)))). by_effect effect (quiet (with_vote s (told_vote q i b v))) few.1 told)
    (λ (enough : HasMajority n (In (with_vote s (told_vote q i b v)).votes) i b v × (effect ≡ quiet (learned (with_vote s (told_vote q i b v)) i v))).
    by_effect effect (quiet (learned (with_vote s (told_vote q i b v)) i v)) enough.1 (learned_ranges n (with_vote s (told_vote q i b v)) i v told m.instance m.fits))
    x.1)
    (λ (x : IsKnown s i × (effect ≡ quiet s)). by_effect effect (quiet s) x.1 h)
    how
delivery_ranges n p s (Nack q i b c) effect h m how = by_effect effect (quiet (record s { heard = max s.heard c.round })) how (same_ranges n s (record s { heard = max s.heard c.round }) h refl refl refl)
delivery_ranges n p s (Ask q i) effect h m how =
    ⊎_elim
    (λ (x : (v : Value) × (s.known i ≡ Some v) × (effect ≡ says s (One q) (Chosen p i v))). by_effect effect (says s (One q) (Chosen p i x.0)) x.2 h)
    (λ (x : IsUnknown s i × (effect ≡ quiet s)). by_effect effect (quiet s) x.1 h)
    how
delivery_ranges n p s (Chosen q i v) effect h m how =
    ⊎_elim
    (λ (x : IsUnknown s i × (effect ≡ quiet (learned s i v))). by_effect effect (quiet (learned s i v)) x.1 (learned_ranges n s i v h m.instance m.fits))
    (λ (x : (s.known i ≡ Some v) × (effect ≡ quiet s)). by_effect effect (quiet s) x.1 h)
    how

-- fresh attempts of values within the limit
begun_attempts : (n p : ℕ) (s : Node) (values : List Value) (i : ℕ) (attempts : ℕ → Option Attempt) → IsNode n p → HasRound s → ((v : Value) → In values v → length v ≤ MAX_VALUE)
    → ((j : ℕ) (a : Attempt) → attempts j ≡ Some a → IsAttemptInRange n a) → (j : ℕ) (a : Attempt) → opened_span attempts i (fresh_ballot p s) values j ≡ Some a → IsAttemptInRange n a
begun_attempts n p s [] i attempts node round fits h = h
begun_attempts n p s (v ∷ vs) i attempts node round fits h =
    begun_attempts n p s vs _ (put_at attempts i (Some (opened (fresh_ballot p s) v))) node round (λ u k. fits u (inr k))
    (put_attempt n attempts i (opened (fresh_ballot p s) v) h (record { ballot = (omega arith, round, node); own = fits v (inl refl); proposed = λ u e. absurd (no_value u e); told = λ x w k e. absurd k }))

begun_ranges : (n p : ℕ) (s : Node) (i : ℕ) (values : List Value) → IsNode n p → HasRanges n s → HasRound s → ((v : Value) → In values v → length v ≤ MAX_VALUE)
    → HasRanges n (record s { attempts = opened_span s.attempts i (fresh_ballot p s) values })
begun_ranges n p s i values node h round fits = record { known = h.known; pending = h.pending; attempts = begun_attempts n p s values i s.attempts node round fits h.attempts }

call_ranges : (n p : ℕ) (s : Node) (call : Call) (effect : Effect) → IsNode n p → HasRanges n s → IsCallInRange n call → Does n p s call effect → HasRanges n effect.after
call_ranges n p s (submit v) effect node h m how =
    ⊎_elim
    (λ (x : IsCommand v × IsHeld s v × (effect ≡ quiet s)). by_effect effect (quiet s) x.2 h)
    (λ (x : IsCommand v × (¬ IsHeld s v) × (length s.pending < 64) × (effect ≡ quiet (queued s v))). by_effect effect (quiet (queued s v)) x.3 (record {
      known = h.known;
      pending = λ u k. ⊎_elim (λ m. h.pending u m) (λ (e : v ≡ u). subst (λ (x : Value). length x ≤ MAX_VALUE) e (short v x.0)) (in_push s.pending v u k);
      attempts = h.attempts;
    }))
    how
call_ranges n p s tick effect node h m how =
    ⊎_elim
    (λ (x : Ticks p s effect).
    by_effect effect (record { entry = _; after = record s { attempts = put_at s.attempts x.instance (Some (opened (fresh_ballot p s) (oldest s.pending))) }; out = _ }) x.is
    (begun_ranges n p s x.instance (oldest s.pending ∷ []) node h x.round
    (λ v k. ⊎_elim (λ (e : oldest s.pending ≡ v). subst (λ (y : Value). length y ≤ MAX_VALUE) e (oldest_short s.pending h.pending)) (λ none. absurd none) k)))
    (λ (x : AsksInstead p s effect). by_effect effect (says s _ _) x.asks.is h)
    how
call_ranges n p s widen effect node h m how =
    ⊎_elim
    (λ (x : Begins p s effect).
    by_effect effect (record { entry = _; after = record s { attempts = opened_span s.attempts x.instance (fresh_ballot p s) x.values }; out = _ }) x.is
    (begun_ranges n p s x.instance x.values node h x.round (λ v k. h.pending v (next_in s x.instance x.values x.span v k))))
    (λ (x : (¬ MayWiden s) × (effect ≡ quiet s)). by_effect effect (quiet s) x.1 h)
    how
call_ranges n p s ask effect node h m how = by_effect effect (says s _ _) how.is h
call_ranges n p s (tell to i) effect node h m how = by_effect effect (tells p s to i) how h
call_ranges n p s (deliver m) effect node h is how = delivery_ranges n p (record s { reached = _ }) m effect (same_ranges n s (record s { reached = _ }) h refl refl refl) is how
call_ranges n p s (keep i) effect node h m how =
    ⊎_elim
    (λ (x : KeepsOne s i effect). by_effect effect (record { entry = _; after = s; out = [] }) x.is h)
    (λ (x : (¬ MayKeep s i) × (effect ≡ quiet s)). by_effect effect (quiet s) x.1 h)
    how

pub opens_in_range : OpensInRange
opens_in_range n mode entries in_flight = record { known = λ i v e. absurd (no_value v e); pending = λ v k. absurd k; attempts = λ i a e. absurd (no_attempt a e) }

pub stays_in_range : StaysInRange
stays_in_range n p s new call Whole out node h m how = let after = call_ranges n p s call how.effect node h m how.does in subst (HasRanges n) (sym how.node) (record { known = after.known; pending = after.pending; attempts = after.attempts })
stays_in_range n p s new call (Refused cause) out node h m how = subst (HasRanges n) (sym how.node) h
stays_in_range n p s new call Failed out node h m how = subst (HasRanges n) (sym how.node) (record { known = h.known; pending = h.pending; attempts = h.attempts })

-- ---- what is on record is in its ranges

raised_in_range : (n : ℕ) (e : Entry) (i : ℕ) (b : BallotOf) → IsInRange n e → Raises e i b → IsBallot n b
raised_in_range n (Round r) i b range raises = absurd raises
raised_in_range n (Promised j c) i b range raises = subst (IsBallot n) raises.1 range.1
raised_in_range n (PromisedSpan j k c) i b range raises = subst (IsBallot n) raises.1 range.2
raised_in_range n (Voted j c v) i b range raises = subst (IsBallot n) raises.1 range.1
raised_in_range n (Floor f) i b range raises = absurd raises
raised_in_range n (Learned j v) i b range raises = absurd raises

promise_in_range : (n : ℕ) (es : List Entry) (i : ℕ) (slot : Slot) (c : BallotOf) → IsHistory n es → IsSlot es i slot → slot.promised ≡ Some c → IsBallot n c
promise_in_range n es i slot c history is e =
    let raised = subst (λ (p : Option BallotOf). IsPromise es i p) e is.promise in
    raised_in_range n raised.0.0 i c (entry_in_range n es raised.0.0 history raised.0.1) raised.0.2

vote_in_range : (n : ℕ) (es : List Entry) (i : ℕ) (slot : Slot) (w : Vote) → IsHistory n es → IsSlot es i slot → slot.vote ≡ Some w → IsBallot n w.ballot × (length w.value ≤ MAX_VALUE)
vote_in_range n es i slot w history is e = let range = entry_in_range n es (Voted i w.ballot w.value) history (last_vote-in i es w (sym is.vote ∙ e)) in (range.1, range.2)

-- ---- messages

if_some : (o : Option Vote) (P : Vote → Type 0) → ((w : Vote) → o ≡ Some w → P w) → IfSome o P
if_some None P h = tt
if_some (Some w) P h = h w (λ _. Some w)

abbrev Says : ℕ → List (To × Message) → Type 0
Says n out = (x : To × Message) → In out x → IsMessage n x.1

one_message : (n : ℕ) (to : To) (m : Message) → IsMessage n m → Says n ((to, m) ∷ [])
one_message n to m is x k = ⊎_elim (λ (e : (to, m) ≡ x). subst (λ (y : To × Message). IsMessage n y.1) e is) (λ none. absurd none) k

no_message : (n : ℕ) → Says n []
no_message n x k = absurd k

prepare_says : (n p i : ℕ) (b : BallotOf) (es : List Entry) (slot after : Slot) (reply : Reply) → IsNode n p → IsInstance i → IsBallot n b → IsHistory n es → IsSlot es i slot → Steps slot (prepare b) after reply → Says n (prepare_out p i b reply)
prepare_says n p i b es slot after (promise prior) node instance ballot history is step =
    let ranges = λ (w : Vote) (e : prior ≡ Some w). vote_in_range n es i slot w history is (sym step.0 ∙ e) in
    one_message n (One b.node) (Promise p i b prior) (record {
      sender = node;
      instance = instance;
      ballots = (ballot, if_some prior (λ vote. IsBallot n vote.ballot) (λ w e. (ranges w e).0));
      fits = if_some prior (λ vote. length vote.value ≤ MAX_VALUE) (λ w e. (ranges w e).1);
    })
prepare_says n p i b es slot after (nack c) node instance ballot history is step =
    one_message n (One b.node) (Nack p i b c) (record { sender = node; instance = instance; ballots = (ballot, promise_in_range n es i slot c history is step.0.0); fits = tt })
prepare_says n p i b es slot after accepted node instance ballot history is step = no_message n
prepare_says n p i b es slot after no_answer node instance ballot history is step = no_message n

propose_says : (n p i : ℕ) (b : BallotOf) (v : Value) (es : List Entry) (slot after : Slot) (reply : Reply) → IsNode n p → IsInstance i → IsBallot n b → length v ≤ MAX_VALUE → IsHistory n es → IsSlot es i slot
    → Steps slot (proposal b v) after reply → Says n (propose_out p i b v reply)
propose_says n p i b v es slot after accepted node instance ballot fits history is step = one_message n All (Accepted p i b v) (record { sender = node; instance = instance; ballots = ballot; fits = fits })
propose_says n p i b v es slot after (nack c) node instance ballot fits history is step =
    one_message n (One b.node) (Nack p i b c) (record { sender = node; instance = instance; ballots = (ballot, promise_in_range n es i slot c history is step.0.0); fits = tt })
propose_says n p i b v es slot after (promise prior) node instance ballot fits history is step = no_message n
propose_says n p i b v es slot after no_answer node instance ballot fits history is step = no_message n

says_both : (n : ℕ) (xs ys : List (To × Message)) → Says n xs → Says n ys → Says n (xs ++ ys)
says_both n [] ys a b x k = b x k
says_both n (z ∷ xs) ys a b x k = ⊎_elim (λ e. a x (inl e)) (λ later. says_both n xs ys (λ y m. a y (inr m)) b x later) k

span_says : (n p i : ℕ) (b : BallotOf) (es : List Entry) (xs : List Judged) → IsNode n p → 1 ≤ i → i + length xs ≤ 1000001 → IsBallot n b → IsHistory n es → AreJudged es b i xs → Says n (span_out p i b xs)
span_says n p i b es [] node low high ballot history each = no_message n
span_says n p i b es (x ∷ xs) node low high ballot history each =
    says_both n (prepare_out p i b x.answer) (span_out p (suc i) b xs)
    (prepare_says n p i b es x.slot x.after x.answer node (low, omega (arith, high)) ballot history each.0 each.1)
    (span_says n p (suc i) b es xs node (omega arith) (omega (arith, high)) ballot history each.2)

by_out : (n : ℕ) (effect e : Effect) → effect ≡ e → Says n e.out → Says n effect.out
by_out n effect e is h = subst (λ (x : Effect). Says n x.out) (sym is) h

promise_says : (n p : ℕ) (s : Node) (q i : ℕ) (b : BallotOf) (prior : Option Vote) (after : ℕ → Option Attempt) (proposed : Option Value) → IsNode n p → IsInstance i → IsBallot n b
    → IfSome prior (λ vote. length vote.value ≤ MAX_VALUE) → HasRanges n s → TakesPromise n s.attempts q i b prior after proposed → Says n (promise_out p i b proposed)
promise_says n p s q i b prior after None node instance ballot fits h step = no_message n
promise_says n p s q i b prior after (Some v) node instance ballot fits h step =
    let a = h.attempts i step.0 step.1 in
    one_message n All (Propose p i b v) (record { sender = node; instance = instance; ballots = ballot; fits = chosen_short step.0.own (with_answer step.0 q prior) v a.own (with_one n step.0 q prior a fits) step.4 })

delivery_says : (n p : ℕ) (s : Node) (m : Message) (effect : Effect) → IsNode n p → IsHistory n s.entries → HasRanges n s → IsMessage n m → ByKind n p s m effect → Says n effect.out
delivery_says n p s (Prepare q i b k) effect node history h m how =
    ⊎_elim
    (λ (x : IsMute s i × (effect ≡ quiet s)). by_out n effect (quiet s) x.1 (no_message n))
    (λ (x : (¬ IsMute s i) × OnPrepare p s i b k effect).
    by_out n effect (record { entry = x.1.entry; after = s; out = span_out p i b x.1.judged }) x.1.is
    (span_says n p i b s.entries x.1.judged node m.instance.0 (let counted = x.1.counted in omega (arith, counted, m.fits.3)) m.ballots history x.1.each))
    how
delivery_says n p s (Propose q i b v) effect node history h m how =
    ⊎_elim
    (λ (x : IsMute s i × (effect ≡ quiet s)). by_out n effect (quiet s) x.1 (no_message n))
    (λ (x : (¬ IsMute s i) × OnPropose p s i b v effect).
    by_out n effect (record { entry = x.1.entry; after = s; out = propose_out p i b v x.1.answer }) x.1.is
    (propose_says n p i b v s.entries x.1.slot x.1.after x.1.answer node m.instance m.ballots m.fits history x.1.on_record x.1.step))
    how
delivery_says n p s (Promise q i b prior) effect node history h m how =
    by_out n effect (record { entry = None; after = record s { attempts = how.attempts }; out = promise_out p i b how.proposed }) how.is
    (promise_says n p s q i b prior how.attempts how.proposed node m.instance m.ballots.0 m.fits h how.step)
delivery_says n p s (Accepted q i b v) effect node history h m how =
    ⊎_elim
    (λ (x : IsUnknown s i × Counted n (with_vote s (told_vote q i b v)) i b v effect).
    ⊎_elim
    (λ (few : (¬ HasMajority n (In (with_vote s (told_vote q i b v)).votes) i b v) × (effect ≡ quiet (with_vote s (told_vote q i b v)))). by_out n effect (quiet (with_vote s (told_vote q i b v))) few.1 (no_message n))
    (λ (enough : HasMajority n (In (with_vote s (told_vote q i b v)).votes) i b v × (effect ≡ quiet (learned (with_vote s (told_vote q i b v)) i v))).
    by_out n effect (quiet (learned (with_vote s (told_vote q i b v)) i v)) enough.1 (no_message n))
    x.1)
    (λ (x : IsKnown s i × (effect ≡ quiet s)). by_out n effect (quiet s) x.1 (no_message n))
    how
delivery_says n p s (Nack q i b c) effect node history h m how = by_out n effect (quiet (record s { heard = max s.heard c.round })) how (no_message n)
delivery_says n p s (Ask q i) effect node history h m how =
    ⊎_elim
    (λ (x : (v : Value) × (s.known i ≡ Some v) × (effect ≡ says s (One q) (Chosen p i v))).
    by_out n effect (says s (One q) (Chosen p i x.0)) x.2 (one_message n (One q) (Chosen p i x.0) (record { sender = node; instance = m.instance; ballots = tt; fits = (h.known i x.0 x.1).1 })))
    (λ (x : IsUnknown s i × (effect ≡ quiet s)). by_out n effect (quiet s) x.1 (no_message n))
    how
delivery_says n p s (Chosen q i v) effect node history h m how =
    ⊎_elim
    (λ (x : IsUnknown s i × (effect ≡ quiet (learned s i v))). by_out n effect (quiet (learned s i v)) x.1 (no_message n))
    (λ (x : (s.known i ≡ Some v) × (effect ≡ quiet s)). by_out n effect (quiet s) x.1 (no_message n))
    how

span_of_one : (i : ℕ) → IsInstance i → IsSpan i 1
span_of_one i at = (omega arith, omega arith, at.0, omega (arith, at.1))

-- the latest message of an attempt in range
latest_says : (n p i : ℕ) (a : Attempt) → IsNode n p → IsInstance i → IsAttemptInRange n a → (made : Option Value) → a.proposal ≡ made → IsMessage n (latest p i a.ballot made)
latest_says n p i a node instance range None is = record { sender = node; instance = instance; ballots = range.ballot; fits = span_of_one i instance }
latest_says n p i a node instance range (Some v) is = record { sender = node; instance = instance; ballots = range.ballot; fits = range.proposed v is }

again_says : (n p : ℕ) (xs : List (ℕ × Attempt)) → IsNode n p → ((x : ℕ × Attempt) → In xs x → IsInstance x.0 × IsAttemptInRange n x.1) → Says n (map (resent p) xs)
again_says n p [] node each x k = absurd k
again_says n p (y ∷ ys) node each x k =
    let here = each y (inl refl) in
    ⊎_elim
    (λ (e : resent p y ≡ x). subst (λ (z : To × Message). IsMessage n z.1) e (latest_says n p y.0 y.1 node here.0 here.1 y.1.proposal refl))
    (λ later. again_says n p ys node (λ z m. each z (inr m)) x later) k

fresh_says : (n p : ℕ) (s : Node) (i k : ℕ) → IsNode n p → IsInstance i → IsSpan i k → HasRound s → IsMessage n (Prepare p i (fresh_ballot p s) k)
fresh_says n p s i k node instance span round = record { sender = node; instance = instance; ballots = (omega arith, round, node); fits = span }

-- a known value is in its range, and so is a vote on record
told_says : (n p : ℕ) (s : Node) (i : ℕ) (m : Message) → IsNode n p → IsHistory n s.entries → HasRanges n s → IsToldOf p s m i → IsMessage n m
told_says n p s i m node history h told =
    ⊎_elim
    (λ (x : (v : Value) × (remembered s i ≡ Some v) × (m ≡ Chosen p i v)).
    let range : IsInstance i × (length x.0 ≤ MAX_VALUE) = ⊎_elim (λ k. h.known i x.0 k) (λ k. entry_in_range n s.entries (Learned i x.0) history k) (remembered_from s i x.0 x.1) in
    subst (IsMessage n) (sym x.2) (record { sender = node; instance = range.0; ballots = tt; fits = range.1 }))
    (λ (x : (w : Vote) × In s.entries (Voted i w.ballot w.value) × (last_vote i s.entries ≡ Some w) × (remembered s i ≡ None) × (m ≡ Accepted p i w.ballot w.value)).
    let range = entry_in_range n s.entries (Voted i x.0.ballot x.0.value) history x.1 in
    subst (IsMessage n) (sym x.4) (record { sender = node; instance = range.0; ballots = range.1; fits = range.2 }))
    told.is

call_says : (n p : ℕ) (s : Node) (call : Call) (effect : Effect) → IsNode n p → IsHistory n s.entries → IsTidy s → HasRanges n s → IsCallInRange n call → Does n p s call effect → Says n effect.out
call_says n p s (submit v) effect node history tidy h m how =
    ⊎_elim
    (λ (x : IsCommand v × IsHeld s v × (effect ≡ quiet s)). by_out n effect (quiet s) x.2 (no_message n))
    (λ (x : IsCommand v × (¬ IsHeld s v) × (length s.pending < 64) × (effect ≡ quiet (queued s v))). by_out n effect (quiet (queued s v)) x.3 (no_message n))
    how
call_says n p s tick effect node history tidy h m how =
    ⊎_elim
    (λ (t : Ticks p s effect).
    let i = t.instance in
    let b = fresh_ballot p s in
    let again = again_says n p t.elsewhere node (λ x k. let at = (t.open_elsewhere.each x k).1 in ((tidy.attempted x.0 x.1 at).instance, h.attempts x.0 x.1 at)) in
    by_out n effect (record { entry = _; after = record s { attempts = _ }; out = (All, Prepare p i b 1) ∷ map (resent p) t.elsewhere }) t.is
    (λ x k. ⊎_elim (λ (e : (All, Prepare p i b 1) ≡ x). subst (λ (y : To × Message). IsMessage n y.1) e (fresh_says n p s i 1 node t.first.instance (span_of_one i t.first.instance) t.round)) (λ later. again x later) k))
    (λ (t : AsksInstead p s effect).
    by_out n effect (says s All (Ask p t.asks.instance)) t.asks.is (one_message n All (Ask p t.asks.instance) (record { sender = node; instance = t.asks.first.instance; ballots = tt; fits = tt })))
    how
call_says n p s widen effect node history tidy h m how =
    ⊎_elim
    (λ (x : Begins p s effect).
    by_out n effect (record { entry = _; after = record s { attempts = _ }; out = (All, Prepare p x.instance (fresh_ballot p s) (length x.values)) ∷ [] }) x.is
    (one_message n All (Prepare p x.instance (fresh_ballot p s) (length x.values)) (fresh_says n p s x.instance (length x.values) node x.span.start.free.instance (next_is_span s x.instance x.values x.span) x.round)))
    (λ (x : (¬ MayWiden s) × (effect ≡ quiet s)). by_out n effect (quiet s) x.1 (no_message n))
    how
call_says n p s ask effect node history tidy h m how =
    by_out n effect (says s All (Ask p how.instance)) how.is (one_message n All (Ask p how.instance) (record { sender = node; instance = how.first.instance; ballots = tt; fits = tt }))
call_says n p s (tell to i) effect node history tidy h m how = by_out n effect (tells p s to i) how (λ x k. let told = each_told p s to i x k in told_says n p s told.0 x.1 node history h told.2)
call_says n p s (deliver m) effect node history tidy h is how = delivery_says n p (record s { reached = _ }) m effect node history (same_ranges n s (record s { reached = _ }) h refl refl refl) is how
call_says n p s (keep i) effect node history tidy h m how =
    ⊎_elim
    (λ (x : KeepsOne s i effect). by_out n effect (record { entry = _; after = s; out = [] }) x.is (no_message n))
    (λ (x : (¬ MayKeep s i) × (effect ≡ quiet s)). by_out n effect (quiet s) x.1 (no_message n))
    how

pub says_messages : SaysMessages
says_messages n p s new call Whole out node history tidy h m how x k =
    call_says n p s call how.effect node history tidy h m how.does x (subst (λ (l : List (To × Message)). In l x) how.handed_out k)
says_messages n p s new call (Refused cause) out node history tidy h m how x k = absurd (no_message' x (subst (λ (l : List (To × Message)). In l x) how.nothing k))
  where
    no_message' : (x : To × Message) → In [] x → ⊥
    no_message' x k = k
says_messages n p s new call Failed out node history tidy h m how x k = absurd (no_message' x (subst (λ (l : List (To × Message)). In l x) how.nothing k))
  where
    no_message' : (x : To × Message) → In [] x → ⊥
    no_message' x k = k
