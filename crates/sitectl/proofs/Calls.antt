-- Turns, last calls and submissions as lists of calls.
use Rattle.std.proofs.Common.{◌≡◌, ◌≢◌, ◌⊎◌, inl, inr, ⊎_elim, ℕ, zero, suc, ◌+◌, ◌<◌, Some, None, List, [], ◌∷◌, ◌++◌, Ok, Err, refl, sym, ap, subst, ◌∙◌, append-nil, append_assoc}
use Rattle.site_ids.specs.Ids.{IsInstance}
use Rattle.site_ids.proofs.MemberLemmas.{in_left, in_right, in_split}
use Rattle.wire.specs.declared.message.Message.{Message}
use Rattle.wire.specs.Decoding.{Spells}
use Rattle.command.specs.Written.{value_of}
use Rattle.http_serve.specs.Services.{Outcome}
use Rattle.http_serve.specs.declared.submission.Submission.TheVariants.{Queued, Already}
use Rattle.http_serve.specs.declared.submission.SubmitFault.TheVariants as submit_fault
use Rattle.node.specs.declared.fault.NodeFault.{NodeFault}
use Rattle.node.specs.declared.fault.NodeFault.TheVariants as fault
use Rattle.node.specs.declared.to.To.{To}
use Rattle.node.specs.declared.to.To.TheVariants.{One}
use Rattle.node.specs.Nodes.{Node, Value}
use Rattle.node.specs.Calls.{Call, submit, tick, widen, ask, tell, deliver, keep}
use Rattle.node.specs.Endings.{Ending, Whole, Refused, Ends}
use Rattle.node.specs.Standing.{ending_by}
use Rattle.site_drive.specs.declared.last_call.LastCall.{LastCall}
use Rattle.site_drive.specs.declared.last_call.LastCall.TheVariants.{TickOrAsk, Widen, Ask, Tell, Keep, Nothing}
use Rattle.site_drive.specs.Drives.{Heard, Takes, TakesAll, datagrams, Begin, Widens, TicksAndWidens, KeepAll, KeepsEach, EndsLast, EndsTurns, BreaksOff}
use Rattle.server_clients.specs.Served.{ComesTo}
use Rattle.server.specs.Passes.{MayTake, MayTakeMany}
use Rattle.world.specs.Batches.{AllEnd}
use Rattle.sitectl.specs.Passes.{AreCalls}

-- ---- one after another

all_end_on : (n p : ℕ) (s mid next : Node) (calls more : List Call) (out then : List (To × Message)) → AllEnd n p s calls out mid → AllEnd n p mid more then next → AllEnd n p s (calls ++ more) (out ++ then) next
all_end_on n p s mid next [] more out then first rest = subst (λ u. AllEnd n p u more (out ++ then) next) first.1 (subst (λ o. AllEnd n p mid more (o ++ then) next) (sym first.0) rest)
all_end_on n p s mid next (call ∷ calls) more out then first rest = (
  first.0,
  first.1,
  first.2,
  first.3 ++ then,
  first.4,
  all_end_on n p first.2 mid next calls more first.3 then first.5 rest,
  ap (λ o. o ++ then) first.6 ∙ append_assoc first.1 first.3 then,
)

pub none_called : (n p : ℕ) (s : Node) → AreCalls n p [] [] s s
none_called n p s = record { calls = []; ends = (refl, refl); spelled = λ m k. absurd k }

pub called_on : (n p : ℕ) (came more : List (List ℕ)) (out then : List (To × Message)) (s mid next : Node) → AreCalls n p came out s mid → AreCalls n p more then mid next → AreCalls n p (came ++ more) (out ++ then) s next
called_on n p came more out then s mid next a b = record {
  calls = a.calls ++ b.calls;
  ends = all_end_on n p s mid next a.calls b.calls out then a.ends b.ends;
  spelled = λ m k. ⊎_elim
      (λ l. let x = a.spelled m l in (x.0, in_left came more x.0 x.1, x.2))
      (λ r. let x = b.spelled m r in (x.0, in_right came more x.0 x.1, x.2))
      (in_split a.calls b.calls (deliver m) k);
}

-- one that is no delivery
one_called : (n p : ℕ) (s next : Node) (call : Call) (ending : Ending) (out : List (To × Message)) → ((m : Message) → call ≡ deliver m → ⊥) → Ends n p s call ending out next → AreCalls n p [] out s next
one_called n p s next call ending out other ends = record {
  calls = call ∷ [];
  ends = (ending, out, next, [], ends, (refl, refl), sym (append-nil out));
  spelled = λ m k. absurd (⊎_elim (other m) (λ no. no) k);
}

delivered : (n p : ℕ) (s next : Node) (bytes : List ℕ) (m : Message) (ending : Ending) (out : List (To × Message)) → Spells n bytes m → Ends n p s (deliver m) ending out next → AreCalls n p (bytes ∷ []) out s next
delivered n p s next bytes m ending out spells ends = record {
  calls = deliver m ∷ [];
  ends = (ending, out, next, [], ends, (refl, refl), sym (append-nil out));
  spelled = λ k of. ⊎_elim (λ (e : deliver m ≡ deliver k). let same : m ≡ k = cc in (bytes, inl refl, subst (λ x. Spells n bytes x) same spells)) (λ no. absurd no) of;
}

-- ---- turns

passed_over : (n p : ℕ) (s next : Node) (bytes : List ℕ) (out : List (To × Message)) → out ≡ [] → next ≡ s → AreCalls n p (bytes ∷ []) out s next
passed_over n p s next bytes out empty same =
    subst (λ o. AreCalls n p (bytes ∷ []) o s next) (sym empty) (subst (λ (t : Node). AreCalls n p (bytes ∷ []) [] s t) (sym same) (record { calls = []; ends = (refl, refl); spelled = λ m k. absurd k }))

nothing_called : (n p : ℕ) (s next : Node) (out : List (To × Message)) → out ≡ [] → next ≡ s → AreCalls n p [] out s next
nothing_called n p s next out empty same = subst (λ o. AreCalls n p [] o s next) (sym empty) (subst (λ (t : Node). AreCalls n p [] [] s t) (sym same) (none_called n p s))

turn_called : (n p : ℕ) (s next : Node) (h : Heard) (malformed : ℕ) (out : List (To × Message)) → Takes n p s h malformed out next → AreCalls n p (datagrams (h ∷ [])) out s next
turn_called n p s next None malformed out t = nothing_called n p s next out t.1 t.2
turn_called n p s next (Some bytes) malformed out (inl t) = delivered n p s next bytes t.0 Whole out t.1 t.2
turn_called n p s next (Some bytes) malformed out (inr t) = passed_over n p s next bytes out t.2 t.3

datagrams_of : (h : Heard) (hs : List Heard) → datagrams (h ∷ hs) ≡ datagrams (h ∷ []) ++ datagrams hs
datagrams_of None hs = refl
datagrams_of (Some bytes) hs = refl

pub turns_called : (n p : ℕ) (s next : Node) (heard : List Heard) (malformed : ℕ) (out : List (To × Message)) → TakesAll n p s heard malformed out next → AreCalls n p (datagrams heard) out s next
turns_called n p s next [] malformed out t = nothing_called n p s next out t.1 t.2
turns_called n p s next (h ∷ hs) malformed out t =
    subst (λ ds. AreCalls n p ds out s next) (sym (datagrams_of h hs)) (subst (λ o. AreCalls n p (datagrams (h ∷ []) ++ datagrams hs) o s next) (sym t.8)
    (called_on n p (datagrams (h ∷ [])) (datagrams hs) t.3 t.4 s t.0 next (turn_called n p s t.0 h t.1 t.3 t.5) (turns_called n p t.0 next hs t.2 t.4 t.6)))

pub broken_off : (n p : ℕ) (s next : Node) (bytes : List ℕ) (why : NodeFault) → BreaksOff n p s bytes why next → AreCalls n p (bytes ∷ []) [] s next
broken_off n p s next bytes why (m, spells, inl ends) = delivered n p s next bytes m (ending_by why) [] spells ends
broken_off n p s next bytes why (m, spells, inr wanted) = passed_over n p s next bytes [] refl wanted.1

-- ---- the last call

begun : (n p k : ℕ) (s next : Node) (out : List (To × Message)) → Begin n p k s out next → AreCalls n p [] out s next
begun n p zero s next out b = nothing_called n p s next out b.0 b.1
begun n p (suc k) s next out b =
    subst (λ o. AreCalls n p [] o s next) (sym b.6) (called_on n p [] [] b.1 b.2 s b.0 next (begun n p k s b.0 b.1 b.3) (one_called n p b.0 next widen Whole b.2 (λ m e. cc) b.5))

widened : (n p : ℕ) (s next : Node) (ending : Ending) (out : List (To × Message)) → Widens n p s ending out next → AreCalls n p [] out s next
widened n p s next ending out w =
    subst (λ o. AreCalls n p [] o s next) (append-nil out) (called_on n p [] [] out [] s w.mid next (begun n p w.count s w.mid out w.begin) (one_called n p w.mid next widen ending [] (λ m e. cc) w.last))

ticked : (n p : ℕ) (s next : Node) (ending : Ending) (out : List (To × Message)) → TicksAndWidens n p s ending out next → AreCalls n p [] out s next
ticked n p s next ending out t =
    subst (λ o. AreCalls n p [] o s next) (sym t.out_is)
    (called_on n p [] [] t.ticked t.widened s t.mid next (one_called n p s t.mid tick Whole t.ticked (λ m e. cc) t.ticks) (widened n p t.mid next ending t.widened t.widens))

all_kept : (n p i k : ℕ) (s next : Node) → KeepAll n p i k s next → AreCalls n p [] [] s next
all_kept n p i zero s next h = nothing_called n p s next [] refl h
all_kept n p i (suc k) s next h = called_on n p [] [] [] [] s h.0 next (all_kept n p i k s h.0 h.1) (one_called n p h.0 next (keep (i + k)) Whole [] (λ m e. cc) h.2)

kept : (n p i count : ℕ) (s next : Node) (ending : Ending) → KeepsEach n p i count s ending next → AreCalls n p [] [] s next
kept n p i count s next ending h = called_on n p [] [] [] [] s h.mid next (all_kept n p i h.whole s h.mid h.kept) (from h.then)
  where
    from : ((ending ≡ Whole) × (next ≡ h.mid) × ((h.whole ≡ count) ⊎ ¬ IsInstance (i + h.whole)))
        ⊎ ((ending ≢ Whole) × (h.whole < count) × Ends n p h.mid (keep (i + h.whole)) ending [] next) → AreCalls n p [] [] h.mid next
    from (inl all) = nothing_called n p h.mid next [] refl all.1
    from (inr one) = one_called n p h.mid next (keep (i + h.whole)) ending [] (λ m e. cc) one.2

pub last_called : (last : LastCall) (n p : ℕ) (s next : Node) (ending : Ending) (out : List (To × Message)) → EndsLast last n p s ending out next → AreCalls n p [] out s next
last_called TickOrAsk n p s next ending out (inl (wants, inl short)) = one_called n p s next tick ending out (λ m e. cc) short.1
last_called TickOrAsk n p s next ending out (inl (wants, inr all)) = ticked n p s next ending out all
last_called TickOrAsk n p s next ending out (inr asks) = one_called n p s next ask ending out (λ m e. cc) asks.1
last_called Widen n p s next ending out widens = widened n p s next ending out widens
last_called Ask n p s next ending out asks = one_called n p s next ask ending out (λ m e. cc) asks
last_called (Tell q i) n p s next ending out tells = one_called n p s next (tell (One q) i) ending out (λ m e. cc) tells
last_called (Keep i count) n p s next ending out keeps = subst (λ o. AreCalls n p [] o s next) (sym keeps.1) (kept n p i count s next ending keeps.0)
last_called Nothing n p s next ending out none = nothing_called n p s next out none.1 none.2

pub last_ended : (last : LastCall) (n p : ℕ) (s next : Node) (out : List (To × Message)) → EndsTurns last n p s out next → AreCalls n p [] out s next
last_ended last n p s next out (inl h) = last_called last n p s next Whole out h
last_ended last n p s next out (inr h) = last_called last n p s next (Refused fault.InstancesUsedUp) out h

-- ---- submissions

submitted : (n p : ℕ) (s next : Node) (v : Value) (ending : Ending) → Ends n p s (submit v) ending [] next → AreCalls n p [] [] s next
submitted n p s next v ending ends = one_called n p s next (submit v) ending [] (λ m e. cc) ends

comes_to : (n p : ℕ) (s next : Node) (v : Value) (done : Outcome) → ComesTo n p s v done next → AreCalls n p [] [] s next
comes_to n p s next v (Ok Queued) h = submitted n p s next v Whole h.0
comes_to n p s next v (Ok Already) h = submitted n p s next v Whole h.0
comes_to n p s next v (Err (submit_fault.Command why)) h = submitted n p s next v (Refused (fault.NotACommand why)) h
comes_to n p s next v (Err submit_fault.Busy) h = submitted n p s next v (Refused fault.QueueFull) h
comes_to n p s next v (Err submit_fault.Stopped) h = submitted n p s next v (Refused fault.Stopped) h
comes_to n p s next v (Err submit_fault.OutOfMemory) h = nothing_called n p s next [] refl h

may_take : (n p : ℕ) (s next : Node) → MayTake n p s next → AreCalls n p [] [] s next
may_take n p s next (inl same) = nothing_called n p s next [] refl same
may_take n p s next (inr h) = comes_to n p s next (value_of h.0 h.1) h.2 h.3

pub may_take_many : (n p k : ℕ) (s next : Node) → MayTakeMany n p k s next → AreCalls n p [] [] s next
may_take_many n p zero s next same = nothing_called n p s next [] refl same
may_take_many n p (suc k) s next h = called_on n p [] [] [] [] s h.0 next (may_take_many n p k s h.0 h.1) (may_take n p h.0 next h.2)
