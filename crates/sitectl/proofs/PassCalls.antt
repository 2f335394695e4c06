-- A step is calls, and these are a batch of the world.
use Rattle.std.proofs.Common.{◌≡◌, inl, inr, ℕ, Some, List, [], ◌∷◌, ◌++◌, map, refl, sym, ap, subst, append-nil, append_assoc}
use Rattle.site_ids.proofs.MemberLemmas.{in_left}
use Rattle.wire.specs.declared.message.Message.{Message}
use Rattle.node.specs.declared.fault.NodeFault.{NodeFault}
use Rattle.node.specs.declared.to.To.{To}
use Rattle.node.specs.Nodes.{Node}
use Rattle.node.specs.Standing.{ending_by}
use Rattle.site_drive.specs.declared.last_call.LastCall.{LastCall}
use Rattle.site_drive.specs.Batches.{TakesEach, Works, GivesUpTaking, GivesUpWork}
use Rattle.site_drive.specs.Drives.{datagrams}
use Rattle.world.specs.Batches.{IsBatch, CallsAreEvents, SealedIsARun, CrashIsARun}
use Rattle.sitectl.specs.Passes.{AreCalls, WorkIsCalls, StepIsCalls, GivenUpIsCalls, CallsAreABatch}
use Rattle.sitectl.proofs.Calls.{none_called, called_on, turns_called, broken_off, last_called, last_ended, may_take_many}

-- ---- deliveries

all_came : (came : List (List ℕ)) → datagrams (map Some came) ≡ came
all_came [] = refl
all_came (d ∷ ds) = ap (λ l. d ∷ l) (all_came ds)

each_called : (n p : ℕ) (came : List (List ℕ)) (malformed : ℕ) (out : List (To × Message)) (s next : Node) → TakesEach n p came malformed out s next → AreCalls n p came out s next
each_called n p came malformed out s next t = subst (λ l. AreCalls n p l out s next) (all_came came) (turns_called n p s next (map Some came) malformed out t)

-- calls without a datagram after them
then_called : (n p : ℕ) (came : List (List ℕ)) (out then : List (To × Message)) (s t u : Node) → AreCalls n p came out s t → AreCalls n p [] then t u → AreCalls n p came (out ++ then) s u
then_called n p came out then s t u a b = subst (λ l. AreCalls n p l (out ++ then) s u) (append-nil came) (called_on n p came [] out then s t u a b)

-- among more datagrams
among : (n p : ℕ) (came behind : List (List ℕ)) (out : List (To × Message)) (s next : Node) → AreCalls n p came out s next → AreCalls n p (came ++ behind) out s next
among n p came behind out s next a = record { calls = a.calls; ends = a.ends; spelled = λ m k. let x = a.spelled m k in (x.0, in_left came behind x.0 x.1, x.2) }

-- ---- a batch

works_called : (last : LastCall) (n p : ℕ) (came : List (List ℕ)) (malformed : ℕ) (out : List (To × Message)) (s next : Node) → Works last n p came malformed out s next → AreCalls n p came out s next
works_called last n p came malformed out s next w =
    subst (λ o. AreCalls n p came o s next) (sym w.out_is)
    (then_called n p came w.first w.then s w.mid next (each_called n p came malformed w.first s w.mid w.takes) (last_ended last n p w.mid next w.then w.ends))

abbrev SomeCalls : ℕ → ℕ → List (List ℕ) → Node → Node → Type 0
SomeCalls n p came s next = (out : List (To × Message)) × AreCalls n p came out s next

taking_off : (n p : ℕ) (came : List (List ℕ)) (why : NodeFault) (s next : Node) → GivesUpTaking n p came why s next → SomeCalls n p came s next
taking_off n p came why s next h =
    let whole = each_called n p h.front h.malformed h.out s h.mid h.takes in
    let off = called_on n p h.front (h.bytes ∷ []) h.out [] s h.mid next whole (broken_off n p h.mid next h.bytes why h.breaks) in
    let split : (h.front ++ h.bytes ∷ []) ++ h.behind ≡ h.front ++ h.bytes ∷ h.behind = append_assoc h.front (h.bytes ∷ []) h.behind in
    (h.out ++ [], subst (λ l. AreCalls n p l (h.out ++ []) s next) (sym h.came_is) (subst (λ l. AreCalls n p l (h.out ++ []) s next) split (among n p (h.front ++ h.bytes ∷ []) h.behind (h.out ++ []) s next off)))

work_off : (last : LastCall) (n p : ℕ) (came : List (List ℕ)) (why : NodeFault) (s next : Node) → GivesUpWork last n p came why s next → SomeCalls n p came s next
work_off last n p came why s next (inl h) = taking_off n p came why s next h
work_off last n p came why s next (inr h) =
    (h.first ++ h.then, then_called n p came h.first h.then s h.mid next (each_called n p came h.malformed h.first s h.mid h.takes) (last_called last n p h.mid next (ending_by why) h.then h.ends))

nothing_done : (n p : ℕ) (came : List (List ℕ)) (s next : Node) → next ≡ s → SomeCalls n p came s next
nothing_done n p came s next same = subst (λ (t : Node). SomeCalls n p came s t) (sym same) ([], among n p [] came [] s s (none_called n p s))

pub work_is_calls : WorkIsCalls
work_is_calls last n p came s next (inl h) = (h.1, works_called last n p came h.0 h.1 s next h.2)
work_is_calls last n p came s next (inr (inl h)) = work_off last n p came h.0 s next h.1
work_is_calls last n p came s next (inr (inr same)) = nothing_done n p came s next same

pub given_up_is_calls : GivenUpIsCalls
given_up_is_calls last n p came why s next (inl h) = nothing_done n p came s next h.2
given_up_is_calls last n p came why s next (inr (inl h)) = work_off last n p came why s next h
given_up_is_calls last n p came why s next (inr (inr (memory, inl same))) = nothing_done n p came s next same
given_up_is_calls last n p came why s next (inr (inr (memory, inr h))) = (h.1, works_called last n p came h.0 h.1 s next h.2)

-- ---- a step

pub step_is_calls : StepIsCalls
step_is_calls n p came letters fed s next t = (
  t.out,
  subst (λ o. AreCalls n p came o s next) (append-nil t.out)
      (then_called n p came t.out [] s t.mid next (works_called t.last n p came t.malformed t.out s t.mid t.batch.works) (may_take_many n p t.requests t.mid next t.takes)),
  t.letters_are,
)

-- ---- in a world

pub calls_are_a_batch : CallsAreEvents → SealedIsARun → CrashIsARun → CallsAreABatch
calls_are_a_batch are_events sealed crash n p came out next w node none c =
    let e = are_events p w.sent c.calls (λ m k. let b = c.spelled m k in none b.0 b.1 m b.2) in
    let batch : IsBatch n w e.0 p out next = record { calls = c.calls; in_cluster = node; are_events = e.1; ends = c.ends } in
    (e.0, batch, sealed n w e.0 p out next batch, crash n w e.0 p out next batch)
