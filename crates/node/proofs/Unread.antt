-- Why a value that is submitted was not read.
use Rattle.std.proofs.Common.{◌≡◌, ◌≢◌, inl, false, Result, Ok, Err, [], refl, sym, subst}
use Rattle.std.specs.Result.{IsErrAnd, IfErr, MatchResult}
use Rattle.command.specs.declared.fault.CommandFault.{CommandFault}
use Rattle.command.specs.declared.fault.CommandFault.TheVariants as command
use Rattle.command.specs.Reading.{value_reading, TakesMemory}
use Rattle.command.specs.Written.{HasLine}
use Rattle.site_disk.specs.Model.{DiskState}
use Rattle.node.specs.declared.fault.NodeFault.{NodeFault}
use Rattle.node.specs.declared.fault.NodeFault.TheVariants as fault
use Rattle.node.specs.declared.node.Node.{Node as Running}
use Rattle.node.specs.Nodes.{Value, Node}
use Rattle.node.specs.Calls.{submit}
use Rattle.node.specs.Faults.{of_command, IsUnread, IsSubmitCause}
use Rattle.node.specs.Standing.{ending_by, ending_of, HasParts, IsEvent, KeepsOthers}
use Rattle.node.proofs.Stepping.{ending_err, is_up, SeemsSame, refused}

unread : (v : Value) (e : CommandFault) → (e ≢ command.OutOfMemory → value_reading v ≡ Err e) → (e ≢ command.OutOfMemory → HasLine e) → (e ≡ command.OutOfMemory → TakesMemory v) → IsUnread v (of_command e)
unread v command.OutOfMemory reads line memory = memory refl
unread v command.TooLong reads line memory = (reads (λ e. cc), line (λ e. cc))
unread v command.Form reads line memory = (reads (λ e. cc), line (λ e. cc))
unread v command.Name reads line memory = (reads (λ e. cc), line (λ e. cc))
unread v command.Path reads line memory = (reads (λ e. cc), line (λ e. cc))
unread v (command.Template why) reads line memory = (reads (λ e. cc), line (λ e. cc))
unread v (command.Data why) reads line memory = (reads (λ e. cc), line (λ e. cc))

pub not_read : {T : Type 0} (P : T → Type 0) (v : Value) (e : CommandFault) (r : Result T NodeFault) → IsErrAnd r (λ y. y ≡ of_command e) → (e ≢ command.OutOfMemory → value_reading v ≡ Err e)
    → (e ≢ command.OutOfMemory → HasLine e) → (e ≡ command.OutOfMemory → TakesMemory v) → MatchResult r P (IsUnread v)
not_read P v e (Ok x) is reads line memory = absurd is
not_read P v e (Err y) is reads line memory = subst (λ (z : NodeFault). IsUnread v z) (sym is) (unread v e reads line memory)

-- so a submission is refused
module _ {D : Type 0} (stands_for : D → DiskState → Type 0) where
  by_cause : (old : Running D) (v : Value) (f : NodeFault) → old.store.stopped ≡ false → IsUnread v f → (new : Running D) → KeepsOthers old new → SeemsSame old.store new.store → ((s : Node) → HasParts old s → HasParts new s)
      → IsEvent stands_for old new (submit v) (ending_by f) [] []
  by_cause old v (fault.NotACommand why) runs is new others store same = refused stands_for old new (submit v) (fault.NotACommand why) [] [] others tt refl (λ s stands. (is_up old s stands.parts runs, is.0)) store same
  by_cause old v fault.OutOfMemory runs is new others store same = refused stands_for old new (submit v) fault.OutOfMemory [] [] others tt refl (λ s stands. (is_up old s stands.parts runs, inl is)) store same
  by_cause old v fault.Device runs is new others store same = absurd is
  by_cause old v fault.Stopped runs is new others store same = absurd is
  by_cause old v fault.QueueFull runs is new others store same = absurd is
  by_cause old v fault.InstancesUsedUp runs is new others store same = absurd is
  by_cause old v fault.RoundsUsedUp runs is new others store same = absurd is
  by_cause old v fault.Conflict runs is new others store same = absurd is

  pub not_submitted : {T : Type 0} (old new : Running D) (v : Value) (f : NodeFault) (r : Result T NodeFault) → IsErrAnd r (λ y. y ≡ f) → old.store.stopped ≡ false → IsUnread v f → KeepsOthers old new → SeemsSame old.store new.store
      → ((s : Node) → HasParts old s → HasParts new s) → IsEvent stands_for old new (submit v) (ending_of r) [] []
  not_submitted old new v f r is runs unread others store same = subst (λ ending. IsEvent stands_for old new (submit v) ending [] []) (sym (ending_err r f is)) (by_cause old v f runs unread new others store same)

pub is_cause : {T : Type 0} (v : Value) (f : NodeFault) (r : Result T NodeFault) → IsErrAnd r (λ y. y ≡ f) → IsUnread v f → IfErr r IsSubmitCause
is_cause v f (Ok x) is unread = absurd is
is_cause v f (Err y) is unread = subst IsSubmitCause (sym is) (by f unread)
  where
    by : (f : NodeFault) → IsUnread v f → IsSubmitCause f
    by (fault.NotACommand why) unread = unread.1
    by fault.OutOfMemory unread = tt
    by fault.Device unread = absurd unread
    by fault.Stopped unread = tt
    by fault.QueueFull unread = tt
    by fault.InstancesUsedUp unread = absurd unread
    by fault.RoundsUsedUp unread = absurd unread
    by fault.Conflict unread = absurd unread
