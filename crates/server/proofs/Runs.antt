-- What a server's node is led through.
use Rattle.std.proofs.Common.{◌≡◌, ℕ, List, Result, Ok, Err, OnOk, subst}
use Rattle.site_disk.specs.Model.{DiskState}
use Rattle.node.specs.Nodes.{Node}
use Rattle.node.specs.declared.node.Node.{Node as Running}
use Rattle.server.specs.Passes.{Led, EndsWork}
use Rattle.server.specs.Runs.{IsOpened, IsRun}
use Rattle.server_faults.specs.declared.server_fault.ServerFault.{ServerFault}

pub on_ok_gives : {T E A B : Type 0} (r : Result T E) → OnOk r A → (A → B) → OnOk r B
on_ok_gives (Ok x) a f = f a
on_ok_gives (Err e) a f = tt

-- the node that was opened, by another name
pub opened_as : {D : Type 0} {stands_for : D → DiskState → Type 0} {n p : ℕ} {node other : Running D} → node ≡ other → IsOpened stands_for n p node → IsOpened stands_for n p other
opened_as {D} {stands_for} {n} {p} same is = subst (IsOpened stands_for n p) same is

-- the node that was opened is the one that was led
pub run_of : {D : Type 0} {stands_for : D → DiskState → Type 0} (n p : ℕ) (How : ℕ → ℕ → List (List ℕ) → List Node → Node → Node → Type 0) (opened ended : Running D)
    → IsOpened stands_for n p opened → Led stands_for opened ended (How opened.cluster opened.me ended.releases) → IsRun stands_for n p (How n p)
run_of {D} {stands_for} n p How opened ended is led = record {
  opened = opened;
  ended = ended;
  is_opened = is;
  is_led = subst (λ u. Led stands_for opened ended (How u p ended.releases)) is.cluster (subst (λ v. Led stands_for opened ended (How opened.cluster v ended.releases)) is.me led);
}

-- so many passes, by another count
pub as_many : {D T : Type 0} {stands_for : D → DiskState → Type 0} {old new : Running D} {k wanted : ℕ} {r : Result T ServerFault} → k ≡ wanted → EndsWork stands_for k old new r → EndsWork stands_for wanted old new r
as_many {D} {T} {stands_for} {old} {new} {k} {wanted} {r} same ends = subst (λ (m : ℕ). EndsWork stands_for m old new r) same ends
