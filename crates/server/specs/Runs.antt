-- Which node a server opens, and through which nodes it is led.
use Rattle.std.specs.Prelude.{◌≡◌, ℕ, List, []}
use Rattle.site_disk.specs.Model.{DiskState}
use Rattle.durable.specs.Entries.{Entry}
use Rattle.node.specs.Nodes.{Node}
use Rattle.node.specs.declared.node.Node.{Node as Running}
use Rattle.node.specs.Standing.{OpensAs}
use Rattle.server.specs.Passes.{Led}

-- node p of n, opened over some disk; it has published nothing
pub record IsOpened {D : Type 0} (stands_for : D → DiskState → Type 0) (n p : ℕ)
    (node : Running D) : Type 0 where
  pub me : node.me ≡ p
  pub cluster : node.cluster ≡ n
  pub unfed : node.releases ≡ []
  pub disk : D
  pub entries : List Entry
  pub opens : OpensAs stands_for disk node entries

-- node p of n is opened and then led in this way. It has published this in the end
pub record IsRun {D : Type 0} (stands_for : D → DiskState → Type 0) (n p : ℕ)
    (How : List (List ℕ) → List Node → Node → Node → Type 0) : Type 0 where
  pub opened : Running D
  pub ended : Running D
  pub is_opened : IsOpened stands_for n p opened
  pub is_led : Led stands_for opened ended (How ended.releases)
