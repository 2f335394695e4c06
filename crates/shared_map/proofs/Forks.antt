-- A map whose top is a fork.
use Rattle.std.proofs.Common.{◌≡◌, List, ◌∷◌, ◌++◌, Option, Some, sym, ap, ◌∙◌}
use Rattle.std.specs.declared.alloc.Global.{Global}
use Rattle.std.specs.declared.rc.Rc.{Rc}
use Rattle.shared_map.specs.Tree.{entries}
use Rattle.shared_map.specs.declared.tree.Fork.{Fork}

pub at_fork : {K V : Type 0} {top : Option (Rc (Fork K V) Global)} {m : List (K × V)} {node : Rc (Fork K V) Global} → entries top ≡ m → top ≡ Some node
    → m ≡ node.value.left ++ node.value.entry.value ∷ node.value.right
at_fork seen is = sym seen ∙ ap entries is
