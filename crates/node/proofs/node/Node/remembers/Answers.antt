use Rattle.std.proofs.Common.{◌≡◌, ◌≢◌, true, Bor, Option, Some, None, refl, sym, ◌∙◌}
use Rattle.std.specs.Prelude.{is_some, option_copied}
use Rattle.node.specs.Nodes.{Value}
use Rattle.node.specs.Tellings.{remembered}
use Rattle.node.proofs.Counting.{found}
use Rattle.node.proofs.KeptValues.{no_such}
use Rattle.node.proofs.Queueing.{is_true, true_is}
use Rattle.node.proofs.node.Node.remembers.Goals as goal

some_not_none : (x : Option Value) → (v : Value) × (x ≡ Some v) → x ≢ None
some_not_none x some none = no_such some.0 (sym none ∙ some.1)

some_if_not : (o : Option (Bor Value)) (x : Option Value) → option_copied o ≡ x → x ≢ None → is_some o ≡ true
some_if_not None x same some = absurd (some (sym same))
some_if_not (Some r) x same some = refl

pub returns : goal.returns
returns g c s stands =
    let x = remembered s c.args.instance in
    let same : option_copied c.remembered.result ≡ x = c.remembered.ensures s stands in (
      λ t. some_not_none x (found c.remembered.result x same (sym c.is_some.ensures ∙ true_is c.is_some.result t)),
      λ some. is_true c.is_some.result (c.is_some.ensures ∙ some_if_not c.remembered.result x same some),
    )
