use Rattle.std.proofs.Common.{sym, ap, ◌∙◌}
use Rattle.std.specs.Option.{is_some}
use Rattle.editor_ledger.specs.Heads.{head_of, is_about}
use Rattle.editor_ledger.specs.View.{head_view}
use Rattle.editor_ledger.proofs.LookUps.{is_some-find, is_some-mapped}
use Rattle.editor_ledger.proofs.firsts.has_about.Goals as goal

pub returns : goal.returns
returns c = λ texts has.
    c.is_some.ensures
    ∙ sym (is_some-mapped (λ t. t.now) c.first_about.result)
    ∙ ap is_some (c.first_about.ensures texts has)
    ∙ is_some-find (λ t. is_about (head_view c.args.head.now) (head_of t)) texts
