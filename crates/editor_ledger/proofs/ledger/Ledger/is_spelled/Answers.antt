use Rattle.std.proofs.Common.{true≢false, sym, ◌∙◌}
use Rattle.std.proofs.lemmas.Slice.Eq.{bytes_eq-Decides}
use Rattle.editor_ledger.proofs.ledger.Ledger.is_spelled.Goals as goal

pub returns-clause-refused : goal.returns-clause-refused
returns-clause-refused c other is =
    let equal = (bytes_eq-Decides c.as_str.result.now c.args.text.now).1 (c.as_str.ensures.value ∙ c.in_ok-again.ensures ∙ is) in
    true≢false (sym equal ∙ sym c.eq.ensures ∙ c.if-eq.false)
