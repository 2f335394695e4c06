use Rattle.std.proofs.Common.{map, string_bytes, sym, subst}
use Rattle.editor_ledger.specs.Subjects.{Bounds}
use Rattle.editor_ledger.proofs.kept.Kept.push.Goals as goal

pub invariant_of-self-in_err-know_more : goal.invariant_of-self-in_err-know_more
invariant_of-self-in_err-know_more c =
    subst (λ ts. Bounds c.know_more.new.known (map string_bytes ts)) (sym c.in_ok-reserve.ensures.items)
    (c.in_err-know_more.ensures.err (map string_bytes c.self.inside.texts.items) c.self.invariant)
