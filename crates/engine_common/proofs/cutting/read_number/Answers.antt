use Rattle.std.proofs.Common.{◌≡◌, ◌∙◌, sym, subst, true≢false, ap, decimal}
use Rattle.std.proofs.lemmas.Slice.Eq.{bytes_eq-Decides}
use Rattle.std.proofs.lemmas.Fmt.{IsAscii-decimal, parse-decimal}
use Rattle.std.proofs.lemmas.Str.{IsUtf8-from_ascii}
use Rattle.std.specs.Str.{IsUtf8}
use Rattle.engine_common.proofs.cutting.read_number.Goals as goal

pub returns-in_default : goal.returns-in_default
returns-in_default c n small is = c.in_default.ensures.cases.0 (subst IsUtf8 (sym is) (IsUtf8-from_ascii _ (IsAscii-decimal n small)))

pub returns-in_default-parse : goal.returns-in_default-parse
returns-in_default-parse c n small is = c.in_default-parse.not-Ok n (parse-decimal 64 n _ _ small small (c.in-Ok.ensures.cases.0 ∙ is) c.parse.ensures.value.0)

pub returns-else-eq : goal.returns-else-eq
returns-else-eq c n small is =
    let read = parse-decimal 64 n _ _ small small (c.in-Ok.ensures.cases.0 ∙ is) c.parse.ensures.value.0 in
    let same : c.in-Ok-parse.n ≡ n = cc in
    let text : c.format.result.now ≡ c.in-Ok.text.now = c.format.ensures.text ∙ ap decimal same ∙ sym is ∙ sym c.in-Ok.ensures.cases.0 in
    let equal = (bytes_eq-Decides c.format.result.now c.in-Ok.text.now).1 text in
    true≢false (sym equal ∙ sym c.eq.ensures ∙ c.if-eq.false)
