use Rattle.std.proofs.Common.{◌≡◌, ◌++◌, ◌∷◌, ◌∙◌, sym, ap, ap₂, take-append-drop}
use Rattle.engine_common.proofs.body.body_in.Goals as goal

pub returns-then-end-ne10 : goal.returns-then-end-ne10
returns-then-end-ne10 c =
    let parts : c.args.bytes.now ≡ c.in-Some.text.now ++ c.in-Some.rest.now = sym (ap₂ (λ a b. a ++ b) c.in-Some.ensures.cases.1 c.in-Some.ensures.cases.2 ∙ take-append-drop c.args.len c.args.bytes.now) in
    let whole : c.args.bytes.now ≡ c.in-Some.text.now ++ (c.in-Some-split_first.end.now ∷ c.in-Some-split_first.rest.now) = parts ∙ ap (λ t. c.in-Some.text.now ++ t) c.in-Some-split_first.ensures.cases.0 in
    (c.in-Some.text.now, c.in-Some-split_first.end.now, c.in-Some-split_first.rest.now, c.in-Some.ensures.cases.3, whole, c.if-end-ne10.true)
