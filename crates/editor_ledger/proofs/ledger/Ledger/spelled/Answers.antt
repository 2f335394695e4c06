use Rattle.std.proofs.Common.{◌≡◌, ℕ, List, ◌++◌, string_bytes, ap, ◌∙◌}
use Rattle.editor_ledger.specs.Spelling.{body, last_line}
use Rattle.editor_ledger.proofs.ledger.Ledger.spelled.Goals as goal

joined : (front back text line : List ℕ) → front ≡ text → back ≡ line → front ++ back ≡ text ++ line
joined front back text line one two = ap (λ t. t ++ back) one ∙ ap (λ t. text ++ t) two

pub returns : goal.returns
returns c =
    let text : string_bytes c.in_ok-text.text ≡ body c.args.self.now = c.in_ok-text.ensures in
    let line : string_bytes c.in_ok-end.end ≡ last_line (body c.args.self.now) = c.in_ok-end.ensures ∙ ap last_line (c.as_str.ensures.value ∙ text) in
    c.in_ok-push_str.ensures.bytes ∙ joined (string_bytes c.in_ok-text.text) c.as_str-2.result.now (body c.args.self.now) (last_line (body c.args.self.now))
    text (c.as_str-2.ensures.value ∙ line)
