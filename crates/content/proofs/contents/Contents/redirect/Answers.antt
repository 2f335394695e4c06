use Rattle.std.proofs.Common.{ℕ, List, Some, option_map, string_bytes, sym, ap, ◌∙◌, subst}
use Rattle.content.specs.Standing.{HasContents}
use Rattle.content.proofs.contents.Contents.redirect.Goals as goal

pub returns : goal.returns
returns c orders is =
    let has = subst (λ s. HasContents s orders) (sym c.self.view_is) is in
    ap (λ (t : List ℕ). Some t) c.as_str.ensures.value ∙ ap (option_map string_bytes) c.in_ok-target.ensures ∙ has.redirects c.args.path.now
