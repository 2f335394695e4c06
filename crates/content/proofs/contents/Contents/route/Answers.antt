use Rattle.std.proofs.Common.{ℕ, List, Some, option_map, sym, ap, ◌∙◌, subst}
use Rattle.content.specs.View.{names_of}
use Rattle.content.specs.Standing.{HasContents}
use Rattle.content.proofs.contents.Contents.route.Goals as goal

pub returns : goal.returns
returns c orders is =
    let has = subst (λ s. HasContents s orders) (sym c.self.view_is) is in
    ap (λ (t : List ℕ). Some (t, c.as_str-2.result.now)) c.as_str.ensures.value ∙ ap (λ (d : List ℕ). Some ((names_of c.in_ok-target.target.now).0, d)) c.as_str-2.ensures.value
    ∙ ap (option_map names_of) c.in_ok-target.ensures ∙ has.routes c.args.path.now
