use Rattle.std.proofs.Common.{◌≡◌, [], ◌∷◌, Err, subst, ◌∙◌}
use Rattle.mustache_parse.specs.Template.{template_tree}
use Rattle.context.specs.View.{data_view}
use Rattle.render.specs.Rendering.{Adds, IsPaid}
use Rattle.mustache_parse.specs.View.{tree_view}
use Rattle.render.specs.Meaning.{meaning_to}
use Rattle.render.specs.declared.fault.RenderFault.TheVariants.{OverLimit}
use Rattle.render.proofs.Rendered.{rendering-is, exceeds_page, paid_page, page_holds}
use Rattle.render.proofs.page.render.Goals as goal

pub returns-in-Err-clause-over : goal.returns-in-Err-clause-over
returns-in-Err-clause-over g c e texts stands =
    let old = c.new-out.result in
    let new = c.render_nodes.new.out in
    let m = meaning_to 32 texts (tree_view [] c.args.template.now.nodes) (data_view c.args.page_data.now ∷ []) in
    let is : c.in-Err.fault ≡ OverLimit = cc in
    rendering-is texts (template_tree [] c.args.template.now) (data_view c.args.page_data.now)
    ∙ exceeds_page old.left m c.new-out.ensures.all
    (subst (λ f. Adds old new m (Err f)) is
    (page_holds c.args.page_data c.nodes.result.now c.args.template.now.nodes texts (λ m. Adds old new m (Err c.in-Err.fault)) c.nodes.ensures.nodes c.nodes.ensures.blanks (c.in-Err.ensures.adds texts stands)))

pub returns-in-Ok-clause-text : goal.returns-in-Ok-clause-text
returns-in-Ok-clause-text g c texts stands =
    let old = c.new-out.result in
    let new = c.render_nodes.new.out in
    rendering-is texts (template_tree [] c.args.template.now) (data_view c.args.page_data.now)
    ∙ paid_page old new _ c.new-out.ensures.empty c.new-out.ensures.all
    (page_holds c.args.page_data c.nodes.result.now c.args.template.now.nodes texts (λ m. IsPaid old new m) c.nodes.ensures.nodes c.nodes.ensures.blanks (c.in-Ok.ensures.adds texts stands))
