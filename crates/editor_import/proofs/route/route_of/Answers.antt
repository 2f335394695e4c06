use Rattle.std.proofs.Common.{sym, ap, ◌++◌, ◌∙◌}
use Rattle.editor_import.proofs.RouteLemmas.{index_name, route_file, made}
use Rattle.editor_import.proofs.route.route_of.Goals as goal

pub returns-in-Some : goal.returns-in-Some
returns-in-Some c =
    let h = c.in-Some.ensures.cases in
    made _ c.args.file.now c.as_str.result.now c.in-Some.folder.now (c.as_str.ensures.value ∙ c.in_ok-path.ensures.ok)
    (h.1.1 ∙ ap (λ l. l ++ index_name) (sym h.2)) c.format-in-Some.ensures.ok

pub returns-in-None : goal.returns-in-None
returns-in-None c =
    route_file c.args.file.now _ c.in_ok-path.ensures.ok (λ front is. c.in-None.ensures.cases front (c.as_str.ensures.value ∙ is))
