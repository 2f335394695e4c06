use Rattle.std.proofs.Common.{◌≡◌, ◌++◌, [], ◌∷◌, OnOk, Vec, Global, string_bytes, ap, subst, ◌∙◌}
use Rattle.mustache_scan.specs.View.{token_view}
use Rattle.mustache_parse.proofs.StackLemmas.{same_name, reads_end}
use Rattle.mustache_parse.specs.Stack.{made_by, marked_view, tag_makes}
use Rattle.mustache_parse.specs.Margin.{tag_under}
use Rattle.mustache_parse.specs.Tree.{with_token}
use Rattle.mustache_parse.specs.declared.node.Node.{Node}
use Rattle.mustache_parse.specs.View.{tree_view}
use Rattle.mustache_parse.proofs.nesting.Nesting.end.Goals as goal

pub returns-clause-ok : goal.returns-clause-ok
returns-clause-ok c =
    reads_end (token_view c.args.token.now) (tag_makes c.args.token.now) c.args.self.now c.add.new.self c.in-Some.section c.pop.new.self.items c.ended.result c.add.result
    c.requires
    (λ w ls. ap (λ k. with_token (tag_under w (marked_view c.args.token.now)) k ls) c.requires)
    (same_name c.as_str.result.now c.args.token.now.inside.now c.if-ne.ensures ∙ c.as_str.ensures.value)
    c.in-Some.ensures.items
    (λ w. c.ended.ensures w ∙ ap (λ (v : Vec Node Global). made_by c.in-Some.section.is_inverted (string_bytes c.in-Some.section.name) (tree_view w v.items)) c.replace-block.ensures.value)
    c.add.ensures.opened
    (subst (λ (v : Vec Node Global). OnOk c.add.result (c.add.new.self.nodes.items ≡ v.items ++ c.ended.result ∷ [])) c.replace-block.ensures.after c.add.ensures.nodes)
