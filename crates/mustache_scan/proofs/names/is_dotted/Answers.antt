use Rattle.std.proofs.Common.{◌≡◌, ◌||◌, not, sym, ap, ◌∙◌, lit<, rules}
use Rattle.std.proofs.lemmas.Iterator.Search.{any_from_yields_List}
use Rattle.std.proofs.lemmas.Iterator.Splits.{YieldsList-from_str_split}
use Rattle.std.specs.List.{list_any}
use Rattle.mustache_scan.specs.Names.{is_empty, parts}
use Rattle.mustache_scan.proofs.names.is_dotted.Goals as goal

pub returns-else-eq : goal.returns-else-eq
returns-else-eq c =
    let any : c.any.result ≡ list_any is_empty (parts c.args.name.now) =
    any_from_yields_List is_empty _ _ c.any.result c.any.ensures.ran (YieldsList-from_str_split 46 c.args.name.now (lit< tt) c.split.ensures.text c.split.ensures.has_more c.split.ensures.pattern) (λ x b q k. search rules) in
    ap not any ∙ ap (λ b. b || not (list_any is_empty (parts c.args.name.now))) (sym c.if-eq.false ∙ c.eq.ensures)
