use Rattle.std.proofs.Common.{map, not, string_bytes, ap, ◌∙◌, rules}
use Rattle.std.proofs.lemmas.Fn.{filter_same}
use Rattle.editor_ledger.specs.Heads.{head_of, is_about}
use Rattle.editor_ledger.specs.View.{head_view}
use Rattle.editor_ledger.proofs.Listing.{filter_map_is}
use Rattle.editor_ledger.proofs.kept.take_all.Goals as goal

pub returns-clause-others : goal.returns-clause-others
returns-clause-others c =
    let kept = filter_same _ (λ s. not (is_about (head_view c.args.head.now) (head_of (string_bytes s)))) _ (λ x b f says. (search (rules, says), search (rules, says))) _ _ c.retain.ensures.filtered in
    ap (map string_bytes) kept
    ∙ filter_map_is (λ t. not (is_about (head_view c.args.head.now) (head_of t))) string_bytes c.args.kept.now.items
