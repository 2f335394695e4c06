use Rattle.std.proofs.Common.{map, not, eqb, ap, ◌∙◌, rules}
use Rattle.std.proofs.lemmas.Fn.{filter_same}
use Rattle.editor_ledger.specs.View.{given_view}
use Rattle.editor_ledger.specs.declared.sent.Sent.{Sent}
use Rattle.editor_ledger.proofs.Listing.{filter_map_is}
use Rattle.editor_ledger.proofs.sent.drop_under.Goals as goal

pub returns : goal.returns
returns c =
    let kept = filter_same _ (λ (s : Sent). not (eqb s.number c.args.number)) _ (λ x b f says. (search (rules, says), search (rules, says))) _ _ c.retain.ensures.filtered in
    ap (map given_view) kept ∙ filter_map_is (λ g. not (eqb g.number c.args.number)) given_view c.args.sent.now.items
