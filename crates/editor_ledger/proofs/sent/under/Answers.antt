use Rattle.std.proofs.Common.{Bor, ap, sym, ◌∙◌, option_map, eqb, tests, rules}
use Rattle.std.proofs.lemmas.Iterator.{YieldsList-from_slice}
use Rattle.std.proofs.lemmas.Iterator.Search.{find_from_yields_List}
use Rattle.editor_ledger.specs.View.{given_view}
use Rattle.editor_ledger.specs.declared.sent.Sent.{Sent}
use Rattle.editor_ledger.proofs.Listing.{find_map, option_map_map}
use Rattle.editor_ledger.proofs.sent.under.Goals as goal

pub returns : goal.returns
returns c =
    let found = find_from_yields_List (λ (s : Sent). eqb s.number c.args.number) _ _ c.find.result c.find.ensures.ran (YieldsList-from_slice c.args.sent.now cc) (λ x b q k. search (rules, tests)) in
    sym (option_map_map given_view (λ (x : Bor Sent). x.now) c.find.result) ∙ ap (option_map given_view) found ∙ sym (find_map (λ g. eqb g.number c.args.number) given_view c.args.sent.now)
