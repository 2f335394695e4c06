use Rattle.std.proofs.Common.{◌≡◌, List, map, eqb, string_bytes, ap, ◌∙◌, arith}
use Rattle.std.specs.List.{find}
use Rattle.std.proofs.lemmas.Grind.{common_steps}
use Rattle.editor_ledger.specs.Books.{Given, Book}
use Rattle.editor_ledger.specs.Steps.{without}
use Rattle.editor_ledger.specs.View.{given_view}
use Rattle.editor_ledger.specs.contracts.ledger.Ledger.{the_view}
use Rattle.editor_ledger.proofs.Receipts.{nothing_under, text_under}
use Rattle.editor_ledger.proofs.ledger.Ledger.receive.Goals as goal

pub returns-in_default-clause-ok : goal.returns-in_default-clause-ok
returns-in_default-clause-ok c = nothing_under c.args.number c.args.self.now (
    c.in_default.ensures
    ∙ ap (λ ss. find (λ (g : Given). eqb g.number c.args.number) (map given_view ss)) c.deref.ensures.value
    ∙ ap (λ (b : Book). find (λ (g : Given). eqb g.number c.args.number) b.sent) c.self.view_is)

pub returns-clause-ok : goal.returns-clause-ok
returns-clause-ok c =
    let text : string_bytes c.in_ok-text.text ≡ string_bytes c.in-Some.found.now.text = grind (arith, common_steps, c.in_ok-text.ensures) in
    ap (λ (s : List Given). record (the_view c.self-2.inside) { sent = s }) c.drop_under.ensures
    ∙ ap (without c.args.number) (c.self-2.view_is ∙ c.in_ok-hold.ensures.ok)
    ∙ text_under c.args.number (string_bytes c.in_ok-text.text) c.args.self.now (given_view c.in-Some.found.now) (
    c.in-Some.ensures
    ∙ ap (λ ss. find (λ (g : Given). eqb g.number c.args.number) (map given_view ss)) c.deref.ensures.value
    ∙ ap (λ (b : Book). find (λ (g : Given). eqb g.number c.args.number) b.sent) c.self.view_is) text
