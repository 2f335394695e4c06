use Rattle.std.proofs.Common.{◌≡◌, ◌++◌, ◌∙◌, codes, ap, subst, string_bytes}
use Rattle.std.specs.Prelude.{MatchOption}
use Rattle.editor_command.specs.Texts.{IsCommandText, IsRefused}
use Rattle.editor_import.specs.Pages.{FaultOf, template_text}
use Rattle.editor_import.proofs.imported_page.template_fault.Goals as goal

pub returns-in-Some : goal.returns-in-Some
returns-in-Some c =
    let is_text : c.as_bytes.result.now ≡ template_text c.args.page.now =
    c.as_bytes.ensures.value ∙ c.in_ok-text.ensures.ok
    ∙ ap (λ name. codes "put template " ++ (name ++ (codes "\n" ++ c.as_str-template.result.now))) c.as_str-name.ensures.value
    ∙ ap (λ template. codes "put template " ++ (string_bytes c.args.page.now.name ++ (codes "\n" ++ template))) c.as_str-template.ensures.value in
    let refused : IsRefused c.as_bytes.result.now c.in-Some.refusal =
    subst (λ o. MatchOption o (IsCommandText c.as_bytes.result.now) (λ r. IsRefused c.as_bytes.result.now r)) c.in-Some.is c.in_ok-refusal.ensures in
    subst (λ t. FaultOf t c.in-Some.refusal.fault) is_text refused.reads
