use Rattle.std.proofs.Common.{◌≡◌, ◌++◌, ◌∙◌, Some, Ok, ap, subst}
use Rattle.std.specs.Prelude.{MatchOption}
use Rattle.percent_encoding.specs.Iter.{encoded_text}
use Rattle.url.specs.Parser.{parse_url}
use Rattle.url.specs.Parts.{Parts}
use Rattle.editor_folder.specs.Moved.{address_of}
use Rattle.editor_import.proofs.LeadingLemmas.{leads_to}
use Rattle.editor_import.proofs.leading.target_of.Goals as goal

pub returns-in-Some-2 : goal.returns-in-Some-2
returns-in-Some-2 c =
    let site = c.args.site.now in
    let page = c.in-Some.page in
    let address = c.args.address.now in
    let from : c.as_str.result.now ≡ address_of c.args.from.now =
    c.as_str.ensures.value ∙ c.in_ok-append_to.ensures.ok ∙ ap (λ before. before ++ encoded_text c.utf8_percent_encode.result) c.new-from_url.ensures.bytes ∙ c.utf8_percent_encode.ensures.text in
    let page_read : parse_url (Some site) c.as_str.result.now ≡ Ok page =
    subst (λ o. MatchOption o ((url : Parts) → ¬ (parse_url (Some site) c.as_str.result.now ≡ Ok url)) (λ url. parse_url (Some site) c.as_str.result.now ≡ Ok url)) c.in-Some.is c.in_ok-page.ensures in
    let target_read : parse_url (Some page) address ≡ Ok c.in-Some-2.target =
    subst (λ o. MatchOption o ((url : Parts) → ¬ (parse_url (Some page) address ≡ Ok url)) (λ url. parse_url (Some page) address ≡ Ok url)) c.in-Some-2.is c.in_ok-target.ensures in
    leads_to site page c.in-Some-2.target c.args.from.now address c.path_at.result (subst (λ t. parse_url (Some site) t ≡ Ok page) from page_read) target_read c.path_at.ensures
