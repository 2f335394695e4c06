-- What an address leads to is one path at most.
use Rattle.std.proofs.Common.{◌≡◌, ℕ, List, Option, Some, None, Result, Ok, Err, String, Global, string_bytes, ap, sym, subst, ◌∙◌}
use Rattle.std.specs.Prelude.{IfOk, MatchOption, IsUtf8}
use Rattle.percent_encoding.specs.Percent.{percent_decode}
use Rattle.url.specs.Parser.{Parsed, parse_url}
use Rattle.url.specs.Parts.{Parts}
use Rattle.editor_folder.specs.Moved.{address_of}
use Rattle.editor_import.specs.Leading.{IsAt, Leads, IsWhole, HasHostOf}

abbrev pub IsPathAt : Parts → Parts → Option (String Global) → Type 0
IsPathAt own url o = MatchOption o ((path : List ℕ) → IsUtf8 path → ¬ (IsAt own url path)) (λ path. IsAt own url (string_bytes path))

abbrev pub IsTarget : Parts → List ℕ → List ℕ → Option (String Global) → Type 0
IsTarget site from address o = MatchOption o ((path : List ℕ) → IsUtf8 path → ¬ (Leads site from address path)) (λ path. Leads site from address (string_bytes path))

pub none_at : (own url : Parts) → ¬ (HasHostOf own url × IsWhole url) → (path : List ℕ) → IsUtf8 path → ¬ (IsAt own url path)
none_at own url other path text at = other (at.at_home, at.whole)

pub is_decoded : {E : Type 0} (own url : Parts) (r : Result (Option (String Global)) E) → HasHostOf own url × IsWhole url
    → IfOk r (λ o. MatchOption o (¬ (IsUtf8 (percent_decode url.path))) (λ path. string_bytes path ≡ percent_decode url.path)) → IfOk r (IsPathAt own url)
is_decoded own url (Ok (Some path)) at is = record { at_home = at.0; whole = at.1; decoded = sym is }
is_decoded own url (Ok None) at none = λ path text is. none (subst IsUtf8 (sym is.decoded) text)
is_decoded own url (Err e) at is = tt

abbrev url_or : Parts → Parsed Parts → Parts
url_or other (Ok url) = url
url_or other (Err e) = other

same : (r : Parsed Parts) (one other : Parts) → r ≡ Ok one → r ≡ Ok other → one ≡ other
same r one other is is_too = ap (url_or one) (sym is ∙ is_too)

pub leads_to : {E : Type 0} (site page target : Parts) (from address : List ℕ) (r : Result (Option (String Global)) E)
    → parse_url (Some site) (address_of from) ≡ Ok page → parse_url (Some page) address ≡ Ok target
    → IfOk r (IsPathAt site target) → IfOk r (IsTarget site from address)
leads_to site page target from address (Ok (Some path)) page_is target_is at = record { page = page; target = target; page_is = page_is; target_is = target_is; is_at = at }
leads_to site page target from address (Ok None) page_is target_is none = λ path text leads.
    let one_page : leads.page ≡ page = same _ leads.page page leads.page_is page_is in
    let one_target : leads.target ≡ target =
    same (parse_url (Some page) address) leads.target target (subst (λ p. parse_url (Some p) address ≡ Ok leads.target) one_page leads.target_is) target_is in
    none path text (subst (λ t. IsAt site t path) one_target leads.is_at)
leads_to site page target from address (Err e) page_is target_is at = tt
