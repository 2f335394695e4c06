use Rattle.std.proofs.Common.{◌≡◌, ⊎_elim, List, ℕ, Option, Bor, MatchOption, true, false, sym, ◌∙◌, ap, subst, rules}
use Rattle.std.proofs.lemmas.Bool.{false≢true}
use Rattle.editor_http.specs.Authorities.{host_in}
use Rattle.editor_group.specs.Addresses.{HasByte, HasNoText, HasText}
use Rattle.editor_group.proofs.address.address_in.Goals as goal

pub returns-in_default : goal.returns-in_default
returns-in_default c = λ text is fair.
    let url = c.args.url.now in
    let P : Option (Bor (List ℕ)) → Type 0 = λ o. MatchOption o (HasNoText url) (λ text. HasText url text.now) in
    let none : HasNoText url = subst P c.in_default.is c.authority_of.ensures in
    ⊎_elim fair.no_slash fair.no_blank (none text is)

pub returns-then-not-is_host : goal.returns-then-not-is_host
returns-then-not-is_host c = λ text is fair.
    let url = c.args.url.now in
    let P : Option (Bor (List ℕ)) → Type 0 = λ o. MatchOption o (HasNoText url) (λ text. HasText url text.now) in
    let has : HasText url c.in-Some.text.now = subst P c.in-Some.is c.authority_of.ensures in
    let host : c.as_str.result.now ≡ host_in c.in-Some.text.now = search rules in
    let same : host_in text ≡ c.as_str.result.now = ap (λ (l : List ℕ). host_in l) (has.only text is) ∙ sym host in
    let told : c.is_host.result ≡ true = c.is_host.ensures.1 (λ none. fair.some (same ∙ none), λ at. fair.one_login (subst (λ (l : List ℕ). HasByte l 64) (sym same) at)) in
    let not : c.is_host.result ≡ false = search rules in
    false≢true (sym not ∙ told)

pub returns : goal.returns
returns c =
    let url = c.args.url.now in
    let P : Option (Bor (List ℕ)) → Type 0 = λ o. MatchOption o (HasNoText url) (λ text. HasText url text.now) in
    let has : HasText url c.in-Some.text.now = subst P c.in-Some.is c.authority_of.ensures in
    let host : c.as_str.result.now ≡ host_in c.in-Some.text.now = search rules in
    let is = c.is_host.ensures.0 (search rules) in
    record {
      text = c.in-Some.text.now;
      http = has.http;
      fair = record {
        no_slash = has.no_slash;
        no_blank = has.no_blank;
        some = λ none. is.0 (host ∙ none);
        one_login = λ at. is.1 (subst (λ (l : List ℕ). HasByte l 64) (sym host) at);
      };
      login = search rules;
      host = search rules;
      told = search rules;
    }
