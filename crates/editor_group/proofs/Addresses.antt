-- What a URL has after `http://`, and that it is one text.
use Rattle.std.proofs.Common.{◌≡◌, ◌≢◌, ◌⊎◌, ⊎_elim, ℕ, List, [], ◌∷◌, ◌++◌, drop, codes, sym, ◌∙◌, ap, subst}
use Rattle.std.proofs.lemmas.List.{append_cancel_right}
use Rattle.editor_group.specs.Addresses.{IsBare, IsHttp, HasNoText}

-- a URL without a slash at its end is one text
pub one_bare : (url a b : List ℕ) → IsBare url a → IsBare url b → a ≡ b
one_bare url a b first second =
    ⊎_elim
    (λ (x : url ≡ a ++ 47 ∷ []). ⊎_elim (λ (y : url ≡ b ++ 47 ∷ []). append_cancel_right a b (47 ∷ []) (sym x ∙ y)) (λ y. absurd (y.1 a x)) second)
    (λ (x : (url ≡ a) × ((front : List ℕ) → url ≢ front ++ 47 ∷ [])). ⊎_elim (λ (y : url ≡ b ++ 47 ∷ []). absurd (x.1 b y)) (λ y. sym x.0 ∙ y.0) second)
    first

-- and so is what it has after `http://`
pub one_text : (url a b : List ℕ) → IsBare url (codes "http://" ++ a) → IsBare url (codes "http://" ++ b) → a ≡ b
one_text url a b first second = ap (λ (l : List ℕ). drop 7 l) (one_bare url (codes "http://" ++ a) (codes "http://" ++ b) first second)

-- a URL that does not begin with `http://` has no text after that
pub none_after : (url bare : List ℕ) → IsBare url bare → ((rest : List ℕ) → bare ≢ codes "http://" ++ rest) → HasNoText url
none_after url bare is none text http = absurd (none text (one_bare url bare (codes "http://" ++ text) is http))

-- what follows `http://` in a URL without its slash, and nothing else, is its text
pub has_text : (url bare text : List ℕ) (n : ℕ) → IsBare url bare → bare ≡ codes "http://" ++ drop n bare → text ≡ drop n bare
    → IsHttp url text × ((other : List ℕ) → IsHttp url other → other ≡ text)
has_text url bare text n is front rest =
    let whole : bare ≡ codes "http://" ++ text = front ∙ ap (λ (l : List ℕ). codes "http://" ++ l) (sym rest) in
    let http : IsHttp url text = subst (λ (l : List ℕ). IsBare url l) whole is in
    (http, λ other so. one_text url other text so http)
