-- What a receipt leaves.
use Rattle.std.proofs.Common.{◌≡◌, ℕ, List, [], ◌∷◌, Bool, true, false, cond, Some, None, eqb, sym, ap, ◌∙◌, refl, arith}
use Rattle.std.specs.List.{find}
use Rattle.editor_ledger.specs.Books.{Given, Book}
use Rattle.editor_ledger.specs.Steps.{noted, without, received_as, received}

number_head : (b : Bool) (number : ℕ) (h g : Given) (sent : List Given) → eqb h.number number ≡ b → cond b (Some h) (find (λ u. eqb u.number number) sent) ≡ Some g
    → (find (λ u. eqb u.number number) sent ≡ Some g → g.number ≡ number) → g.number ≡ number
number_head true number h g sent e is later = let same : h ≡ g = cc in let here : h.number ≡ number = grind arith in ap (λ (u : Given). u.number) (sym same) ∙ here
number_head false number h g sent e is later = later is

-- what is found under a number has it
pub number_found : (number : ℕ) (sent : List Given) (g : Given) → find (λ h. eqb h.number number) sent ≡ Some g → g.number ≡ number
number_found number [] g is = cc
number_found number (h ∷ sent) g is = number_head (eqb h.number number) number h g sent refl is (number_found number sent g)

pub nothing_under : (number : ℕ) (book : Book) → None ≡ find (λ (g : Given). eqb g.number number) book.sent → book ≡ received number book
nothing_under number book is = ap (λ r. received_as number r book) is

pub text_under : (number : ℕ) (text : List ℕ) (book : Book) (g : Given) → Some g ≡ find (λ (h : Given). eqb h.number number) book.sent → text ≡ g.text
    → without number (noted (record { number = number; text = text }) book) ≡ received number book
text_under number text book g is same =
    let named : number ≡ g.number = sym (number_found number book.sent g (sym is)) in
    ap (λ (n : ℕ). without number (noted (record { number = n; text = text }) book)) named
    ∙ ap (λ (t : List ℕ). without number (noted (record { number = g.number; text = t }) book)) same
    ∙ ap (λ r. received_as number r book) is
