-- Letters for a node, one more.
use Rattle.std.proofs.Common.{◌≡◌, ℕ, suc, ◌+◌, ◌<◌, Bool, true, false, if◌then◌else◌, slice_index_or, List, [], ◌∷◌, ◌++◌, length, take, refl, sym, ap, ◌∙◌, arith}
use Rattle.std.proofs.lemmas.List.{map-append}
use Rattle.node.specs.declared.to.To.{To}
use Rattle.site_drive.specs.Posting.{letters_of}
use Rattle.site_drive.specs.declared.letter.Letter.{Letter}
use Rattle.site_drive.proofs.Giving.{take_more}
use Rattle.server.specs.Mailing.{is_for, own_of}

kept : (b : Bool) (d : List ℕ) (xs ys : List (List ℕ)) → (if b then d ∷ (xs ++ ys) else (xs ++ ys)) ≡ (if b then d ∷ xs else xs) ++ ys
kept true d xs ys = refl
kept false d xs ys = refl

own_on : (p : ℕ) (xs ys : List (To × List ℕ)) → own_of p (xs ++ ys) ≡ own_of p xs ++ own_of p ys
own_on p [] ys = refl
own_on p (x ∷ xs) ys = ap (λ l. if is_for p x.0 then x.1 ∷ l else l) (own_on p xs ys) ∙ kept (is_for p x.0) x.1 (own_of p xs) (own_of p ys)

pub own_more : (p : ℕ) (letters : List Letter) (i : ℕ) (x : Letter) → i < length letters → x ≡ slice_index_or letters i x
    → own_of p (letters_of (take i letters)) ++ own_of p (letters_of (x ∷ [])) ≡ own_of p (letters_of (take (i + 1) letters))
own_more p letters i x below got =
    let next : suc i ≡ i + 1 = omega arith in
    sym (own_on p (letters_of (take i letters)) (letters_of (x ∷ [])))
    ∙ ap (own_of p) (sym (map-append (λ l. (l.to, l.bytes.items)) (take i letters) (x ∷ [])))
    ∙ ap (λ l. own_of p (letters_of l)) (sym (take_more letters i x below got))
    ∙ ap (λ k. own_of p (letters_of (take k letters))) next

-- one letter: it is for the node, or not
pub own_of_one : (p : ℕ) (x : Letter) → is_for p x.to ≡ true → own_of p (letters_of (x ∷ [])) ≡ x.bytes.items ∷ []
own_of_one p x is = ap (λ b. if b then x.bytes.items ∷ [] else []) is

pub own_of_none : (p : ℕ) (x : Letter) → is_for p x.to ≡ false → own_of p (letters_of (x ∷ [])) ≡ []
own_of_none p x is = ap (λ b. if b then x.bytes.items ∷ [] else []) is
