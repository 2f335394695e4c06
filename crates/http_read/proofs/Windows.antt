-- What the bytes so far say of a head is said of the whole input.
use Rattle.std.proofs.Common.{◌≡◌, ℕ, zero, suc, ◌≤◌, List, [], ◌∷◌, ◌++◌, length, take, drop, arith, sym, ap, subst, refl, ◌∙◌, append_assoc, length-append, Option, Some, None, IfSome}
use Rattle.std.specs.Io.KnownBytes.{Keeps}
use Rattle.std.proofs.lemmas.List.{take-append-drop, length-take}
use Rattle.std.proofs.KnownBytes.{Keeps-trans}
use Rattle.std.proofs.Math.Seq.{drop-append_seam}
use Rattle.httparse.specs.Grammar.{RequestHead, print_request, ReadsRequest, NeverHasRequest}
use Rattle.httparse.proofs.GrammarLemmas.{ReadsRequest-append}
use Rattle.http_read.specs.Input.{input_of, StopsAt}

-- the first bytes of more go on where those of fewer ended
pub take_goes_on : (n : ℕ) (xs ys : List ℕ) → (w : List ℕ) × (take n (xs ++ ys) ≡ take n xs ++ w)
take_goes_on zero xs ys = ([], refl)
take_goes_on (suc n) [] ys = (take (suc n) ys, refl)
take_goes_on (suc n) (x ∷ xs) ys = let r = take_goes_on n xs ys in (r.0, ap (λ t. x ∷ t) r.1)

-- what never becomes a head never does, whatever follows
pub never_goes_on : (bytes w : List ℕ) → NeverHasRequest bytes → NeverHasRequest (bytes ++ w)
never_goes_on bytes w never = λ more h rest reads.
    never (w ++ more) h rest (subst (λ text. ReadsRequest text h rest) (append_assoc bytes w more) reads)

-- what never becomes a head in the first bytes of fewer doesn't in those of more
pub never_in_more : (n : ℕ) (held more : List ℕ) → NeverHasRequest (take n held) → NeverHasRequest (take n (held ++ more))
never_in_more n held more never =
    let r = take_goes_on n held more in
    subst NeverHasRequest (sym r.1) (never_goes_on (take n held) r.0 never)

-- the front and what follows it
rejoined : (n : ℕ) (held more : List ℕ) → take n held ++ (drop n held ++ more) ≡ held ++ more
rejoined n held more = sym (append_assoc (take n held) (drop n held) more) ∙ ap (λ t. t ++ more) (take-append-drop n held)

-- a head of the first bytes is one of the input
pub head_of_front : (n : ℕ) (held more : List ℕ) (h : RequestHead) (rest : List ℕ) → ReadsRequest (take n held) h rest
    → ReadsRequest (held ++ more) h (drop (length (print_request h)) (held ++ more))
head_of_front n held more h rest reads =
    let whole : ReadsRequest (held ++ more) h (rest ++ (drop n held ++ more)) =
    subst (λ text. ReadsRequest text h (rest ++ (drop n held ++ more))) (rejoined n held more)
    (ReadsRequest-append (take n held) h rest (drop n held ++ more) reads) in (
      whole.0,
      whole.1 ∙ ap (λ t. print_request h ++ t) (sym (ap (drop (length (print_request h))) whole.1
          ∙ drop-append_seam (print_request h) (rest ++ (drop n held ++ more)))),
    )

-- and is no longer than they are
pub head_is_short : (n : ℕ) (held : List ℕ) (h : RequestHead) (rest : List ℕ) → ReadsRequest (take n held) h rest
    → length (print_request h) ≤ n
head_is_short n held h rest reads =
    omega (arith, length-take n held, ap length reads.1, length-append (print_request h) rest)

-- what holds of the input holds of the same input seen earlier
pub of_kept : (old new : Option (List ℕ)) (P : List ℕ → Type 0) → Keeps old new → IfSome new P → IfSome old P
of_kept None new P same holds = tt
of_kept (Some xs) None P same holds = absurd same
of_kept (Some xs) (Some ys) P same holds = subst P same holds

-- where nothing more came, what was taken is what is held
pub stops_here : (first : Option (List ℕ)) (held after : List ℕ) (left left_now : Option (List ℕ)) (P : List ℕ → Type 0)
    → Keeps first (input_of held left) → Keeps (input_of held left) (input_of after left_now) → after ≡ held → P held
    → StopsAt first left_now P
stops_here None held after left left_now P kept kept_now same holds = tt
stops_here (Some xs) held after left None P kept kept_now same holds =
    absurd (Keeps-trans (Some xs) (input_of held left) None kept kept_now)
stops_here (Some xs) held after left (Some rest) P kept kept_now same holds = (
  held,
  sym (Keeps-trans (Some xs) (input_of held left) (Some (after ++ rest)) kept kept_now) ∙ ap (λ t. t ++ rest) same,
  holds,
)
