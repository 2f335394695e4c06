-- A path names one resource.
use Rattle.std.proofs.Common.{◌≡◌, ◌≢◌, ℕ, ◌<◌, ◌^◌, List, ◌∷◌, ◌++◌, length, slice_index, decimal, codes, arith, sym, ap, ap₂, refl, ◌∙◌, inl, inr}
use Rattle.std.proofs.lemmas.List.{get_or_append_left, append_cancel_left}
use Rattle.std.proofs.lemmas.Fmt.{decimal_injective}
use Rattle.site_ids.specs.declared.Ticket.{Ticket}
use Rattle.http_serve.specs.Paths.{Resource, submission, receipt, newest, release, unknown, page, IsTicketPath, IsReserved, IsOwn, Names}
use Rattle.http_serve.specs.Laws.{NamesOne}
use Rattle.http_serve.proofs.Slashes.{no_slash_in, slash_there, number_before}

one_front : (a b : ℕ) (s t : List ℕ) → a < 2 ^ 64 → b < 2 ^ 64 → decimal a ++ 47 ∷ s ≡ decimal b ++ 47 ∷ t → (a ≡ b) × (s ≡ t)
one_front a b s t small fits e =
    let first : (k : ℕ) → k < length (decimal a) → slice_index (decimal a ++ 47 ∷ s) k ≢ 47 =
    λ k below is. no_slash_in a small k below (sym (get_or_append_left (decimal a) (47 ∷ s) 0 k below) ∙ is) in
    let left = number_before (decimal a ++ 47 ∷ s) t b (length (decimal a)) fits e (slash_there (decimal a) s) first in
    let right = number_before (decimal a ++ 47 ∷ s) s a (length (decimal a)) small refl (slash_there (decimal a) s) first in
    (decimal_injective a b small fits (sym right.0 ∙ left.0), sym right.1 ∙ left.1)

pub one_ticket : (word path : List ℕ) (t u : Ticket) → IsTicketPath word path t → IsTicketPath word path u → t ≡ u
one_ticket word path t u (small, fits, is) (small_too, fits_too, it) =
    let parts = one_front t.editor u.editor (decimal t.number) (decimal u.number) (omega (arith, small)) (omega (arith, small_too))
    (append_cancel_left word (decimal t.editor ++ 47 ∷ decimal t.number) (decimal u.editor ++ 47 ∷ decimal u.number) (sym is ∙ it)) in
    ap₂ (λ e k. record { editor = e; number = k }) parts.0 (decimal_injective t.number u.number fits fits_too parts.1)

-- paths that differ at a byte
apart : (xs ys : List ℕ) (i : ℕ) → xs ≡ ys → slice_index xs i ≡ slice_index ys i
apart xs ys i e = ap (λ t. slice_index t i) e

one_own : (path : List ℕ) (a b : Resource) → IsOwn path a → IsOwn path b → a ≡ b
one_own path (submission t) (submission u) x y = ap (λ t. submission t) (one_ticket (codes "/_submit/") path t u x y)
one_own path (submission t) (receipt u) x y = absurd (omega (arith, apart _ _ 2 (sym x.2 ∙ y.2)))
one_own path (submission t) newest x y = absurd (omega (arith, apart _ _ 2 (sym x.2 ∙ y)))
one_own path (submission t) (release n rest) x y = absurd (omega (arith, apart _ _ 1 (sym x.2 ∙ y.2)))
one_own path (receipt t) (submission u) x y = absurd (omega (arith, apart _ _ 2 (sym x.2 ∙ y.2)))
one_own path (receipt t) (receipt u) x y = ap (λ t. receipt t) (one_ticket (codes "/_ticket/") path t u x y)
one_own path (receipt t) newest x y = absurd (omega (arith, apart _ _ 2 (sym x.2 ∙ y)))
one_own path (receipt t) (release n rest) x y = absurd (omega (arith, apart _ _ 1 (sym x.2 ∙ y.2)))
one_own path newest (submission u) x y = absurd (omega (arith, apart _ _ 2 (sym x ∙ y.2)))
one_own path newest (receipt u) x y = absurd (omega (arith, apart _ _ 2 (sym x ∙ y.2)))
one_own path newest newest x y = refl
one_own path newest (release n rest) x y = absurd (omega (arith, apart _ _ 1 (sym x ∙ y.2)))
one_own path (release n rest) (submission u) x y = absurd (omega (arith, apart _ _ 1 (sym x.2 ∙ y.2)))
one_own path (release n rest) (receipt u) x y = absurd (omega (arith, apart _ _ 1 (sym x.2 ∙ y.2)))
one_own path (release n rest) newest x y = absurd (omega (arith, apart _ _ 1 (sym x.2 ∙ y)))
one_own path (release n rest) (release m others) (small, tail, is) (fits, end, it) =
    let e : decimal n ++ 47 ∷ tail.0 ≡ decimal m ++ 47 ∷ end.0 =
    ap (λ t. decimal n ++ t) (sym tail.1)
    ∙ append_cancel_left (codes "/@") (decimal n ++ rest) (decimal m ++ others) (sym is ∙ it) ∙ ap (λ t. decimal m ++ t) end.1 in
    let parts = one_front n m tail.0 end.0 small fits e in
    ap₂ (λ h t. release h t) parts.0 (tail.1 ∙ ap (λ t. 47 ∷ t) parts.1 ∙ sym end.1)
one_own path (submission t) unknown x y = absurd y
one_own path (submission t) page x y = absurd y
one_own path (receipt t) unknown x y = absurd y
one_own path (receipt t) page x y = absurd y
one_own path newest unknown x y = absurd y
one_own path newest page x y = absurd y
one_own path (release n rest) unknown x y = absurd y
one_own path (release n rest) page x y = absurd y
one_own path unknown b x y = absurd x
one_own path page b x y = absurd x

own_reserved : (path : List ℕ) (a : Resource) → IsOwn path a → IsReserved path
own_reserved path (submission t) x = inl (codes "submit/" ++ (decimal t.editor ++ (codes "/" ++ decimal t.number)), x.2)
own_reserved path (receipt t) x = inl (codes "ticket/" ++ (decimal t.editor ++ (codes "/" ++ decimal t.number)), x.2)
own_reserved path newest x = inl (codes "newest", x)
own_reserved path (release n rest) x = inr (decimal n ++ rest, x.2)
own_reserved path unknown x = absurd x
own_reserved path page x = absurd x

-- the server's own, nothing that is kept for it, or a page
data Kind (path : List ℕ) (a : Resource) : Type 0 where
  own : IsOwn path a → Kind path a
  nothing : a ≡ unknown → IsReserved path → ((resource : Resource) → ¬ (IsOwn path resource)) → Kind path a
  shown : a ≡ page → ¬ (IsReserved path) → Kind path a

kind : (path : List ℕ) (a : Resource) → Names path a → Kind path a
kind path (submission t) x = own x
kind path (receipt t) x = own x
kind path newest x = own x
kind path (release n rest) x = own x
kind path unknown (kept, none) = nothing refl kept none
kind path page x = shown refl x

by_kind : (path : List ℕ) (a b : Resource) → Kind path a → Kind path b → a ≡ b
by_kind path a b (own x) (own y) = one_own path a b x y
by_kind path a b (own x) (nothing is kept none) = absurd (none a x)
by_kind path a b (own x) (shown is free) = absurd (free (own_reserved path a x))
by_kind path a b (nothing is kept none) (own y) = absurd (none b y)
by_kind path a b (nothing is kept none) (nothing it kept_too none_too) = is ∙ sym it
by_kind path a b (nothing is kept none) (shown it free) = absurd (free kept)
by_kind path a b (shown is free) (own y) = absurd (free (own_reserved path b y))
by_kind path a b (shown is free) (nothing it kept none) = absurd (free kept)
by_kind path a b (shown is free) (shown it free_too) = is ∙ sym it

pub names_one : NamesOne
names_one path a b x y = by_kind path a b (kind path a x) (kind path b y)
