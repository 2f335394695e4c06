-- What is noted of datagrams, one after another.
use Rattle.std.proofs.Common.{◌≡◌, ℕ, suc, ◌+◌, ◌<◌, ◌≤◌, List, [], ◌∷◌, ◌++◌, length, map, take, slice_index_or, refl, sym, ap, subst, ◌∙◌, arith}
use Rattle.std.proofs.lemmas.List.{map-append}
use Rattle.site_drive.specs.Delivering.{IsNoted, AreNoted}
use Rattle.site_drive.specs.declared.delivered.Delivered.{Delivered}
use Rattle.site_drive.proofs.Giving.{take_more, take_past}

noted_on : (n : ℕ) (front : List (List ℕ)) (bytes : List ℕ) (old mid new : Delivered) → AreNoted n front old mid → IsNoted n bytes mid new → AreNoted n (front ++ bytes ∷ []) old new
noted_on n [] bytes old mid new first then = (new, subst (λ d. IsNoted n bytes d new) first then, refl)
noted_on n (x ∷ xs) bytes old mid new first then = (first.0, first.1, noted_on n xs bytes first.0 mid new first.2 then)

module _ {X : Type 0} (bytes : X → List ℕ) (xs : List X) (i : ℕ) (n : ℕ) (old mid : Delivered) (first : AreNoted n (map bytes (take i xs)) old mid) where
  -- one more of them
  pub noted_more : (x : X) (k : ℕ) (new : Delivered) → i < length xs → x ≡ slice_index_or xs i x → k ≡ n → IsNoted k (bytes x) mid new → AreNoted n (map bytes (take (i + 1) xs)) old new
  noted_more x k new below got same then =
      let next : i + 1 ≡ suc i = omega arith in
      let more : map bytes (take i xs) ++ bytes x ∷ [] ≡ map bytes (take (i + 1) xs) =
      sym (map-append bytes (take i xs) (x ∷ [])) ∙ ap (map bytes) (sym (take_more xs i x below got)) ∙ ap (λ k. map bytes (take k xs)) (sym next)
      in
      subst (λ l. AreNoted n l old new) more (noted_on n (map bytes (take i xs)) (bytes x) old mid new first (subst (λ m. IsNoted m (bytes x) mid new) same then))

  -- all of them
  pub all_noted : length xs ≤ i → AreNoted n (map bytes xs) old mid
  all_noted past = subst (λ l. AreNoted n (map bytes l) old mid) (take_past xs i past) first
