-- Effective commands, as values are added.
use Rattle.std.proofs.Common.{◌≡◌, ℕ, suc, ◌≤◌, ◌+◌, List, [], ◌∷◌, ◌++◌, length, take, map, filter, refl, sym, ap, ◌∙◌, arith, add-zero}
use Rattle.std.specs.List.{enumerate_from}
use Rattle.std.proofs.lemmas.List.{take-append-le, map-append}
use Rattle.std.proofs.lemmas.List.Elements.{filter-append, filter_map-append}
use Rattle.command.specs.Action.{Order}
use Rattle.command.specs.Reading.{value_reading}
use Rattle.command.specs.Effective.{if_command, commands_of, is_first, firsts}
use Rattle.command.specs.Laws.{EffectiveGrows}

enumerate-append : (k : ℕ) (xs ys : List Order) → enumerate_from k (xs ++ ys) ≡ enumerate_from k xs ++ enumerate_from (k + length xs) ys
enumerate-append k [] ys = ap (λ n. enumerate_from n ys) (sym (add-zero k))
enumerate-append k (x ∷ xs) ys =
    let far : k + 1 + length xs ≡ k + suc (length xs) = omega arith in
    ap (λ ps. (k, x) ∷ ps) (enumerate-append (k + 1) xs ys ∙ ap (λ n. enumerate_from (k + 1) xs ++ enumerate_from n ys) far)

-- a place within the list sees the same commands before it, whatever follows
same_firsts : (base more xs : List Order) (k : ℕ) → k + length xs ≤ length base → filter (is_first (base ++ more)) (enumerate_from k xs) ≡ filter (is_first base) (enumerate_from k xs)
same_firsts base more [] k h = refl
same_firsts base more (x ∷ xs) k h =
    let same : take k (base ++ more) ≡ take k base = take-append-le k base more (omega arith) in
    let later = same_firsts base more xs (k + 1) (omega arith) in
    rw (same, later)

abbrev order_of : ℕ × Order → Order
order_of p = p.1

pub firsts-append : (xs ys : List Order) → firsts (xs ++ ys) ≡ firsts xs ++ map order_of (filter (is_first (xs ++ ys)) (enumerate_from (0 + length xs) ys))
firsts-append xs ys =
    ap (λ ps. map order_of (filter (is_first (xs ++ ys)) ps)) (enumerate-append 0 xs ys)
    ∙ ap (map order_of) (filter-append (is_first (xs ++ ys)) (enumerate_from 0 xs) (enumerate_from (0 + length xs) ys))
    ∙ map-append order_of _ _
    ∙ ap (λ ps. map order_of ps ++ map order_of (filter (is_first (xs ++ ys)) (enumerate_from (0 + length xs) ys))) (same_firsts xs ys xs 0 (omega arith))

pub effective_grows : EffectiveGrows
effective_grows values more =
    let xs = commands_of values in
    let ys = commands_of more in
    let rest = map order_of (filter (is_first (xs ++ ys)) (enumerate_from (0 + length xs) ys)) in (
      rest,
      ap firsts (filter_map-append (λ v. if_command (value_reading v)) values more) ∙ firsts-append xs ys,
    )
