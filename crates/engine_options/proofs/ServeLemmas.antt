-- The numbers that a getter reads of the arguments of a chain.
use Rattle.std.proofs.Common.{◌≡◌, ◌==◌, ◌<◌, ℕ, Bool, true, false, List, [], ◌∷◌, Some, None, refl, sym, ap, subst, arith, cond, drop, length}
use Rattle.std.specs.Prelude.{pos, unwrap_or}
use Rattle.std.specs.Str.Parse.{IsNumeral, digits_value, starts_with_minus, without_leading_plus}
use Rattle.std.proofs.lemmas.Bool.{ne_eqb}
use Rattle.std.proofs.lemmas.Int.{ints}
use Rattle.std.proofs.lemmas.Str.Parse.{digit_from_value}
use Rattle.clap.specs.Words.{found_of, one_text, IsSignedIn, IsParsedFrom, without_minus}
use Rattle.clap.specs.Built.{TakesValue}
use Rattle.clap.specs.declared.builder.arg.Arg.{Arg}
use Rattle.clap.specs.declared.builder.command.Command.{Command}
use Rattle.clap.specs.declared.builder.value_parser.ValueParser.TheVariants.{Signed}
use Rattle.clap.specs.declared.parser.matches.ArgMatches.{ArgMatches}
use Rattle.std.specs.List.{slice_index_or}
use Rattle.engine_options.specs.ServeOptions.{SpellsBelow}
use Rattle.engine_options.proofs.Chains.{IsChain, chain_read}

without_minus-cond : (t : List ℕ) → without_minus t ≡ cond (starts_with_minus t) (drop 1 t) t
without_minus-cond [] = refl
without_minus-cond (x ∷ xs) = go (x == 45)
  where
    go : (b : Bool) → unwrap_or (cond b (Some xs) None) (x ∷ xs) ≡ cond b xs (x ∷ xs)
    go true = refl
    go false = refl

no_plus : (ds : List ℕ) → IsNumeral 10 ds → without_leading_plus ds ≡ ds
no_plus [] h = refl
no_plus (d ∷ ds) h =
    let plus : (d == 43) ≡ false = ne_eqb _ _ (λ e. omega (arith, digit_from_value d h.1.0)) in
    ap (λ (b : Bool). drop (cond b 1 0) (d ∷ ds)) plus

-- a text that passed a range with no negative number, without its minus, spells a number of that range
spells : (low high bound : ℕ) (t : List ℕ) → IsSignedIn (pos low) (pos high) t → high < bound → SpellsBelow bound (Some (without_minus t))
spells low high bound t passed fits = subst (λ (u : List ℕ). SpellsBelow bound (Some u)) (sym (without_minus-cond t)) (go (starts_with_minus t) refl)
  where
    go : (b : Bool) → starts_with_minus t ≡ b → SpellsBelow bound (Some (cond (starts_with_minus t) (drop 1 t) t))
    go true minus =
        let low_ok = rw minus at passed.2 in
        let numeral : IsNumeral 10 (drop 1 t) = rw minus at passed.0 in
        let small : digits_value 10 (drop 1 t) < bound = omega (arith, ints) in
        subst (λ (c : Bool). SpellsBelow bound (Some (cond c (drop 1 t) t))) (sym minus)
        (subst (λ (u : List ℕ). IsNumeral 10 u × (digits_value 10 u < bound)) (sym (no_plus (drop 1 t) numeral)) (numeral, small))
    go false minus =
        let high_ok = rw minus at passed.3 in
        let numeral : IsNumeral 10 (without_leading_plus t) = rw minus at passed.0 in
        let small : digits_value 10 (without_leading_plus t) < bound = omega (arith, ints) in
        subst (λ (c : Bool). SpellsBelow bound (Some (cond c (drop 1 t) t))) (sym minus) (numeral, small)

-- the number that the argument at place k of a chain has
pub chain_number : (start command : Command) (xs : List Arg) (ids : List (List ℕ)) (k : ℕ) (d : Arg) (high bound : ℕ) (m : ArgMatches) → IsChain start command xs ids
    → k < length xs → TakesValue (slice_index_or xs k d) → (slice_index_or xs k d).value_parser ≡ Some (Signed (pos 0) (pos high)) → high < bound
    → IsParsedFrom command m → SpellsBelow bound (one_text (found_of m) (slice_index_or xs k d).id.now)
chain_number start command xs ids k d high bound m chain lt value parser fits parsed =
    let got = chain_read start command xs ids k d (Signed (pos 0) (pos high)) m chain lt value parser parsed in
    subst (SpellsBelow bound) (sym got.1) (spells 0 high bound got.0 got.2 fits)
