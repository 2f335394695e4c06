-- What the words give to a command that has a definition, by that definition alone.
use Rattle.std.proofs.Common.{◌≡◌, ◌∙◌, true, ap, subst, List, Result}
use Rattle.std.specs.Prelude.{IfOk, IfErr}
use Rattle.std.proofs.lemmas.Result.{IfErr-weaker, IfOk-weaker}
use Rattle.clap.specs.Words.{App, Text, HasMatchesOf, is_simple, takes, matches_of, fault_of, is_simple_and_free, FailsBy, found_of, rows_of, kind_of}
use Rattle.clap.specs.declared.error.kind.ErrorKind.TheVariants.{OutOfMemory}
use Rattle.clap.specs.declared.error.Error.{Error}
use Rattle.clap.specs.declared.parser.matches.ArgMatches.{ArgMatches}
use Rattle.engine_options.proofs.Chains.{and_left}

-- one that is simple and free is simple
pub simple_by : (a : App) → is_simple_and_free a ≡ true → is_simple a ≡ true
simple_by a free = and_left (is_simple a) _ free

-- its rows
pub rows_by : (a b : App) (words : List Text) (r : Result ArgMatches Error) → a ≡ b → is_simple b ≡ true
    → IfOk r (HasMatchesOf a words) → IfOk r (λ m. rows_of (found_of m) ≡ matches_of b words)
rows_by a b words r is simple = IfOk-weaker r _ _ (λ m h. (h (ap is_simple is ∙ simple)).0 ∙ ap (λ (x : App). matches_of x words) is)

-- no word of words that it takes is refused
pub taken_by : (a b : App) (words : List Text) (r : Result ArgMatches Error) → a ≡ b
    → IfErr r (λ e. takes a words ≡ true → kind_of e ≡ OutOfMemory) → takes b words ≡ true → IfErr r (λ e. kind_of e ≡ OutOfMemory)
taken_by a b words r is passes t = IfErr-weaker r _ _ (λ e h. h (ap (λ (x : App). takes x words) is ∙ t)) passes

-- and others by its kind of fault
pub refused_by : (a b : App) (words : List Text) (r : Result ArgMatches Error) → a ≡ b → is_simple_and_free b ≡ true
    → (is_simple_and_free a ≡ true → FailsBy (fault_of a words) r) → FailsBy (fault_of b words) r
refused_by a b words r is free kinds = subst (λ (x : App). FailsBy (fault_of x words) r) is (kinds (ap is_simple_and_free is ∙ free))
