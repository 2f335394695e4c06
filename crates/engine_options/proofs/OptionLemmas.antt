-- The options that the getters read, by the rows that the words gave.
use Rattle.std.proofs.Common.{◌≡◌, ◌∙◌, ℕ, List, Option, Some, None, Result, Ok, Err, refl, sym, ap, subst, codes}
use Rattle.std.specs.Str.Parse.{ParsesUnsigned}
use Rattle.clap.specs.Words.{Row, rows_of, first_value, one_text, one_of, first_of, IsUnsignedIn, ReadsOne}
use Rattle.clap.specs.declared.parser.matches.Found.{Found}
use Rattle.clap.proofs.WalkLemmas.{first_value-rows, one_text-rows}
use Rattle.engine_options.specs.Options.{Gives, IsNumberOf}
use Rattle.engine_options.specs.declared.render_line.RenderOptions.{RenderOptions}

number_of : (E : Type 0) (G : List ℕ → Result ℕ E → Type 0) → ((u : List ℕ) (x : Result ℕ E) → G u x → ParsesUnsigned 64 10 u x)
    → (t : List ℕ) (r : Option ℕ) → IsUnsignedIn 0 18446744073709551615 t → ReadsOne G t r → IsNumberOf (Some t) r
number_of E G only t (Some v) passed read = (passed.0, ap (λ (n : ℕ). Some n) (only t (Ok v) read).1)
number_of E G only t None passed read = absurd (only t (Err read.0) read.1 (passed.0, passed.1))

-- an argument that may have a number
pub optional_number : (E : Type 0) (G : List ℕ → Result ℕ E → Type 0) → ((u : List ℕ) (x : Result ℕ E) → G u x → ParsesUnsigned 64 10 u x)
    → (x : Option (List ℕ)) (r : Option ℕ) → ((t : List ℕ) → x ≡ Some t → IsUnsignedIn 0 18446744073709551615 t) → (x ≡ None → r ≡ None)
    → ((t : List ℕ) → x ≡ Some t → ReadsOne G t r) → IsNumberOf x r
optional_number E G only None r passed none some = none refl
optional_number E G only (Some t) r passed none some = number_of E G only t r (passed t refl) (some t refl)

-- what the getters gave is what the rows hold
pub given : (E : Type 0) (G : List ℕ → Result ℕ E → Type 0) → ((u : List ℕ) (x : Result ℕ E) → G u x → ParsesUnsigned 64 10 u x)
    → (f : Found) (rows : List Row) (o : RenderOptions) → rows_of f ≡ rows
    → Some o.path.now ≡ first_value f (codes "path")
    → ((t : List ℕ) → one_text f (codes "release") ≡ Some t → IsUnsignedIn 0 18446744073709551615 t)
    → (one_text f (codes "release") ≡ None → o.release ≡ None)
    → ((t : List ℕ) → one_text f (codes "release") ≡ Some t → ReadsOne G t o.release)
    → Gives rows o
given E G only f rows o are path passed none some = record {
  path = ap (first_of (codes "path")) (sym are) ∙ (sym (first_value-rows f (codes "path")) ∙ sym path);
  release = subst (λ x. IsNumberOf x o.release) (one_text-rows f (codes "release") ∙ ap (one_of (codes "release")) are) (go (one_text f (codes "release")) refl);
}
  where
    go : (x : Option (List ℕ)) → one_text f (codes "release") ≡ x → IsNumberOf (one_text f (codes "release")) o.release
    go None is = rw is (none is)
    go (Some t) is = rw is (number_of E G only t o.release (passed t is) (some t is))
