-- What is reported of a command line that gives a program nothing to do, and the exit status.
use Rattle.std.specs.Prelude.{ℕ, ◌≡◌, ◌⊎◌, List, codes}
use Rattle.engine_options.specs.declared.misuse.Misuse.{Misuse}
use Rattle.engine_options.specs.declared.misuse.Misuse.TheVariants.{NotUtf8, OutOfMemory, Refused}

abbrev SaysNoMemory : List ℕ → ℕ → Type 0
SaysNoMemory said status = (said ≡ codes "out of memory\n") × (status ≡ 1)

-- help is reported as a refusal is; an allocation may fail for its text
abbrev pub IsTold : Misuse → List ℕ → ℕ → Type 0
IsTold NotUtf8 said status =
    (said ≡ codes "error: invalid UTF-8 was detected in one or more arguments\n") × (status ≡ 2)
IsTold OutOfMemory said status = SaysNoMemory said status
IsTold (Refused refused) said status = (status ≡ 2) ⊎ SaysNoMemory said status
