-- What is said of a value of Content-Length.
use Rattle.std.specs.Prelude.{◌≡◌, ℕ, ◌<◌, ◌≤◌, List, false, true}
use Rattle.std.specs.Str.Parse.{digits_value}
use Rattle.http_read.specs.declared.lengths.TheConstants.{BODY_LIMIT}
use Rattle.http_read.specs.declared.lengths.Stated.{Stated}
use Rattle.http_read.specs.declared.lengths.Stated.TheVariants.{NoNumber, TooLarge, Fits}
use Rattle.http_read.specs.Checks.{is_number}

-- it is not a number, or it is one above 40,000, or it is this one
abbrev pub IsStated : List ℕ → Stated → Type 0
IsStated value NoNumber = is_number value ≡ false
IsStated value TooLarge = (is_number value ≡ true) × (BODY_LIMIT < digits_value 10 value)
IsStated value (Fits n) = (is_number value ≡ true) × (n ≡ digits_value 10 value) × (n ≤ BODY_LIMIT)
