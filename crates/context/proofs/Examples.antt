-- The bounds of whole numbers, computed from the definitions: those of an i64 and of a u64.
use Rattle.std.proofs.Common.{◌≡◌, ℕ, List, Result, Ok, Err, option_map, refl}
use Rattle.std.specs.Prelude.{codes, pos, negsuc}
use Rattle.std.specs.Float.{float_is_finite}
use Rattle.std.specs.Float.Numeral.{scan_numeral}
use lib.Ieee.{round, size, span, climb, units, odd}
use lib.Count.{count_trailing_zeros}
use Rattle.serde_json.specs.Data.{number}
use Rattle.serde_json.specs.Read.{number_of}
use Rattle.context.specs.Whole.{Whole, int, text_reading}
use Rattle.context.specs.declared.fault.DataFault.{DataFault}
use Rattle.context.specs.declared.fault.DataFault.TheVariants.{NotWhole}

-- the whole data that a numeral is
abbrev numeral : List ℕ → Result Whole DataFault
numeral t = text_reading (option_map number (number_of t))

greatest : numeral (codes "18446744073709551615") ≡ Ok (int (pos 18446744073709551615))
unfolding number_of scan_numeral
greatest = refl

past_greatest : numeral (codes "18446744073709551616") ≡ Err NotWhole
unfolding number_of scan_numeral float_is_finite round size span climb units odd count_trailing_zeros
past_greatest = refl

least : numeral (codes "-9223372036854775808") ≡ Ok (int (negsuc 9223372036854775807))
unfolding number_of scan_numeral
least = refl

past_least : numeral (codes "-9223372036854775809") ≡ Err NotWhole
unfolding number_of scan_numeral float_is_finite round size span climb units odd count_trailing_zeros
past_least = refl
