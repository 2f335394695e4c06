-- What values are answered with, computed.
use Rattle.std.proofs.Common.{◌≡◌, ℕ, List, [], ◌∷◌, codes, refl}
use Rattle.std.specs.Str.{is_utf8, chars}
use Rattle.command.specs.Written.{value_of}
use Rattle.content.specs.Answered.{applied}
use Rattle.content.specs.declared.applied.Applied.TheVariants.{Changed, Released, Repeat, NotACommand}
use lib.Utf8.{encode}

abbrev numbered : ℕ → List ℕ → List ℕ
numbered n text = value_of (record { editor = 1; number = n }) text

a_release : applied [] (numbered 1 (codes "release\n")) ≡ Released
unfolding is_utf8 chars encode
a_release = refl

an_absent_name : applied [] (numbered 1 (codes "remove data d\n")) ≡ Changed
unfolding is_utf8 chars encode
an_absent_name = refl

a_repeat : applied (numbered 1 (codes "release\n") ∷ []) (numbered 1 (codes "remove data d\n")) ≡ Repeat
unfolding is_utf8 chars encode
a_repeat = refl

another_number : applied (numbered 1 (codes "release\n") ∷ []) (numbered 2 (codes "release\n")) ≡ Released
unfolding is_utf8 chars encode
another_number = refl

no_command : applied [] (numbered 1 (codes "releas\n")) ≡ NotACommand
unfolding is_utf8 chars encode
no_command = refl

-- a value that is no command keeps no ticket
after_no_command : applied (numbered 1 (codes "releas\n") ∷ []) (numbered 1 (codes "release\n")) ≡ Released
unfolding is_utf8 chars encode
after_no_command = refl
