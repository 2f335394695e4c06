-- What a look-up lends of the kept sites.
use Rattle.std.proofs.Common.{◌≡◌, ℕ, suc, List, length, nat_lt, Option, Some, None, IfSome, Bor, get_or, refl, sym}
use Rattle.std.proofs.lemmas.Bool.Decides.{Decides-ltb}
use Rattle.std.proofs.lemmas.Option.{slice_get_read}
use Rattle.std.specs.List.{slice_get}
use Rattle.std.specs.Option.{is_some}
use Rattle.content.specs.View.{ContentsSeen}
use Rattle.release.specs.ReleaseSite.{IsSiteOfRelease}

pub lent_site : (r : Option (Bor ContentsSeen)) (sites : List ContentsSeen) (values : List (List ℕ)) (place : ℕ) → is_some r ≡ nat_lt place (length sites) → IfSome r (λ s. s.now ≡ get_or sites place s.now)
    → ((at : ℕ) (site : ContentsSeen) → slice_get sites at ≡ Some site → IsSiteOfRelease values (suc at) site) → IfSome r (λ s. IsSiteOfRelease values (suc place) s.now)
lent_site None sites values place there is each = tt
lent_site (Some s) sites values place there is each = each place s.now (slice_get_read sites (length sites) place s.now refl ((Decides-ltb place (length sites)).0 (sym there)) is)
