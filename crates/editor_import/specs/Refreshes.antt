-- Where a page leads on to.
use Rattle.std.specs.Prelude.{◌≡◌, ℕ, List, Option, None, Some, codes}
use Rattle.mustache_scan.specs.Cutting.{cut}

-- what comes before a cut
abbrev pub cut_front : Option (List ℕ × List ℕ) → Option (List ℕ)
cut_front None = None
cut_front (Some (before, after)) = Some before

abbrev pub up_to : List ℕ → Option (List ℕ × List ℕ) → Option (List ℕ)
up_to mark None = None
up_to mark (Some (before, after)) = cut_front (cut mark after)

-- what comes after the first place of an opening, up to the next mark
abbrev pub address_behind : List ℕ → List ℕ → List ℕ → Option (List ℕ)
address_behind opening mark page = up_to mark (cut opening page)

abbrev pub or_else : Option (List ℕ) → Option (List ℕ) → Option (List ℕ)
or_else None other = other
or_else (Some address) other = Some address

-- the address to which a page goes at once: after the opening that generators write, else after the short one
abbrev pub refresh : List ℕ → Option (List ℕ)
refresh page =
    or_else (address_behind (codes "<meta http-equiv=\"refresh\" content=\"0; url=") (codes "\"") page)
    (address_behind (codes "<meta http-equiv=refresh content=\"0; url=") (codes "\"") page)

-- the address that a page names as its canonical one (RFC 6596), likewise
abbrev pub canonical : List ℕ → Option (List ℕ)
canonical page =
    or_else (address_behind (codes "<link rel=\"canonical\" href=\"") (codes "\"") page)
    (address_behind (codes "<link rel=canonical href=") (codes ">") page)

-- the page has neither a comment nor a part for browsers without scripts: the addresses may be there
pub record IsPlain (page : List ℕ) : Type 0 where
  pub uncommented : cut (codes "<!--") page ≡ None
  pub for_all : cut (codes "<noscript") page ≡ None

-- A page leads on to the address: it goes there at once, and names it as its canonical one. It is plain, so
-- it says so to each browser.
pub record LeadsOn (page address : List ℕ) : Type 0 where
  pub plain : IsPlain page
  pub at_once : refresh page ≡ Some address
  pub named : canonical page ≡ Some address
