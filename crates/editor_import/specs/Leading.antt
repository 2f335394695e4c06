-- Which path of the same site an address is.
use Rattle.std.specs.Prelude.{◌≡◌, List, ℕ, Ok, Some, None, option_map}
use Rattle.percent_encoding.specs.Percent.{percent_decode}
use Rattle.editor_folder.specs.Moved.{address_of}
use Rattle.url.specs.Host.{host_text}
use Rattle.url.specs.Parser.{parse_url}
use Rattle.url.specs.Parts.{Parts, nonempty_host}

-- the URL has no query and no fragment
abbrev pub IsWhole : Parts → Type 0
IsWhole url = (url.query ≡ None) × (url.fragment ≡ None)

abbrev pub HasHostOf : Parts → Parts → Type 0
HasHostOf own url =
    (option_map host_text (nonempty_host own) ≡ option_map host_text (nonempty_host url))
    × (own.port ≡ url.port)

-- the URL is of the same host and names a whole page, whose path is this once decoded
pub record IsAt (own url : Parts) (path : List ℕ) : Type 0 where
  pub at_home : HasHostOf own url
  pub whole : IsWhole url
  pub decoded : percent_decode url.path ≡ path

-- From the page at `from` of a site the address leads to the page at a path of the same site, as browsers
-- read addresses (the URL Standard).
pub record Leads (site : Parts) (from address path : List ℕ) : Type 0 where
  pub page : Parts
  pub target : Parts
  pub page_is : parse_url (Some site) (address_of from) ≡ Ok page
  pub target_is : parse_url (Some page) address ≡ Ok target
  pub is_at : IsAt site target path
