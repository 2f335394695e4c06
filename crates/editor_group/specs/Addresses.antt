-- The node that a URL names.
use Rattle.std.specs.Prelude.{◌≡◌, ◌≢◌, ◌⊎◌, ⊤, ℕ, ◌<◌, List, [], ◌∷◌, ◌++◌, length, slice_index, codes}
use Rattle.std.specs.Prelude.{string_bytes}
use Rattle.std.specs.Option.{option_map}
use Rattle.editor_common.specs.Faults.{IsStopOrMemory}
use Rattle.editor_common.specs.declared.editor_fault.EditorFault.{EditorFault}
use Rattle.editor_common.specs.declared.editor_fault.EditorFault.TheVariants.{OutOfMemory}
use Rattle.editor_http.specs.Authorities.{login_before, login_shown, host_in}
use Rattle.editor_group.specs.declared.address.Address.{Address}

abbrev pub HasByte : List ℕ → ℕ → Type 0
HasByte text c = (k : ℕ) × (k < length text) × (slice_index text k ≡ c)

-- the URL without a slash (47) at its end
abbrev pub IsBare : List ℕ → List ℕ → Type 0
IsBare url bare = (url ≡ bare ++ 47 ∷ []) ⊎ ((url ≡ bare) × ((front : List ℕ) → url ≢ front ++ 47 ∷ []))

abbrev pub IsHttp : List ℕ → List ℕ → Type 0
IsHttp url text = IsBare url (codes "http://" ++ text)

-- after `http://` the URL has only texts with a slash or a blank
abbrev pub HasNoText : List ℕ → Type 0
HasNoText url = (text : List ℕ) → IsHttp url text → HasByte text 47 ⊎ HasByte text 32

-- after `http://` the URL has this text and no other; neither a slash nor a blank (32) is in it
pub record HasText (url text : List ℕ) : Type 0 where
  pub http : IsHttp url text
  pub no_slash : ¬ HasByte text 47
  pub no_blank : ¬ HasByte text 32
  pub only : (other : List ℕ) → IsHttp url other → other ≡ text

-- neither a slash nor a blank is in the text, and a host is, in which no at sign (64) is left
pub record HasHost (text : List ℕ) : Type 0 where
  pub no_slash : ¬ HasByte text 47
  pub no_blank : ¬ HasByte text 32
  pub some : host_in text ≢ []
  pub one_login : ¬ HasByte (host_in text) 64

-- if the host names no port, that is 80
abbrev pub IsAt : List ℕ → List ℕ → Type 0
IsAt host whole = (whole ≡ host) ⊎ (whole ≡ host ++ codes ":80")

-- after `http://` the URL says who is asked there, and with which login; it is shown without the login
pub record Names (url : List ℕ) (node : Address) : Type 0 where
  pub text : List ℕ
  pub http : IsHttp url text
  pub fair : HasHost text
  pub login : option_map login_shown node.authority.login ≡ login_before text
  pub host : IsAt (host_in text) (string_bytes node.authority.host)
  pub told : string_bytes node.url ≡ codes "http://" ++ host_in text

-- the URL names no node
abbrev pub NamesNone : List ℕ → Type 0
NamesNone url = (text : List ℕ) → IsHttp url text → ¬ HasHost text

-- an allocation failed, or the URL names no node, and words say so
abbrev pub IsRefused : List ℕ → EditorFault → Type 0
IsRefused url why = (why ≡ OutOfMemory) ⊎ (IsStopOrMemory why × NamesNone url)

-- one of the URLs is refused for this
abbrev pub OneIsRefused : {X : Type 0} → (X → List ℕ) → List X → EditorFault → Type 0
OneIsRefused url_of [] why = ⊥
OneIsRefused url_of (x ∷ xs) why = IsRefused (url_of x) why ⊎ OneIsRefused url_of xs why

-- each URL names one of the nodes, in order
abbrev pub AreNamed : {X : Type 0} → (X → List ℕ) → List X → List Address → Type 0
AreNamed url_of [] [] = ⊤
AreNamed url_of [] (node ∷ nodes) = ⊥
AreNamed url_of (x ∷ xs) [] = ⊥
AreNamed url_of (x ∷ xs) (node ∷ nodes) = Names (url_of x) node × AreNamed url_of xs nodes
