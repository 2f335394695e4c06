-- What an authority spells (RFC 3986, section 3.2): a login before the first at sign, and the host.
use Rattle.std.specs.Prelude.{ℕ, ◌==◌, nat_lt, Bool, if◌then◌else◌, List, length, Option, Some, None}
use Rattle.std.specs.List.{position_or_len, before_first, after_first}
use Rattle.percent_encoding.specs.Percent.{percent_decode}
use Rattle.editor_http.specs.declared.authority.Login.{Login}

-- an at sign (64) is in it
abbrev pub has_login : List ℕ → Bool
has_login text = nat_lt (position_or_len (λ b. b == 64) text) (length text)

abbrev pub host_in : List ℕ → List ℕ
host_in text = if has_login text then after_first (λ b. b == 64) text else text

-- a user, and after the first colon (58) a password, both without their escapes
abbrev pub login_of : List ℕ → List ℕ × List ℕ
login_of text =
    (percent_decode (before_first (λ b. b == 58) text), percent_decode (after_first (λ b. b == 58) text))

abbrev pub login_before : List ℕ → Option (List ℕ × List ℕ)
login_before text = if has_login text then Some (login_of (before_first (λ b. b == 64) text)) else None

abbrev pub login_shown : Login → List ℕ × List ℕ
login_shown login = (login.user.items, login.password.items)
