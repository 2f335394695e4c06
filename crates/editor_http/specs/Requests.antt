-- The bytes of what is asked of a node (RFC 9112, section 3).
use Rattle.std.specs.Prelude.{ℕ, Bool, if◌then◌else◌, List, [], ◌++◌, length, codes, Option, Some, None}
use Rattle.std.specs.Prelude.{string_bytes}
use Rattle.std.specs.Option.{option_map}
use Rattle.std.specs.Fmt.{decimal}
use Rattle.base64.specs.Engines.{standard}
use Rattle.base64.specs.GeneralPurpose.{encode_of}
use Rattle.percent_encoding.specs.Percent.{percent_encode}
use Rattle.site_ids.specs.declared.Ticket.{Ticket}
use Rattle.editor_http.specs.Authorities.{login_shown}
use Rattle.editor_http.specs.declared.authority.Authority.{Authority}
use Rattle.http_read.specs.declared.escaping.TheConstants.{ESCAPED}
use Rattle.editor_http.specs.declared.question.Question.{Question}
use Rattle.editor_http.specs.declared.question.Question.TheVariants.{Submit, Receipt, Newest, Page}

-- the field line that ends a connection: only the last request has it
abbrev pub closing : Bool → List ℕ
closing last = if last then codes "Connection: close\r\n" else []

-- a user and a password as one word (RFC 7617, section 2)
abbrev pub credentials_of : List ℕ × List ℕ → List ℕ
credentials_of login = encode_of standard (login.0 ++ (codes ":" ++ login.1))

abbrev pub authorization_of : Option (List ℕ × List ℕ) → List ℕ
authorization_of None = []
authorization_of (Some login) = codes "Authorization: Basic " ++ (credentials_of login ++ codes "\r\n")

-- the field lines of each request
abbrev pub fields_of : Authority → Bool → List ℕ
fields_of to last =
    codes "Host: " ++ (string_bytes to.host
    ++ (codes "\r\n" ++ (authorization_of (option_map login_shown to.login) ++ closing last)))

abbrev pub submit_request : List ℕ → Ticket → List ℕ → List ℕ
submit_request fields ticket text =
    codes "POST /_submit/" ++ (decimal ticket.editor ++ (codes "/" ++ (decimal ticket.number
    ++ (codes " HTTP/1.1\r\n"
    ++ (fields ++ (codes "Content-Length: " ++ (decimal (length text) ++ (codes "\r\n\r\n" ++ text))))))))

abbrev pub get_request : List ℕ → List ℕ → List ℕ
get_request fields target = codes "GET " ++ (target ++ (codes " HTTP/1.1\r\n" ++ (fields ++ codes "\r\n")))

abbrev pub receipt_target : Ticket → List ℕ
receipt_target ticket = codes "/_ticket/" ++ (decimal ticket.editor ++ (codes "/" ++ decimal ticket.number))

abbrev pub page_target : ℕ → List ℕ → List ℕ
page_target release path = codes "/@" ++ (decimal release ++ percent_encode ESCAPED path)

-- a request with these field lines
abbrev pub request_with : List ℕ → Question → List ℕ
request_with fields (Submit ticket text) = submit_request fields ticket text.now
request_with fields (Receipt ticket) = get_request fields (receipt_target ticket)
request_with fields Newest = get_request fields (codes "/_newest")
request_with fields (Page release path) = get_request fields (page_target release path.now)

abbrev pub request_of : Authority → Bool → Question → List ℕ
request_of to last question = request_with (fields_of to last) question
