-- The bytes of a response (RFC 9112, sections 4 and 5).
use Rattle.std.specs.Prelude.{ℕ, Bool, true, false, not, ◌&&◌, ◌||◌, ◌==◌, if◌then◌else◌, List, [], ◌++◌}
use Rattle.std.specs.Prelude.{length, codes}
use Rattle.std.specs.Fmt.{decimal}
use Rattle.percent_encoding.specs.Percent.{percent_encode}
use Rattle.http_read.specs.declared.escaping.TheConstants.{ESCAPED}

-- a line of the head that only some responses have: none, the path that a page moved to, or the methods that
-- are allowed if another was used
pub data OwnLine : Type 0 where
  no_line : OwnLine
  location : List ℕ → OwnLine
  allow : List ℕ → OwnLine

-- a response before it is written: status, whether the body is a page, its own line, and the body
pub record Reply : Type 0 where
  pub status : ℕ
  pub is_page : Bool
  pub own : OwnLine
  pub body : List ℕ

-- the reason phrase; a status without one has none
unfoldable pub reason : ℕ → List ℕ
reason status =
    if status == 200 then codes "OK"
    else (if status == 202 then codes "Accepted"
    else (if status == 301 then codes "Moved Permanently"
    else (if status == 400 then codes "Bad Request"
    else (if status == 404 then codes "Not Found"
    else (if status == 405 then codes "Method Not Allowed"
    else (if status == 413 then codes "Content Too Large"
    else (if status == 414 then codes "URI Too Long"
    else (if status == 422 then codes "Unprocessable Content"
    else (if status == 431 then codes "Request Header Fields Too Large"
    else (if status == 500 then codes "Internal Server Error"
    else (if status == 501 then codes "Not Implemented"
    else (if status == 503 then codes "Service Unavailable"
    else []))))))))))))

-- its own line, and then rest (RFC 9110, sections 10.2.1 and 10.2.2)
abbrev pub line_before : OwnLine → List ℕ → List ℕ
line_before no_line rest = rest
line_before (location path) rest =
    codes "Location: " ++ (percent_encode ESCAPED path ++ (codes "\r\n" ++ rest))
line_before (allow methods) rest = codes "Allow: " ++ (methods ++ (codes "\r\n" ++ rest))

-- the media type
abbrev pub media_type : Bool → List ℕ
media_type true = codes "text/html; charset=utf-8"
media_type false = codes "text/plain; charset=utf-8"

-- a connection is closed after these: the rest of its input may be anything
abbrev pub closes : ℕ → Bool
closes status = status == 400 || status == 413 || status == 414 || status == 431 || status == 501

-- a connection that may be kept stays after this reply
abbrev pub stays_behind : Bool → Reply → Bool
stays_behind keep r = keep && not (closes r.status)

-- the end of a head: a connection that doesn't stay says so (RFC 9112, section 9.6)
abbrev pub head_end : Bool → List ℕ
head_end true = codes "\r\n\r\n"
head_end false = codes "\r\nConnection: close\r\n\r\n"

-- the head of a response, after which the connection stays or not
abbrev pub reply_head : Bool → Reply → List ℕ
reply_head stays r =
    codes "HTTP/1.1 " ++ (decimal r.status ++ (codes " " ++ (reason r.status ++ (codes "\r\nContent-Type: "
    ++ (media_type r.is_page ++ (codes "\r\n" ++ line_before r.own
    (codes "Content-Length: " ++ (decimal (length r.body) ++ head_end stays))))))))

-- the response, or only its head if the request is HEAD
abbrev pub print_reply : Bool → Bool → Reply → List ℕ
print_reply stays to_head r = reply_head stays r ++ (if to_head then [] else r.body)
