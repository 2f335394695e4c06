-- Examples, computed from the definitions.
use Rattle.std.proofs.Common.{◌≡◌, ℕ, zero, suc, Bool, List, [], ◌∷◌, not, filter, codes, true, false, Some, None, Ok, Err, arith, refl}
use Rattle.std.specs.Fmt.{digits}
use Rattle.percent_encoding.specs.AsciiSet.{should_percent_encode}
use Rattle.percent_encoding.specs.Percent.{percent_encode, percent_encode_byte}
use Rattle.http_read.specs.declared.escaping.TheConstants.{ESCAPED}
use Rattle.command.specs.declared.fault.CommandFault.TheVariants.{TooLong}
use Rattle.release.specs.Page.{in_place, moved_to}
use Rattle.http_serve.specs.declared.submission.Submission.TheVariants.{Queued}
use Rattle.http_serve.specs.declared.submission.SubmitFault.TheVariants.{Command}
use Rattle.http_read.specs.Requests.{Asked}
use Rattle.http_serve.specs.Connections.{may_stay}
use Rattle.http_serve.specs.Paths.{Names, submission, receipt, release}
use Rattle.http_serve.specs.Replies.{print_reply, reason}
use Rattle.http_serve.specs.Responses.{page_reply, refusal, wrong_method, outcome_reply, plain}

-- ---- responses

-- the numbers below one, and then a list
below : ℕ → List ℕ → List ℕ
below zero later = later
below (suc n) later = below n (n ∷ later)

a_page : print_reply false false (page_reply (Some (in_place 200 (codes "Hi\n"))))
    ≡ codes "HTTP/1.1 200 OK\r\nContent-Type: text/html; charset=utf-8\r\nContent-Length: 3\r\nConnection: close\r\n\r\nHi\n"
unfolding reason digits
a_page = refl

kept : print_reply true false (page_reply (Some (in_place 200 (codes "Hi\n"))))
    ≡ codes "HTTP/1.1 200 OK\r\nContent-Type: text/html; charset=utf-8\r\nContent-Length: 3\r\n\r\nHi\n"
unfolding reason digits
kept = refl

to_head : print_reply false true (page_reply (Some (in_place 200 (codes "Hi\n"))))
    ≡ codes "HTTP/1.1 200 OK\r\nContent-Type: text/html; charset=utf-8\r\nContent-Length: 3\r\nConnection: close\r\n\r\n"
unfolding reason digits
to_head = refl

no_page : print_reply false false (page_reply None)
    ≡ codes "HTTP/1.1 404 Not Found\r\nContent-Type: text/plain; charset=utf-8\r\nContent-Length: 11\r\nConnection: close\r\n\r\nno release\n"
unfolding reason digits
no_page = refl

moved : print_reply false false (page_reply (Some (moved_to (codes "/h"))))
    ≡ codes "HTTP/1.1 301 Moved Permanently\r\nContent-Type: text/plain; charset=utf-8\r\nLocation: /h\r\nContent-Length: 12\r\nConnection: close\r\n\r\nmoved to /h\n"
unfolding reason digits percent_encode should_percent_encode percent_encode_byte
moved = refl

escaped : percent_encode ESCAPED (47 ∷ 195 ∷ 169 ∷ codes "?a=b%\\") ≡ codes "/%C3%A9%3Fa%3Db%25%5C"
unfolding percent_encode should_percent_encode percent_encode_byte
escaped = refl

-- these bytes alone stand for themselves
unescaped : filter (λ b. not (should_percent_encode ESCAPED b)) (below 256 []) ≡ codes "-./0123456789ABCDEFGHIJKLMNOPQRSTUVWXYZ_abcdefghijklmnopqrstuvwxyz~"
unfolding should_percent_encode below
unescaped = refl

wants_get : print_reply false false (wrong_method (codes "GET, HEAD"))
    ≡ codes "HTTP/1.1 405 Method Not Allowed\r\nContent-Type: text/plain; charset=utf-8\r\nAllow: GET, HEAD\r\nContent-Length: 19\r\nConnection: close\r\n\r\nmethod not allowed\n"
unfolding reason digits
wants_get = refl

too_long : print_reply false false (refusal 431)
    ≡ codes "HTTP/1.1 431 Request Header Fields Too Large\r\nContent-Type: text/plain; charset=utf-8\r\nContent-Length: 15\r\nConnection: close\r\n\r\nhead too large\n"
unfolding reason digits
too_long = refl

no_command : outcome_reply (Err (Command TooLong)) ≡ Some (plain 422 (codes "1 TooLong"))
no_command = refl

queued : outcome_reply (Ok Queued) ≡ Some (plain 202 (codes "queued"))
queued = refl

-- ---- how long a connection stays

abbrev asked : Bool → Asked
asked keep = record { method = codes "GET"; path = codes "/h"; keep = keep; body = [] }

first : may_stay 1 (asked true) (plain 200 (codes "queued")) ≡ true
first = refl

not_wanted : may_stay 1 (asked false) (plain 200 (codes "queued")) ≡ false
not_wanted = refl

the_99th : may_stay 99 (asked true) (plain 404 (codes "not found")) ≡ true
the_99th = refl

the_hundredth : may_stay 100 (asked true) (plain 200 (codes "queued")) ≡ false
the_hundredth = refl

not_implemented : may_stay 1 (asked true) (plain 501 (codes "not implemented")) ≡ false
not_implemented = refl

-- ---- paths

a_submission : Names (codes "/_submit/1/5") (submission (record { editor = 1; number = 5 }))
unfolding digits
a_submission = (omega arith, omega arith, refl)

a_receipt : Names (codes "/_ticket/0/18446744073709551615") (receipt (record { editor = 0; number = 18446744073709551615 }))
unfolding digits
a_receipt = (omega arith, omega arith, refl)

a_release : Names (codes "/@9/") (release 9 (codes "/"))
unfolding digits
a_release = (omega arith, ([], refl), refl)
