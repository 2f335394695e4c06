-- What a client sends, and what it reads and shows of an answer.
use Rattle.std.specs.Prelude.{ℕ, ◌≡◌, ◌<◌, List, ◌++◌, length, codes, decimal}
use Rattle.httparse.specs.Grammar.{ResponseHead, ReadsResponse, status_code}
use Rattle.site_ids.specs.declared.Ticket.{Ticket}
use Rattle.engine_script.specs.declared.client.TheConstants.{FIELDS}
use Rattle.engine_common.specs.Answers.{answer_lines}

-- a submission of a command text under a ticket
abbrev pub post_request : Ticket → List ℕ → List ℕ
post_request ticket text =
    codes "POST /_submit/" ++ (decimal ticket.editor ++ (codes "/" ++ (decimal ticket.number
    ++ (codes " HTTP/1.1\r\nHost: localhost\r\nConnection: close\r\nContent-Length: "
    ++ (decimal (length text) ++ (codes "\r\n\r\n" ++ text))))))

abbrev pub get_request : List ℕ → List ℕ
get_request target =
    codes "GET " ++ (target ++ codes " HTTP/1.1\r\nHost: localhost\r\nConnection: close\r\n\r\n")

-- what was received is a head with this status, and then this body
abbrev pub IsResponse : List ℕ → ℕ → List ℕ → Type 0
IsResponse received status body =
    (head : ResponseHead) × ReadsResponse received head body × (status ≡ status_code head)

-- no head with 16 field lines or fewer is at the front
abbrev pub HasNoAnswer : List ℕ → Type 0
HasNoAnswer received =
    (head : ResponseHead) (rest : List ℕ) → ReadsResponse received head rest → FIELDS < length head.fields

-- status and length, and then the body, are what is shown of what was received
abbrev pub IsShown : List ℕ → List ℕ → Type 0
IsShown received printed =
    (status : ℕ) × (body : List ℕ) × IsResponse received status body × (printed ≡ answer_lines status body)
