-- What a group may say of a ledger.
use Rattle.std.specs.Prelude.{◌≡◌, ◌⊎◌, ⊤, ℕ, List, length, ◌++◌, codes, decimal, string_bytes, Option, Some}
use Rattle.std.specs.Prelude.{None}
use Rattle.editor_common.specs.declared.editor_fault.EditorFault.{EditorFault}
use Rattle.editor_common.specs.declared.editor_fault.EditorFault.TheVariants.{Write, Stop, Clock, OutOfMemory}
use Rattle.editor_ledger.specs.Books.{Book}
use Rattle.editor_plan.specs.Standings.{last_ticket, last_shown, standing_of}
use Rattle.editor_plan.specs.declared.standing.Standing.{Standing}
use Rattle.editor_plan.specs.declared.standing.Standing.TheVariants.{Newest, Older, Elsewhere, Returning}
use Rattle.editor_plan.specs.declared.standing.Standing.TheVariants.{Unanswered}
use Rattle.editor_plan.specs.declared.standing.Witness.{Witness}
use Rattle.editor_group.specs.declared.judging.Look.{Look}
use Rattle.editor_group.specs.declared.judging.Look.TheVariants.{Confirmed, Refused}

-- n nodes were asked, and by what they said the ledger has this standing; `last` was the last ticket that
-- has its receipt, and `shown` the newest release that was shown of its folder
abbrev pub Stands : ℕ → ℕ → ℕ → Standing → Type 0
Stands n last shown standing =
    (said : List Witness) × (length said ≡ n) × (standing ≡ standing_of last shown said)

-- it is the newest of its editor
abbrev pub IsConfirmed : ℕ → Book → Type 0
IsConfirmed n book = Stands n (last_ticket book) (last_shown book) Newest

-- ---- why it is refused, in words

-- the folder comes first, then for how many seconds the run waited, if the standing could have changed
abbrev pub SaysWhy : List ℕ → Option ℕ → List ℕ → Type 0
SaysWhy folder None text = (rest : List ℕ) × (text ≡ folder ++ (codes ": " ++ rest))
SaysWhy folder (Some patience) text =
    (rest : List ℕ) × (text
    ≡ folder ++ (codes ": after " ++ (decimal patience ++ (codes " seconds " ++ rest))))

-- an older ledger stays older
abbrev pub waited_for : ℕ → Standing → Option ℕ
waited_for patience Older = None
waited_for patience Newest = None
waited_for patience Elsewhere = Some patience
waited_for patience Returning = Some patience
waited_for patience Unanswered = Some patience

abbrev pub Refuses : List ℕ → Option ℕ → EditorFault → Type 0
Refuses folder waited (Stop words) = SaysWhy folder waited (string_bytes words)
Refuses folder waited OutOfMemory = ⊤
Refuses folder waited _ = ⊥

-- ---- what a dry run sees of it

-- a ledger that is not the newest is refused, and nothing was waited for
abbrev pub Shows : List ℕ → Standing → Look → Type 0
Shows folder Newest look = look ≡ Confirmed
Shows folder _ (Refused why) = Refuses folder None why
Shows folder _ _ = ⊥

abbrev pub LooksSo : ℕ → List ℕ → Book → Look → Type 0
LooksSo n folder book look =
    (found : Standing) × Stands n (last_ticket book) (last_shown book) found × Shows folder found look

-- ---- why a group is asked no further

-- a node keeps this client out
abbrev pub says_nothing_sent : List ℕ
says_nothing_sent = codes "nothing was sent"

-- or a line could not be written, the clock not read, or an allocation failed
abbrev pub EndsAsking : EditorFault → Type 0
EndsAsking (Stop words) = string_bytes words ≡ says_nothing_sent
EndsAsking Write = ⊤
EndsAsking Clock = ⊤
EndsAsking OutOfMemory = ⊤
EndsAsking _ = ⊥

-- the words say how the ledger stands, which is not the newest
abbrev pub SaysStanding : ℕ → List ℕ → ℕ → Book → List ℕ → Type 0
SaysStanding n folder patience book words =
    (found : Standing) × Stands n (last_ticket book) (last_shown book) found × (¬ (found ≡ Newest))
    × SaysWhy folder (waited_for patience found) words

abbrev pub EndsConfirming : ℕ → List ℕ → ℕ → Book → EditorFault → Type 0
EndsConfirming n folder patience book (Stop words) =
    (string_bytes words ≡ says_nothing_sent) ⊎ SaysStanding n folder patience book (string_bytes words)
EndsConfirming n folder patience book Write = ⊤
EndsConfirming n folder patience book Clock = ⊤
EndsConfirming n folder patience book OutOfMemory = ⊤
EndsConfirming n folder patience book _ = ⊥
