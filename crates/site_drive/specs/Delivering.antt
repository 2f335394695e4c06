-- What is noted of the messages that a drive or a batch delivered.
use Rattle.std.specs.Prelude.{◌≡◌, ◌⊎◌, ℕ, ◌+◌, ◌-◌, ◌^◌, min, List, [], ◌∷◌, replicate, set, Bool, true}
use Rattle.std.specs.Prelude.{false, if◌then◌else◌, Option, Some, None, ◌≤◌, length, Vec, Result, IfOk, OnOk}
use Rattle.std.specs.declared.alloc.Global.{Global}
use Rattle.site_ids.specs.NodeSets.{no_nodes, with_node}
use Rattle.wire.specs.Decoding.{Spells}
use Rattle.wire.specs.Messages.{sender_of}
use Rattle.wire.specs.declared.message.Message.{Message}
use Rattle.wire.specs.declared.message.Message.TheVariants.{Prepare, Promise, Propose, Nack, Ask}
use Rattle.site_drive.specs.Posting.{bytes_of}
use Rattle.site_drive.specs.declared.delivered.Delivered.{Delivered}

-- the instance that each node's last question was for; node p is at index p - 1
abbrev pub asked_by : Message → List (Option ℕ) → List (Option ℕ)
asked_by (Ask q i) asked = set asked (q - 1) (Some i)
asked_by _ asked = asked

-- which nodes answered an attempt, by a promise or a refusal
abbrev pub answered_by : Message → List Bool → List Bool
answered_by (Promise q i b prior) answered = with_node answered q
answered_by (Nack q i b c) answered = with_node answered q
answered_by _ answered = answered

-- the message is of an attempt: a prepare, a promise or a proposal
abbrev pub is_of_attempt : Message → Bool
is_of_attempt (Prepare q i b count) = true
is_of_attempt (Promise q i b prior) = true
is_of_attempt (Propose q i b v) = true
is_of_attempt _ = false

-- the message is not a question
abbrev pub stirs : Message → Bool
stirs (Ask q i) = false
stirs _ = true

abbrev pub counted_if : Bool → ℕ → ℕ
counted_if is n = if is then min (n + 1) (2 ^ 32 - 1) else n

abbrev pub none_noted : Delivered
none_noted =
    record { heard = no_nodes; answered = no_nodes; questions = replicate 9 None; attempts = 0; stirs = 0 }

-- one more message is noted
abbrev pub noted : Message → Delivered → Delivered
noted m d = record {
  heard = with_node d.heard (sender_of m);
  answered = answered_by m d.answered;
  questions = asked_by m d.questions;
  attempts = counted_if (is_of_attempt m) d.attempts;
  stirs = counted_if (stirs m) d.stirs;
}

-- what a datagram adds in a group of n: the message that it spells, if any, is noted
abbrev pub IsNoted : ℕ → List ℕ → Delivered → Delivered → Type 0
IsNoted n bytes old new = ((m : Message) × Spells n bytes m × (new ≡ noted m old))
    ⊎ (((m : Message) → ¬ Spells n bytes m) × (new ≡ old))

-- what datagrams add, one after another
abbrev pub AreNoted : ℕ → List (List ℕ) → Delivered → Delivered → Type 0
AreNoted n [] old new = new ≡ old
AreNoted n (bytes ∷ came) old new = (mid : Delivered) × IsNoted n bytes old mid × AreNoted n came mid new

-- at most all of these datagrams are counted as malformed, and what each of them adds is noted
pub record NotesBatch {E : Type 0} (n : ℕ) (came : List (Vec ℕ Global)) (before after : Delivered)
    (result : Result ℕ E) : Type 0 where
  pub few : IfOk result (λ malformed. malformed ≤ length came)
  pub noted : OnOk result (AreNoted n (bytes_of came) before after)
