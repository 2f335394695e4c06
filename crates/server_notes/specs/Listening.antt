-- Whom a server hears. Node p is at index p - 1 of nine.
use Rattle.std.specs.Prelude.{◌≡◌, ◌≢◌, ℕ, ◌+◌, ◌-◌, ◌/◌, ◌<◌, ◌≤◌, List, replicate, get_or, Bool, true}
use Rattle.std.specs.Prelude.{false, IsTrue, ◌↔◌, Option, Some, None, if◌then◌else◌}
use Rattle.site_ids.specs.Ids.{IsNode}
use Rattle.site_ids.specs.NodeSets.{no_nodes, with_node, count_of, AreUnited}
use Rattle.server_notes.specs.Noting.{no_silence, heard_at, silence_of, is_long}
use Rattle.server_notes.specs.declared.listening.Listening.{Listening}
use Rattle.server_notes.specs.declared.silence.Silence.{Silence}

abbrev pub first_listening : ℕ → ℕ → Listening
first_listening n me = record {
  cluster = n;
  me = me;
  silences = replicate 9 no_silence;
  gathered = no_nodes;
  majority = no_silence;
}

-- the nodes from which something came, and the server itself
abbrev pub heard_by : ℕ → List Bool → List Bool
heard_by me heard = with_node heard me

-- the silence of the node at index i
abbrev pub silence_at : List Silence → ℕ → Silence
silence_at silences i = get_or silences i no_silence

-- the silences of nodes that are heard end, the others' go on
abbrev pub AreHeard : List Silence → List Bool → ℕ → List Silence → Type 0
AreHeard old heard now new =
    (i : ℕ) → i < 9 → silence_at new i
    ≡ (if get_or heard i false then heard_at (silence_at old i) now else silence_at old i)

-- A server of n hears a majority each time that more than half of the nodes, itself included, were heard
-- since it last did
pub record Hears (old : Listening) (now : ℕ) (heard : List Bool) (majority : Bool)
    (new : Listening) : Type 0 where
  pub silences : AreHeard old.silences (heard_by old.me heard) now new.silences
  pub all : List Bool
  pub gathered : AreUnited (heard_by old.me heard) old.gathered all
  pub is_majority : IsTrue majority ↔ (old.cluster / 2 + 1 ≤ count_of all)
  pub same : new ≡ record new {
    cluster = old.cluster;
    me = old.me;
    gathered = if majority then no_nodes else all;
    majority = if majority then heard_at old.majority now else old.majority;
  }

-- node p is the first whose silence is to be reported, and this is its length
pub record IsFirstSilent (l : Listening) (now p millis : ℕ) : Type 0 where
  pub node : IsNode l.cluster p
  pub long : is_long (silence_at l.silences (p - 1)) now ≡ true
  pub first : (q : ℕ) → 1 ≤ q → q < p → is_long (silence_at l.silences (q - 1)) now ≡ false
  pub millis_is : millis ≡ silence_of (silence_at l.silences (p - 1)) now

-- such a node, if there is one
abbrev pub FindsSilent : Listening → ℕ → Option (ℕ × ℕ) → Type 0
FindsSilent l now (Some x) = IsFirstSilent l now x.0 x.1
FindsSilent l now None = (p : ℕ) → IsNode l.cluster p → is_long (silence_at l.silences (p - 1)) now ≡ false

-- node p is the first whose silence has ended, which is to be reported, and this was the length of the
-- silence
pub record IsFirstEnded (l : Listening) (p millis : ℕ) : Type 0 where
  pub node : IsNode l.cluster p
  pub ended : millis ≢ 0
  pub first : (q : ℕ) → 1 ≤ q → q < p → (silence_at l.silences (q - 1)).ended ≡ 0
  pub millis_is : millis ≡ (silence_at l.silences (p - 1)).ended

abbrev pub FindsEnded : Listening → Option (ℕ × ℕ) → Type 0
FindsEnded l (Some x) = IsFirstEnded l x.0 x.1
FindsEnded l None = (p : ℕ) → IsNode l.cluster p → (silence_at l.silences (p - 1)).ended ≡ 0
