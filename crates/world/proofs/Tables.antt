-- Nodes and worlds by tables, so that what happens to them can be computed.
use Rattle.std.proofs.Common.{◌≡◌, inl, inr, ℕ, Bool, true, false, Option, Some, None, List, [], ◌∷◌, map, refl, sym, ⊎_elim}
use Rattle.std.specs.Prelude.{nat_eq, if◌then◌else◌}
use Rattle.site_ids.specs.Lists.{In, put_at}
use Rattle.wire.specs.declared.message.Message.{Message}
use Rattle.durable.specs.Entries.{Entry}
use Rattle.proposer.specs.Attempts.{Attempt}
use Rattle.learner.specs.ToldVotes.{ToldVote}
use Rattle.node.specs.Nodes.{Value, Mode, Up, Node}
use Rattle.world.specs.Worlds.{World, start}
use Rattle.world.proofs.Lists.{put_at_cases}

-- what was put at each number, the last first
abbrev pub Table : Type 0 → Type 0
Table X = List (ℕ × Option X)

abbrev pub map_of : {X : Type 0} → Table X → ℕ → Option X
map_of [] = λ j. None
map_of (x ∷ xs) = put_at (map_of xs) x.0 x.1

abbrev pub keys : {X : Type 0} → Table X → List ℕ
keys xs = map (λ x. x.0) xs

-- what has a value is a key
pub is_key : {X : Type 0} (xs : Table X) (j : ℕ) (a : X) → map_of xs j ≡ Some a → In (keys xs) j
is_key [] j a is = absurd (none a is)
  where
    none : {X : Type 0} (a : X) → ◌≡◌ {A = Option X} None (Some a) → ⊥
    none a e = cc
is_key (x ∷ xs) j a is = ⊎_elim (λ (e : (j ≡ x.0) × (x.1 ≡ Some a)). inl (sym e.0)) (λ later. inr (is_key xs j a later)) (put_at_cases (map_of xs) x.0 x.1 j a is)

pub record NodeBy : Type 0 where
  pub mode : Mode
  pub entries : List Entry
  pub in_flight : Option Entry
  pub votes : List ToldVote
  pub known : Table Value
  pub attempts : Table Attempt
  pub pending : List Value
  pub heard : ℕ
  pub reached : ℕ
  pub armed : Bool

abbrev pub node_by : NodeBy → Node
node_by t = record {
  mode = t.mode;
  entries = t.entries;
  in_flight = t.in_flight;
  votes = t.votes;
  known = map_of t.known;
  attempts = map_of t.attempts;
  pending = t.pending;
  heard = t.heard;
  reached = t.reached;
  armed = t.armed;
}

abbrev pub opened_by : Mode → List Entry → Option Entry → NodeBy
opened_by mode entries in_flight =
    record { mode = mode; entries = entries; in_flight = in_flight; votes = []; known = []; attempts = []; pending = []; heard = 0; reached = 0; armed = false }

-- the nodes that have changed, the last change first
pub record WorldBy : Type 0 where
  pub nodes : List (ℕ × NodeBy)
  pub sent : List Message

abbrev pub nodes_of : List (ℕ × NodeBy) → ℕ → Node
nodes_of [] = start.node
nodes_of (x ∷ xs) = put_at (nodes_of xs) x.0 (node_by x.1)

abbrev pub world_by : WorldBy → World
world_by w = record { node = nodes_of w.nodes; sent = w.sent }

abbrev pub started : WorldBy
started = record { nodes = []; sent = [] }

abbrev pub find : List (ℕ × NodeBy) → ℕ → NodeBy
find [] p = opened_by Up [] None
find (x ∷ xs) p = elim (nat_eq p x.0) [ true ↦ x.1 | false ↦ find xs p ]

pub found : (xs : List (ℕ × NodeBy)) (p : ℕ) → node_by (find xs p) ≡ nodes_of xs p
found [] p = refl
found (x ∷ xs) p =
    elim (nat_eq p x.0) as (λ t. node_by (elim t as (λ _. NodeBy) [ true ↦ x.1 | false ↦ find xs p ]) ≡ (if t then node_by x.1 else nodes_of xs p)) [ true ↦ refl | false ↦ found xs p ]
