-- Why a delivery ends before each command has its receipt.
use Rattle.std.specs.Prelude.{◌≡◌, ◌⊎◌, ⊤, ℕ, List, ◌++◌, codes, decimal, string_bytes, slice_get, None, Some}
use Rattle.editor_common.specs.declared.editor_fault.EditorFault.{EditorFault}
use Rattle.editor_common.specs.declared.editor_fault.EditorFault.TheVariants.{Write, Stop, NoNodes, Clock}
use Rattle.editor_common.specs.declared.editor_fault.EditorFault.TheVariants.{OutOfMemory}
use Rattle.editor_group.specs.declared.address.Address.{Address}
use Rattle.editor_group.specs.declared.group.Group.{Group}

-- for `patience` seconds no receipt came
abbrev pub gave_up : ℕ → List ℕ
gave_up patience =
    codes "no progress in "
    ++ (decimal patience
    ++ codes " seconds: is a majority of the nodes running? Run it again, and it goes on")

-- the text names the node first
abbrev pub NamesNode : Address → List ℕ → Type 0
NamesNode node text = (rest : List ℕ) × (text ≡ string_bytes node.url ++ (codes ": " ++ rest))

-- the words name the node that refuses a command, or that keeps this client out
abbrev pub IsOfNode : Address → EditorFault → Type 0
IsOfNode node (Stop words) = NamesNode node (string_bytes words)
IsOfNode node OutOfMemory = ⊤
IsOfNode node _ = ⊥

abbrev pub NodeSays : List Address → List ℕ → Type 0
NodeSays nodes words =
    (place : ℕ) × (node : Address) × (slice_get nodes place ≡ Some node) × NamesNode node words

-- one of the nodes says why; or none is spoken to
abbrev pub EndsExchange : Group → EditorFault → Type 0
EndsExchange group (Stop words) = NodeSays group.nodes.items (string_bytes words)
EndsExchange group NoNodes = slice_get group.nodes.items group.at ≡ None
EndsExchange group OutOfMemory = ⊤
EndsExchange group _ = ⊥

-- or no receipt came for `patience` seconds; or the progress could not be written, or the clock not read
abbrev pub EndsDelivery : ℕ → Group → EditorFault → Type 0
EndsDelivery patience group (Stop words) =
    (string_bytes words ≡ gave_up patience) ⊎ NodeSays group.nodes.items (string_bytes words)
EndsDelivery patience group NoNodes = slice_get group.nodes.items group.at ≡ None
EndsDelivery patience group Write = ⊤
EndsDelivery patience group Clock = ⊤
EndsDelivery patience group OutOfMemory = ⊤
EndsDelivery patience group _ = ⊥
