-- A fault of a part is one of the whole.
use Rattle.std.proofs.Common.{◌≡◌, inl, inr, ℕ, List, slice_get, Some}
use Rattle.editor_common.specs.Faults.{of_talk}
use Rattle.editor_common.specs.declared.talk_fault.TalkFault.{TalkFault}
use Rattle.editor_common.specs.declared.talk_fault.TalkFault.TheVariants as talk
use Rattle.editor_common.specs.declared.editor_fault.EditorFault.{EditorFault}
use Rattle.editor_common.specs.declared.editor_fault.EditorFault.TheVariants.{Write, Stop, NoNodes, Clock, OutOfMemory}
use Rattle.editor_group.specs.Confirming.{EndsAsking, EndsConfirming, Refuses, Stands, waited_for}
use Rattle.editor_group.specs.Delivering.{EndsDelivery, EndsExchange, IsOfNode}
use Rattle.editor_ledger.specs.Books.{Book}
use Rattle.editor_plan.specs.Standings.{last_ticket, last_shown}
use Rattle.editor_plan.specs.declared.standing.Standing.{Standing}
use Rattle.editor_plan.specs.declared.standing.Standing.TheVariants.{Newest}
use Rattle.editor_group.specs.declared.address.Address.{Address}
use Rattle.editor_group.specs.declared.group.Group.{Group}

-- ---- a delivery

pub node_ends_exchange : (group : Group) (node : Address) (why : EditorFault) → slice_get group.nodes.items group.at ≡ Some node → IsOfNode node why → EndsExchange group why
node_ends_exchange group node (Stop words) there is = (group.at, node, there, is)
node_ends_exchange group node OutOfMemory there is = tt
node_ends_exchange group node _ there is = absurd is

pub exchange_ends_delivery : (patience : ℕ) (group : Group) (why : EditorFault) → EndsExchange group why → EndsDelivery patience group why
exchange_ends_delivery patience group (Stop words) is = inr is
exchange_ends_delivery patience group NoNodes is = is
exchange_ends_delivery patience group OutOfMemory is = tt
exchange_ends_delivery patience group _ is = absurd is

talk_of_delivery : (patience : ℕ) (group : Group) (fault : TalkFault) → EndsDelivery patience group (of_talk fault)
talk_of_delivery patience group talk.Write = tt
talk_of_delivery patience group talk.Clock = tt
talk_of_delivery patience group talk.OutOfMemory = tt

pub talk_ends_delivery : (patience : ℕ) (group : Group) (fault : TalkFault) (why : EditorFault)
    → why ≡ of_talk fault → EndsDelivery patience group why
talk_ends_delivery patience group fault why is = rw is (talk_of_delivery patience group fault)

-- ---- a confirmation

talk_of_asking : (fault : TalkFault) → EndsAsking (of_talk fault)
talk_of_asking talk.Write = tt
talk_of_asking talk.Clock = tt
talk_of_asking talk.OutOfMemory = tt

pub talk_ends_asking : (fault : TalkFault) (why : EditorFault) → why ≡ of_talk fault → EndsAsking why
talk_ends_asking fault why is = rw is (talk_of_asking fault)

pub asking_ends_confirming : (n : ℕ) (folder : List ℕ) (patience : ℕ) (book : Book) (why : EditorFault)
    → EndsAsking why → EndsConfirming n folder patience book why
asking_ends_confirming n folder patience book (Stop words) is = inl is
asking_ends_confirming n folder patience book Write is = tt
asking_ends_confirming n folder patience book Clock is = tt
asking_ends_confirming n folder patience book OutOfMemory is = tt
asking_ends_confirming n folder patience book _ is = absurd is

pub refusal_ends_confirming : (n : ℕ) (folder : List ℕ) (patience : ℕ) (book : Book) (found : Standing)
    (why : EditorFault) → Stands n (last_ticket book) (last_shown book) found → ¬ (found ≡ Newest)
    → Refuses folder (waited_for patience found) why → EndsConfirming n folder patience book why
refusal_ends_confirming n folder patience book found (Stop words) stands older is = inr (found, stands, older, is)
refusal_ends_confirming n folder patience book found OutOfMemory stands older is = tt
refusal_ends_confirming n folder patience book found _ stands older is = absurd is
