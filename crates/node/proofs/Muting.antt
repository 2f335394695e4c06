-- A node that is mute: by the test for it, and its tick, which asks instead.
use Rattle.std.proofs.Common.{◌≡◌, inl, inr, ℕ, Bool, true, false, Some, None, sym, ap, subst, ◌∙◌}
use Rattle.std.specs.Prelude.{◌↔◌, IsTrue, Option}
use Rattle.site_disk.specs.Model.{DiskState}
use Rattle.durable.specs.Entries.{Entry}
use Rattle.node.specs.declared.fault.NodeFault.{NodeFault}
use Rattle.node.specs.declared.fault.NodeFault.TheVariants as fault
use Rattle.node.specs.declared.node.Node.{Node as Running}
use Rattle.node.specs.Nodes.{Node, IsMute, OnlyLearns}
use Rattle.node.specs.Calls.{tick, ask, Asks, AsksInstead}
use Rattle.node.specs.Effects.{Effect}
use Rattle.node.specs.Endings.{Ending, Whole, Refused, Failed, Ends, Refuses}
use Rattle.node.specs.Standing.{IsNodeOf, IsEvent}
use Rattle.node.proofs.Gaps.{one_first}
use Rattle.node.proofs.Queueing.{is_true, true_is}
use Rattle.node.proofs.Stepping.{Handed}

off : true ≡ false → ⊥
off e = cc

-- ---- by the test

module _ {D : Type 0} (code : Running D) where
  -- it is not mute at the instance
  abbrev pub Speaks : ℕ → Type 0
  Speaks i = (s : Node) → IsNodeOf code s → ¬ IsMute s i

  module _ (r : Bool) (P : Node → Type 0) (told : (s : Node) → IsNodeOf code s → IsTrue r ↔ P s) where
    pub so_it_is : r ≡ true → (s : Node) → IsNodeOf code s → P s
    so_it_is is s stands = (told s stands).0 (is_true r is)

    pub so_it_is_not : r ≡ false → (s : Node) → IsNodeOf code s → ¬ P s
    so_it_is_not is s stands holds = off (sym (true_is r ((told s stands).1 holds)) ∙ is)

-- ---- a tick that asks

asks_so : (p : ℕ) (s : Node) (effect : Effect) → OnlyLearns s → Asks p s effect → AsksInstead p s effect
asks_so p s effect learns asks = record { asks = asks; mute = subst (IsMute s) (sym (one_first s.known learns.0 asks.instance learns.1 asks.first)) learns.2 }

refuses_so : (s : Node) (cause : NodeFault) → OnlyLearns s → Refuses s ask cause → Refuses s tick cause
refuses_so s fault.OutOfMemory learns why = (why.0, (why.1, inl learns))
refuses_so s fault.Device learns why = absurd why.1
refuses_so s fault.Stopped learns why = why
refuses_so s fault.QueueFull learns why = absurd why.1
refuses_so s (fault.NotACommand unread) learns why = absurd why.1
refuses_so s fault.InstancesUsedUp learns why = why
refuses_so s fault.RoundsUsedUp learns why = absurd why.1
refuses_so s fault.Conflict learns why = absurd why.1

none_put : (entry : Entry) → ◌≡◌ {A = Option Entry} None (Some entry) → ⊥
none_put entry e = cc

ends_so : (n p : ℕ) (s t : Node) (ending : Ending) (out : Handed) → OnlyLearns s → Ends n p s ask ending out t → Ends n p s tick ending out t
ends_so n p s t Whole out learns ends =
    record { effect = ends.effect; running = ends.running; does = inr (asks_so p s ends.effect learns ends.does); handed_out = ends.handed_out; node = ends.node }
ends_so n p s t (Refused cause) out learns ends = record { refuses = refuses_so s cause learns ends.refuses; nothing = ends.nothing; node = ends.node }
ends_so n p s t Failed out learns ends = absurd (none_put ends.entry (sym (ap (λ (x : Effect). x.entry) ends.does.is) ∙ ends.puts))

-- if the node only learns, a tick is a question
pub asks_instead : {D : Type 0} (stands_for : D → DiskState → Type 0) (old new : Running D) (ending : Ending) (before after : Handed) → ((s : Node) → IsNodeOf old s → OnlyLearns s) → IsEvent stands_for old new ask ending before after
    → IsEvent stands_for old new tick ending before after
asks_instead stands_for old new ending before after learns event = record {
  leads = λ s stands.
      let asked = event.leads s stands in
      record {
        next = asked.next;
        out = asked.out;
        ends = ends_so old.cluster old.me s asked.next ending asked.out (learns s stands) asked.ends;
        stands = asked.stands;
        on_disk = asked.on_disk;
        ahead = asked.ahead;
        outbox = asked.outbox;
        few = asked.few;
        messages = asked.messages;
      };
}
