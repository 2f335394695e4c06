-- What a server knows it still knows after any rounds.
use Rattle.std.proofs.Common.{◌≡◌, ℕ, zero, suc, Some, List, [], sym, subst}
use Rattle.std.specs.Prelude.{⊤}
use Rattle.wire.specs.declared.message.Message.{Message}
use Rattle.node.specs.declared.to.To.{To}
use Rattle.node.specs.Nodes.{Value, Node}
use Rattle.node.specs.Calls.{Call, deliver}
use Rattle.node.specs.Endings.{Whole}
use Rattle.node.proofs.Knowing.{known_stays}
use Rattle.rounds.specs.Rounds.{Server, Group, Steps}
use Rattle.rounds.specs.Deciding.{RoundsKeep}
use Rattle.rounds.proofs.Delivering.{all_taken}
use Rattle.rounds.proofs.Calling.{all_called}

abbrev any_message : Message → Type 0
any_message m = ⊤

abbrev any_call : Call → Type 0
any_call call = ⊤

module _ (n q i : ℕ) (v : Value) where
  abbrev Knows : Node → List (To × Message) → Type 0
  Knows s l = s.known i ≡ Some v

  step_keeps : (x y : Server) (letters : List (To × List ℕ)) → Steps n q x y letters → x.node.known i ≡ Some v
      → y.node.known i ≡ Some v
  step_keeps x y letters st known =
      let w = st.batch.works in
      let taken : w.mid.known i ≡ Some v =
      all_taken n q any_message Knows (λ s t before out m h is may ends. known_stays n q s t (deliver m) Whole
      out ends i v h)
      x.waits x.node w.mid st.malformed [] w.first (λ d m k spells. tt) w.takes known in
      all_called n q Knows any_call (λ s t before out call may h ends. known_stays n q s t call Whole out ends
      i v h)
      st.last w.mid y.node [] w.then (λ call is. tt) w.ends taken

pub rounds_keep : RoundsKeep
rounds_keep n d zero g h rounds q i v here known = subst (λ (k : Group). (k q).node.known i ≡ Some v)
    (sym rounds) known
rounds_keep n d (suc k) g h rounds q i v here known =
    rounds_keep n d k rounds.0 h rounds.2 q i v here (step_keeps n q i v (g q) (rounds.0 q)
    (rounds.1.letters q) (rounds.1.steps q here) known)
