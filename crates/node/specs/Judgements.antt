-- What the code returns for a span that it judges, by the slots in memory.
use Rattle.std.specs.Prelude.{◌≡◌, ◌≢◌, ◌⊎◌, ℕ, suc, Bool, true, false, List, [], ◌∷◌, ◌++◌, length, ⊤}
use Rattle.site_ids.specs.Ids.{BallotOf}
use Rattle.site_ids.specs.Lists.{In}
use Rattle.acceptor.specs.declared.slot.Slot.{Slot}
use Rattle.acceptor.specs.Steps.{Answer, no_answer, prepare, Steps}
use Rattle.node.specs.declared.prepared.Judgement.{Judgement}
use Rattle.node.specs.Deliveries.{Judged, prepare_out, span_out}

-- the instances from i on, each judged by its slot
abbrev pub AreJudgedAt : (ℕ → Slot) → BallotOf → ℕ → List Judged → Type 0
AreJudgedAt slots b i [] = ⊤
AreJudgedAt slots b i (x ∷ xs) = (x.slot ≡ slots i) × Steps x.slot (prepare b) x.after x.answer
    × AreJudgedAt slots b (suc i) xs

-- whether a slot changes
abbrev pub Rises : List Judged → Bool → Type 0
Rises judged true = (x : Judged) × In judged x × (x.after ≢ x.slot)
Rises judged false = (x : Judged) → In judged x → x.after ≡ x.slot

-- the judgement is that of the k instances from i on, with their answers
pub record IsJudgement (slots : ℕ → Slot) (p i : ℕ) (b : BallotOf) (k : ℕ) (told : Judgement) : Type 0 where
  pub judged : List Judged
  pub counted : length judged ≡ k
  pub each : AreJudgedAt slots b i judged
  pub rises : Rises judged told.rises
  pub answers : told.answers.items ≡ span_out p i b judged

-- the judgement has one more instance, whose answer comes after the answers before it
pub record JudgesMore (slot : Slot) (p i : ℕ) (b : BallotOf) (old new : Judgement) : Type 0 where
  pub judged : Judged
  pub of_slot : judged.slot ≡ slot
  pub step : Steps judged.slot (prepare b) judged.after judged.answer
  pub answers : new.answers.items ≡ old.answers.items ++ prepare_out p i b judged.answer
  pub rises : ((judged.after ≢ judged.slot) × (new.rises ≡ true))
      ⊎ ((judged.after ≡ judged.slot) × (new.rises ≡ old.rises))

-- the slot owes a prepare an answer
pub record IsOwed (slot : Slot) (b : BallotOf) : Type 0 where
  pub after : Slot
  pub answer : Answer
  pub step : Steps slot (prepare b) after answer
  pub some : answer ≢ no_answer
