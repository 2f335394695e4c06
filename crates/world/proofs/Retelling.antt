-- What is reported again is sound: a value known or learned is decided, and a vote is on record.
use Rattle.std.proofs.Common.{◌≡◌, inr, ⊎_elim, ℕ, Some, None, List, refl, sym, subst, map}
use Rattle.site_ids.specs.Ids.{BallotOf}
use Rattle.site_ids.specs.Lists.{In}
use Rattle.site_ids.specs.declared.value.Vote.{Vote}
use Rattle.wire.specs.declared.message.Message.{Message}
use Rattle.wire.specs.declared.message.Message.TheVariants.{Propose, Accepted, Chosen}
use Rattle.durable.specs.Entries.{Entry, Voted, Learned, last_vote}
use Rattle.node.specs.declared.to.To.{To}
use Rattle.node.specs.Nodes.{Value, Node}
use Rattle.node.specs.Effects.{messages_of}
use Rattle.node.specs.Tellings.{remembered, tells, told_from, addressed}
use Rattle.world.specs.Decided.{Decides}
use Rattle.node.proofs.ToldAgain.{IsToldOf, each_told, remembered_from}
use Rattle.site_ids.proofs.MemberLemmas.{in_right}
use Rattle.world.proofs.Lists.{in_map}
use Rattle.world.proofs.Keeping.{SaysNew}
use Rattle.world.proofs.Endings.{EffectSound}
use Rattle.world.proofs.Calling.{Inside, no_entry, plain}

module _ (n : ℕ) (fair : Value → Type 0) (sent : List Message) (lost : List Entry) (p : ℕ) (s : Node)
    (one_value : (q r i : ℕ) (b : BallotOf) (v u : Value) → In sent (Propose q i b v) → In sent (Propose r i b u) → v ≡ u)
    (learned : (i : ℕ) (v : Value) → In s.entries (Learned i v) → Decides n sent i v)
    (h : Inside n fair sent p s.entries s)
  where
    each_of : (to : To) (i : ℕ) (m : Message) → In (messages_of (map (addressed to) (told_from p s i))) m → (j : ℕ) × IsToldOf p s m j
    each_of to i m here =
        let x = in_map (λ (x : To × Message). x.1) (map (addressed to) (told_from p s i)) m here in
        let told = each_told p s to i x.0 x.1 in
        (told.0, subst (λ (y : Message). IsToldOf p s y told.0) x.2 told.2)

    no_proposal : (m : Message) (j : ℕ) → IsToldOf p s m j → (q i : ℕ) (b : BallotOf) (v : Value) → m ≡ Propose q i b v → ⊥
    no_proposal m j told q i b v is =
        ⊎_elim
        (λ (x : (u : Value) × (remembered s j ≡ Some u) × (m ≡ Chosen p j u)). chosen x.0 (sym x.2))
        (λ (x : (w : Vote) × In s.entries (Voted j w.ballot w.value) × (last_vote j s.entries ≡ Some w) × (remembered s j ≡ None) × (m ≡ Accepted p j w.ballot w.value)). voted x.0 (sym x.4))
        told.is
      where
        chosen : (u : Value) → Chosen p j u ≡ m → ⊥
        chosen u e = cc

        voted : (w : Vote) → Accepted p j w.ballot w.value ≡ m → ⊥
        voted w e = cc

    says : (m : Message) (j : ℕ) → IsToldOf p s m j → SaysNew n fair sent lost p s m
    says m j told =
        ⊎_elim
        (λ (x : (u : Value) × (remembered s j ≡ Some u) × (m ≡ Chosen p j u)). subst (SaysNew n fair sent lost p s) (sym x.2) (⊎_elim (λ k. h.known j x.0 k) (λ k. learned j x.0 k) (remembered_from s j x.0 x.1)))
        (λ (x : (w : Vote) × In s.entries (Voted j w.ballot w.value) × (last_vote j s.entries ≡ Some w) × (remembered s j ≡ None) × (m ≡ Accepted p j w.ballot w.value)). subst (SaysNew n fair sent lost p s) (sym x.4) (refl, in_right lost s.entries (Voted j x.0.ballot x.0.value) x.1))
        told.is

    pub tell_sound : (to : To) (i : ℕ) → EffectSound n fair sent lost p s.entries (tells p s to i)
    tell_sound to i =
        plain n fair sent lost p one_value s.entries None s (map (addressed to) (told_from p s i)) (λ e k. absurd (no_entry e k)) h
        (λ q j b v k. let told = each_of to i (Propose q j b v) k in absurd (no_proposal (Propose q j b v) told.0 told.1 q j b v refl))
        (λ m k. let told = each_of to i m k in inr (says m told.0 told.1))
