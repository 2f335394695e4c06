-- Datagrams delivered one after another: what each of them keeps, and what one of them brings about.
use Rattle.std.proofs.Common.{◌≡◌, inl, inr, ⊎_elim, ℕ, List, Some, [], ◌∷◌, ◌++◌, refl, sym, ap, subst, ◌∙◌}
use Rattle.std.proofs.Common.{append-nil, append_assoc}
use Rattle.site_ids.specs.Lists.{In}
use Rattle.wire.specs.declared.message.Message.{Message}
use Rattle.wire.specs.Decoding.{Spells}
use Rattle.wire.specs.Messages.{IsMessage}
use Rattle.wire.proofs.ReadingLemmas.{one_message}
use Rattle.node.specs.declared.to.To.{To}
use Rattle.node.specs.Nodes.{Node}
use Rattle.node.specs.Calls.{deliver}
use Rattle.node.specs.Endings.{EndsWhole}
use Rattle.site_drive.specs.Drives.{Takes}
use Rattle.site_drive.specs.Batches.{TakesEach}

module _ (n q : ℕ) (Allowed : Message → Type 0) where
  -- what holds of a node and of what was handed out, over each delivery of such a message
  abbrev pub Keeps : (Node → List (To × Message) → Type 0) → Type 0
  Keeps Holds = (s t : Node) (before out : List (To × Message)) (m : Message) → Holds s before → IsMessage n m
      → Allowed m → EndsWhole n q s (deliver m) out t → Holds t (before ++ out)

  -- each datagram that spells a message spells such a one
  abbrev pub AreAllowed : List (List ℕ) → Type 0
  AreAllowed came = (d : List ℕ) (m : Message) → In came d → Spells n d m → Allowed m

  module _ (Holds : Node → List (To × Message) → Type 0) (keeps : Keeps Holds) where
    one_taken : (d : List ℕ) (s t : Node) (one : ℕ) (before out : List (To × Message))
        → ((m : Message) → Spells n d m → Allowed m) → Takes n q s (Some d) one out t → Holds s before
        → Holds t (before ++ out)
    one_taken d s t one before out allowed takes holds =
        ⊎_elim
        (λ (x : (m : Message) × Spells n d m × EndsWhole n q s (deliver m) out t × (one ≡ 0)). keeps s t
        before out x.0 holds x.1.0 (allowed x.0 x.1) x.2)
        (λ (x : ((m : Message) → ¬ Spells n d m) × (one ≡ 1) × (out ≡ []) × (t ≡ s)).
        subst (λ l. Holds t (before ++ l)) (sym x.2) (subst (λ l. Holds t l) (sym (append-nil before))
        (subst (λ u. Holds u before) (sym x.3) holds)))
        takes

    pub all_taken : (came : List (List ℕ)) (s t : Node) (malformed : ℕ) (before out : List (To × Message))
        → AreAllowed came → TakesEach n q came malformed out s t → Holds s before → Holds t (before ++ out)
    all_taken [] s t malformed before out allowed takes holds =
        subst (λ l. Holds t (before ++ l)) (sym takes.1) (subst (λ l. Holds t l) (sym (append-nil before))
        (subst (λ u. Holds u before) (sym takes.2) holds))
    all_taken (d ∷ came) s t malformed before out allowed takes holds =
        let mid = takes.0 in
        let first = one_taken d s mid takes.1 before takes.3 (λ m. allowed d m (inl refl)) takes.5 holds in
        let rest : Holds t ((before ++ takes.3) ++ takes.4) = all_taken came mid t takes.2 (before ++ takes.3)
        takes.4 (λ e m k. allowed e m (inr k)) takes.6 first in
        subst (λ l. Holds t l) (append_assoc before takes.3 takes.4 ∙ ap (λ l. before ++ l) (sym takes.8))
        rest

  -- one of the datagrams spells this message. Its delivery brings something about, which the others keep
  module _ (Holds Then : Node → List (To × Message) → Type 0) (keeps : Keeps Holds)
      (then_keeps : Keeps (λ s l. Holds s l × Then s l)) (d0 : List ℕ) (m0 : Message)
      (spells : Spells n d0 m0)
      (gives : (s t : Node) (before out : List (To × Message)) → Holds s before
      → EndsWhole n q s (deliver m0) out t → Then t (before ++ out))
    where
      given_by : (s t : Node) (one : ℕ) (before out : List (To × Message)) → Takes n q s (Some d0) one out t
          → Holds s before → Then t (before ++ out)
      given_by s t one before out takes holds =
          ⊎_elim
          (λ (x : (m : Message) × Spells n d0 m × EndsWhole n q s (deliver m) out t × (one ≡ 0)).
          gives s t before out holds (subst (λ m. EndsWhole n q s (deliver m) out t)
          (one_message n n d0 x.0 m0 x.1 spells) x.2))
          (λ (x : ((m : Message) → ¬ Spells n d0 m) × (one ≡ 1) × (out ≡ []) × (t ≡ s)). absurd
          (x.0 m0 spells))
          takes

      pub brought : (came : List (List ℕ)) (s t : Node) (malformed : ℕ) (before out : List (To × Message))
          → In came d0 → AreAllowed came → TakesEach n q came malformed out s t → Holds s before
          → Then t (before ++ out)
      brought [] s t malformed before out here allowed takes holds = absurd here
      brought (d ∷ came) s t malformed before out here allowed takes holds =
          let mid = takes.0 in
          let first = one_taken Holds keeps d s mid takes.1 before takes.3 (λ m. allowed d m (inl refl))
          takes.5 holds in
          let later : AreAllowed came = λ e m k. allowed e m (inr k) in
          let rest : Then t ((before ++ takes.3) ++ takes.4) =
          ⊎_elim
          (λ (e : d ≡ d0).
          let now = given_by s mid takes.1 before takes.3 (subst
          (λ x. Takes n q s (Some x) takes.1 takes.3 mid) e takes.5) holds in
          (all_taken (λ u l. Holds u l × Then u l) then_keeps came mid t takes.2 (before ++ takes.3) takes.4
          later takes.6 (first, now)).1)
          (λ (k : In came d0). brought came mid t takes.2 (before ++ takes.3) takes.4 k later takes.6 first)
          here in
          subst (λ l. Then t l) (append_assoc before takes.3 takes.4 ∙ ap (λ l. before ++ l) (sym takes.8))
          rest
