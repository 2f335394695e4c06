-- A batch that has one message about the instance, and else messages about others: what it hands out.
use Rattle.std.proofs.Common.{◌≡◌, ◌⊎◌, inl, inr, ⊎_elim, ℕ, suc, Option, List, [], ◌∷◌, length, refl, sym}
use Rattle.std.proofs.Common.{subst}
use Rattle.site_ids.specs.Ids.{BallotOf}
use Rattle.site_ids.specs.Lists.{In}
use Rattle.site_ids.specs.declared.value.Vote.{Vote}
use Rattle.site_ids.proofs.MemberLemmas.{in_left, in_right}
use Rattle.wire.specs.declared.message.Message.{Message}
use Rattle.wire.specs.Decoding.{Spells}
use Rattle.proposer.specs.Attempts.{Attempt}
use Rattle.node.specs.declared.to.To.{To}
use Rattle.node.specs.Nodes.{Value, Node}
use Rattle.node.specs.Calls.{deliver}
use Rattle.node.specs.Endings.{EndsWhole}
use Rattle.site_drive.specs.Batches.{TakesEach}
use Rattle.rounds.proofs.Elsewhere.{IsElsewhere, IsLow}
use Rattle.rounds.proofs.Delivering.{Keeps, AreAllowed, all_taken, brought}
use Rattle.rounds.proofs.Holding.{IsHeld, AreAll, all_none, all_out, all_both, quiet_held}

-- it is about others
abbrev pub IsAsideOut : ℕ → To × Message → Type 0
IsAsideOut i x = IsElsewhere i x.1 × IsLow x.1

-- or it is this message
abbrev pub IsAsideOrIt : ℕ → Message → Message → Type 0
IsAsideOrIt i m0 m = IsElsewhere i m ⊎ (m ≡ m0)

abbrev pub IsAnswer : ℕ → To × Message → To × Message → Type 0
IsAnswer i x0 x = IsAsideOut i x ⊎ (x ≡ x0)

module _ (n q : ℕ) (values : List Value) (Only : BallotOf → Type 0) (Mine : Vote → Type 0)
    (o : Option Attempt) where
  abbrev i : ℕ
  i = suc (length values)

  abbrev Held : Node → Type 0
  Held s = IsHeld n q values Only Mine o s

  abbrev Quiet : Node → List (To × Message) → Type 0
  Quiet s l = Held s × AreAll (IsAsideOut i) l

  -- all of them are about others
  pub asides_held : (came : List (List ℕ)) (s t : Node) (malformed : ℕ) (out : List (To × Message))
      → AreAllowed n q (IsElsewhere i) came → TakesEach n q came malformed out s t → Held s → Quiet t out
  asides_held came s t malformed out allowed takes held =
      all_taken n q (IsElsewhere i) Quiet
      (λ u w before more m h is aside ends. let next = quiet_held n q values Only Mine o u w more m h.0 is
      aside ends in (
        next.0,
        all_out (IsAsideOut i) before more ends.effect ends.handed_out h.1
            next.1.out,
      ))
      came s t malformed [] out allowed takes (held, all_none (IsAsideOut i))

  -- they are about others or are one message, to which there is one answer
  module _ (m0 : Message) (x0 : To × Message) (on : (s t : Node) (out : List (To × Message)) → Held s
      → EndsWhole n q s (deliver m0) out t → Held t × (out ≡ x0 ∷ [])) where
    abbrev Holds : Node → List (To × Message) → Type 0
    Holds s l = Held s × AreAll (IsAnswer i x0) l

    abbrev Then : Node → List (To × Message) → Type 0
    Then s l = In l x0

    holds_on : Keeps n q (IsAsideOrIt i m0) Holds
    holds_on s t before out m h is allowed ends =
        ⊎_elim
        (λ (aside : IsElsewhere i m).
        let next = quiet_held n q values Only Mine o s t out m h.0 is aside ends in (
          next.0,
          all_out (IsAnswer i x0) before out ends.effect ends.handed_out h.1
              (λ x k. inl (next.1.out x k)),
        ))
        (λ (e : m ≡ m0).
        let next = on s t out h.0 (subst (λ y. EndsWhole n q s (deliver y) out t) e ends) in (
          next.0,
          all_both (IsAnswer i x0) before out h.1 (λ x k.
              ⊎_elim (λ (f : x0 ≡ x). inr (sym f)) (λ none. absurd none) (subst (λ l. In l x) next.1 k)),
        ))
        allowed

    pub answers_held : (came : List (List ℕ)) (s t : Node) (malformed : ℕ) (out : List (To × Message))
        → AreAllowed n q (IsAsideOrIt i m0) came → TakesEach n q came malformed out s t → Held s → Held t
        × AreAll (IsAnswer i x0) out
    answers_held came s t malformed out allowed takes held = all_taken n q (IsAsideOrIt i m0) Holds holds_on
        came s t malformed [] out allowed takes (held, all_none (IsAnswer i x0))

    pub answered : (d0 : List ℕ) → Spells n d0 m0 → (came : List (List ℕ)) (s t : Node) (malformed : ℕ)
        (out : List (To × Message)) → In came d0 → AreAllowed n q (IsAsideOrIt i m0) came
        → TakesEach n q came malformed out s t → Held s → In out x0
    answered d0 spells came s t malformed out here allowed takes held =
        brought n q (IsAsideOrIt i m0) Holds Then holds_on
        (λ u w before more m h is ok ends. (
          holds_on u w before more m h.0 is ok ends,
          in_left before more x0
              h.1,
        ))
        d0 m0 spells
        (λ u w before more h ends. in_right before more x0 (subst (λ l. In l x0)
        (sym (on u w more h.0 ends).1) (inl refl)))
        came s t malformed [] out here allowed takes (held, all_none (IsAnswer i x0))
