-- What stands of a node is one thing, and so is whether it is told next.
use Rattle.std.proofs.Common.{◌≡◌, ◌⊎◌, inl, inr, ⊎_elim, ◌↔◌, ℕ, Bool, true, false, Option, Some, None, IfNone, IfSome, ◌≤◌, arith, IsTrue, rules, refl, sym, subst, ◌∙◌}
use Rattle.std.specs.Prelude.{is_some}
use Rattle.std.proofs.lemmas.Bool.Decides.{nat_tests}
use Rattle.node.specs.Nodes.{Node}
use Rattle.server_pace.specs.Places.{number_behind, places_behind}
use Rattle.server_pace.specs.Questioning.{Tells, StandsSo, IsDueTo}
use Rattle.server_pace.specs.declared.asking.Telling.{Telling}
use Rattle.server_pace.specs.declared.course.Course.{Course}
use Rattle.server_pace.specs.declared.questions.Questions.{Questions}
use Rattle.server_pace.specs.declared.questions.Teller.{Teller}

alike : (a b : Bool) (P : Type 0) → IsTrue a ↔ P → IsTrue b ↔ P → a ≡ b
alike true true P x y = refl
alike false false P x y = refl
alike true false P x y = let h : false ≡ true = y.1 (x.0 refl) in absurd (cc)
alike false true P x y = let h : false ≡ true = x.1 (y.0 refl) in absurd (cc)

pub one_course : (o : Option Course) (a b : Course) → o ≡ Some a → o ≡ Some b → a ≡ b
one_course o a b x y = cc

module _ (q : Questions) (teller : Teller) (s : Node) (p : ℕ) where
  tells_alike : (c : Course) (t u : Telling) → StandsSo q teller s p c t → StandsSo q teller s p c u → Tells t → Tells u
  tells_alike c t u x y tells =
      let full : t.full ≡ u.full = alike t.full u.full _ x.full y.full in
      let turn : t.turn ≡ u.turn = x.turn ∙ sym y.turn in
      let asked : t.asked ≡ u.asked = x.asked ∙ sym y.asked in
      let is_known : t.known ≡ u.known = alike t.known u.known _ x.known y.known in
      let is_calm : t.calm ≡ u.calm = x.calm ∙ sym y.calm in
      let votes : t.votes ≡ u.votes = x.votes ∙ sym y.votes in (
        ⊎_elim (λ f. inl (sym full ∙ f))
            (λ (a : (t.asked ≡ true) × ((t.known ≡ true) ⊎ ((t.calm ≡ true) × (t.votes ≡ true)))).
            inr (sym asked ∙ a.0, ⊎_elim (λ k. inl (sym is_known ∙ k)) (λ (k : (t.calm ≡ true) × (t.votes ≡ true)). inr (sym is_calm ∙ k.0, sym votes ∙ k.1)) a.1)) tells.0,
        ⊎_elim (λ k. inl (sym is_known ∙ k)) (λ k. inr (sym turn ∙ k)) tells.1,
      )

  -- where the course does not stand so, it is not told
  pub not_due : (c : Course) (t : Telling) → StandsSo q teller s p c t → ¬ Tells t → (d : Course) → c ≡ d → ¬ IsDueTo q teller s p d
  not_due c t stands never d is due =
      never (tells_alike d due.telling t due.stands (subst (λ e. StandsSo q teller s p e t) is stands) due.due)

pub if_none : {X : Type 0} (r : Option X) (P : Type 0) → P → IfNone r P
if_none None P p = p
if_none (Some x) P p = search rules

pub none_more : {X P Q : Type 0} (r : Option X) → (P → Q) → IfNone r P → IfNone r Q
none_more None on p = on p
none_more (Some x) on p = search rules

pub some_more : {X : Type 0} {P Q : X → Type 0} (r : Option X) → ((x : X) → P x → Q x) → IfSome r P → IfSome r Q
some_more None on p = search rules
some_more (Some x) on p = on x p

pub when_none : {X P : Type 0} (r : Option X) → is_some r ≡ false → IfNone r P → P
when_none None none p = p
when_none (Some x) none p = absurd (cc)

-- the number at the place of a number is that one
pub behind_and_back : (last q : ℕ) → 1 ≤ last → last ≤ 9 → 1 ≤ q → q ≤ 9 → number_behind last (places_behind last q) ≡ q
behind_and_back last q a b c d = grind (arith, nat_tests, a, b, c, d)

pub place_range : (last q : ℕ) → 1 ≤ last → last ≤ 9 → 1 ≤ q → q ≤ 9 → (1 ≤ places_behind last q) × (places_behind last q ≤ 9)
place_range last q a b c d = (grind (arith, nat_tests, a, b, c, d), grind (arith, nat_tests, a, b, c, d))

pub place_of : (last p : ℕ) → 1 ≤ last → last ≤ 9 → 1 ≤ p → p ≤ 9 → places_behind last (number_behind last p) ≡ p
place_of last p a b c d = grind (arith, nat_tests, a, b, c, d)
