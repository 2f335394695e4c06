use Rattle.std.proofs.Common.{◌≡◌, ◌≢◌, inl, inr, ⊎_elim, true, false, Option, Some, None, refl, sym, ap, ◌∙◌}
use Rattle.std.specs.Prelude.{is_some}
use Rattle.acceptor.specs.declared.slot.Slot.{Slot}
use Rattle.durable.specs.Entries.{last_vote}
use Rattle.node.specs.Tellings.{IsRemembered}
use Rattle.node.proofs.KeptValues.{no_such}
use Rattle.node.proofs.Queueing.{is_true, true_is}
use Rattle.node.proofs.node.Node.is_tellable.Goals as goal

-- a value is remembered
pub returns-then-remembers : goal.returns-then-remembers
returns-then-remembers g c s stands = (
  λ _. inl ((c.remembers.ensures s stands).0 (is_true c.remembers.result c.if-remembers.true)),
  λ _. is_true true refl,
)

clash : true ≡ false → ⊥
clash e = cc

some_or_not : {X : Type 0} (x y : Option X) → x ≡ y → is_some x ≡ true → y ≢ None
some_or_not None y same some = absurd (cc)
some_or_not (Some a) y same some = λ none. no_such a (sym (same ∙ none))

none_if_not : {X : Type 0} (x y : Option X) → x ≡ y → y ≢ None → is_some x ≡ true
none_if_not None y same some = absurd (some (sym same))
none_if_not (Some a) y same some = refl

-- or none is, and it voted or did not
pub returns : goal.returns
returns g c s stands =
    let i = c.args.instance in
    let vote = ap (λ (x : Slot). x.vote) c.slot.ensures ∙ (stands.parts.on_record.kept.slots i).vote in
    let none = λ (some : IsRemembered s i). clash (sym (true_is c.remembers.result ((c.remembers.ensures s stands).1 some)) ∙ c.if-remembers.false) in (
      λ t. inr (some_or_not c.slot.result.now.vote (last_vote i s.entries) vote (sym c.is_some.ensures ∙ true_is c.is_some.result t)),
      λ told. ⊎_elim (λ some. absurd (none some)) (λ some. is_true c.is_some.result (c.is_some.ensures ∙ none_if_not c.slot.result.now.vote (last_vote i s.entries) vote some)) told,
    )
