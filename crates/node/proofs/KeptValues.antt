-- What a node keeps of what it learned, proved.
use Rattle.std.proofs.Common.{◌≡◌, ⊎_elim, ℕ, Option, Some, None, refl, sym, ap, subst, ◌∙◌}
use Rattle.durable.specs.Entries.{Learned, learned_at}
use Rattle.durable.specs.Histories.{IsHistory}
use Rattle.durable.proofs.Push.{learned_at-new, history-push}
use Rattle.node.specs.Nodes.{Value, Node}
use Rattle.node.specs.Effects.{Effect, quiet, recorded}
use Rattle.node.specs.Calls.{KeepsOne, IsUnkept, MayKeep}
use Rattle.node.specs.Kept.{KeepLeavesNone, KnownIsOnRecord, KeepStaysHistory}

pub no_such : {X : Type 0} (a : X) → ◌≡◌ {A = Option X} None (Some a) → ⊥
no_such a e = cc

pub inside : {X : Type 0} (a b : X) → Some a ≡ Some b → a ≡ b
inside a b e = cc

-- ---- by what is kept of the instance in memory

module _ (s : Node) (i : ℕ) (v : Value) (known : s.known i ≡ Some v) where
  -- what the record lacks is to be kept
  pub lacked : (learned : Option Value) → learned ≡ learned_at i s.entries → learned ≡ None → IsUnkept s i v
  lacked learned learned_is none = record { known = known; unlearned = sym learned_is ∙ none }

  -- what it has is not
  pub not_learned : (learned : Option Value) → learned ≡ learned_at i s.entries → (u : Value) × (learned ≡ Some u) → ¬ MayKeep s i
  not_learned learned learned_is some may = no_such some.0 (sym may.1.unlearned ∙ sym learned_is ∙ some.1)

-- what is not known is not
pub not_known : (s : Node) (i : ℕ) → s.known i ≡ None → ¬ MayKeep s i
not_known s i unknown may = no_such may.0 (sym unknown ∙ may.1.known)

-- ---- laws

pub keep_leaves_none : KeepLeavesNone
keep_leaves_none n p i s new out ends =
    ⊎_elim
    (λ (x : KeepsOne s i ends.effect). (
      λ may. no_such x.value (sym may.1.unlearned ∙ ap (λ (t : Node). learned_at i t.entries) ends.node ∙ ap (λ e. learned_at i (recorded s e).entries) x.is ∙ learned_at-new i s.entries x.value x.unkept.unlearned),
      ends.handed_out ∙ ap (λ e. e.out) x.is,
    ))
    (λ (x : (¬ MayKeep s i) × (ends.effect ≡ quiet s)). (
      subst (λ (t : Node). ¬ MayKeep t i) (sym (ends.node ∙ ap (λ e. recorded s e) x.1)) (λ may. x.0 (may.0, record { known = may.1.known; unlearned = may.1.unlearned })),
      ends.handed_out ∙ ap (λ e. e.out) x.1,
    ))
    ends.does

pub known_is_on_record : KnownIsOnRecord
known_is_on_record s i v known none = by (learned_at i s.entries) refl
  where
    by : (o : Option Value) → learned_at i s.entries ≡ o → (u : Value) × (learned_at i s.entries ≡ Some u)
    by (Some u) is = (u, is)
    by None is = absurd (none (v, record { known = known; unlearned = is }))

pub keep_stays_history : KeepStaysHistory
keep_stays_history n p i s new out ends history ranges =
    subst (λ (t : Node). IsHistory n t.entries) (sym ends.node)
    (⊎_elim
    (λ (x : KeepsOne s i ends.effect).
    let range = ranges.known i x.value x.unkept.known in
    subst (λ (e : Effect). IsHistory n (recorded s e).entries) (sym x.is)
    (history-push n s.entries (Learned i x.value) history (record { in_range = (range.0, range.1); advances = x.unkept.unlearned })))
    (λ (x : (¬ MayKeep s i) × (ends.effect ≡ quiet s)). subst (λ (e : Effect). IsHistory n (recorded s e).entries) (sym x.1) history)
    ends.does)
