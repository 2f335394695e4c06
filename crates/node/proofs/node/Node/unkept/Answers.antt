use Rattle.std.proofs.Common.{◌≡◌, ℕ, Some, None, length, sym, ap, subst, ◌∙◌, arith}
use Rattle.chosen_log.specs.Log.{value_at as logged}
use Rattle.durable.specs.Slots.{value_at}
use Rattle.node.specs.declared.node.Node.{Node as Running}
use Rattle.node.specs.Nodes.{Value, Node}
use Rattle.node.specs.Calls.{IsUnkept}
use Rattle.node.specs.Standing.{IsNodeOf}
use Rattle.node.proofs.Adding.{on_err}
use Rattle.node.proofs.Counting.{found, missing}
use Rattle.node.proofs.KeptValues.{lacked, not_learned, not_known}
use Rattle.node.proofs.node.Node.unkept.Goals as goal

module _ {D : Type 0} (code : Running D) (s : Node) (stands : IsNodeOf code s) (i : ℕ) (v : Value) (there : Some v ≡ logged code.known.log i) where
  known : s.known i ≡ Some v
  known = sym (stands.parts.known.values i) ∙ sym there

  -- by what was found in memory
  is_unkept : value_at code.store.recorded.slots i ≡ None → IsUnkept s i v
  is_unkept none = lacked s i v known (value_at code.store.recorded.slots i) (stands.parts.on_record.kept.learned i) none

pub returns-in_default-clause-unkept : goal.returns-in_default-clause-unkept
returns-in_default-clause-unkept g c s stands = not_known s c.args.instance (sym (stands.parts.known.values c.args.instance) ∙ sym c.in_default.ensures)

pub returns-then-is_some-clause-unkept : goal.returns-then-is_some-clause-unkept
returns-then-is_some-clause-unkept g c s stands =
    let i = c.args.instance in
    let v : Value = c.in-Some.value.now in
    let learned = value_at c.args.self.now.store.recorded.slots i in
    not_learned s i v (known c.args.self.now s stands i v c.in-Some.ensures) learned (stands.parts.on_record.kept.learned i) (found c.learned.result learned c.learned.ensures (sym c.is_some.ensures ∙ c.if-is_some.true))

-- no known value is so long
pub returns-then-as_bytes-gt-MAX_VALUE-clause-unkept : goal.returns-then-as_bytes-gt-MAX_VALUE-clause-unkept
returns-then-as_bytes-gt-MAX_VALUE-clause-unkept g c s stands =
    let i = c.args.instance in
    let v : Value = c.in-Some.value.now in
    let range = stands.ranges.known i v (known c.args.self.now s stands i v c.in-Some.ensures) in
    let same = ap length c.as_bytes.ensures in
    absurd (omega (arith, range.1, same, c.if-as_bytes-gt-MAX_VALUE.true))

pub returns-clause-unkept : goal.returns-clause-unkept
returns-clause-unkept g c s stands =
    let code = c.args.self.now in
    let i = c.args.instance in
    let v : Value = c.in-Some.value.now in
    subst (λ (u : Value). IsUnkept s i u) (sym c.in_ok-try_clone.ensures)
    (is_unkept code s stands i v c.in-Some.ensures (missing c.learned.result (value_at code.store.recorded.slots i) c.learned.ensures (sym c.is_some.ensures ∙ c.if-is_some.false)))

pub returns-in_err-try_clone-clause-wanted : goal.returns-in_err-try_clone-clause-wanted
returns-in_err-try_clone-clause-wanted g c =
    let code = c.args.self.now in
    let i = c.args.instance in
    let v : Value = c.in-Some.value.now in
    on_err c.from_residual.result (λ (s : Node) (stands : IsNodeOf code s). (
      v,
      is_unkept code s stands i v c.in-Some.ensures (missing c.learned.result (value_at code.store.recorded.slots i) c.learned.ensures (sym c.is_some.ensures ∙ c.if-is_some.false)),
    ))

pub returns-clause-new : goal.returns-clause-new
returns-clause-new g c = missing c.learned.result (value_at c.args.self.now.store.recorded.slots c.args.instance) c.learned.ensures (sym c.is_some.ensures ∙ c.if-is_some.false)

pub returns-clause-fits : goal.returns-clause-fits
returns-clause-fits g c = let copied = ap length c.in_ok-try_clone.ensures in let same = ap length c.as_bytes.ensures in omega (arith, copied, same, c.if-as_bytes-gt-MAX_VALUE.false)
