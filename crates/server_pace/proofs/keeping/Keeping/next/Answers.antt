use Rattle.std.proofs.Common.{◌≡◌, ℕ, suc, ◌+◌, ◌^◌, ◌-◌, min, true, false, sym, ap, subst, ◌∙◌, arith}
use Rattle.site_ids.specs.Ids.{IsInstance}
use Rattle.server_pace.proofs.keeping.Keeping.next.Goals as goal

-- the one behind those that were kept, where there is one
one_behind : (kept i : ℕ) → i ≡ min (kept + 1) (2 ^ 32 - 1) → IsInstance i → i ≡ suc kept
one_behind kept i is range = omega (arith, is, range.0, range.1)

none_behind : (kept : ℕ) → ¬ IsInstance (min (kept + 1) (2 ^ 32 - 1)) → IsInstance (suc kept) → ⊥
none_behind kept none range = none (omega (arith, range.0, range.1), omega (arith, range.0, range.1))

pub returns-then-not-is_due : goal.returns-then-not-is_due
returns-then-not-is_due c = λ both. let no : true ≡ false = sym (c.is_due.ensures.1 both.0) ∙ c.if-not-is_due.true in absurd (cc)

-- all instances are kept
pub returns-in_default : goal.returns-in_default
returns-in_default c = λ both. none_behind c.args.self.kept (subst (λ n. ¬ IsInstance n) c.saturating_add.ensures c.in_default.ensures) both.1

pub returns : goal.returns
returns c =
    let kept = c.args.self.kept in
    let here : c.in-Some.first ≡ suc kept = one_behind kept c.in-Some.first (c.in-Some.ensures.0 ∙ c.saturating_add.ensures) (subst IsInstance (sym c.in-Some.ensures.0) c.in-Some.ensures.1) in
    let many : c.min-count.result ≡ min (c.args.known - kept) c.args.times.block = c.min-count.ensures ∙ ap (λ n. min n c.args.times.block) c.saturating_sub.ensures in
    (c.is_due.ensures.0 c.if-not-is_due.false, subst IsInstance here (subst IsInstance (sym c.in-Some.ensures.0) c.in-Some.ensures.1), λ i. (here i, many i))
