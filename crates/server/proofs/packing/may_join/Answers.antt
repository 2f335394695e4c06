use Rattle.std.proofs.Common.{rules, arith, ◌≡◌, ℕ, List, [], Bool, true, inl, inr}
use Rattle.server.specs.Speaking.{MayJoin}
use Rattle.server.proofs.packing.may_join.Goals as goal

-- nothing joins others where it is to go alone
none_joins : (ds : List (List ℕ)) (len : ℕ) (alone : Bool) → ¬ (ds ≡ []) → alone ≡ true → ¬ (MayJoin ds len alone)
none_joins ds len alone some is (inl none) = some none
none_joins ds len alone some is (inr more) = let together = more.0 in absurd (cc)

pub returns-then-is_empty : goal.returns-then-is_empty
returns-then-is_empty c = λ ds made. (
  λ _. inl ((c.is_empty.ensures ds made).0 (grind (arith, c.if-is_empty.true))),
  λ _. search rules,
)

pub returns-else-not-alone : goal.returns-else-not-alone
returns-else-not-alone c = λ ds made. (
  λ t. absurd (search (rules, t)),
  λ may. absurd (none_joins ds c.args.len c.args.alone
      (λ none. let t = (c.is_empty.ensures ds made).1 none in absurd (grind (arith, t, c.if-is_empty.false)))
      (grind (arith, c.if-not-alone.false)) may),
)
