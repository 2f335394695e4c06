use Rattle.std.proofs.Common.{◌≡◌, ◌++◌, ◌∷◌, ◌∙◌, sym, ap, ap₂, arith, codes, decimal}
use Rattle.engine_common.proofs.LineLemmas.{one_word, no_word_behind, no_number_cut, one_number_cut, holds_space, lacks_space, lacks-path}
use Rattle.engine_schedule.proofs.schedule.getting.Goals as goal

pub returns-in_err-word : goal.returns-in_err-word
returns-in_err-word c = rw c.from_residual.ensures (λ p n path ok small fits is. no_word_behind (codes "get ") c.args.head.now p _ c.in_err-word.ensures (omega arith) is)

pub returns-in_err-number : goal.returns-in_err-number
returns-in_err-number c = rw c.from_residual-in_err-number.ensures (λ p n path ok small fits is.
    let rest = (one_word (codes "get ") c.args.head.now _ _ p _ c.in_ok-word.ensures.0 c.in_ok-word.ensures.1 (omega arith) is) in
    no_number_cut _ n path c.in_err-number.ensures small rest.back)

pub returns-in_err-node : goal.returns-in_err-node
returns-in_err-node c = rw c.from_residual-in_err-node.ensures (λ p n path ok small fits is.
    let rest = (one_word (codes "get ") c.args.head.now _ _ p _ c.in_ok-word.ensures.0 c.in_ok-word.ensures.1 (omega arith) is) in
    c.in_err-node.ensures p ok rest.front)

pub returns-in_err-release : goal.returns-in_err-release
returns-in_err-release c = rw c.from_residual-in_err-release.ensures (λ p n path ok small fits is.
    let rest = (one_word (codes "get ") c.args.head.now _ _ p _ c.in_ok-word.ensures.0 c.in_ok-word.ensures.1 (omega arith) is) in
    let same = one_number_cut _ _ _ n path c.in_ok-number.ensures small rest.back in
    c.in_err-release.ensures n small same.front)

pub returns-then-is_some : goal.returns-then-is_some
returns-then-is_some c p n path ok small fits is =
    let rest = (one_word (codes "get ") c.args.head.now _ _ p _ c.in_ok-word.ensures.0 c.in_ok-word.ensures.1 (omega arith) is) in
    let same = one_number_cut _ _ _ n path c.in_ok-number.ensures small rest.back in
    holds_space path c.cut-2.result (rw same.back at c.cut-2.ensures) (sym c.is_some.ensures ∙ c.if-is_some.true) fits.no_space

pub returns-in_default : goal.returns-in_default
returns-in_default c p n path ok small fits is =
    let rest = (one_word (codes "get ") c.args.head.now _ _ p _ c.in_ok-word.ensures.0 c.in_ok-word.ensures.1 (omega arith) is) in
    let same = one_number_cut _ _ _ n path c.in_ok-number.ensures small rest.back in
    c.in_default.ensures.cases.0 (rw same.back fits.text)

pub returns : goal.returns
returns c =
    let path = c.in-Ok.ensures.cases.0 in
    let rest = c.in_ok-number.ensures.whole in
    let whole : c.args.head.now ≡ codes "get " ++ (c.in_ok-word.word.now ++ (32 ∷ (c.in_ok-number.number.now ++ (32 ∷ c.in_ok-number.path.now)))) = c.in_ok-word.ensures.1 ∙ ap (λ t. codes "get " ++ (c.in_ok-word.word.now ++ (32 ∷ t))) rest in (
      c.in_ok-node.ensures.0,
      c.in_ok-release.ensures.0,
      record {
        no_space = rw path (lacks_space c.in_ok-number.path.now c.cut-2.result c.cut-2.ensures (sym c.is_some.ensures ∙ c.if-is_some.false));
        no_newline = rw path (lacks-path (codes "get ") c.args.head.now _ _ c.in_ok-number.path.now c.requires whole);
        text = rw path c.in-Ok.ensures.cases.1;
      },
      whole ∙ (ap₂ (λ a b. codes "get " ++ (a ++ (32 ∷ (b ++ (32 ∷ c.in_ok-number.path.now))))) c.in_ok-node.ensures.1 c.in_ok-release.ensures.1 ∙ ap (λ t. codes "get " ++ (decimal c.in_ok-node.node ++ (32 ∷ (decimal c.in_ok-release.release ++ (32 ∷ t))))) (sym path)),
    )
