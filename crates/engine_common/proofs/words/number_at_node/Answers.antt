use Rattle.std.proofs.Common.{◌++◌, ◌∷◌, ◌∙◌, ap₂, arith, decimal}
use Rattle.engine_common.proofs.LineLemmas.{one_word, no_word_behind}
use Rattle.engine_common.proofs.words.number_at_node.Goals as goal

pub returns-in_err-word : goal.returns-in_err-word
returns-in_err-word c = rw c.from_residual.ensures (λ p n ok small is. no_word_behind c.args.front.now c.args.head.now p (decimal n) c.in_err-word.ensures (omega arith) is)

pub returns-in_err-node : goal.returns-in_err-node
returns-in_err-node c = rw c.from_residual-in_err-node.ensures (λ p n ok small is.
    c.in_err-node.ensures p ok (one_word c.args.front.now c.args.head.now _ _ p (decimal n) c.in_ok-word.ensures.0 c.in_ok-word.ensures.1 (omega arith) is).front)

pub returns-in_err-read_number : goal.returns-in_err-read_number
returns-in_err-read_number c = rw c.from_residual-in_err-read_number.ensures (λ p n ok small is.
    c.in_err-read_number.ensures n small (one_word c.args.front.now c.args.head.now _ _ p (decimal n) c.in_ok-word.ensures.0 c.in_ok-word.ensures.1 (omega arith) is).back)

pub returns : goal.returns
returns c = (c.in_ok-node.ensures.0, c.in_ok-read_number.ensures.0, c.in_ok-word.ensures.1 ∙ ap₂ (λ a b. c.args.front.now ++ (a ++ (32 ∷ b))) c.in_ok-node.ensures.1 c.in_ok-read_number.ensures.1)
