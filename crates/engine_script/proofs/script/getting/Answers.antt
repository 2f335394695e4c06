use Rattle.std.proofs.Common.{◌≡◌, ◌++◌, ◌∷◌, ◌∙◌, sym, ap, arith, codes}
use Rattle.std.proofs.lemmas.Fmt.{decimal_injective}
use Rattle.engine_common.proofs.LineLemmas.{one_word, no_word_behind, holds_space, lacks_space, lacks-target}
use Rattle.engine_script.proofs.script.getting.Goals.{then-number-gt-SERVERS-via-then-number-gt-SERVERS, then-number-gt-SERVERS-via-else-number-gt-SERVERS+then-is_some}
use Rattle.engine_script.proofs.script.getting.Goals as goal

pub returns-in_err-word : goal.returns-in_err-word
returns-in_err-word c = rw c.from_residual.ensures (λ p target ok fits is. no_word_behind (codes "get ") c.args.head.now p target c.in_err-word.ensures (omega arith) is)

pub returns-in_err-node : goal.returns-in_err-node
returns-in_err-node c = rw c.from_residual-in_err-node.ensures (λ p target ok fits is.
    c.in_err-node.ensures p (omega arith, omega arith) (one_word (codes "get ") c.args.head.now _ _ p target c.in_ok-word.ensures.0 c.in_ok-word.ensures.1 (omega arith) is).front)

pub returns-then-number-gt-SERVERS : goal.returns-then-number-gt-SERVERS
returns-then-number-gt-SERVERS c p target ok fits is =
    let rest = one_word (codes "get ") c.args.head.now _ _ p target c.in_ok-word.ensures.0 c.in_ok-word.ensures.1 (omega arith) is in
    let node = c.in_ok-node.node in
    let same : node ≡ p = decimal_injective node p (omega (arith, c.in_ok-node.ensures.0.1)) (omega arith) (sym c.in_ok-node.ensures.1 ∙ rest.front) in
    elim c.then-number-gt-SERVERS.branch [
      | then-number-gt-SERVERS-via-then-number-gt-SERVERS w ↦ omega (arith, same, ok.1, c.number.ensures.is, w.if-number-gt-SERVERS.true)
      | then-number-gt-SERVERS-via-else-number-gt-SERVERS+then-is_some w ↦ holds_space target w.cut.result (rw rest.back at w.cut.ensures) (sym w.is_some.ensures ∙ w.if-is_some.true) fits.no_space
    ]

pub returns : goal.returns
returns c = (
  (c.in_ok-node.ensures.0.0, omega (arith, c.number.ensures.is, c.if-number-gt-SERVERS.false)),
  record {
    no_space = lacks_space c.in_ok-word.target.now c.cut.result c.cut.ensures (sym c.is_some.ensures ∙ c.if-is_some.false);
    no_newline = lacks-target (codes "get ") c.args.head.now c.in_ok-word.word.now c.in_ok-word.target.now c.requires c.in_ok-word.ensures.1;
  },
  c.in_ok-word.ensures.1 ∙ ap (λ a. codes "get " ++ (a ++ (32 ∷ c.in_ok-word.target.now))) c.in_ok-node.ensures.1,
)
