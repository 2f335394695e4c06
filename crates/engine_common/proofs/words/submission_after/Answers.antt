use Rattle.std.proofs.Common.{◌≡◌, ◌++◌, ◌∷◌, ◌∙◌, sym, ap, ap₂, arith, rules, true, is_ok, decimal}
use Rattle.std.proofs.lemmas.Bool.{false≢true}
use Rattle.std.proofs.lemmas.Result.{OkIff-decides}
use Rattle.std.proofs.lemmas.Fmt.{decimal_injective}
use Rattle.engine_common.proofs.LineLemmas.{no_word_behind, no_number_cut, behind_node, behind_editor, same_submission, fitted}
use Rattle.engine_common.proofs.words.submission_after.Goals as goal

pub returns-in_err-word : goal.returns-in_err-word
returns-in_err-word c = rw c.from_residual.ensures (λ p ticket len ok is. no_word_behind c.args.front.now c.args.head.now p _ c.in_err-word.ensures (omega arith) is)

pub returns-in_err-editor : goal.returns-in_err-editor
returns-in_err-editor c = rw c.from_residual-in_err-editor.ensures (λ p ticket len ok is.
    no_number_cut c.in_ok-word.rest.now ticket.editor _ c.in_err-editor.ensures (omega arith) (behind_node c.args.front.now c.args.head.now c.in_ok-word.word.now c.in_ok-word.rest.now p ticket len c.in_ok-word.ensures.0 ok c.in_ok-word.ensures.1 is).later)

pub returns-in_err-number : goal.returns-in_err-number
returns-in_err-number c = rw c.from_residual-in_err-number.ensures (λ p ticket len ok is.
    no_number_cut c.in_ok-editor.rest.now ticket.number _ c.in_err-number.ensures (omega arith) (behind_editor c.args.front.now c.args.head.now c.in_ok-word.word.now c.in_ok-word.rest.now _ _ p ticket len c.in_ok-word.ensures.0 ok c.in_ok-word.ensures.1 is c.in_ok-editor.ensures).later)

pub returns-in_err-node : goal.returns-in_err-node
returns-in_err-node c = rw c.from_residual-in_err-node.ensures (λ p ticket len ok is. c.in_err-node.ensures p ok.0 (behind_node c.args.front.now c.args.head.now c.in_ok-word.word.now c.in_ok-word.rest.now p ticket len c.in_ok-word.ensures.0 ok c.in_ok-word.ensures.1 is).node_is)

pub returns-in_err-read_number : goal.returns-in_err-read_number
returns-in_err-read_number c = rw c.from_residual-in_err-read_number.ensures (λ p ticket len ok is. c.in_err-read_number.ensures ticket.editor (omega arith) (behind_editor c.args.front.now c.args.head.now c.in_ok-word.word.now c.in_ok-word.rest.now _ _ p ticket len c.in_ok-word.ensures.0 ok c.in_ok-word.ensures.1 is c.in_ok-editor.ensures).editor_is)

pub returns-in_err-editor-2 : goal.returns-in_err-editor-2
returns-in_err-editor-2 c = rw c.from_residual-in_err-editor-2.ensures (λ p ticket len ok is.
    let e = behind_editor c.args.front.now c.args.head.now c.in_ok-word.word.now c.in_ok-word.rest.now _ _ p ticket len c.in_ok-word.ensures.0 ok c.in_ok-word.ensures.1 is c.in_ok-editor.ensures in
    let n = c.in_ok-read_number.field-0 in
    let same : n ≡ ticket.editor = decimal_injective n ticket.editor c.in_ok-read_number.ensures.0 (omega arith) (sym c.in_ok-read_number.ensures.1 ∙ e.editor_is) in
    let fits : is_ok c.try_from.result ≡ true = (OkIff-decides c.try_from.result _ n c.try_from.ensures).1 (omega arith) in
    false≢true (c.in_err-editor-2.ensures.variant ∙ fits))

pub returns-in_err-number-2 : goal.returns-in_err-number-2
returns-in_err-number-2 c = rw c.from_residual-in_err-number-2.ensures (λ p ticket len ok is. c.in_err-number-2.ensures ticket.number (omega arith) (same_submission c.args.front.now c.args.head.now c.in_ok-word.word.now c.in_ok-word.rest.now _ _ _ _ p ticket len c.in_ok-word.ensures.0 ok c.in_ok-word.ensures.1 is c.in_ok-editor.ensures c.in_ok-number.ensures).number_is)

pub returns-in_err-text_len : goal.returns-in_err-text_len
returns-in_err-text_len c = rw c.from_residual-in_err-text_len.ensures (λ p ticket len ok is. c.in_err-text_len.ensures len (omega arith) (same_submission c.args.front.now c.args.head.now c.in_ok-word.word.now c.in_ok-word.rest.now _ _ _ _ p ticket len c.in_ok-word.ensures.0 ok c.in_ok-word.ensures.1 is c.in_ok-editor.ensures c.in_ok-number.ensures).length_is)

pub returns-then-text_len-gt-MAX_TEXT : goal.returns-then-text_len-gt-MAX_TEXT
returns-then-text_len-gt-MAX_TEXT c p ticket len ok is =
    let e = same_submission c.args.front.now c.args.head.now c.in_ok-word.word.now c.in_ok-word.rest.now _ _ _ _ p ticket len c.in_ok-word.ensures.0 ok c.in_ok-word.ensures.1 is c.in_ok-editor.ensures c.in_ok-number.ensures in
    let n = c.in_ok-text_len.text_len in
    let same : n ≡ len = decimal_injective n len c.in_ok-text_len.ensures.0 (omega arith) (sym c.in_ok-text_len.ensures.1 ∙ e.length_is) in
    omega arith

pub returns : goal.returns
returns c =
    let e = c.in_ok-editor.ensures.whole in
    let k = c.in_ok-number.ensures.whole in
    let same : c.in_ok-editor-2.editor ≡ c.in_ok-read_number.field-0 = fitted c.try_from.result _ c.in_ok-read_number.field-0 c.in_ok-editor-2.editor c.try_from.ensures c.in_ok-editor-2.ensures.value in
    let editor : c.in_ok-editor.editor.now ≡ decimal c.in_ok-editor-2.editor = c.in_ok-read_number.ensures.1 ∙ ap decimal (sym same) in
    let last : c.in_ok-editor.rest.now ≡ decimal c.in_ok-number-2.number ++ (32 ∷ decimal c.in_ok-text_len.text_len) = k ∙ ap₂ (λ a b. a ++ (32 ∷ b)) c.in_ok-number-2.ensures.1 c.in_ok-text_len.ensures.1 in
    let rest : c.in_ok-word.rest.now ≡ decimal c.in_ok-editor-2.editor ++ (32 ∷ (decimal c.in_ok-number-2.number ++ (32 ∷ decimal c.in_ok-text_len.text_len))) = e ∙ ap₂ (λ a b. a ++ (32 ∷ b)) editor last in (
      (c.in_ok-node.ensures.0, search rules, c.in_ok-number-2.ensures.0, omega (arith, c.if-text_len-gt-MAX_TEXT.false)),
      c.in_ok-word.ensures.1 ∙ ap₂ (λ a b. c.args.front.now ++ (a ++ (32 ∷ b))) c.in_ok-node.ensures.1 rest,
    )
