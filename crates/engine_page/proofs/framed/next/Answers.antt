use Rattle.std.proofs.Common.{◌≡◌, ◌∙◌, ◌+◌, sym, ap, arith, length, length-append, is_ok, true}
use Rattle.std.proofs.lemmas.Fmt.{decimal_injective}
use Rattle.std.proofs.lemmas.Bool.{false≢true}
use Rattle.std.proofs.lemmas.Result.{OkIff-decides}
use Rattle.engine_page.specs.View.{line_view}
use Rattle.engine_page.proofs.Frames.{no_words, words_are}
use Rattle.engine_page.proofs.framed.next.Goals as goal

pub returns-in_err-line : goal.returns-in_err-line
returns-in_err-line c = rw c.from_residual.ensures (no_words c.args.bytes.now c.in_err-line.ensures)

pub returns-in_err-read_number : goal.returns-in_err-read_number
returns-in_err-read_number c = rw c.from_residual-in_err-read_number.ensures (λ e rest ok is.
    let same = words_are c.args.bytes.now (line_view c.in_ok-line.line) e rest c.in_ok-line.ensures ok is in
    c.in_err-read_number.ensures e.ticket.editor (omega arith) (ap (λ w. w.editor) same))

pub returns-in_err-editor : goal.returns-in_err-editor
returns-in_err-editor c = rw c.from_residual-in_err-editor.ensures (λ e rest ok is.
    let same = words_are c.args.bytes.now (line_view c.in_ok-line.line) e rest c.in_ok-line.ensures ok is in
    let n = c.in_ok-read_number.field-0 in
    let editor : n ≡ e.ticket.editor = decimal_injective n e.ticket.editor c.in_ok-read_number.ensures.0 (omega arith) (sym c.in_ok-read_number.ensures.1 ∙ ap (λ w. w.editor) same) in
    let fits : is_ok c.try_from.result ≡ true = (OkIff-decides c.try_from.result _ n c.try_from.ensures).1 (omega arith) in
    false≢true (c.in_err-editor.ensures.variant ∙ fits))

pub returns-in_err-number : goal.returns-in_err-number
returns-in_err-number c = rw c.from_residual-in_err-number.ensures (λ e rest ok is.
    let same = words_are c.args.bytes.now (line_view c.in_ok-line.line) e rest c.in_ok-line.ensures ok is in
    c.in_err-number.ensures e.ticket.number (omega arith) (ap (λ w. w.number) same))

pub returns-in_err-text_len : goal.returns-in_err-text_len
returns-in_err-text_len c = rw c.from_residual-in_err-text_len.ensures (λ e rest ok is.
    let same = words_are c.args.bytes.now (line_view c.in_ok-line.line) e rest c.in_ok-line.ensures ok is in
    c.in_err-text_len.ensures (length e.text) (omega arith) (ap (λ w. w.length_word) same))

pub returns-then-text_len-gt-MAX_TEXT : goal.returns-then-text_len-gt-MAX_TEXT
returns-then-text_len-gt-MAX_TEXT c e rest ok is =
    let same = words_are c.args.bytes.now (line_view c.in_ok-line.line) e rest c.in_ok-line.ensures ok is in
    let n = c.in_ok-text_len.text_len in
    let len : n ≡ length e.text = decimal_injective n (length e.text) c.in_ok-text_len.ensures.0 (omega arith) (sym c.in_ok-text_len.ensures.1 ∙ ap (λ w. w.length_word) same) in
    omega arith

pub returns-in_err-text : goal.returns-in_err-text
returns-in_err-text c = rw c.from_residual-in_err-text.ensures (λ e rest ok is.
    let same = words_are c.args.bytes.now (line_view c.in_ok-line.line) e rest c.in_ok-line.ensures ok is in
    let n = c.in_ok-text_len.text_len in
    let len : n ≡ length e.text = decimal_injective n (length e.text) c.in_ok-text_len.ensures.0 (omega arith) (sym c.in_ok-text_len.ensures.1 ∙ ap (λ w. w.length_word) same) in
    let after : length c.in_ok-line.line.after.now ≡ length e.text + length rest = ap (λ w. length w.after) same ∙ length-append e.text rest in
    omega (arith, c.in_err-text.ensures))
