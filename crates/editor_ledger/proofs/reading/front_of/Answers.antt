use Rattle.std.proofs.Common.{◌≡◌, codes, true, is_ok, ◌∙◌, arith}
use Rattle.std.proofs.lemmas.Result.{OkIff-decides}
use Rattle.editor_ledger.proofs.Readings.{front_then, front_is, front_there}
use Rattle.editor_ledger.proofs.reading.front_of.Goals as goal

pub returns-in_default : goal.returns-in_default
returns-in_default c editor next last_release more small fits_next fits_last is =
    front_there (codes "published 2\n") c.args.text.now _ c.in_default.ensures (is ∙ front_then editor next last_release more)

pub returns-in_err-editor : goal.returns-in_err-editor
returns-in_err-editor c editor next last_release more small fits_next fits_last is =
    let front = front_is (codes "published 2\n") c.args.text.now c.in-Some.lines.now _ c.in-Some.ensures (is ∙ front_then editor next last_release more) in
    absurd (c.in_err-editor.ensures editor _ (omega (arith, small)) front)

pub returns-in_err-next : goal.returns-in_err-next
returns-in_err-next c editor next last_release more small fits_next fits_last is =
    let front = front_is (codes "published 2\n") c.args.text.now c.in-Some.lines.now _ c.in-Some.ensures (is ∙ front_then editor next last_release more) in
    let first = c.in_ok-editor.ensures editor _ (omega (arith, small)) front in
    absurd (c.in_err-next.ensures next _ fits_next first.1)

pub returns-in_err-last_release : goal.returns-in_err-last_release
returns-in_err-last_release c editor next last_release more small fits_next fits_last is =
    let front = front_is (codes "published 2\n") c.args.text.now c.in-Some.lines.now _ c.in-Some.ensures (is ∙ front_then editor next last_release more) in
    let first = c.in_ok-editor.ensures editor _ (omega (arith, small)) front in
    let second = c.in_ok-next.ensures next _ fits_next first.1 in
    absurd (c.in_err-last_release.ensures last_release more fits_last second.1)

pub returns-in-Err : goal.returns-in-Err
returns-in-Err c editor next last_release more small fits_next fits_last is =
    let front = front_is (codes "published 2\n") c.args.text.now c.in-Some.lines.now _ c.in-Some.ensures (is ∙ front_then editor next last_release more) in
    let first = c.in_ok-editor.ensures editor _ (omega (arith, small)) front in
    let fits : is_ok c.try_from.result ≡ true = (OkIff-decides c.try_from.result _ c.in_ok-editor.editor c.try_from.ensures).1 (omega (arith, small, first.0)) in
    absurd (cc)

pub returns-in-Ok : goal.returns-in-Ok
returns-in-Ok c editor next last_release more small fits_next fits_last is =
    let front = front_is (codes "published 2\n") c.args.text.now c.in-Some.lines.now _ c.in-Some.ensures (is ∙ front_then editor next last_release more) in
    let first = c.in_ok-editor.ensures editor _ (omega (arith, small)) front in
    let second = c.in_ok-next.ensures next _ fits_next first.1 in
    let third = c.in_ok-last_release.ensures last_release more fits_last second.1 in
    (grind (arith, first.0, second.0, third.0), third.1)
