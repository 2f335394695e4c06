use Rattle.std.proofs.Common.{◌≡◌, decimal}
use Rattle.std.proofs.lemmas.Fmt.{parse-decimal}
use Rattle.editor_ledger.proofs.Readings.{cut_there, cut_so}
use Rattle.editor_ledger.proofs.Spellings.{decimal_lacks}
use Rattle.editor_ledger.proofs.reading.number.Goals as goal

pub returns-in_default : goal.returns-in_default
returns-in_default c n more fits none is = cut_there c.args.at (decimal n) more c.args.text.now (decimal_lacks c.args.at n none fits) is c.in_default.ensures

pub returns-in-Ok : goal.returns-in-Ok
returns-in-Ok c n more fits none is =
    let parts = cut_so c.args.at (decimal n) more c.args.text.now c.in-Some.number.now c.in-Some.rest.now (decimal_lacks c.args.at n none fits) is c.in-Some.ensures in
    let read = parse-decimal 64 n _ _ fits fits parts.0 c.parse.ensures.value.0 in
    let same : c.in-Ok.number ≡ n = cc in
    (same, parts.1)

pub returns-in-Err : goal.returns-in-Err
returns-in-Err c n more fits none is =
    let parts = cut_so c.args.at (decimal n) more c.args.text.now c.in-Some.number.now c.in-Some.rest.now (decimal_lacks c.args.at n none fits) is c.in-Some.ensures in
    let read = parse-decimal 64 n _ _ fits fits parts.0 c.parse.ensures.value.0 in
    cc
