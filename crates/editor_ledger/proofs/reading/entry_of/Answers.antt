use Rattle.std.proofs.Common.{true, false, codes, sym, ap, ◌∙◌}
use Rattle.editor_ledger.specs.Entries.{released, told, has, was, sent}
use Rattle.editor_ledger.proofs.Readings.{no_cut, released_arm, arm, no_arm, told_only, has_only, was_only, sent_only, given_is}
use Rattle.editor_ledger.proofs.reading.entry_of.Goals as goal

pub returns-in_default : goal.returns-in_default
returns-in_default c item more fits is = no_cut c.args.text.now item more c.in_default.ensures is

pub returns-in_default-word : goal.returns-in_default-word
returns-in_default-word c item more fits is =
    no_arm c.args.text.now c.in-Some.word.now c.in-Some.rest.now item more c.in-Some.ensures is
    c.in_default-word.not-released c.in_default-word.not-released_by c.in_default-word.not-has c.in_default-word.not-told c.in_default-word.not-was c.in_default-word.not-sent

pub returns-in_err-released-in-released : goal.returns-in_err-released-in-released
returns-in_err-released-in-released c item more fits is =
    let found = released_arm true c.args.text.now c.in-Some.word.now c.in-Some.rest.now item more c.in-Some.ensures c.in-released.is fits is in
    absurd (c.in_err-released-in-released.ensures found.0 more found.3 found.4 found.2)

pub returns-in_ok-released-in-released : goal.returns-in_ok-released-in-released
returns-in_ok-released-in-released c item more fits is =
    let found = released_arm true c.args.text.now c.in-Some.word.now c.in-Some.rest.now item more c.in-Some.ensures c.in-released.is fits is in
    let read = c.in_ok-released-in-released.ensures found.0 more found.3 found.4 found.2 in
    (ap released read.0 ∙ sym found.1, read.1)

pub returns-in_err-released-in-released_by : goal.returns-in_err-released-in-released_by
returns-in_err-released-in-released_by c item more fits is =
    let found = released_arm false c.args.text.now c.in-Some.word.now c.in-Some.rest.now item more c.in-Some.ensures c.in-released_by.is fits is in
    absurd (c.in_err-released-in-released_by.ensures found.0 more found.3 found.4 found.2)

pub returns-in_ok-released-in-released_by : goal.returns-in_ok-released-in-released_by
returns-in_ok-released-in-released_by c item more fits is =
    let found = released_arm false c.args.text.now c.in-Some.word.now c.in-Some.rest.now item more c.in-Some.ensures c.in-released_by.is fits is in
    let read = c.in_ok-released-in-released_by.ensures found.0 more found.3 found.4 found.2 in
    (ap released read.0 ∙ sym found.1, read.1)

pub returns-in_err-text-in-has : goal.returns-in_err-text-in-has
returns-in_err-text-in-has c item more fits is =
    let found = arm has (codes "has") has_only c.args.text.now c.in-Some.word.now c.in-Some.rest.now item more c.in-Some.ensures c.in-has.is fits is in
    absurd (c.in_err-text-in-has.ensures found.0 more found.2 found.3)

pub returns-in_ok-text-in-has : goal.returns-in_ok-text-in-has
returns-in_ok-text-in-has c item more fits is =
    let found = arm has (codes "has") has_only c.args.text.now c.in-Some.word.now c.in-Some.rest.now item more c.in-Some.ensures c.in-has.is fits is in
    let read = c.in_ok-text-in-has.ensures found.0 more found.2 found.3 in
    (ap has read.0 ∙ sym found.1, read.1)

pub returns-in_err-number-in-told : goal.returns-in_err-number-in-told
returns-in_err-number-in-told c item more fits is =
    let found = arm told (codes "told") told_only c.args.text.now c.in-Some.word.now c.in-Some.rest.now item more c.in-Some.ensures c.in-told.is fits is in
    absurd (c.in_err-number-in-told.ensures found.0 more found.2 found.3)

pub returns-in_ok-number-in-told : goal.returns-in_ok-number-in-told
returns-in_ok-number-in-told c item more fits is =
    let found = arm told (codes "told") told_only c.args.text.now c.in-Some.word.now c.in-Some.rest.now item more c.in-Some.ensures c.in-told.is fits is in
    let read = c.in_ok-number-in-told.ensures found.0 more found.2 found.3 in
    (ap told (given_is _ _ found.0 read.0 read.1) ∙ sym found.1, read.2)

pub returns-in_err-number-in-was : goal.returns-in_err-number-in-was
returns-in_err-number-in-was c item more fits is =
    let found = arm was (codes "was") was_only c.args.text.now c.in-Some.word.now c.in-Some.rest.now item more c.in-Some.ensures c.in-was.is fits is in
    absurd (c.in_err-number-in-was.ensures found.0 more found.2 found.3)

pub returns-in_ok-number-in-was : goal.returns-in_ok-number-in-was
returns-in_ok-number-in-was c item more fits is =
    let found = arm was (codes "was") was_only c.args.text.now c.in-Some.word.now c.in-Some.rest.now item more c.in-Some.ensures c.in-was.is fits is in
    let read = c.in_ok-number-in-was.ensures found.0 more found.2 found.3 in
    (ap was (given_is _ _ found.0 read.0 read.1) ∙ sym found.1, read.2)

pub returns-in_err-number-in-sent : goal.returns-in_err-number-in-sent
returns-in_err-number-in-sent c item more fits is =
    let found = arm sent (codes "sent") sent_only c.args.text.now c.in-Some.word.now c.in-Some.rest.now item more c.in-Some.ensures c.in-sent.is fits is in
    absurd (c.in_err-number-in-sent.ensures found.0 more found.2 found.3)

pub returns-in_ok-number-in-sent : goal.returns-in_ok-number-in-sent
returns-in_ok-number-in-sent c item more fits is =
    let found = arm sent (codes "sent") sent_only c.args.text.now c.in-Some.word.now c.in-Some.rest.now item more c.in-Some.ensures c.in-sent.is fits is in
    let read = c.in_ok-number-in-sent.ensures found.0 more found.2 found.3 in
    (ap sent (given_is _ _ found.0 read.0 read.1) ∙ sym found.1, read.2)
