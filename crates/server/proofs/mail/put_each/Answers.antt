use Rattle.std.proofs.Common.{◌++◌, ◌∷◌, [], take, ap, ◌∙◌, append_assoc}
use Rattle.site_drive.specs.Posting.{bytes_of, letters_of}
use Rattle.site_drive.proofs.Giving.{take_past}
use Rattle.server.specs.Mailing.{own_of}
use Rattle.server.proofs.Owning.{own_more}
use Rattle.server.proofs.mail.put_each.Goals as goal

pub loop-letter-preserved : goal.loop-letter-preserved
loop-letter-preserved c =
    let before = bytes_of c.args.came.now.items in
    let me = c.args.me in
    let letters = c.args.letters.now in
    let i = c.loop-letter.letter-index in
    let x = c.letter-item.result in
    c.in_ok-put_own.ensures ∙ ap (λ l. l ++ own_of me (letters_of (x ∷ []))) c.loop-letter.invariant
    ∙ append_assoc before (own_of me (letters_of (take i letters))) (own_of me (letters_of (x ∷ [])))
    ∙ ap (λ l. before ++ l) (own_more me letters i x c.loop-letter-test.true c.letter-item.is)

pub returns : goal.returns
returns c = c.loop-letter.invariant ∙ ap (λ l. bytes_of c.args.came.now.items ++ own_of c.args.me (letters_of l)) (take_past c.args.letters.now c.loop-letter.letter-index c.loop-letter-test.false)
