use Rattle.std.proofs.Common.{◌≡◌, ◌++◌, take}
use Rattle.site_drive.specs.Posting.{bytes_of, letters_of}
use Rattle.server.specs.Mailing.{own_of}
use Rattle.server.proofs.mail.put_each.Given as goal

abbrev pub invariant-loop-letter : goal.invariant-loop-letter
invariant-loop-letter l = bytes_of l.came.items ≡ bytes_of l.fn.came.items ++ own_of l.me (letters_of (take l.letter-index l.letters))
