use Rattle.std.proofs.Common.{◌≡◌, ◌++◌, take}
use Rattle.site_drive.specs.Leading.{AllFit}
use Rattle.site_drive.specs.Posting.{letters_of, spelled_of}
use Rattle.site_drive.proofs.desk.Desk.post.Given as goal

abbrev pub invariant-loop-to : goal.invariant-loop-to
invariant-loop-to l = AllFit l.to-items → letters_of l.letters.items ≡ letters_of l.fn.letters.items ++ spelled_of (take l.to-index l.to-items)
