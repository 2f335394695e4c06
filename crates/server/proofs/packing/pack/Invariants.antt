use Rattle.std.proofs.Common.{◌≡◌, ◌≤◌, ℕ, List, length, take, true}
use Rattle.site_drive.specs.Posting.{letters_of}
use Rattle.server_packets.specs.Making.{Packs}
use Rattle.server.specs.Mailing.{own_of}
use Rattle.server.proofs.packing.pack.Given as goal

abbrev pub invariant-loop-n : goal.invariant-loop-n
invariant-loop-n l = (ds : List (List ℕ)) → Packs l.fn.packet ds
    → Packs l.packet (own_of l.to (letters_of (take l.n l.letters))) × (l.alone ≡ true → length (own_of l.to (letters_of (take l.n l.letters))) ≤ 1)
