use Rattle.std.proofs.Common.{refl}
use Rattle.site_disk.specs.declared.mem_disk.Call.TheVariants.{Len}
use Rattle.site_disk.proofs.Replay.{stands_noted}
use Rattle.site_disk.proofs.mem_disk.MemDisk.size.Goals as goal

pub returns-clause-state : goal.returns-clause-state
returns-clause-state c = λ d stands. stands_noted _ _ Len d refl stands c.take_note.ensures.same.0 c.take_note.ensures.same.1 c.take_note.ensures.same.2 c.in_ok-take_note.ensures.ok
