use Rattle.std.proofs.Common.{◌≤◌, length, arith}
use Rattle.server_clients.proofs.Dropping.{first_gone}
use Rattle.server_clients.proofs.partings.Partings.make_room.Goals as goal

pub returns-clause-room : goal.returns-clause-room
returns-clause-room g c =
    let full : 64 ≤ length c.args.self.now.partings.items =
    omega (arith, c.if-len-lt-PARTINGS.false, c.len.ensures) in (
      full,
      c.remove.result,
      first_gone c.args.self.now.partings.items c.remove.new.self.items c.remove.result full c.remove.ensures.value
          c.remove.ensures.items,
      c.into_stream.ensures,
    )
