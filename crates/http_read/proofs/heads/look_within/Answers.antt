use Rattle.std.proofs.Common.{◌<◌, length, refl, arith}
use Rattle.http_read.proofs.Room.{room_of_head}
use Rattle.http_read.proofs.heads.look_within.Goals as goal

pub loop-found-smaller : goal.loop-found-smaller
loop-found-smaller c =
    let short : length c.as_mut_slice.result.now < 2730 =
    room_of_head _ c.args.bytes.now c.requires
    (c.parse_request.ensures.too_many (rw (c.in-Err-TooManyHeaders.is, c.in-Err-TooManyHeaders.field-0-is) refl)) in
    omega (arith, short, c.as_mut_slice.ensures.len, c.in_ok-resize-in-Err-TooManyHeaders.ensures.len)
