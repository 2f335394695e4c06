use Rattle.std.proofs.Common.{◌<◌, length, refl, arith}
use Rattle.http_read.proofs.Room.{room_of_section}
use Rattle.http_read.proofs.FoundSections.{sees_whole}
use Rattle.http_read.proofs.trailers.look_for_section.Goals as goal

pub returns-in-Ok-Complete : goal.returns-in-Ok-Complete
returns-in-Ok-Complete c =
    let within = rw c.in-Ok-Complete.field-0-is at c.in-Ok-Complete.ensures.within in
    let whole = rw c.in-Ok-Complete.field-0-is at c.in-Ok-Complete.ensures.complete in
    sees_whole c.args.bytes.now _ c.in-Ok-Complete.len c.in-Ok-Complete.count within whole

pub loop-len-smaller : goal.loop-len-smaller
loop-len-smaller c =
    let short : length c.as_mut_slice.result.now < 2730 =
    room_of_section _ c.args.bytes.now c.requires
    (c.parse_headers.ensures.too_many (rw (c.in-Err-TooManyHeaders.is, c.in-Err-TooManyHeaders.field-0-is) refl)) in
    omega (arith, short, c.as_mut_slice.ensures.len, c.in_ok-resize-in-Err-TooManyHeaders.ensures.len)
