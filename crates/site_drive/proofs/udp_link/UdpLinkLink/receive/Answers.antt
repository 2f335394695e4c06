use Rattle.std.proofs.Common.{take}
use Rattle.site_drive.proofs.Receiving.{take_of_take}
use Rattle.site_drive.proofs.udp_link.UdpLinkLink.receive.Goals as goal

-- src/udp.rt:41:5
pub returns-in-Ok-clause-heard : goal.returns-in-Ok-clause-heard
returns-in-Ok-clause-heard c = λ ds _. (take c.in-Ok.n c.recv_from.new.buf, tt, take_of_take c.in-Ok.n c.recv_from.new.buf)
