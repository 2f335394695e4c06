use Rattle.std.proofs.Common.{◌≡◌, ◌++◌, ◌≤◌, List, ℕ, length}
use Rattle.server_packets.specs.Packets.{framed_all}
use Rattle.server.specs.Mailing.{waiting_of, counted}
use Rattle.server.proofs.mail.Mail.take_frames.Given as goal

abbrev pub invariant-loop-datagram : goal.invariant-loop-datagram
invariant-loop-datagram l = record {
  taken : (ds : List (List ℕ)) → l.frames ≡ framed_all ds
      → (done left : List (List ℕ)) × (ds ≡ done ++ left) × (l.rest ≡ framed_all left)
      × (waiting_of l.self ≡ waiting_of l.fn.self ++ done) × (l.self.bytes ≡ counted l.fn.self.bytes done);
  letters : l.self.letters ≡ l.fn.self.letters;
  peers : (l.self.peers ≡ l.fn.self.peers) × (l.self.cluster ≡ l.fn.self.cluster);
  short : length l.rest ≤ length l.frames;
}

abbrev pub decreases-loop-datagram : goal.decreases-loop-datagram
decreases-loop-datagram l = length l.rest
