-- What a message is about and from whom, and the ranges of its fields.
use Rattle.std.specs.Prelude.{ℕ, ◌≤◌, length, ⊤}
use Rattle.std.specs.Option.{IfSome}
use Rattle.site_ids.specs.declared.TheConstants.{MAX_VALUE}
use Rattle.site_ids.specs.Ids.{IsNode, IsInstance, IsBallot}
use Rattle.site_ids.specs.Spans.{IsSpan}
use Rattle.wire.specs.declared.message.Message.{Message}
use Rattle.wire.specs.declared.message.Message.TheVariants.{Prepare, Promise, Propose, Accepted, Nack, Ask}
use Rattle.wire.specs.declared.message.Message.TheVariants.{Chosen}

abbrev pub sender_of : Message → ℕ
sender_of (Prepare q i b k) = q
sender_of (Promise q i b prior) = q
sender_of (Propose q i b v) = q
sender_of (Accepted q i b v) = q
sender_of (Nack q i b c) = q
sender_of (Ask q i) = q
sender_of (Chosen q i v) = q

abbrev pub instance_of : Message → ℕ
instance_of (Prepare q i b k) = i
instance_of (Promise q i b prior) = i
instance_of (Propose q i b v) = i
instance_of (Accepted q i b v) = i
instance_of (Nack q i b c) = i
instance_of (Ask q i) = i
instance_of (Chosen q i v) = i

-- ---- for the code: agreement does not need it

-- kinds are numbered in this order
abbrev pub kind_of : Message → ℕ
kind_of (Prepare q i b k) = 1
kind_of (Promise q i b prior) = 2
kind_of (Propose q i b v) = 3
kind_of (Accepted q i b v) = 4
kind_of (Nack q i b c) = 5
kind_of (Ask q i) = 6
kind_of (Chosen q i v) = 7

-- each value has at most 32,768 bytes, and a prepare's instances are a span
abbrev pub Fits : Message → Type 0
Fits (Prepare q i b k) = IsSpan i k
Fits (Promise q i b prior) = IfSome prior (λ vote. length vote.value ≤ MAX_VALUE)
Fits (Propose q i b v) = length v ≤ MAX_VALUE
Fits (Accepted q i b v) = length v ≤ MAX_VALUE
Fits (Nack q i b c) = ⊤
Fits (Ask q i) = ⊤
Fits (Chosen q i v) = length v ≤ MAX_VALUE

-- each ballot has a round in range, and is of one of the n nodes
abbrev pub HasBallots : ℕ → Message → Type 0
HasBallots n (Prepare q i b k) = IsBallot n b
HasBallots n (Promise q i b prior) = IsBallot n b × IfSome prior (λ vote. IsBallot n vote.ballot)
HasBallots n (Propose q i b v) = IsBallot n b
HasBallots n (Accepted q i b v) = IsBallot n b
HasBallots n (Nack q i b c) = IsBallot n b × IsBallot n c
HasBallots n (Ask q i) = ⊤
HasBallots n (Chosen q i v) = ⊤

-- all fields of a message are in their ranges, in a cluster of n nodes
pub record IsMessage (n : ℕ) (m : Message) : Type 0 where
  pub sender : IsNode n (sender_of m)
  pub instance : IsInstance (instance_of m)
  pub ballots : HasBallots n m
  pub fits : Fits m
