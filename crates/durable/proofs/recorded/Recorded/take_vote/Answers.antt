use Rattle.std.proofs.Common.{List, ℕ, subst}
use Rattle.acceptor.specs.declared.slot.Slot.{Slot}
use Rattle.acceptor.specs.Judging.{IsFreeAt, IsVotedAt}
use Rattle.durable.specs.Entries.{Voted}
use Rattle.durable.specs.Puts.{Remembers}
use Rattle.durable.specs.declared.recorded.Recorded.{Recorded}
use Rattle.durable.proofs.Advances.{vote_advances}
use Rattle.durable.proofs.Kept.{kept_through}
use Rattle.durable.proofs.recorded.Recorded.take_vote.Goals as goal

pub returns : goal.returns
returns c = (
  c.keep_vote.ensures.gate,
  λ entries first kept.
      let entry = Voted c.args.instance c.args.ballot c.args.value.now in
      let free = subst (λ (s : Slot). IsFreeAt s.promised c.args.ballot × (¬ IsVotedAt s.vote c.args.ballot)) c.get.ensures c.in-Vote.ensures in
      let advances = vote_advances entries c.args.instance c.args.ballot c.args.value.now _ (kept.slots c.args.instance) free.0 free.1 in
      let mid : Recorded = record c.args.self.now { slots = c.make_room.new.self } in
      let Kept : List ℕ → Type 0 = λ v. Remembers mid c.keep_vote.new.self (Voted c.args.instance c.args.ballot v) in
      let remembers = subst Kept c.in_ok-value.ensures c.keep_vote.ensures.remembers in
      (advances, kept_through entries entry c.args.self.now c.make_room.new.self c.keep_vote.new.self advances c.make_room.ensures.same remembers kept),
)
