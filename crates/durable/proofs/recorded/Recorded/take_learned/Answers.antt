use Rattle.std.proofs.Common.{List, ℕ, subst, rules}
use Rattle.durable.specs.Entries.{Learned}
use Rattle.durable.specs.Histories.{Advances}
use Rattle.durable.specs.Puts.{Remembers}
use Rattle.durable.specs.declared.recorded.Recorded.{Recorded}
use Rattle.durable.proofs.Kept.{kept_through}
use Rattle.durable.proofs.recorded.Recorded.take_learned.Goals as goal

pub returns : goal.returns
returns c = (
  c.keep_learned.ensures.gate,
  λ entries first kept.
      let entry = Learned c.args.instance c.args.value.now in
      let advances : Advances entries entry = search rules in
      let mid : Recorded = record c.args.self.now { slots = c.make_room.new.self } in
      let Kept : List ℕ → Type 0 = λ v. Remembers mid c.keep_learned.new.self (Learned c.args.instance v) in
      let remembers = subst Kept c.in_ok-value.ensures c.keep_learned.ensures.remembers in
      (advances, kept_through entries entry c.args.self.now c.make_room.new.self c.keep_learned.new.self advances c.make_room.ensures.same remembers kept),
)
