-- A batch of a delivery and a tick, worked out: computed.
use Rattle.std.proofs.Common.{None, [], ◌∷◌, ◌++◌, refl, arith}
use Rattle.durable.specs.Entries.{with_entry}
use Rattle.wire.specs.declared.message.Message.TheVariants.{Prepare}
use Rattle.node.specs.Nodes.{Up}
use Rattle.node.specs.Calls.{Call, tick, deliver, Does}
use Rattle.node.specs.Endings.{Whole}
use Rattle.world.specs.declared.event.Event.TheVariants.{Tick}
use Rattle.world.specs.Batches.{SomeBatchIsTaken}
use Rattle.world.specs.Worlds.{start}
use Rattle.world.specs.Worked.{at}
use Rattle.world.proofs.Computing.{all_as_is, run, the, Ran, whole_ends}
use Rattle.world.proofs.Doing.{done}
use Rattle.world.proofs.DoingVotes.{Done}
use Rattle.world.proofs.Tables.{NodeBy, node_by, opened_by, world_by, started}
use Rattle.world.proofs.Taken.{taken_is_a_schedule}

ran_before : Ran 3 started (all_as_is (Tick 1 ∷ []))
ran_before = the (run 3 started (all_as_is (Tick 1 ∷ []))) tt

abbrev first : NodeBy
first = opened_by Up [] None

abbrev promises : Call
promises = deliver (Prepare 1 1 (at 1 1) 1)

promised : Done (Does 3 2 (node_by first) promises)
promised = the (done 3 2 first promises) tt

abbrev second : NodeBy
second = record (promised.after) { entries = with_entry first.entries promised.entry }

ticked : Done (Does 3 2 (node_by second) tick)
unfolding promised
ticked = the (done 3 2 second tick) tt

abbrev third : NodeBy
third = record (ticked.after) { entries = with_entry second.entries ticked.entry }

pub some_batch_is_taken : SomeBatchIsTaken
unfolding ran_before promised ticked
some_batch_is_taken = record {
  w = world_by ran_before.0;
  out = promised.out ++ ticked.out;
  next = node_by third;
  runs = taken_is_a_schedule 3 start (world_by ran_before.0) (Tick 1 ∷ []) ran_before.1;
  batch = record {
    calls = promises ∷ tick ∷ [];
    in_cluster = (omega arith, omega arith);
    are_events = ((0, refl, refl), (refl, tt));
    ends = (
      Whole,
      promised.out,
      node_by second,
      ticked.out,
      whole_ends 3 2 first promises promised refl,
      (Whole, ticked.out, node_by third, [], whole_ends 3 2 second tick ticked refl, (refl, refl), refl),
      refl,
    );
  };
  puts = refl;
  said = refl;
}
