use Rattle.std.proofs.Common.{rules, get_or, false, if◌then◌else◌}
use Rattle.server_notes.specs.Listening.{silence_at}
use Rattle.server_notes.specs.Noting.{no_silence, heard_at}
use Rattle.site_ids.proofs.NodeSetLemmas.{set_next}
use Rattle.server_notes.proofs.listening.hear_each.Goals as goal

pub loop-i-preserved : goal.loop-i-preserved
loop-i-preserved c = (
  search rules,
  set_next c.loop-i.after c.loop-i.i c.passed.result no_silence
      (λ k. if get_or c.args.heard k false then heard_at (silence_at c.args.silences k) c.args.now else silence_at c.args.silences k)
      (silence_at c.args.silences)
      (search rules) (search rules) c.loop-i.invariant.1,
)
