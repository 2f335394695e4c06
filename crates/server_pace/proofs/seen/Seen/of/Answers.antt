use Rattle.std.proofs.Common.{refl}
use Rattle.server_pace.proofs.seen.Seen.of.Goals as goal

-- what each of the calls told
pub returns : goal.returns
returns g c = λ s h. record {
  known = c.known-known.ensures s h;
  reached = c.reached.ensures s h;
  wanted = c.wants_tick.ensures s h;
  drained_is = refl;
  stake = c.has_stake.ensures s h;
  resumes = c.resumes.ensures s h;
  kept = c.has_kept.ensures s h;
}
