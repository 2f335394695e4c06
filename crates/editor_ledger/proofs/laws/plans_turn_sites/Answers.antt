use Rattle.editor_ledger.proofs.Turning.{plan_turns}
use Rattle.editor_ledger.proofs.laws.plans_turn_sites.Goals as goal

pub returns : goal.returns
returns c = plan_turns
