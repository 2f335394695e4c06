use Rattle.durable.proofs.Floors.{floor_stays}
use Rattle.durable.proofs.laws.floors_stay.Goals as goal

pub returns : goal.returns
returns c = floor_stays
