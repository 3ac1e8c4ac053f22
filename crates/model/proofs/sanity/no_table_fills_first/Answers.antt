use Rattle.model.proofs.sanity.no_table_fills_first.Goals as goal
use Rattle.model.proofs.bridge.Crowding.{no_table_fills_first}

pub returns : goal.returns
returns c = no_table_fills_first
