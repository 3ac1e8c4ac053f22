use Rattle.model.proofs.sanity.every_history_is_bounded.Goals as goal
use Rattle.model.proofs.Bounding.{every_history_bounded}

pub returns : goal.returns
returns c = every_history_bounded
