use Rattle.model.proofs.sanity.deeds_tell_all.Goals as goal
use Rattle.model.proofs.Telling.{deeds_tell}

pub returns : goal.returns
returns c = deeds_tell
