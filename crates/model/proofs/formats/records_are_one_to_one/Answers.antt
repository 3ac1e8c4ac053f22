use Rattle.model.proofs.formats.records_are_one_to_one.Goals as goal
use Rattle.model.proofs.OneRecord.{one_to_one}

pub returns : goal.returns
returns c = one_to_one
