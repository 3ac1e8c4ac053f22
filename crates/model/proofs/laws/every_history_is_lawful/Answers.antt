use Rattle.model.proofs.laws.every_history_is_lawful.Goals as goal
use Rattle.model.proofs.bridge.EveryLaw.{every_history_lawful}

pub returns : goal.returns
returns c = every_history_lawful
