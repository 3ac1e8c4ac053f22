use Rattle.model.proofs.laws.every_cluster_is_lawful.Goals as goal
use Rattle.model.proofs.bridge.EveryLaw.{every_history_lawful}
use Rattle.model.proofs.Leading.{lawful_shown}

pub returns : goal.returns
returns c = lawful_shown every_history_lawful
