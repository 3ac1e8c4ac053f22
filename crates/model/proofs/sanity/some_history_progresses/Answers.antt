use Rattle.model.proofs.sanity.some_history_progresses.Goals as goal
use Rattle.model.proofs.Progressing.{some_progress}

pub returns : goal.returns
returns c = some_progress
