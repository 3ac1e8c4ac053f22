use Rattle.model.proofs.sanity.writes_are_total.Goals as goal
use Rattle.model.proofs.Refusing.{writes_total}

pub returns : goal.returns
returns c = writes_total
