use Rattle.model.proofs.sanity.edge_cases_stand.Goals as goal
use Rattle.model.proofs.Edges.{edge_cases}

pub returns : goal.returns
returns c = edge_cases
