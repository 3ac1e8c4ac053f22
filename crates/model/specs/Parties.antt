-- How a party is printed.
use Rattle.std.specs.Prelude.{ℕ, List, ◌++◌, codes, decimal}
use Rattle.model.specs.declared.party.Party.{Party}
use Rattle.model.specs.declared.party.Party.TheVariants.{Node, Coordinator, Recovery}

abbrev pub party_text : Party → List ℕ
party_text (Node n) = codes "node " ++ decimal n
party_text Coordinator = codes "coordinator"
party_text (Recovery n) = codes "recovery " ++ decimal n
