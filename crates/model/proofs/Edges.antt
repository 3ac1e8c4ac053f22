-- The eight edge cases, by computing.
use Rattle.std.proofs.Common.{refl}
use Rattle.model.specs.EdgeCases.{EdgeCases, rounds}
use Rattle.model.proofs.Computing.{every_rule}

pub edge_cases : EdgeCases
unfolding every_rule rounds
edge_cases =
    record {
      wrong_length = refl;
      long_item = refl;
      last_byte = refl;
      no_such_node = refl;
      locked_byte = refl;
      forced_first = refl;
      mismatch_first = refl;
      last_forced = refl;
      forced_full = refl;
    }
