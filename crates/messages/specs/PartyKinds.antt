-- The kinds of parties, by their numbers.
use Rattle.std.specs.Prelude.{ℕ, cond, Some, None, Option, ◌==◌}
use Rattle.messages.specs.declared.layout.PartyKind.{PartyKind}
use Rattle.messages.specs.declared.layout.PartyKind.TheVariants.{Node, Coordinator, Recovery}

abbrev pub party_kind_number : PartyKind → ℕ
party_kind_number Node = 0
party_kind_number Coordinator = 1
party_kind_number Recovery = 2

-- the kind that a number stands for
abbrev pub party_kind_numbered : ℕ → Option PartyKind
party_kind_numbered n = cond (n == 0) (Some Node) (cond (n == 1) (Some Coordinator) (cond (n == 2) (Some Recovery) None))
