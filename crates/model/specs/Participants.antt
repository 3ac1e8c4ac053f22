-- The participants of a minitransaction: the nodes that its items name, as a byte with bit q set for node q.
use Rattle.std.specs.Prelude.{ℕ, zero, suc, ◌+◌, ◌^◌, Bool, cond, not, List, [], ◌∷◌, ◌++◌, ◌==◌, bit_and, nat_eq}
use Rattle.model.specs.Numbers.{most_nodes}
use Rattle.model.specs.Items.{Item}
use Rattle.model.specs.Lists.{some, every}
use Rattle.model.specs.Ranges.{node_of}

abbrev pub includes : ℕ → ℕ → Bool
includes ps q = not (bit_and ps (2 ^ q) == 0)

-- the participants below a number, rising
unfoldable pub members_below : ℕ → ℕ → List ℕ
members_below zero ps = []
members_below (suc q) ps = members_below q ps ++ cond (includes ps q) (q ∷ []) []

abbrev pub members : ℕ → List ℕ
members ps = members_below most_nodes ps

-- whether a node is the only participant
abbrev pub alone : ℕ → ℕ → Bool
alone ps q = ps == 2 ^ q

abbrev pub is_named : ℕ → List Item → Bool
is_named q is = some (λ i. nat_eq (node_of i) q) is

unfoldable pub named_below : ℕ → List Item → ℕ
named_below zero is = 0
named_below (suc q) is = named_below q is + cond (is_named q is) (2 ^ q) 0

-- the participants of a list of items
abbrev pub participants_of : List Item → ℕ
participants_of is = named_below most_nodes is

-- whether a test holds of every participant
abbrev pub every_member : (ℕ → Bool) → ℕ → Bool
every_member test ps = every test (members ps)
