-- What survives when every byte is durable: all of them.
use Rattle.std.proofs.Common.{◌≡◌, ℕ, Bool, List}
use Rattle.std.proofs.lemmas.List.{ext_get_or}
use Rattle.model.specs.Memory.{AllDurable, Survived}

pub survived_all : (xs : List ℕ) (d : ℕ → Bool) (ys : List ℕ) → AllDurable d → Survived xs d ys → ys ≡ xs
survived_all xs d ys all s = ext_get_or 0 ys xs s.len (λ k _. s.values k (all k))
