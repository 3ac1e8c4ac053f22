-- What readers of records share: the bytes behind a place, and a value that is there or else a refusal.
use Rattle.std.proofs.Common.{◌≡◌, ℕ, ◌-◌, ◌≤◌, List, length, take, drop, Some, None, Option, Ok, Err, refl, arith}
use Rattle.std.specs.Option.{ok_or}
use Rattle.std.proofs.lemmas.List.{take_all, length-drop}

-- what stands behind a place, to the end
pub behind : (n : ℕ) (bs : List ℕ) → take (length bs - n) (drop n bs) ≡ drop n bs
behind n bs = let rest : length (drop n bs) ≤ length bs - n = omega (arith, length-drop n bs) in take_all (length bs - n) (drop n bs) rest

pub some_from_ok : {X E : Type 0} (x : X) (o : Option X) (e : E) → Ok x ≡ ok_or o e → Some x ≡ o
some_from_ok x None e h = cc
some_from_ok x (Some y) e h = cc

pub none_from_err : {X E : Type 0} (o : Option X) (why e : E) → Err why ≡ ok_or o e → (None ≡ o) × (why ≡ e)
none_from_err None why e h = (refl, cc)
none_from_err (Some x) why e h = let z : ◌≡◌ {A = ℕ} 0 1 = cc in absurd (omega arith)
