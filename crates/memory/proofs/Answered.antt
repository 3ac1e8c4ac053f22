-- What a range test came to, got back from the answer that it decides.
use Rattle.std.proofs.Common.{◌≡◌, ℕ, Bool, true, false, cond, Ok, Err, Result, refl, arith}

pub done_within : {E : Type 0} (e : E) (b : Bool) → ◌≡◌ {A = Result Unit E} (Ok tt) (cond b (Ok tt) (Err e)) → b ≡ true
done_within e true h = refl
done_within e false h = let z : ◌≡◌ {A = ℕ} 0 1 = cc in absurd (omega arith)
