-- One step of reading hexadecimal digits.
use Rattle.std.proofs.Common.{◌≡◌, ℕ, ◌<◌, ◌≤◌, List, [], ◌∷◌, ◌++◌, length, ◌-◌, get_or, take, drop, Some, None, Option, refl, sym, ap, ◌∙◌, append_assoc, arith}
use Rattle.std.proofs.Math.Seq.{take-length}
use Rattle.std.proofs.lemmas.List.{length-drop}
use Rattle.std.specs.Option.{option_map}
use Rattle.text.specs.Hex.{hex_pair, hex_bytes, then_byte}

pub hex_none : (ds : List ℕ) → length ds ≡ 0 → hex_bytes ds ≡ Some []
unfolding hex_bytes
hex_none [] h = refl
hex_none (d ∷ ds) h = absurd (omega arith)

pub hex_odd : (ds : List ℕ) → 0 < length ds → length ds < 2 → hex_bytes ds ≡ None
unfolding hex_bytes
hex_odd [] h k = absurd (omega arith)
hex_odd (d ∷ []) h k = refl
hex_odd (d ∷ e ∷ ds) h k = absurd (omega arith)

pub hex_step :
    (ds : List ℕ) → 2 ≤ length ds → hex_bytes ds ≡ then_byte (hex_pair (get_or ds 0 0) (get_or ds 1 0)) (hex_bytes (drop 2 ds))
unfolding hex_bytes
hex_step [] h = absurd (omega arith)
hex_step (d ∷ []) h = absurd (omega arith)
hex_step (d ∷ e ∷ ds) h = refl

-- what is behind two digits is all that follows them
pub behind_two : (ds : List ℕ) → take (length ds - 2) (drop 2 ds) ≡ drop 2 ds
behind_two ds = ap (λ n. take n (drop 2 ds)) (sym (length-drop 2 ds)) ∙ take-length (drop 2 ds)

-- one byte more in front of what is left
pub mapped_more :
    (xs : List ℕ) (b : ℕ) (o : Option (List ℕ)) →
    option_map (λ more. (xs ++ (b ∷ [])) ++ more) o ≡ option_map (λ more. xs ++ more) (option_map (λ bs. b ∷ bs) o)
mapped_more xs b None = refl
mapped_more xs b (Some bs) = ap (λ l. Some l) (append_assoc xs (b ∷ []) bs)
