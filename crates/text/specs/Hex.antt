-- What hexadecimal digits stand for.
use Rattle.std.specs.Prelude.{ℕ, ◌+◌, ◌-◌, ◌*◌, cond, ◌&&◌, List, [], ◌∷◌, Some, None, Option, nat_le}
use Rattle.std.specs.Option.{option_map}

abbrev pub hex_digit : ℕ → Option ℕ
hex_digit d =
    cond (nat_le 48 d && nat_le d 57) (Some (d - 48))
    (cond (nat_le 97 d && nat_le d 102) (Some (d - 97 + 10)) (cond (nat_le 65 d && nat_le d 70) (Some (d - 65 + 10)) None))

abbrev pub join_digits : Option ℕ → Option ℕ → Option ℕ
join_digits None low = None
join_digits (Some h) None = None
join_digits (Some h) (Some l) = Some (h * 16 + l)

abbrev pub hex_pair : ℕ → ℕ → Option ℕ
hex_pair high low = join_digits (hex_digit high) (hex_digit low)

abbrev pub then_byte : Option ℕ → Option (List ℕ) → Option (List ℕ)
then_byte None more = None
then_byte (Some b) more = option_map (λ bs. b ∷ bs) more

unfoldable pub hex_bytes : List ℕ → Option (List ℕ)
hex_bytes [] = Some []
hex_bytes (d ∷ []) = None
hex_bytes (high ∷ low ∷ rest) = then_byte (hex_pair high low) (hex_bytes rest)
