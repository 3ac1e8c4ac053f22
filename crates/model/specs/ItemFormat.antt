-- The bytes of items and of item lists, written and read.
use Rattle.std.specs.Prelude.{ℕ, zero, suc, ◌+◌, ◌*◌, ◌/◌, ◌%◌, Bool, true, cond, ◌&&◌, ◌||◌, List, [], ◌∷◌, ◌++◌, length, take, drop, Some, None, Option, ◌==◌, nat_le, nat_lt, slice_index}
use Rattle.std.specs.Option.{option_map}
use Rattle.model.specs.Numbers.{most_items, longest_item}
use Rattle.model.specs.Items.{Item, compare, read, write}

-- ## Numbers of two bytes, the higher byte first

abbrev pub be16 : ℕ → List ℕ
be16 n = (n / 256) ∷ (n % 256) ∷ []

-- the number whose two bytes stand at a place
abbrev pub be16_at : List ℕ → ℕ → ℕ
be16_at bs i = slice_index bs i * 256 + slice_index bs (i + 1)

-- ## Writing

abbrev pub encode_item : Item → List ℕ
encode_item (compare n a ds) = 1 ∷ n ∷ (a / 256) ∷ (a % 256) ∷ length ds ∷ ds
encode_item (read n a l) = 2 ∷ n ∷ (a / 256) ∷ (a % 256) ∷ l ∷ []
encode_item (write n a ds) = 3 ∷ n ∷ (a / 256) ∷ (a % 256) ∷ length ds ∷ ds

unfoldable pub encode_items : List Item → List ℕ
encode_items [] = []
encode_items (i ∷ is) = encode_item i ++ encode_items is

-- a count, then the items
abbrev pub encode_list : List Item → List ℕ
encode_list is = length is ∷ encode_items is

-- the number of bytes that an item compares, reads or writes
abbrev pub span : Item → ℕ
span (compare n a ds) = length ds
span (read n a l) = l
span (write n a ds) = length ds

-- whether an item has a length that its length byte may hold
abbrev pub is_item : Item → Bool
is_item i = nat_le 1 (span i) && nat_le (span i) longest_item

unfoldable pub are_items : List Item → Bool
are_items [] = true
are_items (i ∷ is) = is_item i && are_items is

-- whether an item list has bytes at all
abbrev pub is_list : List Item → Bool
is_list is = nat_le 1 (length is) && nat_le (length is) most_items && are_items is

-- how many bytes an item list takes; none where it has none
abbrev pub list_size : List Item → Option ℕ
list_size is = cond (is_list is) (Some (length (encode_list is))) None

-- ## Reading

-- an item from its five leading fields and the bytes behind them, with what is left
abbrev pub decode_fields : ℕ → ℕ → ℕ → ℕ → List ℕ → Option (Item × List ℕ)
decode_fields kind node address len rest =
    cond (nat_lt len 1 || nat_lt longest_item len) None
    (cond (kind == 2) (Some (read node address len, rest))
    (cond (nat_lt (length rest) len) None
    (cond (kind == 1) (Some (compare node address (take len rest), drop len rest))
    (cond (kind == 3) (Some (write node address (take len rest), drop len rest)) None))))

abbrev pub decode_item : List ℕ → Option (Item × List ℕ)
decode_item bs =
    cond (nat_lt (length bs) 5) None
    (decode_fields (slice_index bs 0) (slice_index bs 1) (slice_index bs 2 * 256 + slice_index bs 3) (slice_index bs 4) (drop 5 bs))

abbrev pub then_items : Option (Item × List ℕ) → (List ℕ → Option (List Item)) → Option (List Item)
then_items None more = None
then_items (Some (i, rest)) more = option_map (λ is. i ∷ is) (more rest)

-- exactly so many items, and nothing behind them
unfoldable pub decode_items : ℕ → List ℕ → Option (List Item)
decode_items zero bs = cond (length bs == 0) (Some []) None
decode_items (suc n) bs = then_items (decode_item bs) (λ rest. decode_items n rest)

abbrev pub decode_list : List ℕ → Option (List Item)
decode_list bs =
    cond (nat_lt (length bs) 1) None
    (cond (nat_lt (slice_index bs 0) 1 || nat_lt most_items (slice_index bs 0)) None
    (decode_items (slice_index bs 0) (drop 1 bs)))

-- ## What is left of a list that is being read

abbrev pub then_take : Option (Item × List ℕ) → (List ℕ → List Item) → List Item
then_take None more = []
then_take (Some (i, rest)) more = i ∷ more rest

-- up to so many items, as far as they can be read
unfoldable pub take_items : ℕ → List ℕ → List Item
take_items zero bs = []
take_items (suc n) bs = then_take (decode_item bs) (λ rest. take_items n rest)
