-- Lists of items are a lawful instance of what the core calls minitransactions.
use Rattle.std.proofs.Common.{◌≡◌, ℕ, zero, suc, ◌+◌, ◌^◌, ◌<◌, ◌≤◌, Bool, true, false, cond, not, ◌&&◌, ◌||◌, eqb, ltb, leb, ◌⊎◌, List, [], ◌∷◌, ◌++◌, map, sym, refl, ap, ◌∙◌, subst, inl, inr, ⊎_elim, arith}
use Rattle.std.specs.List.{AllByRecursion as All}
use Rattle.std.proofs.lemmas.Bool.{both_ways, and_parts, and_from, or_left, or_right, leb-true, ltb-true, lt-ltb, eq-eqb, ne_eqb}
use Rattle.model.specs.Items.{Item}
use Rattle.model.specs.ItemFormat.{span}
use Rattle.model.specs.Numbers.{most_nodes}
use Rattle.model.specs.Lists.{some, every, only}
use Rattle.model.specs.Cells.{Cell}
use Rattle.model.specs.Ranges.{address_of, is_write, items_at, writes_in, covers, overlap, clashing, writes_byte}
use Rattle.model.specs.Participants.{includes, members_below, members, is_named, named_below, participants_of}
use Rattle.model.proofs.core.Lists.{Some, has, Distinct, all_map, some_map}
use Rattle.model.proofs.core.State.{Effect, keep, put, puts, followed, together, Book, Lawful, Conflict}
use Rattle.model.proofs.bridge.Tests.{some_found, some_from, every_alike}
use Rattle.model.proofs.bridge.ItemEffects.{item_effect, puts_covers, covers_puts, holds_of, holds_alike, Alike}

-- a byte that an item reads or compares
abbrev pub looks_at : List Item → ℕ → Bool
looks_at is b = some (λ i. not (is_write i) && covers i b) is

abbrev pub item_book : (ℕ → List Item) → Book Cell
item_book items n = record {
  participants = members (participants_of (items n));
  writes = λ q. map item_effect (writes_in (items_at q (items n)));
  looks = λ q b. looks_at (items_at q (items n)) b;
  agrees = λ q m. every (holds_of m) (items_at q (items n));
}

-- ## Participants are distinct

pub has_append : (q : ℕ) (xs ys : List ℕ) → has q (xs ++ ys) ≡ (has q xs || has q ys)
unfolding has
has_append q [] ys = refl
has_append q (x ∷ xs) ys = rw (has_append q xs ys) (go (eqb q x) (has q xs) (has q ys))
  where
    go : (a b c : Bool) → (a || (b || c)) ≡ ((a || b) || c)
    go true b c = refl
    go false b c = refl

distinct_push : (xs : List ℕ) (q : ℕ) → Distinct xs → has q xs ≡ false → Distinct (xs ++ q ∷ [])
unfolding has
distinct_push [] q d h = (refl, tt)
distinct_push (x ∷ xs) q d h = go (eqb q x) refl h (distinct_push xs q d.1)
  where
    go : (c : Bool) → eqb q x ≡ c → (c || has q xs) ≡ false → (has q xs ≡ false → Distinct (xs ++ q ∷ [])) → Distinct (x ∷ (xs ++ q ∷ []))
    go true e h r = absurd (both_ways true h refl)
    go false e h r = (rw (has_append x xs (q ∷ []), d.0, ne_eqb x q (λ z. both_ways (eqb q x) e (eq-eqb q x (sym z)))) refl, r h)

pub members_below_lem : (k q ps : ℕ) → k ≤ q → has q (members_below k ps) ≡ false
unfolding members_below has
members_below_lem zero q ps l = refl
members_below_lem (suc k) q ps l = go (includes ps k) (members_below_lem k q ps (omega arith))
  where
    go : (c : Bool) → has q (members_below k ps) ≡ false → has q (members_below k ps ++ cond c (k ∷ []) []) ≡ false
    go true h = rw (has_append q (members_below k ps) (k ∷ []), h, ne_eqb q k (λ e. omega arith)) refl
    go false h = rw (has_append q (members_below k ps) [], h) refl

members_distinct : (k ps : ℕ) → Distinct (members_below k ps)
unfolding members_below
members_distinct zero ps = tt
members_distinct (suc k) ps = go (includes ps k) (members_distinct k ps)
  where
    go : (c : Bool) → Distinct (members_below k ps) → Distinct (members_below k ps ++ cond c (k ∷ []) [])
    go true d = distinct_push (members_below k ps) k d (members_below_lem k k ps (omega arith))
    go false d = subst Distinct (sym (nil_right (members_below k ps))) d
      where
        nil_right : (xs : List ℕ) → xs ++ [] ≡ xs
        nil_right [] = refl
        nil_right (x ∷ xs) = ap (λ ys. x ∷ ys) (nil_right xs)

-- ## Comparisons depend on what is looked at

agrees_alike : (m m' : ℕ → Cell) (is : List Item) → ((b : ℕ) → looks_at is b ≡ true → m b ≡ m' b) → All (Alike m m') is
agrees_alike m m' is h = go is (λ b x. h b (some_from _ is x))
  where
    go : (js : List Item) → ((b : ℕ) → Some (λ i. (not (is_write i) && covers i b) ≡ true) js → m b ≡ m' b) → All (Alike m m') js
    go [] f = tt
    go (j ∷ js) f = ((λ b w c. f b (inl (and_from (not (is_write j)) (covers j b) (ap not w) c))), go js (λ b x. f b (inr x)))

pub items_alike : (m m' : ℕ → Cell) (is : List Item) → ((b : ℕ) → looks_at is b ≡ true → m b ≡ m' b) → All (Alike m m') is
items_alike = agrees_alike

pub item_book_lawful : (items : ℕ → List Item) → Lawful (item_book items)
item_book_lawful items = record {
  participants_distinct = λ n. members_distinct most_nodes (participants_of (items n));
  agrees_by_looks = λ n q m m' h. every_alike (holds_of m) (holds_of m') (items_at q (items n)) (all_map (Alike m m') (λ i. holds_of m i ≡ holds_of m' i) (holds_alike m m') (items_at q (items n)) (agrees_alike m m' (items_at q (items n)) h));
}

-- ## What is written, and conflicts

puts_followed_cases : (x y : Effect Cell) → puts (followed x y) ≡ true → (puts x ≡ true) ⊎ (puts y ≡ true)
puts_followed_cases x keep h = inl h
puts_followed_cases x (put v) h = inr refl

puts_followed_left : (x y : Effect Cell) → puts x ≡ true → puts (followed x y) ≡ true
puts_followed_left x keep h = h
puts_followed_left x (put v) h = refl

puts_followed_right : (x y : Effect Cell) → puts y ≡ true → puts (followed x y) ≡ true
puts_followed_right x keep h = absurd (both_ways false refl h)
puts_followed_right x (put v) h = refl

-- a byte that write items put is written by one of them
together_step : (b : ℕ) (i : Item) (is : List Item) (c : Bool) → is_write i ≡ c → puts (together (map item_effect (cond c (i ∷ writes_in is) (writes_in is))) b) ≡ true
    → ((is_write i && covers i b) ≡ true) ⊎ (puts (together (map item_effect (writes_in is)) b) ≡ true)
unfolding together
together_step b i is true e h = ⊎_elim (λ z. inl (and_from (is_write i) (covers i b) e (puts_covers i b z).1)) inr (puts_followed_cases (item_effect i b) (together (map item_effect (writes_in is)) b) h)
together_step b i is false e h = inr h

together_some : (b : ℕ) (is : List Item) → puts (together (map item_effect (writes_in is)) b) ≡ true → Some (λ i. (is_write i && covers i b) ≡ true) is
unfolding together only
together_some b [] h = absurd (both_ways false refl h)
together_some b (i ∷ is) h = ⊎_elim inl (λ z. inr (together_some b is z)) (together_step b i is (is_write i) refl h)

pub together_writes : (b : ℕ) (is : List Item) → puts (together (map item_effect (writes_in is)) b) ≡ true → writes_byte is b ≡ true
together_writes b is h = some_from _ is (together_some b is h)

-- and the other way round
some_together : (b : ℕ) (is : List Item) → Some (λ i. (is_write i && covers i b) ≡ true) is → puts (together (map item_effect (writes_in is)) b) ≡ true
unfolding together only
some_together b [] h = absurd h
some_together b (i ∷ is) h = go (is_write i) refl h (some_together b is)
  where
    go : (c : Bool) → is_write i ≡ c → Some (λ i. (is_write i && covers i b) ≡ true) (i ∷ is) → (Some (λ i. (is_write i && covers i b) ≡ true) is → puts (together (map item_effect (writes_in is)) b) ≡ true)
        → puts (together (map item_effect (cond c (i ∷ writes_in is) (writes_in is))) b) ≡ true
    go true e (inl z) r = puts_followed_left (item_effect i b) (together (map item_effect (writes_in is)) b) (covers_puts i b e ∙ (and_parts (is_write i) (covers i b) z).1)
    go true e (inr z) r = puts_followed_right (item_effect i b) (together (map item_effect (writes_in is)) b) (r z)
    go false e (inl z) r = absurd (both_ways (is_write i) e (and_parts (is_write i) (covers i b) z).0)
    go false e (inr z) r = r z

pub writes_together : (b : ℕ) (is : List Item) → writes_byte is b ≡ true → puts (together (map item_effect (writes_in is)) b) ≡ true
writes_together b is h = some_together b is (some_found _ is h)

-- items that cover one byte overlap
overlapping : (b : ℕ) (i j : Item) → covers i b ≡ true → covers j b ≡ true → overlap i j ≡ true
overlapping b i j h k =
    let u = and_parts (leb (address_of i) b) (ltb b (address_of i + span i)) h in
    let w = and_parts (leb (address_of j) b) (ltb b (address_of j + span j)) k in
    let a = leb-true (address_of i) b u.0 in let c = ltb-true b (address_of i + span i) u.1 in
    let d = leb-true (address_of j) b w.0 in let e = ltb-true b (address_of j + span j) w.1 in
    and_from (ltb (address_of i) (address_of j + span j)) (ltb (address_of j) (address_of i + span i))
    (lt-ltb (address_of i) (address_of j + span j) (omega arith)) (lt-ltb (address_of j) (address_of i + span i) (omega arith))

meeting : (b : ℕ) (is js : List Item) (P Q : Item → Type 0) → ((i : Item) → P i → covers i b ≡ true) → ((j : Item) → Q j → covers j b ≡ true)
    → ((i j : Item) → P i → Q j → (is_write i || is_write j) ≡ true) → Some P is → Some Q js → clashing is js ≡ true
meeting b is js P Q p r w x y =
    some_from _ is (some_map _ _ (λ i z. some_from _ js (some_map _ _ (λ j v. and_from (is_write i || is_write j) (overlap i j) (w i j z v) (overlapping b i j (p i z) (r j v))) js y)) is x)

abbrev WritesIt : ℕ → Item → Type 0
WritesIt b i = (is_write i && covers i b) ≡ true

abbrev LooksAtIt : ℕ → Item → Type 0
LooksAtIt b i = (not (is_write i) && covers i b) ≡ true

-- what the core calls a conflict, the rules find
pub conflict_clashes : (items : ℕ → List Item) (q n m : ℕ) → Conflict (item_book items) q n m → clashing (items_at q (items n)) (items_at q (items m)) ≡ true
conflict_clashes items q n m (b, inl (w, inl w')) = meeting b (items_at q (items n)) (items_at q (items m)) (WritesIt b) (WritesIt b) (λ i z. (and_parts (is_write i) (covers i b) z).1) (λ j z. (and_parts (is_write j) (covers j b) z).1)
    (λ i j z _. or_left (is_write i) (is_write j) (and_parts (is_write i) (covers i b) z).0) (together_some b (items_at q (items n)) w) (together_some b (items_at q (items m)) w')
conflict_clashes items q n m (b, inl (w, inr r)) = meeting b (items_at q (items n)) (items_at q (items m)) (WritesIt b) (LooksAtIt b) (λ i z. (and_parts (is_write i) (covers i b) z).1) (λ j z. (and_parts (not (is_write j)) (covers j b) z).1)
    (λ i j z _. or_left (is_write i) (is_write j) (and_parts (is_write i) (covers i b) z).0) (together_some b (items_at q (items n)) w) (some_found _ (items_at q (items m)) r)
conflict_clashes items q n m (b, inr (w, r)) = meeting b (items_at q (items n)) (items_at q (items m)) (LooksAtIt b) (WritesIt b) (λ i z. (and_parts (not (is_write i)) (covers i b) z).1) (λ j z. (and_parts (is_write j) (covers j b) z).1)
    (λ i j _ z. or_right (is_write i) (is_write j) (and_parts (is_write j) (covers j b) z).0) (some_found _ (items_at q (items n)) r) (together_some b (items_at q (items m)) w)

-- ## Who participates

-- the four bits of a byte of participants
mask_bits : (a b c d : Bool)
    → (includes (((0 + cond a (2 ^ 0) 0) + cond b (2 ^ 1) 0) + cond c (2 ^ 2) 0 + cond d (2 ^ 3) 0) 0 ≡ a)
    × (includes (((0 + cond a (2 ^ 0) 0) + cond b (2 ^ 1) 0) + cond c (2 ^ 2) 0 + cond d (2 ^ 3) 0) 1 ≡ b)
    × (includes (((0 + cond a (2 ^ 0) 0) + cond b (2 ^ 1) 0) + cond c (2 ^ 2) 0 + cond d (2 ^ 3) 0) 2 ≡ c)
    × (includes (((0 + cond a (2 ^ 0) 0) + cond b (2 ^ 1) 0) + cond c (2 ^ 2) 0 + cond d (2 ^ 3) 0) 3 ≡ d)
mask_bits true true true true = (refl, refl, refl, refl)
mask_bits true true true false = (refl, refl, refl, refl)
mask_bits true true false true = (refl, refl, refl, refl)
mask_bits true true false false = (refl, refl, refl, refl)
mask_bits true false true true = (refl, refl, refl, refl)
mask_bits true false true false = (refl, refl, refl, refl)
mask_bits true false false true = (refl, refl, refl, refl)
mask_bits true false false false = (refl, refl, refl, refl)
mask_bits false true true true = (refl, refl, refl, refl)
mask_bits false true true false = (refl, refl, refl, refl)
mask_bits false true false true = (refl, refl, refl, refl)
mask_bits false true false false = (refl, refl, refl, refl)
mask_bits false false true true = (refl, refl, refl, refl)
mask_bits false false true false = (refl, refl, refl, refl)
mask_bits false false false true = (refl, refl, refl, refl)
mask_bits false false false false = (refl, refl, refl, refl)

-- a node below the bound is a participant exactly if an item names it
pub participant_named : (is : List Item) (q : ℕ) → q < most_nodes → includes (participants_of is) q ≡ is_named q is
unfolding named_below
participant_named is zero l = (mask_bits (is_named 0 is) (is_named 1 is) (is_named 2 is) (is_named 3 is)).0
participant_named is (suc zero) l = (mask_bits (is_named 0 is) (is_named 1 is) (is_named 2 is) (is_named 3 is)).1
participant_named is (suc (suc zero)) l = (mask_bits (is_named 0 is) (is_named 1 is) (is_named 2 is) (is_named 3 is)).2
participant_named is (suc (suc (suc zero))) l = (mask_bits (is_named 0 is) (is_named 1 is) (is_named 2 is) (is_named 3 is)).3
participant_named is (suc (suc (suc (suc q)))) l = absurd (omega arith)
