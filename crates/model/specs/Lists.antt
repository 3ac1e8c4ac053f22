-- Tests over lists, and the one search by number that serves every table.
use Rattle.std.specs.Prelude.{ℕ, suc, Bool, true, false, cond, ◌&&◌, ◌||◌, List, [], ◌∷◌, ◌++◌, length, Some, None, Option, ◌==◌, nat_lt}

unfoldable pub some : {X : Type 0} → (X → Bool) → List X → Bool
some test [] = false
some test (x ∷ xs) = test x || some test xs

unfoldable pub every : {X : Type 0} → (X → Bool) → List X → Bool
every test [] = true
every test (x ∷ xs) = test x && every test xs

unfoldable pub only : {X : Type 0} → (X → Bool) → List X → List X
only test [] = []
only test (x ∷ xs) = cond (test x) (x ∷ only test xs) (only test xs)

unfoldable pub joined_by : {X Y : Type 0} → (X → List Y) → List X → List Y
joined_by f [] = []
joined_by f (x ∷ xs) = f x ++ joined_by f xs

-- the place of the first element with a number; the length of the list where there is none
unfoldable pub place : {X : Type 0} → (X → ℕ) → ℕ → List X → ℕ
place number n [] = 0
place number n (x ∷ xs) = cond (number x == n) 0 (suc (place number n xs))

-- whether an element with a number stands in the list
abbrev pub stands : {X : Type 0} → (X → ℕ) → ℕ → List X → Bool
stands number n xs = nat_lt (place number n xs) (length xs)

-- whether a number stands among numbers
abbrev pub among : ℕ → List ℕ → Bool
among n ns = stands (λ m. m) n ns

-- the place of the first element with a number, if one has it
abbrev pub place_in : {X : Type 0} → (X → ℕ) → ℕ → List X → Option ℕ
place_in number n xs = cond (stands number n xs) (Some (place number n xs)) None
