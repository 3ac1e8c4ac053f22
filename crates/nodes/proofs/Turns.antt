-- One turn of a loop over a list: what tests, filters and joins over the list make of its first element.
use Rattle.std.proofs.Common.{◌≡◌, Bool, cond, ◌&&◌, ◌||◌, List, [], ◌∷◌, ◌++◌, map, refl, ap}
use Rattle.std.specs.List.{list_any, list_all}
use Rattle.model.specs.Lists.{some, every, only, joined_by}

pub only_none : {X : Type 0} (t : X → Bool) → only t [] ≡ []
unfolding only
only_none t = refl

pub only_more : {X : Type 0} (t : X → Bool) (x : X) (xs : List X) → only t (x ∷ xs) ≡ cond (t x) (x ∷ only t xs) (only t xs)
unfolding only
only_more t x xs = refl

pub joined_none : {X Y : Type 0} (f : X → List Y) → joined_by f [] ≡ []
unfolding joined_by
joined_none f = refl

pub joined_more : {X Y : Type 0} (f : X → List Y) (x : X) (xs : List X) → joined_by f (x ∷ xs) ≡ f x ++ joined_by f xs
unfolding joined_by
joined_more f x xs = refl

-- ## A test over a list

pub list_any-some : {X : Type 0} (t : X → Bool) (xs : List X) → list_any t xs ≡ some t xs
unfolding some
list_any-some t [] = refl
list_any-some t (x ∷ xs) = ap (λ b. t x || b) (list_any-some t xs)

-- of the elements that stand for others
pub list_any-map : {X Y : Type 0} (f : X → Y) (t : Y → Bool) (xs : List X) → list_any (λ x. t (f x)) xs ≡ some t (map f xs)
unfolding some
list_any-map f t [] = refl
list_any-map f t (x ∷ xs) = ap (λ b. t (f x) || b) (list_any-map f t xs)

pub list_all-every : {X : Type 0} (t : X → Bool) (xs : List X) → list_all t xs ≡ every t xs
unfolding every
list_all-every t [] = refl
list_all-every t (x ∷ xs) = ap (λ b. t x && b) (list_all-every t xs)
