-- Lists, maps with a point update, and tests over lists: what the proof of the laws wants again and again.
use Rattle.std.proofs.Common.{◌≡◌, ℕ, zero, suc, Bool, true, false, cond, ◌||◌, eqb, ◌⊎◌, List, [], ◌∷◌, ◌++◌, take, sym, refl, ◌∙◌, inl, inr, ⊎_elim}
use mathlib.Core.Path.{fun_ext}
use Rattle.std.specs.List.{AllByRecursion as All}
use Rattle.model.specs.Lists.{every}
use Rattle.std.proofs.lemmas.Bool.{cases_eq, ne_eqb, eq-eqb, eqb-true, both_ways, and_parts, and_from, and_cases, or_cases, or_right}

-- ## Maps with a point update

unfoldable pub update : {A : Type 0} → (ℕ → A) → ℕ → A → ℕ → A
update f i a j = cond (eqb j i) a (f j)

pub update_same : {A : Type 0} (f : ℕ → A) (i : ℕ) (a : A) → update f i a i ≡ a
unfolding update
update_same f i a = rw (eq-eqb i i refl) refl

pub update_other : {A : Type 0} (f : ℕ → A) (i : ℕ) (a : A) (j : ℕ) → (j ≡ i → ⊥) → update f i a j ≡ f j
unfolding update
update_other f i a j h = rw (ne_eqb j i h) refl

-- a fact of every place, from the changed place and the others
pub update_both : {A : Type 0} (P : ℕ → A → Type 0) (f : ℕ → A) (i : ℕ) (a : A) → P i a → ((j : ℕ) → (j ≡ i → ⊥) → P j (f j)) → (j : ℕ) → P j (update f i a j)
update_both P f i a here there j = go (cases_eq j i)
  where
    go : ((j ≡ i) ⊎ (j ≡ i → ⊥)) → P j (update f i a j)
    go (inl r) = rw (r, update_same f i a) here
    go (inr r) = rw (update_other f i a j r) (there j r)

pub update_update : {A : Type 0} (f : ℕ → A) (i : ℕ) (a b : A) → update (update f i a) i b ≡ update f i b
update_update f i a b = fun_ext (λ j. go j (cases_eq j i))
  where
    go : (j : ℕ) → ((j ≡ i) ⊎ (j ≡ i → ⊥)) → update (update f i a) i b j ≡ update f i b j
    go j (inl e) = rw e (update_same (update f i a) i b ∙ sym (update_same f i b))
    go j (inr e) = update_other (update f i a) i b j e ∙ update_other f i a j e ∙ sym (update_other f i b j e)

-- ## Some element, the element at a place, each pair

abbrev pub Some : {A : Type 0} → (A → Type 0) → List A → Type 0
Some P [] = ⊥
Some P (x ∷ xs) = P x ⊎ Some P xs

abbrev pub At : {A : Type 0} → ℕ → List A → A → Type 0
At i [] a = ⊥
At zero (x ∷ xs) a = x ≡ a
At (suc i) (x ∷ xs) a = At i xs a

-- the earlier one first
abbrev pub Pairs : {A : Type 0} → (A → A → Type 0) → List A → Type 0
Pairs R [] = Unit {0}
Pairs R (x ∷ xs) = All (R x) xs × Pairs R xs

unfoldable pub without : {A : Type 0} → ℕ → List A → List A
without i [] = []
without zero (x ∷ xs) = xs
without (suc i) (x ∷ xs) = x ∷ without i xs

-- ## Facts of every element

pub all_map : {A : Type 0} (P Q : A → Type 0) → ((a : A) → P a → Q a) → (xs : List A) → All P xs → All Q xs
all_map P Q f [] h = tt
all_map P Q f (x ∷ xs) h = (f x h.0, all_map P Q f xs h.1)

pub all_two : {A : Type 0} (P Q S : A → Type 0) → ((a : A) → P a → Q a → S a) → (xs : List A) → All P xs → All Q xs → All S xs
all_two P Q S f [] h k = tt
all_two P Q S f (x ∷ xs) h k = (f x h.0 k.0, all_two P Q S f xs h.1 k.1)

pub all_each : {A : Type 0} (P : A → Type 0) → ((a : A) → P a) → (xs : List A) → All P xs
all_each P f [] = tt
all_each P f (x ∷ xs) = (f x, all_each P f xs)

pub all_push : {A : Type 0} (P : A → Type 0) (xs : List A) (x : A) → All P xs → P x → All P (xs ++ x ∷ [])
all_push P [] x h p = (p, tt)
all_push P (y ∷ ys) x h p = (h.0, all_push P ys x h.1 p)

pub all_append : {A : Type 0} (P : A → Type 0) (xs ys : List A) → All P xs → All P ys → All P (xs ++ ys)
all_append P [] ys h k = k
all_append P (x ∷ xs) ys h k = (h.0, all_append P xs ys h.1 k)

pub all_without : {A : Type 0} (P : A → Type 0) (i : ℕ) (xs : List A) → All P xs → All P (without i xs)
unfolding without
all_without P i [] h = tt
all_without P zero (x ∷ xs) h = h.1
all_without P (suc i) (x ∷ xs) h = (h.0, all_without P i xs h.1)

pub all_take : {A : Type 0} (P : A → Type 0) (f : ℕ) (xs : List A) → All P xs → All P (take f xs)
all_take P zero xs h = tt
all_take P (suc f) [] h = tt
all_take P (suc f) (x ∷ xs) h = (h.0, all_take P f xs h.1)

pub all_at : {A : Type 0} (P : A → Type 0) (i : ℕ) (xs : List A) (a : A) → At i xs a → All P xs → P a
all_at P i [] a h k = absurd h
all_at P zero (x ∷ xs) a h k = rw h at k.0
all_at P (suc i) (x ∷ xs) a h k = all_at P i xs a h k.1

pub all_some : {A : Type 0} (P Q : A → Type 0) (C : Type 0) → ((a : A) → P a → Q a → C) → (xs : List A) → All P xs → Some Q xs → C
all_some P Q C f [] h e = absurd e
all_some P Q C f (x ∷ xs) h (inl e) = f x h.0 e
all_some P Q C f (x ∷ xs) h (inr e) = all_some P Q C f xs h.1 e

-- each element is there
pub all_self : {A : Type 0} (xs : List A) → All (λ x. Some (λ y. y ≡ x) xs) xs
all_self [] = tt
all_self (x ∷ xs) = (inl refl, all_map _ _ (λ y h. inr h) xs (all_self xs))

-- ## Facts of some element

pub some_left : {A : Type 0} (P : A → Type 0) (xs ys : List A) → Some P xs → Some P (xs ++ ys)
some_left P [] ys h = absurd h
some_left P (x ∷ xs) ys (inl h) = inl h
some_left P (x ∷ xs) ys (inr h) = inr (some_left P xs ys h)

pub some_push : {A : Type 0} (P : A → Type 0) (xs : List A) (x : A) → P x → Some P (xs ++ x ∷ [])
some_push P [] x p = inl p
some_push P (y ∷ ys) x p = inr (some_push P ys x p)

pub some_map : {A : Type 0} (P Q : A → Type 0) → ((a : A) → P a → Q a) → (xs : List A) → Some P xs → Some Q xs
some_map P Q f [] h = h
some_map P Q f (x ∷ xs) (inl h) = inl (f x h)
some_map P Q f (x ∷ xs) (inr h) = inr (some_map P Q f xs h)

pub some_all : {A : Type 0} (P Q S : A → Type 0) → ((a : A) → P a → Q a → S a) → (xs : List A) → All P xs → Some Q xs → Some S xs
some_all P Q S f [] h e = e
some_all P Q S f (x ∷ xs) h (inl e) = inl (f x h.0 e)
some_all P Q S f (x ∷ xs) h (inr e) = inr (some_all P Q S f xs h.1 e)

-- ## Facts of each pair

pub pairs_push : {A : Type 0} (R : A → A → Type 0) (xs : List A) (y : A) → Pairs R xs → All (λ x. R x y) xs → Pairs R (xs ++ y ∷ [])
pairs_push R [] y p h = (tt, tt)
pairs_push R (x ∷ xs) y p h = (all_push (R x) xs y p.0 h.0, pairs_push R xs y p.1 h.1)

pub pairs_map : {A : Type 0} (P Q : A → A → Type 0) → ((a b : A) → P a b → Q a b) → (xs : List A) → Pairs P xs → Pairs Q xs
pairs_map P Q f [] h = tt
pairs_map P Q f (x ∷ xs) h = (all_map (P x) (Q x) (f x) xs h.0, pairs_map P Q f xs h.1)

-- from the earlier one alone
pub pairs_first : {A : Type 0} (P : A → Type 0) (R : A → A → Type 0) → ((a b : A) → P a → R a b) → (xs : List A) → All P xs → Pairs R xs
pairs_first P R f [] h = tt
pairs_first P R f (x ∷ xs) h = (all_each (R x) (λ y. f x y h.0) xs, pairs_first P R f xs h.1)

-- two elements: the same one, or one before the other
pub pairs_two : {A : Type 0} (P : A → A → Type 0) (S T : A → Type 0) (C : Type 0)
    → ((a : A) → S a → T a → C) → ((a b : A) → P a b → S a → T b → C) → ((a b : A) → P a b → T a → S b → C)
    → (xs : List A) → Pairs P xs → Some S xs → Some T xs → C
pairs_two P S T C same st ts [] p s t = absurd s
pairs_two P S T C same st ts (x ∷ xs) p (inl s) (inl t) = same x s t
pairs_two P S T C same st ts (x ∷ xs) p (inl s) (inr t) = all_some (P x) T C (λ a r u. st x a r s u) xs p.0 t
pairs_two P S T C same st ts (x ∷ xs) p (inr s) (inl t) = all_some (P x) S C (λ a r u. ts x a r t u) xs p.0 s
pairs_two P S T C same st ts (x ∷ xs) p (inr s) (inr t) = pairs_two P S T C same st ts xs p.1 s t

-- ## Tests

pub not_so : (c : Bool) → (c ≡ true → ⊥) → c ≡ false
not_so true h = absurd (h refl)
not_so false h = refl

unfoldable pub has : ℕ → List ℕ → Bool
has n [] = false
has n (x ∷ xs) = eqb n x || has n xs

-- no number stands twice
abbrev pub Distinct : List ℕ → Type 0
Distinct [] = Unit {0}
Distinct (q ∷ qs) = (has q qs ≡ false) × Distinct qs

pub every_has : (f : ℕ → Bool) (qs : List ℕ) (q : ℕ) → every f qs ≡ true → has q qs ≡ true → f q ≡ true
unfolding every has
every_has f [] q h k = cc
every_has f (x ∷ xs) q h k =
    let p = and_parts (f x) (every f xs) h in
    ⊎_elim (λ e. rw (eqb-true q x e) p.0) (λ e. every_has f xs q p.1 e) (or_cases (eqb q x) (has q xs) k)

pub every_from : (f : ℕ → Bool) (qs : List ℕ) → ((q : ℕ) → has q qs ≡ true → f q ≡ true) → every f qs ≡ true
unfolding every has
every_from f [] h = refl
every_from f (q ∷ qs) h = and_from (f q) (every f qs) (h q (rw (eq-eqb q q refl) refl)) (every_from f qs (λ p z. h p (or_right (eqb p q) (has p qs) z)))

pub every_map : (f g : ℕ → Bool) → ((q : ℕ) → f q ≡ true → g q ≡ true) → (qs : List ℕ) → every f qs ≡ true → every g qs ≡ true
unfolding every
every_map f g h [] k = refl
every_map f g h (x ∷ xs) k =
    let p = and_parts (f x) (every f xs) k in
    and_from (g x) (every g xs) (h x p.0) (every_map f g h xs p.1)

pub every_same : (f g : ℕ → Bool) → ((q : ℕ) → f q ≡ g q) → (qs : List ℕ) → every f qs ≡ every g qs
unfolding every
every_same f g h [] = refl
every_same f g h (x ∷ xs) = rw (h x, every_same f g h xs) refl

-- g holds of all, f not: it fails somewhere
pub every_fails : (f g : ℕ → Bool) (qs : List ℕ) → every f qs ≡ false → every g qs ≡ true → (q : ℕ) × (has q qs ≡ true) × (f q ≡ false) × (g q ≡ true)
unfolding every has
every_fails f g [] h k = absurd (both_ways true h refl)
every_fails f g (q ∷ qs) h k =
    let p = and_parts (g q) (every g qs) k in
    ⊎_elim (λ z. (q, rw (eq-eqb q q refl) refl, z, p.0))
    (λ z. let r = every_fails f g qs z p.1 in (r.0, or_right (eqb r.0 q) (has r.0 qs) r.1, r.2, r.3))
    (and_cases (f q) (every f qs) h)
