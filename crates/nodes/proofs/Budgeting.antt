-- Writes under a budget, one after the other.
use Rattle.std.proofs.Common.{◌≡◌, ℕ, zero, suc, ◌-◌, Bool, true, false, cond, not, ltb, List, [], ◌∷◌, ◌++◌, map, take, sym, refl, ap, ◌∙◌, subst, ap₂, arith}
use lib.Seq.{take-nil}
use Rattle.std.proofs.lemmas.Bool.{lt-ltb, ltb-true, ne_eqb}
use Rattle.model.specs.Items.{Item}
use Rattle.model.specs.Lists.{only}
use Rattle.model.specs.Writes.{Write, Stores, put, applied, applied_all, budgeted, fails}
use Rattle.model.specs.Deeds.{touched_by, touched_by_all}
use Rattle.model.proofs.Leading.{touched_by_all_more}
use Rattle.nodes.specs.Budgets.{allows, spent, left_over, MadeOne, Made, puts}
use Rattle.records.specs.declared.item_set.Selection.{Selection}
use Rattle.records.specs.ItemSets.{selected}
use Rattle.nodes.proofs.Turns.{only_none, only_more}

-- ## The first write of a list

-- any fold over the writes that are made
module _ {S : Type 0} (fold : List Write → S → S) (act : Write → S → S)
    (none : (s : S) → fold [] s ≡ s) (more : (w : Write) (ws : List Write) (s : S) → fold (w ∷ ws) s ≡ fold ws (act w s)) where
  fold_first : (left : ℕ) (w : Write) (ws : List Write) (s : S) → fold (budgeted left (w ∷ ws)) s ≡ fold (budgeted (spent left) ws) (cond (allows left) (act w s) s)
  fold_first zero w ws s = refl
  fold_first (suc n) w ws s = go (ltb (suc n) 255) refl ∙ ap (λ m. fold (budgeted (cond (ltb (suc n) 255) m (suc n)) ws) (act w s)) less ∙ ap (λ b. fold (budgeted (spent (suc n)) ws) (cond (not b) (act w s) s)) (sym (ne_eqb (suc n) 0 (λ e. omega arith)))
    where
      less : n ≡ suc n - 1
      less = omega arith

      go : (b : Bool) → ltb (suc n) 255 ≡ b → fold (cond b (take (suc n) (w ∷ ws)) (w ∷ ws)) s ≡ fold (budgeted (cond b n (suc n)) ws) (act w s)
      go true e = more w (take n ws) s ∙ sym (ap (λ t. fold (cond t (take n ws) ws) (act w s)) (lt-ltb n 255 (let l = ltb-true (suc n) 255 e in omega arith)))
      go false e = more w ws s ∙ sym (ap (λ t. fold (cond t (take (suc n) ws) ws) (act w s)) e)

applied_none : (s : Stores) → applied_all [] s ≡ s
unfolding applied_all
applied_none s = refl

applied_more : (w : Write) (ws : List Write) (s : Stores) → applied_all (w ∷ ws) s ≡ applied_all ws (applied w s)
unfolding applied_all
applied_more w ws s = refl

touched_none : (k : ℕ) (b : Bool) → touched_by_all [] k b ≡ b
unfolding touched_by_all
touched_none k b = refl

touched_more : (k : ℕ) (w : Write) (ws : List Write) (b : Bool) → touched_by_all (w ∷ ws) k b ≡ touched_by_all ws k (touched_by w k b)
unfolding touched_by_all
touched_more k w ws b = refl

pub applied_first : (left : ℕ) (w : Write) (ws : List Write) (s : Stores) → applied_all (budgeted left (w ∷ ws)) s ≡ applied_all (budgeted (spent left) ws) (cond (allows left) (applied w s) s)
applied_first = fold_first applied_all applied applied_none applied_more

touched_first : (k left : ℕ) (w : Write) (ws : List Write) (b : Bool) → touched_by_all (budgeted left (w ∷ ws)) k b ≡ touched_by_all (budgeted (spent left) ws) k (cond (allows left) (touched_by w k b) b)
touched_first k = fold_first (λ ws b. touched_by_all ws k b) (λ w b. touched_by w k b) (touched_none k) (touched_more k)

-- ## Lists of writes

budgeted_none : (left : ℕ) → budgeted left [] ≡ []
budgeted_none left = go (fails left)
  where
    go : (b : Bool) → cond b (take {A = Write} left []) [] ≡ []
    go true = take-nil left
    go false = refl

pub made_none : (left : ℕ) (s : Stores) (d : ℕ → Bool) → Made left [] s d left s d
unfolding left_over
made_none left s d = record {
  budget = refl;
  stores = sym (ap (λ ws. applied_all ws s) (budgeted_none left) ∙ applied_none s);
  spared = λ k h. ap (λ ws. touched_by_all ws k (not (d k))) (budgeted_none left) ∙ touched_none k (not (d k)) ∙ h;
}

-- one write, then others
pub made_more : (left left₁ left₂ : ℕ) (w : Write) (ws : List Write) (s s₁ s₂ : Stores) (d d₁ d₂ : ℕ → Bool)
    → MadeOne left w s d left₁ s₁ d₁ → Made left₁ ws s₁ d₁ left₂ s₂ d₂ → Made left (w ∷ ws) s d left₂ s₂ d₂
unfolding left_over
made_more left left₁ left₂ w ws s s₁ s₂ d d₁ d₂ one rest = record {
  budget = rest.budget ∙ ap (λ n. left_over n ws) one.budget;
  stores = rest.stores ∙ ap₂ (λ n t. applied_all (budgeted n ws) t) one.budget one.stores ∙ sym (applied_first left w ws s);
  spared = λ k h. touched_first k left w ws (not (d k))
      ∙ touched_by_all_more (budgeted (spent left) ws) k (not (d₁ k)) _ (one.spared k) (ap (λ n. touched_by_all (budgeted n ws) k (not (d₁ k))) (sym one.budget) ∙ rest.spared k h);
}

twice : (b : Bool) → not (not b) ≡ b
twice true = refl
twice false = refl

made_split : (left left₂ : ℕ) (w : Write) (ws : List Write) (s s₂ : Stores) (d d₂ : ℕ → Bool) → Made left (w ∷ ws) s d left₂ s₂ d₂
    → Made (spent left) ws (cond (allows left) (applied w s) s) (λ k. not (cond (allows left) (touched_by w k (not (d k))) (not (d k)))) left₂ s₂ d₂
unfolding left_over
made_split left left₂ w ws s s₂ d d₂ m = record {
  budget = m.budget;
  stores = m.stores ∙ applied_first left w ws s;
  spared = λ k h. ap (touched_by_all (budgeted (spent left) ws) k) (twice (cond (allows left) (touched_by w k (not (d k))) (not (d k)))) ∙ sym (touched_first k left w ws (not (d k))) ∙ m.spared k h;
}

-- some writes, then others
pub made_append : (ws vs : List Write) (left left₁ left₂ : ℕ) (s s₁ s₂ : Stores) (d d₁ d₂ : ℕ → Bool)
    → Made left ws s d left₁ s₁ d₁ → Made left₁ vs s₁ d₁ left₂ s₂ d₂ → Made left (ws ++ vs) s d left₂ s₂ d₂
unfolding left_over
made_append [] vs left left₁ left₂ s s₁ s₂ d d₁ d₂ m n =
    let same = m.stores ∙ ap (λ ws. applied_all ws s) (budgeted_none left) ∙ applied_none s in
    record {
      budget = n.budget ∙ ap (λ l. left_over l vs) m.budget;
      stores = n.stores ∙ ap₂ (λ l t. applied_all (budgeted l vs) t) m.budget same;
      spared = λ k h. touched_by_all_more (budgeted left vs) k (not (d₁ k)) (not (d k))
          (λ x. sym (touched_none k (not (d k))) ∙ sym (ap (λ ws. touched_by_all ws k (not (d k))) (budgeted_none left)) ∙ m.spared k x)
          (ap (λ l. touched_by_all (budgeted l vs) k (not (d₁ k))) (sym m.budget) ∙ n.spared k h);
    }
made_append (w ∷ ws) vs left left₁ left₂ s s₁ s₂ d d₁ d₂ m n =
    made_more left (spent left) left₂ w (ws ++ vs) s _ s₂ d _ d₂ (record { budget = refl; stores = refl; spared = λ k h. sym (twice (cond (allows left) (touched_by w k (not (d k))) (not (d k)))) ∙ h })
    (made_append ws vs (spent left) left₁ left₂ _ s₁ s₂ _ d₁ d₂ (made_split left left₁ w ws s s₁ d d₁ m) n)

-- ## Writing the items of a list

-- Whatever the rest comes to, the whole comes to.
abbrev pub Remaining : ℕ → List Write → Stores → (ℕ → Bool) → ℕ → List Write → Stores → (ℕ → Bool) → Type 0
Remaining left ws s d left₀ all s₀ d₀ = (left₂ : ℕ) (s₂ : Stores) (d₂ : ℕ → Bool) → Made left ws s d left₂ s₂ d₂ → Made left₀ all s₀ d₀ left₂ s₂ d₂

pub puts_none : (selection : Selection) (xs : List Item) → xs ≡ [] → puts selection xs ≡ []
puts_none selection xs e = ap (puts selection) e ∙ ap (map put) (only_none (selected selection))

pub puts_taken : (selection : Selection) (i : Item) (xs ys : List Item) → xs ≡ i ∷ ys → selected selection i ≡ true → puts selection xs ≡ put i ∷ puts selection ys
puts_taken selection i xs ys e t = ap (puts selection) e ∙ ap (map put) (only_more (selected selection) i ys ∙ ap (λ b. cond b (i ∷ only (selected selection) ys) (only (selected selection) ys)) t)

pub puts_skipped : (selection : Selection) (i : Item) (xs ys : List Item) → xs ≡ i ∷ ys → selected selection i ≡ false → puts selection xs ≡ puts selection ys
puts_skipped selection i xs ys e t = ap (puts selection) e ∙ ap (map put) (only_more (selected selection) i ys ∙ ap (λ b. cond b (i ∷ only (selected selection) ys) (only (selected selection) ys)) t)

pub remaining_skip : (ws vs : List Write) (left left₀ : ℕ) (s s₀ : Stores) (d d₀ : ℕ → Bool) (all : List Write) → ws ≡ vs
    → Remaining left ws s d left₀ all s₀ d₀ → Remaining left vs s d left₀ all s₀ d₀
remaining_skip ws vs left left₀ s s₀ d d₀ all e h = subst (λ us. Remaining left us s d left₀ all s₀ d₀) e h

pub remaining_more : (w : Write) (ws vs : List Write) (left left₁ left₀ : ℕ) (s s₁ s₀ : Stores) (d d₁ d₀ : ℕ → Bool) (all : List Write) → vs ≡ w ∷ ws
    → MadeOne left w s d left₁ s₁ d₁ → Remaining left vs s d left₀ all s₀ d₀ → Remaining left₁ ws s₁ d₁ left₀ all s₀ d₀
remaining_more w ws vs left left₁ left₀ s s₁ s₀ d d₁ d₀ all e one h left₂ s₂ d₂ m =
    remaining_skip vs (w ∷ ws) left left₀ s s₀ d d₀ all e h left₂ s₂ d₂ (made_more left left₁ left₂ w ws s s₁ s₂ d d₁ d₂ one m)

pub remaining_end : (ws : List Write) (left left₀ : ℕ) (s s₀ : Stores) (d d₀ : ℕ → Bool) (all : List Write) → ws ≡ []
    → Remaining left ws s d left₀ all s₀ d₀ → Made left₀ all s₀ d₀ left s d
remaining_end ws left left₀ s s₀ d d₀ all e h = remaining_skip ws [] left left₀ s s₀ d d₀ all e h left s d (made_none left s d)
