-- Counting: distinct numbers that all stand in a list are not more than its elements; so the table of minitransactions
-- in doubt is never full before the journal.
use Rattle.std.proofs.Common.{◌≡◌, ℕ, suc, ◌≤◌, Bool, true, false, cond, ◌||◌, eqb, leb, ◌⊎◌, List, [], ◌∷◌, length, sym, refl, ap, ◌∙◌, inl, inr, arith}
use Rattle.std.specs.List.{AllByRecursion as All}
use Rattle.std.proofs.lemmas.Bool.{cases_eq, eq-eqb, ne_eqb, lt-leb, leb-false, or_parts}
use Rattle.model.specs.Numbers.{most_entries, last_number}
use Rattle.model.specs.Journal.{is_full}
use Rattle.model.specs.Node.{Node, journal_of}
use Rattle.model.specs.Handling.{is_crowded}
use Rattle.model.specs.Bounds.{JournalBounded}

-- a number stands in a list
abbrev pub Stands : ℕ → List ℕ → Type 0
Stands n [] = ⊥
Stands n (m ∷ ms) = (m ≡ n) ⊎ Stands n ms

-- no number stands twice
abbrev pub Apart : List ℕ → Type 0
Apart [] = Unit {0}
Apart (n ∷ ns) = All (λ m. m ≡ n → ⊥) ns × Apart ns

-- without the first that is n
unfoldable pub minus : ℕ → List ℕ → List ℕ
minus n [] = []
minus n (m ∷ ms) = cond (eqb m n) ms (m ∷ minus n ms)

-- it is one element shorter
pub minus_length : (n : ℕ) (ms : List ℕ) → Stands n ms → suc (length (minus n ms)) ≡ length ms
unfolding minus
minus_length n [] h = absurd h
minus_length n (m ∷ ms) h = go (cases_eq m n) (λ s. minus_length n ms s) h
  where
    go : ((m ≡ n) ⊎ (m ≡ n → ⊥)) → (Stands n ms → suc (length (minus n ms)) ≡ length ms) → Stands n (m ∷ ms)
        → suc (length (cond (eqb m n) ms (m ∷ minus n ms))) ≡ suc (length ms)
    go (inl e) rest s = rw (eq-eqb m n e) refl
    go (inr ne) rest (inl e) = absurd (ne e)
    go (inr ne) rest (inr s) = rw (ne_eqb m n ne) (ap suc (rest s))

minus_stands : (n k : ℕ) → (k ≡ n → ⊥) → (ms : List ℕ) → Stands k ms → Stands k (minus n ms)
unfolding minus
minus_stands n k ne [] h = h
minus_stands n k ne (m ∷ ms) h = go (cases_eq m n) (λ s. minus_stands n k ne ms s) h
  where
    go : ((m ≡ n) ⊎ (m ≡ n → ⊥)) → (Stands k ms → Stands k (minus n ms)) → Stands k (m ∷ ms) → Stands k (cond (eqb m n) ms (m ∷ minus n ms))
    go (inl e) rest (inl f) = absurd (ne (sym f ∙ e))
    go (inl e) rest (inr s) = rw (eq-eqb m n e) s
    go (inr d) rest (inl f) = rw (ne_eqb m n d) (inl f)
    go (inr d) rest (inr s) = rw (ne_eqb m n d) (inr (rest s))

all_minus : (n : ℕ) (ns ms : List ℕ) → All (λ k. k ≡ n → ⊥) ns → All (λ k. Stands k ms) ns → All (λ k. Stands k (minus n ms)) ns
all_minus n [] ms d h = tt
all_minus n (k ∷ ns) ms d h = (minus_stands n k d.0 ms h.0, all_minus n ns ms d.1 h.1)

-- distinct numbers that all stand in a list are not more than its elements
pub apart_fit : (ns ms : List ℕ) → Apart ns → All (λ n. Stands n ms) ns → length ns ≤ length ms
apart_fit [] ms a h = omega arith
apart_fit (n ∷ ns) ms a h =
    let rest = apart_fit ns (minus n ms) a.1 (all_minus n ns ms a.0 h.1) in
    omega (arith, rest, minus_length n ms h.0)

-- where no more are in doubt than entries stand, the journal alone says whether there is room
pub crowded_full : (n : Node) → JournalBounded (journal_of n) → length n.volatile.in_doubt ≤ length (journal_of n).entries
    → is_crowded n ≡ is_full (journal_of n)
crowded_full n b l = go (is_full (journal_of n)) refl
  where
    go : (f : Bool) → is_full (journal_of n) ≡ f → (f || leb most_entries (length n.volatile.in_doubt)) ≡ f
    go true e = refl
    go false e =
        let p = or_parts (leb (journal_of n).capacity (length (journal_of n).entries)) (leb last_number (journal_of n).highest) e in
        lt-leb most_entries (length n.volatile.in_doubt)
        (omega (arith, l, leb-false (journal_of n).capacity (length (journal_of n).entries) p.0, b.capacity))
