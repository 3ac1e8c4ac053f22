-- What a committed minitransaction finds when its turn in the serial run comes: its comparisons true, and what its nodes read.
use Rattle.std.proofs.Common.{◌≡◌, ℕ, Bool, true, cond, eqb, ◌⊎◌, List, [], ◌∷◌, length, Some as SomeOf, sym, refl, ap, ◌∙◌, subst, ap₂, inl, inr, arith}
use Rattle.std.specs.List.{AllByRecursion as All}
use Rattle.std.proofs.lemmas.Bool.{cases_eq, eq-eqb, ne_eqb, and_from, or_right}
use Rattle.model.specs.Items.{Item}
use Rattle.model.specs.Lists.{every, joined_by}
use Rattle.model.specs.Cells.{Cell}
use Rattle.model.specs.Ranges.{node_of, items_at, holds, read_items}
use Rattle.model.specs.Participants.{members, participants_of}
use Rattle.model.specs.SerialRun.{Memories, memory_at, compares_true, reads_all, memories_after, Turn, turn_of}
use Rattle.model.proofs.core.Lists.{Some, has, all_map, all_two, all_some, all_self, some_map}
use Rattle.model.proofs.core.State.{Book, State, after, saw_at}
use Rattle.model.proofs.core.Memories.{Invariant}
use Rattle.model.proofs.core.Laws.{SerialFits}
use Rattle.model.proofs.bridge.Tests.{some_from, every_all, only_some}
use Rattle.model.proofs.bridge.ItemEffects.{cell_at, Fits, holds_of, holds_cells, holds_alike, items_read, reads_cells, reads_alike, joined_by_alike}
use Rattle.model.proofs.bridge.ItemBook.{item_book, items_alike}
use Rattle.model.proofs.bridge.SerialMemories.{Within, within_at, Sized, has_participant, made_cells, memories_sized, memories_after_lem}

every_true : {X : Type 0} (t : X → Bool) (xs : List X) → All (λ x. t x ≡ true) xs → every t xs ≡ true
unfolding every
every_true t [] h = refl
every_true t (x ∷ xs) h = and_from (t x) (every t xs) h.0 (every_true t xs h.1)

pub has_each : (qs : List ℕ) → All (λ q. has q qs ≡ true) qs
unfolding has
has_each [] = tt
has_each (q ∷ qs) = (rw (eq-eqb q q refl) refl, all_map _ _ (λ p h. or_right (eqb p q) (has p qs) h) qs (has_each qs))

abbrev pub found_as : Bool → List ℕ → Turn
found_as c r = record { compared = c; reads = r }

abbrev turn_on : Memories → List Item → Turn
turn_on ms is = found_as (compares_true ms is) (reads_all ms is)

-- the bytes that a minitransaction reads, by node and item, where node q sees m q
abbrev pub reads_by_node : (ℕ → ℕ → Cell) → List Item → List ℕ
reads_by_node m is = joined_by (λ q. items_read (m q) (items_at q is)) (members (participants_of is))

module _ (items : ℕ → List Item) (sizes : ℕ → ℕ) (count : ℕ) (made : Memories) (sized : Sized sizes count made)
    (s : State Cell) (i : Invariant (item_book items) s) (same_made : s.past.made ≡ made_cells items sizes count made sized) where
  abbrev B : Book Cell
  B = item_book items

  -- what one minitransaction of the run finds
  module _ (n : ℕ) (ns : List ℕ) (w : Within sizes count (items n)) (ws : All (λ n. Within sizes count (items n)) ns)
      (fits : (q : ℕ) → has q (B n).participants ≡ true → ((B n).agrees q (after B s.past.made ns q) ≡ true) × ((b : ℕ) → (B n).looks q b ≡ true → saw_at s n q b ≡ after B s.past.made ns q b)) where
    abbrev ms : Memories
    ms = memories_after items made ns

    cells_are : (q b : ℕ) → cell_at (memory_at ms q) b ≡ after B s.past.made ns q b
    cells_are q b = memories_after_lem items sizes count made sized ns ws q b ∙ ap (λ (M : ℕ → ℕ → Cell). after B M ns q b) (sym same_made)

    within_here : (q : ℕ) → All (Fits (length (memory_at ms q))) (items_at q (items n))
    within_here q = subst (λ k. All (Fits k) (items_at q (items n))) (sym ((memories_sized items sizes count made sized ns ws).each q)) (within_at sizes count (items n) w q)

    one_holds : (j : Item) → Some (λ k. k ≡ j) (items n) → holds (memory_at ms (node_of j)) j ≡ true
    one_holds j x =
        all_some (λ k. (holds_of (after B s.past.made ns q) k ≡ true) × Fits (length (memory_at ms q)) k) (λ k. k ≡ j) (holds (memory_at ms q) j ≡ true)
        (λ k h e. subst (λ z. holds (memory_at ms q) z ≡ true) e (holds_cells (memory_at ms q) k h.1 ∙ holds_alike (cell_at (memory_at ms q)) (after B s.past.made ns q) k (λ b _ _. cells_are q b) ∙ h.0))
        (items_at q (items n)) (all_two _ _ _ (λ k a b. (a, b)) (items_at q (items n)) (every_all _ (items_at q (items n)) (fits q participates).0) (within_here q))
        (only_some (λ k. k ≡ j) (λ k. eqb (node_of k) q) (items n) (some_map _ _ (λ k e. (eq-eqb (node_of k) q (ap node_of e), e)) (items n) x))
      where
        q : ℕ
        q = node_of j

        participates : has q (B n).participants ≡ true
        participates = has_participant sizes count (items n) w q ∙ some_from _ (items n) (some_map _ _ (λ k e. eq-eqb (node_of k) q (ap node_of e)) (items n) x)

    comparing_true : compares_true ms (items n) ≡ true
    comparing_true = every_true _ (items n) (all_map _ _ (λ j x. one_holds j x) (items n) (all_self (items n)))

    reads_seen : reads_all ms (items n) ≡ reads_by_node (saw_at s n) (items n)
    reads_seen = joined_by_alike (λ q. read_items (memory_at ms q) (items_at q (items n))) (λ q. items_read (saw_at s n q) (items_at q (items n))) (members (participants_of (items n)))
        (all_map _ _ (λ q h. reads_cells (memory_at ms q) (items_at q (items n)) (within_here q)
        ∙ reads_alike (cell_at (memory_at ms q)) (saw_at s n q) (items_at q (items n)) (items_alike (cell_at (memory_at ms q)) (saw_at s n q) (items_at q (items n)) (λ b r. cells_are q b ∙ sym ((fits q h).1 b r))))
        (members (participants_of (items n))) (has_each (members (participants_of (items n)))))

  -- the turn of each that has one
  pub turn_found : (ns : List ℕ) → All (λ n. Within sizes count (items n)) ns → SerialFits B s i ns → (tid : ℕ) → Some (λ n. n ≡ tid) ns
      → turn_of items made ns tid ≡ SomeOf (found_as true (reads_by_node (saw_at s tid) (items tid)))
  unfolding turn_of
  turn_found [] ws f tid x = absurd x
  turn_found (n ∷ ns) ws f tid x = go (cases_eq n tid) x (turn_found ns ws.1 f.1 tid)
    where
      here : SomeOf (turn_on (memories_after items made ns) (items n)) ≡ SomeOf (found_as true (reads_by_node (saw_at s n) (items n)))
      here = ap₂ (λ (c : Bool) (r : List ℕ). SomeOf (found_as c r)) (comparing_true n ns ws.0 ws.1 f.0) (reads_seen n ns ws.0 ws.1 f.0)

      go : ((n ≡ tid) ⊎ (n ≡ tid → ⊥)) → Some (λ n. n ≡ tid) (n ∷ ns)
          → (Some (λ n. n ≡ tid) ns → turn_of items made ns tid ≡ SomeOf (found_as true (reads_by_node (saw_at s tid) (items tid))))
          → cond (eqb n tid) (SomeOf (turn_on (memories_after items made ns) (items n))) (turn_of items made ns tid)
          ≡ SomeOf (found_as true (reads_by_node (saw_at s tid) (items tid)))
      go (inl e) z r = rw (eq-eqb n tid e) (here ∙ ap (λ m. SomeOf (found_as true (reads_by_node (saw_at s m) (items m)))) e)
      go (inr e) (inl z) r = absurd (e z)
      go (inr e) (inr z) r = rw (ne_eqb n tid e) (r z)

  -- whatever turn is found, its comparisons were true
  pub turn_compared : (ns : List ℕ) → All (λ n. Within sizes count (items n)) ns → SerialFits B s i ns → (tid : ℕ) (t : Turn) → turn_of items made ns tid ≡ SomeOf t → t.compared ≡ true
  unfolding turn_of
  turn_compared [] ws f tid t h = absurd (let z : ◌≡◌ {A = ℕ} 0 1 = cc in omega arith)
  turn_compared (n ∷ ns) ws f tid t h = go (cases_eq n tid) h (turn_compared ns ws.1 f.1 tid t)
    where
      go : ((n ≡ tid) ⊎ (n ≡ tid → ⊥))
          → cond (eqb n tid) (SomeOf (turn_on (memories_after items made ns) (items n))) (turn_of items made ns tid) ≡ SomeOf t
          → (turn_of items made ns tid ≡ SomeOf t → t.compared ≡ true) → t.compared ≡ true
      go (inl e) h r =
          let u : SomeOf (turn_on (memories_after items made ns) (items n)) ≡ SomeOf t = rw (eq-eqb n tid e) at h in
          let v : turn_on (memories_after items made ns) (items n) ≡ t = cc in
          ap (λ (z : Turn). z.compared) (sym v) ∙ comparing_true n ns ws.0 ws.1 f.0
      go (inr e) h r = r (rw (ne_eqb n tid e) at h)
