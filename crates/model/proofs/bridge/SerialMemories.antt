-- The serial run of the rules is the core's: its order, what it leaves in the memories, what it compares and reads.
use Rattle.std.proofs.Common.{◌≡◌, ℕ, zero, suc, ◌<◌, ◌≤◌, Bool, true, false, cond, ◌||◌, eqb, ◌⊎◌, List, [], ◌∷◌, ◌++◌, map, length, get_or, set, sym, refl, ap, ◌∙◌, subst, inl, inr, arith}
use Rattle.std.specs.List.{AllByRecursion as All}
use Rattle.std.proofs.lemmas.Bool.{cases_eq, cases_lt, both_ways, eq-eqb, ne_eqb, eqb-true}
use Rattle.std.proofs.lemmas.List.{get_or-set_same, get_or-set_other, length-set}
use Rattle.model.specs.Items.{Item, compare, read, write}
use Rattle.model.specs.Numbers.{most_nodes}
use Rattle.model.specs.Lists.{some, only}
use Rattle.model.specs.Cells.{Cell}
use Rattle.model.specs.Ranges.{node_of, is_write, items_at, writes_in, put_item, put_items}
use Rattle.model.specs.Participants.{includes, members_below, members, is_named, participants_of}
use Rattle.model.specs.Deeds as deeds
use Rattle.model.specs.SerialRun.{Memories, memory_at, writes_all, voted_yes, is_committed, turns, memories_after}
use Rattle.model.proofs.core.Lists.{has, all_two, all_some, every_same, not_so}
use Rattle.model.proofs.core.State.{Effect, keep, put, applied, followed, together, Book, Yes, logged, committed, serial_run, after, effect}
use Rattle.model.proofs.bridge.Tests.{some_found, some_none, only_passes, only_all}
use Rattle.model.proofs.bridge.ItemEffects.{cell_at, Fits, item_effect, put_cell, length_put}
use Rattle.model.proofs.bridge.ItemBook.{item_book, participant_named, has_append, members_below_lem}

-- ## The order

-- a yes entry of the core, without what was seen
abbrev pub logged_entry : Yes Cell → deeds.Yes
logged_entry y = record { node = y.place; tid = y.tid }

pub logged_voted : (L : List (Yes Cell)) (n q : ℕ) → voted_yes (map logged_entry L) n q ≡ logged L n q
unfolding some logged
logged_voted [] n q = refl
logged_voted (y ∷ L) n q = rw (logged_voted L n q) refl

pub committed_same : (items : ℕ → List Item) (L : List (Yes Cell)) (n : ℕ) → is_committed items (map logged_entry L) n ≡ committed (item_book items) L n
committed_same items L n = every_same (voted_yes (map logged_entry L) n) (logged L n) (logged_voted L n) (members (participants_of (items n)))

pub turns_same : (items : ℕ → List Item) (L : List (Yes Cell)) → turns items (map logged_entry L) ≡ serial_run (item_book items) L
unfolding turns serial_run
turns_same items [] = refl
turns_same items (y ∷ L) = rw (committed_same items (y ∷ L) y.tid, committed_same items L y.tid, turns_same items L) refl

-- ## Memories

applied_followed : (x y : Effect Cell) (a : Cell) → applied (followed x y) a ≡ applied y (applied x a)
applied_followed x keep a = refl
applied_followed x (put v) a = refl

not_write_keeps : (cs : List Cell) (i : Item) → is_write i ≡ false → put_item cs i ≡ cs
not_write_keeps cs (compare q a bs) h = refl
not_write_keeps cs (read q a n) h = refl
not_write_keeps cs (write q a bs) h = absurd (both_ways true h refl)

-- a list of items, put in order, on one byte
pub put_all_cell : (cs : List Cell) (is : List Item) → All (Fits (length cs)) is → (b : ℕ) → cell_at (put_items cs is) b ≡ applied (together (map item_effect (writes_in is)) b) (cell_at cs b)
unfolding put_items together only
put_all_cell cs [] h b = refl
put_all_cell cs (i ∷ is) h b = put_all_cell (put_item cs i) is (subst (λ m. All (Fits m) is) (sym (length_put cs i)) h.1) b ∙ go (is_write i) refl
  where
    rest : ℕ → Effect Cell
    rest = together (map item_effect (writes_in is))

    go : (c : Bool) → is_write i ≡ c → applied (rest b) (cell_at (put_item cs i) b) ≡ applied (together (map item_effect (cond c (i ∷ writes_in is) (writes_in is))) b) (cell_at cs b)
    go true e = ap (applied (rest b)) (put_cell cs i h.0 b) ∙ sym (applied_followed (item_effect i b) (rest b) (cell_at cs b))
    go false e = ap (λ ds. applied (rest b) (cell_at ds b)) (not_write_keeps cs i e)

length_put_all : (cs : List Cell) (is : List Item) → length (put_items cs is) ≡ length cs
unfolding put_items
length_put_all cs [] = refl
length_put_all cs (i ∷ is) = length_put_all (put_item cs i) is ∙ length_put cs i

-- writing all items touches each memory by its own
pub writes_all_at : (ms : Memories) (is : List Item) (q : ℕ) → All (λ i. node_of i < length ms) is → memory_at (writes_all ms is) q ≡ put_items (memory_at ms q) (items_at q is)
unfolding writes_all put_items only
writes_all_at ms [] q h = refl
writes_all_at ms (i ∷ is) q h =
    writes_all_at ms' is q (subst (λ k. All (λ j. node_of j < k) is) (sym (length-set ms (node_of i) (put_item (memory_at ms (node_of i)) i))) h.1) ∙ go (cases_eq (node_of i) q)
  where
    ms' : Memories
    ms' = set ms (node_of i) (put_item (memory_at ms (node_of i)) i)

    go : ((node_of i ≡ q) ⊎ (node_of i ≡ q → ⊥)) → put_items (memory_at ms' q) (items_at q is) ≡ put_items (memory_at ms q) (cond (eqb (node_of i) q) (i ∷ items_at q is) (items_at q is))
    go (inl e) = rw (eq-eqb (node_of i) q e) (ap (λ cs. put_items cs (items_at q is)) (ap (λ p. get_or ms' p []) (sym e) ∙ get_or-set_same ms (node_of i) (put_item (memory_at ms (node_of i)) i) [] h.0 ∙ ap (λ p. put_item (memory_at ms p) i) e))
    go (inr e) = rw (ne_eqb (node_of i) q e) (ap (λ cs. put_items cs (items_at q is)) (get_or-set_other ms (node_of i) q (put_item (memory_at ms (node_of i)) i) [] (λ z. e (sym z))))

length_writes_all : (ms : Memories) (is : List Item) → length (writes_all ms is) ≡ length ms
unfolding writes_all
length_writes_all ms [] = refl
length_writes_all ms (i ∷ is) = length_writes_all (set ms (node_of i) (put_item (memory_at ms (node_of i)) i)) is ∙ length-set ms (node_of i) (put_item (memory_at ms (node_of i)) i)

-- ## Items that lie within the memories

pub record Within (sizes : ℕ → ℕ) (count : ℕ) (is : List Item) : Type 0 where
  pub few : count ≤ most_nodes
  pub nodes : All (λ i. node_of i < count) is
  pub ranges : All (λ i. Fits (sizes (node_of i)) i) is

pub within_at : (sizes : ℕ → ℕ) (count : ℕ) (is : List Item) → Within sizes count is → (q : ℕ) → All (Fits (sizes q)) (items_at q is)
within_at sizes count is w q =
    all_two (λ i. eqb (node_of i) q ≡ true) (λ i. Fits (sizes (node_of i)) i) (Fits (sizes q)) (λ i e f. subst (λ p. Fits (sizes p) i) (eqb-true (node_of i) q e) f)
    (items_at q is) (only_passes (λ i. eqb (node_of i) q) is) (only_all (λ i. Fits (sizes (node_of i)) i) (λ i. eqb (node_of i) q) is w.ranges)

nobody_only : {X : Type 0} (t : X → Bool) (xs : List X) → All (λ x. t x ≡ false) xs → only t xs ≡ []
unfolding only
nobody_only t [] h = refl
nobody_only t (x ∷ xs) h = rw h.0 (nobody_only t xs h.1)

or_nothing : (a : Bool) → (a || false) ≡ a
or_nothing true = refl
or_nothing false = refl

pub has_members_below : (k q ps : ℕ) → q < k → has q (members_below k ps) ≡ includes ps q
unfolding members_below has
has_members_below zero q ps l = absurd (omega arith)
has_members_below (suc k) q ps l = go (cases_eq q k) (includes ps k) refl (has_members_below k q ps)
  where
    go : ((q ≡ k) ⊎ (q ≡ k → ⊥)) → (c : Bool) → includes ps k ≡ c → (q < k → has q (members_below k ps) ≡ includes ps q) → has q (members_below k ps ++ cond c (k ∷ []) []) ≡ includes ps q
    go (inl e) true r f = has_append q (members_below k ps) (k ∷ []) ∙ rw (members_below_lem k q ps (omega arith), eq-eqb q k e, e) (sym r)
    go (inl e) false r f = has_append q (members_below k ps) [] ∙ rw (members_below_lem k q ps (omega arith), e) (sym r)
    go (inr e) true r f = has_append q (members_below k ps) (k ∷ []) ∙ rw (ne_eqb q k e, f (omega arith)) (or_nothing (includes ps q))
    go (inr e) false r f = has_append q (members_below k ps) [] ∙ rw (f (omega arith)) (or_nothing (includes ps q))

-- a node is a participant exactly if an item names it
pub has_participant : (sizes : ℕ → ℕ) (count : ℕ) (is : List Item) → Within sizes count is → (q : ℕ) → has q (members (participants_of is)) ≡ is_named q is
has_participant sizes count is w q = go (cases_lt q most_nodes)
  where
    far : most_nodes ≤ q → is_named q is ≡ false
    far l = not_so (is_named q is) (λ h. all_some {A = Item} (λ i. node_of i < count) _ ⊥ (λ i a e. omega (arith, eqb-true (node_of i) q e, a, w.few)) is w.nodes (some_found _ is h))

    go : ((q < most_nodes) ⊎ (most_nodes ≤ q)) → has q (members (participants_of is)) ≡ is_named q is
    go (inl l) = has_members_below most_nodes q (participants_of is) l ∙ participant_named is q l
    go (inr l) = members_below_lem most_nodes q (participants_of is) l ∙ sym (far l)

-- nothing of it is at a node that does not participate
pub no_items_elsewhere : (sizes : ℕ → ℕ) (count : ℕ) (is : List Item) → Within sizes count is → (q : ℕ) → has q (members (participants_of is)) ≡ false → items_at q is ≡ []
no_items_elsewhere sizes count is w q h = nobody_only (λ i. eqb (node_of i) q) is (some_none _ is (sym (has_participant sizes count is w q) ∙ h))

nothing_put : (b : ℕ) (x : Cell) → applied (together (map item_effect (writes_in [])) b) x ≡ x
unfolding together only
nothing_put b x = refl

-- ## What the run leaves

pub record Sized (sizes : ℕ → ℕ) (count : ℕ) (ms : Memories) : Type 0 where
  pub number : length ms ≡ count
  pub each : (q : ℕ) → length (memory_at ms q) ≡ sizes q

module _ (items : ℕ → List Item) (sizes : ℕ → ℕ) (count : ℕ) (made : Memories) (sized : Sized sizes count made) where
  abbrev B : Book Cell
  B = item_book items

  abbrev pub made_cells : ℕ → ℕ → Cell
  made_cells q b = cell_at (memory_at made q) b

  pub memories_sized : (ns : List ℕ) → All (λ n. Within sizes count (items n)) ns → Sized sizes count (memories_after items made ns)
  unfolding memories_after
  memories_sized [] h = sized
  memories_sized (n ∷ ns) h =
      let old = memories_sized ns h.1 in
      record {
        number = length_writes_all (memories_after items made ns) (items n) ∙ old.number;
        each = λ q. ap length (writes_all_at (memories_after items made ns) (items n) q (subst (λ k. All (λ i. node_of i < k) (items n)) (sym old.number) h.0.nodes))
            ∙ length_put_all (memory_at (memories_after items made ns) q) (items_at q (items n)) ∙ old.each q;
      }

  pub memories_after_lem : (ns : List ℕ) → All (λ n. Within sizes count (items n)) ns → (q b : ℕ) → cell_at (memory_at (memories_after items made ns) q) b ≡ after B made_cells ns q b
  unfolding memories_after after
  memories_after_lem [] h q b = refl
  memories_after_lem (n ∷ ns) h q b =
      ap (λ cs. cell_at cs b) (writes_all_at older (items n) q (subst (λ k. All (λ i. node_of i < k) (items n)) (sym old.number) h.0.nodes))
      ∙ put_all_cell (memory_at older q) (items_at q (items n)) (subst (λ m. All (Fits m) (items_at q (items n))) (sym (old.each q)) (within_at sizes count (items n) h.0 q)) b
      ∙ ap (applied (effect B n q b)) (memories_after_lem ns h.1 q b)
      ∙ go (has q (B n).participants) refl
    where
      older : Memories
      older = memories_after items made ns

      old : Sized sizes count older
      old = memories_sized ns h.1

      go : (c : Bool) → has q (B n).participants ≡ c → applied (effect B n q b) (after B made_cells ns q b) ≡ cond c (applied (effect B n q b) (after B made_cells ns q b)) (after B made_cells ns q b)
      go true e = refl
      go false e = ap (λ is. applied (together (map item_effect (writes_in is)) b) (after B made_cells ns q b)) (no_items_elsewhere sizes count (items n) h.0 q e) ∙ nothing_put b (after B made_cells ns q b)
