-- Shown bytes: what a show answers is what the serial run leaves, outside bytes written in doubt.
use Rattle.std.proofs.Common.{◌≡◌, ℕ, zero, suc, ◌+◌, ◌<◌, ◌≤◌, Bool, true, false, cond, List, length, Some as SomeOf, None, Option, sym, refl, ap, ◌∙◌, subst, arith}
use Rattle.std.specs.List.{AllByRecursion as All, slice_get}
use Rattle.std.proofs.lemmas.Bool.{both_ways, not-false, leb-true, le-leb}
use Rattle.model.specs.declared.condition.Condition.TheVariants.{Up, Down}
use Rattle.model.specs.declared.refusal.Refusal.{Refusal}
use Rattle.model.specs.declared.refusal.Refusal.TheVariants.{WrongCondition}
use Rattle.model.specs.Items.{Item}
use Rattle.model.specs.Answers.{refused, shown}
use Rattle.model.specs.Cells.{Cell, within, read_at}
use Rattle.model.specs.Ranges.{items_at, writes_byte}
use Rattle.model.specs.Writes.{Stores}
use Rattle.model.specs.Node.{Doubt, cells_of, journal_of, is_up, none_left, written_in_doubt}
use Rattle.model.specs.Cluster.{Cluster, node_at}
use Rattle.model.specs.Making.{is_well_made}
use Rattle.model.specs.Calls.{shows, Result, answered, first_of, show_refusals, performed, step}
use Rattle.model.specs.History.{Event, History, Faithful, plain}
use Rattle.model.specs.SerialRun.{memory_at, memories_after, items_of, memories_made, serial_memories}
use Rattle.model.specs.Laws.{ShownAt}
use Rattle.model.proofs.Telling.{none_holds}
use Rattle.model.proofs.core.Lists.{Some, all_map, all_two, all_some, all_self, all_each, some_map, not_so}
use Rattle.model.proofs.core.State as core
use Rattle.model.proofs.core.State.{State, absent, puts, effect, serial, serial_run, after}
use Rattle.model.proofs.core.Laws.{shows_serial_lem}
use Rattle.model.proofs.bridge.Tests.{some_none}
use Rattle.model.proofs.bridge.ItemEffects.{cell_at, window, part_window}
use Rattle.model.proofs.bridge.ItemBook.{item_book, together_writes}
use Rattle.model.proofs.bridge.SerialMemories.{Within, memories_sized, memories_after_lem}
use Rattle.model.proofs.bridge.Beginning.{sizes_of}
use Rattle.model.proofs.bridge.Abstraction.{cluster_seen, condition_seen, entries_seen, not_down_there}
use Rattle.model.proofs.bridge.Tables.{DoubtCopies, NodeFits}
use Rattle.model.proofs.bridge.Performs.{up_is}
use Rattle.model.proofs.bridge.Reached.{Reached, moment}
use Rattle.model.proofs.bridge.Whole.{within_of, reached}
use Rattle.model.proofs.bridge.LawsRead.{sized, order_same, made_same}

-- ## What a show that answers tells

pub record Shows (c : Cluster) (q a n : ℕ) (bytes : List ℕ) : Type 0 where
  pub up_here : (node_at c q).volatile.condition ≡ Up
  pub fits : a + n ≤ length (cells_of (node_at c q))
  pub same : bytes ≡ read_at (cells_of (node_at c q)) a n

refused_not_shown : (r : Refusal) (bytes : List ℕ) → refused r ≡ shown bytes → ⊥
refused_not_shown r bytes e = let z : ◌≡◌ {A = ℕ} 0 1 = cc in omega arith

answered_shows : (c : Cluster) (q a n : ℕ) (bytes : List ℕ) (r : Option Refusal) → first_of (show_refusals c q a n) ≡ r
    → (answered r c (shown (read_at (cells_of (node_at c q)) a n), c)).0 ≡ shown bytes → Shows c q a n bytes
answered_shows c q a n bytes None e h =
    let hs = none_holds (show_refusals c q a n) e in
    record {
      up_here = up_is (node_at c q).volatile.condition (not-false (is_up (node_at c q).volatile.condition) hs.1.0);
      fits = leb-true (a + n) (length (cells_of (node_at c q))) (not-false (within (cells_of (node_at c q)) a n) hs.1.1.1.0);
      same = cc;
    }
answered_shows c q a n bytes (SomeOf r) e h = absurd (refused_not_shown r bytes h)

pub step_shows : (c : Cluster) (q a n : ℕ) (bytes : List ℕ) → (step c (shows q a n) none_left).0 ≡ shown bytes → Shows c q a n bytes
unfolding step performed
step_shows c q a n bytes h = go c.well_made h
  where
    go : (b : Bool) → (cond {A = Result} b (answered (first_of (show_refusals c q a n)) c (shown (read_at (cells_of (node_at c q)) a n), c)) (refused WrongCondition, c)).0 ≡ shown bytes → Shows c q a n bytes
    go true k = answered_shows c q a n bytes (first_of (show_refusals c q a n)) refl k
    go false k = absurd (refused_not_shown WrongCondition bytes k)

-- ## One byte of a range

nth_window : (m : ℕ → Cell) (a n i : ℕ) → i < n → slice_get (window m a n) i ≡ SomeOf (m (a + i))
unfolding window
nth_window m a zero i l = absurd (omega arith)
nth_window m a (suc n) zero l = let e : a + 0 ≡ a = omega arith in rw e refl
nth_window m a (suc n) (suc i) l = let e : suc a + i ≡ a + suc i = omega arith in nth_window m (suc a) n i (omega arith) ∙ ap (λ k. SomeOf (m k)) e

pub nth_read : (cs : List Cell) (a n i : ℕ) → a + n ≤ length cs → i < n → slice_get (read_at cs a n) i ≡ SomeOf (cell_at cs (a + i))
nth_read cs a n i f l = rw (le-leb (a + n) (length cs) f, part_window cs a n f) (nth_window (cell_at cs) a n i l)

module _ (h : History) (good : is_well_made h.beginning ≡ true) (faithful : Faithful h) where
  abbrev made : List Stores
  made = h.beginning

  abbrev es : List Event
  es = h.events

  abbrev items : ℕ → List Item
  items = items_of h

  abbrev inside : (n : ℕ) → Within (sizes_of made) (length made) (items n)
  inside = within_of made good es faithful.fed faithful.answered

  abbrev r : Reached items (sizes_of made) (length made) inside made es
  r = reached made good es faithful.fed faithful.answered

  abbrev S : State Cell
  S = moment items (sizes_of made) (length made) inside made es r

  abbrev order : List ℕ
  order = serial_run (item_book items) r.past.log

  fits_at : (q : ℕ) → (node_at (plain h) q).volatile.condition ≡ Up → NodeFits items S (sizes_of made) q (node_at (plain h) q)
  fits_at q u = r.sound.tables.nodes q (not_down_there (plain h) q (λ d. let z : Up ≡ Down = sym u ∙ d in let y : ◌≡◌ {A = ℕ} 0 1 = cc in omega arith))

  -- no entry without outcome writes a byte that nothing in doubt writes
  open_spares : (q b : ℕ) → (node_at (plain h) q).volatile.condition ≡ Up → written_in_doubt (node_at (plain h) q).volatile b ≡ false
      → All (λ (e : core.Entry). e.outcome ≡ absent → puts (effect (item_book items) e.tid q b) ≡ false) (entries_seen (journal_of (node_at (plain h) q)).entries)
  open_spares q b u w =
      all_map {A = core.Entry} (λ e. Some (λ x. x ≡ e) entries) (λ e. e.outcome ≡ absent → puts (effect (item_book items) e.tid q b) ≡ false)
      (λ e x o. not_so (puts (effect (item_book items) e.tid q b)) (λ p.
      all_some {A = Doubt} (λ d. writes_byte (items_at q (items d.tid)) b ≡ false) (λ d. d.tid ≡ e.tid) ⊥
      (λ d z t. both_ways (writes_byte (items_at q (items d.tid)) b) z (together_writes b (items_at q (items d.tid)) (subst (λ k. puts (effect (item_book items) k q b) ≡ true) (sym t) p)))
      (node_at (plain h) q).volatile.in_doubt spared
      ((fits_at q u).open_doubts u e.tid (some_map {A = core.Entry} _ _ (λ y t. (ap (λ (k : core.Entry). k.tid) t, ap (λ (k : core.Entry). k.outcome) t ∙ o)) entries x))))
      entries (all_self entries)
    where
      entries : List core.Entry
      entries = entries_seen (journal_of (node_at (plain h) q)).entries

      spared : All (λ (d : Doubt). writes_byte (items_at q (items d.tid)) b ≡ false) (node_at (plain h) q).volatile.in_doubt
      spared = all_two {A = Doubt} (DoubtCopies items q) (λ d. writes_byte d.items b ≡ false) _ (λ d f z. subst (λ (is : List Item). writes_byte is b ≡ false) f.1 z)
          (node_at (plain h) q).volatile.in_doubt (fits_at q u).doubts (some_none _ (node_at (plain h) q).volatile.in_doubt w)

  shown_cell : (q b : ℕ) → (node_at (plain h) q).volatile.condition ≡ Up → written_in_doubt (node_at (plain h) q).volatile b ≡ false
      → cell_at (cells_of (node_at (plain h) q)) b ≡ serial (item_book items) S q b
  unfolding cluster_seen
  shown_cell q b u w = shows_serial_lem (item_book items) S r.sound.invariant q b (ap condition_seen u) (open_spares q b u w)

  inside_all : All (λ n. Within (sizes_of made) (length made) (items n)) order
  inside_all = all_each _ inside order

  run_cell : (q b : ℕ) → cell_at (memory_at (serial_memories h) q) b ≡ serial (item_book items) S q b
  unfolding cluster_seen
  run_cell q b =
      ap (λ ns. cell_at (memory_at (memories_after items (memories_made h) ns) q) b) (order_same h good faithful)
      ∙ memories_after_lem items (sizes_of made) (length made) (memories_made h) (sized h good faithful) order inside_all q b
      ∙ ap (λ (m : ℕ → ℕ → Cell). after (item_book items) m order q b) (sym (made_same h good faithful))

  run_size : (q : ℕ) → length (memory_at (serial_memories h) q) ≡ sizes_of made q
  run_size q = ap (λ ns. length (memory_at (memories_after items (memories_made h) ns) q)) (order_same h good faithful)
      ∙ (memories_sized items (sizes_of made) (length made) (memories_made h) (sized h good faithful) order inside_all).each q

  pub shows_serial : (q a n i : ℕ) (bytes : List ℕ) → ShownAt h q a n bytes → i < n
      → written_in_doubt (node_at (plain h) q).volatile (a + i) ≡ false
      → slice_get bytes i ≡ slice_get (read_at (memory_at (serial_memories h) q) a n) i
  shows_serial q a n i bytes s l w =
      let x = step_shows (plain h) q a n bytes s in
      ap (λ bs. slice_get bs i) x.same
      ∙ nth_read (cells_of (node_at (plain h) q)) a n i x.fits l
      ∙ ap SomeOf (shown_cell q (a + i) x.up_here w ∙ sym (run_cell q (a + i)))
      ∙ sym (nth_read (memory_at (serial_memories h) q) a n i (subst (λ m. a + n ≤ m) ((fits_at q x.up_here).size ∙ sym (run_size q)) x.fits) l)
