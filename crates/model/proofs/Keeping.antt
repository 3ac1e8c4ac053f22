-- The bounds of the stores are kept by every write and every restart.
use Rattle.std.proofs.Common.{◌≡◌, ℕ, zero, suc, ◌+◌, ◌≤◌, Bool, true, false, cond, ◌&&◌, ◌||◌, eqb, leb, List, [], ◌∷◌, ◌++◌, map, length, get_or, take, drop, set, Some, Option, sym, refl, ap, ◌∙◌, subst, arith, length-append, length-drop, length-set, length-take}
use lib.ListN.{length-map}
use Rattle.std.proofs.lemmas.Bool.{cond_both, leb-true, leb-false, or_parts, and_parts, eqb-true}
use Rattle.model.specs.declared.condition.Condition.{Condition}
use Rattle.model.specs.declared.condition.Condition.TheVariants.{Up, Down}
use Rattle.model.specs.Numbers.{most_entries, most_forced, last_number, most_nodes}
use Rattle.model.specs.Items.{Item, compare, read, write}
use Rattle.model.specs.Lists.{every, place}
use Rattle.model.specs.Cells.{Cell, within, splice, written_at}
use Rattle.model.specs.Ranges.{put_item}
use Rattle.model.specs.Journal.{Entry, Journal, empty_journal, is_full, is_forced, is_forced_full, is_as_made, is_empty, next_entry, added, forced_in, restarted, outcomes_left, with_entries, with_outcome, entry_of, tid_of, pending, made_durable}
use Rattle.model.specs.Writes.{Stores, Write, add_entry, force, note, put, flush_memory, flush_journal, point, drop_oldest, applied, applied_all}
use Rattle.model.specs.Node.{Left, cells_of, journal_of, no_node, nothing_but}
use Rattle.model.specs.Cluster.{Cluster, node_at}
use Rattle.model.specs.Making.{is_well_made, making}
use Rattle.model.specs.Deeds.{Deed, asked, wrote, woke, nothing, deed}
use Rattle.model.specs.Bookkeeping.{stores_after}
use Rattle.model.specs.History.{Event, Fed, following, written_since, LeftBy}
use Rattle.model.specs.Bounds.{JournalBounded, EveryJournalIsBounded, EveryMemoryKeepsItsSize}
use Rattle.model.proofs.Telling.{deeds_tell}

-- ## Journals

added_bounded : (j : Journal) (tid ps : ℕ) (ws : List Item) → JournalBounded j → JournalBounded (added j tid ps ws)
added_bounded j tid ps ws b = cond_both (is_full j) _ _ JournalBounded (λ _. b) (λ f. room (or_parts (leb j.capacity (length j.entries)) (leb last_number j.highest) f))
  where
    room : (leb j.capacity (length j.entries) ≡ false) × (leb last_number j.highest ≡ false)
        → JournalBounded (record { entries = j.entries ++ next_entry j tid ps ws ∷ []; forced = j.forced; pointer = j.pointer; highest = j.highest + 1; capacity = j.capacity })
    room f =
        record {
          entries = omega (arith, length-append j.entries (next_entry j tid ps ws ∷ []), leb-false j.capacity (length j.entries) f.0);
          capacity = b.capacity;
          forced = b.forced;
          running = omega (arith, leb-false last_number j.highest f.1);
        }

forced_bounded : (j : Journal) (tid : ℕ) → JournalBounded j → JournalBounded (forced_in j tid)
forced_bounded j tid b = cond_both (is_forced j tid || is_forced_full j) _ _ JournalBounded (λ _. b)
    (λ f. room (or_parts (leb most_forced (length j.forced)) (eqb j.capacity 0) (or_parts (is_forced j tid) (is_forced_full j) f).1).0)
  where
    room : leb most_forced (length j.forced) ≡ false
        → JournalBounded (record { entries = j.entries; forced = j.forced ++ tid ∷ []; pointer = j.pointer; highest = j.highest; capacity = j.capacity })
    room f =
        record {
          entries = b.entries;
          capacity = b.capacity;
          forced = omega (arith, length-append j.forced (tid ∷ []), leb-false most_forced (length j.forced) f);
          running = b.running;
        }

-- entries that are not more
entries_bounded : (j : Journal) (es : List Entry) → length es ≤ length j.entries → JournalBounded j → JournalBounded (with_entries j es)
entries_bounded j es l b = record { entries = omega (arith, l, b.entries); capacity = b.capacity; forced = b.forced; running = b.running }

applied_bounded : (w : Write) (s : Stores) → JournalBounded s.journal → JournalBounded (applied w s).journal
applied_bounded (add_entry tid ps ws) s b = added_bounded s.journal tid ps ws b
applied_bounded (force tid) s b = forced_bounded s.journal tid b
applied_bounded (note tid v) s b =
    let es = s.journal.entries in
    let i = place tid_of tid es in
    let e = with_outcome (entry_of s.journal tid) (Some (pending v)) in
    entries_bounded s.journal (set es i e) (omega (arith, length-set es i e)) b
applied_bounded (put i) s b = b
applied_bounded flush_memory s b = b
applied_bounded flush_journal s b =
    entries_bounded s.journal (map made_durable s.journal.entries) (omega (arith, length-map s.journal.entries made_durable)) b
applied_bounded (point n) s b = record { entries = b.entries; capacity = b.capacity; forced = b.forced; running = b.running }
applied_bounded drop_oldest s b = entries_bounded s.journal (drop 1 s.journal.entries) (omega (arith, length-drop 1 s.journal.entries)) b

all_applied_bounded : (ws : List Write) (s : Stores) → JournalBounded s.journal → JournalBounded (applied_all ws s).journal
unfolding applied_all
all_applied_bounded [] s b = b
all_applied_bounded (w ∷ ws) s b = all_applied_bounded ws (applied w s) (applied_bounded w s b)

left_length : (es : List Entry) (left : List (Option Bool)) → length (outcomes_left es left) ≡ length es
unfolding outcomes_left
left_length [] left = refl
left_length (e ∷ es) [] = ap suc (left_length es [])
left_length (e ∷ es) (o ∷ left) = ap suc (left_length es left)

deed_bounded : (d : Deed) (left : Left) (q : ℕ) (s : Stores) → JournalBounded s.journal → JournalBounded (stores_after d left q s).journal
deed_bounded (asked is) left q s b = b
deed_bounded (wrote p ws) left q s b =
    cond_both (eqb p q) (applied_all ws s) s (λ (t : Stores). JournalBounded t.journal) (λ _. all_applied_bounded ws s b) (λ _. b)
deed_bounded (woke p) left q s b =
    cond_both (eqb p q) (record { cells = left.cells; journal = restarted s.journal left.outcomes }) s (λ (t : Stores). JournalBounded t.journal)
    (λ _. entries_bounded s.journal (outcomes_left s.journal.entries left.outcomes) (omega (arith, left_length s.journal.entries left.outcomes)) b)
    (λ _. b)
deed_bounded nothing left q s b = b

-- ## As made

no_journal : JournalBounded (empty_journal 0)
no_journal = record { entries = omega arith; capacity = omega arith; forced = omega arith; running = omega arith }

as_made_bounded : (j : Journal) → is_as_made j ≡ true → JournalBounded j
as_made_bounded j h =
    let a = and_parts (is_empty j && eqb (length j.forced) 0 && eqb j.pointer 0 && eqb j.highest 0 && leb 1 j.capacity) (leb j.capacity most_entries) h in
    let b = and_parts (is_empty j && eqb (length j.forced) 0 && eqb j.pointer 0 && eqb j.highest 0) (leb 1 j.capacity) a.0 in
    let c = and_parts (is_empty j && eqb (length j.forced) 0 && eqb j.pointer 0) (eqb j.highest 0) b.0 in
    let d = and_parts (is_empty j && eqb (length j.forced) 0) (eqb j.pointer 0) c.0 in
    let e = and_parts (is_empty j) (eqb (length j.forced) 0) d.0 in
    record {
      entries = omega (arith, eqb-true (length j.entries) 0 e.0);
      capacity = leb-true j.capacity most_entries a.1;
      forced = omega (arith, eqb-true (length j.forced) 0 e.1);
      running = omega (arith, eqb-true j.highest 0 c.1);
    }

every_at : (ss : List Stores) (q : ℕ) → every (λ (s : Stores). is_as_made s.journal) ss ≡ true → (c : Condition)
    → JournalBounded (get_or (map (λ (s : Stores). record { stores = s; volatile = nothing_but c }) ss) q no_node).stores.journal
unfolding every
every_at [] q h c = no_journal
every_at (s ∷ ss) zero h c = as_made_bounded s.journal (and_parts (is_as_made s.journal) (every (λ (t : Stores). is_as_made t.journal) ss) h).0
every_at (s ∷ ss) (suc q) h c = every_at ss q (and_parts (is_as_made s.journal) (every (λ (t : Stores). is_as_made t.journal) ss) h).1 c

made_bounded : (ss : List Stores) → is_well_made ss ≡ true → (q : ℕ) → JournalBounded (journal_of (node_at (making ss) q))
unfolding making
made_bounded ss h q =
    every_at ss q (and_parts (leb (length ss) most_nodes) (every (λ (s : Stores). is_as_made s.journal) ss) h).1 (cond (is_well_made ss) Up Down)

following_bounded : (made : List Stores) → is_well_made made ≡ true → (es : List Event) (q : ℕ) → JournalBounded (journal_of (node_at (following made es) q))
unfolding following
following_bounded made h [] q = made_bounded made h q
following_bounded made h (e ∷ es) q =
    let c = following made es in
    subst (λ (s : Stores). JournalBounded s.journal) (sym ((deeds_tell c e.call e.left).stores q))
    (deed_bounded (deed c e.call) e.left q (node_at c q).stores (following_bounded made h es q))

pub every_journal_bounded : EveryJournalIsBounded
every_journal_bounded h w q = following_bounded h.beginning w h.events q

-- ## Memories

written_length : (cs : List Cell) (a : ℕ) (bs : List ℕ) → length (written_at cs a bs) ≡ length cs
written_length cs a bs = cond_both (within cs a (length bs)) (splice cs a bs) cs (λ (ds : List Cell). length ds ≡ length cs)
    (λ h. omega (arith, leb-true (a + length bs) (length cs) h, length-append (take a cs) (bs ++ drop (a + length bs) cs), length-append bs (drop (a + length bs) cs), length-take a cs, length-drop (a + length bs) cs))
    (λ _. refl)

put_length : (cs : List Cell) (i : Item) → length (put_item cs i) ≡ length cs
put_length cs (compare q a bs) = refl
put_length cs (read q a n) = refl
put_length cs (write q a bs) = written_length cs a bs

applied_length : (w : Write) (s : Stores) → length (applied w s).cells ≡ length s.cells
applied_length (add_entry tid ps ws) s = refl
applied_length (force tid) s = refl
applied_length (note tid v) s = refl
applied_length (put i) s = put_length s.cells i
applied_length flush_memory s = refl
applied_length flush_journal s = refl
applied_length (point n) s = refl
applied_length drop_oldest s = refl

all_applied_length : (ws : List Write) (s : Stores) → length (applied_all ws s).cells ≡ length s.cells
unfolding applied_all
all_applied_length [] s = refl
all_applied_length (w ∷ ws) s = all_applied_length ws (applied w s) ∙ applied_length w s

-- a deed keeps the size, where as many cells were left as there were
deed_length : (c : Cluster) (t : ℕ → ℕ → Bool) (d : Deed) (left : Left) → LeftBy c t d left → (q : ℕ)
    → length (stores_after d left q (node_at c q).stores).cells ≡ length (cells_of (node_at c q))
deed_length c t (asked is) left l q = refl
deed_length c t (wrote p ws) left l q =
    let s = (node_at c q).stores in
    cond_both (eqb p q) (applied_all ws s) s (λ (u : Stores). length u.cells ≡ length s.cells) (λ _. all_applied_length ws s) (λ _. refl)
deed_length c t (woke p) left l q =
    let s = (node_at c q).stores in
    cond_both (eqb p q) (record { cells = left.cells; journal = restarted s.journal left.outcomes }) s (λ (u : Stores). length u.cells ≡ length s.cells)
    (λ e. subst (λ r. length left.cells ≡ length (cells_of (node_at c r))) (eqb-true p q e) l.size) (λ _. refl)
deed_length c t nothing left l q = refl

following_length : (made : List Stores) (es : List Event) → Fed made es → (q : ℕ) → length (cells_of (node_at (following made es) q)) ≡ length (cells_of (node_at (making made) q))
unfolding following
following_length made [] f q = refl
following_length made (e ∷ es) f q =
    let c = following made es in
    ap (λ (s : Stores). length s.cells) ((deeds_tell c e.call e.left).stores q)
    ∙ deed_length c (written_since made es) (deed c e.call) e.left f.0 q ∙ following_length made es f.1 q

pub every_memory_keeps_size : EveryMemoryKeepsItsSize
every_memory_keeps_size h f q = following_length h.beginning h.events f.fed q
