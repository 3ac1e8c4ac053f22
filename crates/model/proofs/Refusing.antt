-- A write that its store refuses alters nothing.
use Rattle.std.proofs.Common.{◌≡◌, ℕ, zero, suc, ◌≤◌, Bool, true, false, cond, not, ◌&&◌, ◌||◌, eqb, List, [], ◌∷◌, ◌++◌, length, drop, set, Some, None, Option, sym, refl, ap, ◌∙◌, arith}
use Rattle.std.proofs.lemmas.Bool.{ltb-false, eqb-true, both_ways}
use Rattle.model.specs.declared.refusal.Refusal.{Refusal}
use Rattle.model.specs.declared.refusal.Refusal.TheVariants.{NoRoom, NotReady, OutOfRange}
use Rattle.model.specs.Items.{Item, compare, read, write}
use Rattle.model.specs.ItemFormat.{span}
use Rattle.model.specs.Lists.{place}
use Rattle.model.specs.Cells.{within}
use Rattle.model.specs.Ranges.{is_write, address_of, put_item}
use Rattle.model.specs.Journal.{Entry, Journal, tid_of, is_full, is_forced, is_forced_full, has_entry, is_empty, added, forced_in, noted, with_entries, with_outcome, entry_of, pending}
use Rattle.model.specs.Writes.{Stores, Write, add_entry, force, note, put, flush_memory, flush_journal, point, drop_oldest, with_journal, with_cells, refusal_of, applied, applied_all, applied_until, then_applied, Accepted}
use Rattle.model.specs.Bookkeeping.{WritesAreTotal}
use Rattle.model.proofs.Telling.{some_not_none}

-- a refusal told by a test says what the test is
told_true : (b : Bool) (x r : Refusal) → cond {A = Option Refusal} b (Some x) None ≡ Some r → b ≡ true
told_true true x r h = refl
told_true false x r h = absurd (some_not_none r (sym h))

told_false : (b : Bool) (x r : Refusal) → cond {A = Option Refusal} b None (Some x) ≡ Some r → b ≡ false
told_false true x r h = absurd (some_not_none r (sym h))
told_false false x r h = refl

set_past : {X : Type 0} (xs : List X) (i : ℕ) (x : X) → length xs ≤ i → set xs i x ≡ xs
set_past [] i x l = refl
set_past (y ∷ ys) zero x l = absurd (omega arith)
set_past (y ∷ ys) (suc i) x l = ap {B = List _} (λ zs. y ∷ zs) (set_past ys i x (omega arith))

added_refused : (j : Journal) (tid ps : ℕ) (ws : List Item) → is_full j ≡ true → added j tid ps ws ≡ j
added_refused j tid ps ws h = rw h refl

forced_refused : (j : Journal) (tid : ℕ) → (not (is_forced j tid) && is_forced_full j) ≡ true → forced_in j tid ≡ j
forced_refused j tid h = go (is_forced j tid) (is_forced_full j) h
  where
    more : Journal
    more = record { entries = j.entries; forced = j.forced ++ tid ∷ []; pointer = j.pointer; highest = j.highest; capacity = j.capacity }

    go : (a b : Bool) → (not a && b) ≡ true → cond {A = Journal} (a || b) j more ≡ j
    go true b e = refl
    go false true e = refl
    go false false e = absurd (both_ways false refl e)

noted_refused : (j : Journal) (tid : ℕ) (b : Bool) → has_entry j tid ≡ false → noted j tid b ≡ j
noted_refused j tid b h =
    let i = place tid_of tid j.entries in
    ap (λ es. with_entries j es) (set_past j.entries i (with_outcome (entry_of j tid) (Some (pending b))) (ltb-false i (length j.entries) h))

empty_entries : (es : List Entry) → eqb (length es) 0 ≡ true → drop 1 es ≡ es
empty_entries [] h = refl
empty_entries (e ∷ es) h = let z = eqb-true (length (e ∷ es)) 0 h in absurd (omega (arith, z))

put_refused : (s : Stores) (i : Item) → (not (is_write i) || within s.cells (address_of i) (span i)) ≡ false → put_item s.cells i ≡ s.cells
put_refused s (compare q a bs) h = refl
put_refused s (read q a n) h = refl
put_refused s (write q a bs) h = rw h refl

write_refused : (w : Write) (s : Stores) (r : Refusal) → refusal_of w s ≡ Some r → applied w s ≡ s
write_refused (add_entry tid ps ws) s r h = ap (with_journal s) (added_refused s.journal tid ps ws (told_true (is_full s.journal) NoRoom r h))
write_refused (force tid) s r h =
    ap (with_journal s) (forced_refused s.journal tid (told_true (not (is_forced s.journal tid) && is_forced_full s.journal) NoRoom r h))
write_refused (note tid b) s r h = ap (with_journal s) (noted_refused s.journal tid b (told_false (has_entry s.journal tid) NotReady r h))
write_refused (put i) s r h =
    ap (with_cells s) (put_refused s i (told_false (not (is_write i) || within s.cells (address_of i) (span i)) OutOfRange r h))
write_refused flush_memory s r h = refl
write_refused flush_journal s r h = absurd (some_not_none r (sym h))
write_refused (point n) s r h = absurd (some_not_none r (sym h))
write_refused drop_oldest s r h =
    ap (λ es. with_journal s (with_entries s.journal es)) (empty_entries s.journal.entries (told_true (is_empty s.journal) NotReady r h))

all_accepted : (ws : List Write) (s : Stores) → Accepted ws s → applied_until ws s ≡ (None, applied_all ws s)
unfolding applied_until applied_all
all_accepted [] s h = refl
all_accepted (w ∷ ws) s h =
    ap (λ o. then_applied o s (applied_until ws (applied w s))) h.0 ∙ all_accepted ws (applied w s) h.1

pub writes_total : WritesAreTotal
writes_total = record { refused = write_refused; accepted = all_accepted }
