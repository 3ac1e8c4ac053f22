-- The durable writes of the rules are writes of the core.
use Rattle.std.proofs.Common.{◌≡◌, ℕ, suc, Bool, true, false, cond, ◌||◌, eqb, ◌⊎◌, List, [], ◌∷◌, map, length, get_or, set, Some as SomeOf, None, Option, sym, refl, ap, ◌∙◌, subst, ap₂, inl, inr}
use mathlib.Core.Path.{fun_ext}
use Rattle.std.specs.List.{AllByRecursion as All}
use Rattle.std.specs.Option.{option_map}
use Rattle.std.proofs.lemmas.Bool.{cases_eq, eq-eqb, ne_eqb, both_ways}
use Rattle.model.specs.declared.outcome.Outcome.{Outcome}
use Rattle.model.specs.Lists.{place}
use Rattle.model.specs.Cells.{Cell}
use Rattle.model.specs.Ranges.{is_write, covers}
use Rattle.model.specs.Journal.{Entry, tid_of, no_entry, with_outcome, pending, durably, made_durable, is_forced}
use Rattle.model.specs.Writes.{Stores, Write, add_entry, force, note, put, flush_memory, flush_journal, point, drop_oldest, applied, applied_all}
use Rattle.model.specs.Deeds.{touched_by, touched_by_all}
use Rattle.model.proofs.core.Lists.{Pairs, all_map}
use Rattle.model.proofs.core.State as core
use Rattle.model.proofs.core.State.{outcomes, entry_with_outcome}
use Rattle.model.proofs.core.Resume.{of_tid}
use Rattle.model.proofs.bridge.ItemEffects.{cell_at, Fits, item_effect, put_cell, length_put, covers_puts}
use Rattle.model.proofs.bridge.Abstraction.{outcome_seen, entry_seen, entries_seen, stores_seen}

-- ## Entries

-- no two entries are of one tid
abbrev pub TidsDistinct : List Entry → Type 0
TidsDistinct es = Pairs (λ (e f : Entry). e.tid ≡ f.tid → ⊥) es

-- an outcome that no entry of the list takes
untouched : (tid : ℕ) (b : Bool) (es : List Entry) → All (λ (e : Entry). e.tid ≡ tid → ⊥) es → outcomes (core.noted (of_tid tid) b) (entries_seen es) ≡ entries_seen es
unfolding outcomes
untouched tid b [] h = refl
untouched tid b (e ∷ es) h = rw (ne_eqb e.tid tid h.0) (ap (λ fs. entry_seen e ∷ fs) (untouched tid b es h.1))

noted_entries : (tid : ℕ) (b : Bool) (es : List Entry) → TidsDistinct es
    → entries_seen (set es (place tid_of tid es) (with_outcome (get_or es (place tid_of tid es) no_entry) (SomeOf (pending b)))) ≡ outcomes (core.noted (of_tid tid) b) (entries_seen es)
unfolding outcomes place
noted_entries tid b [] d = refl
noted_entries tid b (e ∷ es) d = go (cases_eq e.tid tid) (noted_entries tid b es d.1)
  where
    go : ((e.tid ≡ tid) ⊎ (e.tid ≡ tid → ⊥))
        → entries_seen (set es (place tid_of tid es) (with_outcome (get_or es (place tid_of tid es) no_entry) (SomeOf (pending b)))) ≡ outcomes (core.noted (of_tid tid) b) (entries_seen es)
        → entries_seen (set (e ∷ es) (cond (eqb e.tid tid) 0 (suc (place tid_of tid es))) (with_outcome (get_or (e ∷ es) (cond (eqb e.tid tid) 0 (suc (place tid_of tid es))) no_entry) (SomeOf (pending b))))
        ≡ outcomes (core.noted (of_tid tid) b) (entries_seen (e ∷ es))
    go (inl r) i = rw (eq-eqb e.tid tid r) (ap (λ (fs : List core.Entry). record { number = e.running; tid = e.tid; outcome = core.present b false } ∷ fs) (sym (untouched tid b es (all_map _ _ (λ f z y. z (r ∙ sym y)) es d.0))))
    go (inr r) i = rw (ne_eqb e.tid tid r) (ap (λ fs. entry_seen e ∷ fs) i)

durable_seen : (o : Option Outcome) → outcome_seen (option_map (λ (o : Outcome). durably o.commits) o) ≡ core.outcome_made_durable (outcome_seen o)
durable_seen None = refl
durable_seen (SomeOf o) = refl

pub flushed_entries : (es : List Entry) → entries_seen (map made_durable es) ≡ outcomes (λ e. core.outcome_made_durable e.outcome) (entries_seen es)
unfolding outcomes
flushed_entries [] = refl
flushed_entries (e ∷ es) = ap₂ (λ (o : core.Outcome) (fs : List core.Entry). record { number = e.running; tid = e.tid; outcome = o } ∷ fs) (durable_seen e.outcome) (flushed_entries es)

-- ## One write

-- a write as the core sees it; the others are moves of their own
abbrev pub write_seen : Write → core.Write Cell
write_seen (add_entry tid ps ws) = core.journal_flush
write_seen (force tid) = core.force tid
write_seen (note tid b) = core.note (of_tid tid) b
write_seen (put i) = core.item (item_effect i)
write_seen flush_memory = core.memory_flush
write_seen flush_journal = core.journal_flush
write_seen (point n) = core.journal_flush
write_seen drop_oldest = core.journal_flush

-- the writes that are seen so, at a memory of m cells
abbrev pub Seen : ℕ → Write → Type 0
Seen m (add_entry tid ps ws) = ⊥
Seen m (force tid) = ⊥
Seen m (note tid b) = Unit {0}
Seen m (put i) = (is_write i ≡ true) × Fits m i
Seen m flush_memory = Unit {0}
Seen m flush_journal = Unit {0}
Seen m (point n) = ⊥
Seen m drop_oldest = ⊥

touched_put : (c : Bool) (p : Bool) (b : Bool) → p ≡ c → cond c true b ≡ (b || p)
touched_put true true true e = refl
touched_put true true false e = refl
touched_put true false b e = absurd (both_ways false refl e)
touched_put false true b e = absurd (both_ways true e refl)
touched_put false false true e = refl
touched_put false false false e = refl

pub write_is_seen : (c : core.Condition) (w : ℕ → Bool) (s : Stores) (x : Write) → TidsDistinct s.journal.entries → Seen (length s.cells) x
    → stores_seen c (λ b. touched_by x b (w b)) (applied x s) ≡ core.write (stores_seen c w s) (write_seen x)
unfolding core.write
write_is_seen c w s (note tid b) d h = ap (λ (es : List core.Entry). core.node c (cell_at s.cells) w es s.journal.pointer s.journal.highest (λ t. is_forced s.journal t)) (noted_entries tid b s.journal.entries d)
write_is_seen c w s (put i) d h =
    ap₂ (λ (m : ℕ → Cell) (l : ℕ → Bool). core.node c m l (entries_seen s.journal.entries) s.journal.pointer s.journal.highest (λ t. is_forced s.journal t))
    (fun_ext (put_cell s.cells i h.1)) (fun_ext (λ b. touched_put (covers i b) (core.puts (item_effect i b)) (w b) (covers_puts i b h.0)))
write_is_seen c w s flush_memory d h = refl
write_is_seen c w s flush_journal d h = ap (λ (es : List core.Entry). core.node c (cell_at s.cells) w es s.journal.pointer s.journal.highest (λ t. is_forced s.journal t)) (flushed_entries s.journal.entries)
write_is_seen c w s (add_entry tid ps ws) d h = absurd h
write_is_seen c w s (force tid) d h = absurd h
write_is_seen c w s (point n) d h = absurd h
write_is_seen c w s drop_oldest d h = absurd h

-- ## One after the other

noted_distinct : (tid : ℕ) (b : Bool) (es : List Entry) → TidsDistinct es → TidsDistinct (set es (place tid_of tid es) (with_outcome (get_or es (place tid_of tid es) no_entry) (SomeOf (pending b))))
unfolding place
noted_distinct tid b [] d = tt
noted_distinct tid b (e ∷ es) d = go (eqb e.tid tid) (noted_distinct tid b es d.1) (same es d.0)
  where
    same : (fs : List Entry) → All (λ (f : Entry). e.tid ≡ f.tid → ⊥) fs → All (λ (f : Entry). e.tid ≡ f.tid → ⊥) (set fs (place tid_of tid fs) (with_outcome (get_or fs (place tid_of tid fs) no_entry) (SomeOf (pending b))))
    same [] h = tt
    same (f ∷ fs) h = one (eqb f.tid tid) (same fs h.1)
      where
        one : (c : Bool) → All (λ (f : Entry). e.tid ≡ f.tid → ⊥) (set fs (place tid_of tid fs) (with_outcome (get_or fs (place tid_of tid fs) no_entry) (SomeOf (pending b))))
            → All (λ (f : Entry). e.tid ≡ f.tid → ⊥) (set (f ∷ fs) (cond c 0 (suc (place tid_of tid fs))) (with_outcome (get_or (f ∷ fs) (cond c 0 (suc (place tid_of tid fs))) no_entry) (SomeOf (pending b))))
        one true r = (h.0, h.1)
        one false r = (h.0, r)

    go : (c : Bool) → TidsDistinct (set es (place tid_of tid es) (with_outcome (get_or es (place tid_of tid es) no_entry) (SomeOf (pending b))))
        → All (λ (f : Entry). e.tid ≡ f.tid → ⊥) (set es (place tid_of tid es) (with_outcome (get_or es (place tid_of tid es) no_entry) (SomeOf (pending b))))
        → TidsDistinct (set (e ∷ es) (cond c 0 (suc (place tid_of tid es))) (with_outcome (get_or (e ∷ es) (cond c 0 (suc (place tid_of tid es))) no_entry) (SomeOf (pending b))))
    go true r q = d
    go false r q = (q, r)

flushed_distinct : (es : List Entry) → TidsDistinct es → TidsDistinct (map made_durable es)
flushed_distinct [] d = tt
flushed_distinct (e ∷ es) d = (one es d.0, flushed_distinct es d.1)
  where
    one : (fs : List Entry) → All (λ (f : Entry). e.tid ≡ f.tid → ⊥) fs → All (λ (f : Entry). e.tid ≡ f.tid → ⊥) (map made_durable fs)
    one [] h = tt
    one (f ∷ fs) h = (h.0, one fs h.1)

pub write_distinct : (s : Stores) (x : Write) → Seen (length s.cells) x → TidsDistinct s.journal.entries → TidsDistinct (applied x s).journal.entries
write_distinct s (note tid b) h d = noted_distinct tid b s.journal.entries d
write_distinct s (put i) h d = d
write_distinct s flush_memory h d = d
write_distinct s flush_journal h d = flushed_distinct s.journal.entries d
write_distinct s (add_entry tid ps ws) h d = absurd h
write_distinct s (force tid) h d = absurd h
write_distinct s (point n) h d = absurd h
write_distinct s drop_oldest h d = absurd h

pub write_length : (s : Stores) (x : Write) → length (applied x s).cells ≡ length s.cells
write_length s (add_entry tid ps ws) = refl
write_length s (force tid) = refl
write_length s (note tid b) = refl
write_length s (put i) = length_put s.cells i
write_length s flush_memory = refl
write_length s flush_journal = refl
write_length s (point n) = refl
write_length s drop_oldest = refl

pub writes_length : (s : Stores) (xs : List Write) → length (applied_all xs s).cells ≡ length s.cells
unfolding applied_all
writes_length s [] = refl
writes_length s (x ∷ xs) = writes_length (applied x s) xs ∙ write_length s x

pub writes_are_seen : (c : core.Condition) (w : ℕ → Bool) (s : Stores) (xs : List Write) → TidsDistinct s.journal.entries → All (Seen (length s.cells)) xs
    → stores_seen c (λ b. touched_by_all xs b (w b)) (applied_all xs s) ≡ core.write_all (stores_seen c w s) (map write_seen xs)
unfolding applied_all touched_by_all core.write_all
writes_are_seen c w s [] d h = refl
writes_are_seen c w s (x ∷ xs) d h =
    writes_are_seen c (λ b. touched_by x b (w b)) (applied x s) xs (write_distinct s x h.0 d) (subst (λ m. All (Seen m) xs) (sym (write_length s x)) h.1)
    ∙ ap (λ (k : core.Node Cell). core.write_all k (map write_seen xs)) (write_is_seen c w s x d h.0)

-- the core's entries are of distinct tids, so the rules' are
pub distinct_from_seen : (es : List Entry) → Pairs (λ (e f : core.Entry). e.tid ≡ f.tid → ⊥) (entries_seen es) → TidsDistinct es
distinct_from_seen [] h = tt
distinct_from_seen (e ∷ es) h = (one es h.0, distinct_from_seen es h.1)
  where
    one : (fs : List Entry) → All (λ (f : core.Entry). e.tid ≡ f.tid → ⊥) (entries_seen fs) → All (λ (f : Entry). e.tid ≡ f.tid → ⊥) fs
    one [] h = tt
    one (f ∷ fs) h = (h.0, one fs h.1)
