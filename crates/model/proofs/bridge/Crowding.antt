-- The table of minitransactions in doubt is never full before the journal.
use Rattle.std.proofs.Common.{◌≡◌, ℕ, ◌≤◌, true, List, [], ◌∷◌, map, length, sym, refl, inl, inr, arith}
use Rattle.std.specs.List.{AllByRecursion as All}
use Rattle.std.proofs.lemmas.List.{length-map}
use Rattle.model.specs.Items.{Item}
use Rattle.model.specs.Journal.{Entry, tid_of}
use Rattle.model.specs.Node.{Doubt, doubt_tid, journal_of, is_up}
use Rattle.model.specs.Cluster.{node_at}
use Rattle.model.specs.Making.{is_well_made}
use Rattle.model.specs.History.{History, Faithful, plain}
use Rattle.model.specs.Unreached.{NoTableFillsFirst}
use Rattle.model.proofs.Keeping.{every_journal_bounded}
use Rattle.model.proofs.Counting.{Stands, Apart, apart_fit, crowded_full}
use Rattle.model.proofs.core.Lists.{Some, Pairs}
use Rattle.model.proofs.bridge.Tables.{Open}
use Rattle.model.proofs.bridge.Performs.{up_is}
use Rattle.model.proofs.bridge.Powered.{up_has_power, power_made, book_at, powered_fits}

-- ## Counting what is in doubt

open_stands : (items : ℕ → List Item) (tid : ℕ) (es : List Entry) → Open items tid es → Stands tid (map tid_of es)
open_stands items tid [] x = x
open_stands items tid (e ∷ es) (inl x) = inl x.0
open_stands items tid (e ∷ es) (inr x) = inr (open_stands items tid es x)

doubts_apart : (ds : List Doubt) → Pairs (λ (a b : Doubt). a.tid ≡ b.tid → ⊥) ds → Apart (map doubt_tid ds)
doubts_apart [] h = tt
doubts_apart (d ∷ ds) h = (one ds h.0, doubts_apart ds h.1)
  where
    one : (fs : List Doubt) → All (λ (f : Doubt). d.tid ≡ f.tid → ⊥) fs → All (λ m. m ≡ d.tid → ⊥) (map doubt_tid fs)
    one [] h = tt
    one (f ∷ fs) h = ((λ z. h.0 (sym z)), one fs h.1)

doubts_stand : (ms : List ℕ) (ds : List Doubt) → ((tid : ℕ) → Some (λ (d : Doubt). d.tid ≡ tid) ds → Stands tid ms) → All (λ n. Stands n ms) (map doubt_tid ds)
doubts_stand ms [] f = tt
doubts_stand ms (d ∷ ds) f = (f d.tid (inl refl), doubts_stand ms ds (λ tid x. f tid (inr x)))

-- each has an entry of its own
pub doubts_few : (h : History) (good : is_well_made h.beginning ≡ true) (faithful : Faithful h) (q : ℕ) → is_up (node_at (plain h) q).volatile.condition ≡ true
    → length (node_at (plain h) q).volatile.in_doubt ≤ length (journal_of (node_at (plain h) q)).entries
doubts_few h good faithful q u =
    let n = node_at (plain h) q in
    let fits = powered_fits h good faithful q (up_has_power n.volatile.condition u) in
    let es = (journal_of n).entries in
    let few = apart_fit (map doubt_tid n.volatile.in_doubt) (map tid_of es) (doubts_apart n.volatile.in_doubt fits.doubts_distinct)
    (doubts_stand (map tid_of es) n.volatile.in_doubt (λ tid x. open_stands (book_at h good faithful) tid es (fits.doubts_open (up_is n.volatile.condition u) tid x))) in
    omega (arith, few, length-map n.volatile.in_doubt doubt_tid, length-map es tid_of)

pub no_table_fills_first : NoTableFillsFirst
no_table_fills_first h faithful q u =
    let good = power_made h q (up_has_power (node_at (plain h) q).volatile.condition u) in
    crowded_full (node_at (plain h) q) (every_journal_bounded h good q) (doubts_few h good faithful q u)
