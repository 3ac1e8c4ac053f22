-- An outcome that stands, and a decision that is given, are known for good: so no two of them differ, at any moments.
use Rattle.std.proofs.Common.{◌≡◌, ℕ, zero, suc, Bool, List, [], ◌∷◌, drop, Some as SomeOf, sym, refl, ap, subst, inl, inr, arith}
use Rattle.std.specs.List.{slice_get}
use Rattle.model.specs.declared.outcome.Outcome.{Outcome}
use Rattle.model.specs.Items.{Item}
use Rattle.model.specs.Cells.{Cell}
use Rattle.model.specs.Writes.{Stores}
use Rattle.model.specs.Journal.{Entry}
use Rattle.model.specs.Node.{journal_of}
use Rattle.model.specs.Cluster.{Cluster, node_at}
use Rattle.model.specs.History.{Event, following, Fed}
use Rattle.model.proofs.core.Lists.{Some}
use Rattle.model.proofs.core.State as core
use Rattle.model.proofs.core.State.{Past, State, present}
use Rattle.model.proofs.core.Facts.{Known, known_stays}
use Rattle.model.proofs.core.Laws.{outcome_known, known_alike}
use Rattle.model.proofs.bridge.ItemBook.{item_book}
use Rattle.model.proofs.bridge.SerialMemories.{Within}
use Rattle.model.proofs.bridge.Abstraction.{Touched, cluster_seen, entry_seen, entries_seen, outcome_seen}
use Rattle.model.proofs.bridge.Sound.{Sound}
use Rattle.model.proofs.bridge.Reached.{Reached, moment, Booked, reach, fed_drop, booked_drop, knows_more}

nth_stands : (e : Entry) (es : List Entry) (i : ℕ) → slice_get es i ≡ SomeOf e → (P : core.Entry → Type 0) → P (entry_seen e) → Some P (entries_seen es)
nth_stands e [] i h P p = absurd (let z : ◌≡◌ {A = ℕ} 0 1 = cc in omega arith)
nth_stands e (x ∷ es) zero h P p = let r : x ≡ e = cc in inl (subst (λ (y : Entry). P (entry_seen y)) (sym r) p)
nth_stands e (x ∷ es) (suc i) h P p = inr (nth_stands e es i h P p)

module _ (items : ℕ → List Item) (sizes : ℕ → ℕ) (count : ℕ) where
  -- in one sound cluster
  pub finished_known : (h : Past Cell) (w : Touched) (c : Cluster) → Sound items sizes count h w c → (q i : ℕ) (e : Entry) (o : Outcome)
      → slice_get (journal_of (node_at c q)).entries i ≡ SomeOf e → e.outcome ≡ SomeOf o → Known (item_book items) (cluster_seen h w c) e.tid o.commits
  unfolding cluster_seen
  finished_known h w c s q i e o there r =
      outcome_known (item_book items) (cluster_seen h w c) s.invariant q e.tid o.commits o.durable
      (nth_stands e (journal_of (node_at c q)).entries i there (λ (x : core.Entry). (x.tid ≡ e.tid) × (x.outcome ≡ present o.commits o.durable)) (refl, ap outcome_seen r))

  -- at any two moments and nodes of one history
  module _ (within : (n : ℕ) → Within sizes count (items n)) (made : List Stores) (beginning : Reached items sizes count within made []) (es : List Event) (fed : Fed made es) (k : Booked items sizes count within made es) where
    pub known_now : (j : ℕ) (tid : ℕ) (b : Bool)
        → Known (item_book items) (moment items sizes count within made (drop j es) (reach items sizes count within made beginning (drop j es) (fed_drop items sizes count within made beginning j es fed) (booked_drop items sizes count within made beginning j es k))) tid b
        → Known (item_book items) (moment items sizes count within made es (reach items sizes count within made beginning es fed k)) tid b
    known_now j tid b = known_stays (item_book items) _ _ (knows_more items sizes count within made beginning j es fed k) tid b

    pub finished_alike_lem : (j l p q m n : ℕ) (d e : Entry) (a b : Outcome)
        → slice_get (journal_of (node_at (following made (drop j es)) p)).entries m ≡ SomeOf d → d.outcome ≡ SomeOf a
        → slice_get (journal_of (node_at (following made (drop l es)) q)).entries n ≡ SomeOf e → e.outcome ≡ SomeOf b
        → d.tid ≡ e.tid → a.commits ≡ b.commits
    finished_alike_lem j l p q m n d e a b x r y s same =
        known_alike (item_book items) _ (reach items sizes count within made beginning es fed k).sound.invariant e.tid a.commits b.commits
        (subst (λ t. Known (item_book items) (moment items sizes count within made es (reach items sizes count within made beginning es fed k)) t a.commits) same
        (known_now j d.tid a.commits (finished_known _ _ _ (reach items sizes count within made beginning (drop j es) (fed_drop items sizes count within made beginning j es fed) (booked_drop items sizes count within made beginning j es k)).sound p m d a x r)))
        (known_now l e.tid b.commits (finished_known _ _ _ (reach items sizes count within made beginning (drop l es) (fed_drop items sizes count within made beginning l es fed) (booked_drop items sizes count within made beginning l es k)).sound q n e b y s))
