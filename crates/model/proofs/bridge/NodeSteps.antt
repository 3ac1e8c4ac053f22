-- A call that changes one node: from what the core shows of the node to a step of the cluster. Loss of power.
use Rattle.std.proofs.Common.{◌≡◌, ℕ, ◌<◌, ◌≤◌, Bool, true, false, ◌⊎◌, List, [], map, length, get_or, set, replicate, sym, refl, ap, ◌∙◌, subst, inl, inr, arith}
use Rattle.std.specs.List.{AllByRecursion as All}
use Rattle.std.proofs.lemmas.Bool.{cases_eq, cases_lt, both_ways, eq-eqb, ne_eqb}
use Rattle.std.proofs.lemmas.List.{get_or-set_same, get_or-set_other, get_or-replicate, get_or_past, length-set, length-replicate}
use Rattle.model.specs.declared.condition.Condition.TheVariants.{Up, Down, Recovering}
use Rattle.model.specs.Items.{Item}
use Rattle.model.specs.Numbers.{most_nodes}
use Rattle.model.specs.Cells.{Cell}
use Rattle.model.specs.Writes.{Stores, Write}
use Rattle.model.specs.Node.{Node, no_node, journal_of, cells_of, powerless}
use Rattle.model.specs.Cluster.{Cluster, node_at, with_node}
use Rattle.model.specs.Deeds.{Deed, nothing, wrote, touched, touched_by_all, yes_after, yes_by_all}
use Rattle.model.proofs.core.State as core
use Rattle.model.proofs.core.State.{Past, State, state_with_node, in_condition, up, down}
use Rattle.model.proofs.core.Facts.{Extends, extends_trans}
use Rattle.model.proofs.core.Memories.{Invariant}
use Rattle.model.proofs.core.Restart as restart
use Rattle.model.proofs.core.Again.{then_powerless, then_powerless_extends}
use Rattle.model.proofs.bridge.ItemBook.{item_book}
use Rattle.model.proofs.bridge.SerialMemories.{logged_entry}
use Rattle.model.proofs.bridge.Abstraction.{Touched, cluster_seen, node_seen, seen_with_node}
use Rattle.model.proofs.bridge.Tables.{EntryCopies, NodeFits, Tables, tables_stay}
use Rattle.model.proofs.bridge.Sound.{Sound, Step, claims_justified}

-- ## Composing steps

module _ (items : ℕ → List Item) (sizes : ℕ → ℕ) (count : ℕ) where
  abbrev B₀ : core.Book Cell
  B₀ = item_book items

  -- a step, then one that does nothing of its own
  pub step_then : (h : Past Cell) (w : Touched) (c c₁ c₂ : Cluster) (d : Deed) (a : Step items sizes count h w c d c₁)
      → Step items sizes count a.past (λ q b. touched d q b (w q b)) c₁ nothing c₂ → Step items sizes count h w c d c₂
  step_then h w c c₁ c₂ d a b = record
      { past = b.past; sound = b.sound; extends = extends_trans B₀ _ _ _ a.extends b.extends; log = b.log ∙ a.log; made = b.made ∙ a.made }

  -- a step that does nothing of its own, then another
  pub step_after : (h : Past Cell) (w : Touched) (c c₁ c₂ : Cluster) (d : Deed) (a : Step items sizes count h w c nothing c₁)
      → Step items sizes count a.past w c₁ d c₂ → Step items sizes count h w c d c₂
  step_after h w c c₁ c₂ d a b = record
      { past = b.past; sound = b.sound; extends = extends_trans B₀ _ _ _ a.extends b.extends; log = b.log ∙ ap (yes_after d) a.log; made = b.made ∙ a.made }

pub no_bits : (n p : ℕ) → get_or (replicate n false) p false ≡ true → ⊥
no_bits n p h = go (cases_lt p n)
  where
    go : ((p < n) ⊎ (n ≤ p)) → ⊥
    go (inl l) = both_ways false refl (sym (get_or-replicate n p false false l) ∙ h)
    go (inr l) = both_ways false refl (sym (get_or_past (replicate n false) p false (omega (arith, length-replicate {A = Bool} n false))) ∙ h)

-- ## One node

module _ (items : ℕ → List Item) (sizes : ℕ → ℕ) (count : ℕ) (h : Past Cell) (w : Touched) (c : Cluster) (s : Sound items sizes count h w c) where
  abbrev B : core.Book Cell
  B = item_book items

  abbrev S : State Cell
  S = cluster_seen h w c

  -- node q becomes n, which the core sees as k
  pub step_node : (q : ℕ) → q < length c.nodes → (n : Node) (d : Deed) (k : core.Node Cell)
      → ((p : ℕ) → (p ≡ q → ⊥) → (λ b. touched d p b (w p b)) ≡ w p)
      → yes_after d (map logged_entry h.log) ≡ map logged_entry h.log
      → node_seen (λ b. touched d q b (w q b)) n ≡ k
      → Invariant B (state_with_node S q k) → Extends B S (state_with_node S q k) → NodeFits items (state_with_node S q k) sizes q n
      → Step items sizes count h w c d (with_node c q n)
  step_node q l n d k others log seen i x fits = record {
    past = h;
    extends = x';
    log = sym log;
    made = refl;
    sound = record {
      invariant = subst (Invariant B) (sym same) i;
      tables = record {
        number = length-set c.nodes q n ∙ s.tables.number;
        nodes = nodes';
        coordinators = f.coordinators;
        recoveries = f.recoveries;
        messages = f.messages;
      };
    };
  }
    where
      w' : Touched
      w' p b = touched d p b (w p b)

      same : cluster_seen h w' (with_node c q n) ≡ state_with_node S q k
      same = seen_with_node h w w' c q n l others ∙ ap (λ (m : core.Node Cell). state_with_node S q m) seen

      S' : State Cell
      S' = cluster_seen h w' (with_node c q n)

      x' : Extends B S S'
      x' = subst (Extends B S) (sym same) x

      f : Tables items sizes count S' c
      f = tables_stay items S S' x' sizes count c (claims_justified items sizes count h w c s) s.tables

      nodes' : (p : ℕ) → p < length (with_node c q n).nodes → NodeFits items S' sizes p (node_at (with_node c q n) p)
      nodes' p lp = go (cases_eq p q)
        where
          go : ((p ≡ q) ⊎ (p ≡ q → ⊥)) → NodeFits items S' sizes p (node_at (with_node c q n) p)
          go (inl e) = subst (λ z. NodeFits items S' sizes z (get_or (set c.nodes q n) z no_node)) (sym e)
              (subst (NodeFits items S' sizes q) (sym (get_or-set_same c.nodes q n no_node l)) (subst (λ (t : State Cell). NodeFits items t sizes q n) (sym same) fits))
          go (inr e) = subst (NodeFits items S' sizes p) (sym (get_or-set_other c.nodes q p n no_node e)) (f.nodes p (subst (λ m. p < m) (length-set c.nodes q n) lp))

  -- ## Without power

  down_not_up : Down ≡ Up → ⊥
  down_not_up e = let z : ◌≡◌ {A = ℕ} 0 1 = cc in omega arith

  down_not_recovering : Down ≡ Recovering → ⊥
  down_not_recovering e = let z : ◌≡◌ {A = ℕ} 0 1 = cc in omega arith

  -- a node without power fits if its stores do
  pub powerless_fits : (t : State Cell) (q : ℕ) (st : Stores) → length st.cells ≡ sizes q → All (EntryCopies items q) st.journal.entries → NodeFits items t sizes q (powerless st)
  powerless_fits t q st z e = record {
    size = z;
    entries = e;
    doubts = tt;
    doubts_distinct = tt;
    doubts_open = λ r. absurd (down_not_up r);
    open_doubts = λ r. absurd (down_not_up r);
    unresolved = tt;
    none_unresolved = λ r. absurd (down_not_up r);
    open_unresolved = λ r. absurd (down_not_recovering r);
    acknowledged = λ p r. absurd (no_bits most_nodes p r);
  }

  cut_seen : (q : ℕ) → node_seen (w q) (powerless (node_at c q).stores) ≡ in_condition down (S.nodes q)
  unfolding cluster_seen
  cut_seen q = refl

  pub step_cuts : (q : ℕ) → q < length c.nodes → Step items sizes count h w c nothing (with_node c q (powerless (node_at c q).stores))
  step_cuts q l =
      step_node q l (powerless (node_at c q).stores) nothing (in_condition down (S.nodes q)) (λ p _. refl) refl (cut_seen q)
      (restart.powerless B S s.invariant q) (restart.powerless_extends B S s.invariant q)
      (powerless_fits (state_with_node S q (in_condition down (S.nodes q))) q (node_at c q).stores (s.tables.nodes q l).size (s.tables.nodes q l).entries)

  -- ## Writes

  -- only the node that wrote has bytes that count as written
  pub wrote_others : (q : ℕ) (ws : List Write) (p : ℕ) → (p ≡ q → ⊥) → (λ b. touched (wrote q ws) p b (w p b)) ≡ w p
  wrote_others q ws p e = rw (ne_eqb q p (λ z. e (sym z))) refl

  pub wrote_here : (q : ℕ) (ws : List Write) → ◌≡◌ {A = ℕ → Bool} (λ b. touched (wrote q ws) q b (w q b)) (λ b. touched_by_all ws b (w q b))
  wrote_here q ws = rw (eq-eqb q q refl) refl

  -- the same change of node q, and then power goes
  pub step_node_down : (q : ℕ) → q < length c.nodes → (n : Node) (d : Deed) (k : core.Node Cell)
      → ((p : ℕ) → (p ≡ q → ⊥) → (λ b. touched d p b (w p b)) ≡ w p)
      → yes_after d (map logged_entry h.log) ≡ map logged_entry h.log
      → node_seen (λ b. touched d q b (w q b)) n ≡ k
      → Invariant B (state_with_node S q k) → Extends B S (state_with_node S q k) → length (cells_of n) ≡ sizes q → All (EntryCopies items q) (journal_of n).entries
      → Step items sizes count h w c d (with_node c q (powerless n.stores))
  step_node_down q l n d k others log seen i x z e =
      step_node q l (powerless n.stores) d (in_condition down k) others log (ap (λ (m : core.Node Cell). in_condition down m) seen)
      (then_powerless B S q k i) (then_powerless_extends B S q k i x) (powerless_fits (state_with_node S q (in_condition down k)) q n.stores z e)

  -- no write was allowed
  cut_seen_none : (q : ℕ) → node_seen (λ b. touched (wrote q []) q b (w q b)) (powerless (node_at c q).stores) ≡ in_condition down (S.nodes q)
  unfolding cluster_seen touched_by_all
  cut_seen_none q = ap (λ (u : ℕ → Bool). node_seen u (powerless (node_at c q).stores)) (wrote_here q [])

  no_yes_none : (q : ℕ) → yes_after (wrote q []) (map logged_entry h.log) ≡ map logged_entry h.log
  unfolding yes_by_all
  no_yes_none q = refl

  pub step_writes_none : (q : ℕ) → q < length c.nodes → Step items sizes count h w c (wrote q []) (with_node c q (powerless (node_at c q).stores))
  step_writes_none q l =
      step_node q l (powerless (node_at c q).stores) (wrote q []) (in_condition down (S.nodes q)) (wrote_others q []) (no_yes_none q) (cut_seen_none q)
      (restart.powerless B S s.invariant q) (restart.powerless_extends B S s.invariant q)
      (powerless_fits (state_with_node S q (in_condition down (S.nodes q))) q (node_at c q).stores (s.tables.nodes q l).size (s.tables.nodes q l).entries)
