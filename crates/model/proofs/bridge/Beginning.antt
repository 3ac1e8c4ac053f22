-- A cluster that was made well is sound.
use Rattle.std.proofs.Common.{◌≡◌, ℕ, zero, suc, ◌<◌, Bool, true, false, ◌&&◌, eqb, leb, List, [], ◌∷◌, map, length, get_or, sym, refl, ap, ◌∙◌, subst, arith}
use mathlib.Core.Path.{fun_ext}
use Rattle.std.specs.List.{AllByRecursion as All}
use Rattle.std.proofs.lemmas.Bool.{and_parts, eqb-true}
use Rattle.std.proofs.lemmas.List.{nil_from_length, length-map}
use Rattle.model.specs.declared.condition.Condition.TheVariants.{Up}
use Rattle.model.specs.Items.{Item}
use Rattle.model.specs.Numbers.{most_nodes, most_entries}
use Rattle.model.specs.Cells.{Cell}
use Rattle.model.specs.Lists.{place, among}
use Rattle.model.specs.Journal.{Journal, is_empty, is_as_made}
use Rattle.model.specs.Writes.{Stores}
use Rattle.model.specs.Node.{Node, no_node, nothing_but}
use Rattle.model.specs.Cluster.{node_at}
use Rattle.model.specs.Making.{making, is_well_made}
use Rattle.model.specs.SerialRun.{memory_at}
use Rattle.model.proofs.core.Lists.{all_map}
use Rattle.model.proofs.core.State as core
use Rattle.model.proofs.core.State.{Past, State}
use Rattle.model.proofs.core.Memories.{Invariant}
use Rattle.model.proofs.core.Start.{made_node, start, started}
use Rattle.model.proofs.bridge.Tests.{every_all}
use Rattle.model.proofs.bridge.ItemEffects.{cell_at}
use Rattle.model.proofs.bridge.ItemBook.{item_book}
use Rattle.model.proofs.bridge.Abstraction.{cluster_seen, node_seen, condition_seen}
use Rattle.model.proofs.bridge.Tables.{Open, NodeFits}
use Rattle.model.proofs.bridge.Sound.{Sound}
use Rattle.model.proofs.bridge.NodeSteps.{no_bits}

-- ## A journal as made

pub record AsMade (j : Journal) : Type 0 where
  pub entries : j.entries ≡ []
  pub forced : j.forced ≡ []
  pub pointer : j.pointer ≡ 0
  pub highest : j.highest ≡ 0

as_made : (j : Journal) → is_as_made j ≡ true → AsMade j
as_made j h =
    let a = and_parts (is_empty j && eqb (length j.forced) 0 && eqb j.pointer 0 && eqb j.highest 0 && leb 1 j.capacity) (leb j.capacity most_entries) h in
    let b = and_parts (is_empty j && eqb (length j.forced) 0 && eqb j.pointer 0 && eqb j.highest 0) (leb 1 j.capacity) a.0 in
    let c = and_parts (is_empty j && eqb (length j.forced) 0 && eqb j.pointer 0) (eqb j.highest 0) b.0 in
    let d = and_parts (is_empty j && eqb (length j.forced) 0) (eqb j.pointer 0) c.0 in
    let e = and_parts (is_empty j) (eqb (length j.forced) 0) d.0 in
    record {
      entries = nil_from_length j.entries (eqb-true (length j.entries) 0 e.0);
      forced = nil_from_length j.forced (eqb-true (length j.forced) 0 e.1);
      pointer = eqb-true j.pointer 0 d.1;
      highest = eqb-true j.highest 0 c.1;
    }

none_among : (t : ℕ) → among t [] ≡ false
unfolding place
none_among t = refl

-- ## The nodes

abbrev up_node : Stores → Node
up_node s = record { stores = s; volatile = nothing_but Up }

abbrev cells_of : List Stores → List (List Cell)
cells_of ss = map (λ (s : Stores). s.cells) ss

-- the memories as made
abbrev pub made_of : List Stores → ℕ → ℕ → Cell
made_of ss q b = cell_at (memory_at (cells_of ss) q) b

abbrev conditions : List Stores → ℕ → core.Condition
conditions ss q = condition_seen (get_or (map up_node ss) q no_node).volatile.condition

one_made : (s : Stores) → AsMade s.journal → node_seen (λ b. false) (up_node s) ≡ made_node core.up (cell_at s.cells)
one_made s m = rw (m.entries, m.pointer, m.highest, m.forced) (ap (λ (f : ℕ → Bool). core.node core.up (cell_at s.cells) (λ b. false) [] 0 0 f) (fun_ext none_among))

nodes_made : (ss : List Stores) → All (λ (s : Stores). AsMade s.journal) ss → (q : ℕ) → node_seen (λ b. false) (get_or (map up_node ss) q no_node) ≡ made_node (conditions ss q) (made_of ss q)
nodes_made [] h q = ap (λ (f : ℕ → Bool). core.node core.down (cell_at []) (λ b. false) [] 0 0 f) (fun_ext none_among)
nodes_made (s ∷ ss) h zero = one_made s h.0
nodes_made (s ∷ ss) h (suc q) = nodes_made ss h.1 q

-- ## The cluster

abbrev pub sizes_of : List Stores → ℕ → ℕ
sizes_of ss q = length (memory_at (cells_of ss) q)

abbrev pub past_of : List Stores → Past Cell
past_of ss = record { made = made_of ss; log = []; verdicts = [] }

module _ (items : ℕ → List Item) (ss : List Stores) (good : is_well_made ss ≡ true) where
  all_made : All (λ (s : Stores). AsMade s.journal) ss
  all_made = all_map _ _ (λ s z. as_made s.journal z) ss (every_all _ ss (and_parts (leb (length ss) most_nodes) _ good).1)

  made_nodes : (making ss).nodes ≡ map up_node ss
  unfolding making
  made_nodes = rw good refl

  begun : cluster_seen (past_of ss) (λ q b. false) (making ss) ≡ start (conditions ss) (made_of ss) 1
  unfolding cluster_seen making
  begun = rw good (ap (λ (f : ℕ → core.Node Cell). record { nodes = f; network = []; notes = []; next = 1; past = past_of ss }) (fun_ext (nodes_made ss all_made)))

  fits_at : (t : State Cell) (xs : List Stores) → All (λ (s : Stores). AsMade s.journal) xs → (q p : ℕ) → q < length (map up_node xs) → length (get_or (map up_node xs) q no_node).stores.cells ≡ sizes_of ss p → NodeFits items t (sizes_of ss) p (get_or (map up_node xs) q no_node)
  fits_at t [] h q p l z = absurd (omega arith)
  fits_at t (s ∷ xs) h zero p l z = record {
    size = z;
    entries = rw h.0.entries tt;
    doubts = tt;
    doubts_distinct = tt;
    doubts_open = λ _ tid x. absurd x;
    open_doubts = λ _ tid x. absurd (subst (λ es. Open items tid es) h.0.entries x);
    unresolved = tt;
    none_unresolved = λ _. refl;
    open_unresolved = λ r. absurd (let y : ◌≡◌ {A = ℕ} 0 1 = cc in omega arith);
    acknowledged = λ r x. absurd (no_bits most_nodes r x);
  }
  fits_at t (s ∷ xs) h (suc q) p l z = fits_at t xs h.1 q p (omega arith) z

  same_size : (xs : List Stores) (q : ℕ) → length (get_or (map up_node xs) q no_node).stores.cells ≡ length (memory_at (cells_of xs) q)
  same_size [] q = refl
  same_size (s ∷ xs) zero = refl
  same_size (s ∷ xs) (suc q) = same_size xs q

  pub begin_sound : Sound items (sizes_of ss) (length ss) (past_of ss) (λ q b. false) (making ss)
  unfolding making
  begin_sound = record {
    invariant = subst (Invariant (item_book items)) (sym begun) (started (item_book items) (conditions ss) (made_of ss) 1);
    tables = record {
      number = ap length made_nodes ∙ length-map ss up_node;
      nodes = subst (λ (ns : List Node). (q : ℕ) → q < length ns → NodeFits items (cluster_seen (past_of ss) (λ q b. false) (making ss)) (sizes_of ss) q (get_or ns q no_node)) (sym made_nodes)
          (λ q l. fits_at (cluster_seen (past_of ss) (λ q b. false) (making ss)) ss all_made q q l (same_size ss q));
      coordinators = tt;
      recoveries = tt;
      messages = tt;
    };
  }

  pub making_size : (q : ℕ) → length (node_at (making ss) q).stores.cells ≡ sizes_of ss q
  making_size q = ap (λ (ns : List Node). length (get_or ns q no_node).stores.cells) made_nodes ∙ same_size ss q
