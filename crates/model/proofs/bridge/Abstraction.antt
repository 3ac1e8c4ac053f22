-- The plain cluster seen as a state of the core. What it does not hold is given beside it: the past, and which bytes
-- were written since the last flush or restart.
use Rattle.std.proofs.Common.{◌≡◌, ℕ, zero, suc, ◌+◌, ◌<◌, Bool, ◌⊎◌, List, [], ◌∷◌, ◌++◌, map, length, get_or, set, Some as SomeOf, None, Option, refl, ap, inl, inr, ⊎_elim, arith}
use mathlib.Core.Path.{fun_ext}
use Rattle.std.specs.List.{remove}
use Rattle.std.proofs.lemmas.Bool.{cases_eq, cases_lt}
use Rattle.std.proofs.lemmas.List.{get_or-set_same, get_or-set_other, get_or_past, map-append}
use Rattle.model.specs.declared.condition.Condition.{Condition}
use Rattle.model.specs.declared.condition.Condition.TheVariants.{Up, Down, Recovering}
use Rattle.model.specs.declared.outcome.Outcome.{Outcome}
use Rattle.model.specs.declared.party.Party.{Party}
use Rattle.model.specs.declared.party.Party.TheVariants.{Node as NodeParty, Coordinator as CoordinatorParty, Recovery as RecoveryParty}
use Rattle.model.specs.Cells.{Cell}
use Rattle.model.specs.Messages.{Body, Message, prepare, voted, finish, inquiry, reply, query, settled}
use Rattle.model.specs.Journal.{Entry, is_forced}
use Rattle.model.specs.Writes.{Stores}
use Rattle.model.specs.Node.{Node, no_node}
use Rattle.model.specs.Cluster.{Cluster, node_at, with_node, with_network, is_yes}
use Rattle.model.proofs.core.Lists.{At, without, update, update_same, update_other}
use Rattle.model.proofs.core.State as core
use Rattle.model.proofs.core.State.{Claim, says_prepare, says_vote, says_finish, says_inquiry, says_reply, says_query, says_settled, silent, absent, present, up, down, recovering, Past, State, state_with_node}
use Rattle.model.proofs.bridge.ItemEffects.{cell_at}

-- ## Nodes

abbrev pub outcome_seen : Option Outcome → core.Outcome
outcome_seen None = absent
outcome_seen (SomeOf o) = present o.commits o.durable

abbrev pub entry_seen : Entry → core.Entry
entry_seen e = record { number = e.running; tid = e.tid; outcome = outcome_seen e.outcome }

abbrev pub entries_seen : List Entry → List core.Entry
entries_seen es = map entry_seen es

abbrev pub condition_seen : Condition → core.Condition
condition_seen Up = up
condition_seen Down = down
condition_seen Recovering = recovering

-- stores, in a condition
abbrev pub stores_seen : core.Condition → (ℕ → Bool) → Stores → core.Node Cell
stores_seen c w s = core.node c (cell_at s.cells) w (entries_seen s.journal.entries) s.journal.pointer s.journal.highest (λ tid. is_forced s.journal tid)

abbrev pub node_seen : (ℕ → Bool) → Node → core.Node Cell
node_seen w n = stores_seen (condition_seen n.volatile.condition) w n.stores

-- ## Messages

-- what a message says; one that no rule sends says nothing
abbrev pub claimed : Body → ℕ → Party → Party → Claim
claimed (prepare ps is) tid from (NodeParty q) = says_prepare tid q
claimed (prepare ps is) tid from CoordinatorParty = silent
claimed (prepare ps is) tid from (RecoveryParty r) = silent
claimed (voted v bs) tid (NodeParty q) to = says_vote tid q (is_yes v)
claimed (voted v bs) tid CoordinatorParty to = silent
claimed (voted v bs) tid (RecoveryParty r) to = silent
claimed (finish b) tid from to = says_finish tid b
claimed inquiry tid from (NodeParty q) = says_inquiry tid q
claimed inquiry tid from CoordinatorParty = silent
claimed inquiry tid from (RecoveryParty r) = silent
claimed (reply b) tid (NodeParty q) to = says_reply tid q b
claimed (reply b) tid CoordinatorParty to = silent
claimed (reply b) tid (RecoveryParty r) to = silent
claimed query tid from (NodeParty q) = says_query tid q
claimed query tid from CoordinatorParty = silent
claimed query tid from (RecoveryParty r) = silent
claimed settled tid (NodeParty q) to = says_settled tid q
claimed settled tid CoordinatorParty to = silent
claimed settled tid (RecoveryParty r) to = silent

abbrev pub claim_of : Message → Claim
claim_of m = claimed m.body m.tid m.sender m.receiver

-- ## The whole cluster

-- which bytes were written since that memory was last flushed or restarted, by node and address
abbrev pub Touched : Type 0
Touched = ℕ → ℕ → Bool

unfoldable pub cluster_seen : Past Cell → Touched → Cluster → State Cell
cluster_seen h w c = record { nodes = λ q. node_seen (w q) (node_at c q); network = map claim_of c.network; notes = []; next = c.last_tid + 1; past = h }

-- ## Changes of the cluster as moves

pub seen_nodes : (h : Past Cell) (w : Touched) (c : Cluster) (q : ℕ) → (cluster_seen h w c).nodes q ≡ node_seen (w q) (node_at c q)
unfolding cluster_seen
seen_nodes h w c q = refl

-- one node changes
pub seen_with_node : (h : Past Cell) (w w' : Touched) (c : Cluster) (q : ℕ) (n : Node) → q < length c.nodes → ((p : ℕ) → (p ≡ q → ⊥) → w' p ≡ w p)
    → cluster_seen h w' (with_node c q n) ≡ state_with_node (cluster_seen h w c) q (node_seen (w' q) n)
unfolding cluster_seen
seen_with_node h w w' c q n l others = ap (λ (f : ℕ → core.Node Cell). record { nodes = f; network = map claim_of c.network; notes = []; next = c.last_tid + 1; past = h }) (fun_ext (λ p. go p (cases_eq p q)))
  where
    go : (p : ℕ) → ((p ≡ q) ⊎ (p ≡ q → ⊥)) → node_seen (w' p) (get_or (set c.nodes q n) p no_node) ≡ update (λ p. node_seen (w p) (node_at c p)) q (node_seen (w' q) n) p
    go p (inl e) = rw (e, get_or-set_same c.nodes q n no_node l, update_same (λ p. node_seen (w p) (node_at c p)) q (node_seen (w' q) n)) refl
    go p (inr e) = rw (get_or-set_other c.nodes q p n no_node e, update_other (λ p. node_seen (w p) (node_at c p)) q (node_seen (w' q) n) p e, others p e) refl

-- a node that is not down is there
pub not_down_there : (c : Cluster) (q : ℕ) → ((node_at c q).volatile.condition ≡ Down → ⊥) → q < length c.nodes
not_down_there c q h = ⊎_elim (λ l. l) (λ l. absurd (h (ap (λ (n : Node). n.volatile.condition) (get_or_past c.nodes q no_node l)))) (cases_lt q (length c.nodes))

-- messages are sent
pub seen_sent : (h : Past Cell) (w : Touched) (c : Cluster) (ms : List Message)
    → cluster_seen h w (with_network c (c.network ++ ms)) ≡ core.state_with_network (cluster_seen h w c) ((cluster_seen h w c).network ++ map claim_of ms) [] (c.last_tid + 1) h.verdicts
unfolding cluster_seen
seen_sent h w c ms = ap (λ (cs : List Claim). record { nodes = λ q. node_seen (w q) (node_at c q); network = cs; notes = []; next = c.last_tid + 1; past = h }) (map-append claim_of c.network ms)

pub map_removed : {A C : Type 0} (f : A → C) (i : ℕ) (xs : List A) → map f (remove xs i) ≡ without i (map f xs)
unfolding without
map_removed f zero [] = refl
map_removed f (suc i) [] = refl
map_removed f zero (x ∷ xs) = refl
map_removed f (suc i) (x ∷ xs) = ap (λ ys. f x ∷ ys) (map_removed f i xs)

-- a message leaves
pub seen_removed : (h : Past Cell) (w : Touched) (c : Cluster) (i : ℕ)
    → cluster_seen h w (with_network c (remove c.network i)) ≡ core.state_with_network (cluster_seen h w c) (without i (cluster_seen h w c).network) [] (c.last_tid + 1) h.verdicts
unfolding cluster_seen
seen_removed h w c i = ap (λ (cs : List Claim). record { nodes = λ q. node_seen (w q) (node_at c q); network = cs; notes = []; next = c.last_tid + 1; past = h }) (map_removed claim_of i c.network)

-- the message at a place
pub claim_at : (i : ℕ) (ms : List Message) (d : Message) → i < length ms → At i (map claim_of ms) (claim_of (get_or ms i d))
claim_at i [] d l = absurd (omega arith)
claim_at zero (m ∷ ms) d l = refl
claim_at (suc i) (m ∷ ms) d l = claim_at i ms d (omega arith)
