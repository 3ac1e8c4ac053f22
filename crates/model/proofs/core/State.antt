-- The core of the protocol: what a minitransaction is to it, nodes, messages, the past, and how a state changes.
-- Bytes are of any type V; lists of items, capacities, encodings and answers do not enter here.
use Rattle.std.proofs.Common.{◌≡◌, ℕ, suc, ◌+◌, Bool, true, false, cond, not, ◌&&◌, ◌||◌, eqb, ltb, ◌⊎◌, List, [], ◌∷◌, ◌++◌}
use Rattle.model.specs.Lists.{every}
use Rattle.model.proofs.core.Lists.{update, without, has, Distinct}

-- ## Minitransactions

-- what a write does to one byte
pub data Effect (V : Type 0) : Type 0 where
  keep : Effect V
  put : V → Effect V

abbrev pub applied : {V : Type 0} → Effect V → V → V
applied keep x = x
applied (put v) x = v

abbrev pub puts : {V : Type 0} → Effect V → Bool
puts keep = false
puts (put v) = true

-- one effect, then another
abbrev pub followed : {V : Type 0} → Effect V → Effect V → Effect V
followed x keep = x
followed x (put v) = put v

-- writes one after the other, on one byte
unfoldable pub together : {V : Type 0} → List (ℕ → Effect V) → ℕ → Effect V
together [] b = keep
together (w ∷ ws) b = followed (w b) (together ws b)

pub record Minitransaction (V : Type 0) : Type 0 where
  pub participants : List ℕ
  pub writes : ℕ → List (ℕ → Effect V)  -- at a node, in order: what each write does to each byte
  pub looks : ℕ → ℕ → Bool  -- whether it reads or compares a byte of a node
  pub agrees : ℕ → (ℕ → V) → Bool  -- whether its comparisons at a node are true of a memory

-- every minitransaction that is ever opened, by tid
abbrev pub Book : Type 0 → Type 0
Book V = ℕ → Minitransaction V

-- what minitransaction n does to byte b of node q
abbrev pub effect : {V : Type 0} → Book V → ℕ → ℕ → ℕ → Effect V
effect B n q b = together ((B n).writes q) b

-- what is asked of the minitransactions themselves
pub record Lawful {V : Type 0} (B : Book V) : Type 0 where
  pub participants_distinct : (n : ℕ) → Distinct (B n).participants
  pub agrees_by_looks : (n q : ℕ) (m m' : ℕ → V) → ((b : ℕ) → (B n).looks q b ≡ true → m b ≡ m' b) → (B n).agrees q m ≡ (B n).agrees q m'

-- a write of the one touches a byte that the other writes, reads or compares
abbrev pub Conflict : {V : Type 0} → Book V → ℕ → ℕ → ℕ → Type 0
Conflict B q n m =
    (b : ℕ) × (((puts (effect B n q b) ≡ true) × ((puts (effect B m q b) ≡ true) ⊎ ((B m).looks q b ≡ true)))
    ⊎ ((puts (effect B m q b) ≡ true) × ((B n).looks q b ≡ true)))

-- ## Nodes

pub data Outcome : Type 0 where
  absent : Outcome
  present : Bool → Bool → Outcome  -- whether committed; whether durable

-- a yes entry in a journal
pub record Entry : Type 0 where
  pub number : ℕ  -- its running number
  pub tid : ℕ
  pub outcome : Outcome

pub data Condition : Type 0 where
  up : Condition
  down : Condition
  recovering : Condition

pub record Node (V : Type 0) : Type 0 where
  pub condition : Condition
  pub memory : ℕ → V
  pub written : ℕ → Bool  -- since the memory was last flushed or restarted
  pub entries : List Entry  -- the oldest first
  pub pointer : ℕ
  pub given : ℕ  -- the highest running number given
  pub forced : ℕ → Bool  -- the forced aborts

abbrev pub node : {V : Type 0} → Condition → (ℕ → V) → (ℕ → Bool) → List Entry → ℕ → ℕ → (ℕ → Bool) → Node V
node c m w es p g f = record { condition = c; memory = m; written = w; entries = es; pointer = p; given = g; forced = f }

abbrev pub in_condition : {V : Type 0} → Condition → Node V → Node V
in_condition c k = node c k.memory k.written k.entries k.pointer k.given k.forced

abbrev pub with_pointer : {V : Type 0} → Node V → ℕ → Node V
with_pointer k p = node k.condition k.memory k.written k.entries p k.given k.forced

abbrev pub node_with_entries : {V : Type 0} → Node V → List Entry → Node V
node_with_entries k es = node k.condition k.memory k.written es k.pointer k.given k.forced

-- the entry that a yes vote on n adds
abbrev pub entry_to_add : {V : Type 0} → Node V → ℕ → Entry
entry_to_add k n = record { number = suc k.given; tid = n; outcome = absent }

abbrev pub with_new_entry : {V : Type 0} → Node V → ℕ → Node V
with_new_entry k n = node k.condition k.memory k.written (k.entries ++ entry_to_add k n ∷ []) k.pointer (suc k.given) k.forced

-- ## Messages, and what is noted of them

-- what a message, or the note that somebody made of it, says
pub data Claim : Type 0 where
  says_prepare : ℕ → ℕ → Claim  -- tid, node
  says_vote : ℕ → ℕ → Bool → Claim  -- tid, node, whether yes
  says_finish : ℕ → Bool → Claim  -- tid, whether committed
  says_inquiry : ℕ → ℕ → Claim  -- tid, node
  says_reply : ℕ → ℕ → Bool → Claim  -- tid, node, whether the yes entry stands
  says_query : ℕ → ℕ → Claim  -- tid, node
  says_settled : ℕ → ℕ → Claim  -- tid, node
  says_outcome : ℕ → Bool → Claim  -- tid, whether committed: an outcome noted, resolved or decided
  silent : Claim  -- what nobody relies on

unfoldable pub prepares_in : ℕ → ℕ → Claim → ℕ
prepares_in n q (says_prepare m p) = cond (eqb m n && eqb p q) 1 0
prepares_in n q (says_vote m p v) = 0
prepares_in n q (says_finish m v) = 0
prepares_in n q (says_inquiry m p) = 0
prepares_in n q (says_reply m p v) = 0
prepares_in n q (says_query m p) = 0
prepares_in n q (says_settled m p) = 0
prepares_in n q (says_outcome m v) = 0
prepares_in n q silent = 0

-- how many prepares of n to node q are under way
unfoldable pub prepares : ℕ → ℕ → List Claim → ℕ
prepares n q [] = 0
prepares n q (m ∷ ms) = prepares_in n q m + prepares n q ms

unfoldable pub prepare_each : ℕ → List ℕ → List Claim
prepare_each n [] = []
prepare_each n (q ∷ qs) = says_prepare n q ∷ prepare_each n qs

-- ## The past

-- a yes entry that was written, with the memory that the node saw then
pub record Yes (V : Type 0) : Type 0 where
  pub tid : ℕ
  pub place : ℕ
  pub saw : ℕ → V

pub record Verdict : Type 0 where
  pub tid : ℕ
  pub committed : Bool

pub record Past (V : Type 0) : Type 0 where
  pub made : ℕ → ℕ → V  -- the memories as made
  pub log : List (Yes V)  -- every yes entry ever written, the latest first
  pub verdicts : List Verdict  -- outcomes that were ever noted, and decisions that were ever given

unfoldable pub logged : {V : Type 0} → List (Yes V) → ℕ → ℕ → Bool
logged [] n q = false
logged (y ∷ ys) n q = (eqb y.place q && eqb y.tid n) || logged ys n q

-- each participant has, at some time, written its yes entry
abbrev pub committed : {V : Type 0} → Book V → List (Yes V) → ℕ → Bool
committed B L n = every (logged L n) (B n).participants

-- what node q saw when it wrote its yes entry of n
unfoldable pub seen : {V : Type 0} → (ℕ → ℕ → V) → List (Yes V) → ℕ → ℕ → ℕ → V
seen M [] n q = M q
seen M (y ∷ ys) n q = cond (eqb y.place q && eqb y.tid n) y.saw (seen M ys n q)

-- the committed minitransactions, the latest first: the turn of each comes with the yes entry that makes it committed
unfoldable pub serial_run : {V : Type 0} → Book V → List (Yes V) → List ℕ
serial_run B [] = []
serial_run B (y ∷ ys) = cond (committed B (y ∷ ys) y.tid && not (committed B ys y.tid)) (y.tid ∷ serial_run B ys) (serial_run B ys)

-- the memories after minitransactions taken one by one, the latest first
unfoldable pub after : {V : Type 0} → Book V → (ℕ → ℕ → V) → List ℕ → ℕ → ℕ → V
after B M [] q b = M q b
after B M (n ∷ ns) q b = cond (has q (B n).participants) (applied (effect B n q b) (after B M ns q b)) (after B M ns q b)

-- what the committed entries past the pointer make of a byte, in journal order
unfoldable pub replay : {V : Type 0} (B : Book V) (L : List (Yes V)) (q p b : ℕ) → List Entry → V → V
replay B L q p b [] x = x
replay B L q p b (e ∷ es) x =
    replay B L q p b es (cond (ltb p e.number && committed B L e.tid) (applied (effect B e.tid q b) x) x)

-- ## States

pub record State (V : Type 0) : Type 0 where
  pub nodes : ℕ → Node V
  pub network : List Claim
  pub notes : List Claim  -- what coordinators, recoveries and nodes noted
  pub next : ℕ  -- the tid to be given next
  pub past : Past V

abbrev pub has_voted_yes : {V : Type 0} → State V → ℕ → ℕ → Bool
has_voted_yes s n q = logged s.past.log n q

abbrev pub saw_at : {V : Type 0} → State V → ℕ → ℕ → ℕ → V
saw_at s n q = seen s.past.made s.past.log n q

-- the memories that the serial run leaves
abbrev pub serial : {V : Type 0} → Book V → State V → ℕ → ℕ → V
serial B s q b = after B s.past.made (serial_run B s.past.log) q b

-- ## Moves

abbrev pub state_with_node : {V : Type 0} → State V → ℕ → Node V → State V
state_with_node s q k = record { nodes = update s.nodes q k; network = s.network; notes = s.notes; next = s.next; past = s.past }

-- the messages under way, the notes, the next tid and the verdicts given change
abbrev pub state_with_network : {V : Type 0} → State V → List Claim → List Claim → ℕ → List Verdict → State V
state_with_network s ms ns x vs = record { nodes = s.nodes; network = ms; notes = ns; next = x; past = record { made = s.past.made; log = s.past.log; verdicts = vs } }

-- the past after node q, seeing its memory m, wrote its yes entry of n
abbrev pub with_yes : {V : Type 0} → Past V → ℕ → ℕ → (ℕ → V) → Past V
with_yes h n q m = record { made = h.made; log = record { tid = n; place = q; saw = m } ∷ h.log; verdicts = h.verdicts }

-- node q writes its yes entry of n; the prepare at place i leaves the network
abbrev pub accept : {V : Type 0} → State V → ℕ → ℕ → ℕ → State V
accept s i n q =
    record {
      nodes = update s.nodes q (with_new_entry (s.nodes q) n);
      network = without i s.network;
      notes = s.notes;
      next = s.next;
      past = with_yes s.past n q (s.nodes q).memory;
    }

-- ## Durable writes of one node that keep its entries and its pointer

pub data Write (V : Type 0) : Type 0 where
  note : (ℕ → ℕ → Bool) → Bool → Write V  -- the outcome of the entries that a test of number and tid names
  item : (ℕ → Effect V) → Write V
  force : ℕ → Write V
  memory_flush : Write V
  journal_flush : Write V

abbrev pub entry_with_outcome : (Entry → Outcome) → Entry → Entry
entry_with_outcome g e = record { number = e.number; tid = e.tid; outcome = g e }

unfoldable pub outcomes : (Entry → Outcome) → List Entry → List Entry
outcomes g [] = []
outcomes g (e ∷ es) = entry_with_outcome g e ∷ outcomes g es

abbrev pub noted : (ℕ → ℕ → Bool) → Bool → Entry → Outcome
noted t v e = cond (t e.number e.tid) (present v false) e.outcome

abbrev pub outcome_made_durable : Outcome → Outcome
outcome_made_durable absent = absent
outcome_made_durable (present v d) = present v true

unfoldable pub write : {V : Type 0} → Node V → Write V → Node V
write k (note t v) = node k.condition k.memory k.written (outcomes (noted t v) k.entries) k.pointer k.given k.forced
write k (item w) = node k.condition (λ b. applied (w b) (k.memory b)) (λ b. k.written b || puts (w b)) k.entries k.pointer k.given k.forced
write k (force n) = node k.condition k.memory k.written k.entries k.pointer k.given (λ m. eqb m n || k.forced m)
write k memory_flush = node k.condition k.memory (λ b. false) k.entries k.pointer k.given k.forced
write k journal_flush = node k.condition k.memory k.written (outcomes (λ e. outcome_made_durable e.outcome) k.entries) k.pointer k.given k.forced

unfoldable pub write_all : {V : Type 0} → Node V → List (Write V) → Node V
write_all k [] = k
write_all k (w ∷ ws) = write_all (write k w) ws

unfoldable pub write_items : {V : Type 0} → List (ℕ → Effect V) → List (Write V)
write_items [] = []
write_items (w ∷ ws) = item w ∷ write_items ws
