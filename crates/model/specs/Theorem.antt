-- What holds of a running cluster, whatever its history: the promises that a public call makes.
use Rattle.std.specs.Prelude.{◌≡◌, List, [], ◌∷◌, map}
use Rattle.std.specs.Option.{option_map}
use Rattle.model.specs.declared.outcome.Outcome.{Outcome}
use Rattle.model.specs.Answers.{Answer}
use Rattle.model.specs.Journal.{Entry}
use Rattle.model.specs.Writes.{Stores}
use Rattle.model.specs.Node.{Node, Left, cells_of, journal_of}
use Rattle.model.specs.Cluster.{Cluster, node_at}
use Rattle.model.specs.Calls.{Call, left_at}
use Rattle.model.specs.History.{Event, History, Faithful, Shown, Leads, LeadsTo, plain}
use Rattle.model.specs.Laws.{Laws}

-- ## A call, by what is shown before and after it

-- a node that has just got its power back shows what was left
abbrev pub left_shown : Node → Left
left_shown n =
    record { cells = cells_of n; outcomes = map (λ (e : Entry). option_map (λ (o : Outcome). o.commits) e.outcome) (journal_of n).entries }

abbrev pub left_in : Cluster → Call → Left
left_in after call = left_at (λ q. left_shown (node_at after q)) call

abbrev pub event_of : Call → Answer → Cluster → Event
event_of call answer after = record { call = call; left = left_in after call; answer = answer }

-- The answer and what is shown are the rule's; where the rules leave something free, they allow it.
abbrev pub Performs : Shown → Call → Answer → Shown → Type 0
Performs s call answer t = Leads s (event_of call answer t.cluster) t

-- ## Histories

abbrev pub LeadsHere : History → Shown → Type 0
LeadsHere h t = LeadsTo h.beginning h.events t

abbrev pub with_event : Event → History → History
with_event e h = record { beginning = h.beginning; events = e ∷ h.events }

-- each history that leads to the entry leads, with this call added, to the exit
abbrev pub Continues : Shown → Call → Answer → Shown → Type 0
Continues s call answer t = (h : History) → LeadsHere h s → LeadsHere (with_event (event_of call answer t.cluster) h) t

-- a cluster made of these stores: the history without calls leads to it
abbrev pub Begins : List Stores → Shown → Type 0
Begins made t = LeadsHere (record { beginning = made; events = [] }) t

-- what is shown is the plain cluster; at each wake only what may differ does, each answer is the plain cluster's; the laws hold
pub record HoldsOf (h : History) (t : Shown) : Type 0 where
  pub same : t.cluster ≡ plain h
  pub faithful : Faithful h
  pub laws : Laws h

-- of each history that leads here
abbrev pub Lawful : Shown → Type 0
Lawful t = (h : History) → LeadsHere h t → HoldsOf h t

-- whatever a running cluster shows
abbrev pub EveryClusterIsLawful : Type 0
EveryClusterIsLawful = (t : Shown) → Lawful t
