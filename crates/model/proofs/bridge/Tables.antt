-- What ties the tables and copies of the plain cluster to the core: coordinators, recoveries, messages, and each node's own.
use Rattle.std.proofs.Common.{◌≡◌, ℕ, ◌<◌, ◌≤◌, Bool, true, false, List, [], ◌∷◌, map, length, get_or, Some as SomeOf, None, sym, ap, ◌∙◌, subst}
use Rattle.std.specs.List.{AllByRecursion as All}
use Rattle.model.specs.declared.condition.Condition.TheVariants.{Up, Recovering}
use Rattle.model.specs.declared.party.Party.{Party}
use Rattle.model.specs.declared.party.Party.TheVariants.{Node as NodeParty, Coordinator as CoordinatorParty, Recovery as RecoveryParty}
use Rattle.model.specs.declared.vote.Vote.{Vote}
use Rattle.model.specs.Items.{Item}
use Rattle.model.specs.Cells.{Cell}
use Rattle.model.specs.Ranges.{items_at, writes_in}
use Rattle.model.specs.Participants.{participants_of}
use Rattle.model.specs.Messages.{Body, Message, prepare, voted, finish, inquiry, reply, query, settled}
use Rattle.model.specs.Journal.{Entry, Journal, is_empty, oldest}
use Rattle.model.specs.Node.{Node, Doubt, Unresolved, cells_of, journal_of, is_open}
use Rattle.model.specs.Cluster.{Cluster, Coordinator, Recovery, node_at, is_yes}
use Rattle.model.proofs.core.Lists.{Some, Pairs, all_map}
use Rattle.model.proofs.core.State as core
use Rattle.model.proofs.core.State.{Claim, says_vote, says_reply, says_settled, absent, State, has_voted_yes, saw_at}
use Rattle.model.proofs.core.Facts.{Justified, Known, Extends, justified_stays, known_stays}
use Rattle.model.proofs.bridge.ItemEffects.{items_read}
use Rattle.model.proofs.bridge.ItemBook.{item_book}
use Rattle.model.proofs.bridge.Abstraction.{entries_seen, claimed, claim_of}

module _ (items : ℕ → List Item) where
  abbrev B : core.Book Cell
  B = item_book items

  -- ## Nodes

  abbrev pub EntryCopies : ℕ → Entry → Type 0
  EntryCopies q e = (e.participants ≡ participants_of (items e.tid)) × (e.writes ≡ writes_in (items_at q (items e.tid)))

  abbrev pub DoubtCopies : ℕ → Doubt → Type 0
  DoubtCopies q d = (d.participants ≡ participants_of (items d.tid)) × (d.items ≡ items_at q (items d.tid))

  -- an entry of a tid without an outcome
  abbrev pub Open : ℕ → List Entry → Type 0
  Open n es = Some (λ (e : core.Entry). (e.tid ≡ n) × (e.outcome ≡ absent)) (entries_seen es)

  pub record UnresolvedFits (s : State Cell) (j : Journal) (u : Unresolved) : Type 0 where
    pub participants : u.participants ≡ participants_of (items u.tid)
    pub stands : Some (λ (e : core.Entry). (e.tid ≡ u.tid) × (j.pointer < e.number)) (entries_seen j.entries)
    pub agreed : (p : ℕ) → get_or u.agreed p false ≡ true → has_voted_yes s u.tid p ≡ true
    pub resolved : (b : Bool) → u.resolution ≡ SomeOf b → Known B s u.tid b

  pub record NodeFits (s : State Cell) (sizes : ℕ → ℕ) (q : ℕ) (n : Node) : Type 0 where
    pub size : length (cells_of n) ≡ sizes q
    pub entries : All (EntryCopies q) (journal_of n).entries
    pub doubts : All (DoubtCopies q) n.volatile.in_doubt
    pub doubts_distinct : Pairs (λ (a b : Doubt). a.tid ≡ b.tid → ⊥) n.volatile.in_doubt
    -- while it is up, what is in doubt is what has no outcome
    pub doubts_open : n.volatile.condition ≡ Up → (tid : ℕ) → Some (λ (d : Doubt). d.tid ≡ tid) n.volatile.in_doubt → Open tid (journal_of n).entries
    pub open_doubts : n.volatile.condition ≡ Up → (tid : ℕ) → Open tid (journal_of n).entries → Some (λ (d : Doubt). d.tid ≡ tid) n.volatile.in_doubt
    pub unresolved : All (UnresolvedFits s (journal_of n)) n.volatile.unresolved
    pub none_unresolved : n.volatile.condition ≡ Up → n.volatile.unresolved ≡ []
    -- while it recovers, what is past the pointer without an outcome is in the table
    pub open_unresolved : n.volatile.condition ≡ Recovering → All (λ (e : Entry). is_open (journal_of n) e ≡ true → Some (λ (u : Unresolved). u.tid ≡ e.tid) n.volatile.unresolved) (journal_of n).entries
    pub acknowledged : (p : ℕ) → get_or n.volatile.acknowledged p false ≡ true → (is_empty (journal_of n) ≡ false) × Justified B s (says_settled (oldest (journal_of n)).tid p)

  -- ## Coordinators and recoveries

  pub record CoordinatorFits (s : State Cell) (k : Coordinator) : Type 0 where
    pub participants : k.participants ≡ participants_of (items k.tid)
    pub slots : length k.reads ≡ length k.votes
    pub votes : (q : ℕ) (v : Vote) → get_or k.votes q None ≡ SomeOf v → Justified B s (says_vote k.tid q (is_yes v))
    pub reads : (q : ℕ) (v : Vote) → get_or k.votes q None ≡ SomeOf v → is_yes v ≡ true → get_or k.reads q [] ≡ items_read (saw_at s k.tid q) (items_at q (items k.tid))

  pub record RecoveryFits (s : State Cell) (last : ℕ) (r : Recovery) : Type 0 where
    pub given : r.number ≤ last
    pub participants : r.participants ≡ participants_of (items r.tid)
    pub replies : (q : ℕ) (b : Bool) → get_or r.replies q None ≡ SomeOf b → Justified B s (says_reply r.tid q b)

  -- ## Messages

  -- about the tid of the recovery that it is from or to
  abbrev pub AboutRecovery : ℕ → List Recovery → ℕ → Party → Type 0
  AboutRecovery last rs tid (NodeParty q) = Unit {0}
  AboutRecovery last rs tid CoordinatorParty = Unit {0}
  AboutRecovery last rs tid (RecoveryParty r) = (r ≤ last) × All (λ (k : Recovery). k.number ≡ r → k.tid ≡ tid) rs

  abbrev pub FromNode : Party → Type 0
  FromNode (NodeParty q) = Unit {0}
  FromNode CoordinatorParty = ⊥
  FromNode (RecoveryParty r) = ⊥

  abbrev pub PrepareCopies : ℕ → ℕ → List Item → Party → Type 0
  PrepareCopies tid ps is (NodeParty q) = (ps ≡ participants_of (items tid)) × (is ≡ items_at q (items tid))
  PrepareCopies tid ps is CoordinatorParty = Unit {0}
  PrepareCopies tid ps is (RecoveryParty r) = Unit {0}

  abbrev pub VoteReads : State Cell → ℕ → Vote → List ℕ → Party → Type 0
  VoteReads s tid v bs (NodeParty q) = is_yes v ≡ true → bs ≡ items_read (saw_at s tid q) (items_at q (items tid))
  VoteReads s tid v bs CoordinatorParty = Unit {0}
  VoteReads s tid v bs (RecoveryParty r) = Unit {0}

  abbrev pub BodyFits : State Cell → ℕ → List Recovery → Body → ℕ → Party → Party → Type 0
  BodyFits s last rs (prepare ps is) tid from to = PrepareCopies tid ps is to
  BodyFits s last rs (voted v bs) tid from to = VoteReads s tid v bs from
  BodyFits s last rs (finish b) tid from to = Unit {0}
  BodyFits s last rs inquiry tid from to = AboutRecovery last rs tid from
  BodyFits s last rs (reply b) tid from to = AboutRecovery last rs tid to × FromNode from
  BodyFits s last rs query tid from to = Unit {0}
  BodyFits s last rs settled tid from to = Unit {0}

  abbrev pub MessageFits : State Cell → ℕ → List Recovery → Message → Type 0
  MessageFits s last rs m = BodyFits s last rs m.body m.tid m.sender m.receiver

  -- ## The whole cluster

  pub record Tables (sizes : ℕ → ℕ) (count : ℕ) (s : State Cell) (c : Cluster) : Type 0 where
    pub number : length c.nodes ≡ count
    pub nodes : (q : ℕ) → q < length c.nodes → NodeFits s sizes q (node_at c q)
    pub coordinators : All (CoordinatorFits s) c.coordinators
    pub recoveries : All (RecoveryFits s c.last_recovery) c.recoveries
    pub messages : All (MessageFits s c.last_recovery c.recoveries) c.network

  -- ## What one state knows, a later one knows

  module _ (s t : State Cell) (x : Extends B s t) where
    unresolved_stays : (j : Journal) (u : Unresolved) → UnresolvedFits s j u → UnresolvedFits t j u
    unresolved_stays j u f = record {
      participants = f.participants;
      stands = f.stands;
      agreed = λ p h. x.wrote u.tid p (f.agreed p h);
      resolved = λ b h. known_stays B s t x u.tid b (f.resolved b h);
    }

    pub node_stays : (sizes : ℕ → ℕ) (q : ℕ) (n : Node) → NodeFits s sizes q n → NodeFits t sizes q n
    node_stays sizes q n f = record {
      size = f.size;
      entries = f.entries;
      doubts = f.doubts;
      doubts_distinct = f.doubts_distinct;
      doubts_open = f.doubts_open;
      open_doubts = f.open_doubts;
      unresolved = all_map (UnresolvedFits s (journal_of n)) (UnresolvedFits t (journal_of n)) (unresolved_stays (journal_of n)) n.volatile.unresolved f.unresolved;
      none_unresolved = f.none_unresolved;
      open_unresolved = f.open_unresolved;
      acknowledged = λ p h. ((f.acknowledged p h).0, justified_stays B s t x (says_settled (oldest (journal_of n)).tid p) (f.acknowledged p h).1);
    }

    yes_vote : (n q : ℕ) (b : Bool) → b ≡ true → Justified B s (says_vote n q b) → has_voted_yes s n q ≡ true
    yes_vote n q b e j = subst (λ z. Justified B s (says_vote n q z)) e j

    pub coordinator_stays : (k : Coordinator) → CoordinatorFits s k → CoordinatorFits t k
    coordinator_stays k f = record {
      participants = f.participants;
      slots = f.slots;
      votes = λ q v h. justified_stays B s t x (says_vote k.tid q (is_yes v)) (f.votes q v h);
      reads = λ q v h y. f.reads q v h y ∙ ap (λ (m : ℕ → Cell). items_read m (items_at q (items k.tid))) (sym (x.saw k.tid q (yes_vote k.tid q (is_yes v) y (f.votes q v h))));
    }

    pub recovery_stays : (last : ℕ) (r : Recovery) → RecoveryFits s last r → RecoveryFits t last r
    recovery_stays last r f = record { given = f.given; participants = f.participants; replies = λ q b h. justified_stays B s t x (says_reply r.tid q b) (f.replies q b h) }

    vote_reads_stay : (tid : ℕ) (v : Vote) (bs : List ℕ) (from to : Party) → Justified B s (claimed (voted v bs) tid from to) → VoteReads s tid v bs from → VoteReads t tid v bs from
    vote_reads_stay tid v bs (NodeParty q) to j f = λ y. f y ∙ ap (λ (m : ℕ → Cell). items_read m (items_at q (items tid))) (sym (x.saw tid q (yes_vote tid q (is_yes v) y j)))
    vote_reads_stay tid v bs CoordinatorParty to j f = tt
    vote_reads_stay tid v bs (RecoveryParty r) to j f = tt

    body_stays : (last : ℕ) (rs : List Recovery) (b : Body) (tid : ℕ) (from to : Party) → Justified B s (claimed b tid from to) → BodyFits s last rs b tid from to → BodyFits t last rs b tid from to
    body_stays last rs (prepare ps is) tid from to j f = f
    body_stays last rs (voted v bs) tid from to j f = vote_reads_stay tid v bs from to j f
    body_stays last rs (finish b) tid from to j f = f
    body_stays last rs inquiry tid from to j f = f
    body_stays last rs (reply b) tid from to j f = f
    body_stays last rs query tid from to j f = f
    body_stays last rs settled tid from to j f = f

    pub messages_stay : (last : ℕ) (rs : List Recovery) (ms : List Message) → All (Justified B s) (map claim_of ms) → All (MessageFits s last rs) ms → All (MessageFits t last rs) ms
    messages_stay last rs [] j f = tt
    messages_stay last rs (m ∷ ms) j f = (body_stays last rs m.body m.tid m.sender m.receiver j.0 f.0, messages_stay last rs ms j.1 f.1)

    pub tables_stay : (sizes : ℕ → ℕ) (count : ℕ) (c : Cluster) → All (Justified B s) (map claim_of c.network) → Tables sizes count s c → Tables sizes count t c
    tables_stay sizes count c j f = record {
      number = f.number;
      nodes = λ q l. node_stays sizes q (node_at c q) (f.nodes q l);
      coordinators = all_map (CoordinatorFits s) (CoordinatorFits t) coordinator_stays c.coordinators f.coordinators;
      recoveries = all_map (RecoveryFits s c.last_recovery) (RecoveryFits t c.last_recovery) (recovery_stays c.last_recovery) c.recoveries f.recoveries;
      messages = messages_stay c.last_recovery c.recoveries c.network j f.messages;
    }
