-- Eight cases on two nodes of 64 zero bytes with journals of capacity 4: each stands at the edge of a rule.
use Rattle.std.specs.Prelude.{◌≡◌, ℕ, zero, suc, true, false, List, [], ◌∷◌, ◌++◌, replicate}
use Rattle.model.specs.declared.refusal.Refusal.TheVariants.{Malformed, Missing, OutOfRange}
use Rattle.model.specs.declared.vote.Vote.TheVariants.{Yes, Busy, Forced, Mismatch, Full}
use Rattle.model.specs.Items.{Item, compare, read, write}
use Rattle.model.specs.Answers.{done, opened, delivered, decided, recovering, refused}
use Rattle.model.specs.Calls.{Call, opens, delivers, loses, decides, recovers, stops, collects}
use Rattle.model.specs.Samples.{two_nodes, asks, after, answers}

-- a request that writes one byte, with its length field to choose: 8 is right
abbrev pub sample_request : ℕ → List ℕ
sample_request len = 0 ∷ len ∷ 1 ∷ 1 ∷ 3 ∷ 0 ∷ 0 ∷ 5 ∷ 1 ∷ 24 ∷ []

-- a request that writes n bytes from address 0
abbrev pub long_request : ℕ → ℕ → List ℕ
long_request len n = 0 ∷ len ∷ 1 ∷ 1 ∷ 3 ∷ 0 ∷ 0 ∷ 0 ∷ n ∷ replicate n 7

-- Tid 1 is in doubt at node 0 and writes byte 5; tids 2 and 3 read bytes 5 and 6, and are decided.
abbrev pub readers_of_bytes : List Call
readers_of_bytes =
    asks (write 0 5 (24 ∷ []) ∷ []) ∷ delivers 0 255 ∷ delivers 0 255
    ∷ asks (read 0 5 1 ∷ []) ∷ delivers 0 255 ∷ delivers 0 255 ∷ decides 2 128 ∷ loses 0
    ∷ asks (read 0 6 1 ∷ []) ∷ delivers 0 255 ∷ delivers 0 255 ∷ decides 3 128
    ∷ []

-- Tid n is in doubt at node 0 and a recovery asks node 1, which has not had its prepare: node 1 forces it.
abbrev pub forcing : ℕ → List Call
forcing n = asks (write 0 5 (24 ∷ []) ∷ compare 1 0 (9 ∷ []) ∷ []) ∷ delivers 0 255 ∷ recovers 0 n ∷ delivers 3 255 ∷ []

-- Then node 1 has its prepare, both votes come, and the coordinator decides.
abbrev pub deciding : ℕ → List Call
deciding n = delivers 0 255 ∷ delivers 0 255 ∷ delivers 2 255 ∷ decides n 128 ∷ []

-- Then the messages of the recovery are lost, node 0 is finished and its entry collected.
abbrev pub clearing : ℕ → List Call
clearing n = loses 0 ∷ loses 0 ∷ delivers 0 255 ∷ loses 0 ∷ collects 0 255 ∷ stops n ∷ []

-- so many tids forced at node 1, and nothing left of them elsewhere
unfoldable pub rounds : ℕ → List Call
rounds zero = []
rounds (suc n) = rounds n ++ (forcing (suc n) ++ (deciding (suc n) ++ clearing (suc n)))

-- four entries fill the journal of node 0; tid 5 also differs, tid 6 does not
abbrev pub filling_journal : List Call
filling_journal =
    asks (write 0 0 (1 ∷ []) ∷ []) ∷ asks (write 0 1 (1 ∷ []) ∷ []) ∷ asks (write 0 2 (1 ∷ []) ∷ []) ∷ asks (write 0 3 (1 ∷ []) ∷ [])
    ∷ delivers 0 255 ∷ delivers 0 255 ∷ delivers 0 255 ∷ delivers 0 255
    ∷ delivers 0 255 ∷ delivers 0 255 ∷ delivers 0 255 ∷ delivers 0 255
    ∷ []

abbrev pub one_more : ℕ → Item → List Call
one_more n i = asks (i ∷ []) ∷ delivers 0 255 ∷ delivers 0 255 ∷ decides n 128 ∷ loses 0 ∷ []

pub record EdgeCases : Type 0 where
  -- a request whose length field says 7 in place of 8 is malformed
  pub wrong_length : answers two_nodes (opens (sample_request 7) ∷ opens (sample_request 8) ∷ []) ≡ (refused Malformed ∷ opened 1 ∷ [])
  -- an item of 16 bytes stands, one of 17 is malformed
  pub long_item : answers two_nodes (opens (long_request 23 16) ∷ opens (long_request 24 17) ∷ []) ≡ (opened 1 ∷ refused Malformed ∷ [])
  -- the last byte can be named, the one behind it cannot
  pub last_byte : answers two_nodes (asks (read 0 63 1 ∷ []) ∷ asks (read 0 63 2 ∷ []) ∷ []) ≡ (opened 1 ∷ refused OutOfRange ∷ [])
  -- there is no node 2
  pub no_such_node : answers two_nodes (asks (read 2 0 1 ∷ []) ∷ []) ≡ (refused Missing ∷ [])
  -- a byte written in doubt is locked for a reader, its neighbour is not
  pub locked_byte : answers two_nodes readers_of_bytes
      ≡ (opened 1 ∷ delivered true ∷ delivered true
      ∷ opened 2 ∷ delivered true ∷ delivered true ∷ decided false (Busy ∷ []) [] ∷ done
      ∷ opened 3 ∷ delivered true ∷ delivered true ∷ decided true (Yes ∷ []) (0 ∷ []) ∷ [])
  -- a forced abort comes before a comparison that fails
  pub forced_first : answers two_nodes (forcing 1 ++ deciding 1)
      ≡ (opened 1 ∷ delivered true ∷ recovering 1 ∷ delivered true
      ∷ delivered true ∷ delivered true ∷ delivered true ∷ decided false (Yes ∷ Forced ∷ []) [] ∷ [])
  -- a comparison that fails comes before a full journal
  pub mismatch_first : answers (after two_nodes filling_journal) (one_more 5 (compare 0 50 (9 ∷ [])) ++ one_more 6 (compare 0 50 (0 ∷ [])))
      ≡ (opened 5 ∷ delivered true ∷ delivered true ∷ decided false (Mismatch ∷ []) [] ∷ done
      ∷ opened 6 ∷ delivered true ∷ delivered true ∷ decided false (Full ∷ []) [] ∷ done ∷ [])
  -- the 64th forced abort is taken, the 65th inquiry is lost
  pub last_forced : answers (after two_nodes (rounds 63)) (forcing 64) ≡ (opened 64 ∷ delivered true ∷ recovering 64 ∷ delivered true ∷ [])
  pub forced_full : answers (after two_nodes (rounds 64)) (forcing 65) ≡ (opened 65 ∷ delivered true ∷ recovering 65 ∷ delivered false ∷ [])
