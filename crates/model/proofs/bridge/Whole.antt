-- A whole history of a cluster that was made well: its book, and that every moment of it is sound.
use Rattle.std.proofs.Common.{◌≡◌, ℕ, zero, suc, ◌≤◌, true, leb, List, [], ◌∷◌, length, get_or, refl, ◌∙◌}
use Rattle.std.specs.List.{AllByRecursion as All}
use Rattle.std.proofs.lemmas.Bool.{and_parts, leb-true}
use Rattle.model.specs.Items.{Item}
use Rattle.model.specs.Numbers.{most_nodes}
use Rattle.model.specs.Writes.{Stores}
use Rattle.model.specs.Node.{cells_of}
use Rattle.model.specs.Cluster.{node_at}
use Rattle.model.specs.Making.{is_well_made}
use Rattle.model.specs.Deeds.{Deed, asked, wrote, woke, nothing, asked_after}
use Rattle.model.specs.History.{Event, Fed, Answered, following, deed_after, requests, written_since, yes_log}
use Rattle.model.proofs.Bounding.{kept_following}
use Rattle.model.proofs.Keeping.{every_memory_keeps_size}
use Rattle.model.proofs.core.Lists.{all_push}
use Rattle.model.proofs.bridge.SerialMemories.{Within}
use Rattle.model.proofs.bridge.Beginning.{sizes_of, past_of, begin_sound, making_size}
use Rattle.model.proofs.bridge.Booked.{book_of, booked_whole}
use Rattle.model.proofs.bridge.Withins.{Fit, deed_fit}
use Rattle.model.proofs.bridge.Reached.{Reached, Booked, reach, reach_made}

nothing_within : (made : List Stores) → length made ≤ most_nodes → Within (sizes_of made) (length made) []
nothing_within made few = record { few = few; nodes = tt; ranges = tt }

module _ (made : List Stores) (good : is_well_made made ≡ true) where
  few : length made ≤ most_nodes
  few = leb-true (length made) most_nodes (and_parts (leb (length made) most_nodes) _ good).0

  asked_within : (d : Deed) (rs : List (List Item)) (es : List Event) (number : length (following made es).nodes ≡ length made) (sized : (q : ℕ) → length (cells_of (node_at (following made es) q)) ≡ sizes_of made q)
      → Fit (sizes_of made) (length made) few (following made es) number sized d → All (Within (sizes_of made) (length made)) rs → All (Within (sizes_of made) (length made)) (asked_after d rs)
  asked_within (asked is) rs es n z f a = all_push _ rs is a f
  asked_within (wrote q ws) rs es n z f a = a
  asked_within (woke q) rs es n z f a = a
  asked_within nothing rs es n z f a = a

  requests_within : (es : List Event) → Fed made es → Answered made es → All (Within (sizes_of made) (length made)) (requests made es)
  unfolding requests
  requests_within [] fed ans = tt
  requests_within (e ∷ es) fed ans =
      asked_within (deed_after made es e.call) (requests made es) es (kept_following made es).1 sized
      (deed_fit (sizes_of made) (length made) few (following made es) (kept_following made es).1 sized e.call) (requests_within es fed.1 ans.1)
    where
      sized : (q : ℕ) → length (cells_of (node_at (following made es) q)) ≡ sizes_of made q
      sized q = every_memory_keeps_size (record { beginning = made; events = es }) (record { fed = fed.1; answered = ans.1 }) q ∙ making_size (λ _. []) made good q

  all_within : (rs : List (List Item)) → All (Within (sizes_of made) (length made)) rs → (n : ℕ) → Within (sizes_of made) (length made) (get_or rs n [])
  all_within [] a n = nothing_within made few
  all_within (r ∷ rs) a zero = a.0
  all_within (r ∷ rs) a (suc n) = all_within rs a.1 n

  -- the book of the history
  module _ (es : List Event) (fed : Fed made es) (ans : Answered made es) where
    abbrev pub items_of : ℕ → List Item
    items_of = book_of (requests made es)

    pub within_of : (n : ℕ) → Within (sizes_of made) (length made) (items_of n)
    within_of n = all_within ([] ∷ requests made es) (nothing_within made few, requests_within es fed ans) n

    pub beginning : Reached items_of (sizes_of made) (length made) within_of made []
    unfolding written_since following yes_log
    beginning = record { past = past_of made; sound = begin_sound items_of made good; log = refl }

    pub booked_all : Booked items_of (sizes_of made) (length made) within_of made es
    booked_all = booked_whole (sizes_of made) (length made) made (requests made es) within_of es refl

    -- every history of a cluster made well ends in a sound cluster
    unfoldable pub reached : Reached items_of (sizes_of made) (length made) within_of made es
    reached = reach items_of (sizes_of made) (length made) within_of made beginning es fed booked_all

    -- the run starts from the memories as made
    pub reached_made : reached.past.made ≡ (past_of made).made
    unfolding reached beginning
    reached_made = reach_made items_of (sizes_of made) (length made) within_of made beginning es fed booked_all
