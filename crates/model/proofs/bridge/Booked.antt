-- The book of a history: the items of each tid that was ever given, from the requests of the whole history.
use Rattle.std.proofs.Common.{◌≡◌, ℕ, List, [], ◌∷◌, ◌++◌, length, get_or, sym, refl, ap, ◌∙◌, add-one, arith}
use Rattle.std.proofs.lemmas.List.{get_or_append_left, get_or_push, append_assoc, append-nil, length_push}
use Rattle.model.specs.Items.{Item}
use Rattle.model.specs.Writes.{Stores}
use Rattle.model.specs.Cluster.{Cluster}
use Rattle.model.specs.Making.{making}
use Rattle.model.specs.Deeds.{Deed, asked, wrote, woke, nothing, asked_after}
use Rattle.model.specs.History.{Event, following, deed_after, requests}
use Rattle.model.proofs.bridge.SerialMemories.{Within}
use Rattle.model.proofs.bridge.Histories.{HasItems, tids_after, step_tids}
use Rattle.model.proofs.bridge.Reached.{Booked}

-- as many requests as tids
asked_count : (d : Deed) (rs : List (List Item)) → length (asked_after d rs) ≡ tids_after d (length rs)
asked_count (asked is) rs = length_push rs is
asked_count (wrote q ws) rs = refl
asked_count (woke q) rs = refl
asked_count nothing rs = refl

pub requests_count : (made : List Stores) (es : List Event) → length (requests made es) ≡ (following made es).last_tid
unfolding requests following making
requests_count made [] = refl
requests_count made (e ∷ es) =
    asked_count (deed_after made es e.call) (requests made es)
    ∙ ap (tids_after (deed_after made es e.call)) (requests_count made es)
    ∙ sym (step_tids (following made es) e.call e.left)

-- requests only come
abbrev pub Begins : List (List Item) → List (List Item) → Type 0
Begins rs all = (more : List (List Item)) × (all ≡ rs ++ more)

asked_begins : (d : Deed) (rs all : List (List Item)) → Begins (asked_after d rs) all → Begins rs all
asked_begins (asked is) rs all (more, e) = (is ∷ more, e ∙ append_assoc rs (is ∷ []) more)
asked_begins (wrote q ws) rs all b = b
asked_begins (woke q) rs all b = b
asked_begins nothing rs all b = b

-- the items of a tid; the first tid is 1
abbrev pub book_of : List (List Item) → ℕ → List Item
book_of all tid = get_or ([] ∷ all) tid []

deed_booked : (c : Cluster) (d : Deed) (rs all : List (List Item)) → length rs ≡ c.last_tid → Begins (asked_after d rs) all → HasItems (book_of all) c d
deed_booked c (asked is) rs all n (more, e) =
    ap (λ t. get_or ([] ∷ all) t []) (add-one c.last_tid) ∙ ap (λ xs. get_or xs c.last_tid []) e
    ∙ get_or_append_left (rs ++ is ∷ []) more [] c.last_tid (omega (arith, n, length_push rs is)) ∙ get_or_push rs is [] c.last_tid n
deed_booked c (wrote q ws) rs all n b = tt
deed_booked c (woke q) rs all n b = tt
deed_booked c nothing rs all n b = tt

module _ (sizes : ℕ → ℕ) (count : ℕ) (made : List Stores) (all : List (List Item)) (within : (n : ℕ) → Within sizes count (book_of all n)) where
  pub booked : (es : List Event) → Begins (requests made es) all → Booked (book_of all) sizes count within made es
  unfolding requests
  booked [] b = tt
  booked (e ∷ es) b = (
    deed_booked (following made es) (deed_after made es e.call) (requests made es) all (requests_count made es) b,
    booked es (asked_begins (deed_after made es e.call) (requests made es) all b),
  )

  -- the book of the whole history
  pub booked_whole : (es : List Event) → all ≡ requests made es → Booked (book_of all) sizes count within made es
  booked_whole es e = booked es ([], e ∙ sym (append-nil (requests made es)))
