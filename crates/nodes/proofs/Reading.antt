-- The items of a list read one after the other.
use Rattle.std.proofs.Common.{◌≡◌, ℕ, List, [], ◌∷◌, ◌++◌, sym, ap, ◌∙◌, append_assoc}
use Rattle.std.proofs.lemmas.List.{append-nil}
use Rattle.model.specs.Ranges.{read_item, read_items}
use Rattle.model.specs.Items.{Item}
use Rattle.nodes.proofs.Turns.{joined_none, joined_more}

pub reading_more : (cs : List ℕ) (i : Item) (xs ys : List Item) (before after all : List ℕ) → xs ≡ i ∷ ys
    → before ++ read_items cs xs ≡ all → after ≡ before ++ read_item cs i → after ++ read_items cs ys ≡ all
reading_more cs i xs ys before after all e h a =
    ap (λ l. l ++ read_items cs ys) a
    ∙ append_assoc before (read_item cs i) (read_items cs ys)
    ∙ ap (λ l. before ++ l) (sym (joined_more (read_item cs) i ys) ∙ sym (ap (read_items cs) e))
    ∙ h

pub reading_end : (cs : List ℕ) (xs : List Item) (before all : List ℕ) → xs ≡ [] → before ++ read_items cs xs ≡ all → before ≡ all
reading_end cs xs before all e h =
    sym (append-nil before) ∙ ap (λ l. before ++ l) (sym (joined_none (read_item cs)) ∙ sym (ap (read_items cs) e)) ∙ h
