-- One line of a write: nothing yet, held where it has a place, in the place of another line, or sent back at once.
use Rattle.std.proofs.Common.{◌≡◌, ℕ, ◌+◌, ◌/◌, ◌%◌, ◌<◌, ◌≤◌, true, false, cond, ◌||◌, eqb, ◌⊎◌, List, [], ◌∷◌, length, get_or, None, Option, unwrap_or, sym, refl, ap, ◌∙◌, subst, ⊎_elim, arith}
use Rattle.std.specs.List.{remove}
use Rattle.std.proofs.Math.Bool.{or-false}
use Rattle.std.proofs.lemmas.List.{length-append, length-map}
use Rattle.std.proofs.lemmas.List.Edits.{length-remove}
use Rattle.std.proofs.lemmas.Bool.{cases_eq, cases_Bool, both_ways, lt-ltb, cond-true, cond-false, eq-eqb, ne_eqb, or_right}
use Rattle.model.specs.Memory.{splice}
use Rattle.model.proofs.Splices.{length_splice, get_or_splice_below, get_or_splice_inside, get_or_splice_above}
use Rattle.line_buffer.specs.declared.line.Line.{Line}
use Rattle.line_buffer.specs.Lines.{numbers_with, line_bytes, most_lines, line_number, numbers, member, apart, held_at, laid, written, takes, Wrote}
use Rattle.line_buffer.proofs.Distinct.{get_or_member, member_none, member_one, member_push, member_removed_other, member_removed_less}
use Rattle.line_buffer.proofs.Held.{held_at_none, held_at_removed, numbers_removed}
use Rattle.line_buffer.proofs.Laid.{laid_from_is, laid_nothing, laid_same}
use Rattle.line_buffer.proofs.Written.{cases_named, written_inside, written_below, written_above, written_other_line, written_nothing, written_same, missing_none, missing_one}

-- a choice by membership, at a member and at any other
module _ {X : Type 0} (n : ℕ) (gone : List ℕ) (x y : X) where
  pub if_member : member n gone ≡ true → cond (member n gone) x y ≡ x
  if_member t = cond-true _ _ _ t

  pub unless_member : member n gone ≡ false → cond (member n gone) x y ≡ y
  unless_member t = cond-false _ _ _ t

one_true : (n m : ℕ) → n ≡ m → member n (m ∷ []) ≡ true
one_true n m e = member_one n m ∙ eq-eqb n m e

one_false : (n m : ℕ) → (n ≡ m → ⊥) → member n (m ∷ []) ≡ false
one_false n m e = member_one n m ∙ ne_eqb n m e

-- nothing is written yet
pub wrote_none : (ls : List Line) (xs : List ℕ) (a last : ℕ) → Wrote ls xs a [] 0 last ls xs
wrote_none ls xs a last = (
  record {
    gone = [];
    held = λ k. sym (unless_member (k / line_bytes) [] _ _ (member_none _) ∙ written_nothing (held_at ls) a k);
    below = laid_nothing 0 _ xs (λ k. unless_member (k / line_bytes) [] _ _ (member_none _));
    count = ap (λ v. length ls + v) (sym (missing_none (numbers ls) (a / line_bytes)));
    full = λ h. absurd (omega arith);
  },
  record { stays = λ j _ _. refl; away = λ j _ _. member_none j },
)

module _ (ls : List Line) (a : ℕ) where
  -- the number of lines before and after
  counted : (ls' : List Line) → numbers ls' ≡ numbers_with (numbers ls) (a / line_bytes) → length ls' ≡ length ls + cond (member (a / line_bytes) (numbers ls)) 0 1
  counted ls' e =
      let n = length-map ls line_number in
      let n' = length-map ls' line_number in
      ⊎_elim
      (λ (t : member (a / line_bytes) (numbers ls) ≡ true).
      let z = ap length (e ∙ cond-true _ _ _ t) in
      sym n' ∙ z ∙ n ∙ sym (ap (λ v. length ls + v) (cond-true _ _ _ t) ∙ omega arith))
      (λ (t : member (a / line_bytes) (numbers ls) ≡ false).
      let z = ap length (e ∙ cond-false _ _ _ t) ∙ length-append (numbers ls) (a / line_bytes ∷ []) in
      sym n' ∙ z ∙ ap (λ v. v + 1) n ∙ sym (ap (λ v. length ls + v) (cond-false _ _ _ t)))
      (cases_Bool (member (a / line_bytes) (numbers ls)))

  others : (ls' : List Line) → numbers ls' ≡ numbers_with (numbers ls) (a / line_bytes) → (j : ℕ) → (j ≡ a / line_bytes → ⊥) → member j (numbers ls') ≡ member j (numbers ls)
  others ls' e j ne =
      ⊎_elim
      (λ (t : member (a / line_bytes) (numbers ls) ≡ true). ap (member j) (e ∙ cond-true _ _ _ t))
      (λ (t : member (a / line_bytes) (numbers ls) ≡ false).
      ap (member j) (e ∙ cond-false _ _ _ t) ∙ member_push j (a / line_bytes) (numbers ls) ∙ ap (λ b. member j (numbers ls) || b) (ne_eqb _ _ ne) ∙ or-false (member j (numbers ls)))
      (cases_Bool (member (a / line_bytes) (numbers ls)))

module _ (ls : List Line) (xs : List ℕ) (a : ℕ) (ys : List ℕ) (fit : a % line_bytes + length ys ≤ line_bytes) where
  -- the line has a place
  pub put_held : (ls' : List Line) → ((k : ℕ) → held_at ls' k ≡ written (held_at ls) a ys k) → numbers ls' ≡ numbers_with (numbers ls) (a / line_bytes) → (last : ℕ) → Wrote ls xs a ys 1 last ls' xs
  put_held ls' h e last = (
    record {
      gone = [];
      held = λ k. h k ∙ sym (unless_member (k / line_bytes) [] _ _ (member_none _));
      below = laid_nothing 0 _ xs (λ k. unless_member (k / line_bytes) [] _ _ (member_none _));
      count = omega (arith, counted ls a ls' e, missing_one (numbers ls) (a / line_bytes));
      full = λ l. absurd (omega arith);
    },
    record { stays = λ j l _. others ls a ls' e j (λ z. omega arith); away = λ j _ _. member_none j },
  )

  -- the line goes back at once, since all places are taken by lines that are still to be written
  pub put_through : (xs' : List ℕ) → member (a / line_bytes) (numbers ls) ≡ false → a + length ys ≤ length xs → length ls ≡ most_lines → xs' ≡ splice xs a ys → (last : ℕ) → Wrote ls xs a ys 1 last ls xs'
  put_through xs' o room eight e last =
      let un : (k : ℕ) → k / line_bytes ≡ a / line_bytes → held_at ls k ≡ None =
      λ k z. held_at_none ls k (ap (λ m. member m (numbers ls)) z ∙ o) in (
        record {
          gone = a / line_bytes ∷ [];
          held = λ k. ⊎_elim
              (λ (z : k / line_bytes ≡ a / line_bytes). un k z ∙ sym (if_member (k / line_bytes) _ _ _ (one_true _ _ z)))
              (λ (z : k / line_bytes ≡ a / line_bytes → ⊥).
              sym (unless_member (k / line_bytes) _ _ _ (one_false _ _ z) ∙ written_other_line (held_at ls) a ys k fit z))
              (cases_eq (k / line_bytes) (a / line_bytes));
          below = e ∙ laid_from_is _ xs (splice xs a ys) (length_splice xs a ys room)
              (λ k l. ⊎_elim
              (λ (z : k / line_bytes ≡ a / line_bytes).
              let w = if_member {X = Option ℕ} (k / line_bytes) (a / line_bytes ∷ []) (written (held_at ls) a ys k) None (one_true _ _ z) in
              cases_named a (length ys) k
              (λ lt. get_or_splice_below xs a ys room k 0 lt ∙ ap (λ v. unwrap_or v (get_or xs k 0)) (sym (w ∙ written_below (held_at ls) a ys k lt ∙ un k z)))
              (λ le lt. get_or_splice_inside xs a ys room k 0 le lt ∙ ap (λ v. unwrap_or v (get_or xs k 0)) (sym (w ∙ written_inside (held_at ls) a ys k le lt)))
              (λ le. get_or_splice_above xs a ys room k 0 le ∙ ap (λ v. unwrap_or v (get_or xs k 0)) (sym (w ∙ written_above (held_at ls) a ys k le ∙ un k z))))
              (λ (z : k / line_bytes ≡ a / line_bytes → ⊥).
              let w = unless_member {X = Option ℕ} (k / line_bytes) (a / line_bytes ∷ []) (written (held_at ls) a ys k) None (one_false _ _ z) in
              cases_named a (length ys) k
              (λ lt. get_or_splice_below xs a ys room k 0 lt ∙ ap (λ v. unwrap_or v (get_or xs k 0)) (sym w))
              (λ le lt. absurd (z (omega arith)))
              (λ le. get_or_splice_above xs a ys room k 0 le ∙ ap (λ v. unwrap_or v (get_or xs k 0)) (sym w)))
              (cases_eq (k / line_bytes) (a / line_bytes)));
          count = omega (arith, missing_one (numbers ls) (a / line_bytes), cond-false {A = ℕ} (member (a / line_bytes) (numbers ls)) 0 1 o);
          full = λ _. eight;
        },
        record { stays = λ j _ _. refl; away = λ j l _. one_false j (a / line_bytes) (λ z. omega arith) },
      )

  -- another line goes back and the line takes its place
  module _ (i : ℕ) (distinct : apart (numbers ls) ≡ true) (lt : i < length ls) (o : member (a / line_bytes) (numbers ls) ≡ false) (eight : length ls ≡ most_lines) where
    abbrev v : ℕ
    v = get_or (numbers ls) i 0

    -- the line that goes back is another one than the line that is written
    apart_line : v ≡ a / line_bytes → ⊥
    apart_line z = both_ways (member (a / line_bytes) (numbers ls)) o (subst (λ m. member m (numbers ls) ≡ true) z (get_or_member (numbers ls) i (omega (arith, length-map ls line_number))))

    still : member (a / line_bytes) (numbers (remove ls i)) ≡ false
    still = ap (member (a / line_bytes)) (numbers_removed ls i) ∙ member_removed_less (numbers ls) i (a / line_bytes) o

    pub room_made : takes (numbers (remove ls i)) (a / line_bytes) ≡ true
    room_made =
        or_right (member (a / line_bytes) (numbers (remove ls i))) _
        (lt-ltb (length (numbers (remove ls i))) most_lines (omega (arith, length-map (remove ls i) line_number, length-remove ls i lt)))

    counted_removed : (ls' : List Line) → numbers ls' ≡ numbers_with (numbers (remove ls i)) (a / line_bytes) → length ls' ≡ length (remove ls i) + cond (member (a / line_bytes) (numbers (remove ls i))) 0 1
    counted_removed ls' e = counted (remove ls i) a ls' e

    pub put_over : (last : ℕ) → ((v < a / line_bytes) ⊎ (last < v)) → (xs' : List ℕ) (ls' : List Line) → xs' ≡ laid 0 (λ k. cond (eqb v (k / line_bytes)) (held_at ls k) None) xs → ((k : ℕ) → held_at ls' k ≡ written (held_at (remove ls i)) a ys k) → numbers ls' ≡ numbers_with (numbers (remove ls i)) (a / line_bytes) → Wrote ls xs a ys 1 last ls' xs'
    put_over last w xs' ls' b h e =
        let off : (j : ℕ) → a / line_bytes + 1 ≤ j → j ≤ last → j ≡ v → ⊥ =
        λ j l u z. ⊎_elim (λ (h : v < a / line_bytes). omega arith) (λ (h : last < v). omega arith) w in
        let n : length ls' ≡ length ls =
        omega (arith, counted_removed ls' e, cond-false {A = ℕ} (member (a / line_bytes) (numbers (remove ls i))) 0 1 still, length-remove ls i lt) in (
          record {
            gone = v ∷ [];
            held = λ k. ⊎_elim
                (λ (z : k / line_bytes ≡ v).
                h k ∙ written_other_line (held_at (remove ls i)) a ys k fit (λ w. apart_line (sym z ∙ w)) ∙ held_at_removed ls i k distinct lt
                ∙ cond-true _ _ _ (eq-eqb _ _ (sym z)) ∙ sym (if_member (k / line_bytes) _ _ _ (one_true _ _ z)))
                (λ (z : k / line_bytes ≡ v → ⊥).
                h k ∙ written_same (held_at (remove ls i)) (held_at ls) a ys k (held_at_removed ls i k distinct lt ∙ cond-false _ _ _ (ne_eqb _ _ (λ w. z (sym w))))
                ∙ sym (unless_member (k / line_bytes) _ _ _ (one_false _ _ z)))
                (cases_eq (k / line_bytes) v);
            below = b ∙ laid_same 0 _ _ xs (λ k. ⊎_elim
                (λ (z : k / line_bytes ≡ v).
                cond-true _ _ _ (eq-eqb _ _ (sym z)) ∙ sym (if_member (k / line_bytes) _ _ _ (one_true _ _ z) ∙ written_other_line (held_at ls) a ys k fit (λ w. apart_line (sym z ∙ w))))
                (λ (z : k / line_bytes ≡ v → ⊥).
                cond-false _ _ _ (ne_eqb _ _ (λ w. z (sym w))) ∙ sym (unless_member (k / line_bytes) _ _ _ (one_false _ _ z)))
                (cases_eq (k / line_bytes) v));
            count = omega (arith, n, missing_one (numbers ls) (a / line_bytes), cond-false {A = ℕ} (member (a / line_bytes) (numbers ls)) 0 1 o);
            full = λ _. n ∙ eight;
          },
          record {
            stays = λ j l u.
                others (remove ls i) a ls' e j (λ z. omega arith) ∙ ap (member j) (numbers_removed ls i)
                ∙ member_removed_other (numbers ls) i j (omega (arith, length-map ls line_number)) (off j l u);
            away = λ j l u. one_false j v (off j l u);
          },
        )
