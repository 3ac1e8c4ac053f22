-- A whole write: one line after the other, what shows and what stays durable after it, its pieces, beginning and end.
use Rattle.std.proofs.Common.{◌≡◌, ℕ, ◌+◌, ◌-◌, ◌*◌, ◌/◌, ◌%◌, ◌<◌, ◌≤◌, min, Bool, true, false, cond, not, ◌||◌, List, [], ◌++◌, length, get_or, take, drop, is_some, None, unwrap_or, sym, refl, ap, ◌∙◌, subst, ⊎_elim, arith}
use Rattle.std.proofs.lemmas.List.{length-append, length-map, length-take-le, length-drop, take-take, take-append-drop, take_all, nil_from_length, ext_get_or}
use Rattle.std.proofs.lemmas.Slice.{between_is}
use Rattle.std.proofs.lemmas.Bool.{cases_lt, cases_Bool, both_ways, lt-ltb, cond-false, ne_eqb, or_from, or_left, or_right, not-true, not_from_false, and_parts, and_from}
use Rattle.model.specs.Memory.{splice, Kept}
use Rattle.model.proofs.Splices.{length_splice, get_or_splice_below, get_or_splice_inside, get_or_splice_above}
use Rattle.line_buffer.specs.declared.line.Line.{Line}
use Rattle.line_buffer.specs.Lines.{line_bytes, most_lines, line_number, numbers, member, held_at, laid, written, missing, touched, takes, safe, KeptBut, WroteBack, Ahead, Wrote}
use Rattle.line_buffer.proofs.Distinct.{member_append}
use Rattle.line_buffer.proofs.Laid.{cond_none, none_of, length_laid, get_or_laid_from, laid_laid}
use Rattle.line_buffer.proofs.Written.{cases_named, written_inside, written_below, written_above, written_other_line, written_none, written_written, written_same, missing_more, missing_one}
use Rattle.line_buffer.proofs.Put.{if_member, unless_member, wrote_none}

-- one line more
module _ (ls : List Line) (xs : List ℕ) (a : ℕ) (ys : List ℕ) (m : ℕ) (ls₁ : List Line) (xs₁ : List ℕ) (last : ℕ) (before : Wrote ls xs a ys m last ls₁ xs₁) (here : a / line_bytes + m ≤ last) (b : ℕ) (zs : List ℕ) (ls₂ : List Line) (xs₂ : List ℕ) (after : Wrote ls₁ xs₁ b zs 1 last ls₂ xs₂) (at : b ≡ a + length ys) (line : b / line_bytes ≡ a / line_bytes + m) (fit : b % line_bytes + length zs ≤ line_bytes) (few : length ls₂ ≤ most_lines) where
  abbrev w : WroteBack ls xs a ys m ls₁ xs₁
  w = before.0

  abbrev ah : Ahead ls before.0.gone (a / line_bytes + m) last ls₁
  ah = before.1

  abbrev next : WroteBack ls₁ xs₁ b zs 1 ls₂ xs₂
  next = after.0

  abbrev ah₂ : Ahead ls₁ after.0.gone (b / line_bytes + 1) last ls₂
  ah₂ = after.1

  -- what the second piece finds held, and what it leaves
  gone_not_here : member (b / line_bytes) w.gone ≡ false
  gone_not_here = ah.away (b / line_bytes) (omega arith) (omega arith)

  first_then : (k : ℕ) → member (k / line_bytes) w.gone ≡ false → written (held_at ls₁) b zs k ≡ written (held_at ls) a (ys ++ zs) k
  first_then k o =
      written_same (held_at ls₁) (written (held_at ls) a ys) b zs k (w.held k ∙ unless_member (k / line_bytes) _ _ _ o)
      ∙ ap (λ p. written (written (held_at ls) a ys) p zs k) at ∙ written_written (held_at ls) a ys zs k

  -- a line that went back before is not written again
  gone_before : (k : ℕ) → member (k / line_bytes) w.gone ≡ true → written (held_at ls₁) b zs k ≡ None
  gone_before k t =
      written_other_line (held_at ls₁) b zs k fit (λ z. both_ways _ gone_not_here (subst (λ n. member n w.gone ≡ true) z t))
      ∙ w.held k ∙ if_member (k / line_bytes) _ _ _ t

  went_before : (k : ℕ) → member (k / line_bytes) w.gone ≡ true → written (held_at ls) a ys k ≡ written (held_at ls) a (ys ++ zs) k
  went_before k t =
      sym (written_other_line (written (held_at ls) a ys) b zs k fit (λ z. both_ways _ gone_not_here (subst (λ n. member n w.gone ≡ true) z t)))
      ∙ ap (λ p. written (written (held_at ls) a ys) p zs k) at ∙ written_written (held_at ls) a ys zs k

  in_both : (n : ℕ) → member n (w.gone ++ next.gone) ≡ (member n w.gone || member n next.gone)
  in_both n = member_append n w.gone next.gone

  pub wrote_more : Wrote ls xs a (ys ++ zs) (m + 1) last ls₂ xs₂
  wrote_more =
      let same : member (b / line_bytes) (numbers ls₁) ≡ member (a / line_bytes + m) (numbers ls) =
      ap (λ n. member n (numbers ls₁)) line ∙ ah.stays (a / line_bytes + m) (omega arith) here in
      let c₁ = w.count in
      let c₂ = next.count ∙ ap (λ v. length ls₁ + v) (missing_one (numbers ls₁) (b / line_bytes) ∙ ap (λ t. cond {A = ℕ} t 0 1) same) in
      let c₃ = missing_more (numbers ls) (a / line_bytes) m in
      let n = length-append w.gone next.gone in (
        record {
          gone = w.gone ++ next.gone;
          held = λ k.
              next.held k
              ∙ ⊎_elim
              (λ (t : member (k / line_bytes) w.gone ≡ true).
              ap (λ v. cond (member (k / line_bytes) next.gone) None v) (gone_before k t)
              ∙ cond_none (member (k / line_bytes) next.gone)
              ∙ sym (if_member (k / line_bytes) _ _ _ (in_both (k / line_bytes) ∙ or_left _ _ t)))
              (λ (t : member (k / line_bytes) w.gone ≡ false).
              ap (λ v. cond (member (k / line_bytes) next.gone) None v) (first_then k t)
              ∙ ap (λ q. cond q None (written (held_at ls) a (ys ++ zs) k)) (sym (in_both (k / line_bytes) ∙ ap (λ q. q || member (k / line_bytes) next.gone) t)))
              (cases_Bool (member (k / line_bytes) w.gone));
          below =
              next.below ∙ ap (laid 0 _) w.below
              ∙ laid_laid 0 _ _ _ xs (λ k v. ⊎_elim
              (λ (t : member (k / line_bytes) w.gone ≡ true).
              ap (λ u. unwrap_or u (unwrap_or (cond (member (k / line_bytes) w.gone) (written (held_at ls) a ys k) None) v))
              (ap (λ u. cond (member (k / line_bytes) next.gone) u None) (gone_before k t) ∙ cond_none (member (k / line_bytes) next.gone))
              ∙ ap (λ u. unwrap_or u v) (if_member (k / line_bytes) _ _ _ t ∙ went_before k t ∙ sym (if_member (k / line_bytes) _ _ _ (in_both (k / line_bytes) ∙ or_left _ _ t))))
              (λ (t : member (k / line_bytes) w.gone ≡ false).
              ap (λ u. unwrap_or (cond (member (k / line_bytes) next.gone) (written (held_at ls₁) b zs k) None) (unwrap_or u v)) (unless_member (k / line_bytes) _ _ _ t)
              ∙ ap (λ u. unwrap_or u v)
              (ap (λ u. cond (member (k / line_bytes) next.gone) u None) (first_then k t)
              ∙ ap (λ q. cond q (written (held_at ls) a (ys ++ zs) k) None) (sym (in_both (k / line_bytes) ∙ ap (λ q. q || member (k / line_bytes) next.gone) t))))
              (cases_Bool (member (k / line_bytes) w.gone)));
          count = omega (arith, c₁, c₂, c₃, n);
          full = λ l. ⊎_elim
              (λ (z : 0 < length next.gone). next.full z)
              (λ (z : length next.gone ≤ 0).
              let e : length ls₁ ≡ most_lines = w.full (omega (arith, n)) in
              let f : length ls₁ ≤ length ls₂ = omega (arith, next.count) in
              omega arith)
              (cases_lt 0 (length next.gone));
        },
        record {
          stays = λ j l u. ah₂.stays j (omega arith) u ∙ ah.stays j (omega arith) u;
          away = λ j l u. in_both j ∙ or_from _ _ (ah.away j (omega arith) u) (ah₂.away j (omega arith) u);
        },
      )

-- what is read after a write, and what stays durable
module _ (ls : List Line) (xs : List ℕ) (a : ℕ) (ys : List ℕ) (m : ℕ) (ls' : List Line) (xs' : List ℕ) (w : WroteBack ls xs a ys m ls' xs') where
  pub wrote_length : length xs' ≡ length xs
  wrote_length = ap length w.below ∙ length_laid 0 _ xs

  shows : (k : ℕ) → k < length xs → get_or (laid 0 (held_at ls') xs') k 0 ≡ unwrap_or (written (held_at ls) a ys k) (get_or xs k 0)
  shows k l =
      get_or_laid_from (held_at ls') xs' k (omega (arith, wrote_length))
      ∙ ap (λ u. unwrap_or (held_at ls' k) (get_or u k 0)) w.below
      ∙ ap (unwrap_or (held_at ls' k)) (get_or_laid_from _ xs k l)
      ∙ ⊎_elim
      (λ (t : member (k / line_bytes) w.gone ≡ true).
      ap (λ u. unwrap_or u (unwrap_or (cond (member (k / line_bytes) w.gone) (written (held_at ls) a ys k) None) (get_or xs k 0))) (w.held k ∙ if_member (k / line_bytes) _ _ _ t)
      ∙ ap (λ u. unwrap_or u (get_or xs k 0)) (if_member (k / line_bytes) _ _ _ t))
      (λ (t : member (k / line_bytes) w.gone ≡ false).
      ap (λ u. unwrap_or u (unwrap_or (cond (member (k / line_bytes) w.gone) (written (held_at ls) a ys k) None) (get_or xs k 0))) (w.held k ∙ unless_member (k / line_bytes) _ _ _ t)
      ∙ ap (λ u. unwrap_or (written (held_at ls) a ys k) (unwrap_or u (get_or xs k 0))) (unless_member (k / line_bytes) _ _ _ t))
      (cases_Bool (member (k / line_bytes) w.gone))

  pub wrote_bytes : a + length ys ≤ length xs → laid 0 (held_at ls') xs' ≡ splice (laid 0 (held_at ls) xs) a ys
  wrote_bytes room =
      let n = length_laid 0 (held_at ls) xs in
      let room' : a + length ys ≤ length (laid 0 (held_at ls) xs) = omega arith in
      let n' = length_laid 0 (held_at ls') xs' ∙ wrote_length in
      ext_get_or 0 (laid 0 (held_at ls') xs') (splice (laid 0 (held_at ls) xs) a ys) (n' ∙ sym (length_splice (laid 0 (held_at ls) xs) a ys room' ∙ n))
      (λ k l. let l' : k < length xs = omega arith in
      shows k l'
      ∙ cases_named a (length ys) k
      (λ lt. ap (λ u. unwrap_or u (get_or xs k 0)) (written_below (held_at ls) a ys k lt) ∙ sym (get_or_splice_below (laid 0 (held_at ls) xs) a ys room' k 0 lt ∙ get_or_laid_from (held_at ls) xs k l'))
      (λ le lt. ap (λ u. unwrap_or u (get_or xs k 0)) (written_inside (held_at ls) a ys k le lt) ∙ sym (get_or_splice_inside (laid 0 (held_at ls) xs) a ys room' k 0 le lt))
      (λ le. ap (λ u. unwrap_or u (get_or xs k 0)) (written_above (held_at ls) a ys k le) ∙ sym (get_or_splice_above (laid 0 (held_at ls) xs) a ys room' k 0 le ∙ get_or_laid_from (held_at ls) xs k l')))

  pub unheld_stays : (k : ℕ) → written (held_at ls) a ys k ≡ None → held_at ls' k ≡ None
  unheld_stays k o =
      w.held k ∙ ap (λ v. cond (member (k / line_bytes) w.gone) None v) o ∙ cond_none _

  pub wrote_kept : (d d' : ℕ → Bool) → ((k : ℕ) → written (held_at ls) a ys k ≡ None → d k ≡ true → d' k ≡ true) → Kept (safe ls d) (safe ls' d') a (length ys)
  wrote_kept d d' h =
      let go : (k : ℕ) → written (held_at ls) a ys k ≡ held_at ls k → safe ls d k ≡ true → safe ls' d' k ≡ true =
      λ k e s.
      let p = and_parts (not (is_some (held_at ls k))) (d k) s in
      let o : written (held_at ls) a ys k ≡ None = e ∙ none_of (held_at ls k) (not-true _ p.0) in
      and_from _ _ (not_from_false _ (ap is_some (unheld_stays k o))) (h k o p.1) in
      record {
        below = λ k l. go k (written_below (held_at ls) a ys k l);
        above = λ k l. go k (written_above (held_at ls) a ys k l);
      }

-- the lines below q of a write are written, of those up to last; the memory m below keeps durable what is not written
pub record UpTo {B : Type 0} (ls : List Line) (xs : List ℕ) (d : ℕ → Bool) (m : B) (a : ℕ) (from : List ℕ) (last q : ℕ) (ls' : List Line) (xs' : List ℕ) (d' : ℕ → Bool) (m' : B) : Type 0 where
  pub wrote : Wrote ls xs a (take (q * line_bytes - a) from) (q - a / line_bytes) last ls' xs'
  pub lazy : length ls + missing (numbers ls) (a / line_bytes) (q - a / line_bytes) ≤ most_lines → m' ≡ m
  pub durable : KeptBut (written (held_at ls) a (take (q * line_bytes - a) from)) d d'

-- all of them are
pub record Whole {B : Type 0} (ls : List Line) (xs : List ℕ) (d : ℕ → Bool) (m : B) (a : ℕ) (from : List ℕ) (ls' : List Line) (xs' : List ℕ) (d' : ℕ → Bool) (m' : B) : Type 0 where
  pub bytes : laid 0 (held_at ls') xs' ≡ splice (laid 0 (held_at ls) xs) a from
  pub kept : Kept (safe ls d) (safe ls' d') a (length from)
  pub back : WroteBack ls xs a from (touched a (length from)) ls' xs'
  pub lazy : length ls + missing (numbers ls) (a / line_bytes) (touched a (length from)) ≤ most_lines → m' ≡ m

-- the pieces of a whole write: the part of `from` up to the line q, and the piece that lies in q
module _ (ls : List Line) (xs : List ℕ) (a : ℕ) (from : List ℕ) (q : ℕ) (ls₁ : List Line) (xs₁ : List ℕ) (last : ℕ) (first : a / line_bytes ≤ q) (up : q ≤ last) (more : last * line_bytes < a + length from) (b e : ℕ) (starts : b ≡ a + (q * line_bytes - a)) (ends : e ≡ min (a + length from) (q * line_bytes + line_bytes)) where
  abbrev done : List ℕ
  done = take (q * line_bytes - a) from

  abbrev piece : List ℕ
  piece = take (e - a - (b - a)) (drop (b - a) from)

  length_done : length done ≡ q * line_bytes - a
  length_done = length-take-le (q * line_bytes - a) from (omega arith)

  pub length_piece : length piece ≡ e - b
  length_piece = length-take-le (e - a - (b - a)) (drop (b - a) from) (omega (arith, length-drop (b - a) from)) ∙ omega arith

  pub piece_fits : b % line_bytes + length piece ≤ line_bytes
  piece_fits = omega (arith, length_piece)

  pub done_piece : done ++ piece ≡ take ((q + 1) * line_bytes - a) from
  done_piece =
      let i : b - a ≡ q * line_bytes - a = omega arith in
      let z : done ≡ take (b - a) (take (e - a) from) = ap (λ n. take n from) (sym i) ∙ sym (take-take (b - a) (e - a) from (omega arith)) in
      ap (λ ws. ws ++ piece) z ∙ ap (λ ws. take (b - a) (take (e - a) from) ++ ws) (between_is from (b - a) (e - a)) ∙ take-append-drop (b - a) (take (e - a) from)
      ∙ ⊎_elim
      (λ (l : length from < (q + 1) * line_bytes - a).
      take_all (e - a) from (omega arith) ∙ sym (take_all ((q + 1) * line_bytes - a) from (omega arith)))
      (λ (l : (q + 1) * line_bytes - a ≤ length from).
      let same : e - a ≡ (q + 1) * line_bytes - a = omega arith in ap (λ n. take n from) same)
      (cases_lt (length from) ((q + 1) * line_bytes - a))

  module _ (before : Wrote ls xs a done (q - a / line_bytes) last ls₁ xs₁) where
    wrote_next : (ls₂ : List Line) (xs₂ : List ℕ) → Wrote ls₁ xs₁ b piece 1 last ls₂ xs₂ → length ls₂ ≤ most_lines → Wrote ls xs a (take ((q + 1) * line_bytes - a) from) (q + 1 - a / line_bytes) last ls₂ xs₂
    wrote_next ls₂ xs₂ after few =
        let m : q - a / line_bytes + 1 ≡ q + 1 - a / line_bytes = omega arith in
        let w = wrote_more ls xs a done (q - a / line_bytes) ls₁ xs₁ last before (omega arith) b piece ls₂ xs₂ after (omega (arith, length_done)) (omega arith) piece_fits few in
        subst (λ n. Wrote ls xs a (take ((q + 1) * line_bytes - a) from) n last ls₂ xs₂) m
        (subst (λ ws. Wrote ls xs a ws (q - a / line_bytes + 1) last ls₂ xs₂) done_piece w)

    -- while no ninth line is wanted, the next one has a place
    place_next : length ls + missing (numbers ls) (a / line_bytes) (q + 1 - a / line_bytes) ≤ most_lines → (takes (numbers ls₁) (b / line_bytes) ≡ true) × (length ls + missing (numbers ls) (a / line_bytes) (q - a / line_bytes) ≤ most_lines)
    place_next l =
        let m : q + 1 - a / line_bytes ≡ q - a / line_bytes + 1 = omega arith in
        let s = ap (missing (numbers ls) (a / line_bytes)) m ∙ missing_more (numbers ls) (a / line_bytes) (q - a / line_bytes) in
        let here : b / line_bytes ≡ a / line_bytes + (q - a / line_bytes) = omega arith in
        let same : member (b / line_bytes) (numbers ls₁) ≡ member (a / line_bytes + (q - a / line_bytes)) (numbers ls) =
        ap (λ n. member n (numbers ls₁)) here ∙ before.1.stays (a / line_bytes + (q - a / line_bytes)) (omega arith) (omega arith) in
        let c = before.0.count in (
          ⊎_elim
              (λ (t : member (b / line_bytes) (numbers ls₁) ≡ true). or_left _ _ t)
              (λ (t : member (b / line_bytes) (numbers ls₁) ≡ false).
              let f : cond {A = ℕ} (member (a / line_bytes + (q - a / line_bytes)) (numbers ls)) 0 1 ≡ 1 = cond-false _ _ _ (sym same ∙ t) in
              or_right (member (b / line_bytes) (numbers ls₁)) _ (lt-ltb (length (numbers ls₁)) most_lines (omega (arith, s, c, f, length-map ls₁ line_number))))
              (cases_Bool (member (b / line_bytes) (numbers ls₁))),
          omega (arith, s),
        )

    -- a byte that is neither held nor named before the next piece
    unheld_next : (k : ℕ) → written (held_at ls) a (take ((q + 1) * line_bytes - a) from) k ≡ None → (written (held_at ls) a done k ≡ None) × (written (held_at ls₁) b piece k ≡ None)
    unheld_next k o =
        let at : b ≡ a + length done = omega (arith, length_done) in
        let w : written (written (held_at ls) a done) b piece k ≡ None =
        ap (λ p. written (written (held_at ls) a done) p piece k) at ∙ written_written (held_at ls) a done piece k
        ∙ ap (λ ws. written (held_at ls) a ws k) done_piece ∙ o in
        let n = (written_none (written (held_at ls) a done) b piece k w).1 in
        (n, written_same (held_at ls₁) (written (held_at ls) a done) b piece k (unheld_stays ls xs a done (q - a / line_bytes) ls₁ xs₁ before.0 k n ∙ sym n) ∙ w)

  pub up_to_next : {B : Type 0} (d d₁ d₂ : ℕ → Bool) (m m₁ m₂ : B) → UpTo ls xs d m a from last q ls₁ xs₁ d₁ m₁ → (ls₂ : List Line) (xs₂ : List ℕ) → Wrote ls₁ xs₁ b piece 1 last ls₂ xs₂ → (takes (numbers ls₁) (b / line_bytes) ≡ true → m₂ ≡ m₁) → KeptBut (written (held_at ls₁) b piece) d₁ d₂ → length ls₂ ≤ most_lines → UpTo ls xs d m a from last (q + 1) ls₂ xs₂ d₂ m₂
  up_to_next d d₁ d₂ m m₁ m₂ u ls₂ xs₂ back lazy durable few =
      record {
        wrote = wrote_next u.wrote ls₂ xs₂ back few;
        lazy = λ l. let p = place_next u.wrote l in lazy p.0 ∙ u.lazy p.1;
        durable = λ k o t. let p = unheld_next u.wrote k o in durable k p.1 (u.durable k p.0 t);
      }

-- the beginning and the end of a whole write
touched_some : (a n : ℕ) → 0 < n → touched a n ≡ (a + n - 1) / line_bytes + 1 - a / line_bytes
touched_some a n h = cond-false _ _ _ (ne_eqb n 0 (λ z. omega arith)) ∙ omega arith

wrote_start : (ls : List Line) (xs : List ℕ) (a : ℕ) (from : List ℕ) (last : ℕ) → Wrote ls xs a (take (a / line_bytes * line_bytes - a) from) (a / line_bytes - a / line_bytes) last ls xs
wrote_start ls xs a from last =
    let z : 0 ≡ a / line_bytes * line_bytes - a = omega arith in
    let m : 0 ≡ a / line_bytes - a / line_bytes = omega arith in
    subst (λ n. Wrote ls xs a (take n from) (a / line_bytes - a / line_bytes) last ls xs) z
    (subst (λ n. Wrote ls xs a [] n last ls xs) m (wrote_none ls xs a last))

module _ {B : Type 0} (ls : List Line) (xs : List ℕ) (d : ℕ → Bool) (m : B) (a : ℕ) (from : List ℕ) where
  whole : (ls' : List Line) (xs' : List ℕ) (d' : ℕ → Bool) (m' : B) → a + length from ≤ length xs → WroteBack ls xs a from (touched a (length from)) ls' xs' → (length ls + missing (numbers ls) (a / line_bytes) (touched a (length from)) ≤ most_lines → m' ≡ m) → KeptBut (written (held_at ls) a from) d d' → Whole ls xs d m a from ls' xs' d' m'
  whole ls' xs' d' m' room back lazy durable =
      record { bytes = wrote_bytes ls xs a from _ ls' xs' back room; kept = wrote_kept ls xs a from _ ls' xs' back d d' durable; back = back; lazy = lazy }

  pub whole_empty : a + length from ≤ length xs → length from ≡ 0 → Whole ls xs d m a from ls xs d m
  whole_empty room e =
      let back = subst (λ ws. WroteBack ls xs a ws (touched a (length ws)) ls xs) (sym (nil_from_length from e)) (wrote_none ls xs a 0).0 in
      whole ls xs d m room back (λ _. refl) (λ k _ t. t)

  pub up_to_start : (last : ℕ) → UpTo ls xs d m a from last (a / line_bytes) ls xs d m
  up_to_start last = record { wrote = wrote_start ls xs a from last; lazy = λ _. refl; durable = λ k _ t. t }

  pub up_to_all : (q : ℕ) (ls' : List Line) (xs' : List ℕ) (d' : ℕ → Bool) (m' : B) → a + length from ≤ length xs → 0 < length from → q ≡ (a + length from - 1) / line_bytes + 1 → UpTo ls xs d m a from ((a + length from - 1) / line_bytes) q ls' xs' d' m' → Whole ls xs d m a from ls' xs' d' m'
  up_to_all q ls' xs' d' m' room some end u =
      let all : take (q * line_bytes - a) from ≡ from = take_all (q * line_bytes - a) from (omega arith) in
      let n : q - a / line_bytes ≡ touched a (length from) = omega (arith, touched_some a (length from) some) in
      let back = subst (λ ws. WroteBack ls xs a ws (touched a (length from)) ls' xs') all (subst (λ w. WroteBack ls xs a (take (q * line_bytes - a) from) w ls' xs') n u.wrote.0) in
      whole ls' xs' d' m' room back
      (λ l. u.lazy (subst (λ w. length ls + missing (numbers ls) (a / line_bytes) w ≤ most_lines) (sym n) l))
      (λ k o. u.durable k (ap (λ ws. written (held_at ls) a ws k) all ∙ o))
