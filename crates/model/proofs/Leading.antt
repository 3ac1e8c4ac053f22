-- What is shown after a history is the plain cluster, and only bytes written since the last flush or restart are volatile:
-- so such a history is faithful.
use Rattle.std.proofs.Common.{◌≡◌, ℕ, Bool, true, false, cond, eqb, List, [], ◌∷◌, refl, ap, ◌∙◌, subst}
use Rattle.std.proofs.lemmas.Bool.{both_ways}
use Rattle.model.specs.Ranges.{covers}
use Rattle.model.specs.Answers.{Answer}
use Rattle.model.specs.Writes.{Stores, Write, add_entry, force, note, put, flush_memory, flush_journal, point, drop_oldest}
use Rattle.model.specs.Node.{Left}
use Rattle.model.specs.Cluster.{Cluster}
use Rattle.model.specs.Calls.{Call, step}
use Rattle.model.specs.Deeds.{Deed, asked, wrote, woke, nothing, deed, touched, touched_by, touched_by_all}
use Rattle.model.specs.Laws.{EveryHistoryIsLawful}
use Rattle.model.specs.Theorem.{Performs, Continues, Lawful}
use Rattle.model.specs.History.{Event, History, Faithful, Fed, Answered, following, written_since, LeftBy, Shown, LeadsTo}

-- ## More bytes written before, more after

touched_by_more : (w : Write) (k : ℕ) (a b : Bool) → (a ≡ true → b ≡ true) → touched_by w k a ≡ true → touched_by w k b ≡ true
touched_by_more (add_entry tid ps ws) k a b h t = h t
touched_by_more (force tid) k a b h t = h t
touched_by_more (note tid c) k a b h t = h t
touched_by_more (put i) k a b h t = go (covers i k) t
  where
    go : (c : Bool) → cond c true a ≡ true → cond c true b ≡ true
    go true e = refl
    go false e = h e
touched_by_more flush_memory k a b h t = t
touched_by_more flush_journal k a b h t = h t
touched_by_more (point n) k a b h t = h t
touched_by_more drop_oldest k a b h t = h t

pub touched_by_all_more : (ws : List Write) (k : ℕ) (a b : Bool) → (a ≡ true → b ≡ true) → touched_by_all ws k a ≡ true → touched_by_all ws k b ≡ true
unfolding touched_by_all
touched_by_all_more [] k a b h t = h t
touched_by_all_more (w ∷ ws) k a b h t =
    touched_by_all_more ws k (touched_by w k a) (touched_by w k b) (touched_by_more w k a b h) t

touched_more : (d : Deed) (q k : ℕ) (a b : Bool) → (a ≡ true → b ≡ true) → touched d q k a ≡ true → touched d q k b ≡ true
touched_more (asked is) q k a b h t = h t
touched_more (wrote p ws) q k a b h t = go (eqb p q) t
  where
    go : (c : Bool) → cond c (touched_by_all ws k a) a ≡ true → cond c (touched_by_all ws k b) b ≡ true
    go true e = touched_by_all_more ws k a b h e
    go false e = h e
touched_more (woke p) q k a b h t = go (eqb p q) t
  where
    go : (c : Bool) → cond c false a ≡ true → cond c false b ≡ true
    go true e = e
    go false e = h e
touched_more nothing q k a b h t = h t

-- fewer bytes that may differ, less that may be left
left_fewer : (c : Cluster) (s t : ℕ → ℕ → Bool) → ((q k : ℕ) → s q k ≡ true → t q k ≡ true) → (d : Deed) (l : Left) → LeftBy c s d l → LeftBy c t d l
left_fewer c s t h (asked is) l p = tt
left_fewer c s t h (wrote q ws) l p = tt
left_fewer c s t h (woke q) l p =
    record { size = p.size; kept = λ k e. p.kept k (go k e (s q k) refl); outcomes = p.outcomes }
  where
    go : (k : ℕ) → t q k ≡ false → (b : Bool) → s q k ≡ b → b ≡ false
    go k e true f = absurd (both_ways (t q k) e (h q k f))
    go k e false f = refl
left_fewer c s t h nothing l p = tt

-- ## Histories

pub record Followed (made : List Stores) (es : List Event) (t : Shown) : Type 0 where
  pub same : t.cluster ≡ following made es
  pub within : (q k : ℕ) → t.volatile q k ≡ true → written_since made es q k ≡ true
  pub fed : Fed made es
  pub answered : Answered made es

pub followed : (made : List Stores) (es : List Event) (t : Shown) → LeadsTo made es t → Followed made es t
unfolding following written_since
followed made [] t (same, none) = record { same = same; within = λ q k e. absurd (both_ways (t.volatile q k) (none q k) e); fed = tt; answered = tt }
followed made (e ∷ es) t (s, (before, now)) =
    let f = followed made es s before in
    let c = following made es in
    record {
      same = ap (λ r. r.1) now.stepping ∙ ap (λ b. (step b e.call e.left).1) f.same;
      within = λ q k v.
          touched_more (deed c e.call) q k (s.volatile q k) (written_since made es q k) (f.within q k)
          (subst (λ b. touched (deed b e.call) q k (s.volatile q k) ≡ true) f.same (now.spared q k v));
      fed = (
        left_fewer c s.volatile (written_since made es) f.within (deed c e.call) e.left
            (subst (λ b. LeftBy b s.volatile (deed b e.call) e.left) f.same now.left),
        f.fed,
      );
      answered = (ap (λ r. r.0) now.stepping ∙ ap (λ b. (step b e.call e.left).0) f.same, f.answered);
    }

pub leads_faithful : (h : History) (t : Shown) → LeadsTo h.beginning h.events t → Faithful h
leads_faithful h t l = let f = followed h.beginning h.events t l in record { fed = f.fed; answered = f.answered }

-- ## What a public call promises

pub continues : (s : Shown) (call : Call) (answer : Answer) (t : Shown) → Performs s call answer t → Continues s call answer t
continues s call answer t now h before = (s, (before, now))

-- from the laws of histories, those of whatever is shown
pub lawful_shown : EveryHistoryIsLawful → (t : Shown) → Lawful t
lawful_shown every t h l =
    let f = followed h.beginning h.events t l in
    let faithful = leads_faithful h t l in
    record { same = f.same; faithful = faithful; laws = every h faithful }
