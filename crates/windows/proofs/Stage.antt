-- One stage: an event more among the cells that have ended, and stages one after the other.
-- Assumes nothing.
use Rattle.std.proofs.Common.{◌≡◌, ℕ, zero, suc, ◌+◌, ◌<◌, ◌≤◌, Bool, true, false, cond, not, ◌||◌, eqb, leb, List, [], ◌∷◌, map, length, get_or, take, drop, sym, refl, ap, ◌∙◌, append-nil, arith}
use Rattle.std.proofs.lemmas.List.{map_more}
use Rattle.std.proofs.lemmas.Bool.{leb-true, leb-false, and_parts}
use Rattle.std.proofs.lemmas.Bool.Decides.{nat_tests}
use Rattle.streams.specs.Meaning as spec
use Rattle.streams.specs.Meaning.{word, end_of, into, cells, ended, through_stages, through}
use Rattle.streams.specs.Order.{Sorted}
use Rattle.streams.specs.Calls.{every, stage_ok}
use Rattle.streams.specs.Laws.{step}
use Rattle.streams.proofs.Sorted.{sorted}
use Rattle.streams.proofs.Logs.{cells_mid, ended_into}
use Rattle.streams.proofs.Opens.{ended_under}
use Rattle.plans.specs.declared.entries.Event.{Event}
use Rattle.plans.specs.declared.stages.Stage.{Stage}
use Rattle.plans.specs.Model.{as_event, stage_of}
use Rattle.windows.specs.Results.{absorbed}
use Rattle.windows.proofs.Loops.{left_at, left_none}

-- what has ended, of one event more
ended_more : (st : spec.Stage) (m : ℕ) (e : spec.Event) (cs : List spec.Cell) → Sorted cs → ended m (step st e cs) ≡ absorbed st m e (ended m cs)
ended_more st m e cs s = go (eqb (word st.keep' e) 0) (leb n m) refl
  where
    n : ℕ
    n = end_of st.size e.time

    k : ℕ
    k = word st.key e

    v : ℕ
    v = word st.value e

    go : (b d : Bool) → leb n m ≡ d → ended m (cond b cs (into st.sum n k v cs)) ≡ cond (b || not d) (ended m cs) (into st.sum n k v (ended m cs))
    go true d t = refl
    go false true t = ended_under m st.sum n k v cs (leb-true n m t) s
    go false false t = ended_into m st.sum n k v cs (leb-false n m t)

module _ (st : spec.Stage) (m : ℕ) (es : List Event) (i : ℕ) where
  pub cells_more : (d : Event) (cs ds : List spec.Cell) → i < length es → cs ≡ ended m (cells st (map as_event (take i es))) → ds ≡ absorbed st m (as_event (get_or es i d)) cs → ds ≡ ended m (cells st (map as_event (take (i + 1) es)))
  cells_more d cs ds lt is e =
      rw (e, is, map_more as_event es i d lt, cells_mid st (map as_event (take i es)) [] (as_event (get_or es i d)), append-nil (map as_event (take i es)))
      (sym (ended_more st m (as_event (get_or es i d)) (cells st (map as_event (take i es))) (sorted st (map as_event (take i es)))))

-- a stage of a plan within its limits
size_of : (s : spec.Stage) → stage_ok s ≡ true → 0 < s.size
size_of s h = grind (arith, nat_tests)

every_at : (xs : List Stage) (i : ℕ) (x : Stage) → every stage_ok (map stage_of xs) ≡ true → i < length xs → x ≡ get_or xs i x → stage_ok (stage_of x) ≡ true
unfolding every
every_at [] i x h lt is = absurd (omega arith)
every_at (y ∷ ys) zero x h lt is = rw is (and_parts (stage_ok (stage_of y)) (every stage_ok (map stage_of ys)) h).0
every_at (y ∷ ys) (suc i) x h lt is = every_at ys i x (and_parts (stage_ok (stage_of y)) (every stage_ok (map stage_of ys)) h).1 (omega arith) is

pub sized_at : (xs : List Stage) (i : ℕ) (x : Stage) → every stage_ok (map stage_of xs) ≡ true → i < length xs → x ≡ get_or xs i x → 0 < x.size.0
sized_at xs i x h lt is = size_of (stage_of x) (every_at xs i x h lt is)

-- one stage after the other
module _ (xs : List Stage) (i m : ℕ) (es : List spec.Event) {all : List spec.Event} (inv : through_stages (map stage_of (drop i xs)) m es ≡ all) where
  pub stage_more : (x : Stage) (fs : List spec.Event) → i < length xs → x ≡ get_or xs i x → fs ≡ through (stage_of x) m es → through_stages (map stage_of (drop (i + 1) xs)) m fs ≡ all
  unfolding through_stages
  stage_more x fs lt is e = rw e (ap (λ (sts : List spec.Stage). through_stages sts m es) (sym (left_at stage_of xs i x lt is)) ∙ inv)

  pub stage_all : length xs ≤ i → es ≡ all
  unfolding through_stages
  stage_all h = sym (ap (λ (sts : List spec.Stage). through_stages sts m es) (left_none stage_of xs i h)) ∙ inv
