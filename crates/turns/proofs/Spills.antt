-- A spill: which segment it is, and that one with no page needs none.
-- Assumes nothing.
use Rattle.std.proofs.Common.{◌≡◌, inr, ℕ, zero, suc, ◌<◌, true, List, [], ◌∷◌, ◌++◌, ◌+◌, length, refl, sym, ap, ◌∙◌, arith, Option, Some, None, Ok, Err, Result}
use Rattle.std.specs.Option.{is_none}
use Rattle.streams.specs.Meaning.{Sum, Stage}
use Rattle.book.specs.Rows.{Row}
use Rattle.book.specs.Queue.{Link, nil, page, Seg, Page, Blank, After, Spilled, spill_by, spill_at, spill, pick, left, is_of, head_at}
use Rattle.book.specs.Queue as book
use Rattle.book.specs.Flow.{how_of}
use Rattle.book.specs.Due.{Sizes, Spill, quiet}
use Rattle.segs.specs.declared.segment.PageNumber.{PageNumber}
use Rattle.segs.specs.Model.{page_link, segs_of}
use Rattle.queue.specs.declared.Queue.{Queue}
use Rattle.queue.specs.Model.{queue_of}
use Rattle.rows.specs.declared.segments.KeyRange.{KeyRange}
use Rattle.rows.specs.Segments.{IsRange}
use Rattle.turns.specs.declared.plates.Beyond.{Beyond}
use Rattle.turns.specs.declared.plates.Written.{Written}
use Rattle.turns.specs.Model.{Spilled as SpilledInto}
use Rattle.turns.specs.Turn.{SpilledBy, spilled_by}
use Rattle.turns.specs.Tidy.{done_by}
use Rattle.book.specs.Words.{Maybe, nothing, just}

-- a range is that of one of the segments
pub range_within : (r : KeyRange) (i : ℕ) (slots : List (List ℕ)) → IsRange r i (segs_of slots) → i < length slots
range_within r i [] h = absurd h
range_within r zero (w ∷ ws) h = omega arith
range_within r (suc i) (w ∷ ws) h = omega (arith, range_within r i ws h)

module _ (how : ℕ → Sum) (size n : ℕ) (g h : Page) (moved : List Row) where
  by_head : (l : Link) (s : Seg) → l ≡ nil → spill_by how size n g l s moved ≡ spill_by how size n h l s moved
  unfolding spill_by
  by_head nil s e = refl
  by_head (page k) s e = absurd (let z : ◌≡◌ {A = ℕ} 1 0 = cc in omega arith)

  -- whatever is shown
  headless : (i : ℕ) (ss : List Seg) → head_at i ss ≡ nil → spill_at how size n g i ss moved ≡ spill_at how size n h i ss moved
  unfolding spill_at head_at
  headless i [] e = refl
  headless zero (s ∷ ss) e = ap (λ (r : Spilled). record { segs = r.segs ++ ss; writes = r.writes }) (by_head s.head s e)
  headless (suc i) (s ∷ ss) e = ap (λ (r : Spilled). record { segs = s ∷ r.segs; writes = r.writes }) (headless i ss e)

spill_headless : (how : ℕ → Sum) (size i : ℕ) (g h : Page) (q : book.Queue) → head_at i q.segments ≡ nil → spill how size i g q ≡ spill how size i h q
spill_headless how size i g h q e =
    ap (λ (r : Spilled). record { queue = record { front = q.front; buffer = left size (is_of i q.segments) q.buffer; segments = r.segs; source = q.source; next = q.next + length r.writes }; writes = r.writes })
    (headless how size q.next g h (pick size (is_of i q.segments) q.buffer) i q.segments e)

-- no page is needed where the segment has none
pub spilled_alone : (how : ℕ → Sum) (size i : ℕ) (g : Page) (shown : Maybe Page) (o : Option PageNumber) (old new : Queue) (out upper : List Row) (r : Result Written Beyond) →
    is_none o ≡ true → page_link o ≡ head_at i (segs_of old.segments.items) → SpilledInto how size i g old new out upper r → SpilledBy how size i (page_link o) shown old new out upper r
spilled_alone how size i g shown (Some n) old new out upper r t e s = absurd (let z : ◌≡◌ {A = ℕ} 1 0 = cc in omega arith)
spilled_alone how size i g shown None old new out upper (Ok w) t e s =
    let k : spill how size i g (queue_of old) ≡ spill how size i Blank (queue_of old) = spill_headless how size i g Blank (queue_of old) (sym e) in
    (s.0, s.1 ∙ ap (λ (a : After). a.queue) k, λ index. s.2 index ∙ ap (λ (a : After). a.writes) k)
spilled_alone how size i g shown None old new out upper (Err b) t e s = (inr s.0, s.1)

-- a spill as the step that is done
pub spilled_done : (z : Sizes) (sts : List Stage) (m i : ℕ) (head : Link) (shown : Maybe Page) (q : book.Queue) → done_by z sts m (Spill i) head shown q ≡ quiet (spilled_by (how_of sts) z.rows i head shown q)
spilled_done z sts m i nil shown q = refl
spilled_done z sts m i (page n) nothing q = refl
spilled_done z sts m i (page n) (just g) q = refl
