-- A row placed: to the buffer, or to the front.
-- Assumes nothing.
use Rattle.std.proofs.Common.{◌≡◌, ℕ, ◌<◌, ◌≤◌, true, false, not, List, [], ◌∷◌, length, get_or, refl, ap, arith}
use Rattle.streams.specs.Meaning.{Sum}
use Rattle.book.specs.Rows.{Key, Row, ltk, add}
use Rattle.book.specs.Queue.{Seg, Queue, goes_up, place}
use Rattle.segs.specs.Model.{seg_in, segs_of}

pub place_up : (how : ℕ → Sum) (r : Row) (q : Queue) → true ≡ goes_up q.segments r.at → record q { buffer = add how r q.buffer } ≡ place how r q
unfolding place
place_up how r q e = rw (← e)

pub place_low : (how : ℕ → Sum) (r : Row) (q : Queue) → false ≡ goes_up q.segments r.at → record q { front = add how r q.front } ≡ place how r q
unfolding place
place_low how r q e = rw (← e)

-- is a key up: not of no segments, and else as the first one's low says
pub up_none : (slots : List (List ℕ)) (k : Key) → length slots < 1 → false ≡ goes_up (segs_of slots) k
unfolding goes_up
up_none [] k h = refl
up_none (w ∷ ws) k h = absurd (omega arith)

pub up_first : (slots : List (List ℕ)) (k : Key) (s : Seg) (d : List ℕ) → 1 ≤ length slots → s ≡ seg_in (get_or slots 0 d) → not (ltk k s.low) ≡ goes_up (segs_of slots) k
unfolding goes_up
up_first [] k s d h e = absurd (omega arith)
up_first (w ∷ ws) k s d h e = ap (λ (x : Seg). not (ltk k x.low)) e
