-- Segments packed and unpacked: what the definitions do, by the segments in memory.
-- Assumes nothing.
use Rattle.std.proofs.Common.{◌≡◌, ℕ, zero, suc, ◌+◌, ◌-◌, ◌/◌, ◌<◌, ◌≤◌, Bool, cond, List, [], ◌∷◌, ◌++◌, length, get_or, take, drop, min, inl, inr, sym, refl, ap, ◌∙◌, arith}
use Rattle.std.proofs.lemmas.Bool.{lt-ltb, le-ltb, cases_lt}
use Rattle.std.proofs.lemmas.List.{drop-drop, map-append, take-map, take_at, drop_at, length-take-le}
use Rattle.streams.specs.Meaning.{top, less_by}
use Rattle.streams.proofs.Logs.{less_by_is}
use Rattle.book.specs.Queue.{nil, page, Seg, IndexPage, Queue, After, pack_by, pack, unpack_by, unpack}
use Rattle.book.specs.Due.{Sizes, pack_many}
use Rattle.segs.specs.Model.{seg_in, segs_of}
use Rattle.packs.specs.Model.{LevelsFit}

abbrev pub over : Seg → ℕ → Seg
over s n = record { low = s.low; index = page n; head = nil; level = suc s.level }

pub pack_is : (q : Queue) (i k : ℕ) (s : Seg) (rest : List Seg) → 1 ≤ k → drop i q.segments ≡ s ∷ rest
    → pack i k q ≡ record { queue = record q { segments = take i q.segments ++ (over s q.next ∷ drop (i + k) q.segments); next = suc q.next }; writes = record { number = q.next; content = IndexPage (take k (drop i q.segments)) } ∷ [] }
unfolding pack_by
pack_is q i zero s rest h e = absurd (omega arith)
pack_is q i (suc k) s rest h e =
    ap (λ (ts : List Seg). pack_by (take i q.segments) (take (suc k) ts) (drop (suc k) ts) q) e
    ∙ ap (λ (ts : List Seg). packed ts) (sym e)
    ∙ ap (λ (us : List Seg). record { queue = record q { segments = take i q.segments ++ (over s q.next ∷ us); next = suc q.next }; writes = record { number = q.next; content = IndexPage (take (suc k) (drop i q.segments)) } ∷ [] }) (drop-drop (suc k) i q.segments)
  where
    packed : List Seg → After
    packed ts = record { queue = record q { segments = take i q.segments ++ (over s q.next ∷ drop (suc k) ts); next = suc q.next }; writes = record { number = q.next; content = IndexPage (take (suc k) ts) } ∷ [] }

-- one put where some were taken out
pub put_where : {X : Type 0} (xs ys : List X) (i : ℕ) (x : X) → i ≤ length xs → take i (take i xs ++ ys) ++ ((x ∷ []) ++ drop i (take i xs ++ ys)) ≡ take i xs ++ (x ∷ ys)
put_where {X} xs ys i x h =
    let l = length-take-le i xs h in
    ap (λ (z : List X). z ++ (x ∷ drop i (take i xs ++ ys))) (take_at (take i xs) ys i l)
    ∙ ap (λ (z : List X). take i xs ++ (x ∷ z)) (drop_at (take i xs) ys i l)

pub put_seg : (slots rest : List (List ℕ)) (i : ℕ) (x : List ℕ) (s : Seg) → i ≤ length slots → seg_in x ≡ s
    → segs_of (take i (take i slots ++ rest) ++ ((x ∷ []) ++ drop i (take i slots ++ rest))) ≡ take i (segs_of slots) ++ (s ∷ segs_of rest)
put_seg slots rest i x s h e = ap segs_of (put_where slots rest i x h) ∙ map-append seg_in (take i slots) (x ∷ rest)
    ∙ ap (λ (ss : List Seg). ss ++ (seg_in x ∷ segs_of rest)) (sym (take-map seg_in i slots)) ∙ ap (λ (t : Seg). take i (segs_of slots) ++ (t ∷ segs_of rest)) e

pub level_fits : (ss : List Seg) (i : ℕ) (s : Seg) (rest : List Seg) → LevelsFit ss → drop i ss ≡ s ∷ rest → suc s.level < top
level_fits [] zero s rest h e = absurd (cc)
level_fits [] (suc i) s rest h e = absurd (cc)
level_fits (t ∷ ts) zero s rest h e = let z : t ≡ s = cc in rw (← z) h.0
level_fits (t ∷ ts) (suc i) s rest h e = level_fits ts i s rest h.1 e

-- how many are packed
pub many : (z : Sizes) (n most k : ℕ) → z.segments ≡ most → k ≡ min (n - n / 2) most → pack_many z n ≡ k
many z n most k e h = elim (cases_lt most (n - n / 2)) [
  | inl lt ↦ ap (λ (c : Bool). cond c z.segments (less_by (n / 2) n)) (lt-ltb z.segments (less_by (n / 2) n) (omega (arith, e, lt, less_by_is (n / 2) n))) ∙ omega arith
  | inr le ↦ ap (λ (c : Bool). cond c z.segments (less_by (n / 2) n)) (le-ltb z.segments (less_by (n / 2) n) (omega (arith, e, le, less_by_is (n / 2) n))) ∙ less_by_is (n / 2) n ∙ omega arith
]

-- the first segment's page in its place
pub unpack_is : (slots ts : List (List ℕ)) (q : Queue) (new : List (List ℕ)) (s : Seg) (d : List ℕ) → 1 ≤ length slots → q.segments ≡ segs_of slots → s ≡ seg_in (get_or slots 0 d)
    → new ≡ ts ++ drop 1 slots → record q { segments = segs_of new; source = s.head } ≡ (unpack (IndexPage (segs_of ts)) q).queue
unfolding unpack_by
unpack_is [] ts q new s d some is first e = absurd (omega arith)
unpack_is (w ∷ ws) ts q new s d some is first e = rw (is, e, first, map-append) refl
