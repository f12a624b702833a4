-- Numbers and pages stay within their limits: each step of the queue.
use Rattle.std.proofs.Common.{◌≡◌, ℕ, zero, suc, ◌+◌, ◌*◌, ◌/◌, ◌%◌, ◌<◌, ◌≤◌, Bool, true, false, cond, eqb, ltb, leb, List, [], ◌∷◌, ◌++◌, length, take, drop, refl, ap, ◌∙◌, mod-lt, suc-mul, div-le_self, div-mul-le_self, arith, length-append, length-drop, length-take}
use native.Mathlib.Nat.{mod-le}
use Rattle.std.proofs.lemmas.Bool.{leb-true, leb-false, ltb-false}
use Rattle.streams.specs.Meaning.{Event, Stage, Expr, Num, Time, Key, Value, Plus, Minus, Times, Quotient, Rest, Less, Same, Not, Sum, Count, Total, Least, Greatest, top, less_by, word, first, end_of}
use Rattle.streams.proofs.Logs.{less_by_is}
use Rattle.book.specs.Rows.{Row, put, join, ltk, eqk, add, onto}
use Rattle.book.specs.Queue.{Link, nil, page, Seg, Page, Blank, RowPage, IndexPage, Write, Queue, goes_up, place, places, lower_by, pack_by, sift_by, unpack_by, open_by, is_of, pick, left, Spilled, split_by, one_page, too_full, merge_by, spill_by, spill_at}
use Rattle.book.specs.Flow.{row_of, how_of, as_event, Onward, Out, On, Gone, onward_by, onward}
use Rattle.book.specs.Due.{Sizes, Emitted, go_on, popped, then', emit_by, emit, Step, Spill, Pack, Lower, Sift, Emit, Unpack, Open, pack_many, do', at_level, below_level}
use Rattle.book.specs.Words.{link_word}
use Rattle.book.specs.Small.{KeyFit, RowsFit, EventFit, EventsFit, SegFit, SegsFit, PageFit, WritesFit, QueueFit, StagesFit}
use Rattle.book.proofs.Steps.{length_onto}

-- ROWS
put_fits : (s : Sum) (a b : ℕ) → a < top → b < top → put s a b < top
unfolding put
put_fits Count a b h k = mod-lt (a + b) (omega arith)
put_fits Total a b h k = mod-lt (a + b) (omega arith)
put_fits Least a b h k = elim (ltb b a) as (λ c. cond c b a < top) [ true ↦ k | false ↦ h ]
put_fits Greatest a b h k = elim (ltb a b) as (λ c. cond c b a < top) [ true ↦ k | false ↦ h ]

pub add_fits : (how : ℕ → Sum) (r : Row) (cs : List Row) → KeyFit r.at → r.value < top → RowsFit cs → RowsFit (add how r cs)
unfolding add
add_fits how r [] k v h = (k, v, tt)
add_fits how r (c ∷ cs) k v h = go (ltk r.at c.at) (eqk r.at c.at) (add_fits how r cs k v h.2)
  where
    go : (a b : Bool) → RowsFit (add how r cs) → RowsFit (cond a (r ∷ c ∷ cs) (cond b (join how c r ∷ cs) (c ∷ add how r cs)))
    go true b i = (k, v, h)
    go false true i = (h.0, put_fits (how c.at.stage) c.value r.value h.1 v, h.2)
    go false false i = (h.0, h.1, i)

pub onto_fits : (how : ℕ → Sum) (rs cs : List Row) → RowsFit rs → RowsFit cs → RowsFit (onto how rs cs)
unfolding onto
onto_fits how [] cs h k = k
onto_fits how (r ∷ rs) cs h k = add_fits how r (onto how rs cs) h.0 h.1 (onto_fits how rs cs h.2 k)

take_fits : (n : ℕ) (rs : List Row) → RowsFit rs → RowsFit (take n rs)
take_fits zero rs h = tt
take_fits (suc n) [] h = tt
take_fits (suc n) (r ∷ rs) h = (h.0, h.1, take_fits n rs h.2)

drop_fits : (n : ℕ) (rs : List Row) → RowsFit rs → RowsFit (drop n rs)
drop_fits zero rs h = h
drop_fits (suc n) [] h = tt
drop_fits (suc n) (r ∷ rs) h = drop_fits n rs h.2

pick_fits : (n : ℕ) (f : Rattle.book.specs.Rows.Key → Bool) (rs : List Row) → RowsFit rs → RowsFit (pick n f rs)
unfolding pick
pick_fits zero f rs h = tt
pick_fits (suc n) f [] h = tt
pick_fits (suc n) f (r ∷ rs) h = go (f r.at) (pick_fits n f rs h.2) (pick_fits (suc n) f rs h.2)
  where
    go : (b : Bool) → RowsFit (pick n f rs) → RowsFit (pick (suc n) f rs) → RowsFit (cond b (r ∷ pick n f rs) (pick (suc n) f rs))
    go true i j = (h.0, h.1, i)
    go false i j = j

left_fits : (n : ℕ) (f : Rattle.book.specs.Rows.Key → Bool) (rs : List Row) → RowsFit rs → RowsFit (left n f rs)
unfolding left
left_fits zero f rs h = h
left_fits (suc n) f [] h = tt
left_fits (suc n) f (r ∷ rs) h = go (f r.at) (left_fits n f rs h.2) (left_fits (suc n) f rs h.2)
  where
    go : (b : Bool) → RowsFit (left n f rs) → RowsFit (left (suc n) f rs) → RowsFit (cond b (left n f rs) (r ∷ left (suc n) f rs))
    go true i j = i
    go false i j = (h.0, h.1, j)

pick_most : (n : ℕ) (f : Rattle.book.specs.Rows.Key → Bool) (rs : List Row) → length (pick n f rs) ≤ n
unfolding pick
pick_most zero f rs = omega arith
pick_most (suc n) f [] = omega arith
pick_most (suc n) f (r ∷ rs) = go (f r.at) (pick_most n f rs) (pick_most (suc n) f rs)
  where
    go : (b : Bool) → length (pick n f rs) ≤ n → length (pick (suc n) f rs) ≤ suc n → length (cond b (r ∷ pick n f rs) (pick (suc n) f rs)) ≤ suc n
    go true i j = omega arith
    go false i j = j

-- SEGMENTS, and more steps
segs_up : (c d : ℕ) (ss : List Seg) → c ≤ d → SegsFit c ss → SegsFit d ss
segs_up c d [] h f = tt
segs_up c d (s ∷ ss) h f = ((f.0.0, omega (arith, h, f.0.1), omega (arith, h, f.0.2), omega (arith, h, f.0.3)), segs_up c d ss h f.1)

segs_append : (c : ℕ) (ss ts : List Seg) → SegsFit c ss → SegsFit c ts → SegsFit c (ss ++ ts)
segs_append c [] ts f g = g
segs_append c (s ∷ ss) ts f g = (f.0, segs_append c ss ts f.1 g)

segs_take : (c n : ℕ) (ss : List Seg) → SegsFit c ss → SegsFit c (take n ss)
segs_take c zero ss f = tt
segs_take c (suc n) [] f = tt
segs_take c (suc n) (s ∷ ss) f = (f.0, segs_take c n ss f.1)

segs_drop : (c n : ℕ) (ss : List Seg) → SegsFit c ss → SegsFit c (drop n ss)
segs_drop c zero ss f = f
segs_drop c (suc n) [] f = tt
segs_drop c (suc n) (s ∷ ss) f = segs_drop c n ss f.1

pub page_up : (z : Sizes) (c d : ℕ) (x : Page) → c ≤ d → PageFit z c x → PageFit z d x
page_up z c d Blank h f = tt
page_up z c d (RowPage below rs) h f = (omega (arith, h, f.0), f.1, f.2)
page_up z c d (IndexPage ss) h f = (segs_up c d ss h f.0, f.1)

pub queue_up : (c d : ℕ) (q : Queue) → c ≤ d → QueueFit c q → QueueFit d q
queue_up c d q h f = record { front = f.front; buffer = f.buffer; segments = segs_up c d q.segments h f.segments; source = omega (arith, h, f.source); next = omega (arith, h, f.next) }

-- PLACING
pub place_fits : (how : ℕ → Sum) (c : ℕ) (r : Row) (q : Queue) → KeyFit r.at → r.value < top → QueueFit c q → QueueFit c (place how r q)
unfolding place
place_fits how c r q k v f = go (goes_up q.segments r.at)
  where
    go : (b : Bool) → QueueFit c (cond b (record { front = q.front; buffer = add how r q.buffer; segments = q.segments; source = q.source; next = q.next }) (record { front = add how r q.front; buffer = q.buffer; segments = q.segments; source = q.source; next = q.next }))
    go true = record { front = f.front; buffer = add_fits how r q.buffer k v f.buffer; segments = f.segments; source = f.source; next = f.next }
    go false = record { front = add_fits how r q.front k v f.front; buffer = f.buffer; segments = f.segments; source = f.source; next = f.next }

places_fit : (how : ℕ → Sum) (c : ℕ) (rs : List Row) (q : Queue) → RowsFit rs → QueueFit c q → QueueFit c (places how rs q)
unfolding places
places_fit how c [] q h f = f
places_fit how c (r ∷ rs) q h f = places_fit how c rs (place how r q) h.2 (place_fits how c r q h.0 h.1 f)

-- THE STEPS
abbrev Step' : Sizes → ℕ → Queue → List Write → Type 0
Step' z c q ws = QueueFit c q × WritesFit z c ws

lower_fits : (how : ℕ → Sum) (c : ℕ) (xs ys : List Row) (q : Queue) → RowsFit xs → RowsFit ys → QueueFit c q → QueueFit c (lower_by how xs ys q)
unfolding lower_by
lower_fits how c xs [] q a b f = f
lower_fits how c xs (y ∷ ys) q a b f = record { front = a; buffer = onto_fits how (y ∷ ys) q.buffer b f.buffer; segments = ((b.0, omega arith, omega arith, omega arith), f.segments); source = f.source; next = f.next }

pack_fits : (z : Sizes) (c : ℕ) (xs ys us : List Seg) (q : Queue) → SegsFit c xs → SegsFit c ys → SegsFit c us → length ys ≤ z.segments → QueueFit c q → Step' z (c + 2) (pack_by xs ys us q).queue (pack_by xs ys us q).writes
unfolding pack_by
pack_fits z c xs [] us q a b d l f = (queue_up c (c + 2) q (omega arith) f, tt)
pack_fits z c xs (t ∷ ts) us q a b d l f = (
  record {
    front = f.front;
    buffer = f.buffer;
    segments = segs_append (c + 2) xs (record { low = t.low; index = page q.next; head = nil; level = suc t.level } ∷ us) (segs_up c (c + 2) xs (omega arith) a) ((b.0.0, omega (arith, f.next), omega arith, omega (arith, b.0.3)), segs_up c (c + 2) us (omega arith) d);
    source = omega (arith, f.source);
    next = omega (arith, f.next);
  },
  ((segs_up c (c + 2) (t ∷ ts) (omega arith) b, l), tt, tt),
)

sift_fits : (how : ℕ → Sum) (z : Sizes) (c : ℕ) (shown : Page) (q : Queue) → PageFit z c shown → QueueFit c q → QueueFit c (sift_by how shown q)
unfolding sift_by
sift_fits how z c Blank q p f = f
sift_fits how z c (IndexPage ss) q p f = f
sift_fits how z c (RowPage below rows) q p f = places_fit how c rows (record { front = q.front; buffer = q.buffer; segments = q.segments; source = below; next = q.next }) p.1 (record { front = f.front; buffer = f.buffer; segments = f.segments; source = p.0; next = f.next })

unpack_fits : (z : Sizes) (c : ℕ) (shown : Page) (ss : List Seg) (q : Queue) → PageFit z c shown → SegsFit c ss → QueueFit c q → QueueFit c (unpack_by shown ss q)
unfolding unpack_by
unpack_fits z c Blank ss q p s f = f
unpack_fits z c (RowPage b rs) ss q p s f = f
unpack_fits z c (IndexPage ts) [] q p s f = f
unpack_fits z c (IndexPage ts) (x ∷ ss) q p s f = record { front = f.front; buffer = f.buffer; segments = segs_append c ts ss p.0 s.1; source = s.0.2; next = f.next }

open_fits : (how : ℕ → Sum) (c : ℕ) (ss : List Seg) (q : Queue) → SegsFit c ss → QueueFit c q → QueueFit c (open_by how ss q)
unfolding open_by
open_fits how c [] q s f = f
open_fits how c (x ∷ ss) q s f = places_fit how c q.buffer (record { front = q.front; buffer = []; segments = ss; source = x.head; next = q.next }) f.buffer (record { front = f.front; buffer = tt; segments = s.1; source = s.0.2; next = f.next })

-- SPILL
abbrev Spilt : Sizes → ℕ → ℕ → Spilled → Type 0
Spilt z c n r = SegsFit (c + 2) r.segs × WritesFit z (c + 2) r.writes

one_fits : (z : Sizes) (c n : ℕ) (s : Seg) (below : Link) (rows : List Row) → suc n ≤ c → SegFit c s → link_word below ≤ c → RowsFit rows → length rows ≤ z.rows → Spilt z c n (one_page n s below rows)
one_fits z c n s below rows h f b r l = (((f.0, omega (arith, f.1), omega (arith, h), omega (arith, f.3)), tt), ((omega (arith, b), r, l), tt, tt))

split_fits : (z : Sizes) (c n : ℕ) (s : Seg) (xs ys : List Row) → suc n ≤ c → SegFit c s → RowsFit xs → RowsFit ys → length xs ≤ z.rows → length ys ≤ z.rows → Spilt z c n (split_by n s xs ys)
unfolding split_by
split_fits z c n s xs [] h f a b l m = (((f.0, omega arith, omega (arith, h), omega arith), tt), ((omega arith, a, l), tt, tt))
split_fits z c n s xs (y ∷ ys) h f a b l m = (((f.0, omega arith, omega (arith, h), omega arith), ((b.0, omega arith, omega (arith, h), omega arith), tt)), ((omega arith, a, l), tt, ((omega arith, b, m), tt, tt)))

full_fits : (z : Sizes) (c n : ℕ) (s : Seg) (i b : Link) (rows moved : List Row) → suc n ≤ c → SegFit c s → RowsFit rows → RowsFit moved → length moved ≤ z.rows → length rows ≤ z.rows + z.rows → Spilt z c n (too_full n s i b rows moved)
unfolding too_full
full_fits z c n s nil nil rows moved h f a m l k = split_fits z c n s (take (length rows / 2) rows) (drop (length rows / 2) rows) h f (take_fits (length rows / 2) rows a) (drop_fits (length rows / 2) rows a) (omega (arith, k, length-take (length rows / 2) rows)) (omega (arith, k, length-drop (length rows / 2) rows))
full_fits z c n s (page i) nil rows moved h f a m l k = one_fits z c n s s.head moved h f f.2 m l
full_fits z c n s nil (page b) rows moved h f a m l k = one_fits z c n s s.head moved h f f.2 m l
full_fits z c n s (page i) (page b) rows moved h f a m l k = one_fits z c n s s.head moved h f f.2 m l

merge_fits : (z : Sizes) (c n : ℕ) (s : Seg) (b : Link) (rows moved : List Row) → suc n ≤ c → SegFit c s → link_word b ≤ c → RowsFit rows → RowsFit moved → length moved ≤ z.rows → length rows ≤ z.rows + z.rows → Spilt z c n (merge_by z.rows n s b rows moved)
unfolding merge_by
merge_fits z c n s b rows moved h f lb a m l k = go (leb (length rows) z.rows) refl
  where
    go : (t : Bool) → leb (length rows) z.rows ≡ t → Spilt z c n (cond t (one_page n s b rows) (too_full n s s.index b rows moved))
    go true e = one_fits z c n s b rows h f lb a (leb-true (length rows) z.rows e)
    go false e = full_fits z c n s s.index b rows moved h f a m l k

spill_fits : (how : ℕ → Sum) (z : Sizes) (c n : ℕ) (shown : Page) (head : Link) (s : Seg) (moved : List Row) → suc n ≤ c → SegFit c s → PageFit z c shown → RowsFit moved → length moved ≤ z.rows → Spilt z c n (spill_by how z.rows n shown head s moved)
unfolding spill_by
spill_fits how z c n Blank nil s moved h f p m l = one_fits z c n s nil moved h f (omega arith) m l
spill_fits how z c n (RowPage b rs) nil s moved h f p m l = one_fits z c n s nil moved h f (omega arith) m l
spill_fits how z c n (IndexPage ss) nil s moved h f p m l = one_fits z c n s nil moved h f (omega arith) m l
spill_fits how z c n Blank (page i) s moved h f p m l = one_fits z c n s nil moved h f (omega arith) m l
spill_fits how z c n (IndexPage ss) (page i) s moved h f p m l = one_fits z c n s nil moved h f (omega arith) m l
spill_fits how z c n (RowPage b rs) (page i) s moved h f p m l = merge_fits z c n s b (onto how moved rs) moved h f p.0 (onto_fits how moved rs m p.1) m l (omega (arith, length_onto how moved rs, l, p.2))

spill_at_fits : (how : ℕ → Sum) (z : Sizes) (c n : ℕ) (shown : Page) (i : ℕ) (ss : List Seg) (moved : List Row) → suc n ≤ c → SegsFit c ss → PageFit z c shown → RowsFit moved → length moved ≤ z.rows → Spilt z c n (spill_at how z.rows n shown i ss moved)
unfolding spill_at
spill_at_fits how z c n shown zero [] moved h f p m l = (tt, tt)
spill_at_fits how z c n shown (suc i) [] moved h f p m l = (tt, tt)
spill_at_fits how z c n shown zero (s ∷ ss) moved h f p m l = let r : Spilt z c n (spill_by how z.rows n shown s.head s moved) = spill_fits how z c n shown s.head s moved h f.0 p m l in (segs_append (c + 2) (spill_by how z.rows n shown s.head s moved).segs ss r.0 (segs_up c (c + 2) ss (omega arith) f.1), r.1)
spill_at_fits how z c n shown (suc i) (s ∷ ss) moved h f p m l = let r : Spilt z c n (spill_at how z.rows n shown i ss moved) = spill_at_fits how z c n shown i ss moved h f.1 p m l in (((segs_up c (c + 2) (s ∷ []) (omega arith) (f.0, tt)).0, r.0), r.1)

-- WORDS of events
word_fits : (x : Expr) (e : Event) → e.time < top → e.key < top → e.value < top → word x e < top
unfolding word
word_fits (Num n) e a b c = mod-lt n (omega arith)
word_fits Time e a b c = a
word_fits Key e a b c = b
word_fits Value e a b c = c
word_fits (Plus x y) e a b c = mod-lt (word x e + word y e) (omega arith)
word_fits (Minus x y) e a b c = mod-lt (word x e + less_by (word y e) top) (omega arith)
word_fits (Times x y) e a b c = mod-lt (word x e * word y e) (omega arith)
word_fits (Quotient x y) e a b c = let i : word x e < top = word_fits x e a b c in let j : word x e / word y e ≤ word x e = div-le_self (word x e) (word y e) in elim (eqb (word y e) 0) as (λ t. cond t 0 (word x e / word y e) < top) [ true ↦ omega arith | false ↦ omega arith ]
word_fits (Rest x y) e a b c = let i : word x e < top = word_fits x e a b c in let j : word x e % word y e ≤ word x e = mod-le (word x e) (word y e) in elim (eqb (word y e) 0) as (λ t. cond t 0 (word x e % word y e) < top) [ true ↦ omega arith | false ↦ omega arith ]
word_fits (Less x y) e a b c = elim (ltb (word x e) (word y e)) as (λ t. cond t 1 0 < top) [ true ↦ omega arith | false ↦ omega arith ]
word_fits (Same x y) e a b c = elim (eqb (word x e) (word y e)) as (λ t. cond t 1 0 < top) [ true ↦ omega arith | false ↦ omega arith ]
word_fits (Not x) e a b c = elim (eqb (word x e) 0) as (λ t. cond t 1 0 < top) [ true ↦ omega arith | false ↦ omega arith ]

first_fits : (s : Sum) (v : ℕ) → v < top → first s v < top
unfolding first
first_fits Count v h = omega arith
first_fits Total v h = h
first_fits Least v h = h
first_fits Greatest v h = h

pub end_fits : (size t : ℕ) → 0 < size → end_of size t ≤ t + size
end_fits size t h = let a : t / size * size ≤ t = div-mul-le_self t size in let b : (t / size + 1) * size ≡ t / size * size + size = ap (λ (k : ℕ). k * size) (succ (t / size)) ∙ suc-mul (t / size) size in omega arith
  where
    succ : (n : ℕ) → n + 1 ≡ suc n
    succ n = omega arith

pub row_fits : (st : Stage) (s : ℕ) (e : Event) → 0 < st.size → st.size ≤ 1099511627776 → s < 8 → EventFit s e → KeyFit (row_of st s e).at × ((row_of st s e).value < top)
row_fits st s e h k l f =
    let t : e.time < top = omega (arith, f.0, l) in
    ((l, omega (arith, f.0, end_fits st.size e.time h, k), word_fits st.key e t f.1 f.2), first_fits st.sum (word st.value e) (word_fits st.value e t f.1 f.2))

-- EMIT
event_fits : (r : Row) → KeyFit r.at → r.value < top → EventFit (suc r.at.stage) (as_event r)
event_fits r k v = (omega (arith, k.1, less_by_is 1 r.at.end), k.2, v)

event_up : (s : ℕ) (e : Event) → s ≤ 8 → EventFit s e → EventFit 8 e
event_up s e h f = (omega (arith, f.0, h), f.1, f.2)

pub events_up : (es : List Event) → EventsFit 0 es → EventsFit 8 es
events_up [] h = tt
events_up (e ∷ es) h = (event_up 0 e (omega arith) h.0, events_up es h.1)

abbrev OnFits : Onward → Type 0
OnFits (Out e) = EventFit 8 e
OnFits (On r) = KeyFit r.at × (r.value < top)
OnFits Gone = Unit {0}

onward_fits : (sts : List Stage) (s : ℕ) (e : Event) → StagesFit sts → s + length sts ≤ 8 → EventFit s e → OnFits (onward_by sts s e)
unfolding onward_by
onward_fits [] s e z h f = event_up s e (omega arith) f
onward_fits (st ∷ sts) s e z h f = go (eqb (word st.keep' e) 0)
  where
    go : (b : Bool) → OnFits (cond b Gone (On (row_of st s e)))
    go true = tt
    go false = row_fits st s e z.0 z.1 (omega arith) f

pub stages_drop : (n : ℕ) (sts : List Stage) → StagesFit sts → StagesFit (drop n sts)
stages_drop zero sts h = h
stages_drop (suc n) [] h = tt
stages_drop (suc n) (st ∷ sts) h = stages_drop n sts h.2

on_fits : (how : ℕ → Sum) (c : ℕ) (o : Onward) (q : Queue) → OnFits o → QueueFit c q → QueueFit c (go_on how o q).queue × EventsFit 8 (go_on how o q).outs × (length (go_on how o q).outs ≤ 1)
on_fits how c (Out e) q h f = (f, (h, tt), omega arith)
on_fits how c (On r) q h f = (place_fits how c r q h.0 h.1 f, tt, omega arith)
on_fits how c Gone q h f = (f, tt, omega arith)

pub events_append : (s : ℕ) (xs ys : List Event) → EventsFit s xs → EventsFit s ys → EventsFit s (xs ++ ys)
events_append s [] ys h k = k
events_append s (x ∷ xs) ys h k = (h.0, events_append s xs ys h.1 k)

abbrev EmitFits : ℕ → ℕ → Emitted → Type 0
EmitFits c k e = QueueFit c e.queue × EventsFit 8 e.outs × (length e.outs ≤ k)

emit_by_fits : (sts : List Stage) (m c k : ℕ) (more : Queue → Emitted) → StagesFit sts → length sts ≤ 8 → ((q : Queue) → QueueFit c q → EmitFits c k (more q)) → (rs : List Row) (q : Queue) → RowsFit rs → QueueFit c q → EmitFits c (suc k) (emit_by sts m more rs q)
unfolding emit_by
emit_by_fits sts m c k more z l ih [] q h f = (f, tt, omega arith)
emit_by_fits sts m c k more z l ih (r ∷ rs) q h f = go (leb r.at.end m)
  where
    o : Onward
    o = onward sts r

    g : QueueFit c (popped rs q)
    g = record { front = h.2; buffer = f.buffer; segments = f.segments; source = f.source; next = f.next }

    a : QueueFit c (go_on (how_of sts) o (popped rs q)).queue × EventsFit 8 (go_on (how_of sts) o (popped rs q)).outs × (length (go_on (how_of sts) o (popped rs q)).outs ≤ 1)
    a = on_fits (how_of sts) c o (popped rs q) (stage_fits r.at.stage refl) g
      where
        stage_fits : (s : ℕ) → s ≡ r.at.stage → OnFits (onward sts r)
        stage_fits s e = go' (leb (suc r.at.stage) (length sts)) refl
          where
            go' : (b : Bool) → leb (suc r.at.stage) (length sts) ≡ b → OnFits (onward sts r)
            go' true t = onward_fits (drop (suc r.at.stage) sts) (suc r.at.stage) (as_event r) (stages_drop (suc r.at.stage) sts z) (omega (arith, l, length-drop (suc r.at.stage) sts, leb-true (suc r.at.stage) (length sts) t)) (event_fits r h.0 h.1)
            go' false t = onward_fits (drop (suc r.at.stage) sts) (suc r.at.stage) (as_event r) (stages_drop (suc r.at.stage) sts z) (omega (arith, h.0.0, length-drop (suc r.at.stage) sts, leb-false (suc r.at.stage) (length sts) t)) (event_fits r h.0 h.1)

    go : (b : Bool) → EmitFits c (suc k) (cond b (then' (go_on (how_of sts) o (popped rs q)).outs (more (go_on (how_of sts) o (popped rs q)).queue)) (record { queue = q; outs = [] }))
    go true = let b : EmitFits c k (more (go_on (how_of sts) o (popped rs q)).queue) = ih (go_on (how_of sts) o (popped rs q)).queue a.0 in (b.0, events_append 8 (go_on (how_of sts) o (popped rs q)).outs (more (go_on (how_of sts) o (popped rs q)).queue).outs a.1 b.1, omega (arith, length-append (go_on (how_of sts) o (popped rs q)).outs (more (go_on (how_of sts) o (popped rs q)).queue).outs, a.2, b.2))
    go false = (f, tt, omega arith)

pub emit_fits : (sts : List Stage) (m c k : ℕ) (q : Queue) → StagesFit sts → length sts ≤ 8 → QueueFit c q → EmitFits c k (emit sts m k q)
unfolding emit
emit_fits sts m c zero q z l f = (f, tt, omega arith)
emit_fits sts m c (suc k) q z l f = emit_by_fits sts m c k (emit sts m k) z l (λ p g. emit_fits sts m c k p z l g) q.front q f.front f

-- EACH STEP
many_most : (z : Sizes) (n : ℕ) → pack_many z n ≤ z.segments
many_most z n = elim (ltb z.segments (less_by (n / 2) n)) as (λ c. ltb z.segments (less_by (n / 2) n) ≡ c → cond c z.segments (less_by (n / 2) n) ≤ z.segments) [ true ↦ λ e. omega arith | false ↦ λ e. ltb-false z.segments (less_by (n / 2) n) e ] refl

pub record StepFits (z : Sizes) (sts : List Stage) (m c : ℕ) (step : Step) (shown : Page) (q : Queue) : Type 0 where
  pub queue : QueueFit (c + 2) (do' z sts m step shown q).queue
  pub writes : WritesFit z (c + 2) (do' z sts m step shown q).writes
  pub outs : EventsFit 8 (do' z sts m step shown q).outs
  pub few : length (do' z sts m step shown q).outs ≤ z.emits

pub step_fits : (z : Sizes) (sts : List Stage) (m c : ℕ) (step : Step) (shown : Page) (q : Queue) → StagesFit sts → length sts ≤ 8 → PageFit z c shown → QueueFit c q → length (do' z sts m step shown q).writes ≤ 2 → (do' z sts m step shown q).queue.next ≡ q.next + length (do' z sts m step shown q).writes → StepFits z sts m c step shown q
step_fits z sts m c (Spill i) shown q sf l p f w n =
    let r : Spilt z c q.next (spill_at (how_of sts) z.rows q.next shown i q.segments (pick z.rows (is_of i q.segments) q.buffer)) = spill_at_fits (how_of sts) z c q.next shown i q.segments (pick z.rows (is_of i q.segments) q.buffer) f.next f.segments p (pick_fits z.rows (is_of i q.segments) q.buffer f.buffer) (pick_most z.rows (is_of i q.segments) q.buffer) in
    record { queue = record { front = f.front; buffer = left_fits z.rows (is_of i q.segments) q.buffer f.buffer; segments = r.0; source = omega (arith, f.source); next = omega (arith, f.next, w) }; writes = r.1; outs = tt; few = omega arith }
step_fits z sts m c (Pack v) shown q sf l p f w n =
    let i : ℕ = below_level v q.segments + at_level v q.segments / 2 in
    let k : ℕ = pack_many z (at_level v q.segments) in
    let r : Step' z (c + 2) (pack_by (take i q.segments) (take k (drop i q.segments)) (drop k (drop i q.segments)) q).queue (pack_by (take i q.segments) (take k (drop i q.segments)) (drop k (drop i q.segments)) q).writes = pack_fits z c (take i q.segments) (take k (drop i q.segments)) (drop k (drop i q.segments)) q (segs_take c i q.segments f.segments) (segs_take c k (drop i q.segments) (segs_drop c i q.segments f.segments)) (segs_drop c k (drop i q.segments) (segs_drop c i q.segments f.segments)) (omega (arith, length-take k (drop i q.segments), many_most z (at_level v q.segments))) f in
    record { queue = r.0; writes = r.1; outs = tt; few = omega arith }
step_fits z sts m c Lower shown q sf l p f w n = record { queue = queue_up c (c + 2) (lower_by (how_of sts) (take (length q.front / 2) q.front) (drop (length q.front / 2) q.front) q) (omega arith) (lower_fits (how_of sts) c (take (length q.front / 2) q.front) (drop (length q.front / 2) q.front) q (take_fits (length q.front / 2) q.front f.front) (drop_fits (length q.front / 2) q.front f.front) f); writes = tt; outs = tt; few = omega arith }
step_fits z sts m c Sift shown q sf l p f w n = record { queue = queue_up c (c + 2) (sift_by (how_of sts) shown q) (omega arith) (sift_fits (how_of sts) z c shown q p f); writes = tt; outs = tt; few = omega arith }
step_fits z sts m c Emit shown q sf l p f w n = let r : EmitFits c z.emits (emit sts m z.emits q) = emit_fits sts m c z.emits q sf l f in record { queue = queue_up c (c + 2) (emit sts m z.emits q).queue (omega arith) r.0; writes = tt; outs = r.1; few = r.2 }
step_fits z sts m c Unpack shown q sf l p f w n = record { queue = queue_up c (c + 2) (unpack_by shown q.segments q) (omega arith) (unpack_fits z c shown q.segments q p f.segments f); writes = tt; outs = tt; few = omega arith }
step_fits z sts m c Open shown q sf l p f w n = record { queue = queue_up c (c + 2) (open_by (how_of sts) q.segments q) (omega arith) (open_fits (how_of sts) c q.segments q f.segments f); writes = tt; outs = tt; few = omega arith }
