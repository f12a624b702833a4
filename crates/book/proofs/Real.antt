-- The operations on bytes: what they call for, which pages they fill, who was served.
use Rattle.std.proofs.Common.{◌≡◌, ℕ, zero, suc, ◌+◌, ◌*◌, ◌/◌, ◌%◌, ◌<◌, ◌≤◌, Bool, true, false, cond, ◌&&◌, eqb, ltb, ◌⊎◌, List, [], ◌∷◌, ◌++◌, length, replicate, sym, refl, ap, ◌∙◌, subst, inl, inr, arith}
use mathlib.Core.List.{Memᴰ}
use Rattle.std.proofs.lemmas.Bool.{ltb-true, lt-ltb, eqb-true, eqb-false, and_parts}
use Rattle.streams.specs.Meaning.{Event, Entry, Ev, Still}
use Rattle.streams.specs.Hands.{all_bytes}
use Rattle.book.specs.Queue.{Link, nil, page, Pages, Write, written, Queue, head_at}
use Rattle.book.specs.Held.{Paged, Segs, none, plain, packed, Held, head_of, heads, queue_of, ChainIn, SegsIn, HeldIn}
use Rattle.book.specs.Due.{Step, Spill, Pack, Lower, Sift, Emit, Unpack, Open, shows, index_of, Sound}
use Rattle.book.specs.Ledger.{Served, nobody, LogBox, passed, came, entered, entered_all, let_go, set_at, batched, Taken, taken_of, Ledger, Task, Publish, Tidy, Wanted, Rest, Want, shows_of, OutWrite, out_written, row_box, out_box, log_box}
use Rattle.book.specs.Words.{just, wide, words_bytes, are_words, all_fours, words_for, bytes_of, AreWords, AreNumbers, write_page, write_out}
use Rattle.book.specs.Numbers.{Numbered, OutNumbered, Among}
use Rattle.book.specs.Interface.{lacks, gives, with_page, Filling, IsPage}
use Rattle.book.specs.Real.{served_of, are_numbers, floor_of, writes, raised, calls_for, calls_of, row_fillings, out_fillings}
use Rattle.book.proofs.Words.{all_words}

pub just_same : {A : Type 0} (x y : A) → just x ≡ just y → x ≡ y
just_same x y e = cc

pub mem_among : {A : Type 0} (a : A) (xs : List A) → Memᴰ a xs → Among a xs
mem_among a [] m = elim m [ ]
mem_among a (x ∷ xs) (Memᴰ.head e) = inl e
mem_among a (x ∷ xs) (Memᴰ.tail m) = inr (mem_among a xs m)

pub among_append : {A : Type 0} (a : A) (xs ys : List A) → Among a (xs ++ ys) → Among a xs ⊎ Among a ys
among_append a [] ys h = inr h
among_append a (x ∷ xs) ys (inl e) = inl (inl e)
among_append a (x ∷ xs) ys (inr h) = go (among_append a xs ys h)
  where
    go : Among a xs ⊎ Among a ys → Among a (x ∷ xs) ⊎ Among a ys
    go (inl i) = inl (inr i)
    go (inr i) = inr i

-- BOXES of pages
pub row_is_page : (n : ℕ) → IsPage (row_box n)
row_is_page n = ((λ (e : row_box n ≡ 0). omega arith), (λ (l : ℕ) (e : row_box n ≡ log_box l). omega arith))

pub out_is_page : (n : ℕ) → IsPage (out_box n)
out_is_page n = ((λ (e : out_box n ≡ 0). omega arith), (λ (l : ℕ) (e : out_box n ≡ log_box l). omega arith))

abbrev pub row_filling : Write → Filling
row_filling w = record { box = row_box w.number; bytes = bytes_of (write_page w.content) }

abbrev pub out_filling : OutWrite → Filling
out_filling w = record { box = out_box w.number; bytes = bytes_of (write_out w.events) }

pub row_filling_of : (a : Filling) (ws : List Write) → Among a (row_fillings ws) → (w : Write) × Among w ws × (a ≡ row_filling w)
unfolding row_fillings
row_filling_of a [] h = absurd h
row_filling_of a (w ∷ ws) (inl e) = (w, inl refl, e)
row_filling_of a (w ∷ ws) (inr h) = let r : (v : Write) × Among v ws × (a ≡ row_filling v) = row_filling_of a ws h in (r.0, inr r.1, r.2)

pub out_filling_of : (a : Filling) (ws : List OutWrite) → Among a (out_fillings ws) → (w : OutWrite) × Among w ws × (a ≡ out_filling w)
unfolding out_fillings
out_filling_of a [] h = absurd h
out_filling_of a (w ∷ ws) (inl e) = (w, inl refl, e)
out_filling_of a (w ∷ ws) (inr h) = let r : (v : OutWrite) × Among v ws × (a ≡ out_filling v) = out_filling_of a ws h in (r.0, inr r.1, r.2)

pub filled_row : (w : Write) (ws : List Write) (fs : List Filling) → Among w ws → Among (row_filling w) (row_fillings ws ++ fs)
unfolding row_fillings
filled_row w [] fs h = absurd h
filled_row w (v ∷ vs) fs (inl e) = inl (ap row_filling e)
filled_row w (v ∷ vs) fs (inr h) = inr (filled_row w vs fs h)

out_in : (w : OutWrite) (vs : List OutWrite) → Among w vs → Among (out_filling w) (out_fillings vs)
unfolding out_fillings
out_in w [] h = absurd h
out_in w (v ∷ vs) (inl e) = inl (ap out_filling e)
out_in w (v ∷ vs) (inr h) = inr (out_in w vs h)

pub filled_out : (w : OutWrite) (ws : List Write) (vs : List OutWrite) → Among w vs → Among (out_filling w) (row_fillings ws ++ out_fillings vs)
unfolding row_fillings
filled_out w (v ∷ ws) vs h = inr (filled_out w ws vs h)
filled_out w [] vs h = out_in w vs h

pub among_mem : {A : Type 0} (a : A) (xs : List A) → Among a xs → Memᴰ a xs
among_mem a [] h = absurd h
among_mem a (x ∷ xs) (inl e) = Memᴰ.head e
among_mem a (x ∷ xs) (inr h) = Memᴰ.tail (among_mem a xs h)

-- the page of each number
pub find_row : (n : ℕ) (ws : List Write) (f : Pages) (k : ℕ) → Numbered n ws → n ≤ k → k < n + length ws → (w : Write) × Among w ws × (w.number ≡ k) × (written ws f k ≡ w.content)
unfolding written
find_row n [] f k h a b = absurd (omega arith)
find_row n (w ∷ ws) f k h a b = go (eqb k w.number) refl (find_row (suc n) ws f k h.1)
  where
    go : (c : Bool) → eqb k w.number ≡ c → (suc n ≤ k → k < suc n + length ws → (v : Write) × Among v ws × (v.number ≡ k) × (written ws f k ≡ v.content)) → (v : Write) × Among v (w ∷ ws) × (v.number ≡ k) × (cond (eqb k w.number) w.content (written ws f k) ≡ v.content)
    go true e ih = (w, inl refl, sym (eqb-true k w.number e), rw e)
    go false e ih = let ne : k ≡ n → ⊥ = λ (q : k ≡ n). eqb-false k w.number e (q ∙ sym h.0) in let r : (v : Write) × Among v ws × (v.number ≡ k) × (written ws f k ≡ v.content) = ih (omega arith) (omega arith) in (r.0, inr r.1, r.2, rw e r.3)

pub find_out : (n : ℕ) (ws : List OutWrite) (f : ℕ → List Event) (k : ℕ) → OutNumbered n ws → n ≤ k → k < n + length ws → (w : OutWrite) × Among w ws × (w.number ≡ k) × (out_written ws f k ≡ w.events)
unfolding out_written
find_out n [] f k h a b = absurd (omega arith)
find_out n (w ∷ ws) f k h a b = go (eqb k w.number) refl (find_out (suc n) ws f k h.1)
  where
    go : (c : Bool) → eqb k w.number ≡ c → (suc n ≤ k → k < suc n + length ws → (v : OutWrite) × Among v ws × (v.number ≡ k) × (out_written ws f k ≡ v.events)) → (v : OutWrite) × Among v (w ∷ ws) × (v.number ≡ k) × (cond (eqb k w.number) w.events (out_written ws f k) ≡ v.events)
    go true e ih = (w, inl refl, sym (eqb-true k w.number e), rw e)
    go false e ih = let ne : k ≡ n → ⊥ = λ (q : k ≡ n). eqb-false k w.number e (q ∙ sym h.0) in let r : (v : OutWrite) × Among v ws × (v.number ≡ k) × (out_written ws f k ≡ v.events) = ih (omega arith) (omega arith) in (r.0, inr r.1, r.2, rw e r.3)

-- BYTES are bytes, eight to a word
words_long : (ws : List ℕ) → length (words_bytes ws) ≡ 8 * length ws
unfolding words_bytes
words_long [] = refl
words_long (w ∷ ws) = omega (arith, words_long ws)

words_are_bytes : (ws : List ℕ) → all_bytes (words_bytes ws) ≡ true
unfolding words_bytes all_bytes
words_are_bytes [] = refl
words_are_bytes (w ∷ ws) = all (w / 72057594037927936) (w / 281474976710656) (w / 1099511627776) (w / 4294967296) (w / 16777216) (w / 65536) (w / 256) w (words_are_bytes ws)
  where
    one : (n : ℕ) → ltb (n % 256) 256 ≡ true
    one n = lt-ltb (n % 256) 256 (omega arith)

    all : (a b c d e f g h : ℕ) → all_bytes (words_bytes ws) ≡ true → (ltb (a % 256) 256 && (ltb (b % 256) 256 && (ltb (c % 256) 256 && (ltb (d % 256) 256 && (ltb (e % 256) 256 && (ltb (f % 256) 256 && (ltb (g % 256) 256 && (ltb (h % 256) 256 && all_bytes (words_bytes ws))))))))) ≡ true
    all a b c d e f g h i = rw (one a, one b, one c, one d, one e, one f, one g, one h) i

fours_long : (ns : List ℕ) → length (all_fours ns) ≡ 4 * length ns
unfolding all_fours
fours_long [] = refl
fours_long (n ∷ ns) = omega (arith, fours_long ns)

-- a word each, or four
pub bytes_most : (ns : List ℕ) → length (bytes_of ns) ≤ 8 + 32 * length ns
bytes_most ns = go (are_words ns)
  where
    go : (b : Bool) → length (words_bytes (cond b (0 ∷ ns) (1 ∷ all_fours ns))) ≤ 8 + 32 * length ns
    go true = omega (arith, words_long (0 ∷ ns))
    go false = omega (arith, words_long (1 ∷ all_fours ns), fours_long ns)

pub bytes_some : (ns : List ℕ) → 1 ≤ length (bytes_of ns)
bytes_some ns = go (are_words ns)
  where
    go : (b : Bool) → 1 ≤ length (words_bytes (cond b (0 ∷ ns) (1 ∷ all_fours ns)))
    go true = omega (arith, words_long (0 ∷ ns))
    go false = omega (arith, words_long (1 ∷ all_fours ns))

pub bytes_long : (ns : List ℕ) → AreWords ns → length (bytes_of ns) ≡ 8 + 8 * length ns
bytes_long ns h = ap (λ (b : Bool). length (words_bytes (cond b (0 ∷ ns) (1 ∷ all_fours ns)))) (all_words ns h) ∙ words_long (0 ∷ ns) ∙ omega arith

pub bytes_bytes : (ns : List ℕ) → all_bytes (bytes_of ns) ≡ true
bytes_bytes ns = words_are_bytes (words_for ns)

pub numbers_all : (ns : List ℕ) → are_numbers ns ≡ true → AreNumbers ns
unfolding are_numbers
numbers_all [] e = tt
numbers_all (n ∷ ns) e = let p : (ltb n wide ≡ true) × (are_numbers ns ≡ true) = and_parts (ltb n wide) (are_numbers ns) e in (ltb-true n wide p.0, numbers_all ns p.1)

lacks_gives : (A : Type 0) (bs : List ℕ) → lacks ≡ gives bs → A
lacks_gives A bs e = absurd (let z : ◌≡◌ {A = ℕ} 0 1 = cc in omega arith)

-- what was given was written
pub given : (b : Bool) (ws bs : List ℕ) → writes b ws ≡ gives bs → (b ≡ true) × AreNumbers ws × (bs ≡ bytes_of ws)
given b ws bs e = go (b && are_numbers ws) refl e
  where
    go : (c : Bool) → (b && are_numbers ws) ≡ c → cond c (gives (bytes_of ws)) lacks ≡ gives bs → (b ≡ true) × AreNumbers ws × (bs ≡ bytes_of ws)
    go true t d = let p : (b ≡ true) × (are_numbers ws ≡ true) = and_parts b (are_numbers ws) t in (p.0, numbers_all ws p.1, cc)
    go false t d = lacks_gives ((b ≡ true) × AreNumbers ws × (bs ≡ bytes_of ws)) bs d

-- WHAT IS CALLED FOR
calls_for_page : (l : Link) (b : ℕ) → calls_for l ≡ with_page b → (n : ℕ) × (l ≡ page n) × (b ≡ row_box n)
calls_for_page nil b e = absurd (let z : ◌≡◌ {A = ℕ} 0 1 = cc in omega arith)
calls_for_page (page n) b e = (n, refl, cc)

pub calls_page : (w : Wanted) (x : Ledger) (b : ℕ) → calls_of w x ≡ with_page b → (k : Task) × (n : ℕ) × (w ≡ Want k) × (shows_of k x ≡ page n) × (b ≡ row_box n)
unfolding calls_of
calls_page Rest x b e = absurd (let z : ◌≡◌ {A = ℕ} 0 1 = cc in omega arith)
calls_page (Want k) x b e = let r : (n : ℕ) × (shows_of k x ≡ page n) × (b ≡ row_box n) = calls_for_page (shows_of k x) b e in (k, r.0, refl, r.1, r.2)

pub calls_none : (w : Wanted) (x : Ledger) → calls_of w x ≡ Rattle.book.specs.Interface.nothing → w ≡ Rest
unfolding calls_of
calls_none Rest x e = refl
calls_none (Want k) x e = go (shows_of k x) e
  where
    go : (l : Link) → calls_for l ≡ Rattle.book.specs.Interface.nothing → Want k ≡ Rest
    go nil q = absurd (let z : ◌≡◌ {A = ℕ} 0 1 = cc in omega arith)
    go (page n) q = absurd (let z : ◌≡◌ {A = ℕ} 0 1 = cc in omega arith)

-- the page that a step shows was written
chain_below : (f : Pages) (n : ℕ) (c : List Paged) (k : ℕ) → ChainIn f n c → head_of c ≡ page k → k < n
chain_below f n [] k i e = absurd (let z : ◌≡◌ {A = ℕ} 0 1 = cc in omega arith)
chain_below f n (p ∷ ps) k i e = let q : p.number ≡ k = cc in omega (arith, i.0, q)

head_below : (f : Pages) (n i : ℕ) (ss : Segs) (k : ℕ) → SegsIn f n ss → head_at i (heads ss) ≡ page k → k < n
unfolding head_at
head_below f n zero none k h e = absurd (let z : ◌≡◌ {A = ℕ} 0 1 = cc in omega arith)
head_below f n (suc i) none k h e = absurd (let z : ◌≡◌ {A = ℕ} 0 1 = cc in omega arith)
head_below f n zero (plain low c ss) k h e = chain_below f n c k h.0 e
head_below f n zero (packed low m inner c ss) k h e = chain_below f n c k h.2 e
head_below f n (suc i) (plain low c ss) k h e = head_below f n i ss k h.1 e
head_below f n (suc i) (packed low m inner c ss) k h e = head_below f n i ss k h.4 e

index_below : (f : Pages) (n : ℕ) (ss : Segs) (k : ℕ) → SegsIn f n ss → index_of (heads ss) ≡ page k → k < n
unfolding index_of
index_below f n none k h e = absurd (let z : ◌≡◌ {A = ℕ} 0 1 = cc in omega arith)
index_below f n (plain low c ss) k h e = absurd (let z : ◌≡◌ {A = ℕ} 0 1 = cc in omega arith)
index_below f n (packed low m inner c ss) k h e = let q : m ≡ k = cc in omega (arith, h.0, q)

step_below : (f : Pages) (h : Held) (step : Step) (k : ℕ) → HeldIn f h → shows step (queue_of h) ≡ page k → k < h.next
step_below f h (Spill i) k hh e = head_below f h.next i h.segs k hh.0 e
step_below f h Lower k hh e = absurd (let z : ◌≡◌ {A = ℕ} 0 1 = cc in omega arith)
step_below f h (Pack v) k hh e = absurd (let z : ◌≡◌ {A = ℕ} 0 1 = cc in omega arith)
step_below f h Sift k hh e = chain_below f h.next h.source k hh.1 e
step_below f h Emit k hh e = absurd (let z : ◌≡◌ {A = ℕ} 0 1 = cc in omega arith)
step_below f h Unpack k hh e = index_below f h.next h.segs k hh.0 e
step_below f h Open k hh e = absurd (let z : ◌≡◌ {A = ℕ} 0 1 = cc in omega arith)

pub shown_below : (sts : List Rattle.streams.specs.Meaning.Stage) (m : ℕ) (es : List Event) (f : Pages) (x : Ledger) (os : List Event) (t : Task) (k : ℕ) → Sound sts m es f x.queue os → shows_of t x ≡ page k → k < x.queue.next
shown_below sts m es f x os Publish k s e = absurd (let z : ◌≡◌ {A = ℕ} 0 1 = cc in omega arith)
shown_below sts m es f x os (Tidy step) k s e = subst (λ (q : Queue). k < q.next) (sym s.is) (step_below f s.held step k s.pages (subst (λ (q : Queue). shows step q ≡ page k) s.is e))

-- WHO WAS SERVED
pub served_set : (i : ℕ) (s : Served) (ss : List Served) → i < length ss → served_of i (set_at i s ss) ≡ s
unfolding served_of set_at
served_set i s [] h = absurd (omega arith)
served_set zero s (x ∷ ss) h = refl
served_set (suc i) s (x ∷ ss) h = served_set i s ss (omega arith)

pub served_other : (i j : ℕ) (s : Served) (ss : List Served) → (j ≡ i → ⊥) → served_of j (set_at i s ss) ≡ served_of j ss
unfolding served_of set_at
served_other zero zero s [] h = refl
served_other zero (suc j) s [] h = refl
served_other (suc i) zero s [] h = refl
served_other (suc i) (suc j) s [] h = refl
served_other zero zero s (x ∷ ss) h = absurd (h refl)
served_other zero (suc j) s (x ∷ ss) h = refl
served_other (suc i) zero s (x ∷ ss) h = refl
served_other (suc i) (suc j) s (x ∷ ss) h = served_other i j s ss (λ (e : j ≡ i). h (ap suc e))

entered_served : (late : ℕ) (e : Entry) (b : LogBox) → (entered late e b).served ≡ b.served
unfolding entered
entered_served late (Ev e) b = go (ltb (e.time + late) b.latest)
  where
    go : (c : Bool) → (cond c (passed b) (came e b)).served ≡ b.served
    go true = refl
    go false = refl
entered_served late (Still t) b = refl

all_served : (late : ℕ) (es : List Entry) (b : LogBox) → (entered_all late es b).served ≡ b.served
unfolding entered_all
all_served late [] b = refl
all_served late (e ∷ es) b = all_served late es (entered late e b) ∙ entered_served late e b

pub batch_served : (late floor i : ℕ) (s : Served) (es : List Entry) (b : LogBox) → (batched late floor i s es b).served ≡ set_at i s b.served
unfolding let_go
batch_served late floor i s es b = ap (set_at i s) (all_served late es (let_go floor b))

pub nobody_served : (n i : ℕ) → served_of i (replicate n nobody) ≡ nobody
unfolding served_of
nobody_served zero i = refl
nobody_served (suc n) zero = refl
nobody_served (suc n) (suc i) = nobody_served n i

-- FLOORS
pub raised_under : (l m : ℕ) (ts : List Taken) (ns : List ℕ) → (taken_of l ts).taken ≤ m → floor_of l ns ≤ m → floor_of l (raised ts ns) ≤ m
unfolding floor_of raised taken_of
raised_under l m [] ns a b = b
raised_under zero m (t ∷ ts) [] a b = a
raised_under (suc l) m (t ∷ ts) [] a b = raised_under l m ts [] a (omega arith)
raised_under zero m (t ∷ ts) (n ∷ ns) a b = elim (ltb n t.taken) as (λ c. cond c t.taken n ≤ m) [ true ↦ a | false ↦ b ]
raised_under (suc l) m (t ∷ ts) (n ∷ ns) a b = raised_under l m ts ns a b
