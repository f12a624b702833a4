-- The worker's turns, run: a table of messages and minds with what is done and the mind after, worked out by a model of the worker that was
-- written apart from this definition. The book is a slate of a few numbers, on which every way of a turn can be taken.
-- Assumes nothing.
use Rattle.std.specs.Prelude.{◌≡◌, ℕ, ◌+◌, ◌*◌, Bool, true, false, cond, ◌&&◌, List, [], ◌∷◌, ◌++◌, length, ◌==◌, nat_le, nat_lt}
use Rattle.streams.specs.Meaning.{Event, Entry, Ev, Still, time_of}
use Rattle.streams.specs.Calls.{Call, Put, Out', Drop, Reply, No, Yes, Outs}
use Rattle.streams.specs.Hands.{Box, In, From, Shown, Filled, Ask, Beat, Out, Show, Fill, Tell, is_in}
use Rattle.book.specs.Interface.{Gives, lacks, gives, Calls, nothing, alone, with_page, Next, page, reply, Filling, Ops}
use Rattle.worker.specs.Worker.{Job, Batch, none, some, Phase, rest, log, put, ledger, page', written, kept, look, answer', gather, Mind, worker}

-- THE SLATE. A log's box: who put last, of which life, which batch, and then the times of what was put; room for four and as many more as the
-- floor has numbers.
unfoldable pub slate_has : List ℕ → (me chance serial : ℕ) → Bool
slate_has [] i c s = false
slate_has (a ∷ []) i c s = false
slate_has (a ∷ b ∷ []) i c s = false
slate_has (a ∷ b ∷ d ∷ x) i c s = a == i && b == c && d == s

unfoldable pub after_tag : List ℕ → List ℕ
after_tag [] = []
after_tag (a ∷ []) = []
after_tag (a ∷ b ∷ []) = []
after_tag (a ∷ b ∷ d ∷ x) = x

unfoldable pub times : List Entry → List ℕ
times [] = []
times (e ∷ es) = time_of e ∷ times es

unfoldable pub slate_adds : (floor : List ℕ) → (me chance serial : ℕ) → List ℕ → List Entry → Gives
slate_adds fl i c s x es = cond (nat_le (length (after_tag x) + length es) (4 + length fl)) (gives (i ∷ c ∷ s ∷ after_tag x ++ times es)) lacks

-- A ledger that begins with 1 is to write two pages, with 2 to copy a page; a log that has anything gets a number of its own into the ledger, one
-- that begins with 50 makes a step due, and one that begins with 99 shows the ledger to be old.
unfoldable pub slate_due : List ℕ → Calls
slate_due [] = nothing
slate_due (a ∷ l) = cond (a == 1) alone (cond (a == 2) (with_page 5) nothing)

unfoldable pub slate_after : (ledger shown : List ℕ) → List ℕ
slate_after [] x = []
slate_after (a ∷ l) x = cond (a == 1) (2 ∷ l) (cond (a == 2) (3 ∷ x ++ l) (a ∷ l))

abbrev pub leaf : ℕ → List ℕ → Filling
leaf b x = record { box = b; bytes = x }

unfoldable pub slate_pages : (ledger shown : List ℕ) → List Filling
slate_pages [] x = []
slate_pages (a ∷ l) x = cond (a == 1) (leaf 5 (7 ∷ []) ∷ leaf 9 (8 ∷ []) ∷ []) (cond (a == 2) (leaf 6 x ∷ []) [])

unfoldable pub slate_take : (ledger : List ℕ) → (log : ℕ) → (box : List ℕ) → Gives
slate_take l n [] = gives l
slate_take l n (a ∷ x) = cond (a == 99) lacks (cond (a == 50) (gives (1 ∷ l)) (cond (is_in (n + 10) l) (gives l) (gives ((n + 10) ∷ l))))

unfoldable pub slate_differs : List ℕ → List ℕ → Bool
slate_differs [] [] = false
slate_differs [] (b ∷ y) = true
slate_differs (a ∷ x) [] = true
slate_differs (a ∷ x) (b ∷ y) = cond (a == b) (slate_differs x y) true

-- with a ledger that begins with 3 an answer shows up to two pages, and has an event of each
unfoldable pub slate_answer : (from most : ℕ) → (ledger : List ℕ) → List Event → Next
slate_answer f n [] got = reply got
slate_answer f n (a ∷ l) got = cond (a == 3 && nat_lt (length got) 2 && nat_lt (length got) n) (page (4 * (f + length got) + 1)) (reply got)

abbrev pub event : (time key value : ℕ) → Event
event t k v = record { time = t; key = k; value = v }

abbrev pub first_in : List ℕ → ℕ
first_in [] = 0
first_in (a ∷ x) = a

unfoldable pub slate_more : (from : ℕ) → List Event → (page : List ℕ) → List Event
slate_more f got x = got ++ (event (first_in x) f (length x) ∷ [])

abbrev pub slate : Ops
slate = record {
  has = slate_has;
  adds = λ fl i c s l x es. slate_adds fl i c s x es;
  raise = λ x fl. x;
  due = slate_due;
  after = slate_after;
  pages = slate_pages;
  take = slate_take;
  differs = slate_differs;
  answer = slate_answer;
  more = λ f n l got x. slate_more f got x;
}

-- MINDS of worker 1, of the life with 77
abbrev pub mind : (asked : ℕ) → (heard : Bool) → Phase → (floor : List ℕ) → (place left serial : ℕ) → Batch → List Job → Mind
mind q h f fl p l s b js = record { asked = q; heard = h; phase = f; floor = fl; place = p; left = l; keep = record { me = 1; chance = 77; serial = s; batch = b; waiting = js } }

abbrev pub job : ℕ → Call → Job
job k c = record { number = k; call = c }

abbrev pub ev : (time key value : ℕ) → Entry
ev t k v = Ev (event t k v)

abbrev pub filled : ℕ → List ℕ → Box
filled e x = record { edition = e; bytes = x }

pub record Turn : Type 0 where
  pub message : In ℕ Call
  pub before : Mind
  pub does : List (Out ℕ Reply)
  pub after : Mind

abbrev pub turn : In ℕ Call → Mind → List (Out ℕ Reply) → Mind → Turn
turn x m os n = record { message = x; before = m; does = os; after = n }

abbrev pub m0 : Mind
m0 = mind 0 true rest [] 1 0 0 none []

abbrev pub m1 : Mind
m1 = mind 1 false ledger [] 1 2 0 none []

abbrev pub m2 : Mind
m2 = mind 2 true (look 0 [] false 1) [] 1 2 0 none []

abbrev pub m3 : Mind
m3 = mind 2 true (look 0 [] false 1) [] 1 2 0 none (job 101 (Put 0 (ev 5 1 2)) ∷ [])

abbrev pub m4 : Mind
m4 = mind 3 true (look 0 (11 ∷ []) true 0) [] 0 1 0 none (job 101 (Put 0 (ev 5 1 2)) ∷ [])

abbrev pub m5 : Mind
m5 = mind 4 true kept [] 1 0 0 none (job 101 (Put 0 (ev 5 1 2)) ∷ [])

abbrev pub m6 : Mind
m6 = mind 5 true ledger [] 1 0 0 none (job 101 (Put 0 (ev 5 1 2)) ∷ [])

abbrev pub m7 : Mind
m7 = mind 6 true (written 1 (leaf 5 (7 ∷ [])) ((leaf 9 (8 ∷ [])) ∷ []) (2 ∷ 11 ∷ [])) (1 ∷ 11 ∷ []) 1 0 0 none (job 101 (Put 0 (ev 5 1 2)) ∷ [])

abbrev pub m8 : Mind
m8 = mind 6 false (written 1 (leaf 5 (7 ∷ [])) ((leaf 9 (8 ∷ [])) ∷ []) (2 ∷ 11 ∷ [])) (1 ∷ 11 ∷ []) 1 0 0 none (job 101 (Put 0 (ev 5 1 2)) ∷ [])

abbrev pub m9 : Mind
m9 = mind 7 true (written 1 (leaf 9 (8 ∷ [])) [] (2 ∷ 11 ∷ [])) (1 ∷ 11 ∷ []) 1 0 0 none (job 101 (Put 0 (ev 5 1 2)) ∷ [])

abbrev pub m10 : Mind
m10 = mind 8 true kept (1 ∷ 11 ∷ []) 1 0 0 none (job 101 (Put 0 (ev 5 1 2)) ∷ [])

abbrev pub m11 : Mind
m11 = mind 9 true ledger (1 ∷ 11 ∷ []) 1 0 0 none (job 101 (Put 0 (ev 5 1 2)) ∷ [])

abbrev pub m12 : Mind
m12 = mind 10 true (page' 2 (2 ∷ 11 ∷ []) 5) (2 ∷ 11 ∷ []) 1 0 0 none (job 101 (Put 0 (ev 5 1 2)) ∷ [])

abbrev pub m13 : Mind
m13 = mind 11 true ledger (2 ∷ 11 ∷ []) 1 0 0 none (job 101 (Put 0 (ev 5 1 2)) ∷ [])

abbrev pub m14 : Mind
m14 = mind 12 true (page' 2 (2 ∷ 11 ∷ []) 5) (2 ∷ 11 ∷ []) 1 0 0 none (job 101 (Put 0 (ev 5 1 2)) ∷ [])

abbrev pub m15 : Mind
m15 = mind 13 true (written 2 (leaf 6 (7 ∷ [])) [] (3 ∷ 7 ∷ 11 ∷ [])) (2 ∷ 11 ∷ []) 1 0 0 none (job 101 (Put 0 (ev 5 1 2)) ∷ [])

abbrev pub m16 : Mind
m16 = mind 14 true kept (2 ∷ 11 ∷ []) 1 0 0 none (job 101 (Put 0 (ev 5 1 2)) ∷ [])

abbrev pub m17 : Mind
m17 = mind 15 true ledger (2 ∷ 11 ∷ []) 1 0 0 none (job 101 (Put 0 (ev 5 1 2)) ∷ [])

abbrev pub m18 : Mind
m18 = mind 16 true (log 0) (3 ∷ 7 ∷ 11 ∷ []) 1 0 0 none (job 101 (Put 0 (ev 5 1 2)) ∷ [])

abbrev pub m19 : Mind
m19 = mind 16 true (log 0) (3 ∷ 7 ∷ 11 ∷ []) 1 0 0 none (job 101 (Put 0 (ev 5 1 2)) ∷ job 102 (Put 1 (ev 6 1 2)) ∷ [])

abbrev pub m20 : Mind
m20 = mind 16 true (log 0) (3 ∷ 7 ∷ 11 ∷ []) 1 0 0 none (job 101 (Put 0 (ev 5 1 2)) ∷ job 102 (Put 1 (ev 6 1 2)) ∷ job 107 (Put 0 (Still 4611686018427387903)) ∷ [])

abbrev pub m21 : Mind
m21 = mind 16 true (log 0) (3 ∷ 7 ∷ 11 ∷ []) 1 0 0 none (job 101 (Put 0 (ev 5 1 2)) ∷ job 102 (Put 1 (ev 6 1 2)) ∷ job 107 (Put 0 (Still 4611686018427387903)) ∷ job 109 (Out' 0 1024) ∷ [])

abbrev pub m22 : Mind
m22 = mind 17 true put (3 ∷ 7 ∷ 11 ∷ []) 1 0 1 (some 0 (job 101 (Put 0 (ev 5 1 2)) ∷ job 107 (Put 0 (Still 4611686018427387903)) ∷ [])) (job 102 (Put 1 (ev 6 1 2)) ∷ job 109 (Out' 0 1024) ∷ [])

abbrev pub m23 : Mind
m23 = mind 17 true put (3 ∷ 7 ∷ 11 ∷ []) 1 0 1 (some 0 (job 101 (Put 0 (ev 5 1 2)) ∷ job 107 (Put 0 (Still 4611686018427387903)) ∷ [])) (job 102 (Put 1 (ev 6 1 2)) ∷ job 109 (Out' 0 1024) ∷ job 110 (Put 0 (ev 8 1 2)) ∷ [])

abbrev pub m24 : Mind
m24 = mind 17 false put (3 ∷ 7 ∷ 11 ∷ []) 1 0 1 (some 0 (job 101 (Put 0 (ev 5 1 2)) ∷ job 107 (Put 0 (Still 4611686018427387903)) ∷ [])) (job 102 (Put 1 (ev 6 1 2)) ∷ job 109 (Out' 0 1024) ∷ job 110 (Put 0 (ev 8 1 2)) ∷ [])

abbrev pub m25 : Mind
m25 = mind 18 false (log 0) (3 ∷ 7 ∷ 11 ∷ []) 1 0 1 (some 0 (job 101 (Put 0 (ev 5 1 2)) ∷ job 107 (Put 0 (Still 4611686018427387903)) ∷ [])) (job 102 (Put 1 (ev 6 1 2)) ∷ job 109 (Out' 0 1024) ∷ job 110 (Put 0 (ev 8 1 2)) ∷ [])

abbrev pub m26 : Mind
m26 = mind 19 true put (3 ∷ 7 ∷ 11 ∷ []) 1 0 1 (some 0 (job 101 (Put 0 (ev 5 1 2)) ∷ job 107 (Put 0 (Still 4611686018427387903)) ∷ [])) (job 102 (Put 1 (ev 6 1 2)) ∷ job 109 (Out' 0 1024) ∷ job 110 (Put 0 (ev 8 1 2)) ∷ [])

abbrev pub m27 : Mind
m27 = mind 20 true (log 0) (3 ∷ 7 ∷ 11 ∷ []) 1 0 1 (some 0 (job 101 (Put 0 (ev 5 1 2)) ∷ job 107 (Put 0 (Still 4611686018427387903)) ∷ [])) (job 102 (Put 1 (ev 6 1 2)) ∷ job 109 (Out' 0 1024) ∷ job 110 (Put 0 (ev 8 1 2)) ∷ [])

abbrev pub m28 : Mind
m28 = mind 21 true (log 1) (3 ∷ 7 ∷ 11 ∷ []) 1 0 1 none (job 102 (Put 1 (ev 6 1 2)) ∷ job 109 (Out' 0 1024) ∷ job 110 (Put 0 (ev 8 1 2)) ∷ [])

abbrev pub m29 : Mind
m29 = mind 22 true put (3 ∷ 7 ∷ 11 ∷ []) 1 0 2 (some 1 (job 102 (Put 1 (ev 6 1 2)) ∷ [])) (job 109 (Out' 0 1024) ∷ job 110 (Put 0 (ev 8 1 2)) ∷ [])

abbrev pub m30 : Mind
m30 = mind 23 true (answer' 109 0 1024) (3 ∷ 7 ∷ 11 ∷ []) 1 0 2 none (job 109 (Out' 0 1024) ∷ job 110 (Put 0 (ev 8 1 2)) ∷ [])

abbrev pub m31 : Mind
m31 = mind 24 true (gather 109 0 1024 (3 ∷ 7 ∷ 11 ∷ []) [] 1) (3 ∷ 7 ∷ 11 ∷ []) 1 0 2 none (job 109 (Out' 0 1024) ∷ job 110 (Put 0 (ev 8 1 2)) ∷ [])

abbrev pub m32 : Mind
m32 = mind 25 true (answer' 109 0 1024) (3 ∷ 7 ∷ 11 ∷ []) 1 0 2 none (job 109 (Out' 0 1024) ∷ job 110 (Put 0 (ev 8 1 2)) ∷ [])

abbrev pub m33 : Mind
m33 = mind 26 true (gather 109 0 1024 (3 ∷ 7 ∷ 11 ∷ []) [] 1) (3 ∷ 7 ∷ 11 ∷ []) 1 0 2 none (job 109 (Out' 0 1024) ∷ job 110 (Put 0 (ev 8 1 2)) ∷ [])

abbrev pub m34 : Mind
m34 = mind 27 true (gather 109 0 1024 (3 ∷ 7 ∷ 11 ∷ []) (event 21 0 1 ∷ []) 5) (3 ∷ 7 ∷ 11 ∷ []) 1 0 2 none (job 109 (Out' 0 1024) ∷ job 110 (Put 0 (ev 8 1 2)) ∷ [])

abbrev pub m35 : Mind
m35 = mind 28 true (log 0) (3 ∷ 7 ∷ 11 ∷ []) 1 0 2 none (job 110 (Put 0 (ev 8 1 2)) ∷ [])

abbrev pub m36 : Mind
m36 = mind 29 true ledger (3 ∷ 7 ∷ 11 ∷ []) 0 1 2 none (job 110 (Put 0 (ev 8 1 2)) ∷ [])

abbrev pub m37 : Mind
m37 = mind 30 true (look 4 (3 ∷ []) false 0) (3 ∷ []) 0 1 2 none (job 110 (Put 0 (ev 8 1 2)) ∷ [])

abbrev pub m38 : Mind
m38 = mind 31 true ledger (3 ∷ []) 0 1 2 none (job 110 (Put 0 (ev 8 1 2)) ∷ [])

abbrev pub m39 : Mind
m39 = mind 32 true (look 5 (3 ∷ []) false 0) (3 ∷ []) 0 1 2 none (job 110 (Put 0 (ev 8 1 2)) ∷ [])

abbrev pub m40 : Mind
m40 = mind 33 true kept (3 ∷ []) 0 1 2 none (job 110 (Put 0 (ev 8 1 2)) ∷ [])

abbrev pub m41 : Mind
m41 = mind 34 true ledger (3 ∷ []) 0 1 2 none (job 110 (Put 0 (ev 8 1 2)) ∷ [])

abbrev pub m42 : Mind
m42 = mind 35 true (written 6 (leaf 5 (7 ∷ [])) ((leaf 9 (8 ∷ [])) ∷ []) (2 ∷ 3 ∷ [])) (1 ∷ 3 ∷ []) 0 1 2 none (job 110 (Put 0 (ev 8 1 2)) ∷ [])

abbrev pub m43 : Mind
m43 = mind 36 true (written 6 (leaf 9 (8 ∷ [])) [] (2 ∷ 3 ∷ [])) (1 ∷ 3 ∷ []) 0 1 2 none (job 110 (Put 0 (ev 8 1 2)) ∷ [])

abbrev pub m44 : Mind
m44 = mind 37 true kept (1 ∷ 3 ∷ []) 0 1 2 none (job 110 (Put 0 (ev 8 1 2)) ∷ [])

abbrev pub m45 : Mind
m45 = mind 38 true ledger (1 ∷ 3 ∷ []) 0 1 2 none (job 110 (Put 0 (ev 8 1 2)) ∷ [])

abbrev pub m46 : Mind
m46 = mind 39 true (page' 8 (2 ∷ 3 ∷ []) 5) (2 ∷ 3 ∷ []) 0 1 2 none (job 110 (Put 0 (ev 8 1 2)) ∷ [])

abbrev pub m47 : Mind
m47 = mind 39 false (page' 8 (2 ∷ 3 ∷ []) 5) (2 ∷ 3 ∷ []) 0 1 2 none (job 110 (Put 0 (ev 8 1 2)) ∷ [])

abbrev pub m48 : Mind
m48 = mind 40 false (log 0) (2 ∷ 3 ∷ []) 0 1 2 none (job 110 (Put 0 (ev 8 1 2)) ∷ [])

abbrev pub m49 : Mind
m49 = mind 41 true ledger (2 ∷ 3 ∷ []) 0 1 2 none (job 110 (Put 0 (ev 8 1 2)) ∷ [])

abbrev pub m50 : Mind
m50 = mind 42 true (look 9 (3 ∷ 7 ∷ 3 ∷ []) false 0) (3 ∷ 7 ∷ 3 ∷ []) 0 1 2 none (job 110 (Put 0 (ev 8 1 2)) ∷ [])

abbrev pub m51 : Mind
m51 = mind 43 true kept (3 ∷ 7 ∷ 3 ∷ []) 1 0 2 none (job 110 (Put 0 (ev 8 1 2)) ∷ [])

abbrev pub m52 : Mind
m52 = mind 44 true ledger (3 ∷ 7 ∷ 3 ∷ []) 1 0 2 none (job 110 (Put 0 (ev 8 1 2)) ∷ [])

abbrev pub m53 : Mind
m53 = mind 45 true (log 0) (10 ∷ 3 ∷ 7 ∷ 3 ∷ []) 1 0 2 none (job 110 (Put 0 (ev 8 1 2)) ∷ [])

abbrev pub m54 : Mind
m54 = mind 46 true put (10 ∷ 3 ∷ 7 ∷ 3 ∷ []) 1 0 3 (some 0 (job 110 (Put 0 (ev 8 1 2)) ∷ [])) []

abbrev pub m55 : Mind
m55 = mind 47 true rest (10 ∷ 3 ∷ 7 ∷ 3 ∷ []) 1 0 3 none []

abbrev pub m56 : Mind
m56 = mind 48 true (answer' 111 4 0) (10 ∷ 3 ∷ 7 ∷ 3 ∷ []) 1 0 3 none (job 111 (Out' 4 0) ∷ [])

abbrev pub m57 : Mind
m57 = mind 49 true rest (10 ∷ 3 ∷ 7 ∷ 3 ∷ []) 1 0 3 none []

abbrev pub m58 : Mind
m58 = mind 50 true (answer' 112 4 7) (10 ∷ 3 ∷ 7 ∷ 3 ∷ []) 1 0 3 none (job 112 (Out' 4 7) ∷ [])

abbrev pub m59 : Mind
m59 = mind 51 true rest (10 ∷ 3 ∷ 7 ∷ 3 ∷ []) 1 0 3 none []

abbrev pub m60 : Mind
m60 = mind 52 true (log 1) (10 ∷ 3 ∷ 7 ∷ 3 ∷ []) 1 0 3 none (job 113 (Put 1 (ev 9 1 2)) ∷ [])

abbrev pub m61 : Mind
m61 = mind 52 true (log 1) (10 ∷ 3 ∷ 7 ∷ 3 ∷ []) 1 0 3 none (job 113 (Put 1 (ev 9 1 2)) ∷ job 114 (Put 0 (Still 10)) ∷ [])

abbrev pub m62 : Mind
m62 = mind 52 true (log 1) (10 ∷ 3 ∷ 7 ∷ 3 ∷ []) 1 0 3 none (job 113 (Put 1 (ev 9 1 2)) ∷ job 114 (Put 0 (Still 10)) ∷ job 115 (Put 1 (Still 11)) ∷ [])

abbrev pub m63 : Mind
m63 = mind 52 true (log 1) (10 ∷ 3 ∷ 7 ∷ 3 ∷ []) 1 0 3 none (job 113 (Put 1 (ev 9 1 2)) ∷ job 114 (Put 0 (Still 10)) ∷ job 115 (Put 1 (Still 11)) ∷ job 116 (Put 0 (Still 12)) ∷ [])

abbrev pub m64 : Mind
m64 = mind 52 true (log 1) (10 ∷ 3 ∷ 7 ∷ 3 ∷ []) 1 0 3 none (job 113 (Put 1 (ev 9 1 2)) ∷ job 114 (Put 0 (Still 10)) ∷ job 115 (Put 1 (Still 11)) ∷ job 116 (Put 0 (Still 12)) ∷ job 117 (Put 1 (Still 13)) ∷ [])

abbrev pub m65 : Mind
m65 = mind 52 true (log 1) (10 ∷ 3 ∷ 7 ∷ 3 ∷ []) 1 0 3 none (job 113 (Put 1 (ev 9 1 2)) ∷ job 114 (Put 0 (Still 10)) ∷ job 115 (Put 1 (Still 11)) ∷ job 116 (Put 0 (Still 12)) ∷ job 117 (Put 1 (Still 13)) ∷ job 118 (Put 0 (Still 14)) ∷ [])

abbrev pub m66 : Mind
m66 = mind 52 true (log 1) (10 ∷ 3 ∷ 7 ∷ 3 ∷ []) 1 0 3 none (job 113 (Put 1 (ev 9 1 2)) ∷ job 114 (Put 0 (Still 10)) ∷ job 115 (Put 1 (Still 11)) ∷ job 116 (Put 0 (Still 12)) ∷ job 117 (Put 1 (Still 13)) ∷ job 118 (Put 0 (Still 14)) ∷ job 119 (Put 1 (Still 15)) ∷ [])

abbrev pub m67 : Mind
m67 = mind 52 true (log 1) (10 ∷ 3 ∷ 7 ∷ 3 ∷ []) 1 0 3 none (job 113 (Put 1 (ev 9 1 2)) ∷ job 114 (Put 0 (Still 10)) ∷ job 115 (Put 1 (Still 11)) ∷ job 116 (Put 0 (Still 12)) ∷ job 117 (Put 1 (Still 13)) ∷ job 118 (Put 0 (Still 14)) ∷ job 119 (Put 1 (Still 15)) ∷ job 120 (Put 0 (Still 16)) ∷ [])

abbrev pub m68 : Mind
m68 = mind 53 true put (10 ∷ 3 ∷ 7 ∷ 3 ∷ []) 1 0 4 (some 1 (job 113 (Put 1 (ev 9 1 2)) ∷ job 115 (Put 1 (Still 11)) ∷ job 117 (Put 1 (Still 13)) ∷ job 119 (Put 1 (Still 15)) ∷ [])) (job 114 (Put 0 (Still 10)) ∷ job 116 (Put 0 (Still 12)) ∷ job 118 (Put 0 (Still 14)) ∷ job 120 (Put 0 (Still 16)) ∷ [])

abbrev pub m69 : Mind
m69 = mind 54 true (log 0) (10 ∷ 3 ∷ 7 ∷ 3 ∷ []) 1 0 4 none (job 114 (Put 0 (Still 10)) ∷ job 116 (Put 0 (Still 12)) ∷ job 118 (Put 0 (Still 14)) ∷ job 120 (Put 0 (Still 16)) ∷ [])

abbrev pub m70 : Mind
m70 = mind 54 true (log 0) (10 ∷ 3 ∷ 7 ∷ 3 ∷ []) 1 0 4 none (job 114 (Put 0 (Still 10)) ∷ job 116 (Put 0 (Still 12)) ∷ job 118 (Put 0 (Still 14)) ∷ job 120 (Put 0 (Still 16)) ∷ job 125 (Put 1 (ev 9 1 2)) ∷ [])

-- THE TABLE: 86 turns, each from the mind that one before it left
abbrev pub table : List Turn
table =
    -- words of other workers are ignored
    turn (From 3 9) m0 [] m0 ∷
    -- an answer when none is awaited
    turn (Shown 0 (filled 4 (1 ∷ []))) m0 [] m0 ∷
    -- at rest a beat looks after the ledger
    turn Beat m0 (Show 1 0 ∷ []) m1 ∷
    -- an answer under an old number
    turn (Shown 0 (filled 0 [])) m1 [] m1 ∷
    -- an answer under a number not asked yet
    turn (Filled 2 true 1) m1 [] m1 ∷
    -- nothing is due: a look at the first log, which is that of its number
    turn (Shown 1 (filled 0 [])) m1 (Show 2 8 ∷ []) m2 ∷
    -- a call while a request is under way waits
    turn (Ask 101 (Put 0 (ev 5 1 2))) m2 [] m3 ∷
    -- a log with something new is taken
    turn (Shown 2 (filled 3 (4 ∷ 70 ∷ 1 ∷ 5 ∷ []))) m3 (Show 3 4 ∷ []) m4 ∷
    -- an empty log changes nothing: all that was taken is filled in
    turn (Shown 3 (filled 0 [])) m4 (Fill 4 0 0 (11 ∷ []) ∷ []) m5 ∷
    -- filled by another: the ledger again
    turn (Filled 4 false 1) m5 (Show 5 0 ∷ []) m6 ∷
    -- a step is due: its first page
    turn (Shown 5 (filled 1 (1 ∷ 11 ∷ []))) m6 (Fill 6 5 0 (7 ∷ []) ∷ []) m7 ∷
    -- a beat, and something was heard since the last
    turn Beat m7 [] m8 ∷
    -- the page was filled by another: the next page
    turn (Filled 6 false 1) m8 (Fill 7 9 0 (8 ∷ []) ∷ []) m9 ∷
    -- then the ledger, at the edition that was shown
    turn (Filled 7 true 1) m9 (Fill 8 0 1 (2 ∷ 11 ∷ []) ∷ []) m10 ∷
    -- and it again
    turn (Filled 8 true 2) m10 (Show 9 0 ∷ []) m11 ∷
    -- a step that is to be shown a page
    turn (Shown 9 (filled 2 (2 ∷ 11 ∷ []))) m11 (Show 10 5 ∷ []) m12 ∷
    -- a page that is not filled yet
    turn (Shown 10 (filled 0 [])) m12 (Show 11 0 ∷ []) m13 ∷
    -- once more
    turn (Shown 11 (filled 2 (2 ∷ 11 ∷ []))) m13 (Show 12 5 ∷ []) m14 ∷
    -- the page is there
    turn (Shown 12 (filled 1 (7 ∷ []))) m14 (Fill 13 6 0 (7 ∷ []) ∷ []) m15 ∷
    -- a showing where a filling is awaited
    turn (Shown 13 (filled 1 (7 ∷ []))) m15 [] m15 ∷
    -- a step with one page
    turn (Filled 13 true 1) m15 (Fill 14 0 2 (3 ∷ 7 ∷ 11 ∷ []) ∷ []) m16 ∷
    -- the ledger is filled
    turn (Filled 14 true 3) m16 (Show 15 0 ∷ []) m17 ∷
    -- nothing is due and no log left: the call that waits
    turn (Shown 15 (filled 3 (3 ∷ 7 ∷ 11 ∷ []))) m17 (Show 16 4 ∷ []) m18 ∷
    -- calls wait in the order in which they come
    turn (Ask 102 (Put 1 (ev 6 1 2))) m18 [] m19 ∷
    -- refused: not built
    turn (Ask 103 (Drop 0)) m19 (Tell 103 (No 12) ∷ []) m19 ∷
    -- refused: a time that is too great
    turn (Ask 104 (Put 0 (Still 4611686018427387904))) m19 (Tell 104 (No 1) ∷ []) m19 ∷
    -- refused: no such log
    turn (Ask 105 (Put 2 (ev 1 1 2))) m19 (Tell 105 (No 2) ∷ []) m19 ∷
    -- refused: the time before the log
    turn (Ask 106 (Put 2 (Still 4611686018427387904))) m19 (Tell 106 (No 1) ∷ []) m19 ∷
    -- the greatest time
    turn (Ask 107 (Put 0 (Still 4611686018427387903))) m19 [] m20 ∷
    -- refused: too many
    turn (Ask 108 (Out' 0 1025)) m20 (Tell 108 (No 1) ∷ []) m20 ∷
    -- as many as may be
    turn (Ask 109 (Out' 0 1024)) m20 [] m21 ∷
    -- the batch: all that waits for this log, in one filling, under the first serial
    turn (Shown 16 (filled 4 (2 ∷ 60 ∷ 9 ∷ 3 ∷ []))) m21 (Fill 17 4 4 (1 ∷ 77 ∷ 1 ∷ 3 ∷ 5 ∷ 4611686018427387903 ∷ []) ∷ []) m22 ∷
    -- a put for the same log is not in the batch
    turn (Ask 110 (Put 0 (ev 8 1 2))) m22 [] m23 ∷
    -- a beat after something was heard
    turn Beat m23 [] m24 ∷
    -- a beat after nothing was heard: the log is shown again
    turn Beat m24 (Show 18 4 ∷ []) m25 ∷
    -- what was asked before is awaited no more
    turn (Filled 17 true 5) m25 [] m25 ∷
    -- not served: the same batch again, at the edition that was shown
    turn (Shown 18 (filled 5 (2 ∷ 60 ∷ 10 ∷ 3 ∷ 4 ∷ []))) m25 (Fill 19 4 5 (1 ∷ 77 ∷ 1 ∷ 3 ∷ 4 ∷ 5 ∷ 4611686018427387903 ∷ []) ∷ []) m26 ∷
    -- not filled: the log again
    turn (Filled 19 false 6) m26 (Show 20 4 ∷ []) m27 ∷
    -- served: told, and the next call
    turn (Shown 20 (filled 6 (1 ∷ 77 ∷ 1 ∷ 3 ∷ 4 ∷ 5 ∷ []))) m27 (Tell 101 Yes ∷ Tell 107 Yes ∷ Show 21 8 ∷ []) m28 ∷
    -- the next batch, under the next serial
    turn (Shown 21 (filled 0 [])) m28 (Fill 22 8 0 (1 ∷ 77 ∷ 2 ∷ 6 ∷ []) ∷ []) m29 ∷
    -- filled: told
    turn (Filled 22 true 1) m29 (Tell 102 Yes ∷ Show 23 0 ∷ []) m30 ∷
    -- the ledger for what came out: it calls for a page
    turn (Shown 23 (filled 3 (3 ∷ 7 ∷ 11 ∷ []))) m30 (Show 24 1 ∷ []) m31 ∷
    -- the page is not filled: from the beginning
    turn (Shown 24 (filled 0 [])) m31 (Show 25 0 ∷ []) m32 ∷
    -- the ledger again
    turn (Shown 25 (filled 4 (3 ∷ 7 ∷ 11 ∷ []))) m32 (Show 26 1 ∷ []) m33 ∷
    -- a page
    turn (Shown 26 (filled 1 (21 ∷ []))) m33 (Show 27 5 ∷ []) m34 ∷
    -- and another: all is told, then the call that waits
    turn (Shown 27 (filled 1 (22 ∷ 23 ∷ []))) m34 (Tell 109 (Outs (event 21 0 1 ∷ event 22 0 2 ∷ [])) ∷ Show 28 4 ∷ []) m35 ∷
    -- no room: the ledger is to take this log first, and the batch is not fixed
    turn (Shown 28 (filled 6 (2 ∷ 60 ∷ 1 ∷ 1 ∷ 2 ∷ 3 ∷ 4 ∷ 5 ∷ 6 ∷ 7 ∷ []))) m35 (Show 29 0 ∷ []) m36 ∷
    -- nothing is due: a look at this log only
    turn (Shown 29 (filled 4 (3 ∷ []))) m36 (Show 30 4 ∷ []) m37 ∷
    -- the box shows that the ledger in hand is an old one: it again
    turn (Shown 30 (filled 6 (99 ∷ []))) m37 (Show 31 0 ∷ []) m38 ∷
    -- the log again
    turn (Shown 31 (filled 5 (3 ∷ []))) m38 (Show 32 4 ∷ []) m39 ∷
    -- taken, and now something is due: filled in, and this log is to be looked at again
    turn (Shown 32 (filled 6 (50 ∷ 1 ∷ 2 ∷ []))) m39 (Fill 33 0 5 (1 ∷ 3 ∷ []) ∷ []) m40 ∷
    -- filled
    turn (Filled 33 true 6) m40 (Show 34 0 ∷ []) m41 ∷
    -- the step that is due: its first page
    turn (Shown 34 (filled 6 (1 ∷ 3 ∷ []))) m41 (Fill 35 5 0 (7 ∷ []) ∷ []) m42 ∷
    -- its second page
    turn (Filled 35 true 1) m42 (Fill 36 9 0 (8 ∷ []) ∷ []) m43 ∷
    -- all its pages: the ledger
    turn (Filled 36 true 1) m43 (Fill 37 0 6 (2 ∷ 3 ∷ []) ∷ []) m44 ∷
    -- the ledger was filled by another
    turn (Filled 37 false 8) m44 (Show 38 0 ∷ []) m45 ∷
    -- a step with a page
    turn (Shown 38 (filled 8 (2 ∷ 3 ∷ []))) m45 (Show 39 5 ∷ []) m46 ∷
    -- a beat: something was heard
    turn Beat m46 [] m47 ∷
    -- a beat: nothing was heard, so all begins with the call that waits
    turn Beat m47 (Show 40 4 ∷ []) m48 ∷
    -- still no room, by a lower floor too
    turn (Shown 40 (filled 7 (2 ∷ 60 ∷ 1 ∷ 1 ∷ 2 ∷ 3 ∷ 4 ∷ 5 ∷ 6 ∷ 7 ∷ []))) m48 (Show 41 0 ∷ []) m49 ∷
    -- nothing is due any more: the log
    turn (Shown 41 (filled 9 (3 ∷ 7 ∷ 3 ∷ []))) m49 (Show 42 4 ∷ []) m50 ∷
    -- taken: filled in, since no log is left
    turn (Shown 42 (filled 7 (4 ∷ 1 ∷ []))) m50 (Fill 43 0 9 (10 ∷ 3 ∷ 7 ∷ 3 ∷ []) ∷ []) m51 ∷
    -- the ledger
    turn (Filled 43 true 10) m51 (Show 44 0 ∷ []) m52 ∷
    -- nothing is due, no log left: the put again
    turn (Shown 44 (filled 10 (10 ∷ 3 ∷ 7 ∷ 3 ∷ []))) m52 (Show 45 4 ∷ []) m53 ∷
    -- room, by what the ledger has taken
    turn (Shown 45 (filled 7 (2 ∷ 60 ∷ 1 ∷ 1 ∷ 2 ∷ 3 ∷ 4 ∷ 5 ∷ 6 ∷ 7 ∷ []))) m53 (Fill 46 4 7 (1 ∷ 77 ∷ 3 ∷ 1 ∷ 2 ∷ 3 ∷ 4 ∷ 5 ∷ 6 ∷ 7 ∷ 8 ∷ []) ∷ []) m54 ∷
    -- filled: told, and at rest
    turn (Filled 46 true 8) m54 (Tell 110 Yes ∷ []) m55 ∷
    -- an answer at rest, again
    turn (Filled 46 true 8) m55 [] m55 ∷
    -- a call at rest starts at once
    turn (Ask 111 (Out' 4 0)) m55 (Show 48 0 ∷ []) m56 ∷
    -- none are asked for: none are told
    turn (Shown 48 (filled 8 (3 ∷ []))) m56 (Tell 111 (Outs []) ∷ []) m57 ∷
    -- a call at rest
    turn (Ask 112 (Out' 4 7)) m57 (Show 50 0 ∷ []) m58 ∷
    -- a ledger with no pages
    turn (Shown 50 (filled 8 (10 ∷ []))) m58 (Tell 112 (Outs []) ∷ []) m59 ∷
    -- a call at rest
    turn (Ask 113 (Put 1 (ev 9 1 2))) m59 (Show 52 8 ∷ []) m60 ∷
    -- calls wait
    turn (Ask 114 (Put 0 (Still 10))) m60 [] m61 ∷
    -- calls wait
    turn (Ask 115 (Put 1 (Still 11))) m61 [] m62 ∷
    -- calls wait
    turn (Ask 116 (Put 0 (Still 12))) m62 [] m63 ∷
    -- calls wait
    turn (Ask 117 (Put 1 (Still 13))) m63 [] m64 ∷
    -- calls wait
    turn (Ask 118 (Put 0 (Still 14))) m64 [] m65 ∷
    -- calls wait
    turn (Ask 119 (Put 1 (Still 15))) m65 [] m66 ∷
    -- calls wait
    turn (Ask 120 (Put 0 (Still 16))) m66 [] m67 ∷
    -- a ninth call is handed back
    turn (Ask 121 (Put 1 (ev 9 1 2))) m67 (Tell 121 (No 11) ∷ []) m67 ∷
    -- also one that is wrong
    turn (Ask 122 (Put 2 (Still 4611686018427387904))) m67 (Tell 122 (No 11) ∷ []) m67 ∷
    -- also one that is not built
    turn (Ask 123 (Drop 1)) m67 (Tell 123 (No 11) ∷ []) m67 ∷
    -- four of eight are for this log
    turn (Shown 52 (filled 2 [])) m67 (Fill 53 8 2 (1 ∷ 77 ∷ 4 ∷ 9 ∷ 11 ∷ 13 ∷ 15 ∷ []) ∷ []) m68 ∷
    -- the batch counts: still a ninth
    turn (Ask 124 (Put 1 (ev 9 1 2))) m68 (Tell 124 (No 11) ∷ []) m68 ∷
    -- filled: all four are told, and the next log
    turn (Filled 53 true 3) m68 (Tell 113 Yes ∷ Tell 115 Yes ∷ Tell 117 Yes ∷ Tell 119 Yes ∷ Show 54 4 ∷ []) m69 ∷
    -- now there is room for a call
    turn (Ask 125 (Put 1 (ev 9 1 2))) m69 [] m70 ∷
    []

-- of two logs; its first mind is the one that it begins with
abbrev pub Holds : Turn → Type 0
Holds t = (((worker slate 2).turns t.message t.before).does ≡ t.does) × (((worker slate 2).turns t.message t.before).mind ≡ t.after)

abbrev pub All : List Turn → Type 0
All [] = (worker slate 2).begins 1 77 ≡ m0
All (t ∷ ts) = Holds t × All ts

abbrev pub TurnsTable : Type 0
TurnsTable = All table
