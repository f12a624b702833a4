-- The worker: a function from its mind and one message to what it does and its mind after, over a book of which only the operations are
-- known. One request to the store is under way at a time, each under a number of its own, and an answer under any other number changes
-- nothing. Words of other workers are ignored.
-- Assumes nothing.
use Rattle.std.specs.Prelude.{ℕ, zero, suc, ◌+◌, ◌%◌, Bool, true, false, cond, not, ◌&&◌, ◌||◌, List, [], ◌∷◌, ◌++◌, length, ◌==◌, nat_le, nat_lt}
use Rattle.streams.specs.Meaning.{Event, Entry, Plan}
use Rattle.streams.specs.Calls.{Call, Put, Out', Drop, Reply, No, Yes, Outs, entry_ok}
use Rattle.streams.specs.Hands.{Box, In, From, Shown, Filled, Ask, Beat, Out, Show, Fill, Tell, Hand}
use Rattle.streams.specs.Promise.{Code}
use Rattle.book.specs.Ledger.{log_box}
use Rattle.book.specs.Interface.{Gives, lacks, gives, Calls, nothing, alone, with_page, Next, page, reply, Filling, Ops}

-- a call that waits here
pub record Job : Type 0 where
  pub number : ℕ
  pub call : Call

-- the puts for one log that are being put by one filling, in the order in which they came: fixed from the first filling that is asked until it is settled
pub data Batch : Type 0 where
  none : Batch
  some : (log : ℕ) → List Job → Batch

-- what is awaited, under the number that was asked last
pub data Phase : Type 0 where
  -- nothing
  rest : Phase
  -- a log's box, to put into it; that the batch was filled in
  log : ℕ → Phase
  put : Phase
  -- the ledger, to look after it; with a ledger of an edition: the page that a due step calls for; that a page was filled, with the pages and
  -- the ledger that are to be filled after it; that the ledger was filled
  ledger : Phase
  page' : (edition : ℕ) → (led : List ℕ) → (box : ℕ) → Phase
  written : (edition : ℕ) → Filling → List Filling → (led : List ℕ) → Phase
  kept : Phase
  -- a log's box, to take it into the ledger, which was changed by other logs or not
  look : (edition : ℕ) → (led : List ℕ) → (changed : Bool) → (log : ℕ) → Phase
  -- for the call with a number: the ledger; a page, with what was gathered before it
  answer' : (number from most : ℕ) → Phase
  gather : (number from most : ℕ) → (led : List ℕ) → List Event → (box : ℕ) → Phase

-- what may not be lost while it lives: its number and the one by chance, the serial of its last batch, the batch, and the calls that wait
-- and are in no batch, oldest first
pub record Keep : Type 0 where
  pub me : ℕ
  pub chance : ℕ
  pub serial : ℕ
  pub batch : Batch
  pub waiting : List Job

pub record Mind : Type 0 where
  -- the number of its last request, and whether an answer was heard since the last beat
  pub asked : ℕ
  pub heard : Bool
  pub phase : Phase
  -- how far the ledger was seen to have taken each log, as the book writes it
  pub floor : List ℕ
  -- which log to look at next, and how many are left to look at
  pub place : ℕ
  pub left : ℕ
  pub keep : Keep

-- what a turn comes to: what is told to customers, at most one request, the mind after
pub record Told : Type 0 where
  pub number : ℕ
  pub reply : Reply

pub data Asks : Type 0 where
  none' : Asks
  show : ℕ → Asks
  fill : (box edition : ℕ) → List ℕ → Asks

pub record Step : Type 0 where
  pub tell : List Told
  pub ask : Asks
  pub mind : Mind

-- nothing is done
abbrev pub stays : Mind → Step
stays m = record { tell = []; ask = none'; mind = m }

-- a request, or none, under the next number; whatever was awaited before is awaited no more
abbrev pub asks : Mind → Asks → Phase → Step
asks m a f = record { tell = []; ask = a; mind = record { asked = m.asked + 1; heard = m.heard; phase = f; floor = m.floor; place = m.place; left = m.left; keep = m.keep } }

-- the mind with one part changed
abbrev pub keeping : Mind → Keep → Mind
keeping m k = record { asked = m.asked; heard = m.heard; phase = m.phase; floor = m.floor; place = m.place; left = m.left; keep = k }

abbrev pub hearing : Mind → Bool → Mind
hearing m b = record { asked = m.asked; heard = b; phase = m.phase; floor = m.floor; place = m.place; left = m.left; keep = m.keep }

abbrev pub looking : Mind → List ℕ → (place left : ℕ) → Mind
looking m fl p l = record { asked = m.asked; heard = m.heard; phase = m.phase; floor = fl; place = p; left = l; keep = m.keep }

abbrev pub waits : Keep → List Job → Keep
waits k js = record { me = k.me; chance = k.chance; serial = k.serial; batch = k.batch; waiting = js }

-- a batch is made of calls that waited, and gets its serial; it is settled
abbrev pub fixed : Keep → (log : ℕ) → (puts left : List Job) → Keep
fixed k l ps js = record { me = k.me; chance = k.chance; serial = k.serial + 1; batch = some l ps; waiting = js }

abbrev pub settled' : Keep → Keep
settled' k = record { me = k.me; chance = k.chance; serial = k.serial; batch = none; waiting = k.waiting }

abbrev pub saying : List Told → Step → Step
saying ts r = record { tell = ts; ask = r.ask; mind = r.mind }

-- calls that wait: those for a log, what they put, what is told of them
abbrev pub for_log : ℕ → Call → Bool
for_log l (Put n e) = n == l
for_log l (Out' f k) = false
for_log l (Drop n) = false

unfoldable pub keep_if : (Job → Bool) → List Job → List Job
keep_if f [] = []
keep_if f (j ∷ js) = cond (f j) (j ∷ keep_if f js) (keep_if f js)

abbrev pub entry_of : Call → List Entry → List Entry
entry_of (Put n e) es = e ∷ es
entry_of (Out' f k) es = es
entry_of (Drop n) es = es

unfoldable pub entries : List Job → List Entry
entries [] = []
entries (j ∷ js) = entry_of j.call (entries js)

unfoldable pub yeses : List Job → List Told
yeses [] = []
yeses (j ∷ js) = record { number = j.number; reply = Yes } ∷ yeses js

abbrev pub is_rest : Phase → Bool
is_rest rest = true
is_rest (log l) = false
is_rest put = false
is_rest ledger = false
is_rest (page' e x b) = false
is_rest (written e t ts x) = false
is_rest kept = false
is_rest (look e x c l) = false
is_rest (answer' k f n) = false
is_rest (gather k f n x g b) = false

abbrev pub is_nothing : Calls → Bool
is_nothing nothing = true
is_nothing alone = false
is_nothing (with_page b) = false

abbrev pub puts_of : Batch → ℕ
puts_of none = 0
puts_of (some l ps) = length ps

module _ (o : Ops) (logs : ℕ) where
  -- looks after the ledger
  abbrev pub read_ledger : Mind → Step
  read_ledger m = asks m (show 0) ledger

  -- STARTS: the first showing of what there is to do. The batch, else the call that waits longest, else the ledger, and a look at every log.
  abbrev pub start_call : Mind → (number : ℕ) → Call → Step
  start_call m k (Put l e) = asks m (show (log_box l)) (log l)
  start_call m k (Out' f n) = asks m (show 0) (answer' k f n)
  start_call m k (Drop n) = stays m

  abbrev pub start_by : Mind → Batch → List Job → Step
  start_by m (some l ps) js = asks m (show (log_box l)) (log l)
  start_by m none (j ∷ js) = start_call m j.number j.call
  start_by m none [] = read_ledger (looking m m.floor (cond (nat_lt m.place logs) m.place 0) logs)

  abbrev pub start : Mind → Step
  start m = start_by m m.keep.batch m.keep.waiting

  -- a job is done: the next one, or rest
  abbrev pub idle_by : Mind → Batch → List Job → Step
  idle_by m (some l ps) js = start_by m (some l ps) js
  idle_by m none (j ∷ js) = start_by m none (j ∷ js)
  idle_by m none [] = asks m none' rest

  abbrev pub idle : Mind → Step
  idle m = idle_by m m.keep.batch m.keep.waiting

  -- PUTS: all is told of a batch that is in
  abbrev pub settle : Mind → List Job → Step
  settle m ps = saying (yeses ps) (idle (keeping m (settled' m.keep)))

  -- a batch is added to the box and filled in; if there is no room, the ledger first takes that log, and the batch is not fixed
  abbrev pub fill_log : Mind → Keep → (log edition : ℕ) → Gives → Step
  fill_log m k l e lacks = read_ledger (looking m m.floor l 1)
  fill_log m k l e (gives bs) = asks (keeping m k) (fill (log_box l) e bs) put

  abbrev pub putting : Mind → Keep → (log : ℕ) → (puts : List Job) → Box → Step
  putting m k l ps x = fill_log m k l x.edition (o.adds m.floor k.me k.chance k.serial l x.bytes (entries ps))

  -- a log's box: a batch that it shows as served is in; else it is asked for at the edition that was shown
  abbrev pub on_log_by : Mind → (log : ℕ) → Box → Batch → Step
  on_log_by m l x none = putting m (fixed m.keep l (keep_if (λ j. for_log l j.call) m.keep.waiting) (keep_if (λ j. not (for_log l j.call)) m.keep.waiting)) l (keep_if (λ j. for_log l j.call) m.keep.waiting) x
  on_log_by m l x (some n ps) = cond (l == n) (cond (o.has x.bytes m.keep.me m.keep.chance m.keep.serial) (settle m ps) (putting m m.keep n ps x)) (start m)

  -- filled, or looks again
  abbrev pub on_put_by : Mind → Bool → Batch → Step
  on_put_by m d none = start m
  on_put_by m d (some l ps) = cond d (settle m ps) (start m)

  -- THE LEDGER: the pages that a step writes, one after the other, and then the ledger
  abbrev pub write : Mind → (edition : ℕ) → List Filling → (led : List ℕ) → Step
  write m e [] x = asks m (fill 0 e x) kept
  write m e (t ∷ ts) x = asks m (fill t.box 0 t.bytes) (written e t ts x)

  -- the next log to look at; if none is left, the ledger with all that was taken, in one filling
  abbrev pub next_log : Mind → (edition : ℕ) → (led : List ℕ) → (changed : Bool) → Step
  next_log m e x c = cond (nat_lt m.place logs && not (m.left == 0)) (asks m (show (log_box m.place)) (look e x c m.place)) (cond c (asks m (fill 0 e x) kept) (idle m))

  -- what is due first
  abbrev pub on_ledger_by : Mind → Box → Calls → Step
  on_ledger_by m x nothing = next_log m x.edition x.bytes false
  on_ledger_by m x alone = write m x.edition (o.pages x.bytes []) (o.after x.bytes [])
  on_ledger_by m x (with_page b) = asks m (show b) (page' x.edition x.bytes b)

  abbrev pub on_ledger : Mind → Box → Step
  on_ledger m x = on_ledger_by (looking m (o.raise x.bytes m.floor) m.place m.left) x (o.due x.bytes)

  -- a page that is not filled yet: the ledger in hand is older than it
  -- a page that was never filled, or by whose bytes nothing is done
  abbrev pub is_no_page : (led : List ℕ) → Box → Bool
  is_no_page l x = x.edition == 0 || not (o.differs l (o.after l x.bytes))

  abbrev pub on_page : Mind → (edition : ℕ) → (led : List ℕ) → Box → Step
  on_page m e l x = cond (is_no_page l x) (read_ledger m) (write m e (o.pages l x.bytes) (o.after l x.bytes))

  abbrev pub less_one : ℕ → ℕ
  less_one zero = zero
  less_one (suc n) = n

  -- a log was taken: if something is due then, that is done first, and this log is looked at again
  abbrev pub took_by : Mind → (edition : ℕ) → (led : List ℕ) → (changed : Bool) → (log : ℕ) → Gives → Step
  took_by m e l c n lacks = read_ledger m
  took_by m e l c n (gives x) = cond (is_nothing (o.due x)) (next_log (looking m m.floor (cond (nat_lt (n + 1) logs) (n + 1) 0) (less_one m.left)) e x (c || o.differs l x))
      (cond (c || o.differs l x) (asks m (fill 0 e x) kept) (read_ledger m))

  -- WHAT CAME OUT: by pages, if they are needed, and then told
  abbrev pub gather_by : Mind → (number from most : ℕ) → (led : List ℕ) → List Event → Next → Step
  gather_by m k f n l got (page b) = asks m (show b) (gather k f n l got b)
  gather_by m k f n l got (reply es) = saying (record { number = k; reply = Outs es } ∷ []) (idle (keeping m (waits m.keep (keep_if (λ j. not (j.number == k)) m.keep.waiting))))

  abbrev pub gathers : Mind → (number from most : ℕ) → (led : List ℕ) → List Event → Step
  gathers m k f n l got = gather_by m k f n l got (o.answer f n l got)

  -- ANSWERS OF THE STORE under the number that is awaited
  abbrev pub on_shown : Mind → Box → Phase → Step
  on_shown m x rest = stays m
  on_shown m x (log l) = on_log_by m l x m.keep.batch
  on_shown m x put = stays m
  on_shown m x ledger = on_ledger m x
  on_shown m x (page' e l b) = on_page m e l x
  on_shown m x (written e t ts l) = stays m
  on_shown m x kept = stays m
  on_shown m x (look e l c n) = took_by m e l c n (o.take l n x.bytes)
  on_shown m x (answer' k f n) = gathers m k f n x.bytes []
  on_shown m x (gather k f n l got b) = cond (x.edition == 0) (start m) (gathers m k f n l (o.more f n l got x.bytes))

  abbrev pub on_filled : Mind → Bool → Phase → Step
  on_filled m d rest = stays m
  on_filled m d (log l) = stays m
  on_filled m d put = on_put_by m d m.keep.batch
  on_filled m d ledger = stays m
  on_filled m d (page' e l b) = stays m
  on_filled m d (written e t ts l) = write m e ts l
  on_filled m d kept = read_ledger m
  on_filled m d (look e l c n) = stays m
  on_filled m d (answer' k f n) = stays m
  on_filled m d (gather k f n l got b) = stays m

  -- CALLS: refusals are told at once and ask nothing of the store
  abbrev pub refuses : Mind → (number why : ℕ) → Step
  refuses m k w = record { tell = record { number = k; reply = No w } ∷ []; ask = none'; mind = m }

  abbrev pub accepts : Mind → (number : ℕ) → Call → Step
  accepts m k c = cond (is_rest m.phase) (start (keeping m (waits m.keep (m.keep.waiting ++ (record { number = k; call = c } ∷ []))))) (stays (keeping m (waits m.keep (m.keep.waiting ++ (record { number = k; call = c } ∷ [])))))

  abbrev pub judges : Mind → (number : ℕ) → Call → Step
  judges m k (Put l e) = cond (entry_ok e) (cond (nat_lt l logs) (accepts m k (Put l e)) (refuses m k 2)) (refuses m k 1)
  judges m k (Out' f n) = cond (nat_le n 1024) (accepts m k (Out' f n)) (refuses m k 1)
  judges m k (Drop n) = refuses m k 12

  -- A TURN. A ninth call is handed back; a beat on which nothing was heard since the last one starts again.
  unfoldable pub acts : In ℕ Call → Mind → Step
  acts (From j w) m = stays m
  acts (Shown q x) m = cond (q == m.asked) (on_shown (hearing m true) x m.phase) (stays m)
  acts (Filled q d e) m = cond (q == m.asked) (on_filled (hearing m true) d m.phase) (stays m)
  acts (Ask k c) m = cond (nat_lt (length m.keep.waiting + puts_of m.keep.batch) 8) (judges m k c) (refuses m k 11)
  acts Beat m = cond (is_rest m.phase || not m.heard) (start (hearing m false)) (stays (hearing m false))

-- as a hand does it
unfoldable pub telling : List Told → List (Out ℕ Reply) → List (Out ℕ Reply)
telling [] os = os
telling (t ∷ ts) os = Tell t.number t.reply ∷ telling ts os

abbrev pub asking' : ℕ → Asks → List (Out ℕ Reply)
asking' q none' = []
asking' q (show b) = Show q b ∷ []
asking' q (fill b e bs) = Fill q b e bs ∷ []

abbrev pub turn_of : Step → record { does : List (Out ℕ Reply); mind : Mind }
turn_of r = record { does = telling r.tell (asking' r.mind.asked r.ask); mind = r.mind }

-- a worker knows nothing but its number, by which workers begin their looks at different logs
abbrev pub begins : (logs me chance : ℕ) → Mind
begins logs me chance = record { asked = 0; heard = true; phase = rest; floor = []; place = me % logs; left = 0; keep = record { me = me; chance = chance; serial = 0; batch = none; waiting = [] } }

abbrev pub worker : Ops → (logs : ℕ) → Hand ℕ Call Reply
worker o logs = record { Mind = Mind; begins = begins logs; turns = λ x m. turn_of (acts o logs x m) }

-- for every plan and number of logs, with the operations of a book for each
abbrev pub workers : (Plan → (logs : ℕ) → Ops) → Code ℕ
workers o p logs = worker (o p logs) logs
