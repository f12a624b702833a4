-- What is promised of the whole, and of its parts. Each is a type; a proof of the type is the theorem.
-- Assumes nothing.
use Rattle.std.specs.Prelude.{◌≡◌, ℕ, ◌<◌, ◌≤◌, Bool, cond, not, T, List, [], ◌∷◌, ◌++◌, length}
use mathlib.Core.List.{Memᴰ}
use Rattle.streams.specs.Meaning.{Event, Entry, Stage, Plan, Cell, mark, latest, all_in_time, cells, ended, out, word}
use Rattle.streams.specs.Calls.{Call, Out', Reply, No, Outs, State, begins, put_in, drop_of, first_of, Answers, plan_ok, core}
use Rattle.streams.specs.Hands.{Hand, Ask, Keeper, Open, Ready, Book, OneBook, BusyAtNine, OneIsEnough, Seen, told, tells, Scene, here, Goes, Alone, asking, turned, is_used, count_at}

-- there is room for 2 to the 36 bytes
abbrev pub room : ℕ
room = 68719476736

abbrev pub streams : Plan → (logs : ℕ) → (Call → Bool) → Keeper Call Reply
streams p n can = record { State = State; start = begins n; May = Answers p can room; busy = No 11 }

-- which plans a promise is about: those of one stage, or all
abbrev pub Plans : Type 1
Plans = Plan → Type 0

abbrev pub OneStage : Plans
OneStage p = length p.stages ≡ 1

abbrev pub AllPlans : Plans
AllPlans p = p ≡ p

abbrev pub Code : (M : Type 0) → Type 1
Code M = Plan → (logs : ℕ) → Hand M Call Reply

-- IT COMES OUT. From whatever has come to be, any one hand that is there has a way with the shelf alone to where, asked for what came out, it answers all that there is, up to as many as were asked for.
abbrev pub ComesOut : {M : Type 0} → Plans → (Call → Bool) → Code M → Type 0
ComesOut {M} plans can h =
    (p : Plan) → plans p → T (plan_ok p) → (logs : ℕ) → 1 ≤ logs → logs ≤ 256 → (all n : ℕ) → 1 ≤ all → all ≤ 64 → n < 72057594037927936 → (es : List (Seen Call Reply)) (s : Scene (h p logs).Mind M) → Goes (h p logs) all n es s →
    (i c : ℕ) (m : (h p logs).Mind) → i < all → s.hand i ≡ here c m →
    (fs : List (Seen Call Reply)) × (t : Scene (h p logs).Mind M) × Alone (h p logs) i s fs t × (count_at i t.waits ≡ 0) × (u : State) × (os : List (Open Call)) × (rs : List (Ready Reply)) × Book (streams p logs can) (fs ++ es) u os rs ×
    ((k from most : ℕ) (v : (h p logs).Mind) → t.hand i ≡ here c v → T (not (is_used k (fs ++ es))) → k < 18446744073709551616 → most ≤ 1024 → u.dropped ≤ from →
    (gs : List (Seen Call Reply)) × (w : Scene (h p logs).Mind M) × Alone (h p logs) i (turned (h p logs) i c ((h p logs).turns (Ask k (Out' from most)) v) (asking i k t)) gs w ×
    Memᴰ (told i k (Outs (first_of most (drop_of from (out p u.logs))))) (gs ++ tells i ((h p logs).turns (Ask k (Out' from most)) v).does))

-- THE MAIN PROMISE. For every plan and up to 256 logs, with up to 64 hands that come and go and know nothing when they come, whatever is lost, late, doubled or out of order on its way between hands and to and from
-- the shelf: what customers see at all hands is what one book-keeper would tell, who shows of what comes out a part of what the logs give, from where it was asked; a call too many is handed back at once; one hand
-- is enough to answer, and all comes out.
abbrev pub Whole : {M : Type 0} → Plans → (Call → Bool) → Code M → Type 0
Whole {M} plans can h =
    ((p : Plan) → plans p → T (plan_ok p) → (logs : ℕ) → 1 ≤ logs → logs ≤ 256 → OneBook (streams p logs can) (h p logs) × BusyAtNine (streams p logs can) (h p logs) × OneIsEnough (h p logs)) × ComesOut plans can h

-- the core: plans of one stage, and the calls that are built
abbrev pub CoreWhole : {M : Type 0} → Code M → Type 0
CoreWhole {M} h = Whole OneStage core h

-- 1. What came out stands: more in the logs only makes it longer.
abbrev pub OutStands : Type 0
OutStands = (p : Plan) → T (plan_ok p) → (ls : List (List Entry)) (n : ℕ) (e : Entry) → (more : List Event) × (out p (put_in n e ls) ≡ out p ls ++ more)

-- 2. In whatever order events of one window and key come together, the same comes of them.
abbrev pub AnyOrder : Type 0
AnyOrder = (st : Stage) (es fs : List Event) (e f : Event) → cells st (es ++ (e ∷ f ∷ fs)) ≡ cells st (es ++ (f ∷ e ∷ fs))

-- 3. Cut in two by any rule on keys as they become, what comes of each part is what comes of all, of those keys.
unfoldable pub keep_cells : (ℕ → Bool) → List Cell → List Cell
keep_cells f [] = []
keep_cells f (c ∷ cs) = cond (f c.key) (c ∷ keep_cells f cs) (keep_cells f cs)

unfoldable pub keep_events : (Event → Bool) → List Event → List Event
keep_events f [] = []
keep_events f (e ∷ es) = cond (f e) (e ∷ keep_events f es) (keep_events f es)

abbrev pub ByKeys : Type 0
ByKeys = (st : Stage) (mine : ℕ → Bool) (es : List Event) → cells st (keep_events (λ (e : Event). mine (word st.key e)) es) ≡ keep_cells mine (cells st es)

-- 4. Windows that have ended are done: nothing that comes in time later is in them.
abbrev pub EndedIsDone : Type 0
EndedIsDone = (p : Plan) (ls : List (List Entry)) (n : ℕ) (e : Entry) → (st : Stage) → 0 < st.size → ended (mark p.late ls) (cells st (all_in_time p.late (put_in n e ls))) ≡ ended (mark p.late ls) (cells st (all_in_time p.late ls))

-- 5. What must be known of logs is little: each one's latest time, and the first stage's cells.
unfoldable pub latests : List (List Entry) → List ℕ
latests [] = []
latests (l ∷ ls) = latest 0 l ∷ latests ls

abbrev pub LittleIsEnough : Type 0
LittleIsEnough =
    (late : ℕ) (st : Stage) (sts : List Stage) (ls ks : List (List Entry)) → latests ls ≡ latests ks → cells st (all_in_time late ls) ≡ cells st (all_in_time late ks) →
    (n : ℕ) (e : Entry) → (cells st (all_in_time late (put_in n e ls)) ≡ cells st (all_in_time late (put_in n e ks))) × (out (record { late = late; stages = st ∷ sts }) (put_in n e ls) ≡ out (record { late = late; stages = st ∷ sts }) (put_in n e ks))
