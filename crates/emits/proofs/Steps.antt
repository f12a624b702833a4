-- Events taken one by one, and rows that have ended let go one by one.
-- Assumes nothing.
use Rattle.std.proofs.Common.{◌≡◌, ℕ, zero, suc, ◌+◌, ◌<◌, ◌≤◌, ◌^◌, ◌≢◌, ◌⊎◌, true, false, nat_le, List, [], ◌∷◌, ◌++◌, map, length, get_or, drop, Some, None, inl, inr, sym, refl, ap, ◌∙◌, append_assoc, arith}
use Rattle.std.specs.List.{All}
use Rattle.std.proofs.lemmas.Bool.{le-leb, lt-leb, eq-eqb, ne_eqb}
use Rattle.std.proofs.lemmas.Bool.Decides.{nat_tests}
use Rattle.std.proofs.lemmas.List.{drop_all, drop_more, get_or-map, length-map}
use Rattle.streams.specs.Meaning.{Event, Stage, word, end_of}
use Rattle.book.specs.Rows.{Row}
use Rattle.book.specs.Queue.{Queue, place}
use Rattle.book.specs.Flow.{row_of, how_of, onward}
use Rattle.book.specs.Due.{Sizes, Emitted, emit, emit_by, go_on, popped, then', take'}
use Rattle.book.specs.Ledger.{has_room, take_events}
use Rattle.book.specs.Small.{StagesFit}
use Rattle.book.proofs.Small.{end_fits}
use Rattle.plans.specs.declared.stages.Stage.{Stage as Code}
use Rattle.plans.specs.Model.{stage_of, event_in, events_of}
use Rattle.rows.specs.declared.row.Row.{Row as CodeRow}
use Rattle.rows.specs.Model.{rows_of, row_of as as_row}
use Rattle.rows.proofs.Places.{as_long}
use Rattle.emits.specs.Model.{IsEnded}

-- TAKE: no stage; an event that is kept; one that is not
pub take_none : (sts : List Code) (e : Event) (q : Queue) → length sts < 1 → q ≡ take' (map stage_of sts) e q
unfolding take'
take_none [] e q h = refl
take_none (st ∷ sts) e q h = absurd (omega arith)

pub take_kept : (sts : List Code) (d : Code) (e : Event) (r : Row) (q : Queue) → 1 ≤ length sts → d ≡ get_or sts 0 d → word (stage_of d).keep' e ≢ 0 → r ≡ row_of (stage_of d) 0 e
    → place (how_of (map stage_of sts)) r q ≡ take' (map stage_of sts) e q
unfolding take'
take_kept [] d e r q some is kept row = absurd (omega arith)
take_kept (st ∷ sts) d e r q some is kept row =
    let z : d ≡ st = is in
    let k : word (stage_of st).keep' e ≢ 0 = rw z at kept in
    ap (λ (x : Row). place (how_of (map stage_of (st ∷ sts))) x q) (row ∙ ap (λ (x : Code). row_of (stage_of x) 0 e) z) ∙ sym (rw (ne_eqb (word (stage_of st).keep' e) 0 k) refl)

pub take_left : (sts : List Code) (d : Code) (e : Event) (q : Queue) → 1 ≤ length sts → d ≡ get_or sts 0 d → StagesFit (map stage_of sts) → e.time < 2 ^ 62 → (word (stage_of d).keep' e ≡ 0) ⊎ (2 ^ 64 ≤ end_of (stage_of d).size e.time)
    → q ≡ take' (map stage_of sts) e q
unfolding take'
take_left [] d e q some is fit lt h = absurd (omega arith)
take_left (st ∷ sts) d e q some is fit lt (inl h) =
    let z : d ≡ st = is in
    let k : word (stage_of st).keep' e ≡ 0 = rw z at h in
    sym (rw (eq-eqb (word (stage_of st).keep' e) 0 k) refl)
take_left (st ∷ sts) d e q some is fit lt (inr h) =
    let z : d ≡ st = is in
    let k : 2 ^ 64 ≤ end_of (stage_of st).size e.time = rw z at h in
    absurd (omega (arith, k, end_fits (stage_of st).size e.time fit.0, fit.1, lt))

-- is there room
pub room_buffer : (z : Sizes) (q : Queue) (front buffer : List (List ℕ)) → rows_of front ≡ q.front → length front ≤ z.front → rows_of buffer ≡ q.buffer → nat_le (length buffer) z.buffer ≡ has_room z q
unfolding has_room
room_buffer z q front buffer f le b =
    let short : length q.front ≤ z.front = omega (arith, le, as_long front f) in
    let long : length buffer ≡ length q.buffer = as_long buffer b in
    ap (λ (n : ℕ). nat_le n z.buffer) long ∙ sym (rw (le-leb (length q.front) z.front short) refl)

pub room_front : (z : Sizes) (q : Queue) (front : List (List ℕ)) → rows_of front ≡ q.front → z.front < length front → nat_le (length front) z.front ≡ has_room z q
unfolding has_room
room_front z q front f lt =
    let long : z.front < length q.front = omega (arith, lt, as_long front f) in
    rw (lt-leb (length front) z.front lt, lt-leb (length q.front) z.front long) refl

-- TAKE EVENTS: one more; no room; none left
pub took_more : (z : Sizes) (sts : List Stage) (slots : List (List ℕ)) (n i : ℕ) (d : List ℕ) (e : Event) (q : Queue) → n < length slots → e ≡ event_in (get_or slots n d) → has_room z q ≡ true
    → take_events z sts (events_of (drop n slots)) i q ≡ take_events z sts (events_of (drop (n + 1) slots)) (suc i) (take' sts e q)
unfolding take_events
took_more z sts slots n i d e q lt is room =
    ap (λ (x : List (List ℕ)). take_events z sts (events_of x) i q) (drop_more slots n d lt) ∙ ap (λ (x : Event). take_events z sts (x ∷ events_of (drop (n + 1) slots)) i q) (sym is) ∙ rw room refl

pub took_stop : (z : Sizes) (sts : List Stage) (slots : List (List ℕ)) (n i : ℕ) (q : Queue) → n < length slots → has_room z q ≡ false → take_events z sts (events_of (drop n slots)) i q ≡ record { taken = i; queue = q }
unfolding take_events
took_stop z sts slots n i q lt full = ap (λ (x : List (List ℕ)). take_events z sts (events_of x) i q) (drop_more slots n [] lt) ∙ rw full refl

pub took_all : (z : Sizes) (sts : List Stage) (slots : List (List ℕ)) (n i : ℕ) (q : Queue) → length slots ≤ n → take_events z sts (events_of (drop n slots)) i q ≡ record { taken = i; queue = q }
unfolding take_events
took_all z sts slots n i q le = ap (λ (x : List (List ℕ)). take_events z sts (events_of x) i q) (drop_all n slots le)

-- with room, the front and the buffer are no longer than they should be
pub room_is : (z : Sizes) (q : Queue) → true ≡ has_room z q → (length q.front ≤ z.front) × (length q.buffer ≤ z.buffer)
unfolding has_room
room_is z q h = grind (arith, nat_tests)

-- each event is early enough
pub time_at : (slots : List (List ℕ)) (n : ℕ) (d : List ℕ) (e : Event) → All (λ e. e.time < 2 ^ 62) (events_of slots) → n < length slots → e ≡ event_in (get_or slots n d) → e.time < 2 ^ 62
time_at slots n d e h lt is =
    let p : e ≡ get_or (events_of slots) n (event_in d) = is ∙ sym (get_or-map event_in slots n d (event_in d) lt) in
    rw p (h n (event_in d) (omega (arith, lt, length-map slots event_in)))

-- EMIT: a row that has ended, and none that has
pub ended_at : (m : ℕ) (rs : List Row) (q : CodeRow) → IsEnded m rs (Some q) → (1 ≤ length rs) × (q.at.end.0 ≤ m)
ended_at m [] q h = absurd h
ended_at m (r ∷ rs) q h = (omega arith, omega (arith, h.1, ap (λ (x : Row). x.at.end) h.0))

pub emit_more : (sts : List Stage) (m k : ℕ) (q : Queue) (r : CodeRow) → IsEnded m q.front (Some r)
    → emit sts m (suc k) q ≡ then' (go_on (how_of sts) (onward sts (as_row r)) (popped (drop 1 q.front) q)).outs (emit sts m k (go_on (how_of sts) (onward sts (as_row r)) (popped (drop 1 q.front) q)).queue)
unfolding emit emit_by
emit_more sts m k q r h = go q.front h
  where
    go : (rs : List Row) → IsEnded m rs (Some r)
        → emit_by sts m (emit sts m k) rs q ≡ then' (go_on (how_of sts) (onward sts (as_row r)) (popped (drop 1 rs) q)).outs (emit sts m k (go_on (how_of sts) (onward sts (as_row r)) (popped (drop 1 rs) q)).queue)
    go [] x = absurd x
    go (c ∷ cs) x = rw (le-leb c.at.end m x.1, ← x.0) refl

pub emit_stop : (sts : List Stage) (m k : ℕ) (q : Queue) → IsEnded m q.front None → emit sts m k q ≡ record { queue = q; outs = [] }
unfolding emit emit_by
emit_stop sts m zero q h = refl
emit_stop sts m (suc k) q h = go q.front h
  where
    go : (rs : List Row) → IsEnded m rs None → emit_by sts m (emit sts m k) rs q ≡ record { queue = q; outs = [] }
    go [] x = refl
    go (c ∷ cs) x = rw (lt-leb c.at.end m x) refl

-- what came out before
pub then_both : (xs ys : List Event) (e : Emitted) → then' xs (then' ys e) ≡ then' (xs ++ ys) e
then_both xs ys e = ap (λ (x : List Event). record { queue = e.queue; outs = x }) (sym (append_assoc xs ys e.outs))

pub emit_none : (sts : List Stage) (m : ℕ) (q : Queue) → emit sts m 0 q ≡ record { queue = q; outs = [] }
unfolding emit
emit_none sts m q = refl
