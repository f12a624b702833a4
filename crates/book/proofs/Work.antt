-- How much is left to do, in numbers: takes that are left, each of which lowers it, and the most steps between two takes.
use Rattle.std.proofs.Common.{◌≡◌, ℕ, zero, suc, ◌+◌, ◌*◌, ◌<◌, ◌≤◌, Bool, true, false, cond, eqb, List, [], ◌∷◌, ◌++◌, length, sym, refl, ap, ◌∙◌, subst, mul-le-mul, arith}
use Rattle.std.proofs.lemmas.Bool.{eqb-true, eqb-false, eq-eqb, both_ways}
use Rattle.std.proofs.lemmas.Bool.Decides.{nat_tests}
use Rattle.streams.specs.Meaning.{Event, Entry, Stage, time_of, less_by, later, in_time, latest}
use Rattle.streams.proofs.Logs.{less_by_is}
use Rattle.book.specs.Queue.{Queue}
use Rattle.book.specs.Due.{Sizes, take'}
use Rattle.book.specs.Ledger.{LogBox, Taken, taken_of, set_at, has_room, take_events, took_to}
use Rattle.book.specs.Book.{LogRight, log_of}
use Rattle.book.specs.Ends.{weights, ranks, most_steps}
use Rattle.book.specs.Small.{EntriesFit, LogsFit, total}
use Rattle.book.specs.Work.{left_of, takes_left, most_due, most_work}
use Rattle.book.proofs.Numbers.{took_more}
use Rattle.book.proofs.Limits.{in_time_fits}

-- MORE of everything is more to do
most_up : (n m e f s t : ℕ) → n ≤ m → e ≤ f → s ≤ t → most_steps n e s ≤ most_steps m f t
most_up n m e f s t a b c =
    let w : weights e ≤ weights f = omega (arith, b) in
    let rw' : ranks e * weights e ≤ ranks f * weights f = mul-le-mul (omega (arith, b)) w in
    let ne : n * e ≤ m * f = mul-le-mul a b in
    let first : (2 * (n * e) + s) * (ranks e * weights e) ≤ (2 * (m * f) + t) * (ranks f * weights f) = mul-le-mul (omega (arith, ne, c)) rw' in
    let second : (e + 1) * weights e ≤ (f + 1) * weights f = mul-le-mul (omega (arith, b)) w in
    omega (arith, first, second, b)

pub due_few : (n e s f : ℕ) → n ≤ 8 → e ≤ f → s ≤ 640 → most_steps n e s ≤ most_due f
due_few n e s f a b c = most_up n 8 e f s 640 a b c

pub work_up : (l k e f : ℕ) → l ≤ k → e ≤ f → most_work l e ≤ most_work k f
work_up l k e f a b = mul-le-mul (omega (arith, a, b)) (omega (arith, most_up 8 8 e f 640 640 (omega arith) b (omega arith)))

-- what takes are left, with the steps that are due now and after each of them, is within all that can be
pub work_few : (t c logs e f : ℕ) → t ≤ e + logs + 1 → c ≤ most_due e → e ≤ f → t * suc (most_due e) + c ≤ most_work logs f
work_few t c logs e f a b h =
    let d : most_due e ≤ most_due f = most_up 8 8 e f 640 640 (omega arith) h (omega arith) in
    let i : suc t * suc (most_due e) ≤ (f + logs + 2) * suc (most_due f) = mul-le-mul (omega (arith, a, h)) (omega (arith, d)) in
    let j : suc t * suc (most_due e) ≡ t * suc (most_due e) + suc (most_due e) = native.Mathlib.Nat.suc-mul t (suc (most_due e)) in
    omega (arith, i, j, b)

-- fewer takes are less to do, whatever is due then
pub work_less : (t u c d e : ℕ) → t < u → c ≤ most_due e → t * suc (most_due e) + c < u * suc (most_due e) + d
work_less t u c d e a b =
    let i : suc t * suc (most_due e) ≤ u * suc (most_due e) = mul-le-mul a (omega arith) in
    let j : suc t * suc (most_due e) ≡ t * suc (most_due e) + suc (most_due e) = native.Mathlib.Nat.suc-mul t (suc (most_due e)) in
    omega (arith, i, j, b)

-- TAKES that are left: no more than entries and logs
left_few : (late : ℕ) (es : List Entry) (t : Taken) → EntriesFit es → left_of late es t ≤ length es + 1
left_few late es t f = let i : length (in_time late 0 es) ≤ length es = (in_time_fits late 0 es f).1 in go (eqb t.latest (latest 0 es)) i
  where
    go : (b : Bool) → length (in_time late 0 es) ≤ length es → less_by t.taken (length (in_time late 0 es)) + cond b 0 1 ≤ length es + 1
    go true i = omega (arith, i, less_by_is t.taken (length (in_time late 0 es)))
    go false i = omega (arith, i, less_by_is t.taken (length (in_time late 0 es)))

pub takes_few : (late : ℕ) (ls : List (List Entry)) (ts : List Taken) → LogsFit ls → takes_left late ls ts ≤ total ls + length ls
takes_few late [] ts f = omega arith
takes_few late (es ∷ ls) [] f = omega arith
takes_few late (es ∷ ls) (t ∷ ts) f = omega (arith, left_few late es t f.0, takes_few late ls ts f.1)

-- of one log fewer, of all fewer
pub takes_set : (late l : ℕ) (u : Taken) (ls : List (List Entry)) (ts : List Taken) → l < length ls → length ts ≡ length ls → (left_of late (log_of l ls) u ≤ left_of late (log_of l ls) (taken_of l ts) → takes_left late ls (set_at l u ts) ≤ takes_left late ls ts) × (left_of late (log_of l ls) u < left_of late (log_of l ls) (taken_of l ts) → takes_left late ls (set_at l u ts) < takes_left late ls ts)
unfolding log_of set_at taken_of
takes_set late zero u [] ts h n = absurd (omega arith)
takes_set late (suc l) u [] ts h n = absurd (omega arith)
takes_set late zero u (es ∷ ls) [] h n = absurd (omega arith)
takes_set late (suc l) u (es ∷ ls) [] h n = absurd (omega arith)
takes_set late zero u (es ∷ ls) (t ∷ ts) h n = (λ a. omega (arith, a), λ a. omega (arith, a))
takes_set late (suc l) u (es ∷ ls) (t ∷ ts) h n =
    let i : (left_of late (log_of l ls) u ≤ left_of late (log_of l ls) (taken_of l ts) → takes_left late ls (set_at l u ts) ≤ takes_left late ls ts) × (left_of late (log_of l ls) u < left_of late (log_of l ls) (taken_of l ts) → takes_left late ls (set_at l u ts) < takes_left late ls ts) = takes_set late l u ls ts (omega (arith, h)) (omega (arith, n)) in
    (λ a. omega (arith, i.0 a), λ a. omega (arith, i.1 a))

later_more : (m t : ℕ) → m ≤ later m t
later_more m t = grind (arith, nat_tests)

latest_more : (m : ℕ) (es : List Entry) → m ≤ latest m es
unfolding latest
latest_more m [] = omega arith
latest_more m (e ∷ es) = omega (arith, later_more m (time_of e), latest_more (later m (time_of e)) es)

pub latest_part : (m : ℕ) (es fs : List Entry) → latest m es ≤ latest m (es ++ fs)
unfolding latest
latest_part m [] fs = latest_more m fs
latest_part m (e ∷ es) fs = latest_part (later m (time_of e)) es fs

later_is : (m t : ℕ) → m ≤ t → later m t ≡ t
later_is m t h = grind (arith, nat_tests)

-- A TAKE from a log's box as it is: never more is left of that log, and less if anything changed
module _ (late : ℕ) (es : List Entry) (b : LogBox) (t : Taken) (r : LogRight late es t b) (i : ℕ) (from : t.taken ≤ i) (upto : i ≤ length (in_time late 0 es)) where
  abbrev n : ℕ
  n = length (in_time late 0 es)

  abbrev last : ℕ
  last = latest 0 es

  raised : later t.latest b.latest ≡ last
  raised = ap (later t.latest) r.holds.latest ∙ later_is t.latest last (subst (λ (x : List Entry). t.latest ≤ latest 0 x) (sym r.taken.is) (omega (arith, r.taken.latest, latest_part 0 r.taken.seen r.taken.rest)))

  late_last : (c : Bool) → cond (eqb (cond c (later t.latest b.latest) t.latest) last) 0 1 ≤ cond (eqb t.latest last) 0 1
  late_last true = subst (λ (x : ℕ). cond (eqb x last) 0 1 ≤ cond (eqb t.latest last) 0 1) (sym raised) (subst (λ (d : Bool). cond d 0 1 ≤ cond (eqb t.latest last) 0 1) (sym (eq-eqb last last refl)) (omega arith))
  late_last false = omega arith

  pub left_most : left_of late es (took_to b t i) ≤ left_of late es t
  left_most = omega (arith, late_last (eqb i (b.base + length b.events)), less_by_is t.taken n, less_by_is i n, from, upto)

  pub left_less : (took_to b t i ≡ t → ⊥) → left_of late es (took_to b t i) < left_of late es t
  left_less differ = go (eqb t.taken i) refl
    where
      last_less : t.taken ≡ i → (c : Bool) → eqb i (b.base + length b.events) ≡ c → (d : Bool) → eqb t.latest last ≡ d → cond (eqb (cond c (later t.latest b.latest) t.latest) last) 0 1 < cond d 0 1
      last_less e c k true m = absurd (differ (λ j. record { taken = sym e j; latest = same j }))
        where
          same : cond (eqb i (b.base + length b.events)) (later t.latest b.latest) t.latest ≡ t.latest
          same = ap (λ (x : Bool). cond x (later t.latest b.latest) t.latest) k ∙ both c
            where
              both : (x : Bool) → cond x (later t.latest b.latest) t.latest ≡ t.latest
              both true = raised ∙ sym (eqb-true t.latest last m)
              both false = refl
      last_less e true k false m = subst (λ (x : ℕ). cond (eqb x last) 0 1 < 1) (sym raised) (subst (λ (d : Bool). cond d 0 1 < 1) (sym (eq-eqb last last refl)) (omega arith))
      last_less e false k false m = absurd (differ (λ j. record { taken = sym e j; latest = ap (λ (x : Bool). cond x (later t.latest b.latest) t.latest) k j }))

      go : (c : Bool) → eqb t.taken i ≡ c → left_of late es (took_to b t i) < left_of late es t
      go true e = let q : t.taken ≡ i = eqb-true t.taken i e in omega (arith, q, last_less q (eqb i (b.base + length b.events)) refl (eqb t.latest last) refl, less_by_is t.taken n, less_by_is i n)
      go false e = omega (arith, eqb-false t.taken i e, late_last (eqb i (b.base + length b.events)), less_by_is t.taken n, less_by_is i n, from, upto)

-- TAKING: none is taken, or the queue changes only by those that are; while there is room, all are taken
pub took_none : (z : Sizes) (sts : List Stage) (es : List Event) (i : ℕ) (q : Queue) → (take_events z sts es i q).taken ≡ i → (take_events z sts es i q).queue ≡ q
unfolding take_events
took_none z sts [] i q e = refl
took_none z sts (x ∷ es) i q e = go (has_room z q) e (took_more z sts es (suc i) (take' sts x q))
  where
    go : (b : Bool) → (cond b (take_events z sts es (suc i) (take' sts x q)) (record { taken = i; queue = q })).taken ≡ i → suc i ≤ (take_events z sts es (suc i) (take' sts x q)).taken → (cond b (take_events z sts es (suc i) (take' sts x q)) (record { taken = i; queue = q })).queue ≡ q
    go true k m = absurd (omega (arith, k, m))
    go false k m = refl

pub took_all : (z : Sizes) (sts : List Stage) (es : List Event) (i : ℕ) (q : Queue) → has_room z (take_events z sts es i q).queue ≡ true → (take_events z sts es i q).taken ≡ i + length es
unfolding take_events
took_all z sts [] i q h = omega arith
took_all z sts (x ∷ es) i q h = go (has_room z q) refl h (took_all z sts es (suc i) (take' sts x q))
  where
    go : (b : Bool) → has_room z q ≡ b → has_room z (cond b (take_events z sts es (suc i) (take' sts x q)) (record { taken = i; queue = q })).queue ≡ true → (has_room z (take_events z sts es (suc i) (take' sts x q)).queue ≡ true → (take_events z sts es (suc i) (take' sts x q)).taken ≡ suc i + length es) → (cond b (take_events z sts es (suc i) (take' sts x q)) (record { taken = i; queue = q })).taken ≡ i + suc (length es)
    go true k m ih = omega (arith, ih m)
    go false k m ih = absurd (both_ways (has_room z q) k m)
