-- The small book keeps Safe and Live, and answers all that there is of plans of which nothing comes out.
use Rattle.std.proofs.Common.{◌≡◌, ℕ, zero, suc, ◌+◌, ◌*◌, ◌<◌, ◌≤◌, Bool, true, false, not, T, eqb, leb, ◌⊎◌, List, [], ◌∷◌, length, sym, refl, ap, ◌∙◌, subst, ap₂, inl, inr, arith}
use mathlib.Core.List.{Memᴰ}
use Rattle.std.proofs.lemmas.Bool.{cases_Bool, eqb-true, eq-eqb, le-leb, and_from, or_parts, or_from, not_from_true, both_ways}
use Rattle.streams.specs.Meaning.{Event, Entry, Plan, Stage, Num, Key, Value, Count, word, mark, all_in_time, cells, ended, as_events, through_stages, out}
use Rattle.streams.specs.Calls.{first_of, drop_of, parts, expr_ok, every}
use Rattle.streams.specs.Hands.{Box, at, all_bytes}
use Rattle.book.specs.Ledger.{log_box}
use Rattle.book.specs.Interface.{gives, with_page, reply, Filling, IsPage, Safe, Now, Stays}
use Rattle.book.specs.Live.{Live}
use Rattle.worker.specs.Theorems.{KeepsInterface}
use Rattle.worker.specs.Small.{small_has, small_adds, small_due, small_after, small_pages, small_take, small_differs, small, smalls, SmallWithin, Silent, SmallWhole}
use Rattle.shelf.proofs.Places.{at_self, at_one, at_other}
use Rattle.worker.proofs.Invariant.{log_some}
use Rattle.worker.proofs.Smallbytes.{length_adds, bytes_adds, small_none, small_new, small_mine, small_other}
use Rattle.worker.proofs.Comesout.{worker_within}
use Rattle.worker.proofs.Together.{worker_whole}
use Rattle.shelf.proofs.Scripts.{Fits}

fits_of : (x : List ℕ) → length x ≤ 1024 → all_bytes x ≡ true → Fits x
fits_of x le b = subst T (sym (and_from (leb (length x) 1048576) (all_bytes x) (le-leb (length x) 1048576 (omega (arith, le))) b)) tt

abbrev Spent' : List ℕ → ℕ → Type 0
Spent' [] b = ⊥
Spent' (zero ∷ l) b = ⊥
Spent' (suc zero ∷ l) b = ⊥
Spent' (suc (suc zero) ∷ l) b = b ≡ 5
Spent' (suc (suc (suc n)) ∷ l) b = (b ≡ 5) ⊎ (b ≡ 6)

abbrev Few : List ℕ → Type 0
Few x = (length x ≤ 1024) × (all_bytes x ≡ true)

pub record Fine (f : ℕ → Box) : Type 0 where
  pub few : (b : ℕ) → Few (f b).bytes
  pub spent : (b : ℕ) → Spent' (f 0).bytes b → IsPage b × (1 ≤ (f b).edition)

five : IsPage 5
five = (λ e. omega (arith, e), λ l e. omega (arith, e))

six : IsPage 6
six = (λ e. omega (arith, e), λ l e. omega (arith, e))

fine_other : (f : ℕ → Box) (d : ℕ) (y : Box) → Fine f → Few y.bytes → 1 ≤ y.edition → (d ≡ 0 → ⊥) → Fine (at d y f)
fine_other f d y h fw ed no0 = record {
  few = λ b. at_one (λ z. Few z.bytes) d y f b (λ _. fw) (λ _. h.few b);
  spent = λ b s. let t = h.spent b (subst (λ z. Spent' z.bytes b) (at_other d y f 0 (λ z. no0 (sym z))) s) in (t.0, at_one (λ z. 1 ≤ z.edition) d y f b (λ _. ed) (λ _. t.1));
}

fine_led : (f : ℕ → Box) (y : Box) → Fine f → Few y.bytes → ((b : ℕ) → Spent' y.bytes b → IsPage b × (1 ≤ (f b).edition)) → Fine (at 0 y f)
fine_led f y h fw sp = record {
  few = λ b. at_one (λ z. Few z.bytes) 0 y f b (λ _. fw) (λ _. h.few b);
  spent = λ b s. let t = sp b (subst (λ z. Spent' z.bytes b) (at_self 0 y f) s) in (t.0, subst (λ z. 1 ≤ z.edition) (sym (at_other 0 y f b t.0.0)) t.1);
}

abbrev Keeps : (ls : List (List Entry)) (f : ℕ → Box) (ls' : List (List Entry)) (f' : ℕ → Box) → Type 0
Keeps ls f ls' f' = Stays (λ ls f x. Unit {0}) (λ ls f l x. Unit {0}) (λ ls f x. Unit {0}) Spent' ls f ls' f'

keeps_other : (ls ls' : List (List Entry)) (f : ℕ → Box) (d : ℕ) (y : Box) → (d ≡ 0 → ⊥) → Keeps ls f ls' (at d y f)
keeps_other ls ls' f d y no0 = record { ledger = λ x h. tt; log = λ l x h. tt; floor = λ x h. tt; spent = λ b h. subst (λ z. Spent' z.bytes b) (sym (at_other d y f 0 (λ z. no0 (sym z)))) h }

keeps_led : (ls : List (List Entry)) (f : ℕ → Box) (y : Box) → ((b : ℕ) → Spent' (f 0).bytes b → Spent' y.bytes b) → Keeps ls f ls (at 0 y f)
keeps_led ls f y s = record { ledger = λ x h. tt; log = λ l x h. tt; floor = λ x h. tt; spent = λ b h. subst (λ z. Spent' z.bytes b) (sym (at_self 0 y f)) (s b h) }

one_of : (Q : Filling → Type 0) (t : Filling) → Q t → (a : Filling) → Memᴰ a (t ∷ []) → Q a
one_of Q t q a (Memᴰ.head e) = subst Q (sym e) q
one_of Q t q a (Memᴰ.tail m) = elim m [ ]

due_is : (l : List ℕ) (b : ℕ) → small_due l ≡ with_page b → (b ≡ 5) × Spent' l b
unfolding small_due
due_is [] b e = absurd (let z : ◌≡◌ {A = ℕ} 0 1 = cc in omega arith)
due_is (zero ∷ l) b e = absurd (let z : ◌≡◌ {A = ℕ} 0 1 = cc in omega arith)
due_is (suc zero ∷ l) b e = absurd (let z : ◌≡◌ {A = ℕ} 0 1 = cc in omega arith)
due_is (suc (suc zero) ∷ l) b e = let q : 5 ≡ b = cc in (sym q, sym q)
due_is (suc (suc (suc n)) ∷ l) b e = absurd (let z : ◌≡◌ {A = ℕ} 0 1 = cc in omega arith)

pages_are : (l x : List ℕ) (a : Filling) → Memᴰ a (small_pages l x) → IsPage a.box × (Spent' l a.box → ⊥) × Spent' (small_after l) a.box
unfolding small_pages small_after
pages_are [] x a m = elim m [ ]
pages_are (zero ∷ l) x a m = elim m [ ]
pages_are (suc zero ∷ l) x a m = one_of (λ a. IsPage a.box × (⊥ → ⊥) × (a.box ≡ 5)) (record { box = 5; bytes = 7 ∷ [] }) (five, λ z. z, refl) a m
pages_are (suc (suc zero) ∷ l) x a m = one_of (λ a. IsPage a.box × (a.box ≡ 5 → ⊥) × ((a.box ≡ 5) ⊎ (a.box ≡ 6))) (record { box = 6; bytes = x }) (six, λ e. omega (arith, e), inr refl) a m
pages_are (suc (suc (suc n)) ∷ l) x a m = elim m [ ]

pages_same : (l x : List ℕ) (a b : Filling) → Memᴰ a (small_pages l x) → Memᴰ b (small_pages l x) → a.bytes ≡ b.bytes
unfolding small_pages
pages_same [] x a b m k = elim m [ ]
pages_same (zero ∷ l) x a b m k = elim m [ ]
pages_same (suc zero ∷ l) x a b m k = one_of (λ a. a.bytes ≡ 7 ∷ []) (record { box = 5; bytes = 7 ∷ [] }) refl a m ∙ sym (one_of (λ a. a.bytes ≡ 7 ∷ []) (record { box = 5; bytes = 7 ∷ [] }) refl b k)
pages_same (suc (suc zero) ∷ l) x a b m k = one_of (λ a. a.bytes ≡ x) (record { box = 6; bytes = x }) refl a m ∙ sym (one_of (λ a. a.bytes ≡ x) (record { box = 6; bytes = x }) refl b k)
pages_same (suc (suc (suc n)) ∷ l) x a b m k = elim m [ ]

pages_few : (f : ℕ → Box) (l x : List ℕ) → Fine f → Now f (small_due l) x → (a : Filling) → Memᴰ a (small_pages l x) → Few a.bytes
unfolding small_pages small_due all_bytes
pages_few f [] x h now a m = elim m [ ]
pages_few f (zero ∷ l) x h now a m = elim m [ ]
pages_few f (suc zero ∷ l) x h now a m = one_of (λ a. Few a.bytes) (record { box = 5; bytes = 7 ∷ [] }) (omega arith, refl) a m
pages_few f (suc (suc zero) ∷ l) x h now a m = one_of (λ a. Few a.bytes) (record { box = 6; bytes = x }) (subst Few now (h.few 5)) a m
pages_few f (suc (suc (suc n)) ∷ l) x h now a m = elim m [ ]

after_few : (l : List ℕ) → Few l → Few (small_after l)
unfolding small_after all_bytes
after_few [] h = h
after_few (zero ∷ l) h = h
after_few (suc zero ∷ l) h = (omega arith, refl)
after_few (suc (suc zero) ∷ l) h = (omega arith, refl)
after_few (suc (suc (suc n)) ∷ l) h = h

after_spent : (l : List ℕ) (b : ℕ) → Spent' l b → Spent' (small_after l) b
unfolding small_after
after_spent [] b h = h
after_spent (zero ∷ l) b h = h
after_spent (suc zero ∷ l) b h = absurd h
after_spent (suc (suc zero) ∷ l) b h = inl h
after_spent (suc (suc (suc n)) ∷ l) b h = h

after_back : (f : ℕ → Box) (l x : List ℕ) → ((b : ℕ) → Spent' l b → IsPage b × (1 ≤ (f b).edition)) → ((a : Filling) → Memᴰ a (small_pages l x) → (1 ≤ (f a.box).edition) × ((f a.box).bytes ≡ a.bytes)) → (b : ℕ) → Spent' (small_after l) b → IsPage b × (1 ≤ (f b).edition)
unfolding small_after small_pages
after_back f [] x h ps b s = absurd s
after_back f (zero ∷ l) x h ps b s = absurd s
after_back f (suc zero ∷ l) x h ps b s = subst (λ z. IsPage z × (1 ≤ (f z).edition)) (sym s) (five, (ps (record { box = 5; bytes = 7 ∷ [] }) (Memᴰ.head refl)).0)
after_back f (suc (suc zero) ∷ l) x h ps b (inl s) = h b s
after_back f (suc (suc zero) ∷ l) x h ps b (inr s) = subst (λ z. IsPage z × (1 ≤ (f z).edition)) (sym s) (six, (ps (record { box = 6; bytes = x }) (Memᴰ.head refl)).0)
after_back f (suc (suc (suc n)) ∷ l) x h ps b s = h b s

take_few : (l x : List ℕ) → Few l → Few (small_take l x)
unfolding small_take all_bytes
take_few [] [] h = h
take_few [] (a ∷ b) h = (omega arith, refl)
take_few (z ∷ y) x h = h

take_back : (l x : List ℕ) (b : ℕ) → Spent' (small_take l x) b → Spent' l b
unfolding small_take
take_back [] [] b h = h
take_back [] (a ∷ x) b h = h
take_back (z ∷ y) x b h = h

take_spent : (l x : List ℕ) (b : ℕ) → Spent' l b → Spent' (small_take l x) b
unfolding small_take
take_spent [] x b h = absurd h
take_spent (z ∷ y) x b h = h

gives_are : (x y : List ℕ) → gives x ≡ gives y → x ≡ y
gives_are x y e = cc

replies : (x y : List Event) → reply x ≡ reply y → x ≡ y
replies x y e = cc

pub small_safe : (p : Plan) (logs : ℕ) → logs ≤ 256 → Safe small p logs
unfolding first_of all_bytes
small_safe p logs lg = record {
  bound = 72057594037927936 + 24 * logs + 2000;
  far = omega arith;
  Sound = λ n ls f. Fine f;
  OldLedger = λ ls f x. Unit {0};
  OldLog = λ ls f l x. Unit {0};
  Floor = λ ls f x. Unit {0};
  Spent = Spent';
  laws = record {
    ledger_now = λ {n} {ls} {f} h. tt;
    log_now = λ {n} {ls} {f} h l. tt;
    floor_none = λ ls f. tt;
    floor_raise = λ ls f fl x a b. tt;
    starts = record { few = λ b. (omega arith, refl); spent = λ b s. absurd s };
    later = λ {n} {ls} {f} h. h;
    due_page = λ l b e. subst IsPage (sym (due_is l b e).0) five;
    pages_page = λ l x a m. (pages_are l x a m).0;
    answer_page = λ f n l got b e. absurd (let z : ◌≡◌ {A = ℕ} 0 1 = cc in omega arith);
    pages_one = λ l x a b m k e. pages_same l x a b m k;
    spent_filled = λ {n} {ls} {f} h b s. h.spent b s;
    due_spent = λ {n} {ls} {f} h b e. (due_is (f 0).bytes b e).1;
    pages_new = λ {n} {ls} {f} h x now a m. ((pages_are (f 0).bytes x a m).1, let q = pages_few f (f 0).bytes x h now a m in fits_of a.bytes q.0 q.1);
    answer_spent = λ {n} {ls} {f} h from most l got b u e. absurd (let z : ◌≡◌ {A = ℕ} 0 1 = cc in omega arith);
    has_none = small_none;
    has_new = λ ls f n i c s l fl old bs es sm lt was tag e. let a = tag.from in let b = tag.upto in subst (λ z. small_has z i c s ≡ true) (gives_are (small_adds old i c s) bs e) (small_new old i c s a tag.life (omega (arith, b, sm, lg)));
    has_mine = λ ls f n i c s l fl old bs es sm lt was tag e d t one h. let b = tag.upto in small_mine old i c s d t tag.life (omega (arith, b, sm, lg)) (subst (λ z. small_has z i d t ≡ true) (sym (gives_are (small_adds old i c s) bs e)) h);
    has_other = λ ls f n i c s l fl old bs es sm lt was tag e j d t ne. ap (λ z. small_has z j d t) (sym (gives_are (small_adds old i c s) bs e)) ∙ small_other old i c s j d t ne;
    put_ok = λ {n} {ls} {f} i c s l e fl bs es sm h lt fo tag ok few g. (
      fine_other f (log_box l) (record { edition = e + 1; bytes = bs }) h (subst Few (gives_are (small_adds (f (log_box l)).bytes i c s) bs g) (length_adds (f (log_box l)).bytes i c s tag.worker (h.few (log_box l)).0, bytes_adds (f (log_box l)).bytes i c s (h.few (log_box l)).1)) (omega arith) (log_some l),
      keeps_other ls _ f (log_box l) (record { edition = e + 1; bytes = bs }) (log_some l),
    );
    page_ok = λ {n} {ls} {f} x a sm h now m e. let pg = (pages_are (f 0).bytes x a m).0 in
        (fine_other f a.box (record { edition = 1; bytes = a.bytes }) h (pages_few f (f 0).bytes x h now a m) (omega arith) pg.0, keeps_other ls ls f a.box (record { edition = 1; bytes = a.bytes }) pg.0);
    step_ok = λ {n} {ls} {f} e x sm h now ps. (
      fine_led f (record { edition = e + 1; bytes = small_after (f 0).bytes }) h (after_few (f 0).bytes (h.few 0)) (after_back f (f 0).bytes x h.spent ps),
      keeps_led ls f (record { edition = e + 1; bytes = small_after (f 0).bytes }) (after_spent (f 0).bytes),
      λ a m. (pages_are (f 0).bytes x a m).2,
    );
    same_ok = λ {n} {ls} {f} e h. (fine_led f (record { edition = e + 1; bytes = (f 0).bytes }) h (h.few 0) h.spent, keeps_led ls f (record { edition = e + 1; bytes = (f 0).bytes }) (λ b s. s));
    take_ok = λ {n} {ls} {f} e l x y sm h d lt was g. let q = gives_are (small_take (f 0).bytes x) y g in (
      fine_led f (record { edition = e + 1; bytes = y }) h (subst Few q (take_few (f 0).bytes x (h.few 0))) (λ b s. h.spent b (take_back (f 0).bytes x b (subst (λ z. Spent' z b) (sym q) s))),
      keeps_led ls f (record { edition = e + 1; bytes = y }) (λ b s. subst (λ z. Spent' z b) q (take_spent (f 0).bytes x b s)),
    );
    answer_ok = λ {n} {ls} {f} from most l got es h was ga e. (0, omega arith, sym (replies [] es e));
  };
}

-- LIVE
small_work : List ℕ → ℕ
small_work [] = 3
small_work (zero ∷ l) = 0
small_work (suc zero ∷ l) = 2
small_work (suc (suc zero) ∷ l) = 1
small_work (suc (suc (suc n)) ∷ l) = 0

work_most : (l : List ℕ) → small_work l ≤ 3
unfolding small_work
work_most [] = omega arith
work_most (zero ∷ l) = omega arith
work_most (suc zero ∷ l) = omega arith
work_most (suc (suc zero) ∷ l) = omega arith
work_most (suc (suc (suc n)) ∷ l) = omega arith

work_less : (f : ℕ → Box) (l x : List ℕ) → Now f (small_due l) x → small_work (small_after l) < small_work l
unfolding small_work small_due small_after
work_less f [] x now = absurd now
work_less f (zero ∷ l) x now = absurd now
work_less f (suc zero ∷ l) x now = omega arith
work_less f (suc (suc zero) ∷ l) x now = omega arith
work_less f (suc (suc (suc n)) ∷ l) x now = absurd now

few_of : (l x : List ℕ) → length (small_pages l x) ≤ 2
unfolding small_pages
few_of [] x = omega arith
few_of (zero ∷ l) x = omega arith
few_of (suc zero ∷ l) x = omega arith
few_of (suc (suc zero) ∷ l) x = omega arith
few_of (suc (suc (suc n)) ∷ l) x = omega arith

not_differs : (x y : List ℕ) → small_differs x y ≡ false → x ≡ y
unfolding small_differs
not_differs [] [] e = refl
not_differs [] (b ∷ y) e = absurd (both_ways true e refl)
not_differs (a ∷ x) [] e = absurd (both_ways true e refl)
not_differs (a ∷ x) (b ∷ y) e = let q = or_parts (not (eqb a b)) (small_differs x y) e in ap₂ (λ u v. u ∷ v) (same (eqb a b) refl q.0) (not_differs x y q.1)
  where
    same : (t : Bool) → eqb a b ≡ t → not t ≡ false → a ≡ b
    same true u v = eqb-true a b u
    same false u v = absurd (both_ways true v refl)

-- a step changes the ledger, since it lowers the work
after_other : (f : ℕ → Box) (l x : List ℕ) → Now f (small_due l) x → small_differs l (small_after l) ≡ true
after_other f l x now = go (cases_Bool (small_differs l (small_after l)))
  where
    go : (small_differs l (small_after l) ≡ true) ⊎ (small_differs l (small_after l) ≡ false) → small_differs l (small_after l) ≡ true
    go (inl e) = e
    go (inr e) = let s : small_work (small_after l) ≡ small_work l = ap small_work (sym (not_differs l (small_after l) e)) in absurd (omega (arith, s, work_less f l x now))

differs_self : (x : List ℕ) → small_differs x x ≡ false
unfolding small_differs
differs_self [] = refl
differs_self (a ∷ x) = or_from (not (eqb a a)) (small_differs x x) (not_from_true (eqb a a) (eq-eqb a a refl)) (differs_self x)

take_less : (l x : List ℕ) → small_differs l (small_take l x) ≡ true → small_work (small_take l x) < small_work l
unfolding small_take small_work
take_less [] [] t = absurd (both_ways (small_differs [] []) (differs_self []) t)
take_less [] (a ∷ x) t = omega arith
take_less (z ∷ y) x t = absurd (both_ways (small_differs (z ∷ y) (z ∷ y)) (differs_self (z ∷ y)) t)

-- so much is left to do at most, by the ledger alone
abbrev Left : ℕ → (ℕ → Box) → Type 0
Left w f = small_work (f 0).bytes ≤ w

left_led : (f : ℕ → Box) (e w : ℕ) (y : List ℕ) → small_work y ≤ w → Left w (at 0 (record { edition = e; bytes = y }) f)
left_led f e w y h = subst (λ z. small_work z.bytes ≤ w) (sym (at_self 0 (record { edition = e; bytes = y }) f)) h

-- a ledger with less to do
left_less : (f : ℕ → Box) (e w : ℕ) (y : List ℕ) → small_work y < small_work (f 0).bytes → Left w f → (v : ℕ) × (v < w) × Left v (at 0 (record { edition = e; bytes = y }) f)
left_less f e w y less h = (small_work y, omega (arith, less, h), left_led f e (small_work y) y (omega arith))

pub small_live : (p : Plan) (logs : ℕ) (lg : logs ≤ 256) → Live small p logs (small_safe p logs lg)
unfolding small_safe
small_live p logs lg = record {
  Work = Left;
  heavy = λ e. 3;
  long = 0;
  left = λ from most l got. 0;
  Took = λ y l b. Unit {0};
  enough = λ e le. omega arith;
  fits = λ {n} {ls} {f} sm h few b kd. fits_of (f b).bytes (h.few b).0 (h.few b).1;
  work_most = λ {n} {ls} {f} sm h e le. work_most (f 0).bytes;
  work_page = λ {n} {ls} {f} sm h x now a m e w wk. subst (λ z. small_work z.bytes ≤ w) (sym (at_other a.box (record { edition = 1; bytes = a.bytes }) f 0 (λ z. (pages_are (f 0).bytes x a m).0.0 (sym z)))) wk;
  work_step = λ {n} {ls} {f} sm h x now ps e w wk. left_less f e w (small_after (f 0).bytes) (work_less f (f 0).bytes x now) wk;
  work_take = λ {n} {ls} {f} sm h d l y ll e t g w wk. let q = gives_are (small_take (f 0).bytes (f (log_box l)).bytes) y e in
      left_less f g w y (subst (λ z. small_work z < small_work (f 0).bytes) q (take_less (f 0).bytes (f (log_box l)).bytes (ap (small_differs (f 0).bytes) q ∙ t))) wk;
  work_same = λ {f} e w wk. left_led f e w (f 0).bytes wk;
  few_pages = few_of;
  step_differs = λ {n} {ls} {f} sm h x now. after_other f (f 0).bytes x now;
  took_step = λ {n} {ls} {f} sm h x now l t. tt;
  differs_not = not_differs;
  take_gives = λ {n} {ls} {f} sm h d l ll e. let z : ◌≡◌ {A = ℕ} 0 1 = cc in omega arith;
  took_take = λ {n} {ls} {f} sm h d l y ll e u. tt;
  took_other = λ {n} {ls} {f} sm h d l y ll e k kl t. tt;
  adds_room = λ {n} {ls} {f} sm h d i c s l fl es ll t fo tag ok few e. let z : ◌≡◌ {A = ℕ} 0 1 = cc in omega arith;
  left_most = λ from most l got le. omega arith;
  left_less = λ {n} {ls} {f} sm h from most b got e. absurd (let z : ◌≡◌ {A = ℕ} 0 1 = cc in omega arith);
}

drop_none : {A : Type 0} (k : ℕ) → drop_of {A = A} k [] ≡ []
unfolding drop_of
drop_none zero = refl
drop_none (suc k) = refl

first_none : {A : Type 0} (k : ℕ) → first_of {A = A} k [] ≡ []
unfolding first_of
first_none zero = refl
first_none (suc k) = refl

-- nothing comes out of a plan that keeps nothing
abbrev deaf : Stage
deaf = record { keep' = Num 0; key = Key; value = Value; size = 1; sum = Count }

no_cells : (es : List Event) → cells deaf es ≡ []
unfolding cells word
no_cells [] = refl
no_cells (e ∷ es) = no_cells es

silent : (ls : List (List Entry)) → out (record { late = 0; stages = deaf ∷ [] }) ls ≡ []
unfolding through_stages ended as_events
silent ls = ap (λ z. as_events (ended (mark 0 ls) z)) (no_cells (all_in_time 0 ls))

pub small_within : SmallWithin
unfolding small_live
small_within p logs one lg all n al sm es s g i c m lt e = let r = worker_within small p logs (small_safe p logs lg) (small_live p logs lg) one all n al sm es s g i c m lt e in
    (r.0, r.1, r.2, r.3, r.4, (let q = r.5 in omega (arith, q)), r.6)

-- the small book keeps the interface
pub small_keeps : KeepsInterface Silent smalls
small_keeps p quiet ok logs one lg = (
  small_safe p logs lg,
  small_live p logs lg,
  λ n ls f sm h d t from most got es ms ga e. sym (replies [] es e) ∙ (sym (first_none most) ∙ ap (first_of most) (sym (drop_none from) ∙ ap (drop_of from) (sym (quiet ls)))),
)

pub small_whole : SmallWhole
unfolding expr_ok parts every
small_whole = (worker_whole smalls Silent small_keeps, (record { late = 0; stages = deaf ∷ [] }, tt, silent))
