-- A book that promises what Safe says keeps the worker's laws: what held once is carried along.
use Rattle.std.proofs.Common.{◌≡◌, ℕ, suc, ◌+◌, ◌<◌, ◌≤◌, T, ◌⊎◌, List, [], length, sym, refl, ap, ◌∙◌, subst, inl, inr, ⊎_elim, arith}
use mathlib.Core.List.{Memᴰ}
use Rattle.streams.specs.Meaning.{Event, Entry, Plan}
use Rattle.streams.specs.Calls.{entry_ok, empties}
use Rattle.streams.specs.Hands.{Box, at}
use Rattle.book.specs.Ledger.{log_box}
use Rattle.book.specs.Book.{put_all}
use Rattle.book.specs.Interface.{gives, Calls, nothing, alone, with_page, Filling, Ops, IsPage, Gathered, no_page, one_page, Tag, Safe, Now, Stays}
use Rattle.worker.proofs.Laws.{Right, Laws}
use Rattle.shelf.proofs.Places.{at_self, at_other}
use Rattle.worker.proofs.Invariant.{log_some}
use Rattle.shelf.proofs.Scripts.{Fits}

-- the page at hand stays where another box is filled
pub now_on : (f g : ℕ → Box) (d : Calls) (x : List ℕ) → ((b : ℕ) → d ≡ with_page b → (g b).bytes ≡ (f b).bytes) → Now f d x → Now g d x
now_on f g nothing x e y = y
now_on f g alone x e y = y
now_on f g (with_page b) x e y = e b refl ∙ y

module _ (o : Ops) (p : Plan) (logs : ℕ) (P : Safe o p logs) where
  -- a world: the logs, and the boxes as they are. What was so once is carried along by what Safe says of every filling.
  pub record W : Type 0 where
    pub ls : List (List Entry)
    pub f : ℕ → Box

  abbrev led : W → List ℕ
  led w = (w.f 0).bytes

  -- a page must hold that: it is spent and holds it, or the ledger calls for it to be written so
  abbrev SpentAs : W → ℕ → List ℕ → Type 0
  SpentAs w b x = P.Spent (led w) b × (1 ≤ (w.f b).edition) × ((w.f b).bytes ≡ x)

  abbrev Called : W → ℕ → List ℕ → Type 0
  Called w b x = (y : List ℕ) × Now w.f (o.due (led w)) y × Memᴰ (record { box = b; bytes = x }) (o.pages (led w) y)

  abbrev Must' : W → ℕ → List ℕ → Type 0
  Must' w b x = Fits x × IsPage b × (SpentAs w b x ⊎ Called w b x)

  -- an old ledger: known to the book; the page that it calls for is spent; what it would write is what must be written
  pub record OldLedger (w : W) (l : List ℕ) : Type 0 where
    pub up : P.OldLedger w.ls w.f l
    pub names : (b : ℕ) → o.due l ≡ with_page b → P.Spent (led w) b
    pub musts : (x : List ℕ) → Now w.f (o.due l) x → (a : Filling) → Memᴰ a (o.pages l x) → Must' w a.box a.bytes

  abbrev Was' : W → ℕ → List ℕ → Type 0
  Was' w b x = (b ≡ 0 → OldLedger w x) × ((l : ℕ) → b ≡ log_box l → P.OldLog w.ls w.f l x)

  abbrev Floor' : W → List ℕ → Type 0
  Floor' w x = P.Floor w.ls w.f x

  abbrev Kept' : W → W → Type 0
  Kept' v w = Stays P.OldLedger P.OldLog P.Floor P.Spent v.ls v.f w.ls w.f

  -- from one world to a later one
  pub record Up' (v w : W) : Type 0 where
    pub was : (b : ℕ) (x : List ℕ) → Was' v b x → Was' w b x
    pub must : (b : ℕ) (x : List ℕ) → Must' v b x → Must' w b x
    pub floor : (x : List ℕ) → Floor' v x → Floor' w x

  pub record Sound' (n : ℕ) (w : W) (f : ℕ → Box) : Type 0 where
    pub is : w.f ≡ f
    pub sound : P.Sound n w.ls w.f

  -- a called page isn't spent
  not_spent : {n : ℕ} {w : W} → P.Sound n w.ls w.f → (b : ℕ) (x : List ℕ) → Called w b x → P.Spent (led w) b → ⊥
  not_spent s b x c = (P.laws.pages_new s c.0 c.1 (record { box = b; bytes = x }) c.2).0

  spent_is : {n : ℕ} {w : W} → P.Sound n w.ls w.f → (b : ℕ) (x : List ℕ) → P.Spent (led w) b → Must' w b x → (w.f b).bytes ≡ x
  spent_is {w = w} s b x sp m = ⊎_elim (λ z. z.2) (λ z. absurd (not_spent {w = w} s b x z sp)) m.2

  -- what a worker was shown is the page as it is
  pub right_now : {n : ℕ} {w : W} → P.Sound n w.ls w.f → (d : Calls) (x : List ℕ) → ((b : ℕ) → d ≡ with_page b → P.Spent (led w) b) → Right (Must' w) d x → Now w.f d x
  right_now s nothing x sp r = r
  right_now s alone x sp r = r
  right_now {w = w} s (with_page b) x sp r = spent_is {w = w} s b x (sp b refl) r

  now_one : (f : ℕ → Box) (d : Calls) (x y : List ℕ) → Now f d x → Now f d y → x ≡ y
  now_one f nothing x y a b = absurd a
  now_one f alone x y a b = a ∙ sym b
  now_one f (with_page t) x y a b = sym a ∙ b

  -- what boxes hold now
  pub was_now' : {n : ℕ} {w : W} → P.Sound n w.ls w.f → (b : ℕ) → Was' w b (w.f b).bytes
  was_now' {n} {w} s b = (
    λ e. subst (λ z. OldLedger w (w.f z).bytes) (sym e) (record {
      up = P.laws.ledger_now s;
      names = P.laws.due_spent s;
      musts = λ x now a m. ((P.laws.pages_new s x now a m).1, P.laws.pages_page (led w) x a m, inr (x, now, m));
    }),
    λ l e. subst (λ z. P.OldLog w.ls w.f l (w.f z).bytes) (sym e) (P.laws.log_now s l),
  )

  module _ {n : ℕ} (v w : W) (s : P.Sound n v.ls v.f) (kp : Kept' v w)
      (stay : (b : ℕ) → IsPage b → 1 ≤ (v.f b).edition → w.f b ≡ v.f b) (called : (b : ℕ) (x : List ℕ) → Called v b x → SpentAs w b x ⊎ Called w b x) where
    must_up : (b : ℕ) (x : List ℕ) → Must' v b x → Must' w b x
    must_up b x m = (m.0, m.1, ⊎_elim (λ z. let q = stay b m.1 z.1 in inl (kp.spent b z.0, subst (λ u. 1 ≤ u.edition) (sym q) z.1, ap (λ u. u.bytes) q ∙ z.2)) (called b x) m.2)

    now_back : (d : Calls) (x : List ℕ) → ((b : ℕ) → d ≡ with_page b → P.Spent (led v) b) → Now w.f d x → Now v.f d x
    now_back nothing x sp y = y
    now_back alone x sp y = y
    now_back (with_page b) x sp y = let z = P.laws.spent_filled s b (sp b refl) in ap (λ u. u.bytes) (sym (stay b z.0 z.1)) ∙ y

    -- an old ledger stays one
    led_on : (l : List ℕ) → OldLedger v l → OldLedger w l
    led_on l h = record { up = kp.ledger l h.up; names = λ b e. kp.spent b (h.names b e); musts = λ x now a m. must_up a.box a.bytes (h.musts x (now_back (o.due l) x h.names now) a m) }

    ups : Up' v w
    ups = record {
      was = λ b x h. (λ e. led_on x (h.0 e), λ l e. kp.log l x (h.1 l e));
      must = must_up;
      floor = λ x h. kp.floor x h;
    }

  abbrev Ends : (n : ℕ) (w : W) (g : ℕ → Box) (ls : List (List Entry)) → Type 0
  Ends n w g ls = (v : W) × Up' w v × Sound' n v g × (v.ls ≡ ls)

  module _ {n : ℕ} (w : W) (s : P.Sound n w.ls w.f) where
    -- a box that is not the ledger
    called_on : (d : ℕ) (y : Box) (ls : List (List Entry)) → (d ≡ 0 → ⊥) → ((b : ℕ) → P.Spent (led w) b → b ≡ d → ⊥) → (b : ℕ) (x : List ℕ) → Called w b x → Called (record { ls = ls; f = at d y w.f }) b x
    called_on d y ls no0 nosp b x c = let e0 : at d y w.f 0 ≡ w.f 0 = at_other d y w.f 0 (λ z. no0 (sym z)) in (
      c.0,
      subst (λ z. Now (at d y w.f) (o.due z.bytes) c.0) (sym e0) (now_on w.f (at d y w.f) (o.due (led w)) c.0 (λ b e. ap (λ z. z.bytes) (at_other d y w.f b (nosp b (P.laws.due_spent s b e)))) c.1),
      subst (λ z. Memᴰ (record { box = b; bytes = x }) (o.pages z.bytes c.0)) (sym e0) c.2,
    )

    plain_up : (d : ℕ) (y : Box) (ls : List (List Entry)) → (d ≡ 0 → ⊥) → Kept' w (record { ls = ls; f = at d y w.f }) → ((b : ℕ) → IsPage b → 1 ≤ (w.f b).edition → b ≡ d → ⊥) → Up' w (record { ls = ls; f = at d y w.f })
    plain_up d y ls no0 kp np = ups w (record { ls = ls; f = at d y w.f }) s kp
        (λ b pg one. at_other d y w.f b (np b pg one)) (λ b x c. inr (called_on d y ls no0 (λ b sp. let z = P.laws.spent_filled s b sp in np b z.0 z.1) b x c))

    -- the ledger
    led_fill_up : (y : Box) → Kept' w (record { ls = w.ls; f = at 0 y w.f }) → ((b : ℕ) (x : List ℕ) → Called w b x → SpentAs (record { ls = w.ls; f = at 0 y w.f }) b x ⊎ Called (record { ls = w.ls; f = at 0 y w.f }) b x) → Up' w (record { ls = w.ls; f = at 0 y w.f })
    led_fill_up y kp called = ups w (record { ls = w.ls; f = at 0 y w.f }) s kp (λ b pg one. at_other 0 y w.f b pg.0) called

    -- the five fillings: a batch, a page, a step, the ledger as it is, a take
    pub put' : (i c t l e : ℕ) (fl bs : List ℕ) (es : List Entry) → n < P.bound → l < logs → Floor' w fl → Tag n i c t → ((x : Entry) → Memᴰ x es → T (entry_ok x)) → length es ≤ 8 → o.adds fl i c t l (w.f (log_box l)).bytes es ≡ gives bs →
        Ends (suc n) w (at (log_box l) (record { edition = e + 1; bytes = bs }) w.f) (put_all l es w.ls)
    put' i c t l e fl bs es sm lt fo tag ok few g = let r = P.laws.put_ok i c t l e fl bs es sm s lt fo tag ok few g in let y : Box = record { edition = e + 1; bytes = bs } in
        (record { ls = put_all l es w.ls; f = at (log_box l) y w.f }, plain_up (log_box l) y (put_all l es w.ls) (log_some l) r.1 (λ b pg one z. pg.1 l z), record { is = refl; sound = r.0 }, refl)

    pub page'' : (b : ℕ) (x : List ℕ) → n < P.bound → Must' w b x → (w.f b).edition ≡ 0 → Ends (suc n) w (at b (record { edition = 1; bytes = x }) w.f) w.ls
    page'' b x sm m e = ⊎_elim (λ z. absurd (omega (arith, z.1, e)))
        (λ c. let r = P.laws.page_ok c.0 (record { box = b; bytes = x }) sm s c.1 c.2 e in (
          record { ls = w.ls; f = at b y w.f },
          plain_up b y w.ls m.1.0 r.1
              (λ d pg one z. let q : (w.f d).edition ≡ 0 = ap (λ u. (w.f u).edition) z ∙ e in omega (arith, one, q)),
          record { is = refl; sound = r.0 },
          refl,
        )) m.2
      where
        y : Box
        y = record { edition = 1; bytes = x }

    pub step' : (e : ℕ) (x : List ℕ) → n < P.bound → Right (Must' w) (o.due (led w)) x → ((a : Filling) → Memᴰ a (o.pages (led w) x) → (1 ≤ (w.f a.box).edition) × ((w.f a.box).bytes ≡ a.bytes)) →
        Ends (suc n) w (at 0 (record { edition = e + 1; bytes = o.after (led w) x }) w.f) w.ls
    step' e x sm r ps = (record { ls = w.ls; f = at 0 y w.f }, led_fill_up y k.1 (λ b z c. inl (spent b z c)), record { is = refl; sound = k.0 }, refl)
      where
        now : Now w.f (o.due (led w)) x
        now = right_now {w = w} s (o.due (led w)) x (P.laws.due_spent s) r

        y : Box
        y = record { edition = e + 1; bytes = o.after (led w) x }

        k : P.Sound (suc n) w.ls (at 0 (record { edition = e + 1; bytes = o.after (led w) x }) w.f) × Kept' w (record { ls = w.ls; f = at 0 (record { edition = e + 1; bytes = o.after (led w) x }) w.f }) × ((a : Filling) → Memᴰ a (o.pages (led w) x) → P.Spent (o.after (led w) x) a.box)
        k = P.laws.step_ok e x sm s now ps

        spent : (b : ℕ) (z : List ℕ) → Called w b z → SpentAs (record { ls = w.ls; f = at 0 y w.f }) b z
        spent b z c =
            let m : Memᴰ (record { box = b; bytes = z }) (o.pages (led w) x) = subst (λ u. Memᴰ (record { box = b; bytes = z }) (o.pages (led w) u)) (now_one w.f (o.due (led w)) c.0 x c.1 now) c.2 in
            let q = ps (record { box = b; bytes = z }) m in let pg = P.laws.pages_page (led w) x (record { box = b; bytes = z }) m in let t : at 0 y w.f b ≡ w.f b = at_other 0 y w.f b pg.0 in
            (subst (λ u. P.Spent u.bytes b) (sym (at_self 0 y w.f)) (k.2 (record { box = b; bytes = z }) m), subst (λ u. 1 ≤ u.edition) (sym t) q.0, ap (λ u. u.bytes) t ∙ q.1)

    pub same' : (e : ℕ) → Ends n w (at 0 (record { edition = e + 1; bytes = led w }) w.f) w.ls
    same' e = (record { ls = w.ls; f = at 0 y w.f }, led_fill_up y (P.laws.same_ok e s).1 again, record { is = refl; sound = (P.laws.same_ok e s).0 }, refl)
      where
        y : Box
        y = record { edition = e + 1; bytes = led w }

        again : (b : ℕ) (x : List ℕ) → Called w b x → SpentAs (record { ls = w.ls; f = at 0 y w.f }) b x ⊎ Called (record { ls = w.ls; f = at 0 y w.f }) b x
        again b x c = let e0 : (at 0 y w.f 0).bytes ≡ led w = ap (λ z. z.bytes) (at_self 0 y w.f) in
            inr (
              c.0,
              subst (λ z. Now (at 0 y w.f) (o.due z) c.0) (sym e0) (now_on w.f (at 0 y w.f) (o.due (led w)) c.0 (λ t g. ap (λ z. z.bytes) (at_other 0 y w.f t (P.laws.due_page (led w) t g).0)) c.1),
              subst (λ z. Memᴰ (record { box = b; bytes = x }) (o.pages z c.0)) (sym e0) c.2,
            )

    pub take' : (e l : ℕ) (x y : List ℕ) → n < P.bound → o.due (led w) ≡ nothing → l < logs → Was' w (log_box l) x → o.take (led w) l x ≡ gives y → Ends n w (at 0 (record { edition = e + 1; bytes = y }) w.f) w.ls
    take' e l x y sm d lt was g = let r = P.laws.take_ok e l x y sm s d lt (was.1 l refl) g in
        (record { ls = w.ls; f = at 0 (record { edition = e + 1; bytes = y }) w.f }, led_fill_up (record { edition = e + 1; bytes = y }) r.1 (λ b z c. absurd (subst (λ u. Now w.f u c.0) d c.1)), record { is = refl; sound = r.0 }, refl)

    pub gathered' : (from most : ℕ) (l : List ℕ) (got : List Event) → P.OldLedger w.ls w.f l → Gathered o (Must' w) from most l got → Gathered o (λ b x. P.Spent (led w) b × ((w.f b).bytes ≡ x)) from most l got
    gathered' from most l got u no_page = no_page
    gathered' from most l got u (one_page {got = g} b x h e m) = let sp = P.laws.answer_spent s from most l g b u e in one_page b x (gathered' from most l g u h) e (sp, spent_is {w = w} s b x sp m)

    pub must_one' : (b : ℕ) (x y : List ℕ) → Must' w b x → Must' w b y → x ≡ y
    must_one' b x y m k = go m.2 k.2
      where
        go : SpentAs w b x ⊎ Called w b x → SpentAs w b y ⊎ Called w b y → x ≡ y
        go (inl a) (inl c) = sym a.2 ∙ c.2
        go (inl a) (inr c) = absurd (not_spent {w = w} s b y c a.0)
        go (inr a) (inl c) = absurd (not_spent {w = w} s b x a c.0)
        go (inr a) (inr c) = P.laws.pages_one (led w) a.0 (record { box = b; bytes = x }) (record { box = b; bytes = y }) a.2 (subst (λ z. Memᴰ (record { box = b; bytes = y }) (o.pages (led w) z)) (now_one w.f (o.due (led w)) c.0 a.0 c.1 a.1) c.2) refl

  pub on : {n : ℕ} {w : W} {f : ℕ → Box} (Q : (ℕ → Box) → Type 0) → Sound' n w f → Q w.f → Q f
  on Q s q = subst Q s.is q

  pub off : {n : ℕ} {w : W} {f : ℕ → Box} (Q : (ℕ → Box) → Type 0) → Sound' n w f → Q f → Q w.f
  off Q s q = subst Q (sym s.is) q

  -- the laws
  abbrev pub safe_laws : Laws o p logs
  safe_laws = record {
    bound = P.bound;
    far = P.far;
    World = W;
    start = record { ls = empties logs; f = λ b. record { edition = 0; bytes = [] } };
    Upto = Up';
    logs_of = λ w. w.ls;
    Sound = Sound';
    Was = Was';
    Must = Must';
    Floor = Floor';
    upto_refl = λ w. record { was = λ b x h. h; must = λ b x h. h; floor = λ x h. h };
    upto_trans = λ {u} {v} {w} a b. record { was = λ d x h. b.was d x (a.was d x h); must = λ d x h. b.must d x (a.must d x h); floor = λ x h. b.floor x (a.floor x h) };
    starts = record { is = refl; sound = P.laws.starts };
    starts_logs = refl;
    later = λ {n} {w} {f} h. record { is = h.is; sound = P.laws.later h.sound };
    was_now = λ {n} {w} {f} h b. on (λ g. Was' w b (g b).bytes) h (was_now' {w = w} h.sound b);
    was_on = λ {v} {w} u b x h. u.was b x h;
    must_on = λ {v} {w} u b x h. u.must b x h;
    floor_on = λ {v} {w} u x h. u.floor x h;
    floor_none = λ w. P.laws.floor_none w.ls w.f;
    floor_raise = λ w x fl h g. P.laws.floor_raise w.ls w.f fl x (h.0 refl).up g;
    must_of = λ {n} {w} {f} sd l x h r a m. let k = h.0 refl in let z = k.musts x (right_now {w = w} sd.sound (o.due l) x k.names r) a m in (z, z.1);
    due_page = λ w l b h e. P.laws.due_page l b e;
    answer_page = λ w from most l got b h e. P.laws.answer_page from most l got b e;
    must_one = λ {n} {w} {f} sd b x y h g. must_one' w sd.sound b x y h g;
    must_fits = λ w b x h. h.0;
    has_none = P.laws.has_none;
    has_new = λ w n i c s l fl old bs es sm lt was tag e. P.laws.has_new w.ls w.f n i c s l fl old bs es sm lt (was.1 l refl) tag e;
    has_mine = λ w n i c s l fl old bs es sm lt was tag e. P.laws.has_mine w.ls w.f n i c s l fl old bs es sm lt (was.1 l refl) tag e;
    has_other = λ w n i c s l fl old bs es sm lt was tag e. P.laws.has_other w.ls w.f n i c s l fl old bs es sm lt (was.1 l refl) tag e;
    put_ok = λ {n} {w} {f} i c s l e fl bs es sm h lt fo tag ok few g. on (λ z. Ends (suc n) w (at (log_box l) (record { edition = e + 1; bytes = bs }) z) (put_all l es w.ls)) h (put' w h.sound i c s l e fl bs es sm lt fo tag ok few (off (λ z. o.adds fl i c s l (z (log_box l)).bytes es ≡ gives bs) h g));
    page_ok = λ {n} {w} {f} b x sm h pg m e. on (λ z. Ends (suc n) w (at b (record { edition = 1; bytes = x }) z) w.ls) h (page'' w h.sound b x sm m (off (λ z. (z b).edition ≡ 0) h e));
    step_ok = λ {n} {w} {f} e x sm h r ps. on (λ z. Ends (suc n) w (at 0 (record { edition = e + 1; bytes = o.after (z 0).bytes x }) z) w.ls) h
        (step' w h.sound e x sm (off (λ z. Right (Must' w) (o.due (z 0).bytes) x) h r) (off (λ z. (a : Filling) → Memᴰ a (o.pages (z 0).bytes x) → (1 ≤ (z a.box).edition) × ((z a.box).bytes ≡ a.bytes)) h ps));
    same_ok = λ {n} {w} {f} e h. on (λ z. Ends n w (at 0 (record { edition = e + 1; bytes = (z 0).bytes }) z) w.ls) h (same' w h.sound e);
    take_ok = λ {n} {w} {f} e l x y sm h d lt was g. on (λ z. Ends n w (at 0 (record { edition = e + 1; bytes = y }) z) w.ls) h (take' w h.sound e l x y sm (off (λ z. o.due (z 0).bytes ≡ nothing) h d) lt was (off (λ z. o.take (z 0).bytes l x ≡ gives y) h g));
    answer_ok = λ {n} {w} {f} from most l got es h was ga e. let u = (was.0 refl).up in P.laws.answer_ok from most l got es h.sound u (gathered' w h.sound from most l got u ga) e;
  }
