-- Running alone, as a small language of scripts: begin, take a turn, be shown a box, fill one, fail to fill one. A script is a run of one hand
-- with the shelf alone, and also a run that can happen, so that all that is known of what can happen is known along it. For any hand.
use Rattle.std.proofs.Common.{◌≡◌, ℕ, suc, ◌+◌, ◌<◌, Bool, true, false, not, ◌&&◌, T, eqb, leb, List, [], ◌∷◌, ◌++◌, length, sym, refl, ap, ◌∙◌, subst, append_assoc, arith}
use mathlib.Core.List.Memᴰ
use mathlib.Core.List.{Memᴰ}
use Rattle.std.proofs.lemmas.Bool.{eq-eqb, ne_eqb}
use Rattle.streams.specs.Hands.{Box, In, Shown, Filled, Hand, Way, wants_box, wants_fill, shows, says, here, Seen, at, Scene, sent, tells, turned, answered, fillable, all_bytes, Comes, a_word, a_box, a_filling, a_beat, Alone, stay, turn, shown, filled, not_filled, Goes, turns, shows_box, fills, doesnt_fill}
use Rattle.shelf.proofs.Places.{at_self}

-- bytes that a box can hold
abbrev pub Fits : List ℕ → Type 0
Fits x = T (leb (length x) 1048576 && all_bytes x)

-- they can be filled in at the edition that the box has, and at no other
fit_fillable : (e : ℕ) (y bs : List ℕ) → Fits bs → T (fillable (record { edition = e; bytes = y }) e bs)
fit_fillable e y bs t = go (eqb e e) (eq-eqb e e refl) (leb (length bs) 1048576) (all_bytes bs) t
  where
    go : (a : Bool) → a ≡ true → (b c : Bool) → T (b && c) → T (a && b && c)
    go true u true true f = tt
    go true u true false f = absurd f
    go true u false c f = absurd f
    go false u b c f = absurd (let z : ◌≡◌ {A = ℕ} 0 1 = cc in omega arith)

not_fillable : (e d : ℕ) (y bs : List ℕ) → (e ≡ d → ⊥) → T (not (fillable (record { edition = d; bytes = y }) e bs))
not_fillable e d y bs ne = subst (λ z. T (not (z && leb (length bs) 1048576 && all_bytes bs))) (sym (ne_eqb e d ne)) tt

-- what comes out of a part of what is under way comes out of all of it
comes_on : {M O : Type 0} {i c : ℕ} {new : List (Way M)} (ws : List (Way M)) {x : In M O} → Comes i c new x → Comes i c (new ++ ws) x
comes_on ws (a_word j m k) = a_word j m (Memᴰ.append_left ws k)
comes_on ws (a_box k b m) = a_box k b (Memᴰ.append_left ws m)
comes_on ws (a_filling k e d m) = a_filling k e d (Memᴰ.append_left ws m)
comes_on ws a_beat = a_beat

module _ {M O R : Type 0} (h : Hand M O R) (all i c : ℕ) (lt : i < all) (es : List (Seen O R)) (s : Scene h.Mind M) where
  -- a script so far, from a scene: where it leads, what was told, what was asked for since, the hand's mind and the boxes, and after how many steps
  pub record Script (m : h.Mind) (f : ℕ → Box) (n : ℕ) : Type 0 where
    pub to : Scene h.Mind M
    pub fs : List (Seen O R)
    pub new : List (Way M)
    pub run : Alone h i s fs to
    pub goes : Goes h all n (fs ++ es) to
    pub minds : to.hand i ≡ here c m
    pub boxes : to.box ≡ f
    pub ways : to.ways ≡ new ++ s.ways

  pub begin : {n : ℕ} {m : h.Mind} → Goes h all n es s → s.hand i ≡ here c m → Script m s.box n
  begin g e = record { to = s; fs = []; new = []; run = stay; goes = g; minds = e; boxes = refl; ways = refl }

  -- what was asked for since the beginning is under way
  pub under_way : {m : h.Mind} {f : ℕ → Box} {n : ℕ} (a : Script m f n) {w : Way M} → Memᴰ w a.new → Memᴰ w a.to.ways
  under_way a k = subst (Memᴰ _) (sym a.ways) (Memᴰ.append_left s.ways k)

  pub record Turned {m : h.Mind} {f : ℕ → Box} {n : ℕ} (a : Script m f n) (x : In M O) : Type 0 where
    pub after : Script (h.turns x m).mind f (suc n)
    pub told_are : after.fs ≡ tells i (h.turns x m).does ++ a.fs
    pub asked_are : after.new ≡ sent i c (h.turns x m).does ++ a.new

  pub take_turn : {m : h.Mind} {f : ℕ → Box} {n : ℕ} (a : Script m f n) (x : In M O) → Comes i c a.new x → Turned a x
  take_turn {m} {f} {n} a x k = record {
    after = record {
      to = turned h i c (h.turns x m) a.to;
      fs = tells i (h.turns x m).does ++ a.fs;
      new = sent i c (h.turns x m).does ++ a.new;
      run = turn c m x a.new a.run a.minds a.ways k;
      goes = subst (λ z. Goes h all (suc n) z (turned h i c (h.turns x m) a.to)) (sym (append_assoc (tells i (h.turns x m).does) a.fs es))
          (turns i c m x lt a.goes a.minds (subst (λ z. Comes i c z x) (sym a.ways) (comes_on s.ways k)));
      minds = at_self i (here c (h.turns x m).mind) a.to.hand;
      boxes = a.boxes;
      ways = ap (λ z. sent i c (h.turns x m).does ++ z) a.ways ∙ sym (append_assoc (sent i c (h.turns x m).does) a.new s.ways);
    };
    told_are = refl;
    asked_are = refl;
  }

  -- a script after which an answer of the shelf can come
  pub record Answered (m : h.Mind) (f : ℕ → Box) (n : ℕ) (x : In M O) : Type 0 where
    pub script : Script m f n
    pub comes : Comes i c script.new x

  pub be_shown : {m : h.Mind} {f : ℕ → Box} {n : ℕ} (a : Script m f n) (q b : ℕ) → Memᴰ (wants_box i c q b) a.new → Answered m f (suc n) (Shown q (f b))
  be_shown {f = f} a q b w = record {
    script = record {
      to = answered (shows i c q (a.to.box b)) a.to.box a.to;
      fs = a.fs;
      new = shows i c q (a.to.box b) ∷ a.new;
      run = shown c q b a.new a.run a.ways w;
      goes = shows_box i c q b a.goes (under_way a w);
      minds = a.minds;
      boxes = a.boxes;
      ways = ap (λ z. shows i c q (a.to.box b) ∷ z) a.ways;
    };
    comes = a_box q (f b) (Memᴰ.head (ap (λ z. shows i c q (z b)) (sym a.boxes)));
  }

  pub fill : {m : h.Mind} {f : ℕ → Box} {n : ℕ} (a : Script m f n) (q b e : ℕ) (bs : List ℕ) → Memᴰ (wants_fill i c q b e bs) a.new → e ≡ (f b).edition → Fits bs →
      Answered m (at b (record { edition = e + 1; bytes = bs }) f) (suc n) (Filled q true (e + 1))
  fill {f = f} a q b e bs w ed fit = record {
    script = record {
      to = answered (says i c q true (e + 1)) (at b (record { edition = e + 1; bytes = bs }) a.to.box) a.to;
      fs = a.fs;
      new = says i c q true (e + 1) ∷ a.new;
      run = filled c q b e bs a.new a.run a.ways w can;
      goes = fills i c q b e bs a.goes (under_way a w) can;
      minds = a.minds;
      boxes = ap (λ z. at b (record { edition = e + 1; bytes = bs }) z) a.boxes;
      ways = ap (λ z. says i c q true (e + 1) ∷ z) a.ways;
    };
    comes = a_filling q (e + 1) true (Memᴰ.head refl);
  }
    where
      can : T (fillable (a.to.box b) e bs)
      can = subst (λ z. T (fillable (z b) e bs)) (sym a.boxes) (subst (λ z. T (fillable (f b) z bs)) (sym ed) (fit_fillable (f b).edition (f b).bytes bs fit))

  pub fail_to_fill : {m : h.Mind} {f : ℕ → Box} {n : ℕ} (a : Script m f n) (q b e : ℕ) (bs : List ℕ) → Memᴰ (wants_fill i c q b e bs) a.new → (e ≡ (f b).edition → ⊥) →
      Answered m f (suc n) (Filled q false (f b).edition)
  fail_to_fill {f = f} a q b e bs w ed = record {
    script = record {
      to = answered (says i c q false (a.to.box b).edition) a.to.box a.to;
      fs = a.fs;
      new = says i c q false (a.to.box b).edition ∷ a.new;
      run = not_filled c q b e bs a.new a.run a.ways w can;
      goes = doesnt_fill i c q b e bs a.goes (under_way a w) can;
      minds = a.minds;
      boxes = a.boxes;
      ways = ap (λ z. says i c q false (a.to.box b).edition ∷ z) a.ways;
    };
    comes = a_filling q (f b).edition false (Memᴰ.head (ap (λ z. says i c q false (z b).edition) (sym a.boxes)));
  }
    where
      can : T (not (fillable (a.to.box b) e bs))
      can = subst (λ z. T (not (fillable (z b) e bs))) (sym a.boxes) (not_fillable e (f b).edition (f b).bytes bs ed)

-- what a hand does alone can happen
pub alone_happens : {M O R : Type 0} (h : Hand M O R) (all i : ℕ) → i < all → {n : ℕ} {es : List (Seen O R)} {s : Scene h.Mind M} → Goes h all n es s → {fs : List (Seen O R)} {t : Scene h.Mind M} → Alone h i s fs t → (k : ℕ) × Goes h all k (fs ++ es) t
alone_happens h all i lt {n} g stay = (n, g)
alone_happens h all i lt {n} {es} {s} g (turn {es = fs} {t = t} c m x new a e w k) = let r = alone_happens h all i lt g a in
    (suc r.0, subst (λ z. Goes h all (suc r.0) z (turned h i c (h.turns x m) t)) (sym (append_assoc (tells i (h.turns x m).does) fs es)) (turns i c m x lt r.1 e (subst (λ z. Comes i c z x) (sym w) (comes_on s.ways k))))
alone_happens h all i lt {s = s} g (shown c k b new a w m) = let r = alone_happens h all i lt g a in (suc r.0, shows_box i c k b r.1 (subst (Memᴰ _) (sym w) (Memᴰ.append_left s.ways m)))
alone_happens h all i lt {s = s} g (filled c k b e bs new a w m t) = let r = alone_happens h all i lt g a in (suc r.0, fills i c k b e bs r.1 (subst (Memᴰ _) (sym w) (Memᴰ.append_left s.ways m)) t)
alone_happens h all i lt {s = s} g (not_filled c k b e bs new a w m t) = let r = alone_happens h all i lt g a in (suc r.0, doesnt_fill i c k b e bs r.1 (subst (Memᴰ _) (sym w) (Memᴰ.append_left s.ways m)) t)
