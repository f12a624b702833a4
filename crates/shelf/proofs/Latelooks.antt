-- A book up to the order of its lists; and the book with late looks, which tells nothing that a book would not. For any keeper.
use Rattle.std.proofs.Common.{◌≡◌, ◌⊎◌, List, [], ◌∷◌, ◌++◌, sym, refl, ap, ◌∙◌, subst, inl, inr, ⊎_elim}
use mathlib.Core.List.Memᴰ
use mathlib.Core.List.{Memᴰ}
use Rattle.streams.specs.Hands.{Seen, called, told, Keeper, Open, Ready, Book}
use Rattle.streams.specs.Hands as hands
use Rattle.shelf.specs.Moments.{Pending, reply_to, LateBook, empty, comes_in, looks, is_late, is_done, goes_out, handed_back}

-- one taken out
pub data Less {A : Type 0} (a : A) : List A → List A → Type 0 where
  taken : {x : A} {l : List A} → a ≡ x → Less a (x ∷ l) l
  later : {x : A} {l m : List A} → Less a l m → Less a (x ∷ l) (x ∷ m)

pub less_of : {A : Type 0} {a : A} {l : List A} → Memᴰ a l → (m : List A) × Less a l m
less_of (Memᴰ.head {x = x} {xs = l} e) = (l, taken e)
less_of (Memᴰ.tail {x = x} {xs = l} k) = let r = less_of k in (x ∷ r.0, later r.1)

-- another stays
pub less_rest : {A : Type 0} {a b : A} {l m : List A} → Less a l m → Memᴰ b l → (b ≡ a) ⊎ Memᴰ b m
less_rest (taken e) k = ⊎_elim (λ x. inl (x ∙ sym e)) (λ x. inr x) (Memᴰ.cases_cons k)
less_rest (later h) (Memᴰ.head x) = inr (Memᴰ.head x)
less_rest (later h) (Memᴰ.tail x) = ⊎_elim (λ y. inl y) (λ y. inr (Memᴰ.tail y)) (less_rest h x)

pub less_split : {A : Type 0} {a : A} {l m : List A} → Less a l m → (xs : List A) × (ys : List A) × (l ≡ xs ++ a ∷ ys) × (m ≡ xs ++ ys)
less_split {A} {a} (taken {l = l} e) = ([], l, ap {B = List A} (λ z. z ∷ l) (sym e), refl)
less_split {A} {a} (later {x = x} h) = let r = less_split h in (x ∷ r.0, r.1, ap {B = List A} (λ z. x ∷ z) r.2, ap {B = List A} (λ z. x ∷ z) r.3)

pub less_after : {A : Type 0} {a : A} (xs : List A) {l m : List A} → Less a l m → Less a (xs ++ l) (xs ++ m)
less_after [] h = h
less_after (x ∷ xs) h = later (less_after xs h)

less_swap : {A : Type 0} {a b : A} {l m n : List A} → Less b l m → Less a m n → (k : List A) × Less a l k × Less b k n
less_swap {n = n} (taken {x = x} e) h = (x ∷ n, later h, taken e)
less_swap (later {x = x} {l = l} h) (taken e) = (l, taken e, h)
less_swap (later {x = x} h) (later g) = let r = less_swap h g in (x ∷ r.0, later r.1, later r.2)

-- in another order
pub data Perm {A : Type 0} : List A → List A → Type 0 where
  none : Perm [] []
  one : {a : A} {l m n : List A} → Less a m n → Perm l n → Perm (a ∷ l) m

pub perm_refl : {A : Type 0} (l : List A) → Perm l l
perm_refl [] = none
perm_refl (x ∷ l) = one (taken refl) (perm_refl l)

pub perm_less : {A : Type 0} {a : A} {l l' m : List A} → Perm l m → Less a l l' → (n : List A) × Less a m n × Perm l' n
perm_less none h = elim h [ ]
perm_less (one {m = m} {n = n} g p) (taken e) = (n, subst (λ z. Less z m n) (sym e) g, p)
perm_less (one g p) (later h) = let r = perm_less p h in let t = less_swap g r.1 in (t.0, t.1, one t.2 r.2)

pub perm_trans : {A : Type 0} {l m n : List A} → Perm l m → Perm m n → Perm l n
perm_trans none q = q
perm_trans (one h p) q = let r = perm_less q h in one r.1 (perm_trans p r.2)

pub perm_more : {A : Type 0} {a : A} {l m n : List A} → Less a m n → Perm n l → Perm m (a ∷ l)
perm_more (taken e) q = one (taken (sym e)) q
perm_more (later h) (one g q) = one (later g) (perm_more h q)

pub less_before : {A : Type 0} {a : A} {l m : List A} (xs : List A) → Less a l m → Less a (l ++ xs) (m ++ xs)
less_before xs (taken e) = taken e
less_before xs (later h) = later (less_before xs h)

-- some of the pending calls are answered by a reply that they could have been given, the others stay open
pub data Chosen {O R : Type 0} : List (Pending O R) → List (Open O) → List (Ready R) → Type 0 where
  nothing : Chosen [] [] []
  keep : {a : Pending O R} {as' : List (Pending O R)} {os : List (Open O)} {gs : List (Ready R)} → Chosen as' os gs → Chosen (a ∷ as') (a.open' ∷ os) gs
  take : {a : Pending O R} {as' : List (Pending O R)} {os : List (Open O)} {gs : List (Ready R)} (r : R) → Memᴰ r a.could → Chosen as' os gs → Chosen (a ∷ as') os (reply_to a.open' r ∷ gs)

-- one more that stays open, one more that is answered
chosen_keep : {O R : Type 0} {a : Pending O R} {as' bs : List (Pending O R)} {os : List (Open O)} {gs : List (Ready R)} → Less a as' bs → Chosen bs os gs → (ps : List (Open O)) × Chosen as' ps gs × Less a.open' ps os
chosen_keep {os = os} (taken {x = x} e) ch = (x.open' ∷ os, keep ch, taken (ap (λ z. z.open') e))
chosen_keep (later {x = x} h) (keep ch) = let r = chosen_keep h ch in (x.open' ∷ r.0, keep r.1, later r.2)
chosen_keep (later h) (take y m ch) = let r = chosen_keep h ch in (r.0, take y m r.1, r.2)

chosen_take : {O R : Type 0} {a : Pending O R} {as' bs : List (Pending O R)} {os : List (Open O)} {gs : List (Ready R)} (y : R) → Less a as' bs → Memᴰ y a.could → Chosen bs os gs →
    (hs : List (Ready R)) × Chosen as' os hs × Less (reply_to a.open' y) hs gs
chosen_take {gs = gs} y (taken {x = x} e) k ch = (reply_to x.open' y ∷ gs, take y (subst (λ z. Memᴰ y z.could) e k) ch, taken (ap (λ z. reply_to z.open' y) e))
chosen_take y (later h) k (keep ch) = let r = chosen_take y h k ch in (r.0, keep r.1, r.2)
chosen_take y (later {x = x} h) k (take z m ch) = let r = chosen_take y h k ch in (reply_to x.open' z ∷ r.0, take z m r.1, later r.2)

chosen_none : {O R : Type 0} (as' : List (Pending O R)) → (os : List (Open O)) × Chosen {O = O} {R = R} as' os []
chosen_none [] = ([], nothing)
chosen_none (a ∷ as') = let r = chosen_none as' in (a.open' ∷ r.0, keep r.1)

module _ {O R : Type 0} (p : Keeper O R) where
  -- a book, up to order
  pub record Loose (es : List (Seen O R)) (s : p.State) (os : List (Open O)) (rs : List (Ready R)) : Type 0 where
    pub opens : List (Open O)
    pub readies : List (Ready R)
    pub os_are : Perm os opens
    pub rs_are : Perm rs readies
    pub book : Book p es s opens readies

  pub loose_in : {es : List (Seen O R)} {s : p.State} {os : List (Open O)} {rs : List (Ready R)} (a : Open O) → Loose es s os rs → Loose (called a.hand a.number a.call ∷ es) s (a ∷ os) rs
  loose_in a b = record { opens = a ∷ b.opens; readies = b.readies; os_are = one (taken refl) b.os_are; rs_are = b.rs_are; book = hands.comes_in a.hand a.number a.call b.book }

  pub loose_done : {es : List (Seen O R)} {s t : p.State} {os os' : List (Open O)} {rs : List (Ready R)} (a : Open O) (r : R) → Loose es s os rs → Less a os os' → p.May a.call s r t →
      Loose es t os' (record { hand = a.hand; number = a.number; reply = r } ∷ rs)
  loose_done {es} {s} {t} a r b h m = let x = perm_less b.os_are h in let y = less_split x.1 in
      record {
        opens = y.0 ++ y.1;
        readies = record { hand = a.hand; number = a.number; reply = r } ∷ b.readies;
        os_are = subst (Perm _) y.3 x.2;
        rs_are = one (taken refl) b.rs_are;
        book = hands.is_done y.0 y.1 a.hand a.number a.call (subst (λ z. Book p es s z b.readies) y.2 b.book) m;
      }

  pub loose_out : {es : List (Seen O R)} {s : p.State} {os : List (Open O)} {rs rs' : List (Ready R)} (a : Ready R) → Loose es s os rs → Less a rs rs' → Loose (told a.hand a.number a.reply ∷ es) s os rs'
  loose_out {es} {s} a b h = let x = perm_less b.rs_are h in let y = less_split x.1 in
      record {
        opens = b.opens;
        readies = y.0 ++ y.1;
        os_are = b.os_are;
        rs_are = subst (Perm _) y.3 x.2;
        book = hands.goes_out y.0 y.1 a.hand a.number a.reply (subst (λ z. Book p es s b.opens z) y.2 b.book);
      }

  pub loose_back : {es : List (Seen O R)} {s : p.State} {os os' : List (Open O)} {rs : List (Ready R)} (a : Open O) → Loose es s os rs → Less a os os' → Loose (told a.hand a.number p.busy ∷ es) s os' rs
  loose_back {es} {s} a b h = let x = perm_less b.os_are h in let y = less_split x.1 in
      record {
        opens = y.0 ++ y.1;
        readies = b.readies;
        os_are = subst (Perm _) y.3 x.2;
        rs_are = b.rs_are;
        book = hands.handed_back y.0 y.1 a.hand a.number a.call (subst (λ z. Book p es s z b.readies) y.2 b.book);
      }

  pub loose_perm : {es : List (Seen O R)} {s : p.State} {os os' : List (Open O)} {rs rs' : List (Ready R)} → Loose es s os rs → Perm os' os → Perm rs' rs → Loose es s os' rs'
  loose_perm b x y = record { opens = b.opens; readies = b.readies; os_are = perm_trans x b.os_are; rs_are = perm_trans y b.rs_are; book = b.book }

  -- whichever of the replies that could have been given are taken, there is a book
  record Looks (es : List (Seen O R)) (s : p.State) (as' : List (Pending O R)) (rs : List (Ready R)) : Type 0 where
    any : (os : List (Open O)) (gs : List (Ready R)) → Chosen as' os gs → Loose es s os (gs ++ rs)

  starts : Looks [] p.start [] []
  starts = record { any = start_any }
    where
      start_any : (os : List (Open O)) (gs : List (Ready R)) → Chosen {O = O} {R = R} [] os gs → Loose [] p.start os (gs ++ [])
      start_any os gs nothing = record { opens = []; readies = []; os_are = none; rs_are = none; book = hands.empty }

  module _ {es : List (Seen O R)} {s : p.State} {as' : List (Pending O R)} {rs : List (Ready R)} (l : Looks es s as' rs) where
    it_comes_in : (a : Open O) → Looks (called a.hand a.number a.call ∷ es) s (record { open' = a; could = [] } ∷ as') rs
    it_comes_in a = record { any = go }
      where
        go : (os : List (Open O)) (gs : List (Ready R)) → Chosen (record { open' = a; could = [] } ∷ as') os gs → Loose (called a.hand a.number a.call ∷ es) s os (gs ++ rs)
        go os gs (keep {os = ps} ch) = loose_in a (l.any ps gs ch)
        go os gs (take y m ch) = absurd (Memᴰ.not-nil m)

    -- a call that changes nothing could be answered now
    sees : {bs : List (Pending O R)} (a : Pending O R) (r : R) → Less a as' bs → p.May a.open'.call s r s → Looks es s (record { open' = a.open'; could = r ∷ a.could } ∷ bs) rs
    sees {bs} a r h m = record { any = go }
      where
        go : (os : List (Open O)) (gs : List (Ready R)) → Chosen (record { open' = a.open'; could = r ∷ a.could } ∷ bs) os gs → Loose es s os (gs ++ rs)
        go os gs (keep {os = ps} ch) = let k = chosen_keep h ch in loose_perm (l.any k.0 gs k.1) (one k.2 (perm_refl ps)) (perm_refl (gs ++ rs))
        go os gs (take {gs = hs} y (Memᴰ.head e) ch) = let k = chosen_keep h ch in
            subst (λ z. Loose es s os (reply_to a.open' z ∷ hs ++ rs)) (sym e) (loose_done a.open' r (l.any k.0 hs k.1) k.2 m)
        go os gs (take {gs = hs} y (Memᴰ.tail n) ch) = let k = chosen_take y h n ch in loose_perm (l.any os k.0 k.1) (perm_refl os) (one (less_before rs k.2) (perm_refl (hs ++ rs)))

    it_is_done : {bs : List (Pending O R)} {t : p.State} (a : Pending O R) (r : R) → Less a as' bs → p.May a.open'.call s r t → Looks es t bs (reply_to a.open' r ∷ rs)
    it_is_done a r h m = record {
      any = λ os gs ch. let k = chosen_keep h ch in
          loose_perm (loose_done a.open' r (l.any k.0 gs k.1) k.2 m) (perm_refl os) (perm_more (less_after gs (taken refl)) (perm_refl (gs ++ rs)));
    }

    it_is_late : {bs : List (Pending O R)} (a : Pending O R) (r : R) → Less a as' bs → Memᴰ r a.could → Looks es s bs (reply_to a.open' r ∷ rs)
    it_is_late a r h m = record {
      any = λ os gs ch. let k = chosen_take r h m ch in
          loose_perm (l.any os k.0 k.1) (perm_refl os) (perm_trans (perm_more (less_after gs (taken refl)) (perm_refl (gs ++ rs))) (one (less_before rs k.2) (perm_refl (gs ++ rs))));
    }

    it_goes_out : {rs' : List (Ready R)} (a : Ready R) → Less a rs rs' → Looks (told a.hand a.number a.reply ∷ es) s as' rs'
    it_goes_out a h = record { any = λ os gs ch. loose_out a (l.any os gs ch) (less_after gs h) }

    it_is_handed_back : {bs : List (Pending O R)} (a : Pending O R) → Less a as' bs → Looks (told a.open'.hand a.open'.number p.busy ∷ es) s bs rs
    it_is_handed_back a h = record { any = λ os gs ch. let k = chosen_keep h ch in loose_back a.open' (l.any k.0 gs k.1) k.2 }

-- a list with one element in its midst, without it
less_mid : {A : Type 0} (xs ys : List A) (a : A) → Less a (xs ++ a ∷ ys) (xs ++ ys)
less_mid xs ys a = less_after xs (taken refl)

looks_of : {O R : Type 0} {p : Keeper O R} {es : List (Seen O R)} {s : p.State} {as' : List (Pending O R)} {rs : List (Ready R)} → LateBook p es s as' rs → Looks p es s as' rs
looks_of {p = p} empty = starts p
looks_of {p = p} (comes_in a b) = it_comes_in p (looks_of b) a
looks_of {p = p} (looks xs ys a r b m) = sees p (looks_of b) a r (less_mid xs ys a) m
looks_of {p = p} (is_late xs ys a r b m) = it_is_late p (looks_of b) a r (less_mid xs ys a) m
looks_of {p = p} (is_done xs ys a r b m) = it_is_done p (looks_of b) a r (less_mid xs ys a) m
looks_of {p = p} (goes_out xs ys a b) = it_goes_out p (looks_of b) a (less_mid xs ys a)
looks_of {p = p} (handed_back xs ys a b) = it_is_handed_back p (looks_of b) a (less_mid xs ys a)

-- LATE LOOKS, for any keeper: leave all that are pending open
pub late_looks : {O R : Type 0} (p : Keeper O R) {es : List (Seen O R)} {s : p.State} {as' : List (Pending O R)} {rs : List (Ready R)} → LateBook p es s as' rs → (os : List (Open O)) × (xs : List (Ready R)) × Book p es s os xs
late_looks {O} {R} p {as' = as'} b = let k = chosen_none {O = O} {R = R} as' in let x = (looks_of b).any k.0 [] k.1 in (x.opens, x.readies, x.book)
