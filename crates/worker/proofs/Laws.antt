-- What the worker's proof uses of a book: facts about the past that stay true, in a world that only grows. A book that keeps
-- Safe keeps these laws (proofs/Safelaws), so nobody else has to give them.
use Rattle.std.proofs.Common.{◌≡◌, ℕ, suc, ◌+◌, ◌<◌, ◌≤◌, true, ◌&&◌, T, leb, List, [], length}
use mathlib.Core.List.{Memᴰ}
use Rattle.streams.specs.Meaning.{Event, Entry, Plan, out}
use Rattle.streams.specs.Calls.{entry_ok, empties, drop_of, first_of}
use Rattle.streams.specs.Hands.{Box, at, all_bytes}
use Rattle.book.specs.Ledger.{log_box}
use Rattle.book.specs.Book.{put_all}
use Rattle.book.specs.Interface.{gives, Calls, nothing, alone, with_page, page, reply, Filling, Ops, IsPage, Gathered, Tag}

-- a page that is called for is as it must be
abbrev pub Right : (Must : ℕ → List ℕ → Type 0) → Calls → (shown : List ℕ) → Type 0
Right must nothing x = ⊥
Right must alone x = x ≡ []
Right must (with_page b) x = must b x

pub record Laws (o : Ops) (p : Plan) (logs : ℕ) : Type 1 where
  pub bound : ℕ
  pub far : 72057594037927936 ≤ bound
  -- what has come to be: only grows
  pub World : Type 0
  pub start : World
  pub Upto : World → World → Type 0
  pub logs_of : World → List (List Entry)
  -- the boxes are right, after so many steps
  pub Sound : ℕ → World → (ℕ → Box) → Type 0
  -- a box held that at some time; a page can hold only that; a floor is not above what was taken
  pub Was : World → ℕ → List ℕ → Type 0
  pub Must : World → ℕ → List ℕ → Type 0
  pub Floor : World → List ℕ → Type 0
  pub upto_refl : (w : World) → Upto w w
  pub upto_trans : {u v w : World} → Upto u v → Upto v w → Upto u w
  pub starts : Sound 0 start (λ b. record { edition = 0; bytes = [] })
  pub starts_logs : logs_of start ≡ empties logs
  pub later : {n : ℕ} {w : World} {f : ℕ → Box} → Sound n w f → Sound (suc n) w f
  pub was_now : {n : ℕ} {w : World} {f : ℕ → Box} → Sound n w f → (b : ℕ) → Was w b (f b).bytes
  pub was_on : {v w : World} → Upto v w → (b : ℕ) (x : List ℕ) → Was v b x → Was w b x
  pub must_on : {v w : World} → Upto v w → (b : ℕ) (x : List ℕ) → Must v b x → Must w b x
  pub floor_on : {v w : World} → Upto v w → (x : List ℕ) → Floor v x → Floor w x
  pub floor_none : (w : World) → Floor w []
  pub floor_raise : (w : World) (x fl : List ℕ) → Was w 0 x → Floor w fl → Floor w (o.raise x fl)
  -- pages: what an old or new ledger calls for; one content; it fits
  pub must_of : {n : ℕ} {w : World} {f : ℕ → Box} → Sound n w f → (l x : List ℕ) → Was w 0 l → Right (Must w) (o.due l) x → (a : Filling) → Memᴰ a (o.pages l x) → Must w a.box a.bytes × IsPage a.box
  pub due_page : (w : World) (l : List ℕ) (b : ℕ) → Was w 0 l → o.due l ≡ with_page b → IsPage b
  pub answer_page : (w : World) (from most : ℕ) (l : List ℕ) (got : List Event) (b : ℕ) → Was w 0 l → o.answer from most l got ≡ page b → IsPage b
  pub must_one : {n : ℕ} {w : World} {f : ℕ → Box} → Sound n w f → (b : ℕ) (x y : List ℕ) → Must w b x → Must w b y → x ≡ y
  pub must_fits : (w : World) (b : ℕ) (x : List ℕ) → Must w b x → T (leb (length x) 1048576 && all_bytes x)
  -- served
  pub has_none : (i c s : ℕ) → 1 ≤ s → o.has [] i c s ≡ true → ⊥
  pub has_new : (w : World) (n i c s l : ℕ) (fl old bs : List ℕ) (es : List Entry) → n < bound → l < logs → Was w (log_box l) old → Tag n i c s → o.adds fl i c s l old es ≡ gives bs → o.has bs i c s ≡ true
  pub has_mine : (w : World) (n i c s l : ℕ) (fl old bs : List ℕ) (es : List Entry) → n < bound → l < logs → Was w (log_box l) old → Tag n i c s → o.adds fl i c s l old es ≡ gives bs → (d t : ℕ) → 1 ≤ t → o.has bs i d t ≡ true → (d ≡ c) × (t ≡ s)
  pub has_other : (w : World) (n i c s l : ℕ) (fl old bs : List ℕ) (es : List Entry) → n < bound → l < logs → Was w (log_box l) old → Tag n i c s → o.adds fl i c s l old es ≡ gives bs → (j d t : ℕ) → (j ≡ i → ⊥) → o.has bs j d t ≡ o.has old j d t
  -- the fillings
  pub put_ok : {n : ℕ} {w : World} {f : ℕ → Box} (i c s l e : ℕ) (fl bs : List ℕ) (es : List Entry) → n < bound → Sound n w f → l < logs → Floor w fl → Tag n i c s → ((x : Entry) → Memᴰ x es → T (entry_ok x)) → length es ≤ 8 → o.adds fl i c s l (f (log_box l)).bytes es ≡ gives bs →
      (v : World) × Upto w v × Sound (suc n) v (at (log_box l) (record { edition = e + 1; bytes = bs }) f) × (logs_of v ≡ put_all l es (logs_of w))
  pub page_ok : {n : ℕ} {w : World} {f : ℕ → Box} (b : ℕ) (x : List ℕ) → n < bound → Sound n w f → IsPage b → Must w b x → (f b).edition ≡ 0 →
      (v : World) × Upto w v × Sound (suc n) v (at b (record { edition = 1; bytes = x }) f) × (logs_of v ≡ logs_of w)
  pub step_ok : {n : ℕ} {w : World} {f : ℕ → Box} (e : ℕ) (x : List ℕ) → n < bound → Sound n w f → Right (Must w) (o.due (f 0).bytes) x → ((a : Filling) → Memᴰ a (o.pages (f 0).bytes x) → (1 ≤ (f a.box).edition) × ((f a.box).bytes ≡ a.bytes)) →
      (v : World) × Upto w v × Sound (suc n) v (at 0 (record { edition = e + 1; bytes = o.after (f 0).bytes x }) f) × (logs_of v ≡ logs_of w)
  pub same_ok : {n : ℕ} {w : World} {f : ℕ → Box} (e : ℕ) → Sound n w f → (v : World) × Upto w v × Sound n v (at 0 (record { edition = e + 1; bytes = (f 0).bytes }) f) × (logs_of v ≡ logs_of w)
  pub take_ok : {n : ℕ} {w : World} {f : ℕ → Box} (e l : ℕ) (x y : List ℕ) → n < bound → Sound n w f → o.due (f 0).bytes ≡ nothing → l < logs → Was w (log_box l) x → o.take (f 0).bytes l x ≡ gives y →
      (v : World) × Upto w v × Sound n v (at 0 (record { edition = e + 1; bytes = y }) f) × (logs_of v ≡ logs_of w)
  -- what came out stands: by an old ledger too
  pub answer_ok : {n : ℕ} {w : World} {f : ℕ → Box} (from most : ℕ) (l : List ℕ) (got es : List Event) → Sound n w f → Was w 0 l → Gathered o (Must w) from most l got → o.answer from most l got ≡ reply es →
      (j : ℕ) × (j ≤ most) × (es ≡ first_of j (drop_of from (out p (logs_of w))))
