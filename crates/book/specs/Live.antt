-- What a book promises besides, so that one worker is enough and all comes out: of boxes as they are now.
-- Assumes nothing.
use Rattle.std.specs.Prelude.{◌≡◌, ℕ, ◌+◌, ◌*◌, ◌<◌, ◌≤◌, true, false, ◌&&◌, T, ◌⊎◌, List, length, ◌≢◌, nat_le}
use mathlib.Core.List.{Memᴰ}
use Rattle.streams.specs.Meaning.{Event, Entry, Plan, out}
use Rattle.streams.specs.Calls.{entry_ok, drop_of, first_of}
use Rattle.streams.specs.Hands.{Box, at, all_bytes}
use Rattle.book.specs.Ledger.{log_box}
use Rattle.book.specs.Small.{total}
use Rattle.book.specs.Interface.{horizon, lacks, gives, nothing, page, reply, Filling, Ops, Gathered, Safe, Now, Tag}

pub record Live (o : Ops) (p : Plan) (logs : ℕ) (P : Safe o p logs) : Type 1 where
  -- by the boxes as they are, so much is left to do at most
  pub Work : ℕ → (ℕ → Box) → Type 0
  -- the most that can be left to do with so many entries in the logs; the most pages that an answer shows
  pub heavy : (entries : ℕ) → ℕ
  pub long : ℕ
  pub left : (from most : ℕ) → (ledger : List ℕ) → List Event → ℕ
  -- the ledger has all that a log's box holds, and its latest time
  pub Took : (ledger : List ℕ) → (log : ℕ) → (box : List ℕ) → Type 0
  -- there is room for all the steps that one worker needs to come to an end
  pub enough : (e : ℕ) → e ≤ horizon → horizon + 132 * heavy e + 22 * long + 24 * logs + 470 < P.bound
  -- a ledger and logs that are right fit
  pub fits : {n : ℕ} {ls : List (List Entry)} {f : ℕ → Box} → n < P.bound → P.Sound n ls f → total ls ≤ horizon → (b : ℕ) → ((b ≡ 0) ⊎ ((l : ℕ) × (l < logs) × (b ≡ log_box l))) → T (nat_le (length (f b).bytes) 1048576 && all_bytes (f b).bytes)
  -- what is left to do: never more than with so many entries; filling a page that is called for adds nothing; a step that is due, its pages filled, leaves less, and so does a take that changes something
  pub work_most : {n : ℕ} {ls : List (List Entry)} {f : ℕ → Box} → n < P.bound → P.Sound n ls f → (e : ℕ) → total ls ≤ e → Work (heavy e) f
  pub work_page : {n : ℕ} {ls : List (List Entry)} {f : ℕ → Box} → n < P.bound → P.Sound n ls f → (x : List ℕ) → Now f (o.due (f 0).bytes) x → (a : Filling) → Memᴰ a (o.pages (f 0).bytes x) → (f a.box).edition ≡ 0 →
      (w : ℕ) → Work w f → Work w (at a.box (record { edition = 1; bytes = a.bytes }) f)
  pub work_step : {n : ℕ} {ls : List (List Entry)} {f : ℕ → Box} → n < P.bound → P.Sound n ls f → (x : List ℕ) → Now f (o.due (f 0).bytes) x → ((a : Filling) → Memᴰ a (o.pages (f 0).bytes x) → (1 ≤ (f a.box).edition) × ((f a.box).bytes ≡ a.bytes)) →
      (e w : ℕ) → Work w f → (v : ℕ) × (v < w) × Work v (at 0 (record { edition = e; bytes = o.after (f 0).bytes x }) f)
  pub work_take : {n : ℕ} {ls : List (List Entry)} {f : ℕ → Box} → n < P.bound → P.Sound n ls f → o.due (f 0).bytes ≡ nothing → (l : ℕ) (y : List ℕ) → l < logs → o.take (f 0).bytes l (f (log_box l)).bytes ≡ gives y → o.differs (f 0).bytes y ≡ true →
      (e w : ℕ) → Work w f → (v : ℕ) × (v < w) × Work v (at 0 (record { edition = e; bytes = y }) f)
  -- it does not matter how often the ledger was filled
  pub work_same : {f : ℕ → Box} (e w : ℕ) → Work w f → Work w (at 0 (record { edition = e; bytes = (f 0).bytes }) f)
  -- steps that are due
  pub few_pages : (l x : List ℕ) → length (o.pages l x) ≤ 2
  pub step_differs : {n : ℕ} {ls : List (List Entry)} {f : ℕ → Box} → n < P.bound → P.Sound n ls f → (x : List ℕ) → Now f (o.due (f 0).bytes) x → o.differs (f 0).bytes (o.after (f 0).bytes x) ≡ true
  pub took_step : {n : ℕ} {ls : List (List Entry)} {f : ℕ → Box} → n < P.bound → P.Sound n ls f → (x : List ℕ) → Now f (o.due (f 0).bytes) x → (l : ℕ) → Took (f 0).bytes l (f (log_box l)).bytes → Took (o.after (f 0).bytes x) l (f (log_box l)).bytes
  -- taking
  pub differs_not : (x y : List ℕ) → o.differs x y ≡ false → x ≡ y
  pub take_gives : {n : ℕ} {ls : List (List Entry)} {f : ℕ → Box} → n < P.bound → P.Sound n ls f → o.due (f 0).bytes ≡ nothing → (l : ℕ) → l < logs → o.take (f 0).bytes l (f (log_box l)).bytes ≢ lacks
  pub took_take : {n : ℕ} {ls : List (List Entry)} {f : ℕ → Box} → n < P.bound → P.Sound n ls f → o.due (f 0).bytes ≡ nothing → (l : ℕ) (y : List ℕ) → l < logs → o.take (f 0).bytes l (f (log_box l)).bytes ≡ gives y → o.due y ≡ nothing → Took y l (f (log_box l)).bytes
  pub took_other : {n : ℕ} {ls : List (List Entry)} {f : ℕ → Box} → n < P.bound → P.Sound n ls f → o.due (f 0).bytes ≡ nothing → (l : ℕ) (y : List ℕ) → l < logs → o.take (f 0).bytes l (f (log_box l)).bytes ≡ gives y →
      (k : ℕ) → k < logs → Took (f 0).bytes k (f (log_box k)).bytes → Took y k (f (log_box k)).bytes
  -- putting: once all is taken there is room for a batch
  pub adds_room : {n : ℕ} {ls : List (List Entry)} {f : ℕ → Box} → n < P.bound → P.Sound n ls f → o.due (f 0).bytes ≡ nothing → (i c s l : ℕ) (fl : List ℕ) (es : List Entry) → l < logs → Took (f 0).bytes l (f (log_box l)).bytes → P.Floor ls f (o.raise (f 0).bytes fl) → Tag n i c s → ((x : Entry) → Memᴰ x es → T (entry_ok x)) → length es ≤ 8 →
      o.adds (o.raise (f 0).bytes fl) i c s l (f (log_box l)).bytes es ≢ lacks
  -- answering ends
  pub left_most : (from most : ℕ) (l : List ℕ) (got : List Event) → most ≤ 1024 → left from most l got ≤ long
  pub left_less : {n : ℕ} {ls : List (List Entry)} {f : ℕ → Box} → n < P.bound → P.Sound n ls f → (from most b : ℕ) (got : List Event) → o.answer from most (f 0).bytes got ≡ page b → left from most (f 0).bytes (o.more from most (f 0).bytes got (f b).bytes) < left from most (f 0).bytes got

-- once nothing is due and all is taken, an answer gives all that there is
abbrev pub AnswersAll : (o : Ops) (p : Plan) (logs : ℕ) (P : Safe o p logs) → Live o p logs P → Type 0
AnswersAll o p logs P V =
    (n : ℕ) (ls : List (List Entry)) (f : ℕ → Box) → n < P.bound → P.Sound n ls f → o.due (f 0).bytes ≡ nothing → ((l : ℕ) → l < logs → V.Took (f 0).bytes l (f (log_box l)).bytes) → (from most : ℕ) (got es : List Event) → most ≤ 1024 →
    Gathered o (λ b x. P.Spent (f 0).bytes b × ((f b).bytes ≡ x)) from most (f 0).bytes got → o.answer from most (f 0).bytes got ≡ reply es → es ≡ first_of most (drop_of from (out p ls))
