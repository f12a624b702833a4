-- A book-keeper's logs have no more entries than calls were made.
use Rattle.std.proofs.Common.{◌≡◌, ℕ, zero, suc, ◌+◌, ◌≤◌, Bool, List, [], ◌∷◌, ◌++◌, length, refl, arith}
use Rattle.streams.specs.Meaning.{Entry, Plan}
use Rattle.streams.specs.Calls.{Call, Reply, State, empties, put_in, Answers, put, bad_put, no_log, full, outs, too_many, gone, drop, no_drop, not_yet}
use Rattle.streams.specs.Hands.{Seen, Open, Ready, Book, empty, comes_in, is_done, goes_out, handed_back}
use Rattle.book.specs.Small.{total}
use Rattle.shelf.specs.Moments.{calls}
use Rattle.worker.proofs.Jobs.{K}

total_empties : (n : ℕ) → total (empties n) ≡ 0
unfolding empties
total_empties zero = refl
total_empties (suc n) = let r = total_empties n in omega (arith, r)

length_mid : {A : Type 0} (xs ys : List A) (a : A) → length (xs ++ a ∷ ys) ≡ suc (length (xs ++ ys))
length_mid [] ys a = refl
length_mid (x ∷ xs) ys a = let r = length_mid xs ys a in omega (arith, r)

length_last : (l : List Entry) (e : Entry) → length (l ++ (e ∷ [])) ≡ suc (length l)
length_last [] e = refl
length_last (x ∷ l) e = let r = length_last l e in omega (arith, r)

total_put : (n : ℕ) (e : Entry) (ls : List (List Entry)) → total (put_in n e ls) ≤ suc (total ls)
unfolding put_in
total_put n e [] = omega arith
total_put zero e (l ∷ ls) = let r = length_last l e in omega (arith, r)
total_put (suc n) e (l ∷ ls) = let r = total_put n e ls in omega (arith, r)

-- whatever is answered adds one entry at most
may_one : {p : Plan} {can : Call → Bool} {room : ℕ} {c : Call} {s t : State} {r : Reply} → Answers p can room c s r t → total t.logs ≤ suc (total s.logs)
may_one (put n e s a b l) = total_put n e s.logs
may_one (bad_put n e s a b) = omega arith
may_one (no_log n e s a b l) = omega arith
may_one (full n e s a b l x y) = omega arith
may_one (outs f k j s a b d l) = omega arith
may_one (too_many f k s a b) = omega arith
may_one (gone f k s a b d) = omega arith
may_one (drop n s a l) = omega arith
may_one (no_drop n s a l) = omega arith
may_one (not_yet c s a) = omega arith

module _ (p : Plan) (logs : ℕ) where
  -- one for each call at most that is open no more
  pub entries_most : {es : List (Seen Call Reply)} {u : State} {os : List (Open Call)} {rs : List (Ready Reply)} → Book (K p logs) es u os rs → total u.logs + length os ≤ calls es
  unfolding calls
  entries_most empty = let r = total_empties logs in omega (arith, r)
  entries_most (comes_in i k c b) = let r = entries_most b in omega (arith, r)
  entries_most (is_done xs ys i k c b m) = let r = entries_most b in let q = length_mid xs ys (record { hand = i; number = k; call = c }) in let t = may_one m in omega (arith, r, q, t)
  entries_most (goes_out xs ys i k y b) = entries_most b
  entries_most (handed_back xs ys i k c b) = let r = entries_most b in let q = length_mid xs ys (record { hand = i; number = k; call = c }) in omega (arith, r, q)
