-- What the values of the code stand for in the definitions of the book.
-- Assumes nothing.
use Rattle.std.specs.Prelude.{◌≡◌, ℕ, suc, ◌/◌, ◌≤◌, List, [], ◌∷◌, length, take, drop}
use Rattle.book.specs.Rows.{Key, Row}
use Rattle.book.specs.Queue.{nil, page, Seg, RowPage, Spilled, one_page}
use Rattle.segs.specs.Model.{page_link}
use Rattle.spills.specs.declared.pages.Pages.{Pages}
use Rattle.spills.specs.declared.pages.Spilt.{Spilt}
use Rattle.spills.specs.declared.pages.Spilt.TheVariants.{One, Two}

-- the first row's key
abbrev pub first_at : List Row → Key
first_at [] = record { end = 0; stage = 0; key = 0 }
first_at (r ∷ rs) = r.at

-- the pages that rows became, with the next page's number, and the segments of them
abbrev pub spilt_of : (next : ℕ) → Seg → (out upper : List Row) → Spilt → Spilled
spilt_of n s o u (One below) = one_page n s (page_link below) o
spilt_of n s o u Two = record {
  segs = record { low = s.low; index = nil; head = page n; level = 0 } ∷ record { low = first_at u; index = nil; head = page (suc n); level = 0 } ∷ [];
  writes = record { number = n; content = RowPage nil o } ∷ record { number = suc n; content = RowPage nil u } ∷ [];
}

-- two halves of rows
abbrev pub Halves : (rows out upper : List Row) → Type 0
Halves rs o u = (o ≡ take (length rs / 2) rs) × (u ≡ drop (length rs / 2) rs)

-- of two pages, the second has rows
abbrev pub HasUpper : (upper : List Row) → Spilt → Type 0
HasUpper u (One below) = Unit {0}
HasUpper u Two = 1 ≤ length u

-- no page has more rows than it should, and of two pages the second has some
abbrev pub Few : (size : ℕ) → (out upper : List Row) → Spilt → Type 0
Few z o u (One below) = length o ≤ z
Few z o u Two = (length o ≤ z) × (length u ≤ z) × (1 ≤ length u)

-- the memory for pages is as large as it was
abbrev pub SamePages : (old new : Pages) → Type 0
SamePages p q = (q.out.room ≡ p.out.room) × (q.upper.room ≡ p.upper.room)
