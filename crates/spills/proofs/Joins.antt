-- What the definition makes of rows that are spilled, case by case.
-- Assumes nothing.
use Rattle.std.proofs.Common.{◌≡◌, ℕ, ◌/◌, ◌<◌, ◌≤◌, ◌⊎◌, Bool, true, false, cond, List, [], ◌∷◌, length, get_or, take, Some, None, Option, inl, inr, sym, refl, ap, ◌∙◌, arith}
use Rattle.std.specs.Option.{is_some}
use Rattle.std.proofs.lemmas.Bool.{le-leb, lt-leb}
use Rattle.streams.specs.Meaning.{Sum}
use Rattle.book.specs.Rows.{Row, onto}
use Rattle.book.specs.Queue.{Link, nil, page, Seg, RowPage, split_by, one_page, too_full, merge_by, spill_by}
use Rattle.rows.specs.Model.{row_in, rows_of}
use Rattle.segs.specs.declared.segment.PageNumber.{PageNumber}
use Rattle.segs.specs.Model.{page_link}
use Rattle.spills.specs.declared.pages.Spilt.TheVariants.{Two}
use Rattle.spills.specs.Model.{spilt_of, first_at, Halves}

-- a link is none, or a page's
pub no_link : (o : Option PageNumber) → is_some o ≡ false → page_link o ≡ nil
no_link None e = refl
no_link (Some n) e = absurd (cc)

pub a_link : (o : Option PageNumber) → is_some o ≡ true → (h : ℕ) × (page_link o ≡ page h)
a_link None e = absurd (cc)
a_link (Some n) e = (n.0, refl)

-- a segment without pages
pub join_none : (how : ℕ → Sum) (size n : ℕ) (below head : Link) (rows moved : List Row) (s : Seg) → head ≡ nil → one_page n s nil moved ≡ spill_by how size n (RowPage below rows) head s moved
unfolding spill_by
join_none how size n below head rows moved s e = rw e refl

-- all in one page
pub join_fits : (how : ℕ → Sum) (size n h : ℕ) (below head : Link) (rows moved all : List Row) (s : Seg) → head ≡ page h → all ≡ onto how moved rows → length all ≤ size → one_page n s below all ≡ spill_by how size n (RowPage below rows) head s moved
unfolding spill_by merge_by
join_fits how size n h below head rows moved all s p e le =
    rw p (sym (ap (λ (c : Bool). cond c (one_page n s below all) (too_full n s s.index below all moved)) (le-leb (length all) size le)) ∙ ap (λ (x : List Row). merge_by size n s below x moved) e)

full : (how : ℕ → Sum) (size n h : ℕ) (below head : Link) (rows moved all : List Row) (s : Seg) → head ≡ page h → all ≡ onto how moved rows → size < length all → too_full n s s.index below all moved ≡ spill_by how size n (RowPage below rows) head s moved
unfolding spill_by merge_by
full how size n h below head rows moved all s p e lt =
    rw p (sym (ap (λ (c : Bool). cond c (one_page n s below all) (too_full n s s.index below all moved)) (lt-leb (length all) size lt)) ∙ ap (λ (x : List Row). merge_by size n s below x moved) e)

-- a page of its own before an index page's or another page
pub join_beside : (how : ℕ → Sum) (size n h a : ℕ) (below head : Link) (rows moved all : List Row) (s : Seg) → head ≡ page h → all ≡ onto how moved rows → size < length all → (s.index ≡ page a) ⊎ (below ≡ page a)
    → one_page n s s.head moved ≡ spill_by how size n (RowPage below rows) head s moved
unfolding too_full
join_beside how size n h a below head rows moved all s p e lt w = beside s.index below w ∙ full how size n h below head rows moved all s p e lt
  where
    beside : (i b : Link) → (i ≡ page a) ⊎ (b ≡ page a) → one_page n s s.head moved ≡ too_full n s i b all moved
    beside nil nil (inl e) = absurd (cc)
    beside nil nil (inr e) = absurd (cc)
    beside nil (page b) e = refl
    beside (page i) nil e = refl
    beside (page i) (page b) e = refl

-- two halves
two_is : (n : ℕ) (s : Seg) (o u : List Row) → 1 ≤ length u → spilt_of n s o u Two ≡ split_by n s o u
unfolding split_by
two_is n s o [] h = absurd (omega arith)
two_is n s o (y ∷ ys) h = refl

pub join_two : (how : ℕ → Sum) (size n h : ℕ) (below head : Link) (rows moved all : List Row) (s : Seg) (o u : List Row) → head ≡ page h → all ≡ onto how moved rows → size < length all → s.index ≡ nil → below ≡ nil → Halves all o u → 1 ≤ length u
    → spilt_of n s o u Two ≡ spill_by how size n (RowPage below rows) head s moved
unfolding too_full
join_two how size n h below head rows moved all s o u p e lt i b a some =
    two_is n s o u some
    ∙ ap (λ (x : List Row). split_by n s x u) a.0 ∙ ap (λ (x : List Row). split_by n s (take (length all / 2) all) x) a.1
    ∙ ap (λ (x : Link). too_full n s x nil all moved) (sym i) ∙ ap (λ (x : Link). too_full n s s.index x all moved) (sym b)
    ∙ full how size n h below head rows moved all s p e lt

-- the rows of both, and the first row's key
pub joined : (how : ℕ → Sum) {all moved was rows shown : List Row} → all ≡ onto how moved was → moved ≡ rows → was ≡ shown → all ≡ onto how rows shown
joined how {all} {moved} {was} {rows} {shown} e p q = e ∙ ap (λ (x : List Row). onto how x was) p ∙ ap (onto how rows) q

pub first_is : (slots : List (List ℕ)) (rs : List Row) (d : List ℕ) (r : Row) → rows_of slots ≡ rs → 1 ≤ length rs → r ≡ row_in (get_or slots 0 d) → r.at ≡ first_at rs
first_is [] rs d r e h is = absurd (let l = ap length e in omega arith)
first_is (w ∷ ws) rs d r e h is = rw (← e) (ap (λ (x : Row). x.at) is)
