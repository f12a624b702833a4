-- Events listed as bytes are read again, and bytes read as events are listed again. Assumes nothing.
use Rattle.std.proofs.Common.{◌≡◌, ℕ, zero, suc, ◌+◌, ◌*◌, ◌/◌, ◌^◌, ◌<◌, ◌≤◌, List, [], ◌∷◌, ◌++◌, length, get_or, take, drop, Some, None, sym, refl, ap, ◌∙◌, arith, length-drop, get_or-drop, take_all}
use lib.Seq.{take-append-add}
use Rattle.std.proofs.lemmas.List.{drop-drop, take-append-drop}
use Rattle.std.specs.Simd.{first_chunks}
use Rattle.streams.specs.Meaning.{Event}
use Rattle.octets.specs.Form.{eight, word_of}
use Rattle.octets.proofs.Bytes.{eight_of, eight_value}
use Rattle.replies.specs.Form.{EachFit}
use Rattle.replies.specs.Listing.{listing, first_of, listed, events_in, Got}
use Rattle.calls.specs.Form.{event_bytes}
use Rattle.plans.specs.Model.{as_event}
use Rattle.plans.specs.declared.entries.Event as code

pub length_listed : (n : ℕ) (bs : List ℕ) → length (listed n bs) ≡ n
length_listed zero bs = refl
length_listed (suc n) bs = ap suc (length_listed n (drop 24 bs))

-- the event at each place
pub listed_at : (n i : ℕ) (bs : List ℕ) (d : Event) → i < n → get_or (listed n bs) i d ≡ first_of (drop (24 * i) bs)
listed_at zero i bs d h = absurd (omega arith)
listed_at (suc n) zero bs d h = refl
listed_at (suc n) (suc i) bs d h =
    let e : 24 + 24 * i ≡ 24 * suc i = omega arith in
    listed_at n i (drop 24 bs) d (omega arith) ∙ ap first_of (drop-drop (24 * i) 24 bs ∙ ap (λ k. drop k bs) e)

-- the event whose bytes stand in front
first_back : (e : Event) (rest : List ℕ) → e.time < 2 ^ 64 → e.key < 2 ^ 64 → e.value < 2 ^ 64 → first_of (eight e.time ++ eight e.key ++ eight e.value ++ rest) ≡ e
first_back e rest t k v = λ i. record { time = sym (eight_value e.time t) i; key = sym (eight_value e.key k) i; value = sym (eight_value e.value v) i }

-- the i-th whole part of 24 bytes
pub chunk_at : (n i : ℕ) (bs d : List ℕ) → i < n → get_or (first_chunks 24 n bs) i d ≡ take 24 (drop (24 * i) bs)
chunk_at zero i bs d h = absurd (omega arith)
chunk_at (suc n) zero bs d h = refl
chunk_at (suc n) (suc i) bs d h =
    let e : 24 + 24 * i ≡ 24 * suc i = omega arith in
    chunk_at n i (drop 24 bs) d (omega arith) ∙ ap (take 24) (drop-drop (24 * i) 24 bs ∙ ap (λ k. drop k bs) e)

-- the event that stands behind i others
pub event_at : (i : ℕ) (bs rest : List ℕ) (e : code.Event) → e.time.0 < 2 ^ 64 → e.key.0 < 2 ^ 64 → e.value.0 < 2 ^ 64 → i < length bs / 24 → take 24 (drop (24 * i) bs) ≡ event_bytes e ++ rest → Got (events_in bs) i (Some e)
event_at i bs rest e t k v in_range is =
    let many = length_listed (length bs / 24) bs in
    let behind = drop 24 (drop (24 * i) bs) in
    let whole : drop (24 * i) bs ≡ event_bytes e ++ (rest ++ behind) = sym (take-append-drop 24 (drop (24 * i) bs)) ∙ ap (λ l. l ++ behind) is in
    (omega arith, listed_at (length bs / 24) i bs (as_event e) in_range ∙ ap first_of whole ∙ first_back (as_event e) (rest ++ behind) t k v)

pub none_at : (i : ℕ) (bs : List ℕ) → length bs < 24 * i + 24 → Got (events_in bs) i None
none_at i bs h = omega (arith, length_listed (length bs / 24) bs)

module _ (bs : List ℕ) (f : (i : ℕ) → get_or bs i 0 < 256) where
  low : word_of bs < 18446744073709551616
  low = omega (arith, f 0, f 1, f 2, f 3, f 4, f 5, f 6, f 7)

  pub later_byte : (k i : ℕ) → get_or (drop k bs) i 0 < 256
  later_byte k i = rw (get_or-drop k bs i 0) (f (k + i))

-- every event in bytes fits
pub each_fit : (n : ℕ) (bs : List ℕ) → ((i : ℕ) → get_or bs i 0 < 256) → EachFit (listed n bs)
each_fit zero bs f = tt
each_fit (suc n) bs f = (low bs f, low (drop 8 bs) (later_byte bs f 8), low (drop 16 bs) (later_byte bs f 16), each_fit n (drop 24 bs) (later_byte bs f 24))

-- the first eight bytes are those of the number in them
cut : (bs : List ℕ) → ((i : ℕ) → get_or bs i 0 < 256) → 8 ≤ length bs → bs ≡ eight (word_of bs) ++ drop 8 bs
cut bs f h = eight_of bs (word_of bs) f h refl ∙ ap (λ l. eight (word_of bs) ++ l) (take_all _ (drop 8 bs) (simp length-drop (omega arith)))

-- the first 24 bytes are those of the event in them
split : (bs : List ℕ) → ((i : ℕ) → get_or bs i 0 < 256) → 24 ≤ length bs → bs ≡ (eight (word_of bs) ++ eight (word_of (drop 8 bs)) ++ eight (word_of (drop 16 bs))) ++ drop 24 bs
split bs f h =
    let two = cut (drop 8 bs) (later_byte bs f 8) (simp length-drop (omega arith)) in
    let three = cut (drop 16 bs) (later_byte bs f 16) (simp length-drop (omega arith)) in
    let mid = drop-drop 8 8 bs ∙ three ∙ ap (λ l. eight (word_of (drop 16 bs)) ++ l) (drop-drop 8 16 bs) in
    cut bs f (omega arith) ∙ ap (λ l. eight (word_of bs) ++ l) (two ∙ ap (λ l. eight (word_of (drop 8 bs)) ++ l) mid)

-- bytes that are whole events are the listing of these
pub listing_of : (n : ℕ) (bs : List ℕ) → ((i : ℕ) → get_or bs i 0 < 256) → 24 * n ≤ length bs → take (24 * n) bs ≡ listing (listed n bs)
listing_of zero bs f h = refl
listing_of (suc n) bs f h =
    let first = eight (word_of bs) ++ eight (word_of (drop 8 bs)) ++ eight (word_of (drop 16 bs)) in
    let more : 24 * suc n ≡ 24 + 24 * n = omega arith in
    let rest = listing_of n (drop 24 bs) (later_byte bs f 24) (simp length-drop (omega arith)) in
    ap (λ k. take k bs) more ∙ ap (take (24 + 24 * n)) (split bs f (omega arith)) ∙ take-append-add first (drop 24 bs) (24 * n) ∙ ap (λ l. first ++ l) rest

pub length_listing : (es : List Event) → length (listing es) ≡ 24 * length es
length_listing [] = refl
length_listing (e ∷ es) = omega (arith, length_listing es)

-- what was listed is read again
pub listing_back : (es : List Event) → EachFit es → listed (length es) (listing es) ≡ es
listing_back [] f = refl
listing_back (e ∷ es) f = (λ i. first_back e (listing es) f.0 f.1 f.2 i ∷ listing_back es f.3 i)
