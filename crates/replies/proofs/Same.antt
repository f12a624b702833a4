-- No two answers have the same bytes, and which bytes are no answer's. Assumes nothing.
use Rattle.std.proofs.Common.{◌≡◌, ℕ, Bool, true, false, nat_eq, cond, ◌==◌, ◌+◌, ◌*◌, ◌/◌, ◌<◌, ◌≤◌, List, [], ◌∷◌, ◌++◌, length, get_or, take, drop, set, None, Option, sym, refl, ap, ◌∙◌, subst, arith, take_all}
use Rattle.streams.specs.Calls.{Reply, No, Yes, Outs, Full}
use Rattle.octets.specs.Form.{two}
use Rattle.octets.proofs.Bytes.{two_value, two_same}
use Rattle.octets.proofs.Front.{later}
use Rattle.std.proofs.lemmas.List.{drop-set-lt}
use Rattle.std.proofs.Math.Seq.{take-suc-set}
use Rattle.std.specs.Bool.{then_some}
use Rattle.std.proofs.lemmas.Bool.{eqb-true, eqb-false}
use Rattle.replies.specs.declared.kinds.Reply as code
use Rattle.replies.specs.declared.events.Events.{Events}
use Rattle.replies.specs.declared.kinds.Kind.{Kind}
use Rattle.replies.specs.declared.kinds.Kind.TheVariants as kind
use Rattle.replies.specs.Kinds.{byte_of}
use Rattle.replies.specs.Listing.{listing, listed, events_in}
use Rattle.replies.specs.Form.{form, Fit, Reads, Written}
use Rattle.replies.proofs.Listed.{later_byte, each_fit, length_listed, listing_of, length_listing, listing_back}

kinds : {j k : ℕ} {xs ys : List ℕ} → j ∷ xs ≡ k ∷ ys → j ≡ k
kinds e = ap (λ l. get_or l 0 0) e

-- the answer that has these bytes, if one has
abbrev reply_at : List ℕ → Reply
reply_at bs = cond (get_or bs 0 0 == 0) (No (get_or bs 1 0)) (cond (get_or bs 0 0 == 1) Yes (cond (get_or bs 0 0 == 2) (Outs (listed (get_or bs 1 0 * 256 + get_or bs 2 0) (drop 3 bs))) Full))

pub reply_back : (a : Reply) → Fit a → reply_at (form a) ≡ a
reply_back (No n) f = refl
reply_back Yes f = refl
reply_back (Outs es) f = ap Outs (ap (λ n. listed n (listing es)) (sym (two_value (length es) f.0)) ∙ listing_back es f.1)
reply_back Full f = refl

one_reply : (a b : Reply) → Fit a → Fit b → form a ≡ form b → a ≡ b
one_reply a b f g e = sym (reply_back a f) ∙ ap reply_at e ∙ reply_back b g

pub told : (bs : List ℕ) (x : Reply) → Fit x → bs ≡ form x → (bs ≡ form x) × ((a : Reply) → Fit a → bs ≡ form a → x ≡ a)
told bs x f e = (e, λ a g h. one_reply x a f g (sym e ∙ h))

-- what an answer with the events in these bytes is written as
pub out_form : (B : List ℕ) (m : ℕ) → ((i : ℕ) → get_or B i 0 < 256) → length B / 24 ≡ m → form (Outs (events_in B)) ≡ 2 ∷ two m ++ take (24 * m) B
out_form B m f is =
    let many : length (events_in B) ≡ m = length_listed (length B / 24) B ∙ is in
    let bytes : listing (events_in B) ≡ take (24 * m) B = sym (listing_of (length B / 24) B f (omega arith)) ∙ ap (λ k. take (24 * k) B) is in
    (λ i. 2 ∷ two (many i) ++ bytes i)

pub out_told : (b B : List ℕ) (m : ℕ) → ((i : ℕ) → get_or b i 0 < 256) → m < 65536 → b ≡ two m ++ B → length B ≡ 24 * m → (2 ∷ b ≡ form (Outs (events_in B))) × ((a : Reply) → Fit a → 2 ∷ b ≡ form a → Outs (events_in B) ≡ a)
out_told b B m f lt e h =
    let is : length B / 24 ≡ m = omega arith in
    let g : (i : ℕ) → get_or B i 0 < 256 = λ i. subst (λ (l : List ℕ). get_or l i 0 < 256) (ap (drop 2) e) (later_byte b f 2 i) in
    let whole = ap (λ l. 2 ∷ two m ++ l) (sym (take_all (24 * m) B (omega arith))) in
    let few : length (events_in B) < 65536 = omega (arith, length_listed (length B / 24) B) in
    told (2 ∷ b) (Outs (events_in B)) (few, each_fit (length B / 24) B g) (ap (λ l. 2 ∷ l) e ∙ whole ∙ sym (out_form B m g is))

-- a byte alone
pub lone : (xs : List ℕ) → length xs ≡ 1 → xs ≡ get_or xs 0 0 ∷ []
lone [] h = absurd (omega arith)
lone (x ∷ []) h = refl
lone (x ∷ y ∷ xs) h = absurd (omega arith)

-- bytes that begin as an answer with events, and are none
pub no_out : (b : List ℕ) → ((m : ℕ) (rest : List ℕ) → m < 65536 → b ≡ two m ++ rest → length rest ≡ 24 * m → ⊥) → Reads (2 ∷ b) None
no_out b h (No n) f e = absurd (omega (arith, kinds e))
no_out b h Yes f e = absurd (omega (arith, kinds e))
no_out b h (Outs es) f e = h (length es) (listing es) f.0 (ap (drop 1) e) (length_listing es)
no_out b h Full f e = absurd (omega (arith, kinds e))

-- what is read of a count and the bytes behind it
pub out_read : (b : List ℕ) (es : Events) (m : ℕ) (r : Option code.Reply) → ((i : ℕ) → get_or b i 0 < 256) → m < 65536 → b ≡ two m ++ es.bytes.now → r ≡ then_some (nat_eq (length es.bytes.now) (24 * m)) (code.TheVariants.Out es) → Reads (2 ∷ b) r
out_read b es m r f lt e is = subst (Reads (2 ∷ b)) (sym is) (go (nat_eq (length es.bytes.now) (24 * m)) refl)
  where
    go : (t : Bool) → nat_eq (length es.bytes.now) (24 * m) ≡ t → Reads (2 ∷ b) (then_some t (code.TheVariants.Out es))
    go true h = out_told b es.bytes.now m f lt e (eqb-true _ _ h)
    go false h = no_out b (λ k rest lt' e' long. let same = two_same m k es.bytes.now rest lt lt' (sym e ∙ e') in eqb-false _ _ h (omega (arith, same.0, ap length same.1, long)))

-- a byte that no kind goes by
pub no_kind : (b : ℕ) (rest : List ℕ) → ((k : Kind) → byte_of k ≡ b → ⊥) → Reads (b ∷ rest) None
no_kind b rest h (No n) f e = h kind.Refused (sym (kinds e))
no_kind b rest h Yes f e = h kind.Yes (sym (kinds e))
no_kind b rest h (Outs es) f e = h kind.Out (sym (kinds e))
no_kind b rest h Full f e = h kind.Full (sym (kinds e))

pub with_kind : (bs rest : List ℕ) (r : Option code.Reply) → bs ≡ rest → Reads rest r → Reads bs r
with_kind bs rest r e h = subst (λ (l : List ℕ). Reads l r) (sym e) h

-- the bytes of an answer with events, written in three steps
pub wrote_out : (B before first after : List ℕ) (k at n m : ℕ) → ((i : ℕ) → get_or B i 0 < 256) → length B / 24 ≡ m → k ≡ 2 → at ≡ 3 → n ≡ 3 + 24 * m → n ≤ length before → n ≤ length after →
    take at first ≡ take 1 (set before 0 k) ++ two m → drop at first ≡ drop at (set before 0 k) → take n after ≡ take at first ++ take (24 * m) B → drop n after ≡ drop n first →
    Written (Outs (events_in B)) n before after
wrote_out B before first after k at n m f is kind-is at_is n_is room room' w1 k1 w2 k2 =
    let one = take-suc-set before 0 k (omega arith) ∙ ap (λ b. b ∷ []) kind-is in
    record {
      within = room';
      bytes = w2 ∙ ap (λ l. l ++ take (24 * m) B) (w1 ∙ ap (λ l. l ++ two m) one) ∙ sym (out_form B m f is);
      kept = k2 ∙ later at n first (set before 0 k) (omega arith) k1 ∙ drop-set-lt n before 0 k (omega arith);
    }

-- how long an answer with events is
pub out_long : (B : List ℕ) (m : ℕ) → length B / 24 ≡ m → length (form (Outs (events_in B))) ≡ 3 + 24 * m
out_long B m is = omega (arith, length_listing (events_in B), length_listed (length B / 24) B)
