-- What a reading leaves is an end of the text: white space, numbers, and how readers are put together. Assumes nothing.
use Rattle.std.proofs.Common.{ℕ, ◌+◌, ◌-◌, ◌*◌, Bool, true, false, cond, ◌&&◌, ltb, leb, List, [], ◌∷◌, ◌++◌, take, drop, Some, None, Ok, Err, Option, Result, refl, sym, ap, subst, ◌∙◌, append_assoc}
use Rattle.std.proofs.lemmas.List.{take-append-drop}
use Rattle.std.specs.Borrow.{Bor}
use Rattle.std.specs.Char.{is_ascii_digit}
use Rattle.streams.specs.Meaning.{top}
use Rattle.grammar.specs.declared.refusals.Why.{Why}
use Rattle.grammar.specs.Reading.{Got, got, bad, Reader, after, letter, skip, blank, starts_digit, digits, number, limited, or_else}
use Rattle.tokens.specs.declared.faults.Fault.{Fault}
use Rattle.tokens.specs.declared.faults.Fault.TheVariants.{Memory, Refused}
use Rattle.tokens.specs.declared.faults.Unexpected.{Unexpected}
use Rattle.tokens.specs.Says.{Reads, Says, EndOf, Ends, EndsOrStops}

abbrev pub Leaves : {A : Type 0} → List ℕ → Got A → Type 0
Leaves text (got a rest) = EndOf text rest
Leaves text (bad why rest) = EndOf text rest

-- what a reader leaves is an end of the text, if it begins at one
abbrev pub Tail : {A : Type 0} → Reader A → Type 0
Tail r = (text bs : List ℕ) → EndOf text bs → Leaves text (r bs)

-- all of it, and an end of an end
pub end_all : (text : List ℕ) → EndOf text text
end_all text = record { front = []; is = refl }

pub end_drop : (n : ℕ) (text bs : List ℕ) → EndOf text bs → EndOf text (drop n bs)
end_drop n text bs e = record { front = e.front ++ take n bs; is = e.is ∙ ap (λ x. e.front ++ x) (sym (take-append-drop n bs)) ∙ sym (append_assoc e.front (take n bs) (drop n bs)) }

pub end_skip : (text bs : List ℕ) → EndOf text bs → EndOf text (skip bs)
unfolding skip
end_skip text [] e = e
end_skip text (c ∷ cs) e = elim (blank c) as (λ b. EndOf text (cond b (skip cs) (c ∷ cs))) [ true ↦ end_skip text cs (end_drop 1 text (c ∷ cs) e) | false ↦ e ]

pub after_leaves : {A B : Type 0} (text : List ℕ) (g : Got A) (f : A → List ℕ → Got B) → Leaves text g → ((a : A) (rest : List ℕ) → EndOf text rest → Leaves text (f a rest)) → Leaves text (after g f)
unfolding after
after_leaves text (got a rest) f e k = k a rest e
after_leaves text (bad why rest) f e k = e

pub cond_leaves : {A : Type 0} (text : List ℕ) (b : Bool) (x y : Got A) → Leaves text x → Leaves text y → Leaves text (cond b x y)
cond_leaves text true x y h k = h
cond_leaves text false x y h k = k

pub option_leaves : {A B : Type 0} (text : List ℕ) (o : Option B) (x : Got A) (f : B → Got A) → Leaves text x → ((b : B) → Leaves text (f b)) → Leaves text (or_else o x f)
option_leaves text None x f h k = h
option_leaves text (Some b) x f h k = k b

-- ---- numbers
pub digits_leave : (start : List ℕ) (n : ℕ) (text bs : List ℕ) → EndOf text start → EndOf text bs → Leaves text (digits start n bs)
unfolding digits
digits_leave start n text [] s e = e
digits_leave start n text (c ∷ cs) s e =
    cond_leaves text (is_ascii_digit c) _ _ (cond_leaves text (ltb (n * 10 + (c - 48)) top) _ _ (digits_leave start (n * 10 + (c - 48)) text cs s (end_drop 1 text (c ∷ cs) e)) s)
    (cond_leaves text (letter c) _ _ e e)

pub number_leaves : Tail number
unfolding number
number_leaves text bs e = let s = end_skip text bs e in cond_leaves text (starts_digit (skip bs)) _ _ (digits_leave (skip bs) 0 text (skip bs) s s) s

pub limited_leaves : (why : Why) (low : ℕ) → Tail (limited why low)
unfolding limited
limited_leaves why low text bs e = after_leaves text (number bs) _ (number_leaves text bs e) (λ n rest r. cond_leaves text (leb low n && leb n 1099511627776) _ _ r (end_skip text bs e))

-- ---- of answers that say what is read
pub ends : {X A : Type 0} (view : X → A) (g : Got A) (text : List ℕ) (r : Result (X × Bor (List ℕ)) Unexpected) → Leaves text g → Reads view g r → Ends text r
ends view g text (Ok x) l e = subst (Leaves text) e l
ends view g text (Err u) l e = subst (Leaves text) e l

pub ends_or_stops : {X A : Type 0} (view : X → A) (g : Got A) (text : List ℕ) (r : Result (X × Bor (List ℕ)) (Fault Unexpected)) → Leaves text g → Says view g r → EndsOrStops text r
ends_or_stops view g text (Ok x) l e = subst (Leaves text) e l
ends_or_stops view g text (Err Memory) l e = tt
ends_or_stops view g text (Err (Refused u)) l e = subst (Leaves text) e l
