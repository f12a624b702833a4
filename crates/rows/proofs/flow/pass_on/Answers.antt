use Rattle.std.proofs.Common.{◌≡◌, ℕ, zero, suc, ◌<◌, ◌≤◌, eqb, List, [], ◌∷◌, map, length, get_or, drop, Some, None, sym, refl, ap, ◌∙◌, subst, inl, inr, arith}
use Rattle.std.proofs.lemmas.List.{drop_all, length-map}
use Rattle.std.proofs.lemmas.Bool.{eq-eqb, ne_eqb, cond_both}
use Rattle.streams.specs.Meaning as spec
use Rattle.book.specs.Rows as book
use Rattle.book.specs.Due.{Sized}
use Rattle.book.specs.Flow as flow
use Rattle.plans.specs.declared.entries.Event.{Event}
use Rattle.plans.specs.declared.stages.Stage.{Stage}
use Rattle.plans.specs.Model.{as_event, stage_of}
use Rattle.rows.specs.declared.flow.Onward.{Onward}
use Rattle.rows.specs.declared.flow.Onward.TheVariants.{Out, On, Gone}
use Rattle.rows.specs.declared.row.Row.{Row}
use Rattle.rows.specs.Model.{row_of}
use Rattle.rows.specs.Flow.{Enters, Goes}
use Rattle.rows.proofs.flow.pass_on.Goals as goal

-- out of the last stage
out : (sts : List Stage) (r : book.Row) (e : Event) → length sts ≤ suc r.at.stage → as_event e ≡ flow.as_event r → Goes (flow.onward (map stage_of sts) r) (Out e)
unfolding flow.onward_by
out sts r e p h =
    let z : length (map stage_of sts) ≤ suc r.at.stage = simp length-map (omega arith) in
    rw (drop_all (suc r.at.stage) (map stage_of sts) z) h

-- into the next stage
entered : (st : spec.Stage) (s : ℕ) (rest : List spec.Stage) (e : spec.Event) (r : Row) → Enters st s e (Some r) → Goes (flow.onward_by (st ∷ rest) s e) (On r)
unfolding flow.onward_by
entered st s rest e r h = rw (ne_eqb (spec.word st.keep' e) 0 h.0) h.1

refused : (st : spec.Stage) (s : ℕ) (rest : List spec.Stage) (e : spec.Event) → Enters st s e None → Goes (flow.onward_by (st ∷ rest) s e) Gone
unfolding flow.onward_by
refused st s rest e (inl h) = rw (eq-eqb (spec.word st.keep' e) 0 h) tt
refused st s rest e (inr h) = cond_both (eqb (spec.word st.keep' e) 0) flow.Gone (flow.On (flow.row_of st s e)) (λ x. Goes x Gone) (λ p. tt) (λ p. h)

next : (sts : List Stage) (i : ℕ) (d : Stage) → i < length sts → (rest : List spec.Stage) × (drop i (map stage_of sts) ≡ stage_of (get_or sts i d) ∷ rest)
next [] i d h = absurd (omega arith)
next (st ∷ sts) zero d h = (map stage_of sts, refl)
next (st ∷ sts) (suc i) d h = next sts i d (omega arith)

on : (sts : List Stage) (r : book.Row) (i : ℕ) (d : Stage) (e : Event) (o : Onward) → i ≡ suc r.at.stage → i < length sts → d ≡ get_or sts i d → as_event e ≡ flow.as_event r
    → ((rest : List spec.Stage) → Goes (flow.onward_by (stage_of d ∷ rest) i (as_event e)) o) → Goes (flow.onward (map stage_of sts) r) o
on sts r i d e o is lt at ev h =
    let n = next sts i d lt in
    let z : drop i (map stage_of sts) ≡ stage_of d ∷ n.0 = n.1 ∙ ap (λ (x : Stage). stage_of x ∷ n.0) (sym at) in
    let k : Goes (flow.onward_by (drop i (map stage_of sts)) i (flow.as_event r)) o = rw (z, ← ev) (h n.0) in
    subst (λ (j : ℕ). Goes (flow.onward_by (drop j (map stage_of sts)) j (flow.as_event r)) o) is k

sized : (sts : List Stage) (i : ℕ) (d : Stage) → Sized (map stage_of sts) → i < length sts → 0 < (get_or sts i d).size.0
sized [] i d h lt = absurd (omega arith)
sized (st ∷ sts) zero d h lt = h.0
sized (st ∷ sts) (suc i) d h lt = sized sts i d h.1 (omega arith)

pub returns-in_default : goal.returns-in_default
returns-in_default c = out c.args.stages.now (row_of c.args.row) c.event_of-event.result (omega (arith, c.in_default.ensures.lookup.3)) c.event_of-event.ensures

pub row_of-requires : goal.row_of-requires
row_of-requires c =
    let e = c.in-Some.ensures.lookup.3 in
    let d = c.in-Some.stage.now in
    subst (λ (x : Stage). 0 < x.size.0) (sym (e.1 d)) (sized c.args.stages.now c.saturating_add-next.result d c.requires e.0)

pub returns-in-Some-row_of : goal.returns-in-Some-row_of
returns-in-Some-row_of c =
    let e = c.in-Some.ensures.lookup.3 in
    let d = c.in-Some.stage.now in
    let i = c.saturating_add-next.result in
    on c.args.stages.now (row_of c.args.row) i d c.event_of-event.result (On c.in-Some-row_of.row) (omega (arith, e.0)) e.0 (e.1 d) c.event_of-event.ensures
    (λ rest. entered (stage_of d) i rest (as_event c.event_of-event.result) c.in-Some-row_of.row c.in-Some-row_of.ensures)

pub returns-in-None : goal.returns-in-None
returns-in-None c =
    let e = c.in-Some.ensures.lookup.3 in
    let d = c.in-Some.stage.now in
    let i = c.saturating_add-next.result in
    on c.args.stages.now (row_of c.args.row) i d c.event_of-event.result Gone (omega (arith, e.0)) e.0 (e.1 d) c.event_of-event.ensures
    (λ rest. refused (stage_of d) i rest (as_event c.event_of-event.result) c.in-None.ensures)
