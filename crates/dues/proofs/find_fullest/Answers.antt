use Rattle.std.proofs.Common.{◌≡◌, ℕ, ◌-◌, List, [], ◌∷◌, length, drop, refl, sym, arith}
use Rattle.std.proofs.lemmas.List.{drop_all}
use Rattle.book.specs.Queue.{Seg, is_of}
use Rattle.book.specs.Due.{count}
use Rattle.segs.specs.Model.{seg_of, segs_of}
use Rattle.dues.proofs.Most.{Sofar, none_rows, before, kept, better}
use Rattle.dues.proofs.find_fullest.Goals.{then-count-most, else-count-most}
use Rattle.dues.proofs.find_fullest.Goals as goal

pub loop-number-init : goal.loop-number-init
loop-number-init c =
    let slots = c.args.segments.now in
    let z = drop_all (length slots) slots (omega arith) in
    record { best = rw z refl; most = rw z (sym (none_rows c.args.rows.now)); high = rw z tt }

pub loop-number-preserved : goal.loop-number-preserved
loop-number-preserved c = record { best = sofar.is; most = sofar.rows; high = rw b refl }
  where
    i : ℕ
    i = c.loop-number.number - 1

    s : Seg
    s = seg_of c.from-segment.result

    ss : List Seg
    ss = segs_of (drop c.loop-number.number c.args.segments.now)

    b : segs_of (drop i c.args.segments.now) ≡ s ∷ ss
    b = before c.args.segments.now c.loop-number.number [] s (omega arith) (omega (arith, c.loop-number.auto.number)) c.from-segment.ensures.is

    n : c.rows_within-part.result.end - c.rows_within-part.result.start ≡ count (is_of 0 (s ∷ ss)) c.args.rows.now
    n = c.rows_within-part.ensures.many 0 (s ∷ ss) (refl, c.loop-number.invariant.high)

    sofar : Sofar i (segs_of (drop i c.args.segments.now)) c.args.rows.now c.if-count-most.best c.if-count-most.most
    sofar = elim c.if-count-most.branch [
      | then-count-most w ↦ rw (b, w.best-is, w.most-is) (better i _ s ss c.args.rows.now _ c.loop-number.most n w.if-count-most.true c.loop-number.invariant.most refl (refl, c.loop-number.invariant.high) refl)
      | else-count-most w ↦ rw (b, w.best-is, w.most-is) (kept i c.loop-number.number _ s ss c.args.rows.now c.loop-number.best c.loop-number.most (omega arith) n w.if-count-most.false (record { is = c.loop-number.invariant.best; rows = c.loop-number.invariant.most }))
    ]
