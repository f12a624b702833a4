use Rattle.std.proofs.Common.{◌≡◌, ◌++◌, length, take, drop, refl, sym, ap, ◌∙◌, subst}
use Rattle.std.proofs.lemmas.List.{take_at, map-append, take-map, drop-map}
use Rattle.book.specs.Rows.{Sorted}
use Rattle.rows.specs.Model.{rows_of}
use Rattle.rows.proofs.Parts.{sorted_without}
use Rattle.rows.proofs.lent.take_share.Goals as goal

-- what is moved, and what is left
moved : (c : goal.After-slots-1) → rows_of (take (length c.as_slice-from.result.now) (c.copy_from_slice.new.self ++ drop (length c.as_slice-from.result.now) c.args.to.now)) ≡ c.part.result
moved c =
    let from = c.as_slice-from.result.now in
    rw c.copy_from_slice.ensures.after (ap rows_of (take_at from (drop (length from) c.args.to.now) (length from) refl) ∙ c.as_slice-from.ensures.rows)

left : (c : goal.After-slots-1) → rows_of (take c.remove_range-left.result c.remove_range-left.new.slots) ≡ take c.share-part.result.start (rows_of (take c.args.count c.args.slots.now)) ++ drop c.share-part.result.end (rows_of (take c.args.count c.args.slots.now))
left c = rw c.remove_range-left.ensures.items (simp (map-append, take-map, drop-map))

pub returns-clause-shared : goal.returns-clause-shared
returns-clause-shared c = rw (moved c, c.part.ensures, left c, ← c.new-rows.ensures) c.share-part.ensures.shared

pub returns-clause-sorted : goal.returns-clause-sorted
returns-clause-sorted c = (subst Sorted (sym (moved c)) c.as_slice-from.ensures.sorted, subst Sorted (sym (left c)) (sorted_without _ _ _ c.share-part.ensures.order c.requires.sorted))
