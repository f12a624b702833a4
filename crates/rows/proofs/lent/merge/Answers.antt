use Rattle.std.proofs.Common.{◌≡◌, ℕ, List, [], ◌∷◌, ◌++◌, length, take, refl, sym, ap, ◌∙◌, append_assoc, append-nil, length-append, arith}
use Rattle.book.specs.Rows.{Row, onto, add}
use Rattle.rows.specs.Model.{row_of, rows_of, aggregates_of}
use Rattle.rows.proofs.lent.merge.Goals as goal

pub loop-words-init : goal.loop-words-init
unfolding onto
loop-words-init c =
    let whole : c.into_iter-words-iterator.result.iter.rest.now ≡ c.args.from.now = cc in
    record { done = []; all = sym (rw whole (append-nil c.args.from.now)); rows = refl; few = rw whole (omega arith); sorted = c.requires.sorted }

pub add-so_far-requires-clause-room : goal.add-so_far-requires-clause-room
add-so_far-requires-clause-room c =
    let i = c.loop-words.invariant in
    let rest = c.next.new.self.iter.rest.now in
    let left : c.loop-words.words-iterator.iter.rest.now ≡ rest ++ (c.in-Some.words.now ∷ []) = c.in-Some.ensures.steps in
    omega (arith, i.few, c.requires.room, c.loop-words.auto.slots, ap length left, length-append rest (c.in-Some.words.now ∷ []))

pub loop-words-preserved : goal.loop-words-preserved
unfolding onto
loop-words-preserved c =
    let i = c.loop-words.invariant in
    let how = aggregates_of c.args.stages.now in
    let rest = c.next.new.self.iter.rest.now in
    let left : c.loop-words.words-iterator.iter.rest.now ≡ rest ++ (c.in-Some.words.now ∷ []) = c.in-Some.ensures.steps in
    record {
      done = c.in-Some.words.now ∷ i.done;
      all = i.all ∙ ap (λ (xs : List (List ℕ)). xs ++ i.done) left ∙ append_assoc rest (c.in-Some.words.now ∷ []) i.done;
      rows = c.add-so_far.ensures.rows ∙ ap (add how (row_of c.from.result)) i.rows ∙ ap (λ (r : Row). add how r (onto how (rows_of i.done) (rows_of (take c.args.count c.args.slots.now)))) c.from.ensures;
      few = omega (arith, i.few, c.add-so_far.ensures.few, ap length left, length-append rest (c.in-Some.words.now ∷ []));
      sorted = c.add-so_far.ensures.sorted;
    }
