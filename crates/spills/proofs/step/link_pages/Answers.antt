use Rattle.std.proofs.Common.{◌≡◌, suc, ◌+◌, [], ◌∷◌, ◌++◌, take, drop, ap, ◌∙◌, refl, arith}
use Rattle.book.specs.Queue.{nil, page}
use Rattle.rows.specs.Model.{row_of}
use Rattle.segs.specs.Model.{segs_of}
use Rattle.spills.proofs.Joins.{first_is}
use Rattle.spills.proofs.Places.{set_one, set_two}
use Rattle.spills.proofs.step.link_pages.Goals as goal

pub returns-in-One-clause-links : goal.returns-in-One-clause-links
returns-in-One-clause-links c = rw c.in-One.is (record {
  segments = λ out. ap segs_of c.set.ensures.items ∙ set_one c.args.queue.now.segments.items c.args.i c.to_words.result _ c.requires.within c.to_words.ensures;
  next = λ out. refl;
  front = refl;
  buffer = refl;
  source = refl;
})

pub returns-in-Two-clause-links : goal.returns-in-Two-clause-links
returns-in-Two-clause-links c =
    let i = c.args.i in
    let next : c.args.queue.now.next.0 + 1 ≡ suc c.args.queue.now.next.0 = omega arith in
    let low = first_is c.as_slice.result.now c.args.upper.now.items _ (row_of c.from.result) c.as_slice.ensures.rows (rw c.in-Two.is at c.requires.upper) c.from.ensures in
    rw c.in-Two.is (record {
      segments = λ out. ap segs_of (c.insert_from_slice.ensures.items ∙ ap (λ xs. take i xs ++ ((c.to_words-in-Two-2.result ∷ []) ++ drop i xs)) c.set-in-Two.ensures.items)
          ∙ set_two c.args.queue.now.segments.items i c.to_words-in-Two-2.result c.to_words-in-Two.result _ _ c.requires.within c.to_words-in-Two-2.ensures (c.to_words-in-Two.ensures ∙ (λ j. record { low = low j; index = nil; head = page (next j); level = 0 }));
      next = λ out. omega arith;
      front = refl;
      buffer = refl;
      source = refl;
    })
