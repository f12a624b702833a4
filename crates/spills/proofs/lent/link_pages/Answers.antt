use Rattle.std.proofs.Common.{◌≡◌, suc, ◌+◌, ◌<◌, [], ◌∷◌, ◌++◌, length, take, drop, ap, ◌∙◌, refl, arith}
use Rattle.std.proofs.Math.Seq.{take-set-lt}
use Rattle.std.proofs.lemmas.List.{length-take-le}
use Rattle.book.specs.Queue.{nil, page}
use Rattle.rows.specs.Model.{row_of, rows_of}
use Rattle.segs.specs.Model.{segs_of}
use Rattle.spills.proofs.Joins.{first_is}
use Rattle.spills.proofs.Places.{set_one, set_two}
use Rattle.spills.proofs.lent.link_pages.Goals as goal

pub returns-in-One-clause-links : goal.returns-in-One-clause-links
returns-in-One-clause-links c =
    let slots = take c.args.counts.segments c.args.segments.now in
    let within : c.args.i < length slots = omega (arith, length-take-le c.args.counts.segments c.args.segments.now (omega (arith, c.requires.room)), c.requires.within) in
    rw c.in-One.is (record {
      segments = λ out. ap segs_of (take-set-lt c.args.counts.segments c.args.segments.now c.args.i c.to_words.result c.requires.within) ∙ set_one slots c.args.i c.to_words.result _ within c.to_words.ensures;
      next = λ out. refl;
    })

pub returns-in-Two-clause-links : goal.returns-in-Two-clause-links
returns-in-Two-clause-links c =
    let n = c.args.counts.segments in
    let i = c.args.i in
    let slots = take n c.args.segments.now in
    let within : i < length slots = omega (arith, length-take-le n c.args.segments.now (omega (arith, c.requires.room)), c.requires.within) in
    let next : c.args.counts.next.0 + 1 ≡ suc c.args.counts.next.0 = omega arith in
    let low = first_is c.args.upper.now (rows_of c.args.upper.now) _ (row_of c.from.result) refl (rw c.in-Two.is at c.requires.upper) c.from.ensures in
    let set = take-set-lt n c.args.segments.now i c.to_words-in-Two.result c.requires.within in
    rw c.in-Two.is (record {
      segments = λ out. ap segs_of (c.insert_from_slice.ensures.items ∙ ap (λ xs. take i xs ++ ((c.to_words-in-Two-2.result ∷ []) ++ drop i xs)) set)
          ∙ set_two slots i c.to_words-in-Two-2.result c.to_words-in-Two.result _ _ within c.to_words-in-Two-2.ensures (c.to_words-in-Two.ensures ∙ (λ j. record { low = low j; index = nil; head = page (next j); level = 0 }));
      next = λ out. omega arith;
    })
