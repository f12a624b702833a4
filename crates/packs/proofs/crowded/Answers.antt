use Rattle.std.proofs.Common.{sym, ◌∙◌, arith}
use Rattle.segs.specs.Model.{seg_of, segs_of}
use Rattle.packs.proofs.Levels.{crowd_none, crowd_here, crowd_next}
use Rattle.packs.proofs.crowded.Goals as goal

pub returns-then-count_levels-most : goal.returns-then-count_levels-most
returns-then-count_levels-most c =
    let ss = segs_of c.args.segments.now in
    sym (crowd_here c.args.most ss c.args.segments.now c.loop-words.words-index _ (seg_of c.from.result) (omega arith) c.from.ensures.is (omega (arith, c.count_levels.ensures.at))) ∙ c.loop-words.invariant

pub loop-words-preserved : goal.loop-words-preserved
loop-words-preserved c =
    let ss = segs_of c.args.segments.now in
    sym (crowd_next c.args.most ss c.args.segments.now c.loop-words.words-index _ (seg_of c.from.result) (omega arith) c.from.ensures.is (omega (arith, c.count_levels.ensures.at))) ∙ c.loop-words.invariant

pub returns : goal.returns
returns c = sym (crowd_none c.args.most (segs_of c.args.segments.now) c.args.segments.now c.loop-words.words-index (omega arith)) ∙ c.loop-words.invariant
