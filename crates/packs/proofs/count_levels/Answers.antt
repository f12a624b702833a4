use Rattle.std.proofs.Common.{◌≡◌, ℕ, ◌+◌, ◌≤◌, drop, Less, Equal, Greater, ap, ◌∙◌, arith}
use Rattle.std.proofs.lemmas.Cmp.{ranked}
use Rattle.book.specs.Due.{at_level, below_level}
use Rattle.segs.specs.Model.{seg_of, segs_of}
use Rattle.packs.specs.declared.Tally.{Tally}
use Rattle.packs.proofs.Levels.{Step, none_left, step_below, step_at, step_none}
use Rattle.packs.proofs.count_levels.Goals.{in-Less, in-Equal, in-Greater}
use Rattle.packs.proofs.count_levels.Goals as goal

-- one segment more is counted
record More (c : goal.Joined-cmp) : Type 0 where
  pub below : c.match-cmp.counts.below + below_level c.args.level.0 (segs_of (drop (c.loop-words.words-index + 1) c.args.segments.now)) ≡ below_level c.args.level.0 (segs_of c.args.segments.now)
  pub at : c.match-cmp.counts.at + at_level c.args.level.0 (segs_of (drop (c.loop-words.words-index + 1) c.args.segments.now)) ≡ at_level c.args.level.0 (segs_of c.args.segments.now)
  pub few : c.match-cmp.counts.below + c.match-cmp.counts.at ≤ c.loop-words.words-index + 1

more : (c : goal.Joined-cmp) (b a : ℕ) → b + a ≤ 1 → Step c.args.level.0 c.args.segments.now c.loop-words.words-index b a
    → c.match-cmp.counts ≡ record { below = b + c.loop-words.counts.below; at = a + c.loop-words.counts.at } → More c
more c b a few s is =
    let x = ap (λ (t : Tally). t.below) is in
    let y = ap (λ (t : Tally). t.at) is in
    let i = c.loop-words.invariant in
    record { below = omega (arith, x, s.below, i.below); at = omega (arith, y, s.at, i.at); few = omega (arith, x, y, few, i.few) }

pub loop-words-preserved : goal.loop-words-preserved
loop-words-preserved c = record { below = m.below; at = m.at; few = m.few }
  where
    v : ℕ
    v = c.args.level.0

    one : (n : ℕ) → n + 1 ≡ 1 + n
    one n = omega arith

    none : (n : ℕ) → n ≡ 0 + n
    none n = omega arith

    m : More c
    m = elim c.match-cmp.branch [
      | in-Less w ↦ more c 1 0 (omega arith) (step_below v c.args.segments.now c.loop-words.words-index _ (seg_of c.from.result) (omega arith) c.from.ensures.is (ranked _ v Less w.in-Less.ensures)) (w.counts-is ∙ (λ i. record { below = one c.loop-words.counts.below i; at = none c.loop-words.counts.at i }))
      | in-Equal w ↦ more c 0 1 (omega arith) (step_at v c.args.segments.now c.loop-words.words-index _ (seg_of c.from.result) (omega arith) c.from.ensures.is (ranked _ v Equal w.in-Equal.ensures)) (w.counts-is ∙ (λ i. record { below = none c.loop-words.counts.below i; at = one c.loop-words.counts.at i }))
      | in-Greater w ↦ more c 0 0 (omega arith) (step_none v c.args.segments.now c.loop-words.words-index _ (seg_of c.from.result) (omega arith) c.from.ensures.is (ranked _ v Greater w.in-Greater.ensures)) (w.counts-is ∙ (λ i. record { below = none c.loop-words.counts.below i; at = none c.loop-words.counts.at i }))
    ]

pub returns-clause-below : goal.returns-clause-below
returns-clause-below c = omega (arith, c.loop-words.invariant.below, (none_left c.args.level.0 c.args.segments.now c.loop-words.words-index (omega arith)).0)

pub returns-clause-at : goal.returns-clause-at
returns-clause-at c = omega (arith, c.loop-words.invariant.at, (none_left c.args.level.0 c.args.segments.now c.loop-words.words-index (omega arith)).1)
