-- What came out stands (as in the meaning's own proofs, for sizes alone); so what came out of a sound queue is a first part of what comes out of the logs.
use Rattle.std.proofs.Common.{◌≡◌, ℕ, ◌≤◌, List, [], ◌∷◌, ◌++◌, sym, refl, ap, ◌∙◌, append_assoc, arith}
use Rattle.streams.specs.Meaning.{Event, Stage, mark, all_in_time, through, through_stages}
use Rattle.book.specs.Due.{Sizes, Sized, Since, FirstPart, Runs}
use Rattle.streams.proofs.Marks.{since_ended}
use Rattle.streams.proofs.Opens.{stage_stands}
use Rattle.book.proofs.Due.{comes_out, same_out}

-- and the rest
pub stages_stand : (m n : ℕ) (sts : List Stage) (es more : List Event) → Sized sts → m ≤ n → Since m more → (rest : List Event) × (through_stages sts n (es ++ more) ≡ through_stages sts m es ++ rest)
unfolding through_stages
stages_stand m n [] es more ok h s = (more, refl)
stages_stand m n (st ∷ sts) es more ok h s =
    let r : (x : List Event) × (through st n (es ++ more) ≡ through st m es ++ x) × Since m x = stage_stands m n st es (es ++ more) h (since_ended m st es more ok.0 s) in
    let q : (x : List Event) × (through_stages sts n (through st m es ++ r.0) ≡ through_stages sts m (through st m es) ++ x) = stages_stand m n sts (through st m es) r.0 ok.1 h r.2 in
    (q.0, ap (through_stages sts n) r.1 ∙ q.1)

-- a first part
pub first_part : FirstPart
first_part p sz m es fs ls f q os h s e w =
    let z : Sizes = record { front = 1; buffer = 1; rows = 1; segments = 2; emits = 1; outs = 1; log = 8 } in
    let c : (more : List Event) × Runs z p.stages m f q more × (os ++ more ≡ through_stages p.stages m es) = comes_out z (omega arith, omega arith, omega arith, omega arith, omega arith) p.stages sz m es f q os w in
    let r : (rest : List Event) × (through_stages p.stages (mark p.late ls) (es ++ fs) ≡ through_stages p.stages m es ++ rest) = stages_stand m (mark p.late ls) p.stages es fs sz h s in
    (c.0 ++ r.0, sym (same_out p.stages (mark p.late ls) (es ++ fs) (all_in_time p.late ls) e) ∙ r.1 ∙ ap (λ (x : List Event). x ++ r.0) (sym c.2) ∙ append_assoc os c.0 r.0)
