-- A step of a search by halving: what is left of the rows, and how many reads there can be.
-- Assumes nothing.
use Rattle.std.proofs.Common.{◌≡◌, ℕ, ◌+◌, ◌*◌, ◌^◌, ◌<◌, ◌≤◌, le_trans, mul_assoc, mul-le-mul_left, pow-suc, mul-one, add-one, arith}

-- what so many reads leave of n rows to halve
pub record Halved (n left read : ℕ) : Type 0 where
  pub few : read + left ≤ n
  pub half : 2 ^ read * left ≤ n
  pub most : 2 ^ read ≤ 2 * n + 1

twice : (r : ℕ) → 2 ^ (r + 1) ≡ 2 ^ r * 2
twice r = rw add-one (pow-suc 2 r)

pub halved_more : {n left less read : ℕ} → Halved n left read → 0 < left → 2 * less ≤ left → Halved n less (read + 1)
halved_more {n} {left} {less} {read} h some l =
    let p = mul-le-mul_left (2 ^ read) l in
    let q = mul-le-mul_left (2 ^ read) some in
    record {
      few = omega (arith, h.few);
      half = rw (twice read, mul_assoc (2 ^ read) 2 less) (le_trans p h.half);
      most = rw (twice read) (omega (arith, rw mul-one at q, h.half));
    }
