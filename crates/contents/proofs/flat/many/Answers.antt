use Rattle.std.proofs.Common.{◌≡◌, ℕ, ◌-◌, ◌*◌, ◌/◌, ◌≤◌, List, length, take, drop, sym, ap, ◌∙◌, arith}
use Rattle.std.proofs.Math.Nat.{div-lt_iff_lt-mul, le-div_iff_mul-le}
use Rattle.std.specs.Simd.{first_chunks}
use Rattle.std.proofs.lemmas.List.{take_rest}
use Rattle.book.specs.Words.{got}
use Rattle.contents.specs.Flat.{got_of}
use Rattle.contents.proofs.Items.{many_got, many_none, first_of}
use Rattle.contents.proofs.flat.many.Goals as goal

pub returns-in_err-items-clause-items : goal.returns-in_err-items-clause-items
returns-in_err-items-clause-items g c =
    many_none g.row.N c.args.count c.args.words.now ((div-lt_iff_lt-mul c.requires).0 (omega (arith, c.in_err-items.ensures.lookup, c.as_chunks.ensures.front_len)))
    ∙ ap got_of (sym c.from_residual.ensures)

pub returns-clause-items : goal.returns-clause-items
returns-clause-items g c =
    let ws = c.args.words.now in
    let k = c.args.count in
    let n = g.row.N in
    let e = c.in_ok-items.ensures.lookup.0 in
    let within : k ≤ length ws / n = omega (arith, e.1, c.as_chunks.ensures.front_len) in
    let zero : k - 0 ≡ k = omega arith in
    let items : first_chunks n k ws ≡ c.in_ok-items.items.now = sym (e.2 ∙ ap (λ (j : ℕ). take j c.as_chunks.result.0.now) zero ∙ ap (λ (xs : List (List ℕ)). take k xs) c.as_chunks.ensures.front ∙ first_of n k (length ws / n) ws within) in
    let rest : drop (k * n) ws ≡ take (length ws - k * n) (drop (k * n) ws) = sym (take_rest ws (k * n)) in
    many_got n k ws ((le-div_iff_mul-le c.requires).0 within)
    ∙ ap (λ (xs : List (List ℕ)). got xs (drop (k * n) ws)) items
    ∙ ap (got c.in_ok-items.items.now) rest
