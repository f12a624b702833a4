use Rattle.std.proofs.Common.{◌≡◌, ◌++◌, length, take, drop, refl, sym, ap, ◌∙◌, length-append, arith}
use Rattle.std.proofs.lemmas.List.{take-map, take_at, length-take-le, length-drop}
use Rattle.words.specs.Items.{words_in, whole}
use Rattle.words.proofs.Chunks.{items_kept}
use Rattle.words.proofs.Tables.{many_lent}
use Rattle.words.proofs.items.copy_from_slice.Goals as goal

pub slice_bounds-copy_from_slice-end : goal.slice_bounds-copy_from_slice-end
slice_bounds-copy_from_slice-end g c = omega (arith, c.requires.room, many_lent g.row.N c.args.words.now c.as_items_mut-items.ensures.value.0)

pub slice_bounds-copy_from_slice-end-2 : goal.slice_bounds-copy_from_slice-end-2
slice_bounds-copy_from_slice-end-2 g c = sym (length-take-le (length c.args.from.now) c.as_items_mut-items.result.0.now (omega (arith, c.requires.room, many_lent g.row.N c.args.words.now c.as_items_mut-items.ensures.value.0)))

pub copy_from_slice-requires : goal.copy_from_slice-requires
copy_from_slice-requires g c = length-take-le (length c.args.from.now) c.as_items_mut-items.result.0.now (omega (arith, c.requires.room, many_lent g.row.N c.args.words.now c.as_items_mut-items.ensures.value.0))

pub returns : goal.returns
returns g c =
    let from = c.args.from.now in
    let got = c.as_items_mut-items.result.0.now in
    let room = many_lent g.row.N c.args.words.now c.as_items_mut-items.ensures.value.0 in
    let now : c.copy_from_slice.new.self ≡ from = c.copy_from_slice.ensures.after in
    let same : length (from ++ drop (length from) got) ≡ length got = omega (arith, length-append from (drop (length from) got), length-drop (length from) got, c.requires.room, room) in
    rw now (ap (take (length from)) (items_kept g.row.N c.args.words.now (from ++ drop (length from) got) c.as_items_mut-items.ensures.value same)
    ∙ take-map (words_in g.row.N) (length from) (from ++ drop (length from) got) ∙ ap (whole g.row.N) (take_at from (drop (length from) got) (length from) refl))
