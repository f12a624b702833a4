use Rattle.std.proofs.Common.{◌≡◌, ℕ, suc, ◌+◌, ◌-◌, ◌/◌, ◌≤◌, List, [], ◌∷◌, ◌++◌, length, take, drop, sym, refl, ap, ◌∙◌, arith}
use Rattle.std.proofs.lemmas.List.{take-map, drop-map, length-take-le, length-drop, take_at}
use Rattle.book.specs.Rows.{Row}
use Rattle.book.specs.Queue as book
use Rattle.book.specs.Due.{Sizes, at_level, below_level, pack_many}
use Rattle.segs.specs.Model.{seg_in, seg_of, segs_of}
use Rattle.packs.specs.Model.{packing}
use Rattle.packs.specs.Slots.{queue_with}
use Rattle.packs.proofs.Levels.{behind}
use Rattle.packs.proofs.Packing.{over, pack_is, put_seg, level_fits, many}
use Rattle.packs.proofs.lent.pack.Goals as goal

pub overflow_add-whole : goal.overflow_add-whole
overflow_add-whole c =
    let b = behind (take c.args.count c.args.segments.now) _ _ _ (seg_of c.from-first.result) refl (omega (arith, c.count_levels-counts.ensures.at, c.count_levels-counts.ensures.few, c.requires.some)) c.from-first.ensures.is in
    let l = level_fits _ _ _ _ c.requires.levels b in omega (arith, l)

pub returns-clause-packs : goal.returns-clause-packs
returns-clause-packs c = record { queue = queue; writes = writes }
  where
    w : List (List ℕ)
    w = take c.args.count c.args.segments.now

    i : ℕ
    i = c.count_levels-counts.result.below + c.count_levels-counts.result.at / 2

    k : ℕ
    k = c.min-many.result

    s : book.Seg
    s = seg_of c.from-first.result

    at : c.count_levels-counts.result.at ≡ at_level c.args.level.0 (segs_of w)
    at = c.count_levels-counts.ensures.at

    below : c.count_levels-counts.result.below ≡ below_level c.args.level.0 (segs_of w)
    below = c.count_levels-counts.ensures.below

    few : c.count_levels-counts.result.below + c.count_levels-counts.result.at ≤ length w
    few = c.count_levels-counts.ensures.few

    some : 1 ≤ k
    some = omega (arith, c.min-many.ensures, at, c.requires.some, c.requires.most)

    is : (z : Sizes) → z.segments ≡ c.args.most → (q : book.Queue) → q.segments ≡ segs_of w
        → packing z c.args.level.0 q ≡ record { queue = record q { segments = take i q.segments ++ (over s q.next ∷ drop (i + k) q.segments); next = suc q.next }; writes = record { number = q.next; content = book.IndexPage (take k (drop i q.segments)) } ∷ [] }
    is z e q h =
        ap (λ (b : ℕ). book.pack (b + at_level c.args.level.0 q.segments / 2) (pack_many z (at_level c.args.level.0 q.segments)) q) (ap (below_level c.args.level.0) h ∙ sym below)
        ∙ ap (λ (a : ℕ). book.pack (c.count_levels-counts.result.below + a / 2) (pack_many z a) q) (ap (at_level c.args.level.0) h ∙ sym at)
        ∙ ap (λ (n : ℕ). book.pack i n q) (many z c.count_levels-counts.result.at c.args.most k e c.min-many.ensures)
        ∙ pack_is q i k s _ some (ap (drop i) h ∙ behind w _ i _ s refl (omega (arith, few, at, c.requires.some)) c.from-first.ensures.is)

    up : s.level + 1 ≡ suc s.level
    up = omega arith

    segments : segs_of (take c.insert_from_slice.result c.insert_from_slice.new.slots) ≡ take i (segs_of w) ++ (over s c.args.next.0 ∷ drop (i + k) (segs_of w))
    segments =
        ap segs_of (c.insert_from_slice.ensures.items ∙ ap (λ (xs : List (List ℕ)). take i xs ++ ((c.to_words.result ∷ []) ++ drop i xs)) c.remove_range-left.ensures.items)
        ∙ put_seg w (drop (i + k) w) i c.to_words.result (over s c.args.next.0) (omega (arith, few, at, c.requires.some)) (c.to_words.ensures ∙ ap (λ (n : ℕ). record { low = s.low; index = book.page c.args.next.0; head = book.nil; level = n }) up)
        ∙ ap (λ (ss : List book.Seg). take i (segs_of w) ++ (over s c.args.next.0 ∷ ss)) (sym (drop-map seg_in (i + k) w))

    queue : (z : Sizes) → z.segments ≡ c.args.most → (f b : List Row) (l : book.Link) → queue_with f b l (suc c.args.next.0) (take c.insert_from_slice.result c.insert_from_slice.new.slots) ≡ (packing z c.args.level.0 (queue_with f b l c.args.next.0 w)).queue
    queue z e f b l = rw segments (sym (ap (λ (a : book.After). a.queue) (is z e (queue_with f b l c.args.next.0 w) refl)))

    long : (i + k) - i ≡ k
    long = omega arith

    copied : c.copy_from_slice.new.self ≡ take k (drop i w)
    copied = c.copy_from_slice.ensures.after ∙ ap (λ (n : ℕ). take n (drop i w)) long

    page : segs_of (take k (c.copy_from_slice.new.self ++ drop k c.args.page.now)) ≡ take k (drop i (segs_of w))
    page =
        ap segs_of (take_at c.copy_from_slice.new.self (drop k c.args.page.now) k (ap length copied ∙ length-take-le k (drop i w) (omega (arith, few, at, c.min-many.ensures, length-drop i w))) ∙ copied)
        ∙ sym (ap (take k) (drop-map seg_in i w) ∙ take-map seg_in k (drop i w))

    writes : (z : Sizes) → z.segments ≡ c.args.most → (f b : List Row) (l : book.Link) → (packing z c.args.level.0 (queue_with f b l c.args.next.0 w)).writes ≡ record { number = c.args.next.0; content = book.IndexPage (segs_of (take k (c.copy_from_slice.new.self ++ drop k c.args.page.now))) } ∷ []
    writes z e f b l = rw page (ap (λ (a : book.After). a.writes) (is z e (queue_with f b l c.args.next.0 w) refl))
