use Rattle.std.proofs.Common.{◌≡◌, ℕ, suc, ◌+◌, ◌-◌, ◌/◌, ◌≤◌, List, [], ◌∷◌, ◌++◌, length, take, drop, sym, ap, ◌∙◌, arith}
use Rattle.std.proofs.lemmas.List.{take-map, drop-map}
use Rattle.book.specs.Queue as book
use Rattle.book.specs.Due.{Sizes, at_level, below_level, pack_many}
use Rattle.segs.specs.Model.{seg_in, seg_of, segs_of}
use Rattle.queue.specs.Model.{queue_of}
use Rattle.packs.specs.Model.{packing}
use Rattle.packs.proofs.Levels.{behind}
use Rattle.packs.proofs.Packing.{over, pack_is, put_seg, level_fits, many}
use Rattle.packs.proofs.pack.Goals as goal

pub overflow_add-whole : goal.overflow_add-whole
overflow_add-whole c =
    let at = rw c.as_slice-segments.ensures.items at c.count_levels-counts.ensures.at in
    let few = rw c.as_slice-segments.ensures.items at c.count_levels-counts.ensures.few in
    let b = behind c.args.queue.now.segments.items _ _ _ (seg_of c.from-first.result) c.as_slice-segments.ensures.items (omega (arith, at, few, c.requires.some)) c.from-first.ensures.is in
    let l = level_fits _ _ _ _ c.requires.levels b in omega (arith, l)

pub returns-clause-packs : goal.returns-clause-packs
returns-clause-packs c = record { queue = queue; writes = writes }
  where
    q : book.Queue
    q = queue_of c.args.queue.now

    w : List (List ℕ)
    w = c.args.queue.now.segments.items

    i : ℕ
    i = c.count_levels-counts.result.below + c.count_levels-counts.result.at / 2

    k : ℕ
    k = c.min.result

    s : book.Seg
    s = seg_of c.from-first.result

    at : c.count_levels-counts.result.at ≡ at_level c.args.level.0 q.segments
    at = rw c.as_slice-segments.ensures.items at c.count_levels-counts.ensures.at

    below : c.count_levels-counts.result.below ≡ below_level c.args.level.0 q.segments
    below = rw c.as_slice-segments.ensures.items at c.count_levels-counts.ensures.below

    few : c.count_levels-counts.result.below + c.count_levels-counts.result.at ≤ length w
    few = rw c.as_slice-segments.ensures.items at c.count_levels-counts.ensures.few

    some : 1 ≤ k
    some = omega (arith, c.min.ensures, at, c.requires.some, c.requires.most)

    is : (z : Sizes) → z.segments ≡ c.args.most → packing z c.args.level.0 q ≡ record { queue = record q { segments = take i q.segments ++ (over s q.next ∷ drop (i + k) q.segments); next = suc q.next }; writes = record { number = q.next; content = book.IndexPage (take k (drop i q.segments)) } ∷ [] }
    is z e =
        ap (λ (b : ℕ). book.pack (b + at_level c.args.level.0 q.segments / 2) (pack_many z (at_level c.args.level.0 q.segments)) q) (sym below)
        ∙ ap (λ (a : ℕ). book.pack (c.count_levels-counts.result.below + a / 2) (pack_many z a) q) (sym at)
        ∙ ap (λ (n : ℕ). book.pack i n q) (many z c.count_levels-counts.result.at c.args.most k e c.min.ensures)
        ∙ pack_is q i k s _ some (behind w _ i _ s c.as_slice-segments.ensures.items (omega (arith, few, at, c.requires.some)) c.from-first.ensures.is)

    next : c.args.queue.now.next.0 + 1 ≡ suc c.args.queue.now.next.0
    next = omega arith

    up : s.level + 1 ≡ suc s.level
    up = omega arith

    segments : segs_of c.insert_from_slice.new.self.items ≡ take i q.segments ++ (over s q.next ∷ drop (i + k) q.segments)
    segments =
        ap segs_of (c.insert_from_slice.ensures.items ∙ ap (λ (xs : List (List ℕ)). take i xs ++ ((c.to_words.result ∷ []) ++ drop i xs)) c.remove_range.ensures.items)
        ∙ put_seg w (drop (i + k) w) i c.to_words.result (over s q.next) (omega (arith, few, at, c.requires.some)) (c.to_words.ensures ∙ ap (λ (n : ℕ). record { low = s.low; index = book.page q.next; head = book.nil; level = n }) up)
        ∙ ap (λ (ss : List book.Seg). take i q.segments ++ (over s q.next ∷ ss)) (sym (drop-map seg_in (i + k) w))

    queue : (z : Sizes) → z.segments ≡ c.args.most → queue_of (record { front = c.args.queue.now.front; buffer = c.args.queue.now.buffer; segments = c.insert_from_slice.new.self; source = c.args.queue.now.source; next = record { 0 = c.args.queue.now.next.0 + 1 } }) ≡ (packing z c.args.level.0 q).queue
    queue z e = rw (segments, next) (sym (ap (λ (a : book.After). a.queue) (is z e)))

    long : (i + k) - i ≡ k
    long = omega arith

    page : segs_of c.assign.new.self.items ≡ take k (drop i q.segments)
    page =
        ap segs_of (c.assign.ensures.items ∙ ap (λ (xs : List (List ℕ)). take ((i + k) - i) (drop i xs)) c.as_slice-segments.ensures.items ∙ ap (λ (n : ℕ). take n (drop i w)) long)
        ∙ sym (ap (take k) (drop-map seg_in i w) ∙ take-map seg_in k (drop i w))

    writes : (z : Sizes) → z.segments ≡ c.args.most → (packing z c.args.level.0 q).writes ≡ record { number = q.next; content = book.IndexPage (segs_of c.assign.new.self.items) } ∷ []
    writes z e = rw page (ap (λ (a : book.After). a.writes) (is z e))
