use Rattle.std.proofs.Common.{◌≡◌, ℕ, suc, ◌+◌, ◌<◌, List, [], ◌++◌, length, get_or, take, drop, sym, ap, ◌∙◌, arith}
use Rattle.std.proofs.lemmas.List.{length-take-le}
use Rattle.streams.specs.Meaning.{Sum}
use Rattle.book.specs.Rows.{Row}
use Rattle.book.specs.Queue as book
use Rattle.rows.specs.Model.{rows_of, aggregates_of}
use Rattle.segs.specs.Model.{page_link, seg_of, seg_in, segs_of}
use Rattle.spills.specs.Model.{spilt_of}
use Rattle.spills.specs.Slots.{queue_with}
use Rattle.spills.proofs.Places.{spilled_at}
use Rattle.spills.proofs.lent.spill.Goals as goal

pub returns-clause-spills : goal.returns-clause-spills
returns-clause-spills c = record { queue = queue; writes = writes }
  where
    how : ℕ → Sum
    how = aggregates_of c.args.stages.now

    n : ℕ
    n = c.args.counts.next.0

    i : ℕ
    i = c.args.i

    w : List (List ℕ)
    w = take c.args.counts.segments c.args.segments.now

    b : List Row
    b = rows_of (take c.args.counts.buffer c.args.buffer.now)

    ss : List book.Seg
    ss = segs_of w

    shown : book.Page
    shown = book.RowPage (page_link c.args.shown.now.below) c.args.shown.now.rows

    moved : List Row
    moved = book.pick c.args.size (book.is_of i ss) b

    o : List Row
    o = rows_of (take c.join_page-joined.result.out c.join_page-joined.new.out)

    u : List Row
    u = rows_of (take c.join_page-joined.result.upper c.join_page-joined.new.upper)

    s : book.Seg
    s = seg_of c.from-segment.result

    all : book.Spilled
    all = book.spill_by how c.args.size n shown s.head s moved

    -- the pages are those of the definition
    is : spilt_of n s o u c.join_page-joined.result.spilt ≡ all
    is = c.join_page-joined.ensures.is n ∙ ap (book.spill_by how c.args.size n shown s.head s) (c.take_share-share.ensures.shared.picked i ss c.requires.range)

    at : book.Spilled
    at = book.spill_at how c.args.size n shown i ss moved

    within : i < length w
    within = omega (arith, length-take-le c.args.counts.segments c.args.segments.now (omega (arith, c.requires.segments)), c.requires.within)

    places : (at.segs ≡ take i ss ++ (all.segs ++ drop (suc i) ss)) × (at.writes ≡ all.writes)
    places = spilled_at how c.args.size n shown w i [] s moved within c.from-segment.ensures.is

    segments : segs_of (take c.link_pages-counts.result.segments c.link_pages-counts.new.segments) ≡ at.segs
    segments = c.link_pages-counts.ensures.links.segments o ∙ ap (λ (x : book.Spilled). take i ss ++ (x.segs ++ drop (suc i) ss)) is ∙ sym places.0

    next : c.link_pages-counts.result.next.0 ≡ n + length at.writes
    next = c.link_pages-counts.ensures.links.next o ∙ ap (λ (x : book.Spilled). n + length x.writes) is ∙ ap (λ (ws : List book.Write). n + length ws) (sym places.1)

    buffer : rows_of (take c.link_pages-counts.result.buffer c.take_share-share.new.slots) ≡ book.left c.args.size (book.is_of i ss) b
    buffer = ap (λ (k : ℕ). rows_of (take k c.take_share-share.new.slots)) c.link_pages-counts.ensures.buffer ∙ c.take_share-share.ensures.shared.kept i ss c.requires.range

    queue : (f : List Row) (l : book.Link) → queue_with f l c.link_pages-counts.result.next.0 (take c.link_pages-counts.result.buffer c.take_share-share.new.slots) (take c.link_pages-counts.result.segments c.link_pages-counts.new.segments)
        ≡ (book.spill how c.args.size i shown (queue_with f l n (take c.args.counts.buffer c.args.buffer.now) w)).queue
    queue f l = λ j. record { front = f; buffer = buffer j; segments = segments j; source = l; next = next j }

    writes : (f : List Row) (l : book.Link) → at.writes ≡ (spilt_of n (seg_in (get_or w i [])) o u c.join_page-joined.result.spilt).writes
    writes f l = places.1 ∙ ap (λ (x : book.Spilled). x.writes) (sym is) ∙ ap (λ (x : book.Seg). (spilt_of n x o u c.join_page-joined.result.spilt).writes) c.from-segment.ensures.is
