use Rattle.std.proofs.Common.{◌≡◌, ℕ, suc, ◌+◌, List, [], ◌++◌, length, get_or, take, drop, sym, ap, ◌∙◌}
use Rattle.streams.specs.Meaning.{Sum}
use Rattle.book.specs.Rows.{Row}
use Rattle.book.specs.Queue as book
use Rattle.rows.specs.Model.{rows_of, aggregates_of}
use Rattle.tables.specs.Lent.{Lent}
use Rattle.segs.specs.Model.{page_link, seg_of, seg_in, segs_of}
use Rattle.queue.specs.Model.{queue_of}
use Rattle.spills.specs.Model.{spilt_of}
use Rattle.spills.proofs.Places.{spilled_at}
use Rattle.spills.proofs.step.spill.Goals as goal

pub returns-clause-spills : goal.returns-clause-spills
returns-clause-spills c = record { queue = queue; writes = writes }
  where
    how : ℕ → Sum
    how = aggregates_of c.args.stages.now

    n : ℕ
    n = c.args.queue.now.next.0

    i : ℕ
    i = c.args.i

    ss : List book.Seg
    ss = segs_of c.args.queue.now.segments.items

    shown : book.Page
    shown = book.RowPage (page_link c.args.shown.now.below) c.args.shown.now.rows

    moved : List Row
    moved = book.pick c.args.size (book.is_of i ss) c.args.queue.now.buffer.items

    o : List Row
    o = rows_of c.join_page-spilt.new.pages.out.items

    u : List Row
    u = c.join_page-spilt.new.pages.upper.items

    s : book.Seg
    s = seg_of c.from-segment.result

    first : s ≡ seg_in (get_or c.args.queue.now.segments.items i [])
    first = rw c.as_slice.ensures.items at c.from-segment.ensures.is

    all : book.Spilled
    all = book.spill_by how c.args.size n shown s.head s moved

    -- the pages are those of the definition
    is : spilt_of n s o u c.join_page-spilt.result ≡ all
    is = c.join_page-spilt.ensures.is n ∙ ap (book.spill_by how c.args.size n shown s.head s) (c.take_share.ensures.shared.picked i ss c.requires.range)

    at : book.Spilled
    at = book.spill_at how c.args.size n shown i ss moved

    places : (at.segs ≡ take i ss ++ (all.segs ++ drop (suc i) ss)) × (at.writes ≡ all.writes)
    places = spilled_at how c.args.size n shown c.args.queue.now.segments.items i [] s moved c.requires.within first

    segments : segs_of c.link_pages.new.queue.segments.items ≡ at.segs
    segments = c.link_pages.ensures.links.segments o ∙ ap (λ (x : book.Spilled). take i ss ++ (x.segs ++ drop (suc i) ss)) is ∙ sym places.0

    next : c.link_pages.new.queue.next.0 ≡ n + length at.writes
    next = c.link_pages.ensures.links.next o ∙ ap (λ (x : book.Spilled). n + length x.writes) is ∙ ap (λ (ws : List book.Write). n + length ws) (sym places.1)

    buffer : c.link_pages.new.queue.buffer.items ≡ book.left c.args.size (book.is_of i ss) c.args.queue.now.buffer.items
    buffer = ap (λ (x : Lent Row). x.items) c.link_pages.ensures.links.buffer ∙ c.take_share.ensures.shared.kept i ss c.requires.range

    queue : queue_of c.link_pages.new.queue ≡ (book.spill how c.args.size i shown (queue_of c.args.queue.now)).queue
    queue = λ j. record { front = (c.link_pages.ensures.links.front j).items; buffer = buffer j; segments = segments j; source = page_link (c.link_pages.ensures.links.source j); next = next j }

    writes : at.writes ≡ (spilt_of n (seg_in (get_or c.args.queue.now.segments.items i [])) o u c.join_page-spilt.result).writes
    writes = places.1 ∙ ap (λ (x : book.Spilled). x.writes) (sym is) ∙ ap (λ (x : book.Seg). (spilt_of n x o u c.join_page-spilt.result).writes) first
