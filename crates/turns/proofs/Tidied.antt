-- A spill, done on the ledger.
-- Assumes nothing.
use Rattle.std.proofs.Common.{◌≡◌, suc, ◌≤◌, ◌⊎◌, map, inl, inr, subst, sym, ap, ◌∙◌, append-nil, Ok, Err, Result}
use Rattle.book.specs.Queue.{Link, After, head_at}
use Rattle.book.specs.Due.{Done, quiet}
use Rattle.book.specs.Due as due
use Rattle.book.specs.Ledger as book
use Rattle.book.specs.Words.{Maybe}
use Rattle.book.specs.Queue.{Page}
use Rattle.plans.specs.Model.{stage_of}
use Rattle.rows.specs.Model.{rows_of, aggregates_of}
use Rattle.segs.specs.Model.{page_link, segs_of}
use Rattle.queue.specs.declared.Queue.{Queue}
use Rattle.queue.specs.Model.{queue_of}
use Rattle.dues.specs.declared.Fullest.{Fullest}
use Rattle.dues.specs.declared.Step.TheVariants.{Spill}
use Rattle.sizes.specs.Model.{sizes_of}
use Rattle.ledgers.specs.declared.Ledger.{Ledger}
use Rattle.ledgers.specs.Model.{ledger_of}
use Rattle.turns.specs.declared.plates.Plates.{Plates}
use Rattle.streams.specs.Meaning.{top}
use Rattle.packs.specs.Model.{LevelsFit}
use Rattle.turns.specs.declared.plates.Beyond.{Beyond}
use Rattle.turns.specs.declared.plates.Beyond.TheVariants.{Shown, Numbers}
use Rattle.turns.specs.declared.plates.Written.{Written}
use Rattle.turns.specs.declared.rules.Rules.{Rules}
use Rattle.turns.specs.Turn.{IsPage, SpilledBy, spilled_by}
use Rattle.turns.specs.Tidy.{Tidied, done, done_by}
use Rattle.turns.proofs.Spills.{spilled_done}

module _ (r : Rules) (f : Fullest) (shown : Maybe Page) (x : Ledger) (head : page_link f.head ≡ head_at f.number (segs_of x.queue.segments.items)) where
  -- the step, by what the segment's first page is known to be
  step : done r (Spill f) shown (ledger_of x) ≡ quiet (spilled_by (aggregates_of r.stages.now) r.sizes.rows f.number (page_link f.head) shown (queue_of x.queue))
  step = ap (λ (l : Link). done_by (sizes_of r.sizes) (map stage_of r.stages.now) (book.watermark r.late.0 (ledger_of x).logs) (due.Spill f.number) l shown (queue_of x.queue)) (sym head)
      ∙ spilled_done (sizes_of r.sizes) (map stage_of r.stages.now) (book.watermark r.late.0 (ledger_of x).logs) f.number (page_link f.head) shown (queue_of x.queue)

  pub spilled_tidied : (q : Queue) (p : Plates) (w : Result Written Beyond) →
      SpilledBy (aggregates_of r.stages.now) r.sizes.rows f.number (page_link f.head) shown x.queue q (rows_of p.rows.out.items) p.rows.upper.items w →
      Tidied r (Spill f) shown x (record { logs = x.logs; pages = x.pages; tail = x.tail; queue = q }) p w
  spilled_tidied q p (Ok w) s =
      (s.0, rw (step, append-nil (ledger_of x).tail) (ap (λ (y : Rattle.book.specs.Queue.Queue). record { logs = (ledger_of x).logs; pages = x.pages.0; tail = (ledger_of x).tail; queue = y }) s.1), s.2 (segs_of p.index.items) ∙ sym (ap (λ (d : Done). d.writes) step))
  spilled_tidied q p (Err b) s = (why s.0, ap (λ (y : Queue). record { logs = x.logs; pages = x.pages; tail = x.tail; queue = y }) s.1)
    where
      why : {A B : Type 0} → ((b ≡ Shown) × IsPage (page_link f.head) × A) ⊎ (B ⊎ ((b ≡ Numbers) × (top ≤ suc (suc x.queue.next.0)))) →
          ((b ≡ Shown) × IsPage (head_at f.number (segs_of x.queue.segments.items)) × A) ⊎ (B ⊎ ((b ≡ Numbers) × ((top ≤ suc (suc x.queue.next.0)) ⊎ (LevelsFit (segs_of x.queue.segments.items) → ⊥))))
      why (inl a) = inl (a.0, subst IsPage head a.1, a.2)
      why (inr (inl h)) = inr (inl h)
      why (inr (inr n)) = inr (inr (n.0, inl n.1))
