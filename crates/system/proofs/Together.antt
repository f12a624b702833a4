-- The worker over the real book: all that is promised of it.
use Rattle.std.proofs.Common.{arith}
use Rattle.streams.specs.Promise.{AllPlans}
use Rattle.book.specs.Real.{real, sizes}
use Rattle.book.proofs.Laws.{book_safe}
use Rattle.book.proofs.Live.{book_live, book_answers}
use Rattle.worker.specs.Theorems.{KeepsInterface}
use Rattle.worker.proofs.Together.{worker_core_whole}
use Rattle.worker.proofs.Comesout.{worker_within}
use Rattle.system.specs.Real.{RealWhole, RealWithin}

-- the real book keeps the interface, for all plans
keeps : KeepsInterface AllPlans (real sizes)
keeps p is ok logs one few = (book_safe p ok logs few, book_live p ok logs few, book_answers p ok logs few)

pub real_whole : RealWhole
real_whole = worker_core_whole (real sizes) keeps

pub real_within : RealWithin
real_within p ok logs one few all n al sm es s g i c m lt e =
    let r = worker_within (real sizes p logs) p logs (book_safe p ok logs few) (book_live p ok logs few) one all n al sm es s g i c m lt e in (r.0, r.1, r.2, r.3, r.4, (let q = r.5 in omega (arith, q)), r.6, r.7, r.8)
