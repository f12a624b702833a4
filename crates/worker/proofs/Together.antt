-- The theorems of the worker, over any book that keeps the interface, put together.
use Rattle.std.proofs.Common.{refl, arith}
use Rattle.streams.specs.Promise.{AllPlans, OneStage}
use Rattle.worker.specs.Theorems.{WorkerKeeps, WorkerWhole, WorkerCoreWhole}
use Rattle.worker.proofs.Safelaws.{safe_laws}
use Rattle.worker.proofs.Onebook.{worker_book}
use Rattle.worker.proofs.Busy.{worker_busy}
use Rattle.worker.proofs.Comesout.{worker_ends, worker_out}

-- customers see one book-keeper, and only a ninth call is handed back
pub worker_keeps : WorkerKeeps
worker_keeps o p logs P = (λ all n one al sm es s g. worker_book o p logs (safe_laws o p logs P) al (let f = (safe_laws o p logs P).far in omega arith) g, λ all n one al sm es s g i c k m x e t. worker_busy o p logs (safe_laws o p logs P) al sm g i c k m x e t)

-- all of it
pub worker_whole : WorkerWhole
worker_whole o plans keeps = (λ p is ok logs one most. let k = keeps p is ok logs one most in let b = worker_keeps (o p logs) p logs k.0 in (b.0, b.1, worker_ends (o p logs) p logs k.0 k.1 one), worker_out o plans keeps)

-- for all plans, and so for those of one stage
pub worker_core_whole : WorkerCoreWhole
worker_core_whole o keeps = (worker_whole o AllPlans keeps, worker_whole o OneStage (λ p is ok logs one most. keeps p refl ok logs one most))
