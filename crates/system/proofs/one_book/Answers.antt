use Rattle.book.specs.Real.{real, sizes}
use Rattle.book.proofs.Laws.{book_safe}
use Rattle.worker.proofs.Together.{worker_keeps}
use Rattle.system.proofs.one_book.Goals as goal

pub returns : goal.returns
returns c p ok logs one few = (worker_keeps (real sizes p logs) p logs (book_safe p ok logs few)).0
