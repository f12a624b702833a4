-- Calls and answers on lines are read again. Assumes nothing.
use Rattle.std.proofs.Common.{arith}
use Rattle.streams.specs.Calls as spec
use Rattle.plans.specs.declared.entries.Entry.TheVariants.{Happened, Still}
use Rattle.calls.specs.declared.kinds.Call.TheVariants.{Put, Out, Drop}
use Rattle.frames.specs.declared.kinds.Traffic.TheVariants.{Calls, Replies}
use Rattle.calls.specs.Form.{encoded}
use Rattle.replies.specs.Form.{form}
use Rattle.frames.specs.Lines.{CallsAgain, RepliesAgain}
use Rattle.frames.proofs.Fronts.{lines_again}

pub calls_again : CallsAgain
calls_again n (Put l (Happened e)) rest h = lines_again Calls n (encoded (Put l (Happened e))) rest h (omega arith) (omega arith) (omega arith)
calls_again n (Put l (Still t)) rest h = lines_again Calls n (encoded (Put l (Still t))) rest h (omega arith) (omega arith) (omega arith)
calls_again n (Out f m) rest h = lines_again Calls n (encoded (Out f m)) rest h (omega arith) (omega arith) (omega arith)
calls_again n (Drop b) rest h = lines_again Calls n (encoded (Drop b)) rest h (omega arith) (omega arith) (omega arith)

pub replies_again : RepliesAgain
replies_again n (spec.No k) rest h fits = lines_again Replies n (form (spec.No k)) rest h fits (omega arith) (omega arith)
replies_again n spec.Yes rest h fits = lines_again Replies n (form spec.Yes) rest h fits (omega arith) (omega arith)
replies_again n (spec.Outs es) rest h fits = lines_again Replies n (form (spec.Outs es)) rest h fits (omega arith) (omega arith)
replies_again n spec.Full rest h fits = lines_again Replies n (form spec.Full) rest h fits (omega arith) (omega arith)
