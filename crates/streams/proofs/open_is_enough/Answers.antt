use Rattle.streams.proofs.open_is_enough.Goals as goal
use Rattle.streams.proofs.Opens.{open_is_enough}

pub returns : goal.returns
returns c = open_is_enough
