use Rattle.std.proofs.Common.{refl}
use Rattle.streams.specs.Meaning.{word, less_by, in_time, latest, least_of_marks, mark, all_in_time, time_of, into, first, joined, cells, ended, as_events, through_stages}
use Rattle.streams.specs.Calls.{empties, put_in}
use Rattle.streams.specs.Laws.{put_all}
use Rattle.streams.specs.Cases.{table}
use Rattle.streams.proofs.cases_right.Goals as goal

-- by computation
pub returns : goal.returns
unfolding table word less_by in_time latest least_of_marks mark all_in_time time_of into first joined cells ended as_events through_stages empties put_in put_all
returns c = (refl, (refl, (refl, (refl, (refl, (refl, (refl, (refl, (refl, (refl, (refl, (refl, (refl, (refl, tt))))))))))))))
