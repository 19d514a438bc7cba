use Rattle.desk_run.proofs.desk.AloneLemmas.{alone_law}
use Rattle.desk_run.proofs.desk.slots_answer_alone.Goals as goal

pub returns : goal.returns
returns c = alone_law
