use Rattle.desk_run.proofs.desk.ApartLemmas.{apart_law}
use Rattle.desk_run.proofs.desk.slots_stay_apart.Goals as goal

pub returns : goal.returns
returns c = apart_law
