-- What is told keeps up over a visit, by what it answers.
use Rattle.std.proofs.Common.{List, Some, Result, Ok, Err}
use Rattle.std.specs.Result.{IsErrAnd}
use Rattle.rcc5_core.specs.declared.Rel.{Rel}
use Rattle.world_model.specs.Problem.{Problem}
use Rattle.point_query.specs.Asking.{AskerState}
use Rattle.cert_text.specs.Logs.{Told}
use Rattle.search_log.specs.declared.fault.StepFault.{StepFault}
use Rattle.split_search.specs.declared.visit.Visit.{Visit}
use Rattle.split_search.specs.Walking.{visit_next, KeepsTree}

-- at an error the same node is expected
pub visit_err : (Q : StepFault → Type 0) (r : Result Visit StepFault) (q : Problem) (old new : Told) (one other : AskerState) (m : List Rel) → IsErrAnd r Q →
    KeepsTree q old new one other (Some m) (Some m) → KeepsTree q old new one other (Some m) (visit_next q m r)
visit_err Q (Ok visit) q old new one other m h k = absurd h
visit_err Q (Err fault) q old new one other m h k = k
