-- What is told of a claim's tree from its root on, by what is answered.
use Rattle.std.proofs.Common.{◌≡◌, List, [], Option, Some, None, Result, Ok, Err}
use Rattle.std.specs.Result.{IsErrAnd}
use Rattle.rcc5_core.specs.declared.Rel.{Rel}
use Rattle.world_model.specs.Problem.{Problem}
use Rattle.point_query.specs.Asking.{AskerState}
use Rattle.cert_text.specs.declared.line.Subject.{Subject}
use Rattle.cert_text.specs.Logs.{Told}
use Rattle.cert_rules.specs.ClaimLists.{subject_problem, Claim}
use Rattle.search_log.specs.declared.fault.StepFault.{StepFault}
use Rattle.search_log.specs.Logging.{AddsLines}
use Rattle.split_search.specs.declared.choice.Choice.{Choice}
use Rattle.split_search.specs.declared.choice.Choice.TheVariants.{Met, Refuted}
use Rattle.split_search.specs.Claiming.{KeepsSomewhere, KeepsWithin}
use Rattle.split_search.specs.Walking.{KeepsTree}
use Rattle.split_search.proofs.Told.{open_joins}

-- what is told of each subject with this problem, by what is answered
abbrev pub KeepsChoice : Problem → Result Choice StepFault → Told → Told → AskerState → AskerState → Type 0
KeepsChoice q result old new one other =
    (p : Problem) (subject : Subject) (claims : List Claim) → subject_problem p subject ≡ q → KeepsWithin p subject claims result old new one other

-- at an error the tree is open somewhere
pub choice_err : (Q : StepFault → Type 0) (r : Result Choice StepFault) (q : Problem) (old new : Told) (one other : AskerState) (at : Option (List Rel)) → IsErrAnd r Q →
    KeepsTree q old new one other (Some []) at → KeepsChoice q r old new one other
choice_err Q (Ok choice) q old new one other at h k = absurd h
choice_err Q (Err fault) q old new one other at h k = λ p subject claims e. (at, k p subject claims e)

-- a choice that fails stands within a tree, with a node for each list of claims
pub choice_fault : (Q : StepFault → Type 0) (r : Result Choice StepFault) (q : Problem) (old new : Told) (one other : AskerState) → IsErrAnd r Q →
    ((p : Problem) (subject : Subject) (claims : List Claim) → subject_problem p subject ≡ q → KeepsSomewhere p subject claims old new one other) → KeepsChoice q r old new one other
choice_fault Q (Ok choice) q old new one other h k = absurd h
choice_fault Q (Err fault) q old new one other h k = k

-- after an answer, and then a call that leaves the tree open where it was
pub choice_then : (choice : Choice) (q : Problem) (a b c : Told) (one two three : AskerState) → AddsLines a b → KeepsChoice q (Ok choice) a b one two →
    ((at : Option (List Rel)) → KeepsTree q b c two three at at) → KeepsChoice q (Ok choice) a c one three
choice_then (Met f) q a b c one two three adds first second = λ p subject claims e.
    let k = first p subject claims e in
    (k.0, open_joins p subject claims a b c one two three (Some []) k.0 k.0 adds k.1 (second k.0 p subject claims e))
choice_then Refuted q a b c one two three adds first second = λ p subject claims e.
    open_joins p subject claims a b c one two three (Some []) None None adds (first p subject claims e) (second None p subject claims e)

-- so does one behind which a later call fails
pub choice_then_err : (Q : StepFault → Type 0) (r : Result Choice StepFault) (choice : Choice) (q : Problem) (a b c : Told) (one two three : AskerState) → IsErrAnd r Q → AddsLines a b →
    KeepsChoice q (Ok choice) a b one two → ((at : Option (List Rel)) → KeepsTree q b c two three at at) → KeepsChoice q r a c one three
choice_then_err Q (Ok other) choice q a b c one two three h adds first second = absurd h
choice_then_err Q (Err fault) choice q a b c one two three h adds first second = λ p subject claims e.
    somewhere choice p subject claims (choice_then choice q a b c one two three adds first second p subject claims e)
  where
    somewhere : (choice : Choice) (p : Problem) (subject : Subject) (claims : List Claim) → KeepsWithin p subject claims (Ok choice) a c one three → KeepsSomewhere p subject claims a c one three
    somewhere (Met f) p subject claims k = k
    somewhere Refuted p subject claims k = (None, k)
