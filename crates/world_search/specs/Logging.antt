-- What a search puts in a log, so that what the log tells stays a valid listing.
use Rattle.std.specs.Prelude.{◌≡◌, ◌<◌, Bool, true, false, not, IsTrue, List, length, Option, Some, Result}
use Rattle.rcc5_core.specs.declared.Rel.{Rel}
use Rattle.world_model.specs.Problem.{Problem, pair_count}
use Rattle.world_model.specs.Alive.{problem_at, IsAlive}
use Rattle.world_model.specs.Listing.{is_below}
use Rattle.point_query.specs.Asking.{AskerState}
use Rattle.cert_text.specs.declared.line.CertLine.{CertLine}
use Rattle.cert_text.specs.Logs.{Told}
use Rattle.cert_rules.specs.Listings.{listing_next}
use Rattle.cert_rules.specs.Writing.{BeginsAndKeepsUp, ToldKeepsUp}
use Rattle.world_search.specs.declared.walk.Walk.{Walk}
use Rattle.world_search.specs.Walking.{expected}
use Rattle.search_log.specs.declared.fault.StepFault.{StepFault}
use Rattle.search_log.specs.Logging.{next_if}
pub use Rattle.search_log.specs.Logging.{step_fault, AddsLines}

-- told lines that begin a listing and keep up with an asker that waits at one node keep up with it, later, at the next
abbrev pub KeepsOn : Problem → List Rel → Told → Told → AskerState → AskerState → Option (List Rel) → Option (List Rel) → Type 0
KeepsOn p from old new one other at next =
    (lines : List CertLine) → old ≡ Some lines → BeginsAndKeepsUp p from one.solver.waiting one.solver.state at lines →
    ToldKeepsUp p from new other.solver.waiting other.solver.state next

-- so it is from the next node of one walk to that of another, where the first stands at a node that is not below the start
abbrev pub KeepsFrom : Problem → Told → Told → AskerState → AskerState → Walk → Walk → Type 0
KeepsFrom p old new one other before after =
    (from : List Rel) → IsTrue (not (is_below before.path from)) → KeepsOn p from old new one other (expected before) (expected after)

-- so it is past a node, with a line that tells of it
abbrev pub KeepsPast : {T : Type 0} → Problem → Result T StepFault → Told → Told → AskerState → AskerState → List Rel → Bool → Type 0
KeepsPast p result old new one other m branches =
    (from : List Rel) → KeepsOn p from old new one other (Some m) (next_if result (listing_next p from branches m) (Some m))

-- a node has an alive prefix and room below it, or is dead
abbrev pub IsInnerOrDead : Problem → List Rel → Bool → Type 0
IsInnerOrDead p m true = IsAlive (problem_at p m) × (length m < pair_count p)
IsInnerOrDead p m false = IsAlive (problem_at p m) → ⊥
