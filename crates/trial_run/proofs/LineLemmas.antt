-- A summary is whole lines.
use Rattle.std.proofs.Common.{◌≡◌, ℕ, List, ◌∷◌, ◌++◌, subst, sym}
use Rattle.std.specs.Prelude.{codes, decimal, Result}
use Rattle.outer_store.specs.declared.fault.StoreFault.{StoreFault}
use Rattle.rcc5_core.specs.declared.Rel.{Rel}
use Rattle.world_model.specs.Problem.{Problem}
use Rattle.run_ends.specs.Ends.{line_of, in_lines}
use Rattle.outer_store.specs.States.{SinkState}
use Rattle.run_ends.specs.Runs.{LeavesPiece}
use Rattle.run_ends.proofs.PieceLemmas.{IsEnded, ended_line, ended_behind, ended_lines}
use Rattle.trial_run.specs.Made.{made}
use Rattle.world_model.specs.Saturated.{count_of}
use Rattle.trial_run.specs.Trials.{count_line, varied_count, problem_lines, world_lines, summary, IsSummary}

-- the lines of a summary end with a line feed
ended_count : (word : List ℕ) (count : ℕ) → IsEnded (count_line word count)
ended_count word count = ended_line (word ++ 32 ∷ decimal count)

ended_worlds : (p : Problem) (found : ℕ) (worlds : List (List Rel)) → IsEnded (world_lines p found worlds)
ended_worlds p found worlds =
    ended_behind (count_line (codes "worlds") found) (count_line (codes "varied") (varied_count p worlds) ++ count_line (codes "accepted") (count_of worlds))
    (ended_behind (count_line (codes "varied") (varied_count p worlds)) (count_line (codes "accepted") (count_of worlds)) (ended_count (codes "accepted") (count_of worlds)))

ended_summary : (seed size : ℕ) (p : Problem) (found : ℕ) (worlds : List (List Rel)) → IsEnded (summary seed size p found worlds)
ended_summary seed size p found worlds =
    ended_behind (line_of (codes "trial " ++ (decimal seed ++ 32 ∷ decimal size))) (problem_lines p ++ world_lines p found worlds)
    (ended_behind (problem_lines p) (world_lines p found worlds) (ended_worlds p found worlds))

pub summary_lines : (seed size : ℕ) (text : List ℕ) → IsSummary seed size text → in_lines text ≡ text
summary_lines seed size text is =
    ended_lines text (subst (λ (xs : List ℕ). IsEnded xs) (sym is.is) (ended_summary seed size (made seed size) (count_of is.worlds) is.worlds))

-- what is put in lines is the summary
pub lines_put : {T : Type 0} (seed size : ℕ) (text : List ℕ) (r : Result T StoreFault) (old new : SinkState) → IsSummary seed size text → LeavesPiece r (in_lines text) old new → LeavesPiece r text old new
lines_put seed size text r old new is put = subst (λ (piece : List ℕ). LeavesPiece r piece old new) (summary_lines seed size text is) put
