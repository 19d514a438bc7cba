-- What a search for a family answers.
use Rattle.std.specs.Prelude.{◌≡◌, ◌≤◌, [], length}
use Rattle.world_model.specs.Problem.{Problem}
use Rattle.world_model.specs.Questions.{IsMet}
use Rattle.set_family.specs.Meeting.{IsMetBy}
use Rattle.point_query.specs.Asking.{AskerState}
use Rattle.split_search.specs.declared.choice.Choice.{Choice}
use Rattle.split_search.specs.declared.choice.Choice.TheVariants.{Met, Refuted}

-- a family that meets the problem, or that none does
abbrev pub IsChoice : Problem → Choice → Type 0
IsChoice p (Met f) = IsMetBy p f
IsChoice p Refuted = IsMet p → ⊥

-- no line of an asker waits, and few of its clauses are idle
pub record IsTidy (asker : AskerState) : Type 0 where
  pub none_waits : asker.solver.waiting ≡ []
  pub few_idle : length asker.solver.idle ≤ 1024
