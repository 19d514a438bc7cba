-- What an answer of the solver means.
use Rattle.std.specs.Prelude.{ℕ, List}
use Rattle.learn_solver.specs.declared.solver.Answer.{Answer}
use Rattle.learn_solver.specs.declared.solver.Answer.TheVariants.{Bits, Refuted}
use Rattle.learn_solver.specs.Solving.{SolverState, IsModel, IsRefutation}

-- bits are a model, and a refutation refutes
abbrev pub IsAnswer : SolverState → List ℕ → Answer → Type 0
IsAnswer s assumptions (Bits bits) = IsModel s assumptions bits
IsAnswer s assumptions (Refuted id) = IsRefutation s assumptions id
