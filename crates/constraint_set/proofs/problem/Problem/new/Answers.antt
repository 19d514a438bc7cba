use Rattle.std.proofs.Common.{◌≡◌, ℕ, [], true, map, subst, Vec, Global}
use Rattle.std.specs.Prelude.{IfOk}
use Rattle.constraint_set.specs.Build.{problem_of}
use Rattle.constraint_set.specs.Shape.{with_state}
use Rattle.constraint_set.proofs.problem.Problem.new.Goals as goal

pub returns : goal.returns
returns c =
    let made = c.of_shape.result in
    subst (λ forests. IfOk made (λ p. p ≡ problem_of (map {A = Vec ℕ Global} (λ v. v.items) c.args.ids.items) forests c.args.articulations.items c.args.switches)) c.deref.ensures.value
    (subst (λ shape. IfOk made (λ p. p ≡ with_state shape (map (λ _. true) shape.articulations) [])) c.in_ok-shape.ensures c.of_shape.ensures)
