-- A need that is forced where a pair is narrowed, and a live clause that leaves it no point.
use Rattle.std.proofs.Common.{◌≡◌, ℕ, ◌<◌, true, [], ◌∷◌, Some, sym, ap, ◌∙◌, subst}
use Rattle.std.specs.Prelude.{Contains, MatchOption}
use Rattle.rcc5_core.specs.declared.Rel.{Rel}
use Rattle.rcc5_core.specs.RelationSet.{only}
use Rattle.lits_core.specs.Derivation.{live_clause, LiteralsAreSets, SameGiven}
use Rattle.world_model.specs.Problem.{Problem, pairs, pair_count, narrowed}
use Rattle.world_model.specs.Alive.{Need, needs, HasPoint, IsAlive}
use Rattle.world_model.specs.Node.{pair_at}
use Rattle.world_model.proofs.Members.{In, here, there, none_in, contains_from_in, In-get_or}
use Rattle.world_model.proofs.PointAlive.{In-needs}
use Rattle.world_model.proofs.PointOnce.{at_empty}
use Rattle.constraint_set.specs.Facts.{IsBuilt}
use Rattle.constraint_set.specs.Shape.{shape_of}
use Rattle.point_encode.specs.Model.Clauses.{given_clauses, variable_count}
use Rattle.point_encode.specs.Model.Forced.{need_with, IsClosedAt}
use Rattle.point_encode.specs.Model.Laws.{ClausesArePoints, NeedsAreLiterals}
use Rattle.point_query.specs.Asking.{AskerState, IsAsker}
use Rattle.point_query.specs.Queries.{IsSolverOf}
use Rattle.point_query.proofs.Querying.{known_is_closed}
use Rattle.cert_rules.specs.Trees.{is_forced}
use Rattle.cert_rules.specs.Writing.{IsClosedNeed}
use Rattle.cert_rules.proofs.Leaves.{built_at, forced_is_need}
use Rattle.dead_pairs.specs.declared.lone.Lone.{Lone}
use Rattle.dead_pairs.specs.Lone.{lone_problem}

-- narrowing a pair gives a problem
built_alone : (p : Problem) (pair : ℕ) (rel : Rel) → IsBuilt p → pair < pair_count p → IsBuilt (narrowed p (pair_at p pair) (only rel))
built_alone p pair rel built within = built_at p (pair_at p pair ∷ []) (rel ∷ []) built (λ one i. only_it one i)
  where
    only_it : (one : ℕ × ℕ) → In one (pair_at p pair ∷ []) → In one (pairs p)
    only_it one (here is) = subst (λ x. In x (pairs p)) (sym is) (In-get_or (pairs p) pair (0, 0) within)
    only_it one (there i) = absurd (none_in i)

-- an asker for problems of the shape has the clauses of the problem
solver_alone : (p : Problem) (lone : Lone) (asker : AskerState) → IsAsker asker → asker.shape ≡ shape_of p → IsSolverOf (lone_problem p lone) asker.solver
solver_alone p lone asker is shape = record {
  variables = is.variables ∙ ap variable_count shape;
  given = subst (λ x. SameGiven (given_clauses x) asker.solver.state.given) shape is.given;
}

-- such a need is closed, and the problem dead
pub closed_alone : ClausesArePoints → NeedsAreLiterals → LiteralsAreSets → (p : Problem) (lone : Lone) (asker : AskerState) (need : Need) (number id : ℕ) → IsBuilt p → lone.pair < pair_count p → IsAsker asker →
    asker.shape ≡ shape_of p → need_with p number ≡ Some need → is_forced (lone_problem p lone) need ≡ true → MatchOption (live_clause asker.solver.state id) ⊥ (IsClosedAt (lone_problem p lone) [] need) →
    IsClosedNeed (lone_problem p lone) asker.solver.state [] number id × (IsAlive (lone_problem p lone) → ⊥)
closed_alone points literals sets p lone asker need number id built within is shape named forced closed =
    let q = lone_problem p lone in
    let among : Contains (needs q) need = contains_from_in (In-needs q need (forced_is_need q number need named forced)) in (
      record {
        need = need;
        named = named;
        among = subst (λ x. Contains (needs x) need) (sym (at_empty q)) among;
        closed = closed;
      },
      λ alive. (known_is_closed points literals sets q [] need asker.solver id (built_alone p lone.pair lone.rel built within) (solver_alone p lone asker is shape) (number, named) is.solver closed).no_point
          (subst (λ x. HasPoint x need) (sym (at_empty q)) (alive.points need among)),
    )
