-- What is answered of a pool.
use Rattle.std.proofs.Common.{◌≡◌, ℕ, Bool, true, List, sym, subst}
use Rattle.std.specs.Prelude.{IsTrue}
use Rattle.std.proofs.lemmas.Bool.{and_from}
use Rattle.rcc5_core.specs.declared.Rel.{Rel}
use Rattle.learn_solver.specs.Solving.{SolverState}
use Rattle.world_model.specs.Problem.{Problem}
use Rattle.world_model.specs.Alive.{Need, all_allow, needs, problem_at, HasPoint}
use Rattle.world_model.proofs.Members.{in_from_contains}
use Rattle.point_pool.specs.declared.pool.Pool.{Pool}
use Rattle.point_encode.specs.Numbers.{EachServed, needs_below}
use Rattle.point_encode.specs.Model.Forced.{need_at}
use Rattle.point_query.specs.Answers.{IsServed, IsFirstClosed}
use Rattle.point_query.specs.Queries.{asker_with}
use Rattle.point_query.specs.Closing.{IsFirstStuck}
use Rattle.point_pool.proofs.Numbering.{needs_split, from_below, IsNumbered}
use Rattle.point_pool.proofs.Serving.{each_are_points, each_have_one}

-- such points show that the problem is alive
pub served : (p : Problem) (points : List (List Bool)) → IsTrue (all_allow p) → EachServed p (needs p) points → IsServed p points
served p points allow each = record { allow = allow; each = each; serve = and_from _ _ (each_are_points p (needs p) points each) (each_have_one p (needs p) points each) }

-- the first need without a point
pub stuck_first : (w : Pool) (s : SolverState) (number id : ℕ) → IsFirstStuck w s number id → IsTrue (all_allow (problem_at w.cursor.problem w.cursor.path)) →
    IsFirstClosed (asker_with w.cursor.problem s) w.cursor.problem w.cursor.path (need_at w.cursor.problem number) id
stuck_first w s number id stuck allow =
    let q = problem_at w.cursor.problem w.cursor.path in
    record {
      allow = allow;
      before = needs_below q number;
      after = _;
      among = needs_split q number stuck.within stuck.needed;
      earlier = λ other there.
          let n : IsNumbered q other number = from_below q number other (in_from_contains (needs_below q number) there) in
          subst (λ x. HasPoint q x) (sym n.is) (stuck.earlier n.number n.below n.needed);
      closed = stuck.closed;
    }

pub closed_at : (w : Pool) (s : SolverState) (p : Problem) (m : List Rel) (number id : ℕ) (need : Need) → w.cursor ≡ record { problem = p; path = m } → IsFirstStuck w s number id →
    all_allow (problem_at p m) ≡ true → need ≡ need_at p number → IsFirstClosed (asker_with p s) p m need id
closed_at w s p m number id need same stuck allow is =
    subst (λ x. IsFirstClosed (asker_with p s) p m x id) (sym is)
    (subst (λ st. IsFirstClosed (asker_with st.problem s) st.problem st.path (need_at st.problem number) id) same
    (stuck_first w s number id stuck (subst (λ st. all_allow (problem_at st.problem st.path) ≡ true) (sym same) allow)))

pub points_at : (w : Pool) (p : Problem) (m : List Rel) (points : List (List Bool)) → w.cursor ≡ record { problem = p; path = m } → all_allow (problem_at p m) ≡ true →
    EachServed (problem_at w.cursor.problem w.cursor.path) (needs (problem_at w.cursor.problem w.cursor.path)) points → IsServed (problem_at p m) points
points_at w p m points same allow each = served (problem_at p m) points allow (subst (λ s. EachServed (problem_at s.problem s.path) (needs (problem_at s.problem s.path)) points) same each)
