-- What shows that a prefix is dead.
use Rattle.std.proofs.Common.{◌≡◌, ◌<◌, ℕ, true, not, List, refl, sym, ◌∙◌, subst}
use Rattle.std.specs.Prelude.{Contains}
use Rattle.std.proofs.lemmas.Bool.{true≢false, not-true}
use Rattle.rcc5_core.specs.declared.Rel.{Rel}
use Rattle.rcc5_core.specs.RelationSet.{is_empty_set}
use Rattle.world_model.specs.Problem.{Problem, pairs}
use Rattle.world_model.specs.Node.{pair_at}
use Rattle.world_model.specs.Alive.{Need, allowed, needs, problem_at, HasPoint, IsAlive}
use Rattle.world_model.proofs.Members.{here, In-right, contains_from_in, all_at, In-get_or}
use Rattle.point_query.specs.Asking.{AskerState}
use Rattle.point_encode.specs.Numbers.{is_needed}
use Rattle.point_encode.specs.Model.Forced.{need_at, need_count}
use Rattle.point_pool.specs.declared.pool.Pool.{Pool}
use Rattle.point_pool.specs.Pools.{IsPool, IsPoolBut}
use Rattle.point_pool.proofs.Numbering.{need_in}
use Rattle.point_pool.specs.Cursors.{IsFirstEmpty}
use Rattle.point_query.specs.Answers.{IsFirstClosed}

-- a pair that allows nothing
pub empty_is_dead : (p : Problem) (pair : ℕ) → IsFirstEmpty p pair → IsAlive p → ⊥
empty_is_dead p pair empty alive =
    true≢false (sym empty.empty ∙ not-true (is_empty_set (allowed p (pair_at p pair)))
    (all_at (λ pair. not (is_empty_set (allowed p pair))) alive.allow (In-get_or (pairs p) pair (0, 0) empty.within)))

-- a need without a point
pub closed_is_dead : (asker : AskerState) (p : Problem) (m : List Rel) (need : Need) (id : ℕ) → IsFirstClosed asker p m need id → IsAlive (problem_at p m) → ⊥
closed_is_dead asker p m need id closed alive =
    let among : Contains (needs (problem_at p m)) need = subst (λ ns. Contains ns need) (sym closed.among) (contains_from_in (In-right closed.before (here refl))) in
    closed.closed.no_point (alive.points need among)

-- where each need waits or is served, so does each but one
pub pool_but : (w : Pool) (low high : ℕ) → IsPool w → IsPoolBut w low high
pool_but w low high is = record { kept = is.kept; marked = is.marked; watched = λ number within counts. is.watched number within counts.0 }

-- a need that no point of the prefix is in
pub lost_is_dead : (p : Problem) (m : List Rel) (number : ℕ) → number < need_count p → is_needed (problem_at p m) number ≡ true → (HasPoint (problem_at p m) (need_at p number) → ⊥) → IsAlive (problem_at p m) → ⊥
lost_is_dead p m number within needed none alive = none (alive.points (need_at p number) (contains_from_in (need_in (problem_at p m) number within needed)))
