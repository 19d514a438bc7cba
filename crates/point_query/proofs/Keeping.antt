-- What shows that a prefix with one relation more is alive, or dead.
use Rattle.std.proofs.Common.{◌≡◌, ℕ, ◌<◌, Bool, true, List, [], ◌∷◌, ◌++◌, length, sym, subst, arith}
use Rattle.std.proofs.lemmas.List.{length-append}
use Rattle.rcc5_core.specs.declared.Rel.{Rel}
use Rattle.rcc5_core.specs.RelationSet.{has}
use Rattle.point_encode.specs.Model.Forced.{need_at, need_count}
use Rattle.point_encode.specs.Numbers.{is_needed}
use Rattle.world_model.specs.Alive.{HasPoint, IsAlive, all_allow, allowed, is_point, needs, problem_at}
use Rattle.world_model.specs.Laws.{PositionsNarrow}
use Rattle.world_model.specs.Node.{pair_at}
use Rattle.world_model.specs.Problem.{Problem, pair_count}
use Rattle.world_model.proofs.Members.{In, in_from_contains}
use Rattle.point_pool.specs.Cursors.{IsOpen}
use Rattle.point_pool.proofs.Cursors.{open_more}
use Rattle.point_pool.proofs.Losing.{off_again}
use Rattle.point_pool.proofs.Numbering.{IsNumbered, from_below, needs_numbered}
use Rattle.point_pool.proofs.Prefixes.{point_later}
use Rattle.point_pool.specs.declared.pool.Pool.{Pool}
use Rattle.point_pool.specs.Pools.{IsPool, IsPoolBut}

-- each need has a point
pub kept_is_alive : (p : Problem) (m : List Rel) → all_allow (problem_at p m) ≡ true →
    ((number : ℕ) → number < need_count p → is_needed (problem_at p m) number ≡ true → HasPoint (problem_at p m) (need_at p number)) → IsAlive (problem_at p m)
kept_is_alive p m allow has_one =
    let q = problem_at p m in
    record {
      allow = allow;
      points = λ need there.
          let n : IsNumbered q need (need_count q) = from_below q (need_count q) need (subst (λ ns. In need ns) (needs_numbered q) (in_from_contains (needs q) there)) in
          subst (λ x. HasPoint q x) (sym n.is) (has_one n.number n.below n.needed);
    }

-- a point of the prefix with the relation is one of the prefix
pub point_before : PositionsNarrow → (p : Problem) (m : List Rel) (rel : Rel) (bits : List Bool) → IsOpen p m → length m < pair_count p → has (allowed p (pair_at p (length m))) rel ≡ true →
    is_point (problem_at p (m ++ rel ∷ [])) bits ≡ true → is_point (problem_at p m) bits ≡ true
point_before law p m rel bits o within allows h =
    let more = m ++ rel ∷ [] in
    subst (λ t. is_point (problem_at p t) bits ≡ true) (off_again m rel) (point_later law p more (length m) bits (open_more p m rel o within allows) (omega (arith, length-append m (rel ∷ []))) h)

-- where each need but those of no number waits or is served, so does each
pub pool_whole : (w : Pool) → IsPoolBut w 0 0 → IsPool w
pool_whole w is = record { kept = is.kept; marked = is.marked; watched = λ number within needed. is.watched number within (needed, λ low high. absurd (omega (arith, high))) }
