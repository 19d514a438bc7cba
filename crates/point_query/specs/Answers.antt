-- What the answers of an asker mean.
use Rattle.std.specs.Prelude.{◌≡◌, ℕ, ◌≤◌, length, Bool, List, ◌∷◌, ◌++◌, MatchOption, IsTrue, Contains}
use Rattle.rcc5_core.specs.declared.Rel.{Rel}
use Rattle.lits_core.specs.Derivation.{live_clause}
use Rattle.world_model.specs.Problem.{Problem}
use Rattle.world_model.specs.Alive.{Need, all_allow, needs, problem_at, is_point, is_in_need, HasPoint, IsAlive, serves}
use Rattle.point_encode.specs.Model.Forced.{IsClosedAt}
use Rattle.point_encode.specs.Needs.{need_seen, IsInRange}
use Rattle.point_query.specs.declared.answers.Found.{Found}
use Rattle.point_query.specs.declared.answers.Found.TheVariants.{Point, Closed}
use Rattle.point_query.specs.declared.answers.Alive.{Alive}
use Rattle.point_query.specs.declared.answers.Alive.TheVariants as alive
use Rattle.point_query.specs.declared.answers.Probe.{Probe}
use Rattle.point_query.specs.declared.answers.Probe.TheVariants as probe
use Rattle.point_query.specs.Asking.{AskerState}
pub use Rattle.point_pool.specs.Cursors.{IsFirstEmpty}
use Rattle.point_encode.specs.Numbers.{EachServed}

-- a clause of the asker's state closes a need of a prefix, which has no point
pub record IsClosed (asker : AskerState) (p : Problem) (m : List Rel) (need : Need) (id : ℕ) : Type 0 where
  pub named : MatchOption (live_clause asker.solver.state id) ⊥ (IsClosedAt p m need)
  pub no_point : HasPoint (problem_at p m) need → ⊥

-- what `ask` found: a point of the prefix in the need, or a clause that closes it
abbrev pub IsFound : AskerState → Problem → List Rel → Need → Found → Type 0
IsFound asker p m need (Point bits) = IsTrue (is_point (problem_at p m) bits) × IsTrue (is_in_need need bits)
IsFound asker p m need (Closed id) = IsClosed asker p m need id

-- a prefix is alive, as one point for each need in order shows
pub record IsServed (p : Problem) (points : List (List Bool)) : Type 0 where
  pub allow : IsTrue (all_allow p)
  pub each : EachServed p (needs p) points
  pub serve : IsTrue (serves p points)

-- a prefix is alive, as no more points than needs show
pub record IsServedByFew (p : Problem) (points : List (List Bool)) : Type 0 where
  pub allow : IsTrue (all_allow p)
  pub serve : IsTrue (serves p points)
  pub few : length points ≤ length (needs p)

-- each pair allows something, and a need is the first without a point, as a clause shows
pub record IsFirstClosed (asker : AskerState) (p : Problem) (m : List Rel) (need : Need) (id : ℕ) : Type 0 where
  pub allow : IsTrue (all_allow (problem_at p m))
  pub before : List Need
  pub after : List Need
  pub among : needs (problem_at p m) ≡ before ++ need ∷ after
  pub earlier : (other : Need) → Contains before other → HasPoint (problem_at p m) other
  pub closed : IsClosed asker p m need id

-- what `alive` answers
abbrev pub IsAliveAnswer : AskerState → Problem → List Rel → Alive → Type 0
IsAliveAnswer asker p m (alive.Points points) = IsServed (problem_at p m) points
IsAliveAnswer asker p m (alive.EmptyPair pair) = IsFirstEmpty (problem_at p m) pair
IsAliveAnswer asker p m (alive.Closed need id) = IsInRange p need × IsFirstClosed asker p m (need_seen p need) id

-- what `probe` answers
abbrev pub IsProbeAnswer : AskerState → Problem → List Rel → Probe → Type 0
IsProbeAnswer asker p m probe.Alive = IsAlive (problem_at p m)
IsProbeAnswer asker p m (probe.EmptyPair pair) = IsFirstEmpty (problem_at p m) pair
IsProbeAnswer asker p m (probe.Closed need id) = IsInRange p need × IsFirstClosed asker p m (need_seen p need) id
