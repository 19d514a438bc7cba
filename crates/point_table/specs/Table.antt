-- Points in rows of bits: one row a concept, one place a point.
use Rattle.std.specs.Prelude.{◌≡◌, ℕ, ◌+◌, ◌/◌, ◌<◌, Bool, List, length}
use Rattle.world_model.specs.Problem.{Problem, concept_count}
use Rattle.world_model.specs.Alive.{bit_of, point_at}
use Rattle.world_model.specs.Trial.{points_by_trial}
use Rattle.bit_rows.specs.Rows.{BitRows, bit_in}

-- rows show the bits of points
pub record AreShown (points : List (List Bool)) (rows : BitRows) : Type 0 where
  pub bits : (c k : ℕ) → c < rows.count → bit_in rows c k ≡ bit_of (point_at points k) c

-- rows show all points of a problem, one row a concept
pub record AreRowsOf (p : Problem) (rows : BitRows) : Type 0 where
  pub shown : AreShown (points_by_trial p) rows
  pub counted : rows.count ≡ concept_count p
  pub width : rows.width ≡ length (points_by_trial p) / 64 + 1
