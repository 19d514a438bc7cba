-- The numbers of a problem are small.
use Rattle.std.proofs.Common.{◌≡◌, ℕ, ◌<◌, ◌≤◌, length, Option, None, Some, sym, arith}
use Rattle.std.specs.Prelude.{IfSome}
use Rattle.world_model.specs.Problem.{Problem, parent_of}
use Rattle.constraint_set.specs.Facts.{IsBuilt}
use Rattle.constraint_set.specs.Readers.{is_sum_at, sum_places}
use Rattle.constraint_set.proofs.Lists.{few_filtered}

pub small_parent : (p : Problem) → IsBuilt p → (c : ℕ) (parent : Option ℕ) → parent ≡ parent_of p c → IfSome parent (λ q. q < 1024)
small_parent p built c None e = tt
small_parent p built c (Some q) e =
    let r = built.parents_within c q (sym e) in omega (arith, r.0, built.concepts)

pub few_sums : (p : Problem) → IsBuilt p → length (sum_places p) ≤ 4096
few_sums p built = omega (arith, few_filtered (is_sum_at p.articulations) (length p.articulations), built.few)
