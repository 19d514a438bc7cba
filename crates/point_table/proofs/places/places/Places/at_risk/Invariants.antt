use Rattle.std.proofs.Common.{◌≡◌, ℕ, ◌*◌, ◌<◌, true}
use Rattle.std.specs.Prelude.{Contains}
use Rattle.point_table.specs.Places.Places.{is_at_risk}
use Rattle.point_table.proofs.places.places.Places.at_risk.Given as goal

abbrev pub invariant-loop-at : goal.invariant-loop-at
invariant-loop-at l = (place : ℕ) → place < 64 * l.at → is_at_risk l.self l.pair l.regions place ≡ true → Contains l.list.items place
