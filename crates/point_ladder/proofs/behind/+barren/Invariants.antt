use Rattle.std.proofs.Common.{◌≡◌, ◌<◌, ◌+◌, ◌-◌, ◌*◌, ◌∷◌, [], length, take}
use Rattle.std.specs.Prelude.{IsTrue}
use Rattle.rcc5_core.specs.declared.Rel.{Rel}
use Rattle.rcc5_core.specs.declared.Rel.TheVariants.{Equals, Includes, IncludedIn, Overlaps, Disjoint}
use Rattle.rcc5_core.specs.Relation.{rank_of}
use Rattle.rcc5_core.specs.RelationSet.{has}
use Rattle.bit_rows.specs.Rows.{has_bit}
use Rattle.point_ladder.specs.Barren.{LiesNoneBy}
use Rattle.point_ladder.proofs.behind.+barren.Given as goal

abbrev pub decreases-is_barren : goal.decreases-is_barren
decreases-is_barren l = 3 * (length l.ground.now.order.now - l.at)

abbrev pub decreases-is_barren_by : goal.decreases-is_barren_by
decreases-is_barren_by l = 3 * (length l.ground.now.order.now - l.at) + 1

abbrev pub decreases-are_barren : goal.decreases-are_barren
decreases-are_barren l = 3 * (length l.ground.now.order.now - l.at) + 2

-- none lies behind with the relations that were tried
abbrev pub invariant-are_barren-loop-rel : goal.invariant-are_barren-loop-rel
invariant-are_barren-loop-rel l = record {
  items : l.rel-items ≡ Equals ∷ Includes ∷ IncludedIn ∷ Overlaps ∷ Disjoint ∷ [];
  none : (rel : Rel) → rank_of rel < l.rel-index → IsTrue (has l.fn.set rel) →
      LiesNoneBy l.fn.ground.problem.now l.fn.ground.sets.now l.fn.ground.from (take l.fn.at l.fn.ground.order.now) l.fn.frame (has_bit l.fn.sides.left.now) (has_bit l.fn.sides.right.now) rel;
}
