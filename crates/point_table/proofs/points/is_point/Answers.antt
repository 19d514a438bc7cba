use Rattle.std.proofs.Common.{◌<◌, ◌&&◌, ◌∙◌, sym, ap, subst}
use Rattle.std.specs.Prelude.{All}
use Rattle.std.specs.List.{list_all}
use Rattle.world_model.specs.Problem.{pair_count}
use Rattle.world_model.specs.Points.{avoids_at, empty_pairs}
use Rattle.constraint_set.proofs.PointTests.{empty_in_range}
use Rattle.point_table.proofs.PointTests.{point_by_pairs}
use Rattle.point_table.proofs.points.is_point.Goals as goal

pub avoids_all-requires-clause-pairs : goal.avoids_all-requires-clause-pairs
avoids_all-requires-clause-pairs c =
    subst (λ ps. All (λ pair. pair < pair_count c.args.problem.now) ps) (sym c.requires.pairs) (empty_in_range c.args.problem.now)

pub returns-then-meets_structure : goal.returns-then-meets_structure
returns-then-meets_structure c =
    let p = c.args.problem.now in
    let bits = c.args.bits.now in
    c.avoids_all.ensures ∙ ap (list_all (avoids_at p bits)) c.requires.pairs ∙
    ap (λ b. b && list_all (avoids_at p bits) (empty_pairs p)) c.if-meets_structure.ensures ∙ point_by_pairs p bits

pub returns-else-meets_structure : goal.returns-else-meets_structure
returns-else-meets_structure c =
    let p = c.args.problem.now in
    let bits = c.args.bits.now in
    c.if-meets_structure.false ∙ ap (λ b. b && list_all (avoids_at p bits) (empty_pairs p)) c.if-meets_structure.ensures ∙ point_by_pairs p bits
