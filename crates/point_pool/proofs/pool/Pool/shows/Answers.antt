use Rattle.std.proofs.Common.{length, refl}
use Rattle.rcc5_core.specs.Region.{row_of}
use Rattle.world_model.specs.Node.{pair_at}
use Rattle.point_pool.specs.Pools.{ShowPart}
use Rattle.point_pool.proofs.Showing.{shown_alive, three_parts}
use Rattle.point_pool.proofs.pool.Pool.shows.Goals as goal

pub returns : goal.returns
returns c = λ shown.
    let w = c.args.self.now in
    shown_alive c.positions_narrow.ensures w c.args.rel c.requires.pool c.requires.settled c.facts.ensures c.requires.within c.requires.allow c.requires.allowed
    (three_parts (ShowPart w.places (pair_at w.cursor.problem (length w.cursor.path)) (row_of c.args.rel)) (c.if-not-shows_part.ensures refl) (c.if-not-shows_part-2.ensures refl) (c.shows_part-3.ensures shown))
