use Rattle.std.proofs.Common.{rules}
use Rattle.rcc5_core.specs.Region.{row_of}
use Rattle.point_pool.proofs.Showing.{part_shown}
use Rattle.point_pool.proofs.pool.Pool.shows_part.Goals as goal

-- src/shows.rt:76:5
pub returns-in-Empty : goal.returns-in-Empty
returns-in-Empty c = λ none. part_shown c.args.self.now c.args.seen c.requires.seen (row_of c.args.rel) c.args.part c.requires.part (λ e. search rules) (λ e. search rules)
