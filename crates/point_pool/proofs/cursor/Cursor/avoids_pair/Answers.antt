use Rattle.std.proofs.Common.{arith}
use Rattle.world_model.specs.Alive.{problem_at}
use Rattle.point_pool.proofs.Drafted.{other_way, with_itself}
use Rattle.point_pool.proofs.cursor.Cursor.avoids_pair.Goals as goal

pub returns-then-other-one : goal.returns-then-other-one
returns-then-other-one c = λ avoids. other_way (problem_at c.args.self.now.problem c.args.self.now.path) c.args.bits.now c.args.other c.args.one (c.avoids_two-then-other-one.ensures avoids)

pub returns : goal.returns
returns c = λ _. with_itself (problem_at c.args.self.now.problem c.args.self.now.path) c.args.bits.now c.args.one c.args.other (omega arith)
