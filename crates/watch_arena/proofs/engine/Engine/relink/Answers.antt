use Rattle.std.proofs.Common.{ap, arith}
use Rattle.watch_arena.specs.declared.engine.Engine.{Engine}
use Rattle.watch_arena.proofs.RebuiltChains.{in_range-bodies}
use Rattle.watch_arena.proofs.engine.Engine.relink.Goals as goal

pub watch-requires-clause-in_range : goal.watch-requires-clause-in_range
watch-requires-clause-in_range c at lit has =
    let vars = ap (λ (e : Engine). e.variables) c.loop-place.invariant.relinks.same in
    let below = in_range-bodies c.args.self.now.arena c.loop-place.self.arena c.args.self.now.variables c.loop-place.invariant.relinks.bodies c.requires.in_range at lit has in
    omega arith
