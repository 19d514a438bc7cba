use Rattle.std.proofs.lemmas.List.Sorted.{Contains-permutation, IsPermutation-sym}
use Rattle.watch_arena.proofs.engine.Engine.add.Goals as goal

pub add_watched-requires-clause-range : goal.add_watched-requires-clause-range
add_watched-requires-clause-range c lit has =
    c.requires.range lit (Contains-permutation c.swap.new.self c.args.codes.now lit (IsPermutation-sym c.args.codes.now c.swap.new.self c.swap.ensures.permutation) has)
