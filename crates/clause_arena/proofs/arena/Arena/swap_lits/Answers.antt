use Rattle.std.proofs.Common.{◌∙◌, ap}
use Rattle.clause_arena.specs.Layout.{records_of}
use Rattle.clause_arena.proofs.Ranges.{records_of-swapped}
use Rattle.std.proofs.Common.{List, ℕ}
use Rattle.clause_arena.proofs.arena.Arena.swap_lits.Goals as goal

pub returns : goal.returns
returns c =
    ap (λ (xs : List ℕ). records_of xs c.self.inside.heads.items) c.swap.ensures.items
    ∙ records_of-swapped c.self.inside.codes.items c.self.inside.heads.items c.index.result c.args.a c.args.b c.index-2.result.now c.args.self.now c.args.at c.self.invariant.0 c.self.view_is c.index.ensures c.requires.of_the_list c.index-2.ensures c.requires.first_in_range c.requires.second_in_range
