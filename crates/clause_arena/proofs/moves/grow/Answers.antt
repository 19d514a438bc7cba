use Rattle.std.proofs.Common.{◌∙◌, ap, List, Option, ℕ, arith}
use Rattle.clause_arena.specs.Movings.{pairs_from}
use Rattle.clause_arena.proofs.Pairs.{pairs_from-push}
use Rattle.clause_arena.proofs.moves.grow.Goals as goal

pub loop-preserved : goal.loop-preserved
loop-preserved c =
    (ap (λ (table : List (Option ℕ)). pairs_from 0 table) c.in_ok-push.ensures.items ∙ pairs_from-push c.loop.table.items 0 ∙ c.loop.invariant.0, (let len = c.in_ok-push.ensures.len in let le = c.loop.invariant.1 in omega arith))
