use Rattle.std.proofs.Common.{◌≡◌, sym, ap, ◌∙◌, subst, arith}
use Rattle.world_model.specs.Alive.{problem_at}
use Rattle.point_encode.specs.Numbers.{EachServed, needs_below}
use Rattle.point_encode.specs.Model.Forced.{need_count}
use Rattle.point_pool.proofs.Numbering.{needs_numbered}
use Rattle.point_pool.proofs.pool.Pool.witnesses.Goals as goal

pub returns : goal.returns
returns c =
    let q = problem_at c.args.self.now.cursor.problem c.args.self.now.cursor.path in
    let counted : c.count_needs-number-end.result ≡ need_count q = c.count_needs-number-end.ensures ∙ ap need_count c.problem.ensures in
    let all : c.loop-number.number ≡ need_count q = omega (arith, counted) in
    subst (λ ns. EachServed q ns c.loop-number.list.items) (sym (needs_numbered q ∙ ap (needs_below q) (sym all))) c.loop-number.invariant
