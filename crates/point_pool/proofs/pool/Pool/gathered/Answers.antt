use Rattle.std.proofs.lemmas.List.{length-replicate}
use Rattle.std.proofs.Common.{◌≡◌, false, get_or, length, sym, ap, ◌∙◌, subst, arith}
use Rattle.world_model.specs.Alive.{problem_at}
use Rattle.point_encode.specs.Numbers.{AreServing, needs_below}
use Rattle.point_encode.specs.Model.Forced.{need_count}
use Rattle.point_pool.proofs.Gathering.{none_gathered, all_false}
use Rattle.point_pool.proofs.Numbering.{needs_numbered}
use Rattle.point_pool.proofs.pool.Pool.gathered.Goals as goal

pub loop-number-init : goal.loop-number-init
loop-number-init c =
    let all = c.in_ok-taken.ensures.items_if_clones_equal (λ y same. same) in
    none_gathered c.args.self.now c.new-list.result.items c.in_ok-taken.taken.items c.new-list.ensures.items (let counted = ap length all ∙ length-replicate c.len.result false in omega (arith, counted, c.len.ensures))
    (λ place. ap (λ ts. get_or ts place false) all ∙ all_false c.len.result place)

pub returns : goal.returns
returns c =
    let q = problem_at c.args.self.now.cursor.problem c.args.self.now.cursor.path in
    let counted : c.count_needs-number-end.result ≡ need_count q = c.count_needs-number-end.ensures ∙ ap need_count c.problem.ensures in
    let all : c.loop-number.number ≡ need_count q = omega (arith, counted) in
    subst (λ ns. AreServing q ns c.loop-number.list.items) (sym (needs_numbered q ∙ ap (needs_below q) (sym all))) c.loop-number.invariant.serving
