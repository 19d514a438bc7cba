use Rattle.std.proofs.Common.{◌<◌, ◌∙◌, sym, ap, arith}
use Rattle.point_encode.specs.Model.Forced.{need_count}
use Rattle.point_query.proofs.Deciding.{lost_is_dead}
use Rattle.point_query.proofs.closer.Closer.is_closed_again.Goals as goal

pub returns : goal.returns
returns c = λ yes alive.
    let p = c.args.cursor.now.problem in
    let number = c.args.closing.number in
    let below : number < need_count p = omega (arith, c.if-closing-count_needs.false, c.count_needs.ensures, ap need_count c.problem.ensures) in
    lost_is_dead p c.args.cursor.now.path number below (sym c.is_needed.ensures ∙ c.if-not-is_needed.false) c.shows.ensures.no_point alive
