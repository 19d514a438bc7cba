use Rattle.std.proofs.Common.{◌≡◌, ◌∙◌, false, get_or, sym, ap}
use Rattle.conflict_min.proofs.Courses.{course_dropped, clash_unasked}
use Rattle.conflict_min.proofs.points.pass_one.Goals as goal

pub returns-clause-after : goal.returns-clause-after
returns-clause-after c =
    let p = c.args.problem.now in
    let place = c.args.place in
    let kept = c.args.course.now.kept.items in
    let core = c.args.course.now.core.items in
    let families = c.args.course.now.families.items in
    let so = c.requires.before.shrunk in
    let off : get_or core place false ≡ false = sym (c.index.ensures ∙ ap (get_or core place) c.if-index.false) ∙ c.if-index.false in
    let clash = clash_unasked p place kept core families so c.requires.within c.requires.before.clash off in
    λ told. record { shrunk = course_dropped p place kept core families so c.requires.within clash; clash = clash }
