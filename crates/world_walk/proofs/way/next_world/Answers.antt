use Rattle.std.proofs.Common.{◌≡◌, min, length, ap, sym, ◌∙◌, subst, arith}
use Rattle.std.specs.Prelude.{Some}
use Rattle.world_walk.specs.Ahead.{Lists, BeginAlike}
use Rattle.world_walk.specs.Ways.{problem_of, at_of, told_of, told_table}
use Rattle.world_walk.proofs.BeginAlike.{alike_longer, alike_shorter}
use Rattle.world_walk.proofs.WentOn.{lists_further, at_ready, place_ready}
use Rattle.world_walk.proofs.way.next_world.Goals as goal

pub returns-then-path-pairs-clause-passed : goal.returns-then-path-pairs-clause-passed
returns-then-path-pairs-clause-passed c =
    let p = problem_of c.args.way.now in
    let one = at_of c.args.way.now in
    let told = told_of c.args.way.now in
    let kept = c.loop-patience.invariant in
    let ready = c.in_ok-add_waiting.ensures.went in
    subst (λ o. Lists p one o told) (at_ready c.go_along.new.way c.go_along.ensures.stands c.go_along.ensures.ready ∙ ap Some (sym (place_ready c.go_along.new.way c.go_along.ensures.ready)))
    (lists_further p one told c.add_waiting.new.way c.go_along.new.way (ready.problem ∙ kept.problem) (lists_further p one told c.loop-patience.way c.add_waiting.new.way kept.problem kept.passed ready) c.go_along.ensures.went)

pub returns-in_err-step-clause-passed : goal.returns-in_err-step-clause-passed
returns-in_err-step-clause-passed c =
    let p = problem_of c.args.way.now in
    let one = at_of c.args.way.now in
    let told = told_of c.args.way.now in
    let kept = c.loop-patience.invariant in
    let ready = c.in_ok-add_waiting.ensures.went in
    let along = c.go_along.ensures.went in
    lists_further p one told c.go_along.new.way c.step.new.way (along.problem ∙ ready.problem ∙ kept.problem)
    (lists_further p one told c.add_waiting.new.way c.go_along.new.way (ready.problem ∙ kept.problem) (lists_further p one told c.loop-patience.way c.add_waiting.new.way kept.problem kept.passed ready) along)
    c.in_err-step.ensures.went

pub loop-patience-preserved : goal.loop-patience-preserved
loop-patience-preserved c =
    let p = problem_of c.args.way.now in
    let one = at_of c.args.way.now in
    let told = told_of c.args.way.now in
    let kept = c.loop-patience.invariant in
    let ready = c.in_ok-add_waiting.ensures.went in
    let along = c.go_along.ensures.went in
    let entered = c.in_ok-step.ensures.went in
    record {
      problem = entered.problem ∙ along.problem ∙ ready.problem ∙ kept.problem;
      way = entered.way;
      passed = lists_further p one told c.go_along.new.way c.step.new.way (along.problem ∙ ready.problem ∙ kept.problem)
          (lists_further p one told c.add_waiting.new.way c.go_along.new.way (ready.problem ∙ kept.problem) (lists_further p one told c.loop-patience.way c.add_waiting.new.way kept.problem kept.passed ready) along)
          entered;
      untold = entered.untold;
      kept =
          let few : c.min-kept.result ≡ min c.loop-patience.kept (length c.step.new.way.along.path) = omega (arith, c.min-kept.ensures, ap length c.path-in-loop-patience.ensures) in
          subst (BeginAlike (told_table told) c.step.new.way.along.path) (sym few)
          (alike_shorter (told_table told) c.go_along.new.way.along.path c.step.new.way.along.path c.loop-patience.kept
          (alike_longer (told_table told) c.add_waiting.new.way.along.path c.go_along.new.way.along.path c.loop-patience.kept
          (alike_longer (told_table told) c.loop-patience.way.along.path c.add_waiting.new.way.along.path c.loop-patience.kept kept.kept c.in_ok-add_waiting.ensures.longer) c.go_along.ensures.longer)
          c.in_ok-step.ensures.shorter);
    }
