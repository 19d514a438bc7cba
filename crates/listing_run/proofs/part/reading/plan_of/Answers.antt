use Rattle.std.proofs.Common.{rules, subst, ◌∙◌}
use Rattle.outer_store.specs.Contents.{Contents}
use Rattle.outer_store.specs.States.{IsQuiet-joins}
use Rattle.run_ends.specs.Reads.{problem_in, IsGiven}
use Rattle.run_ends.proofs.ReadLemmas.{one_state, comes_as, without_as}
use Rattle.run_ends.proofs.TextLemmas.{if_err}
use Rattle.listing_run.proofs.part.AskedLemmas.{ends_without_problem, ends_without_start, ends_without_end, comes_of_both, found, ends_empty}
use Rattle.listing_run.proofs.part.reading.plan_of.Goals as goal

pub returns-in_err-problem-clause-ended : goal.returns-in_err-problem-clause-ended
returns-in_err-problem-clause-ended g c =
    let args = c.args.args.now in
    let one = g.S.Store.state c.args.store.now in
    let mid = g.S.Store.state c.problem_under.new.store in
    if_err c.from_residual.result _ _
    (ends_without_problem one mid args _
    (without_as c.text.result.now args.input (problem_in args.switches) _ one mid (search rules) c.in_err-problem.ensures.ended))
    (search rules)

pub returns-in_err-start-clause-ended : goal.returns-in_err-start-clause-ended
returns-in_err-start-clause-ended g c =
    let args = c.args.args.now in
    let one = g.S.Store.state c.args.store.now in
    let mid = g.S.Store.state c.problem_under.new.store in
    if_err c.from_residual-in_err-start.result _ _
    (ends_without_start one mid (g.S.Store.state c.position_given.new.store) args c.in_ok-problem.problem _ c.requires
    (one_state one mid c.in_ok-problem.ensures.kept c.in_ok-problem.ensures.quiet)
    (comes_as one.held c.text.result.now args.input (problem_in args.switches) _ (search rules) c.in_ok-problem.ensures.problem)
    c.in_err-start.ensures.ended)
    (search rules)

pub returns-in_err-end-clause-ended : goal.returns-in_err-end-clause-ended
returns-in_err-end-clause-ended g c =
    let args = c.args.args.now in
    let one = g.S.Store.state c.args.store.now in
    let mid = g.S.Store.state c.problem_under.new.store in
    let next = g.S.Store.state c.position_given.new.store in
    if_err c.from_residual-in_err-end.result _ _
    (ends_without_end one next (g.S.Store.state c.position_given-2.new.store) args c.in_ok-problem.problem c.in_ok-start.start _ c.requires
    (one_state mid next c.in_ok-start.ensures.kept c.in_ok-start.ensures.quiet ∙ one_state one mid c.in_ok-problem.ensures.kept c.in_ok-problem.ensures.quiet)
    (comes_as one.held c.text.result.now args.input (problem_in args.switches) _ (search rules) c.in_ok-problem.ensures.problem)
    (subst (λ (held : Contents). IsGiven held c.in_ok-problem.problem args.resume c.in_ok-start.start) c.in_ok-problem.ensures.kept c.in_ok-start.ensures.given)
    c.in_err-end.ensures.ended)
    (search rules)

pub returns-clause-plan : goal.returns-clause-plan
returns-clause-plan g c =
    let args = c.args.args.now in
    let one = g.S.Store.state c.args.store.now in
    found one.held args c.plan_between.result
    (comes_of_both one.held args c.in_ok-problem.problem c.in_ok-start.start c.in_ok-end.end c.unwrap_or.result c.plan_between.result c.requires
    (comes_as one.held c.text.result.now args.input (problem_in args.switches) _ (search rules) c.in_ok-problem.ensures.problem)
    (subst (λ (held : Contents). IsGiven held c.in_ok-problem.problem args.resume c.in_ok-start.start) c.in_ok-problem.ensures.kept c.in_ok-start.ensures.given)
    (subst (λ (held : Contents). IsGiven held c.in_ok-problem.problem args.until c.in_ok-end.end) (c.in_ok-start.ensures.kept ∙ c.in_ok-problem.ensures.kept) c.in_ok-end.ensures.given)
    (search rules) c.plan_between.ensures.plan)

pub returns-clause-ended : goal.returns-clause-ended
returns-clause-ended g c =
    let args = c.args.args.now in
    let one = g.S.Store.state c.args.store.now in
    let mid = g.S.Store.state c.problem_under.new.store in
    let next = g.S.Store.state c.position_given.new.store in
    let other = g.S.Store.state c.position_given-2.new.store in
    ends_empty one other args c.in_ok-problem.problem c.unwrap_or.result c.in_ok-end.end c.plan_between.result
    (comes_of_both one.held args c.in_ok-problem.problem c.in_ok-start.start c.in_ok-end.end c.unwrap_or.result c.plan_between.result c.requires
    (comes_as one.held c.text.result.now args.input (problem_in args.switches) _ (search rules) c.in_ok-problem.ensures.problem)
    (subst (λ (held : Contents). IsGiven held c.in_ok-problem.problem args.resume c.in_ok-start.start) c.in_ok-problem.ensures.kept c.in_ok-start.ensures.given)
    (subst (λ (held : Contents). IsGiven held c.in_ok-problem.problem args.until c.in_ok-end.end) (c.in_ok-start.ensures.kept ∙ c.in_ok-problem.ensures.kept) c.in_ok-end.ensures.given)
    (search rules) c.plan_between.ensures.plan)
    c.plan_between.ensures.plan
    (IsQuiet-joins one mid other c.in_ok-problem.ensures.quiet (IsQuiet-joins mid next other c.in_ok-start.ensures.quiet c.in_ok-end.ensures.quiet))
