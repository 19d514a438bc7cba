use Rattle.std.proofs.Common.{◌≤◌, List, All, length, sym, ap, subst, ◌∙◌}
use Rattle.std.proofs.lemmas.Result.{IfOk-weaker}
use Rattle.rcc5_core.specs.declared.Rel.{Rel}
use Rattle.world_model.specs.Problem.{cross_pairs}
use Rattle.trial_run.specs.Trials.{summary}
use Rattle.trial_run.proofs.SummaryLemmas.{all_reach, is_summary}
use Rattle.trial_run.proofs.running.trial_text.Goals as goal

pub summary-requires : goal.summary-requires
summary-requires c =
    subst (λ (worlds : List (List Rel)). All (λ world. length (cross_pairs c.in_ok-problem.problem) ≤ length world) worlds) (sym c.list.ensures)
    (all_reach c.in_ok-problem.problem c.in_ok-found.worlds c.in_ok-found.ensures.accepted)

pub returns : goal.returns
returns c =
    IfOk-weaker c.summary.result _ _
    (λ text is. is_summary c.args.seed c.args.size c.in_ok-found.found c.in_ok-problem.problem c.in_ok-found.worlds text.items c.in_ok-problem.ensures.made
    c.in_ok-found.ensures.found c.in_ok-found.ensures.accepted
    (is ∙ ap (λ (worlds : List (List Rel)). summary c.args.seed c.args.size c.in_ok-problem.problem c.in_ok-found.found worlds) c.list.ensures))
    c.summary.ensures
