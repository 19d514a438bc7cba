use Rattle.std.proofs.Common.{true≢false, refl, sym, ap, subst, ◌∙◌}
use Rattle.world_model.specs.Node.{pair_at}
use Rattle.world_model.specs.Problem.{narrowed}
use Rattle.split_search.specs.Choosing.{IsChoice}
use Rattle.mir_report.proofs.Laws.{cross_within}
use Rattle.mir_report.proofs.Subjects.{met_by_above, met_is_possible}
use Rattle.mir_report.proofs.bare.ask_for.Goals as goal

pub narrowed-requires : goal.narrowed-requires
narrowed-requires c = cross_within c.args.problem.now c.args.pair c.requires.cross

pub choose_with-requires-clause-within : goal.choose_with-requires-clause-within
choose_with-requires-clause-within c = cross_within c.args.problem.now c.args.pair c.requires.cross

pub choose_with-requires-clause-part : goal.choose_with-requires-clause-part
choose_with-requires-clause-part c = c.in_ok-narrowed.ensures.value ∙ ap (narrowed c.args.problem.now (pair_at c.args.problem.now c.args.pair)) c.one.ensures

pub gather-requires-clause-met : goal.gather-requires-clause-met
gather-requires-clause-met c =
    let p = c.args.problem.now in
    let met = subst (IsChoice c.in_ok-narrowed.narrowed) c.in-Met.is c.in_ok-choice.ensures.choice in
    met_by_above p c.in_ok-narrowed.narrowed c.args.pair c.args.rel c.one.result c.in-Met.family c.one.ensures c.in_ok-narrowed.ensures.value met

pub returns-clause-answer : goal.returns-clause-answer
returns-clause-answer c =
    let p = c.args.problem.now in
    let met = subst (IsChoice c.in_ok-narrowed.narrowed) c.in-Met.is c.in_ok-choice.ensures.choice in (
      λ _. (met_is_possible p c.in_ok-narrowed.narrowed c.args.pair c.args.rel c.one.result (cross_within p c.args.pair c.requires.cross) c.one.ensures c.in_ok-narrowed.ensures.value).0 (c.in-Met.family, met.met),
      λ _. refl,
    )

pub returns-in-Refuted-clause-answer : goal.returns-in-Refuted-clause-answer
returns-in-Refuted-clause-answer c =
    let p = c.args.problem.now in
    let none = subst (IsChoice c.in_ok-narrowed.narrowed) c.in-Refuted.is c.in_ok-choice.ensures.choice in (
      λ h. absurd (true≢false (sym h)),
      λ r. absurd (none ((met_is_possible p c.in_ok-narrowed.narrowed c.args.pair c.args.rel c.one.result (cross_within p c.args.pair c.requires.cross) c.one.ensures c.in_ok-narrowed.ensures.value).1 r)),
    )
