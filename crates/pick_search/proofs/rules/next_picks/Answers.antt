use Rattle.std.proofs.Common.{[], subst}
use Rattle.learn_solver.specs.Answers.{IsAnswer}
use Rattle.pick_search.proofs.Deciding.{refuted}
use Rattle.pick_search.proofs.rules.next_picks.Goals as goal

pub returns-in-Refuted : goal.returns-in-Refuted
returns-in-Refuted c = record {
  none = refuted c.law_derived_clauses_follow.ensures c.law_literals_are_sets.ensures c.args.problem.now c.args.pairs.now c.give_bans-2.new.solver c.solve.new.self c.in-Refuted._id c.in_ok-give_bans-2.ensures c.solve.ensures.kept
      (subst (IsAnswer c.solve.new.self []) c.in-Refuted.is c.in_ok-answer.ensures.answer);
}
