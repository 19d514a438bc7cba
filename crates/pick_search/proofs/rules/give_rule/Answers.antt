use Rattle.std.proofs.Common.{refl, subst}
use Rattle.learn_solver.specs.Solving.{AddsGiven}
use Rattle.pick_search.proofs.Ruling.{ready_more, rule_true}
use Rattle.pick_search.proofs.rules.give_rule.Goals as goal

pub returns : goal.returns
returns c =
    let adds = subst (AddsGiven c.args.solver.now c.add.new.self) c.deref.ensures.value c.in_ok-add.ensures.ok in
    ready_more c.law_literals_are_sets.ensures c.args.problem.now c.args.pairs.now c.args.solver.now c.add.new.self c.in_ok-lits.lits.items c.requires.ready adds
    (rule_true c.args.problem.now c.args.pairs.now c.args.place _ c.allowed.result c.in_ok-lits.lits.items c.in_ok-lits.ensures c.requires.place refl c.allowed.ensures)
