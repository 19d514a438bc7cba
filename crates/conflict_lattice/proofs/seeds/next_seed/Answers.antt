use Rattle.std.proofs.Common.{[], ap, ◌∙◌, subst}
use Rattle.learn_solver.specs.Answers.{IsAnswer}
use Rattle.conflict_lattice.specs.Lattice.{Subsets}
use Rattle.conflict_lattice.specs.Rounds.{is_open}
use Rattle.conflict_lattice.proofs.Seeding.{none_open, seed_open}
use Rattle.conflict_lattice.proofs.seeds.next_seed.Goals as goal

pub returns-in-Refuted-clause-none : goal.returns-in-Refuted-clause-none
returns-in-Refuted-clause-none c =
    none_open c.law_derived_clauses_follow.ensures c.law_literals_are_sets.ensures c.args.count (record { conflicts = c.args.conflicts.now; consistent = c.args.sets.now }) c.in_ok-solver.solver c.solve.new.self c.in-Refuted._id c.in_ok-solver.ensures
    c.solve.ensures.kept (subst (IsAnswer c.solve.new.self []) c.in-Refuted.is c.in_ok-_id.ensures.answer)

pub returns-clause-open : goal.returns-clause-open
returns-clause-open c =
    let s : Subsets = record { conflicts = c.args.conflicts.now; consistent = c.args.sets.now } in
    let both = seed_open c.law_derived_clauses_follow.ensures c.law_literals_are_sets.ensures c.args.count s c.in_ok-solver.solver c.solve.new.self c.in-Bits.bits c.in_ok-solver.ensures c.solve.ensures.kept
    (subst (IsAnswer c.solve.new.self []) c.in-Bits.is c.in_ok-_id.ensures.answer) in
    ap (is_open s) c.in_ok-seed-in-Bits.ensures ∙ both.1
