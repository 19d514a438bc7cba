use Rattle.std.proofs.Common.{sym, ◌∙◌, arith}
use Rattle.std.proofs.lemmas.Bool.{ltb-true, ltb-false}
use Rattle.merge_print.proofs.MergeLemmas.{leader_found, leads_itself}
use Rattle.merge_print.proofs.merge.leader.Goals as goal

pub returns-then-are_equal-clause-leader : goal.returns-then-are_equal-clause-leader
returns-then-are_equal-clause-leader c =
    leader_found c.args.problem.now c.args.table.now c.args.concept c.loop-earlier.earlier (omega (arith, ltb-true)) c.loop-earlier.invariant (sym c.are_equal.ensures ∙ c.if-are_equal.true)

pub returns-clause-leader : goal.returns-clause-leader
returns-clause-leader c = leads_itself c.args.problem.now c.args.table.now c.args.concept c.requires.within (λ k h. c.loop-earlier.invariant k (omega (arith, ltb-false)))
