use Rattle.std.proofs.Common.{length, sym, subst}
use Rattle.std.specs.Prelude.{IfSome}
use Rattle.world_model.specs.Problem.{cross_pairs}
use Rattle.point_ladder.specs.Alone.{AreAliveAlone}
use Rattle.mir_report.specs.Steps.{AreCandidates}
use Rattle.mir_report.proofs.Unasked.{told_alive, told_candidates, alive_sets_are_possible}
use Rattle.mir_report.proofs.bare.bare_sets.Goals as goal

pub returns-then-are_whole-clause-sets : goal.returns-then-are_whole-clause-sets
returns-then-are_whole-clause-sets c =
    let p = c.args.problem.now in
    let told = subst (λ found. IfSome found (λ sets. AreAliveAlone p c.cross_count.result sets.items)) c.in-Some.is c.in_ok-alive.ensures in
    alive_sets_are_possible p c.in-Some.alive.items c.facts.ensures.built.valid c.if-are_whole.ensures (told_alive p c.cross_count.result c.in-Some.alive.items c.cross_count.ensures told)

pub ask_among-requires-2-clause-among : goal.ask_among-requires-2-clause-among
ask_among-requires-2-clause-among c =
    let p = c.args.problem.now in
    let told = subst (λ found. IfSome found (λ sets. AreAliveAlone p c.cross_count.result sets.items)) c.in-Some.is c.in_ok-alive.ensures in
    subst (AreCandidates p (length (cross_pairs p))) (sym c.deref-2.ensures.value) (told_candidates p c.cross_count.result c.in-Some.alive.items c.cross_count.ensures told)
