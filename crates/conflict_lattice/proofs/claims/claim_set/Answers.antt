use Rattle.std.proofs.Common.{sym, subst}
use Rattle.world_model.specs.Questions.{IsConsistent}
use Rattle.conflict_min.proofs.Claims.{untouched}
use Rattle.conflict_lattice.specs.Rounds.{IsJudged}
use Rattle.conflict_lattice.proofs.Claiming.{no_clash}
use Rattle.conflict_lattice.proofs.claims.claim_set.Goals as goal

pub returns-in_err-family-clause-keeps : goal.returns-in_err-family-clause-keeps
returns-in_err-family-clause-keeps g c =
    untouched _ c.from_residual.result c.args.problem.now _ (g.L.TreeLog.lines c.args.log.now) c.args.asker.now c.from_residual.ensures.1

pub returns-in_err-kept-in-Met-clause-keeps : goal.returns-in_err-kept-in-Met-clause-keeps
returns-in_err-kept-in-Met-clause-keeps g c =
    untouched _ c.from_residual-in_err-kept-in-Met.result c.args.problem.now _ (g.L.TreeLog.lines c.args.log.now) c.args.asker.now c.from_residual-in_err-kept-in-Met.ensures.1

pub unreachable-requires : goal.unreachable-requires
unreachable-requires g c =
    let p = c.args.problem.now in
    let flags = c.flags.result.now in
    no_clash p flags _ (subst (IsConsistent p) (sym c.flags.ensures) c.requires.maximal.consistent) (subst (IsJudged p flags) c.in-Clash.is c.in_ok-family.ensures.answer)
