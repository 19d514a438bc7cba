use Rattle.lits_core.proofs.LiteralSets.{same-hints, same-self}
use Rattle.proof_check.proofs.follow.Goals as goal

pub returns : goal.returns
returns c =
    rw (← same-hints c.args.clauses.now c.args.clauses.now c.args.hints.now c.hold_all.new.self c.args.lits.now (same-self c.args.clauses.now) c.in_ok-hold_all.ensures) c.follow_hints.ensures
