use Rattle.watch_arena.proofs.WatchVisit.{ImpliesMore-trans}
use Rattle.watch_arena.proofs.ShortClauses.{IsDone-from, outcome_done}
use Rattle.watch_arena.specs.Engines.{IsFalse}
use Rattle.watch_arena.proofs.engine.Engine.propagate.Goals as goal

pub returns-in-None-clause-implies : goal.returns-in-None-clause-implies
returns-in-None-clause-implies c = ImpliesMore-trans c.args.self.now c.meet_all.new.self c.advance_all.new.self c.meet_all.ensures.implies c.advance_all.ensures.advances.implies

pub returns-in-None-clause-outcome : goal.returns-in-None-clause-outcome
returns-in-None-clause-outcome c =
    outcome_done (λ at. IsFalse c.advance_all.new.self at) c.advance_all.result (IsDone-from c.meet_all.new.self c.advance_all.new.self c.advance_all.ensures.advances c.in-None.ensures.outcome) c.advance_all.ensures.outcome
