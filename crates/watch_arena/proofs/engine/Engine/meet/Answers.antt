use Rattle.std.proofs.Common.{◌∙◌, sym, true≢false}
use Rattle.watch_arena.proofs.WatchVisit.{Advances-refl}
use Rattle.watch_arena.proofs.ShortClauses.{IsFalse-from_empty}
use Rattle.watch_arena.proofs.engine.Engine.meet.Goals as goal

pub returns-then-not-is_live-clause-advances : goal.returns-then-not-is_live-clause-advances
returns-then-not-is_live-clause-advances c = Advances-refl c.args.self.now c.requires

pub returns-then-not-is_live-clause-outcome : goal.returns-then-not-is_live-clause-outcome
returns-then-not-is_live-clause-outcome c = λ live short. absurd (true≢false (sym live ∙ sym c.if-not-is_live.ensures))

pub returns-then-not-is_short-clause-advances : goal.returns-then-not-is_short-clause-advances
returns-then-not-is_short-clause-advances c = Advances-refl c.args.self.now c.requires

pub returns-then-not-is_short-clause-outcome : goal.returns-then-not-is_short-clause-outcome
returns-then-not-is_short-clause-outcome c = λ live short. absurd (c.if-not-is_short.ensures short)

pub returns-then-len_of-eq0-clause-advances : goal.returns-then-len_of-eq0-clause-advances
returns-then-len_of-eq0-clause-advances c = Advances-refl c.args.self.now c.requires

pub returns-then-len_of-eq0-clause-outcome : goal.returns-then-len_of-eq0-clause-outcome
returns-then-len_of-eq0-clause-outcome c = IsFalse-from_empty c.args.self.now c.args.at (sym c.if-not-is_live.ensures) (sym c.len_of.ensures ∙ c.if-len_of-eq0.true)
