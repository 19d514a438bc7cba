use Rattle.std.proofs.Common.{◌≡◌, ◌∙◌, true, false}
use Rattle.clause_arena.specs.Records.{record_at}
use Rattle.watch_arena.proofs.MovedWatch.{IsAt-walking, IsEntry-at}
use Rattle.watch_arena.proofs.ChainWalk.{IsWalking-dead}
use Rattle.watch_arena.proofs.engine.Engine.visit.Goals as goal

pub is_live-requires : goal.is_live-requires
is_live-requires c = (IsEntry-at c.args.self.now c.args.lit c.args.prev.now c.args.entry c.requires.sound c.requires.range (IsAt-walking c.args.self.now c.args.lit c.args.prev.now c.args.entry c.requires.walking)).within

pub returns-else-is_live-clause-outcome : goal.returns-else-is_live-clause-outcome
returns-else-is_live-clause-outcome c =
    let off : false ≡ (record_at c.args.self.now.arena c.args.entry.at).live = c.if-is_live.ensures in
    IsWalking-dead c.args.self.now c.args.lit c.args.prev.now c.args.entry (IsAt-walking c.args.self.now c.args.lit c.args.prev.now c.args.entry c.requires.walking)
    (λ on. absurd (let clash : false ≡ true = off ∙ on in cc))
