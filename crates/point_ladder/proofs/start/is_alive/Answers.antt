use Rattle.std.proofs.Common.{sym, ◌∙◌}
use Rattle.point_ladder.proofs.FirstFrame.{alive_at_start}
use Rattle.point_ladder.proofs.start.is_alive.Goals as goal

pub returns : goal.returns
returns c =
    let both = alive_at_start c.args.problem.now c.args.frame.now (sym c.all_allow.ensures ∙ c.if-not-all_allow.false) c.requires.frame in
    (λ h. both.0 (c.is_alive.ensures.0 h), λ a. c.is_alive.ensures.1 (both.1 a))
