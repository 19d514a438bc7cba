use Rattle.std.proofs.Common.{sym, ◌∙◌, subst, rules}
use Rattle.world_walk.specs.Ways.{IsWay, WentOn}
use Rattle.world_walk.proofs.WentOn.{stays}
use Rattle.world_walk.proofs.way.step.Goals as goal
use Rattle.world_walk.proofs.way.step.Goals.{then-patience+in_ok-retreat+else-branch, else-patience}

pub returns-in_err-set-clause-went : goal.returns-in_err-set-clause-went
returns-in_err-set-clause-went c = subst (WentOn c.args.way.now) (sym c.next_set.ensures.same) (stays c.args.way.now c.requires.way c.requires.standing)

-- a retreat that was not made leaves the way as it was
pub enter-requires-2-clause-way : goal.enter-requires-2-clause-way
enter-requires-2-clause-way c =
    let before : IsWay c.next_set.new.way = subst IsWay (sym c.next_set.ensures.same) c.requires.way in
    elim c.if-patience.branch [
      | then-patience+in_ok-retreat+else-branch w ↦ subst IsWay (sym (w.way'-is ∙ w.in_ok-retreat.ensures.stayed (search rules))) before
      | else-patience w ↦ subst IsWay (sym w.way'-is) before
    ]
