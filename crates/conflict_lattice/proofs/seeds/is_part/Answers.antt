use Rattle.std.proofs.Common.{inl, inr, sym, ◌∙◌}
use Rattle.conflict_lattice.proofs.Seeding.{no_part, part_on}
use Rattle.conflict_lattice.proofs.seeds.is_part.Goals as goal
use Rattle.conflict_lattice.proofs.seeds.is_part.Goals.{else-flag_at-via-then-flag_at+else-not-flag_at, else-flag_at-via-else-flag_at}

pub returns-then-not-flag_at : goal.returns-then-not-flag_at
returns-then-not-flag_at c =
    sym (no_part c.args.few.now c.args.more.now c.loop-place.place c.loop-place-test.true (sym c.flag_at.ensures ∙ c.if-flag_at.true) (sym c.flag_at-then-flag_at.ensures ∙ c.if-not-flag_at.true))

pub loop-place-preserved : goal.loop-place-preserved
loop-place-preserved c =
    part_on c.args.few.now c.args.more.now c.loop-place.place c.loop-place-test.true c.loop-place.invariant (elim c.else-flag_at.branch [
      | else-flag_at-via-then-flag_at+else-not-flag_at w ↦ inr (sym w.flag_at-then-flag_at.ensures ∙ w.if-not-flag_at.false)
      | else-flag_at-via-else-flag_at w ↦ inl (sym c.flag_at.ensures ∙ w.if-flag_at.false)
    ])
