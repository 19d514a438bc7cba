use Rattle.point_frames.proofs.builder.is_needless.Given as goal

abbrev pub invariant-loop-other : goal.invariant-loop-other
invariant-loop-other l = Unit {0}
