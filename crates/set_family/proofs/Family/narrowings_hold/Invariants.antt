use Rattle.std.proofs.Common.{◌≡◌, drop}
use Rattle.std.specs.List.{list_all}
use Rattle.world_model.specs.Family.{holds}
use Rattle.set_family.proofs.Family.narrowings_hold.Given as goal

-- the answer for the narrowings that are left is that for all
abbrev pub invariant-loop-index : goal.invariant-loop-index
invariant-loop-index l = list_all (holds l.self) (drop l.index l.problem.narrowings) ≡ list_all (holds l.self) l.problem.narrowings
