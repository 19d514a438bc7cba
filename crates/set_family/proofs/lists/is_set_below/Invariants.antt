use Rattle.std.proofs.Common.{◌≡◌, drop}
use Rattle.set_family.specs.Sets.{is_set_below}
use Rattle.set_family.proofs.SetLists.{is_set_from}
use Rattle.set_family.proofs.lists.is_set_below.Given as goal

-- what is left has to be a set of numbers from the least on
abbrev pub invariant-loop-number : goal.invariant-loop-number
invariant-loop-number l = is_set_from l.least l.u (drop l.number-index l.list) ≡ is_set_below l.u l.list
