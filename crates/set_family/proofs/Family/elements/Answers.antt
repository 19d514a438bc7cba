use Rattle.std.proofs.Common.{◌<◌, length, map, arith}
use Rattle.std.proofs.lemmas.List.{length-map}
use Rattle.set_family.proofs.SetLists.{ascending_in}
use Rattle.set_family.proofs.Family.elements.Goals as goal

pub returns-then-i-len-clause-ascending : goal.returns-then-i-len-clause-ascending
returns-then-i-len-clause-ascending c =
    let within : c.args.i < length (map (λ v. v.items) c.self.inside.sets.items) = omega (arith, length-map c.self.inside.sets.items (λ v. v.items)) in
    ascending_in (λ v. v.items) c.self.inside.universe c.args.i c.self.inside.sets.items c.index.result.now c.as_slice.result.now
    within c.self.invariant c.index.ensures c.as_slice.ensures.value
