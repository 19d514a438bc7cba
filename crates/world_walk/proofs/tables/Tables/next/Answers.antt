use Rattle.std.proofs.Common.{refl, subst}
use Rattle.world_walk.specs.Ways.{problem_of, at_of, told_of}
use Rattle.world_walk.specs.Tables.{tables_of, PassedTold}
use Rattle.world_walk.proofs.HasBegun.{same_lists, still_for, at_world, if_found}
use Rattle.world_walk.proofs.tables.Tables.next.Goals as goal

pub invariant_of-self : goal.invariant_of-self
invariant_of-self c = still_for c.self.inside.problem c.self.inside.way c.next_world.new.way c.self.invariant c.next_world.ensures.problem c.next_world.ensures.way

pub returns-clause-passed : goal.returns-clause-passed
returns-clause-passed c =
    let p = c.self.inside.problem in
    let old = c.self.inside.way in
    let new = c.next_world.new.way in
    subst (λ v. PassedTold v (tables_of p new)) c.self.view_is (record {
      problem = refl;
      passed = same_lists p (problem_of old) c.self.invariant.worlds (at_of old) (at_of new) (told_of old) c.next_world.ensures.passed;
    })

pub returns-clause-world : goal.returns-clause-world
returns-clause-world c =
    let p = c.self.inside.problem in
    let new = c.next_world.new.way in
    if_found c.next_world.result c.next_world.ensures.world
    (at_world p new (still_for p c.self.inside.way new c.self.invariant c.next_world.ensures.problem c.next_world.ensures.way))
