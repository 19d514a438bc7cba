use Rattle.std.proofs.Common.{List, subst, ◌*◌, ◌-◌, ◌≤◌, arith}
use Rattle.std.proofs.Math.Nat.{mul-le-mul}
use Rattle.taxon_tree.specs.Trees.{Trees}
use Rattle.world_model.specs.Problem.{concept_count}
use Rattle.constraint_set.specs.Facts.{IsMadeOf, IsBuilt}
use Rattle.constraint_set.proofs.Keeping.{built}
use Rattle.constraint_set.proofs.problem.Problem.facts.Goals as goal

pub returns-clause-built : goal.returns-clause-built
returns-clause-built c =
    subst IsBuilt c.self.view_is (built _ _ _ _ _ (subst (λ p. (forests : List Trees) × IsMadeOf p forests) c.deref.ensures c.facts.ensures.made) c.self.invariant)

pub returns-clause-pairs : goal.returns-clause-pairs
returns-clause-pairs c =
    let p = c.args.self.now in
    let n = concept_count p in
    let few : n ≤ 1024 = (returns-clause-built c).concepts in
    let less : n - 1 ≤ 1023 = omega arith in
    let most : n * (n - 1) ≤ 1024 * 1023 = mul-le-mul few less in
    omega (arith, c.pairs_stand_once.ensures.number p, most)

pub returns-clause-concepts : goal.returns-clause-concepts
returns-clause-concepts c = (returns-clause-built c).concepts
