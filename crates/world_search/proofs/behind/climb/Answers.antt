use Rattle.std.proofs.Common.{refl, sym, ap, ◌∙◌}
use Rattle.rcc5_core.specs.RelationSet.{next_of}
use Rattle.world_search.proofs.LeastNodes.{climb_on, climb_found, climb_none}
use Rattle.world_search.proofs.behind.climb.Goals as goal

pub returns-in-Some-after-clause-next : goal.returns-in-Some-after-clause-next
returns-in-Some-after-clause-next c =
    climb_found c.args.problem.now c.args.path.now c.loop-rel.path c.pop.new.self c.in-Some.rel c.in-Some-after.next c.loop-rel.invariant c.in-Some.ensures.some
    (ap (λ set. next_of set c.in-Some.rel) (sym c.next_set.ensures) ∙ sym c.after.ensures ∙ c.in-Some-after.is)

pub loop-rel-preserved : goal.loop-rel-preserved
loop-rel-preserved c =
    climb_on c.args.problem.now c.args.path.now c.loop-rel.path c.pop.new.self c.in-Some.rel c.loop-rel.invariant c.in-Some.ensures.some
    (ap (λ set. next_of set c.in-Some.rel) (sym c.next_set.ensures) ∙ sym c.after.ensures ∙ c.in_default-after.is)

pub returns-clause-none : goal.returns-clause-none
returns-clause-none c = climb_none c.args.problem.now c.args.path.now c.loop-rel.path c.loop-rel.invariant (c.in_default.ensures.none.0 refl)
