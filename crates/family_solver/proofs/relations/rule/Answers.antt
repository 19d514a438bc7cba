use Rattle.std.proofs.Common.{sym, subst, arith}
use Rattle.std.specs.Prelude.{Contains, IsTrue}
use Rattle.rcc5_core.specs.RelationSet.{has}
use Rattle.rcc5_core.specs.declared.Rel.{Rel}
use Rattle.rcc5_core.specs.declared.Rel.TheVariants.{Disjoint, Equals, IncludedIn, Includes, Overlaps}
use Rattle.point_encode.specs.Model.Clauses.{is_so}
use Rattle.watch_arena.specs.Trails.{AreInRange}
use Rattle.family_solver.specs.Showing.{rel_variable, variable_count}
use Rattle.family_solver.proofs.relations.rule.Goals as goal

pub returns : goal.returns
returns c = record {
  each = each;
  range = c.in_ok-push_rel-5.ensures.range (c.in_ok-push_rel-4.ensures.range (c.in_ok-push_rel-3.ensures.range (c.in_ok-push_rel-2.ensures.range (c.in_ok-push_rel.ensures.range
      (subst (λ ls. AreInRange ls (variable_count c.args.ground.now)) (sym c.new-lits.ensures.items) (λ lit there. absurd (omega (arith, there.1))))))));
}
  where
    each : (rel : Rel) → IsTrue (has c.args.set rel) → Contains c.push_rel-5.new.lits.items (is_so (rel_variable c.args.ground.now c.args.place rel))
    each Equals h = c.in_ok-push_rel-5.ensures.stay _ (c.in_ok-push_rel-4.ensures.stay _ (c.in_ok-push_rel-3.ensures.stay _ (c.in_ok-push_rel-2.ensures.stay _ (c.in_ok-push_rel.ensures.there h))))
    each Includes h = c.in_ok-push_rel-5.ensures.stay _ (c.in_ok-push_rel-4.ensures.stay _ (c.in_ok-push_rel-3.ensures.stay _ (c.in_ok-push_rel-2.ensures.there h)))
    each IncludedIn h = c.in_ok-push_rel-5.ensures.stay _ (c.in_ok-push_rel-4.ensures.stay _ (c.in_ok-push_rel-3.ensures.there h))
    each Overlaps h = c.in_ok-push_rel-5.ensures.stay _ (c.in_ok-push_rel-4.ensures.there h)
    each Disjoint h = c.in_ok-push_rel-5.ensures.there h
