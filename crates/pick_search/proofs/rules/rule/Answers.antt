use Rattle.std.proofs.Common.{◌+◌, ◌*◌, sym, subst, arith}
use Rattle.std.specs.Prelude.{Contains, IsTrue}
use Rattle.rcc5_core.specs.RelationSet.{has}
use Rattle.rcc5_core.specs.declared.Rel.{Rel}
use Rattle.rcc5_core.specs.declared.Rel.TheVariants.{Disjoint, Equals, IncludedIn, Includes, Overlaps}
use Rattle.point_encode.specs.Model.Clauses.{is_so}
use Rattle.watch_arena.specs.Trails.{AreInRange}
use Rattle.pick_search.specs.Picking.{pick_variable}
use Rattle.pick_search.proofs.rules.rule.Goals as goal

pub returns : goal.returns
returns c = record {
  each = each;
  range = c.in_ok-push_if-5.ensures.range (c.in_ok-push_if-4.ensures.range (c.in_ok-push_if-3.ensures.range (c.in_ok-push_if-2.ensures.range (c.in_ok-push_if.ensures.range
      (subst (λ ls. AreInRange ls (5 * c.args.place + 5)) (sym c.new-lits.ensures.items) (λ lit there. absurd (omega (arith, there.1))))))));
}
  where
    each : (rel : Rel) → IsTrue (has c.args.set rel) → Contains c.push_if-5.new.lits.items (is_so (pick_variable c.args.place rel))
    each Equals h = c.in_ok-push_if-5.ensures.stay _ (c.in_ok-push_if-4.ensures.stay _ (c.in_ok-push_if-3.ensures.stay _ (c.in_ok-push_if-2.ensures.stay _ (c.in_ok-push_if.ensures.there h))))
    each Includes h = c.in_ok-push_if-5.ensures.stay _ (c.in_ok-push_if-4.ensures.stay _ (c.in_ok-push_if-3.ensures.stay _ (c.in_ok-push_if-2.ensures.there h)))
    each IncludedIn h = c.in_ok-push_if-5.ensures.stay _ (c.in_ok-push_if-4.ensures.stay _ (c.in_ok-push_if-3.ensures.there h))
    each Overlaps h = c.in_ok-push_if-5.ensures.stay _ (c.in_ok-push_if-4.ensures.there h)
    each Disjoint h = c.in_ok-push_if-5.ensures.there h
