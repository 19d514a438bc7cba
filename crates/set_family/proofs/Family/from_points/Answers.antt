use Rattle.std.proofs.Common.{◌≡◌, true, subst, sym}
use Rattle.std.specs.List.{list_all, range_with_len}
use Rattle.set_family.specs.Sets.{is_set_below}
use Rattle.set_family.proofs.SetLists.{sets_more, all_places_are_sets}
use Rattle.set_family.proofs.Family.from_points.Goals as goal
use Rattle.std.proofs.Common.{length}

pub loop-concept-preserved : goal.loop-concept-preserved
loop-concept-preserved c =
    sets_more (λ v. v.items) c.args.points.now c.loop-concept.concept c.loop-concept.sets.items c.push.new.self.items c.in_ok-places.places
    c.loop-concept.invariant c.in_ok-push.ensures.items c.in_ok-places.ensures

pub invariant_of-result : goal.invariant_of-result
invariant_of-result c =
    subst (λ sets. list_all (is_set_below (length c.args.points.now)) sets ≡ true) (sym c.loop-concept.invariant) (all_places_are_sets c.args.points.now (range_with_len 0 c.loop-concept.concept))
