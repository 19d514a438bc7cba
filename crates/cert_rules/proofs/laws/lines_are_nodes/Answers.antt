use Rattle.std.proofs.Common.{[], subst}
use Rattle.world_model.proofs.OrderLists.{Between, between_parts, between_from, members_from}
use Rattle.cert_rules.specs.Listings.{Going, header_fault, listing_tree, start, steps}
use Rattle.cert_rules.specs.ShownNodes.{IsShownNode, visited}
use Rattle.cert_rules.proofs.Headers.{no_fault, room, first_is_sound}
use Rattle.cert_rules.proofs.Visits.{IsSeenStatus, steps_seen, none_seen, not_below_empty}
use Rattle.cert_rules.proofs.laws.lines_are_nodes.Goals as goal

pub returns : goal.returns
returns c = λ p built switches from lines listed e alive.
    let parts = no_fault (header_fault p switches from) 1 (steps (listing_tree p from) (Going 1 (start p)) lines) listed e in
    let first = none_seen p from (first_is_sound p from built (room p switches from parts.0)) in
    let seen = steps_seen p from (Going 1 (start p)) [] lines first alive in
    let exact = subst (λ status. IsSeenStatus p from status (visited (listing_tree p from) (Going 1 (start p)) lines)) parts.1 seen in
    let nodes = visited (listing_tree p from) (Going 1 (start p)) lines in
    record {
      ascending = exact.ascending;
      members = λ m. let each = members_from (Between (IsShownNode p from) [] listed.to) nodes exact m in
          (λ there_is. let w = each.0 there_is in (w.0, (between_parts [] listed.to m w.1).1), λ w. each.1 (w.0, between_from [] listed.to m (not_below_empty m) w.1));
    }
