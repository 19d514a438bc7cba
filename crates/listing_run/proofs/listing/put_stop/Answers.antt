use Rattle.std.proofs.Common.{◌∷◌, [], Some}
use Rattle.world_search.specs.Searching.{Came}
use Rattle.world_search.specs.Steps.{StandsBehind}
use Rattle.listing_run.proofs.ListingLemmas.{stop_world}
use Rattle.listing_run.proofs.listing.put_stop.Goals as goal

pub unreachable-requires : goal.unreachable-requires
unreachable-requires g c =
    let met : Came c.args.search.now c.next_met.new.search (Some 0) c.next_met.new.nodes.left (c.in-World.field-0 ∷ []) × StandsBehind c.next_met.new.search c.in-World.field-0 =
    rw c.in-World.is at c.in_ok-node.ensures.met.met in
    absurd (stop_world c.args.search.now c.next_met.new.search c.next_met.new.nodes.left c.in-World.field-0 met.0)
