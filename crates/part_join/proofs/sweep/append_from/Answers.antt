use Rattle.std.proofs.Common.{rules, not}
use Rattle.std.specs.Prelude.{filter}
use Rattle.std.proofs.lemmas.Fn.{filter_same}
use Rattle.world_model.specs.Listing.{is_below}
use Rattle.part_join.proofs.SweepLemmas.{appended}
use Rattle.part_join.proofs.sweep.append_from.Goals as goal

pub returns : goal.returns
returns c =
    appended c.append.result c.append.new.self.items c.args.worlds.now.items c.retain.new.self.items (filter (λ t. not (is_below t c.args.reach.now)) c.args.more.items)
    c.append.ensures.items (filter_same _ (λ t. not (is_below t c.args.reach.now)) _ (λ x b f' k. search rules) _ _ c.retain.ensures.filtered)
