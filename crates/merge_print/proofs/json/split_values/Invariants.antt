use Rattle.std.proofs.Common.{◌≡◌, map, take}
use Rattle.serde_json.specs.View.{view}
use Rattle.merge_print.specs.Json.{split_names}
use Rattle.merge_print.proofs.json.split_values.Given as goal

abbrev pub invariant-loop-pair : goal.invariant-loop-pair
invariant-loop-pair l = map view l.list.items ≡ map (split_names l.problem) (take l.pair-index l.splits)
