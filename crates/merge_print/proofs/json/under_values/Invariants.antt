use Rattle.std.proofs.Common.{◌≡◌, map, take}
use Rattle.serde_json.specs.View.{view}
use Rattle.merge_print.specs.Json.{two_numbers}
use Rattle.merge_print.proofs.json.under_values.Given as goal

abbrev pub invariant-loop-pair : goal.invariant-loop-pair
invariant-loop-pair l = map view l.list.items ≡ map two_numbers (take l.pair-index l.under)
