use Rattle.std.proofs.Common.{◌≡◌, map, take}
use Rattle.serde_json.specs.View.{view}
use Rattle.merge_print.specs.Json.{class_names}
use Rattle.merge_print.proofs.json.class_values.Given as goal

abbrev pub invariant-loop-place : goal.invariant-loop-place
invariant-loop-place l = map view l.list.items ≡ map (class_names l.problem) (take l.place l.classes)
