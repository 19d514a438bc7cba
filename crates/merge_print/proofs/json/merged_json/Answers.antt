use Rattle.std.proofs.Common.{◌≡◌, false}
use Rattle.serde_json.specs.View.{view}
use Rattle.serde_json.specs.Written.{has_float, compact_text}
use Rattle.merge_print.specs.Json.{merged_json}
use Rattle.merge_print.proofs.JsonLemmas.{json_text}
use Rattle.merge_print.proofs.MergeLemmas.{if_ok}
use Rattle.merge_print.proofs.json.merged_json.Goals as goal

pub returns : goal.returns
returns c =
    if_ok (λ b. has_float (view c.in_ok-merged_value.field-0) ≡ false → b.items ≡ compact_text (view c.in_ok-merged_value.field-0))
    (λ text. text.items ≡ merged_json c.args.problem.now c.args.taxonomy.now) c.to_vec.result
    (λ text h. json_text c.args.problem.now c.args.taxonomy.now (view c.in_ok-merged_value.field-0) text.items c.in_ok-merged_value.ensures h) c.to_vec.ensures.text
