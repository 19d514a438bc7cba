use Rattle.std.proofs.Common.{◌∷◌, [], map, ap, ◌∙◌, codes, arith}
use Rattle.std.proofs.lemmas.List.{map-append}
use Rattle.trial_run.specs.Names.{block_name, single_name}
use Rattle.trial_run.proofs.Listed.{number_more}
use Rattle.trial_run.proofs.taxonomy.top_row.Goals as goal

pub loop-number-preserved : goal.loop-number-preserved
loop-number-preserved c =
    let new = ap (map (λ name. name.items)) c.in_ok-push-3.ensures.items ∙ map-append (λ name. name.items) c.loop-number.row.items (c.in_ok-single_name.field-0 ∷ []) in
    number_more single_name (codes "r" ∷ map (λ block. block_name block.number) c.args.blocks.now) _ _ c.loop-number.number _ (omega arith) c.loop-number.invariant new c.in_ok-single_name.ensures
