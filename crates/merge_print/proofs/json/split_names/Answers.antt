use Rattle.std.proofs.Common.{map, ap, ◌∙◌}
use Rattle.merge_print.proofs.JsonLemmas.{utf8_parts}
use Rattle.merge_print.proofs.json.split_names.Goals as goal

pub texts-requires : goal.texts-requires
texts-requires c =
    utf8_parts c.args.problem.now _ c.args.pair c.requires.names (ap (map (λ v. v.items)) c.deref.ensures.value ∙ c.in_ok-part_names.ensures)
