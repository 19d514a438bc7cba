use Rattle.std.proofs.Common.{map, ap, ◌∙◌}
use Rattle.merge_print.proofs.JsonLemmas.{utf8_concepts}
use Rattle.merge_print.proofs.json.class_names.Goals as goal

pub texts-requires : goal.texts-requires
texts-requires c =
    utf8_concepts c.args.problem.now _ c.args.class.now c.requires.names (ap (map (λ v. v.items)) c.deref.ensures.value ∙ c.in_ok-class_names.ensures)
