use Rattle.std.proofs.Common.{ap, sym, subst, ◌∙◌}
use Rattle.std.specs.Str.{IsUtf8}
use Rattle.merge_print.proofs.JsonLemmas.{utf8_at}
use Rattle.merge_print.proofs.json.text_values.Goals as goal

pub as_text-requires : goal.as_text-requires
as_text-requires c =
    subst IsUtf8 (sym (c.deref.ensures.value ∙ ap (λ v. v.items) c.name-item.is))
    (utf8_at (λ v. v.items) c.args.names.now c.loop-name.name-index c.name-item.result c.loop-name-test.true c.requires)
