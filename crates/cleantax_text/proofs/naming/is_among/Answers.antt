use Rattle.std.proofs.Common.{◌∙◌, sym}
use Rattle.std.specs.Prelude.{bytes_eq}
use Rattle.taxon_tree.proofs.ListLemmas.{list_any-map}
use Rattle.cleantax_text.proofs.naming.is_among.Goals as goal

pub returns : goal.returns
returns c = c.has_same.ensures ∙ sym (list_any-map (λ v. v.items) (bytes_eq c.args.name.now) c.args.names.now)
