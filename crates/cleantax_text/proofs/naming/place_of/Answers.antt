use Rattle.std.proofs.Common.{◌∙◌, sym}
use Rattle.std.specs.Prelude.{bytes_eq}
use Rattle.taxon_tree.proofs.ListLemmas.{position-map}
use Rattle.cleantax_text.proofs.naming.place_of.Goals as goal

pub returns-clause-place : goal.returns-clause-place
returns-clause-place c = c.first_same.ensures.place ∙ sym (position-map (λ v. v.items) (bytes_eq c.args.name.now) c.args.names.now)
