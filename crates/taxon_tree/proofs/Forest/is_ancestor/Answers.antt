use Rattle.std.proofs.Common.{◌∙◌, sym}
use Rattle.taxon_tree.proofs.AncestryLemmas.{Decides-is_ancestor}
use Rattle.taxon_tree.proofs.Forest.is_ancestor.Goals as goal

pub returns : goal.returns
returns c =
    rw (← c.self.view_is)
    (let law = Decides-is_ancestor c.self.inside.nodes c.args.upper c.args.lower in
    (λ yes. law.0 (sym c.is_ancestor.ensures ∙ yes), λ up. c.is_ancestor.ensures ∙ law.1 up))
