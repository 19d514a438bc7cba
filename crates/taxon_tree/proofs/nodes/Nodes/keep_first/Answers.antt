use Rattle.std.proofs.Common.{◌∙◌, sym, ap, map}
use Rattle.std.proofs.lemmas.List.{take-map}
use Rattle.taxon_tree.proofs.ListLemmas.{same_trees}
use Rattle.taxon_tree.proofs.nodes.Nodes.keep_first.Goals as goal

pub returns : goal.returns
returns c =
    rw (← c.self.view_is) (same_trees _ _
    (ap (map (λ v. v.items)) c.truncate.ensures.keys ∙ sym (take-map (λ v. v.items) c.args.n c.self.inside.names.keys))
    c.truncate-2.ensures.items
    (ap (map (λ v. v.items)) c.truncate-3.ensures.items ∙ sym (take-map (λ v. v.items) c.args.n c.self.inside.children.items)))
