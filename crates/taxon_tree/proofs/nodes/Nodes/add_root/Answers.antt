use Rattle.std.proofs.Common.{◌∙◌, ap, map, is_ok, if◌then◌else◌, ◌++◌, ◌∷◌, [], None}
use Rattle.std.proofs.lemmas.List.{map-append}
use Rattle.taxon_tree.specs.Trees.{number_of}
use Rattle.taxon_tree.proofs.ListLemmas.{same_trees, inserted_new}
use Rattle.taxon_tree.proofs.nodes.Nodes.add_root.Goals as goal

pub returns-clause-ok : goal.returns-clause-ok
returns-clause-ok c =
    rw (← c.self.view_is) (same_trees _ _
    (ap (map (λ v. v.items)) c.in_ok-insert.ensures.keys
    ∙ inserted_new (λ v. v.items) c.self.inside.names.keys c.in_ok-name.name c.args.name.now c.in_ok-name.ensures.items (ap (λ f. number_of f c.args.name.now) c.self.view_is ∙ c.requires))
    (c.push.ensures.items
    ∙ ap (λ r. if is_ok r then c.reserve.new.self.items ++ None ∷ [] else c.reserve.new.self.items) c.unwrap.ensures
    ∙ ap (λ l. l ++ None ∷ []) c.reserve.ensures.items)
    (ap (map (λ v. v.items)) (c.push-2.ensures.items
    ∙ ap (λ r. if is_ok r then c.reserve-2.new.self.items ++ c.new.result ∷ [] else c.reserve-2.new.self.items) c.unwrap-2.ensures
    ∙ ap (λ l. l ++ c.new.result ∷ []) c.reserve-2.ensures.items)
    ∙ map-append (λ v. v.items) c.self.inside.children.items (c.new.result ∷ [])
    ∙ ap (λ l. map (λ v. v.items) c.self.inside.children.items ++ l ∷ []) c.new.ensures.items))
