use Rattle.std.proofs.Common.{◌∙◌, ◌-◌, ◌++◌, ap, take, length, []}
use Rattle.std.specs.Option.{option_to_list}
use Rattle.taxon_tree.proofs.ListLemmas.{map-set_changed, taken_last}
use Rattle.taxon_tree.proofs.nodes.pop_at.Goals as goal

pub returns-clause-rest : goal.returns-clause-rest
returns-clause-rest c =
    map-set_changed (λ v. v.items) [] (λ l. take (length l - 1) l) c.args.lists.now c.args.at c.index-lists-at.result c.pop.new.self c.requires.within
    (taken_last _ c.pop.new.self.items c.unwrap.result (c.pop.ensures.items ∙ ap (λ o. c.pop.new.self.items ++ option_to_list o) c.unwrap.ensures))
