use Rattle.std.proofs.Common.{◌∙◌, sym, ap, subst, arith}
use Rattle.taxon_tree.specs.Trees.{IsForest}
use Rattle.taxon_tree.specs.Undo.{first_concepts}
use Rattle.taxon_tree.proofs.RowLemmas.{IsForest-with_name, add_row-first, first_concepts-with_name}
use Rattle.taxon_tree.proofs.nodes.Nodes.add_row.Goals as goal

pub put_children-requires-clause-forest : goal.put_children-requires-clause-forest
put_children-requires-clause-forest c = IsForest-with_name c.args.limit c.args.self.now c.as_slice.result.now c.put_name.new.self (omega arith) c.requires.forest c.in_ok-parent.ensures.ok

pub returns-in-Err-clause-fault : goal.returns-in-Err-clause-fault
returns-in-Err-clause-fault c = λ named.
    add_row-first (λ v. v.items) c.args.limit c.args.self.now c.args.names.now c.index-names-0.result c.requires.some c.as_slice.result.now
    (c.as_slice.ensures.value ∙ ap (λ v. v.items) c.index-names-0.is) c.put_name.new.self c.in_ok-parent.ensures.ok c.in_ok-parent.parent c.in_ok-parent.ensures.number
    ∙ c.in-Err.ensures.fault named

pub returns-in-Err-clause-err : goal.returns-in-Err-clause-err
returns-in-Err-clause-err c =
    c.keep_first.ensures
    ∙ ap (first_concepts c.len-n.result) c.in-Err.ensures.err
    ∙ ap (λ n. first_concepts n c.put_name.new.self) c.len-n.ensures
    ∙ first_concepts-with_name c.args.limit c.args.self.now c.as_slice.result.now c.put_name.new.self c.requires.forest c.in_ok-parent.ensures.ok

pub returns-in-Err-clause-forest : goal.returns-in-Err-clause-forest
returns-in-Err-clause-forest c = subst IsForest (sym (returns-in-Err-clause-err c)) c.requires.forest

pub returns-clause-ok : goal.returns-clause-ok
returns-clause-ok c =
    add_row-first (λ v. v.items) c.args.limit c.args.self.now c.args.names.now c.index-names-0.result c.requires.some c.as_slice.result.now
    (c.as_slice.ensures.value ∙ ap (λ v. v.items) c.index-names-0.is) c.put_name.new.self c.in_ok-parent.ensures.ok c.in_ok-parent.parent c.in_ok-parent.ensures.number
    ∙ c.in_default.ensures.ok
