use Rattle.std.proofs.Common.{◌∙◌, sym, ap, refl, arith}
use Rattle.taxon_tree.specs.Row.{add_child}
use Rattle.taxon_tree.specs.Undo.Grown.{same}
use Rattle.taxon_tree.proofs.GrownLemmas.{length-names-Grown}
use Rattle.taxon_tree.proofs.RowLemmas.{add_children-further}
use Rattle.taxon_tree.proofs.nodes.Nodes.put_children.Goals as goal

pub loop-name-init : goal.loop-name-init
loop-name-init c = record { forest = c.requires.forest; parent_within = c.requires.parent; grown = same; rest = refl }

pub take_back-requires-clause-parent : goal.take_back-requires-clause-parent
take_back-requires-clause-parent c =
    let longer = length-names-Grown c.args.self.now c.args.parent c.requires.forest c.requires.parent (c.in-Err.ensures.grown c.args.self.now c.loop-name.invariant.grown) in
    omega (arith, longer, c.requires.parent)

pub loop-name-preserved : goal.loop-name-preserved
loop-name-preserved c =
    let grown = c.in_default.ensures.grown c.args.self.now c.loop-name.invariant.grown in
    let longer = length-names-Grown c.args.self.now c.args.parent c.requires.forest c.requires.parent grown in
    let item = ap (λ v. v.items) (sym c.name-item.is) ∙ sym c.deref.ensures.value in
    record {
      forest = c.in_default.ensures.forest;
      parent_within = omega (arith, longer, c.requires.parent);
      grown = grown;
      rest = sym (add_children-further (λ v. v.items) c.args.limit c.args.parent c.loop-name.self c.args.names.now c.loop-name.name-index c.name-item.result c.loop-name-test.true c.put_child.new.self
          (ap (add_child c.args.limit c.args.parent c.loop-name.self) item ∙ c.in_default.ensures.ok))
          ∙ c.loop-name.invariant.rest;
    }
