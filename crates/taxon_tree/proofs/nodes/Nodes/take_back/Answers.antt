use Rattle.std.proofs.Common.{◌≡◌, ◌<◌, ◌∙◌, ap, length, arith}
use Rattle.std.proofs.lemmas.List.{length-set}
use Rattle.taxon_tree.specs.Trees.{children_of}
use Rattle.taxon_tree.specs.Undo.{first_concepts}
use Rattle.taxon_tree.proofs.GrownLemmas.{first_concepts-Grown, Grown-without_last_child, length-children_of-Grown, children_within-without_last_child}
use Rattle.taxon_tree.proofs.nodes.Nodes.take_back.Goals as goal

pub loop-self-preserved : goal.loop-self-preserved
loop-self-preserved c =
    let more : c.args.kept < length (children_of c.loop-self.self c.args.parent) = omega (arith, ap length c.children.ensures, c.loop-self-test.true) in
    rw c.unlink_last.ensures (record {
      parent_within = omega (arith, c.loop-self.invariant.parent_within, length-set c.loop-self.self.children c.args.parent);
      children_within = children_within-without_last_child c.loop-self.self c.args.parent c.loop-self.invariant.parent_within c.loop-self.invariant.children_within;
      grown = λ start h p_in kept was. Grown-without_last_child start c.args.parent h p_in (c.loop-self.invariant.grown start h p_in kept was) (omega arith);
    })

pub returns : goal.returns
returns c = λ start h p_in grown n_is kept_is.
    let g = c.loop-self.invariant.grown start h p_in kept_is grown in
    let same : length (children_of c.loop-self.self c.args.parent) ≡ length (children_of start c.args.parent) =
    omega (arith, length-children_of-Grown start c.args.parent h p_in g, ap length c.children.ensures, c.loop-self-test.false) in
    c.keep_first.ensures ∙ ap (λ m. first_concepts m c.loop-self.self) n_is ∙ first_concepts-Grown start c.args.parent h p_in g same
