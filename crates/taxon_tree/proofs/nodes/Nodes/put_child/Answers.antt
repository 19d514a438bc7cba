use Rattle.std.proofs.Common.{arith}
use Rattle.taxon_tree.specs.Trees.{IsForest}
use Rattle.taxon_tree.proofs.RowLemmas.{IsForest-with_name, Grown-with_name, length-with_name, IsForest-tried, Grown-tried}
use Rattle.taxon_tree.proofs.nodes.Nodes.put_child.Goals as goal

pub put_under-requires-clause-forest : goal.put_under-requires-clause-forest
put_under-requires-clause-forest c =
    IsForest-with_name c.args.limit c.args.self.now c.args.name.now c.put_name.new.self (omega arith) c.requires.forest c.in_ok-child.ensures.ok

pub put_under-requires-clause-parent : goal.put_under-requires-clause-parent
put_under-requires-clause-parent c =
    omega (arith, c.requires.parent, length-with_name c.args.limit c.args.self.now c.args.name.now c.put_name.new.self c.in_ok-child.ensures.ok)

pub returns-clause-forest : goal.returns-clause-forest
returns-clause-forest c =
    let forest : IsForest c.put_name.new.self = IsForest-with_name c.args.limit c.args.self.now c.args.name.now c.put_name.new.self (omega arith) c.requires.forest c.in_ok-child.ensures.ok in
    let longer = length-with_name c.args.limit c.args.self.now c.args.name.now c.put_name.new.self c.in_ok-child.ensures.ok in
    IsForest-tried c.args.parent c.put_name.new.self c.in_ok-child.child c.put_under.new.self forest c.in_ok-child.ensures.within (omega (arith, c.requires.parent, longer)) c.put_under.result c.put_under.ensures.ok c.put_under.ensures.err

pub returns-clause-grown : goal.returns-clause-grown
returns-clause-grown c = λ start was.
    let forest : IsForest c.put_name.new.self = IsForest-with_name c.args.limit c.args.self.now c.args.name.now c.put_name.new.self (omega arith) c.requires.forest c.in_ok-child.ensures.ok in
    Grown-tried c.args.parent c.put_name.new.self c.in_ok-child.child c.put_under.new.self forest c.in_ok-child.ensures.within start
    (Grown-with_name start c.args.parent c.args.limit c.args.self.now c.args.name.now c.put_name.new.self was c.in_ok-child.ensures.ok)
    c.put_under.result c.put_under.ensures.ok c.put_under.ensures.err
