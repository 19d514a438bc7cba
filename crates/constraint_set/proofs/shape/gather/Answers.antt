use Rattle.std.proofs.Common.{arith}
use Rattle.constraint_set.proofs.Gathering.{gathered_more, gathered_room, forests_more}
use Rattle.constraint_set.proofs.shape.gather.Goals as goal

pub overflow_cast-which : goal.overflow_cast-which
overflow_cast-which c = omega (arith, c.requires.eight, c.loop-which-test.true)

pub add_forest-requires : goal.add_forest-requires
add_forest-requires c =
    gathered_room c.args.forests.now c.loop-which.which c.index-forests-which.result c.loop-which-test.true c.index-forests-which.is c.requires.few c.loop-which.all c.loop-which.invariant.concepts

pub loop-which-preserved : goal.loop-which-preserved
loop-which-preserved c = record {
  concepts = gathered_more c.args.forests.now c.loop-which.which c.index-forests-which.result c.loop-which-test.true c.index-forests-which.is c.loop-which.all c.add_forest.new.self c.loop-which.invariant.concepts c.in_ok-add_forest.ensures.ok;
  forests = forests_more c.args.forests.now c.loop-which.which c.index-forests-which.result c.loop-which-test.true c.index-forests-which.is c.in_ok-add_forest.ensures.forest c.loop-which.invariant.forests;
}
