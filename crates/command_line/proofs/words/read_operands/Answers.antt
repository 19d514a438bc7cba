use Rattle.std.proofs.Common.{◌∙◌}
use Rattle.command_line.proofs.WordsLemmas.{operands_take}
use Rattle.command_line.proofs.words.read_operands.Goals as goal

pub further-preserved : goal.further-preserved
further-preserved g c =
    c.further.invariant
    ∙ operands_take _ c.args.row.now c.further.operands.items c.push.new.self.items c.args.words.now c.further.word-index c.word-item.result c.in_ok-operand.operand
    c.further-test.true c.word-item.is (rw (← c.as_str.ensures.value, ← c.deref.ensures.value) c.in_ok-operand.ensures.ok) c.in_ok-push.ensures.items
