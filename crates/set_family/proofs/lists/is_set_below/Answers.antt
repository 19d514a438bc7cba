use Rattle.std.proofs.Common.{arith, sym, ◌∙◌}
use Rattle.set_family.proofs.SetLists.{set_start, set_step, set_step_low, set_step_high, set_end}
use Rattle.set_family.proofs.lists.is_set_below.Goals as goal
use Rattle.set_family.proofs.lists.is_set_below.Goals.{then-number-least-via-then-number-least, then-number-least-via-else-number-least+then-number-u}

pub loop-number-init : goal.loop-number-init
loop-number-init c = set_start c.args.u c.args.list.now

pub returns-then-number-least : goal.returns-then-number-least
returns-then-number-least c =
    elim c.then-number-least.branch [
      | then-number-least-via-then-number-least w ↦ sym (set_step_low c.loop-number.least c.args.u c.args.list.now c.loop-number.number-index (omega arith) w.if-number-least.true)
      | then-number-least-via-else-number-least+then-number-u w ↦ sym (set_step_high c.loop-number.least c.args.u c.args.list.now c.loop-number.number-index (omega arith) w.if-number-u.true)
    ] ∙ c.loop-number.invariant

pub loop-number-preserved : goal.loop-number-preserved
loop-number-preserved c =
    set_step c.loop-number.least c.args.u c.args.list.now c.loop-number.number-index (omega arith) c.if-number-least.false c.if-number-u.false ∙ c.loop-number.invariant

pub returns : goal.returns
returns c = sym (set_end c.loop-number.least c.args.u c.args.list.now c.loop-number.number-index (omega arith)) ∙ c.loop-number.invariant
