use Rattle.search_log.proofs.Leading.{led_still}
use Rattle.conflict_min.proofs.shrink.go_on.Goals as goal

pub returns-then-place-pass-clause-leads : goal.returns-then-place-pass-clause-leads
returns-then-place-pass-clause-leads g c = led_still (g.L.TreeLog.lines c.args.log.now) c.args.asker.now
