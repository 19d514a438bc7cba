use Rattle.std.proofs.Common.{rules, map}
use Rattle.report_run.specs.Reporting.{watched}
use Rattle.align_top.proofs.top.run_request.Goals as goal

pub run_plain-requires : goal.run_plain-requires
run_plain-requires g c = record { plain = search rules; known = map (λ z. (goal.WorldWatcher-dyn g (z.vtable, z.value)).name z.value) c.args.watchers.items; made = c.requires }

pub returns : goal.returns
returns g c = c.run_plain.ensures (watched (λ z. (goal.WorldWatcher-dyn g (z.vtable, z.value)).name z.value) (λ z. (goal.WorldWatcher-dyn g (z.vtable, z.value)).text z.value) c.args.watchers.items)
