use Rattle.std.proofs.Common.{arith, ◌∙◌}
use Rattle.cert_reader.proofs.PassLemmas.{passes_rest, passes_on, passes_long, passes_line}
use Rattle.cert_reader.proofs.gather.pass.Goals as goal

pub loop-spot-preserved : goal.loop-spot-preserved
loop-spot-preserved g c = record {
  bytes =
      passes_on _ c.args.spot c.args.front.now c.loop-spot.count (g.R.Source.left c.loop-spot.source) c.loop-spot.invariant.bytes c.fill.new.self (g.R.Source.left c.fill.new.source)
      c.pass_line-found.result.0 c.pass_line-found.result.1 c.pass_line-found.new.self c.in_ok-fill.ensures.ok c.pass_line-found.ensures.moved c.pass_line-found.ensures.count c.if-found.false;
  empty = c.pass_line-found.ensures.moved.1.all c.if-found.false;
  short = omega arith;
  faults = c.in_ok-fill.ensures.cause ∙ c.loop-spot.invariant.faults;
  steady = g.met.R.Source.steady_joins c.args.source.now c.loop-spot.source c.fill.new.source c.loop-spot.invariant.steady c.in_ok-fill.ensures.steady;
  quiet = g.met.R.Source.quiet_joins c.args.source.now c.loop-spot.source c.fill.new.source c.loop-spot.invariant.quiet c.in_ok-fill.ensures.quiet;
}

pub returns-then-not-branch-clause-fault : goal.returns-then-not-branch-clause-fault
returns-then-not-branch-clause-fault g c =
    passes_rest _ c.args.spot c.args.front.now c.loop-spot.count (g.R.Source.left c.loop-spot.source) c.loop-spot.invariant.bytes _ _ c.fault_at_end.result
    c.in_ok-fill.ensures.ended c.if-not-branch.true c.loop-spot.invariant.short c.requires.none c.fault_at_end.ensures

pub returns-then-count-room-clause-fault : goal.returns-then-count-room-clause-fault
returns-then-count-room-clause-fault g c =
    passes_long _ c.args.spot c.args.front.now c.loop-spot.count (g.R.Source.left c.loop-spot.source) c.loop-spot.invariant.bytes c.fill.new.self (g.R.Source.left c.fill.new.source)
    c.pass_line-found.result.0 c.pass_line-found.result.1 c.pass_line-found.new.self c.in_ok-fill.ensures.ok c.pass_line-found.ensures.moved c.pass_line-found.ensures.count (omega arith)

pub returns-then-found-clause-fault : goal.returns-then-found-clause-fault
returns-then-found-clause-fault g c =
    passes_line _ c.args.spot c.args.front.now c.loop-spot.count (g.R.Source.left c.loop-spot.source) c.loop-spot.invariant.bytes c.fill.new.self (g.R.Source.left c.fill.new.source)
    c.pass_line-found.result.0 c.pass_line-found.result.1 c.pass_line-found.new.self c.in_ok-fill.ensures.ok c.pass_line-found.ensures.moved c.pass_line-found.ensures.count
    c.if-found.true (omega arith) c.requires.none
