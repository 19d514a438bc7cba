use Rattle.std.proofs.Common.{arith, ◌∙◌}
use Rattle.cert_reader.proofs.BlockLemmas.{gathered_no_lf, moved_length}
use Rattle.cert_reader.proofs.GatherLemmas.{gathers_line, gathers_long, gathers_faulty, gathers_rest, gathers_on}
use Rattle.cert_reader.proofs.gather.gather.Goals as goal

pub loop-line-preserved : goal.loop-line-preserved
loop-line-preserved g c = record {
  bytes =
      gathers_on _ _ c.loop-line.blocks c.take_line.new.self c.loop-line.line.items c.take_line.new.line.items (g.R.Source.left c.loop-line.source) c.in_ok-take_line.ensures
      c.loop-line.invariant.no_lf c.loop-line.invariant.bytes c.fill.new.self (g.R.Source.left c.fill.new.source) c.if-branch.false c.in_ok-fill.ensures.ok;
  no_lf = gathered_no_lf _ c.loop-line.blocks c.take_line.new.self c.loop-line.line.items c.take_line.new.line.items c.in_ok-take_line.ensures c.loop-line.invariant.no_lf;
  short = omega arith;
  front = omega (arith, c.loop-line.invariant.front, moved_length _ c.loop-line.blocks c.take_line.new.self c.loop-line.line.items c.take_line.new.line.items c.in_ok-take_line.ensures c.if-branch.false);
  faults = c.in_ok-fill.ensures.cause ∙ c.loop-line.invariant.faults;
  steady = g.met.R.Source.steady_joins c.args.source.now c.loop-line.source c.fill.new.source c.loop-line.invariant.steady c.in_ok-fill.ensures.steady;
  quiet = g.met.R.Source.quiet_joins c.args.source.now c.loop-line.source c.fill.new.source c.loop-line.invariant.quiet c.in_ok-fill.ensures.quiet;
}

pub returns-then-branch-clause-bytes : goal.returns-then-branch-clause-bytes
returns-then-branch-clause-bytes g c =
    gathers_line _ _ c.loop-line.blocks c.take_line.new.self c.loop-line.line.items c.take_line.new.line.items (g.R.Source.left c.loop-line.source) c.in_ok-take_line.ensures
    c.loop-line.invariant.no_lf c.loop-line.invariant.bytes c.args.spot c.if-branch.true

pub returns-then-len-room-clause-bytes : goal.returns-then-len-room-clause-bytes
returns-then-len-room-clause-bytes g c =
    gathers_long _ _ c.loop-line.blocks c.take_line.new.self c.loop-line.line.items c.take_line.new.line.items (g.R.Source.left c.loop-line.source) c.in_ok-take_line.ensures
    c.loop-line.invariant.no_lf c.loop-line.invariant.bytes c.args.spot (omega arith)

pub returns-then-refuses-clause-bytes : goal.returns-then-refuses-clause-bytes
returns-then-refuses-clause-bytes g c =
    gathers_faulty _ _ c.loop-line.blocks c.take_line.new.self c.loop-line.line.items c.take_line.new.line.items (g.R.Source.left c.loop-line.source) c.in_ok-take_line.ensures
    c.loop-line.invariant.no_lf c.loop-line.invariant.bytes c.args.spot _ _ c.deref-then-refuses.result.now c.if-branch.false c.deref-then-refuses.ensures.value c.in_ok-pass.ensures.fault

pub returns-then-not-branch-clause-bytes : goal.returns-then-not-branch-clause-bytes
returns-then-not-branch-clause-bytes g c =
    gathers_rest _ _ c.loop-line.blocks c.take_line.new.self c.loop-line.line.items c.take_line.new.line.items (g.R.Source.left c.loop-line.source) c.in_ok-take_line.ensures
    c.loop-line.invariant.no_lf c.loop-line.invariant.bytes c.args.spot _ _ c.if-branch.false (omega arith) c.in_ok-fill.ensures.ended c.if-not-branch.true
