use Rattle.std.proofs.Common.{◌<◌, ◌++◌, length, sym, arith}
use Rattle.claims_run.specs.Answering.{numbered_lines}
use Rattle.claims_run.proofs.KeptLemmas.{line_kept, line_dropped}
use Rattle.claims_run.proofs.kept_lines.put_kept.Goals as goal
use Rattle.claims_run.proofs.kept_lines.put_kept.Goals.{then-kept-index+in_ok-put_articulation, else-kept-index}

pub loop-index-preserved : goal.loop-index-preserved
loop-index-preserved c =
    let p = c.args.problem.now in
    let kept = c.args.kept.now in
    let k = c.loop-index.index in
    let flags = c.requires in
    let all = c.articulation_count-index-end.ensures in
    let within : k < length kept = omega (arith, flags, all) in
    let whole = c.args.text.now.items ++ numbered_lines p 1 p.articulations kept in
    elim c.if-kept-index.branch [
      | then-kept-index+in_ok-put_articulation w ↦ rw w.text-is (line_kept p kept k _ c.loop-index.text.items w.put_articulation.new.text.items whole within flags (sym w.if-kept-index.true) c.loop-index.invariant w.in_ok-put_articulation.ensures)
      | else-kept-index w ↦ rw w.text-is (line_dropped p kept k _ c.loop-index.text.items whole within flags (sym w.if-kept-index.false) c.loop-index.invariant)
    ]
