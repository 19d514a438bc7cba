use Rattle.std.proofs.lemmas.List.{take_more}
use Rattle.watch_arena.proofs.trail.codes_of.Goals as goal

pub loop-lit-preserved : goal.loop-lit-preserved
loop-lit-preserved c =
    let more = take_more c.args.lits.now c.loop-lit.lit-index c.lit-item.result c.loop-lit-test.true in
    cc (more, c.in_ok-push.ensures.items, c.loop-lit.invariant, c.code.ensures, c.lit-item.is)
