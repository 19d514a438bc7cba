use Rattle.std.proofs.Common.{decimal}
use Rattle.proof_text.proofs.TextLemmas.{word_put}
use Rattle.proof_text.proofs.printing.put_ids.Goals as goal

pub loop-id-preserved : goal.loop-id-preserved
loop-id-preserved c = word_put decimal c.args.ids.now c.loop-id.out.items c.put_id.new.out.items _ c.loop-id.id-index c.loop-id-test.true c.loop-id.invariant c.in_ok-put_id.ensures
