use Rattle.std.proofs.Common.{arith}
use Rattle.std.proofs.lemmas.Result.{on_ok_weaker}
use Rattle.cert_text.proofs.TextLemmas.{fits-small, set_put}
use Rattle.cert_text.proofs.pieces.put_set.Goals as goal

pub returns-clause-text : goal.returns-clause-text
returns-clause-text c =
    on_ok_weaker c.put_further.result
    (set_put c.args.set.now c.args.out.now.items c.put_number.new.out.items c.put_further.new.out.items _ (omega arith) c.from.ensures c.in_ok-put_number.ensures)
    c.put_further.ensures

pub returns-clause-small : goal.returns-clause-small
returns-clause-small c = fits-small c.args.set.now c.type_inv.set
