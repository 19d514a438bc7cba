use Rattle.std.proofs.Common.{◌^◌, arith}
use Rattle.std.proofs.lemmas.Result.{on_ok_weaker}
use Rattle.proof_text.proofs.TextLemmas.{forget_text, all_below}
use Rattle.proof_text.proofs.printing.put_forget.Goals as goal

pub returns-clause-text : goal.returns-clause-text
returns-clause-text c = on_ok_weaker c.put_ids.result (forget_text c.args.ids.now c.args.out.now.items c.push.new.self.items c.put_ids.new.out.items c.in_ok-push.ensures.items) c.put_ids.ensures

pub returns-clause-ids : goal.returns-clause-ids
returns-clause-ids c = all_below (2 ^ 64) c.args.ids.now (λ k h. omega (arith, c.type_inv.ids k))

pub returns-in_err-push-clause-ids : goal.returns-in_err-push-clause-ids
returns-in_err-push-clause-ids c = all_below (2 ^ 64) c.args.ids.now (λ k h. omega (arith, c.type_inv.ids k))
