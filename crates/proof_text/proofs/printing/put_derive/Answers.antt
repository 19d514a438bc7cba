use Rattle.std.proofs.Common.{◌^◌, arith}
use Rattle.std.proofs.lemmas.Result.{on_ok_weaker}
use Rattle.proof_text.proofs.TextLemmas.{derive_text, all_below}
use Rattle.proof_text.proofs.printing.put_derive.Goals as goal

pub returns-clause-text : goal.returns-clause-text
returns-clause-text c =
    on_ok_weaker c.put_ids.result
    (derive_text c.args.id c.args.lits.now c.args.hints.now c.args.out.now.items c.push.new.self.items c.put_id.new.out.items c.put_literals.new.out.items c.put_ids.new.out.items
    c.in_ok-push.ensures.items c.in_ok-put_id.ensures c.in_ok-put_literals.ensures.text)
    c.put_ids.ensures

pub returns-clause-ids : goal.returns-clause-ids
returns-clause-ids c = (omega arith, all_below (2 ^ 64) c.args.hints.now (λ k h. omega (arith, c.type_inv.hints k)))

pub returns-in_err-push-clause-ids : goal.returns-in_err-push-clause-ids
returns-in_err-push-clause-ids c = (omega arith, all_below (2 ^ 64) c.args.hints.now (λ k h. omega (arith, c.type_inv.hints k)))

pub returns-in_err-put_id-clause-ids : goal.returns-in_err-put_id-clause-ids
returns-in_err-put_id-clause-ids c = (omega arith, all_below (2 ^ 64) c.args.hints.now (λ k h. omega (arith, c.type_inv.hints k)))

pub returns-in_err-put_literals-clause-ids : goal.returns-in_err-put_literals-clause-ids
returns-in_err-put_literals-clause-ids c = (omega arith, all_below (2 ^ 64) c.args.hints.now (λ k h. omega (arith, c.type_inv.hints k)))
