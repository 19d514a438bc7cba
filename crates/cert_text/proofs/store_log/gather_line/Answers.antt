use Rattle.std.proofs.Common.{refl}
use Rattle.cert_text.proofs.StoreLemmas.{told_waiting}
use Rattle.cert_text.proofs.store_log.gather_line.Goals as goal

pub returns-in_ok-append_waiting-clause-told : goal.returns-in_ok-append_waiting-clause-told
returns-in_ok-append_waiting-clause-told g c =
    told_waiting ((g.S.Store.state c.args.store.now).held c.args.name.now) ((g.S.Store.state c.append_waiting.new.store).held c.args.name.now)
    c.args.text.now.items c.put_whole.new.out.items c.append_waiting.new.text.items c.args.line.now c.in_ok-put_whole.ensures.text c.in_ok-put_whole.ensures.small c.in_ok-append_waiting.ensures.same

pub returns-else-len-ge-BLOCK-clause-told : goal.returns-else-len-ge-BLOCK-clause-told
returns-else-len-ge-BLOCK-clause-told g c =
    told_waiting ((g.S.Store.state c.args.store.now).held c.args.name.now) ((g.S.Store.state c.args.store.now).held c.args.name.now)
    c.args.text.now.items c.put_whole.new.out.items c.put_whole.new.out.items c.args.line.now c.in_ok-put_whole.ensures.text c.in_ok-put_whole.ensures.small refl
