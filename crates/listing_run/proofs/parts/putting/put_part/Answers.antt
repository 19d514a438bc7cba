use Rattle.std.proofs.Common.{rules}
use Rattle.listing_run.proofs.parts.PartLemmas.{part_starved, part_unwritten, part_unput}
use Rattle.listing_run.proofs.parts.putting.put_part.Goals as goal

pub returns-in_err-name : goal.returns-in_err-name
returns-in_err-name g c =
    part_starved c.args.tokens.now c.args.token.now (c.args.number, c.args.position.now) c.from_residual-in_err-name.result
    (g.S.Store.state c.args.store.now) (g.W.Sink.state c.args.out.now) (search rules)

pub returns-in_err-write_file : goal.returns-in_err-write_file
returns-in_err-write_file g c =
    part_unwritten c.args.tokens.now c.args.token.now (c.args.number, c.args.position.now) c.from_residual-in_err-write_file.result _ c.deref.result.now c.deref-2.result.now
    (g.S.Store.state c.args.store.now) (g.S.Store.state c.write_file.new.store) (g.W.Sink.state c.args.out.now) (search rules) (search rules) c.in_err-write_file.ensures

pub returns-in_err-line : goal.returns-in_err-line
returns-in_err-line g c =
    part_unput c.args.tokens.now c.args.token.now (c.args.number, c.args.position.now) _ c.from_residual-in_err-line.result c.deref.result.now c.deref-2.result.now
    (g.S.Store.state c.args.store.now) (g.S.Store.state c.write_file.new.store) (g.W.Sink.state c.args.out.now) (search rules) (search rules) c.in_ok-write_file.ensures
