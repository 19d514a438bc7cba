use Rattle.std.proofs.Common.{rules, ◌+◌}
use Rattle.listing_run.proofs.parts.PartLemmas.{part_as}
use Rattle.listing_run.proofs.parts.PutLemmas.{parts_starved, put_next, parts_stopped, parts_ended}
use Rattle.listing_run.proofs.parts.putting.put_parts.Goals as goal

pub returns-in_err-tokens : goal.returns-in_err-tokens
returns-in_err-tokens g c =
    parts_starved c.from_residual.result c.args.problem.now c.args.args.now c.args.positions.now (g.S.Store.state c.args.store.now) (g.W.Sink.state c.args.out.now) (search rules) c.requires.begin

pub returns-in_err-put_part : goal.returns-in_err-put_part
returns-in_err-put_part g c =
    parts_stopped c.from_residual-in_err-put_part.result _ c.args.problem.now c.args.args.now c.args.positions.now c.parts.place c.index-positions-place.result
    (g.S.Store.state c.args.store.now) (g.S.Store.state c.parts.store) (g.S.Store.state c.put_part.new.store)
    (g.W.Sink.state c.args.out.now) (g.W.Sink.state c.parts.out) (g.W.Sink.state c.put_part.new.out)
    (search rules) c.requires.begin c.parts-test.true c.index-positions-place.is c.parts.invariant
    (part_as _ c.args.problem.now c.in_ok-tokens.tokens c.args.args.now.token c.text.result.now (c.parts.place + 1, c.index-positions-place.result)
    (g.S.Store.state c.parts.store) (g.S.Store.state c.put_part.new.store) (g.W.Sink.state c.parts.out) (g.W.Sink.state c.put_part.new.out)
    (search rules) (search rules) c.in_err-put_part.ensures)

pub parts-preserved : goal.parts-preserved
parts-preserved g c =
    put_next c.args.problem.now c.args.args.now.token c.args.positions.now c.parts.place c.index-positions-place.result c.parts-test.true c.index-positions-place.is _
    (g.S.Store.state c.args.store.now) (g.S.Store.state c.parts.store) (g.S.Store.state c.put_part.new.store)
    (g.W.Sink.state c.args.out.now) (g.W.Sink.state c.parts.out) (g.W.Sink.state c.put_part.new.out)
    (search rules) c.parts.invariant
    (part_as _ c.args.problem.now c.in_ok-tokens.tokens c.args.args.now.token c.text.result.now (c.parts.place + 1, c.index-positions-place.result)
    (g.S.Store.state c.parts.store) (g.S.Store.state c.put_part.new.store) (g.W.Sink.state c.parts.out) (g.W.Sink.state c.put_part.new.out)
    (search rules) (search rules) c.in_ok-put_part.ensures)

pub returns-in_err-put_count : goal.returns-in_err-put_count
returns-in_err-put_count g c =
    parts_ended _ c.from_residual-in_err-put_count.result c.args.problem.now c.args.args.now c.args.positions.now c.parts.place _
    (g.S.Store.state c.args.store.now) (g.S.Store.state c.parts.store)
    (g.W.Sink.state c.args.out.now) (g.W.Sink.state c.parts.out) (g.W.Sink.state c.put_count.new.out)
    c.requires.begin c.parts-test.false (search rules) c.parts.invariant c.in_err-put_count.ensures (search rules)

pub returns : goal.returns
returns g c =
    parts_ended _ _ c.args.problem.now c.args.args.now c.args.positions.now c.parts.place _
    (g.S.Store.state c.args.store.now) (g.S.Store.state c.parts.store)
    (g.W.Sink.state c.args.out.now) (g.W.Sink.state c.parts.out) (g.W.Sink.state c.put_count.new.out)
    c.requires.begin c.parts-test.false (search rules) c.parts.invariant c.in_ok-put_count.ensures (search rules)
