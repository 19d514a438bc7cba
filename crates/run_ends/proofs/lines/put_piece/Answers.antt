use Rattle.std.proofs.Common.{rules, arith, length, sym, subst, ◌-◌}
use Rattle.run_ends.specs.Runs.{LeavesPiece}
use Rattle.run_ends.proofs.PieceLemmas.{lines_whole, lines_open}
use Rattle.run_ends.proofs.lines.put_piece.Goals as goal

pub returns-then-piece-eq10 : goal.returns-then-piece-eq10
returns-then-piece-eq10 g c =
    subst (λ xs. LeavesPiece c.put.result xs (g.W.Sink.state c.args.out.now) (g.W.Sink.state c.put.new.self))
    (sym (lines_whole c.args.piece.now (length c.args.piece.now - 1) (omega (arith, c.requires)) (search rules))) (search rules)

pub returns-else-piece-eq10 : goal.returns-else-piece-eq10
returns-else-piece-eq10 g c =
    subst (λ xs. LeavesPiece c.put_line.result xs (g.W.Sink.state c.args.out.now) (g.W.Sink.state c.put_line.new.out))
    (sym (lines_open c.args.piece.now (length c.args.piece.now - 1) (omega (arith, c.requires)) (search rules))) c.put_line.ensures
