use Rattle.std.proofs.Common.{◌≡◌, ◌≤◌, vec_len}
use Rattle.clause_arena.specs.Movings.{pairs_from}
use Rattle.clause_arena.proofs.moves.grow.Given as goal

abbrev pub invariant-loop : goal.invariant-loop
invariant-loop l = (pairs_from 0 l.table.items ≡ pairs_from 0 l.initial.table.items) × (l.counter ≤ vec_len l.table)
