use Rattle.std.proofs.Common.{List, length, sym, ap, arith}
use Rattle.clause_arena.specs.Records.{Record, record_at}
use Rattle.watch_arena.proofs.WatchedPair.{contains_at}
use Rattle.conflict_clause.proofs.SeenLits.{literal}
use Rattle.conflict_clause.proofs.analysis.Analysis.has_seen_all.Goals as goal

pub get-requires : goal.get-requires
get-requires c =
    let lt = c.loop-k-test.true in
    let size = c.len_of-k-end.ensures in
    let same = ap (λ (rs : List Record). length (record_at rs c.args.at).lits) c.arena-arena.ensures in
    let range = c.facts.ensures.lits_in_range c.args.at c.from_code-lit.result
    (contains_at (record_at c.args.trail.now.records c.args.at).lits c.loop-k.k c.from_code-lit.result (omega arith) (sym (literal c.from_code-lit.result c.lit_at.result c.arena-arena.result.now c.args.trail.now.records c.args.at c.loop-k.k c.from_code-lit.ensures c.lit_at.ensures c.arena-arena.ensures))) in
    let variable = c.variable.ensures.value in
    let marks = c.requires.seen_list.size in
    omega arith
