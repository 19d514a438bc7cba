use Rattle.std.proofs.Common.{◌<◌, ◌≤◌, length, subst, arith}
use Rattle.std.proofs.lemmas.List.{get_or_read}
use Rattle.point_pool.proofs.pool.Pool.mark_at.Goals as goal

pub returns-then-count-len : goal.returns-then-count-len
returns-then-count-len c = λ k after within.
    let w = c.args.self.now in
    let marked : c.args.count < length w.marks.items = omega (arith, c.len.ensures, w.marks.ok, c.if-count-len.true) in
    let at = get_or_read w.marks.items c.args.count c.index.result.now marked c.index.ensures 0 in
    c.requires.kept.pooled.sound c.args.count k c.requires.count marked (subst (λ i. i ≤ k) at after) within

pub returns-else-count-len : goal.returns-else-count-len
returns-else-count-len c = λ k after within. absurd (omega (arith, c.len-else-count-len.ensures, c.args.self.now.struck.ok, after, within))
