use Rattle.std.proofs.Common.{◌≡◌, ◌∙◌, [], ◌∷◌, ◌++◌, true, false, length, ap, subst, arith}
use Rattle.world_model.specs.Node.{pair_at}
use Rattle.point_pool.specs.Pools.{AllAvoid}
use Rattle.point_pool.proofs.Pooling.{striking_begun}
use Rattle.point_pool.proofs.Starting.{cell_stays, cells_avoid}
use Rattle.point_pool.proofs.pool.Pool.strike.Goals as goal

pub strike_cell-requires-clause-striking : goal.strike_cell-requires-clause-striking
strike_cell-requires-clause-striking c =
    let w = c.args.self.now in
    let counted : c.len.result ≡ length w.struck.items = omega (arith, c.len.ensures, w.struck.ok) in
    striking_begun w c.push.new.self c.requires.pool (c.in_ok-push.ensures.items ∙ ap (λ n. w.marks.items ++ n ∷ []) counted)

pub returns-clause-avoid : goal.returns-clause-avoid
returns-clause-avoid c =
    let r = c.args.regions in
    let q = c.pair_at-x.result in
    let one = c.strike_cell.new.self.places in
    let two = c.strike_cell-2.new.self.places in
    let three = c.strike_cell-3.new.self.places in
    let both = cell_stays two three r (q.0, true) (q.1, true) c.in_ok-strike_cell-3.ensures.fewer (cell_stays one two r (q.0, true) (q.1, true) c.in_ok-strike_cell-2.ensures.fewer c.in_ok-strike_cell.ensures.avoid) in
    let left = cell_stays two three r (q.0, true) (q.1, false) c.in_ok-strike_cell-3.ensures.fewer c.in_ok-strike_cell-2.ensures.avoid in
    subst (λ x. AllAvoid three x r) (c.pair_at-x.ensures.value ∙ ap (λ p. pair_at p c.args.pair) c.problem.ensures) (cells_avoid three q r both left c.in_ok-strike_cell-3.ensures.avoid)
