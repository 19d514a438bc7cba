use Rattle.std.proofs.Common.{◌≤◌, length, sym, subst, arith}
use Rattle.point_ladder.proofs.Keeps.{keeps_cut, path_long}
use Rattle.point_ladder.proofs.ladder.Ladder.back_to.Goals as goal

pub invariant_of-self : goal.invariant_of-self
invariant_of-self c =
    let s = c.self.inside in
    let fewer = subst (λ v. c.args.len ≤ length v.path) (sym c.self.view_is) c.requires in
    keeps_cut s c.args.len c.cut.new.stretches.items c.self.invariant (omega (arith, fewer, path_long s c.self.invariant)) c.cut.ensures
