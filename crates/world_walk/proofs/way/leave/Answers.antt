use Rattle.std.proofs.Common.{◌≡◌, [], ◌⊎◌, inl, inr, refl, sym, ap, subst}
use Rattle.world_walk.specs.declared.way.Stage.TheVariants.{Standing, Past}
use Rattle.world_walk.specs.declared.way.Way.{Way}
use Rattle.world_walk.specs.Ahead.{Lists, BeginAlike}
use Rattle.world_walk.specs.Ways.{problem_of, place, at_by, told_by, at_of, told_of, told_table}
use Rattle.world_walk.proofs.BeginAlike.{alike_none}
use Rattle.world_walk.proofs.WentOn.{at_table, turned_one, lists_nowhere}
use Rattle.world_walk.proofs.way.leave.Goals as goal

pub returns-in-Told-clause-passed : goal.returns-in-Told-clause-passed
returns-in-Told-clause-passed c =
    let w = c.args.way.now in
    let at = at_table w c.requires c.in-Told.is in
    subst (λ s. Lists (problem_of w) (at_by (place w) s) (at_of c.turn_off.new.way) (told_by (place w) s)) (sym c.in-Told.is)
    (turned_one w (at_of c.turn_off.new.way) c.requires at c.turn_off.ensures.past)

-- where no table was told, nothing is passed
untold : (w : Way) → (w.stage ≡ Standing) ⊎ (w.stage ≡ Past) → told_of w ≡ []
untold w (inl s) = ap (λ x. told_by (place w) x) s
untold w (inr s) = ap (λ x. told_by (place w) x) s

pub returns-in-Standing : goal.returns-in-Standing
returns-in-Standing c =
    let w = c.args.way.now in
    let none = untold w c.in-Standing.is in
    record {
      problem = refl;
      way = c.requires;
      passed = subst (λ ws. Lists (problem_of w) (at_of w) (at_of w) ws) (sym none) (lists_nowhere (problem_of w) (at_of w));
      untold = none;
      kept = subst (λ ws. BeginAlike (told_table ws) w.along.path 0) (sym none) (alike_none w.along.path);
    }
