use Rattle.std.proofs.Common.{◌≡◌, take, sym, ap, ◌∙◌, subst}
use Rattle.std.specs.Prelude.{IfSome}
use Rattle.point_ladder.specs.Ladders.{LadderState, BeginsNone}
use Rattle.world_walk.specs.declared.way.Stage.TheVariants.{Standing}
use Rattle.world_walk.specs.declared.way.Way.{Way}
use Rattle.world_walk.specs.Ways.{IsWay, WentOn}
use Rattle.world_walk.proofs.WentOn.{with_ladder, stays}
use Rattle.world_walk.proofs.Barren.{retreated}
use Rattle.world_walk.proofs.retreat.retreat.Goals as goal

-- a way stays where it is, whose along is as it was
stays_by : (w : Way) (along : LadderState) → along ≡ w.along → IsWay w → w.stage ≡ Standing → WentOn w (with_ladder w along)
stays_by w along same is standing = subst (WentOn w) (sym (ap (with_ladder w) same)) (stays w is standing)

pub returns-in_err-len-clause-went : goal.returns-in_err-len-clause-went
returns-in_err-len-clause-went c = let w = c.args.way.now in stays_by w c.barren_len.new.along c.in_err-len.ensures.same c.requires.way c.requires.standing

pub returns-in_default-clause-went : goal.returns-in_default-clause-went
returns-in_default-clause-went c = let w = c.args.way.now in stays_by w c.barren_len.new.along c.in_ok-len.ensures.same c.requires.way c.requires.standing

pub drop_levels-requires-clause-barren : goal.drop_levels-requires-clause-barren
drop_levels-requires-clause-barren c =
    let l = c.args.way.now.along in
    let here : BeginsNone l.problem (take c.in-Some.len l.path) = subst (λ found. IfSome found (λ len. BeginsNone l.problem (take len l.path))) c.in-Some.is c.in_ok-len.ensures.barren in
    subst (λ (l : LadderState). BeginsNone l.problem (take c.in-Some.len l.path)) (sym c.in_ok-len.ensures.same) here

pub returns-clause-went : goal.returns-clause-went
returns-clause-went c =
    let old = c.args.way.now in
    let l = old.along in
    let here : BeginsNone l.problem (take c.in-Some.len l.path) = subst (λ found. IfSome found (λ len. BeginsNone l.problem (take len l.path))) c.in-Some.is c.in_ok-len.ensures.barren in
    let dropped = c.drop_levels.ensures in
    let turned = c.turn_off.ensures in
    retreated old c.drop_levels.new.way c.turn_off.new.way c.in-Some.len c.requires.standing c.requires.ready here (dropped.along ∙ c.in_ok-len.ensures.same) dropped.waiting turned.problem turned.way turned.past turned.untold
