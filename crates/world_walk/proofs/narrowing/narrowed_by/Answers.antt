use Rattle.std.proofs.Common.{◌∷◌, [], ◌++◌, ◌≡◌, ◌<◌, length, get_or, take, sym, refl, ap, ◌∙◌, subst, arith}
use Rattle.std.proofs.lemmas.List.{length-take-le, take_more}
use Rattle.world_model.specs.Problem.{pair_count}
use Rattle.world_walk.specs.Asked.{IsNarrowedBy}
use Rattle.world_walk.proofs.Along.{narrowed_more}
use Rattle.world_walk.proofs.narrowing.narrowed_by.Goals as goal

pub narrow-requires : goal.narrow-requires
narrow-requires c =
    let same : pair_count c.loop-pair.node ≡ pair_count c.args.problem.now = ap pair_count c.loop-pair.invariant.shape in
    omega (arith, same, c.requires, c.loop-pair-test.true)

pub loop-pair-preserved : goal.loop-pair-preserved
loop-pair-preserved c =
    let m = take c.loop-pair.pair c.args.path.now in
    let long : length m ≡ c.loop-pair.pair = length-take-le c.loop-pair.pair c.args.path.now (omega (arith, c.loop-pair-test.true)) in
    subst (λ xs. IsNarrowedBy c.args.problem.now xs c.narrow.new.self) (sym (take_more c.args.path.now c.loop-pair.pair _ c.loop-pair-test.true))
    (narrowed_more c.args.problem.now c.loop-pair.node c.narrow.new.self m c.loop-pair.pair _ _ (sym long) c.one.ensures (c.in_ok-narrow.ensures.value) c.narrow.ensures.shape c.loop-pair.invariant)
