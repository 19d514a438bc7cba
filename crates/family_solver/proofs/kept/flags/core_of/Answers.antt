use Rattle.std.proofs.Common.{◌≡◌, ◌-◌, ◌<◌, true, length, get_or, set, length-set, inl, inr, sym, ◌∙◌, subst, arith, vec_len}
use Rattle.std.proofs.lemmas.Bool.{cases_eq}
use Rattle.std.proofs.lemmas.Option.{slice_get_within}
use Rattle.family_solver.proofs.Ruling.{same_default}
use Rattle.family_solver.specs.Kept.Keeping.{IsDenied}
use Rattle.family_solver.proofs.kept.Denying.{denied_now, denied_stays, flag_at, set_within}
use Rattle.family_solver.proofs.kept.flags.core_of.Goals as goal

pub overflow_sub-flag : goal.overflow_sub-flag
overflow_sub-flag c =
    (flag_at c.args.ground.now c.args.kept.now c.args.clause.now c.loop-place.place (omega (arith, c.loop-place-test.true, c.count-place-end.ensures)) c.requires.denied
    c.lit.result c.variable.result c.first.result c.lit.ensures c.variable.ensures.value c.first.ensures).0

pub index_mut-requires : goal.index_mut-requires
index_mut-requires c =
    let flag = (flag_at c.args.ground.now c.args.kept.now c.args.clause.now c.loop-place.place (omega (arith, c.loop-place-test.true, c.count-place-end.ensures)) c.requires.denied
    c.lit.result c.variable.result c.first.result c.lit.ensures c.variable.ensures.value c.first.ensures).1 in
    let within = slice_get_within c.args.kept.now (c.variable.result - c.first.result) true flag.on in
    let counted : vec_len c.loop-place.core ≡ length c.loop-place.core.items = omega (arith, c.loop-place.core.ok) in
    omega (arith, within, counted, c.loop-place.invariant.flags)

pub loop-place-preserved : goal.loop-place-preserved
loop-place-preserved c =
    let g = c.args.ground.now in
    let kept = c.args.kept.now in
    let clause = c.args.clause.now in
    let core = c.loop-place.core.items in
    let place = c.loop-place.place in
    let at = c.variable.result - c.first.result in
    let flag = (flag_at g kept clause place (omega (arith, c.loop-place-test.true, c.count-place-end.ensures)) c.requires.denied
    c.lit.result c.variable.result c.first.result c.lit.ensures c.variable.ensures.value c.first.ensures).1 in
    let within : at < length core = omega (arith, slice_get_within kept at true flag.on, c.loop-place.invariant.flags) in
    record {
      flags = length-set core at true ∙ c.loop-place.invariant.flags;
      within = set_within core kept at c.loop-place.invariant.within flag.on;
      denied = λ k small. elim (cases_eq k place) [
        | inl same ↦ subst (λ j. IsDenied g (set core at true) (get_or clause j 0)) (sym same) (subst (IsDenied g (set core at true)) c.lit.ensures (denied_now g core at c.lit.result within flag.is))
        | inr other ↦ denied_stays g core at (get_or clause k 0) (c.loop-place.invariant.denied k (omega (arith, small, other)))
      ];
    }

pub returns : goal.returns
returns c =
    let clause = c.args.clause.now in
    record {
      flags = c.loop-place.invariant.flags;
      within = c.loop-place.invariant.within;
      denied = λ lit i. subst (IsDenied c.args.ground.now c.loop-place.core.items) (same_default clause i.0 0 lit i.1 ∙ i.2)
          (c.loop-place.invariant.denied i.0 (omega (arith, i.1, c.loop-place-test.false, c.count-place-end.ensures)));
    }
