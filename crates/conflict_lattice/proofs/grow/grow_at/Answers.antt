use Rattle.std.proofs.Common.{◌≡◌, ◌+◌, true, false, set, sym, ap, ◌∙◌, subst, arith}
use Rattle.std.specs.Prelude.{Some, slice_get}
use Rattle.family_solver.specs.Kept.Keeping.{IsClash, IsWithin}
use Rattle.family_solver.proofs.kept.Fewer.{consistent_fewer}
use Rattle.conflict_lattice.specs.Rounds.{IsGrown, IsJudged, holds_one}
use Rattle.conflict_lattice.specs.declared.decide.Judged.TheVariants.{Met, Clash}
use Rattle.conflict_lattice.proofs.Parts.{read_there, written_back}
use Rattle.conflict_lattice.proofs.Growing.{grown_full, grown_more, holds_inconsistent, more_within}
use Rattle.conflict_lattice.proofs.grow.grow_at.Goals as goal

pub returns-then-holds_one-clause-after : goal.returns-then-holds_one-clause-after
returns-then-holds_one-clause-after c =
    let p = c.args.problem.now in
    let kept = c.args.kept.now.items in
    let lacks : slice_get kept c.args.place ≡ Some false = read_there kept c.args.place c.index.result.now false c.index.ensures c.if-index.false (omega (arith, c.requires.within, c.requires.before.flags)) in
    subst (IsGrown p (c.args.place + 1)) (sym (written_back kept c.args.place false true lacks))
    (grown_full p c.args.place kept c.requires.before
    (holds_inconsistent p c.args.conflicts.now (set kept c.args.place true) c.requires.conflicts (ap (holds_one c.args.conflicts.now) (sym c.deref.ensures.value) ∙ sym c.holds_one.ensures ∙ c.if-holds_one.true)))

pub returns-then-holds_one-clause-more : goal.returns-then-holds_one-clause-more
returns-then-holds_one-clause-more c =
    let kept = c.args.kept.now.items in
    let lacks : slice_get kept c.args.place ≡ Some false = read_there kept c.args.place c.index.result.now false c.index.ensures c.if-index.false (omega (arith, c.requires.within, c.requires.before.flags)) in
    subst (IsWithin kept) (sym (written_back kept c.args.place false true lacks)) (λ k h. h)

pub returns-in_ok-kept-in-Met-clause-after : goal.returns-in_ok-kept-in-Met-clause-after
returns-in_ok-kept-in-Met-clause-after c =
    let p = c.args.problem.now in
    let kept = c.args.kept.now.items in
    grown_more p c.args.place kept c.in_ok-kept-in-Met.field-0.items c.in-Met.family c.requires.before c.requires.within c.in_ok-kept-in-Met.ensures
    (subst (λ flags. IsJudged p flags (Met c.in-Met.family)) c.deref-2.ensures.value (subst (IsJudged p c.deref-2.result.now) c.in-Met.is c.in_ok-family.ensures.answer))

pub returns-in_ok-kept-in-Met-clause-more : goal.returns-in_ok-kept-in-Met-clause-more
returns-in_ok-kept-in-Met-clause-more c =
    let p = c.args.problem.now in
    let kept = c.args.kept.now.items in
    more_within p c.args.place kept c.in_ok-kept-in-Met.field-0.items c.in-Met.family c.requires.before.flags c.in_ok-kept-in-Met.ensures
    (subst (λ flags. IsJudged p flags (Met c.in-Met.family)) c.deref-2.ensures.value (subst (IsJudged p c.deref-2.result.now) c.in-Met.is c.in_ok-family.ensures.answer))

pub returns-in-Clash-clause-after : goal.returns-in-Clash-clause-after
returns-in-Clash-clause-after c =
    let p = c.args.problem.now in
    let kept = c.args.kept.now.items in
    let lacks : slice_get kept c.args.place ≡ Some false = read_there kept c.args.place c.index.result.now false c.index.ensures c.if-index.false (omega (arith, c.requires.within, c.requires.before.flags)) in
    let core = c.in-Clash._core in
    let clash : IsClash p (set kept c.args.place true) core.items =
    subst (λ flags. IsJudged p flags (Clash core)) c.deref-2.ensures.value (subst (IsJudged p c.deref-2.result.now) c.in-Clash.is c.in_ok-family.ensures.answer) in
    subst (IsGrown p (c.args.place + 1)) (sym (written_back kept c.args.place false true lacks))
    (grown_full p c.args.place kept c.requires.before (λ consistent. clash.inconsistent (consistent_fewer p core.items (set kept c.args.place true) clash.within consistent)))

pub returns-in-Clash-clause-more : goal.returns-in-Clash-clause-more
returns-in-Clash-clause-more c =
    let kept = c.args.kept.now.items in
    let lacks : slice_get kept c.args.place ≡ Some false = read_there kept c.args.place c.index.result.now false c.index.ensures c.if-index.false (omega (arith, c.requires.within, c.requires.before.flags)) in
    subst (IsWithin kept) (sym (written_back kept c.args.place false true lacks)) (λ k h. h)
