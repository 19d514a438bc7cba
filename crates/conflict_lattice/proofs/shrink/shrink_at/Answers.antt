use Rattle.std.proofs.Common.{◌≡◌, ◌+◌, true, false, sym, subst, arith}
use Rattle.std.specs.Prelude.{Some, slice_get}
use Rattle.family_solver.specs.Kept.Keeping.{IsWithin}
use Rattle.conflict_lattice.specs.Rounds.{IsJudged, IsShrunk}
use Rattle.conflict_lattice.specs.declared.decide.Judged.TheVariants.{Met, Clash}
use Rattle.conflict_lattice.proofs.Parts.{read_there, written_back}
use Rattle.conflict_lattice.proofs.Shrinking.{less_within, shrunk_less, shrunk_needed}
use Rattle.conflict_lattice.proofs.shrink.shrink_at.Goals as goal

pub returns-in-Clash-clause-after : goal.returns-in-Clash-clause-after
returns-in-Clash-clause-after c =
    let p = c.args.problem.now in
    let core = c.args.core.now.items in
    shrunk_less p c.args.place core c.in-Clash.less.items c.requires.before
    (subst (λ flags. IsJudged p flags (Clash c.in-Clash.less)) c.deref.ensures.value (subst (IsJudged p c.deref.result.now) c.in-Clash.is c.in_ok-less.ensures.answer))

pub returns-in-Clash-clause-less : goal.returns-in-Clash-clause-less
returns-in-Clash-clause-less c =
    let p = c.args.problem.now in
    let core = c.args.core.now.items in
    less_within p c.args.place core c.in-Clash.less.items
    (subst (λ flags. IsJudged p flags (Clash c.in-Clash.less)) c.deref.ensures.value (subst (IsJudged p c.deref.result.now) c.in-Clash.is c.in_ok-less.ensures.answer))

pub returns-in-Met-clause-after : goal.returns-in-Met-clause-after
returns-in-Met-clause-after c =
    let p = c.args.problem.now in
    let core = c.args.core.now.items in
    let there : slice_get core c.args.place ≡ Some true = read_there core c.args.place c.index.result.now true c.index.ensures c.if-not-index.false (omega (arith, c.requires.within, c.requires.before.flags)) in
    subst (IsShrunk p (c.args.place + 1)) (sym (written_back core c.args.place true false there))
    (shrunk_needed p c.args.place core c.in-Met._family c.requires.before
    (subst (λ flags. IsJudged p flags (Met c.in-Met._family)) c.deref.ensures.value (subst (IsJudged p c.deref.result.now) c.in-Met.is c.in_ok-less.ensures.answer)))

pub returns-in-Met-clause-less : goal.returns-in-Met-clause-less
returns-in-Met-clause-less c =
    let core = c.args.core.now.items in
    let there : slice_get core c.args.place ≡ Some true = read_there core c.args.place c.index.result.now true c.index.ensures c.if-not-index.false (omega (arith, c.requires.within, c.requires.before.flags)) in
    subst (λ flags. IsWithin flags core) (sym (written_back core c.args.place true false there)) (λ k h. h)
