use Rattle.std.proofs.Common.{◌≡◌, ◌∙◌, ◌++◌, false, true, All, sym, ap, subst}
use Rattle.search_log.proofs.Leading.{led_joins}
use Rattle.pick_search.proofs.blocks.Joins.{keeps_join}
use Rattle.conflict_lattice.specs.Lattice.{IsMaximalConsistent, IsMinimalConflict, claims_of, lattice_claims}
use Rattle.conflict_lattice.proofs.Claiming.{lattice_maximal, lattice_minimal}
use Rattle.conflict_lattice.proofs.claims.claim_all.Goals as goal

pub claim_conflicts-requires-clause-minimal : goal.claim_conflicts-requires-clause-minimal
claim_conflicts-requires-clause-minimal g c =
    let p = c.args.problem.now in subst (All (IsMinimalConflict p)) (sym c.conflicts.ensures) (lattice_minimal p c.args.lattice.now c.requires.lattice)

pub claim_sets-requires-clause-maximal : goal.claim_sets-requires-clause-maximal
claim_sets-requires-clause-maximal g c =
    let p = c.args.problem.now in subst (All (IsMaximalConsistent p)) (sym c.consistent.ensures) (lattice_maximal p c.args.lattice.now c.requires.lattice)

pub returns-clause-keeps : goal.returns-clause-keeps
returns-clause-keeps g c =
    let s = c.args.lattice.now in
    keeps_join c.claim_sets.result c.args.problem.now (λ more. more ≡ claims_of false c.conflicts.result.now) (λ _ more. more ≡ claims_of true c.consistent.result.now) (λ _ more. more ≡ lattice_claims s)
    (g.L.TreeLog.lines c.args.log.now) (g.L.TreeLog.lines c.claim_conflicts.new.log) (g.L.TreeLog.lines c.claim_sets.new.log) c.args.asker.now c.claim_conflicts.new.asker c.claim_sets.new.asker
    c.in_ok-claim_conflicts.ensures.log.told
    (λ value first second one two.
    ap (λ claims. claims ++ second) (one ∙ ap (claims_of false) c.conflicts.ensures) ∙ ap (λ claims. claims_of false s.conflicts ++ claims) (two ∙ ap (claims_of true) c.consistent.ensures))
    c.in_ok-claim_conflicts.ensures.keeps c.claim_sets.ensures.keeps

pub returns-clause-leads : goal.returns-clause-leads
returns-clause-leads g c =
    led_joins (g.L.TreeLog.lines c.args.log.now) (g.L.TreeLog.lines c.claim_conflicts.new.log) (g.L.TreeLog.lines c.claim_sets.new.log) c.args.asker.now c.claim_conflicts.new.asker c.claim_sets.new.asker
    c.in_ok-claim_conflicts.ensures.log.told c.claim_conflicts.ensures.leads c.claim_sets.ensures.leads
