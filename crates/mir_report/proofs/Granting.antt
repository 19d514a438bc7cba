-- What a solver over points answers, of a problem with a pair narrowed.
use Rattle.std.proofs.Common.{◌≡◌, ℕ, List, get_or, sym, subst}
use Rattle.rcc5_core.specs.declared.Rel.{Rel}
use Rattle.rcc5_core.specs.Relation.{relation_of}
use Rattle.rcc5_core.specs.RelationSet.{only}
use Rattle.world_model.specs.Problem.{Problem, narrowed}
use Rattle.world_model.specs.Family.{Family, set_of}
use Rattle.world_model.specs.Node.{pair_at}
use Rattle.world_model.specs.Questions.{IsMet}
use Rattle.set_family.specs.Meeting.{IsMetBy}
use Rattle.cert_rules.proofs.Narrowing.{shown_is_met, met_is_shown}
use Rattle.family_solver.specs.Showing.{IsGranted}
use Rattle.family_solver.specs.declared.solver.Grant.TheVariants.{Met, Refuted}

-- a family that is granted meets the problem with the pair narrowed
pub met_granted : (p q : Problem) (pairs : List ℕ) (place pair : ℕ) (rel : Rel) (f : Family) → get_or pairs place 0 ≡ pair → q ≡ narrowed p (pair_at p pair) (only rel)
    → IsGranted p pairs place rel (Met f) → IsMetBy q f
met_granted p q pairs place pair rel f at is granted =
    subst (λ q. IsMetBy q f) (sym is) (record {
      sets = granted.0.sets;
      met = shown_is_met p (pair_at p pair) rel f granted.0.met (subst (λ k. relation_of (set_of f (pair_at p k).0) (set_of f (pair_at p k).1) ≡ rel) at granted.1);
    })

-- and where none is, none does
pub none_granted : (p q : Problem) (pairs : List ℕ) (place pair : ℕ) (rel : Rel) → get_or pairs place 0 ≡ pair → q ≡ narrowed p (pair_at p pair) (only rel)
    → IsGranted p pairs place rel Refuted → IsMet q → ⊥
none_granted p q pairs place pair rel at is granted met =
    let here = subst IsMet is met in
    let parts = met_is_shown p (pair_at p pair) rel here.0 here.1 in
    granted here.0 parts.0 (subst (λ k. relation_of (set_of here.0 (pair_at p k).0) (set_of here.0 (pair_at p k).1) ≡ rel) (sym at) parts.1)
