-- What decides whether a family meets a problem.
use Rattle.std.proofs.Common.{◌≡◌, ℕ, zero, suc, ◌+◌, ◌<◌, Bool, true, List, [], ◌∷◌, length, get_or, inl, inr, refl, sym, ap, ◌∙◌, subst, arith}
use Rattle.std.proofs.lemmas.Bool.{cases_eq}
use Rattle.rcc5_core.specs.Region.{is_whole_set}
use Rattle.rcc5_core.specs.declared.Rel.{Rel}
use Rattle.constraint_set.specs.Facts.{IsBuilt}
use Rattle.set_family.proofs.SetLists.{all_places_are_sets}
use Rattle.lits_core.specs.Derivation.{DerivedClausesFollow, LiteralsAreSets, state_after}
use Rattle.lits_core.specs.Literals.{meets_all}
use Rattle.learn_solver.specs.Solving.{GoesTo, IsRefutation, SolverState}
use Rattle.world_model.specs.Alive.{IsAlive, all_whole, allowed, family_of, problem_at}
use Rattle.world_model.specs.Family.{Family}
use Rattle.world_model.specs.Laws.{WholeSetsAreDecided}
use Rattle.world_model.specs.Node.{pair_at}
use Rattle.world_model.specs.Problem.{Problem, concepts, pair_count, pairs}
use Rattle.world_model.specs.Questions.{IsMet}
use Rattle.world_model.proofs.Members.{all_from, contains_from_in}
use Rattle.world_model.proofs.PointOnce.{at_empty}
use Rattle.point_query.specs.Answers.{IsServedByFew}
use Rattle.point_query.proofs.Querying.{same_met}
use Rattle.set_family.specs.Meeting.{IsMetBy}
use Rattle.pick_search.specs.Picking.{IsClash, IsPicked, ArePicksRuled, made_bits}
use Rattle.pick_search.specs.declared.picks.Pick.{Pick}

-- picks that make a problem dead clash
pub dead_clash : WholeSetsAreDecided → (p q : Problem) (pairs : List ℕ) (picks : List Pick) → IsPicked p pairs picks q → (IsAlive q → ⊥) → IsClash p pairs picks
dead_clash law p q pairs picks picked dead = λ f met makes. dead (law.met q (f, picked.there f met makes))

-- the empty prefix is the problem
pub at_root : (q : Problem) (prefix : List Rel) → prefix ≡ [] → problem_at q prefix ≡ q
at_root q prefix empty = ap (problem_at q) empty ∙ at_empty q

-- points that serve a problem of whole sets are a family that meets it
pub family_met : WholeSetsAreDecided → (q : Problem) (prefix : List Rel) (points : List (List Bool)) (f : Family) → IsBuilt q → all_whole q ≡ true → prefix ≡ [] → IsServedByFew (problem_at q prefix) points →
    f ≡ family_of q points → IsMetBy q f
family_met law q prefix points f built whole empty served of =
    let here = subst (λ r. IsServedByFew r points) (at_root q prefix empty) served in
    subst (IsMetBy q) (sym of) (record {
      sets = all_places_are_sets points (concepts q);
      met = law.served q built.valid whole points here.allow here.serve;
    })

-- the pairs that were looked at, and one more
pub whole_more : (p : Problem) (n : ℕ) → ((k : ℕ) → k < n → is_whole_set (allowed p (pair_at p k)) ≡ true) → is_whole_set (allowed p (pair_at p n)) ≡ true → (k : ℕ) → k < n + 1 →
    is_whole_set (allowed p (pair_at p k)) ≡ true
whole_more p n each next k within = elim (cases_eq k n) [
  | inl last ↦ subst (λ j. is_whole_set (allowed p (pair_at p j)) ≡ true) (sym last) next
  | inr before ↦ each k (omega (arith, within, before))
]

-- a default does not matter within a list
any_default : {X : Type 0} (xs : List X) (k : ℕ) (d e : X) → k < length xs → get_or xs k d ≡ get_or xs k e
any_default [] k d e h = absurd (omega arith)
any_default (x ∷ xs) zero d e h = refl
any_default (x ∷ xs) (suc k) d e h = any_default xs k d e (omega (arith, h))

-- all pairs allow whole sets where each by its number does
pub whole_from : (p : Problem) → ((k : ℕ) → k < pair_count p → is_whole_set (allowed p (pair_at p k)) ≡ true) → all_whole p ≡ true
whole_from p each = all_from (λ pair. is_whole_set (allowed p pair)) (pairs p) (λ pair i.
    let c = contains_from_in i in
    subst (λ q. is_whole_set (allowed p q) ≡ true) (any_default (pairs p) c.0 (0, 0) pair c.1 ∙ c.2) (each c.0 c.1))

-- a call of the solver keeps what makes the given clauses true
pub given_stays : DerivedClausesFollow → LiteralsAreSets → (old new : SolverState) → GoesTo old new → (bits : List Bool) → meets_all bits new.state.given ≡ meets_all bits old.state.given
given_stays follow law old new goes bits =
    sym (same_met law bits (state_after old.state goes.added).given new.state.given goes.leads.after.same_given) ∙ ap (meets_all bits) (follow.given_stay old.state goes.added)

-- where no bits make them true, no family meets the problem
pub refuted : DerivedClausesFollow → LiteralsAreSets → (p : Problem) (pairs : List ℕ) (old new : SolverState) (id : ℕ) → ArePicksRuled p pairs old → GoesTo old new → IsRefutation new [] id → IsMet p → ⊥
refuted follow law p pairs old new id ready goes refutation met =
    refutation.hopeless (made_bits p pairs met.0) (given_stays follow law old new goes (made_bits p pairs met.0) ∙ ready.ruled met.0 met.1) refl
