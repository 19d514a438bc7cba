-- What is known of articulations that a solver over points is asked about.
use Rattle.std.proofs.Common.{◌≡◌, ℕ, zero, suc, ◌+◌, ◌<◌, Bool, true, false, List, [], ◌∷◌, ◌++◌, length, get_or, set, sym, ap, ◌∙◌, subst}
use Rattle.std.specs.Prelude.{Some}
use Rattle.world_model.specs.Problem.{Problem, restricted}
use Rattle.world_model.specs.Family.{Family}
use Rattle.world_model.specs.Questions.{IsConsistent}
use Rattle.set_family.specs.Meeting.{IsMetBy}
use Rattle.family_solver.specs.Kept.Keeping.{IsWithin, IsClash}
use Rattle.family_solver.proofs.kept.Fewer.{consistent_fewer}
use Rattle.conflict_min.specs.Conflicts.{all_kept}
use Rattle.conflict_min.specs.Shrinking.{IsShrunk}
use Rattle.conflict_min.proofs.Passes.{put_back, shrunk_none, shrunk_dropped, shrunk_kept}

-- where some of those kept are in conflict, all of them are
pub clash_kept : (p : Problem) (kept core : List Bool) → IsClash p kept core → IsConsistent p kept → ⊥
clash_kept p kept core clash consistent = clash.inconsistent (consistent_fewer p core kept clash.within consistent)

-- a flag that fewer lack is taken off from more
within_set : (fewer more : List Bool) (place : ℕ) → IsWithin fewer more → get_or fewer place false ≡ false → IsWithin fewer (set more place false)
within_set fewer [] place within off k at = within k at
within_set [] (c ∷ more) place within off k at = absurd (cc)
within_set (b ∷ fewer) (c ∷ more) zero within off zero at = let no : Some false ≡ Some true = ap Some (sym off) ∙ at in absurd (cc)
within_set (b ∷ fewer) (c ∷ more) zero within off (suc k) at = within (suc k) at
within_set (b ∷ fewer) (c ∷ more) (suc place) within off zero at = within 0 at
within_set (b ∷ fewer) (c ∷ more) (suc place) within off (suc k) at = within_set fewer more place (λ k. within (suc k)) off k at

-- before any is asked about
pub shrunk_clash : (p : Problem) (all core : List Bool) → all ≡ all_kept p → IsClash p all core → IsShrunk p 0 all []
shrunk_clash p all core same clash = subst (λ flags. IsShrunk p 0 flags []) (sym same) (shrunk_none p (subst (λ flags. IsConsistent p flags → ⊥) same (clash_kept p all core clash)))

module _ (p : Problem) (place : ℕ) (kept core : List Bool) (families : List Family) (so : IsShrunk p place kept families) (low : place < length p.articulations) where
  -- those left are in conflict
  pub course_dropped : IsClash p (set kept place false) core → IsShrunk p (place + 1) (set kept place false) families
  course_dropped clash = shrunk_dropped p place kept families so low (clash_kept p (set kept place false) core clash)

  -- those that are known to be in conflict stand without it
  pub clash_unasked : IsClash p kept core → get_or core place false ≡ false → IsClash p (set kept place false) core
  clash_unasked clash off = record {
    flags = clash.flags;
    within = within_set core kept place clash.within off;
    inconsistent = clash.inconsistent;
  }

  -- those left hold together
  pub course_kept : (f : Family) → IsMetBy (restricted p (set kept place false)) f → IsShrunk p (place + 1) (set (set kept place false) place true) (families ++ f ∷ [])
  course_kept f met = subst (λ flags. IsShrunk p (place + 1) flags (families ++ f ∷ [])) (sym (put_back p place kept families so low)) (shrunk_kept p place kept families so low f met)

  pub clash_kept_on : IsClash p kept core → IsClash p (set (set kept place false) place true) core
  clash_kept_on clash = subst (λ flags. IsClash p flags core) (sym (put_back p place kept families so low)) clash
