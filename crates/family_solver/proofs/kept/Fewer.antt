-- A family that meets a problem meets it where fewer articulations are kept.
use Rattle.std.proofs.Common.{◌≡◌, suc, Bool, true, false, List, [], ◌∷◌, inl, inr, refl}
use Rattle.std.specs.Prelude.{IsTrue, Option, Some, None, filter_map}
use Rattle.std.specs.List.{items_where_true}
use Rattle.world_model.specs.Problem.{Problem, constraints, kept_articulations, kept_sums, as_constraint, as_sum, restricted}
use Rattle.world_model.specs.Family.{Family, holds, meets, sum_holds}
use Rattle.world_model.specs.Questions.{IsConsistent}
use Rattle.world_model.proofs.Members.{In, here, there, all_at, all_from, In-left, In-right, from_append, In-filter_map, from_filter_map}
use Rattle.world_model.proofs.PointRules.{met_parts, met_whole}
use Rattle.set_family.specs.Meeting.{IsMetBy}
use Rattle.family_solver.specs.Kept.Keeping.{IsWithin}

-- what is kept by fewer flags is kept by more
fewer_kept : {X : Type 0} {x : X} (fewer more : List Bool) (xs : List X) → IsWithin fewer more → In x (items_where_true fewer xs) → In x (items_where_true more xs)
fewer_kept [] more xs within i = elim i [ ]
fewer_kept (b ∷ fewer) more [] within i = elim i [ ]
fewer_kept (true ∷ fewer) [] (y ∷ ys) within i = let no : ◌≡◌ {A = Option Bool} None (Some true) = within 0 refl in absurd (cc)
fewer_kept (true ∷ fewer) (false ∷ more) (y ∷ ys) within i = let no : Some false ≡ Some true = within 0 refl in absurd (cc)
fewer_kept (true ∷ fewer) (true ∷ more) (y ∷ ys) within (here e) = here e
fewer_kept (true ∷ fewer) (true ∷ more) (y ∷ ys) within (there i) = there (fewer_kept fewer more ys (λ k. within (suc k)) i)
fewer_kept (false ∷ fewer) [] (y ∷ ys) within i = fewer_kept fewer [] ys (λ k. within (suc k)) i
fewer_kept (false ∷ fewer) (true ∷ more) (y ∷ ys) within i = there (fewer_kept fewer more ys (λ k. within (suc k)) i)
fewer_kept (false ∷ fewer) (false ∷ more) (y ∷ ys) within i = fewer_kept fewer more ys (λ k. within (suc k)) i

-- so is what they say
fewer_said : {X Y : Type 0} {y : Y} (f : X → Option Y) (fewer more : List Bool) (xs : List X) → IsWithin fewer more → In y (filter_map f (items_where_true fewer xs)) →
    In y (filter_map f (items_where_true more xs))
fewer_said f fewer more xs within i =
    let from = from_filter_map f (items_where_true fewer xs) i in In-filter_map f (fewer_kept fewer more xs within from.member) from.is

pub met_fewer : (p : Problem) (fewer more : List Bool) (f : Family) → IsWithin fewer more → IsTrue (meets (restricted p more) f) → IsTrue (meets (restricted p fewer) f)
met_fewer p fewer more f within met =
    let parts = met_parts (restricted p more) f met in
    met_whole (restricted p fewer) f (record {
      fits = parts.fits;
      within = parts.within;
      apart = parts.apart;
      covered = parts.covered;
      nonempty = parts.nonempty;
      said = all_from (holds f) (constraints (restricted p fewer)) (λ c i. all_at (holds f) parts.said (elim (from_append (filter_map as_constraint (kept_articulations (restricted p fewer))) i) [
        | inl stated ↦ In-left p.narrowings (fewer_said as_constraint fewer more p.articulations within stated)
        | inr narrowed ↦ In-right (filter_map as_constraint (kept_articulations (restricted p more))) narrowed
      ]));
      summed = all_from (sum_holds f) (kept_sums (restricted p fewer)) (λ sum i. all_at (sum_holds f) parts.summed (fewer_said as_sum fewer more p.articulations within i));
    })

pub met_by_fewer : (p : Problem) (fewer more : List Bool) (f : Family) → IsWithin fewer more → IsMetBy (restricted p more) f → IsMetBy (restricted p fewer) f
met_by_fewer p fewer more f within by = record { sets = by.sets; met = met_fewer p fewer more f within by.met }

-- so fewer are consistent where more are
pub consistent_fewer : (p : Problem) (fewer more : List Bool) → IsWithin fewer more → IsConsistent p more → IsConsistent p fewer
consistent_fewer p fewer more within consistent = (consistent.0, met_fewer p fewer more consistent.0 within consistent.1)
