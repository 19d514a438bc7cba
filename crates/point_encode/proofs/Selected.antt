-- The selectors that a prefix makes true, by what they say.
use Rattle.std.proofs.Common.{◌≡◌, ◌∙◌, ℕ, zero, suc, ◌+◌, ◌*◌, ◌<◌, Bool, true, false, List, length, refl, sym, ap, subst, arith}
use Rattle.std.specs.Prelude.{Contains}
use Rattle.rcc5_core.specs.declared.Rel.{Rel}
use Rattle.rcc5_core.specs.declared.Regions.{Regions}
use Rattle.rcc5_core.specs.declared.Occupancy.TheVariants.{Empty as EmptyWord}
use Rattle.rcc5_core.specs.Region.{word_at, same_word, forced_regions}
use Rattle.world_model.specs.Problem.{Problem, concept_count}
use Rattle.world_model.specs.Alive.{allowed, problem_at}
use Rattle.world_model.specs.Node.{pair_at}
use Rattle.world_model.proofs.Members.{contains_from_in}
use Rattle.constraint_set.specs.Readers.{sum_places}
use Rattle.point_encode.specs.Model.Clauses.{is_so}
use Rattle.point_encode.specs.Model.Forced.{region_number, region_with, selectors_of}
use Rattle.point_encode.proofs.model.Selectors.{flag_of, In-region_selectors, In-sum_selectors}
use Rattle.point_encode.specs.declared.asked.Selector.{Selector}
use Rattle.point_encode.specs.declared.asked.Selector.TheVariants.{Empty, Kept}
use Rattle.point_encode.specs.Selectors.{IsSelector, selector_lit}

-- the number of the region with a number
number_with : (part : ℕ) → part < 3 → region_number (region_with part) ≡ part
number_with zero lt = refl
number_with (suc zero) lt = refl
number_with (suc (suc zero)) lt = refl
number_with (suc (suc (suc part))) lt = absurd (omega arith)

-- that of a region that is forced empty
pub empty_selected : (p : Problem) (m : List Rel) (found : Selector) (k part lit : ℕ) (words : Regions) → found ≡ Empty k part → selector_lit p found ≡ lit → IsSelector p found →
    words ≡ forced_regions (allowed (problem_at p m) (pair_at p k)) → same_word (word_at words (region_with part)) EmptyWord ≡ true → Contains (selectors_of p m) lit
empty_selected p m found k part lit words is same range by empty =
    let within = subst (IsSelector p) is range in
    let forced = ap (λ ws. same_word (word_at ws (region_with part)) EmptyWord) (sym by) ∙ empty in
    subst (λ l. Contains (selectors_of p m) l) (ap (λ n. is_so (concept_count p + 3 * k + n)) (number_with part within.1) ∙ sym (ap (selector_lit p) is) ∙ same)
    (contains_from_in (In-region_selectors p m k (region_with part) within.0 (record { same = forced })))

-- that of a sum that is kept
pub kept_selected : (p : Problem) (m : List Rel) (found : Selector) (sum lit : ℕ) → found ≡ Kept sum → selector_lit p found ≡ lit → IsSelector p found →
    flag_of p.kept (sum_places p) sum ≡ true → Contains (selectors_of p m) lit
kept_selected p m found sum lit is same range flag =
    let within = subst (IsSelector p) is range in
    subst (λ l. Contains (selectors_of p m) l) (sym (ap (selector_lit p) is) ∙ same) (contains_from_in (In-sum_selectors p m sum within flag))
