-- The claims of a lattice, one by one.
use Rattle.std.proofs.Common.{◌≡◌, ℕ, ◌+◌, ◌<◌, Bool, List, [], ◌∷◌, ◌++◌, length, take, get_or, sym, ap, ◌∙◌}
use Rattle.std.specs.Prelude.{All, Contains}
use Rattle.std.proofs.lemmas.List.{map_more}
use Rattle.world_model.specs.Problem.{Problem}
use Rattle.world_model.specs.Questions.{IsConsistent}
use Rattle.world_model.proofs.Members.{contains_from_in, In-get_or}
use Rattle.cert_text.specs.declared.line.Subject.TheVariants.{Kept}
use Rattle.cert_rules.specs.ClaimLists.{Claim}
use Rattle.pick_search.specs.Blocks.Blocks.{claimed}
use Rattle.family_solver.specs.Kept.Keeping.{IsClash}
use Rattle.family_solver.proofs.kept.Fewer.{consistent_fewer}
use Rattle.conflict_lattice.specs.Lattice.{IsLattice, IsMaximalConsistent, IsMinimalConflict, claims_of}
use Rattle.conflict_lattice.specs.Subsets.{Subsets}

-- the claim of a set
abbrev pub claim_of : Bool → List Bool → Claim
claim_of holds kept = record { subject = Kept kept; holds = holds }

-- one claim more
pub claims_more : (holds : Bool) (sets : List (List Bool)) (k : ℕ) (kept : List Bool) (one two : List Claim) → k < length sets → kept ≡ get_or sets k kept →
    one ≡ claims_of holds (take k sets) → two ≡ claimed (Kept kept) holds → one ++ two ≡ claims_of holds (take (k + 1) sets)
claims_more holds sets k kept one two low is first second =
    ap (λ claims. claims ++ two) first
    ∙ ap (λ claims. claims_of holds (take k sets) ++ claims) (second ∙ ap (λ flags. claim_of holds flags ∷ []) is)
    ∙ sym (map_more (claim_of holds) sets k kept low)

-- what is so of each list that is there is so of the list's items
all_there : (P : List Bool → Type 0) (xs : List (List Bool)) → ((x : List Bool) → Contains xs x → P x) → All P xs
all_there P xs each k d low = each (get_or xs k d) (contains_from_in (In-get_or xs k d low))

pub lattice_minimal : (p : Problem) (s : Subsets) → IsLattice p s → All (IsMinimalConflict p) s.conflicts
lattice_minimal p s is = all_there (IsMinimalConflict p) s.conflicts (λ kept there. (is.conflicts kept).0 there)

pub lattice_maximal : (p : Problem) (s : Subsets) → IsLattice p s → All (IsMaximalConsistent p) s.consistent
lattice_maximal p s is = all_there (IsMaximalConsistent p) s.consistent (λ kept there. (is.consistent kept).0 there)

-- nothing of what holds together is in conflict
pub no_clash : (p : Problem) (kept core : List Bool) → IsConsistent p kept → IsClash p kept core → ⊥
no_clash p kept core consistent clash = clash.inconsistent (consistent_fewer p core kept clash.within consistent)
