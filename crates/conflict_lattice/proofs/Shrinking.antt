-- From a conflict to a minimal one, place by place.
use Rattle.std.proofs.Common.{◌≡◌, ℕ, ◌+◌, ◌<◌, ◌≤◌, Bool, true, false, List, length, set, ◌⊎◌, inl, inr, sym, ap, ◌∙◌, subst, arith}
use Rattle.std.specs.Prelude.{slice_get}
use Rattle.std.proofs.lemmas.Bool.{cases_eq}
use Rattle.world_model.specs.Problem.{Problem, restricted}
use Rattle.world_model.specs.Family.{Family}
use Rattle.world_model.specs.Questions.{IsConsistent}
use Rattle.set_family.specs.Meeting.{IsMetBy}
use Rattle.family_solver.specs.Kept.Keeping.{IsClash, IsWithin}
use Rattle.family_solver.proofs.kept.Fewer.{consistent_fewer}
use Rattle.conflict_lattice.specs.Lattice.{IsMinimalConflict}
use Rattle.conflict_lattice.specs.Rounds.{IsShrunk}
use Rattle.conflict_lattice.proofs.Parts.{in_length, off_lacks, off_within, within_all, within_lack, within_off}

-- at first
pub shrunk_none : (p : Problem) (clash : List Bool) → IsClash p clash clash → IsShrunk p 0 clash
shrunk_none p clash is = record { flags = is.flags; inconsistent = is.inconsistent; needed = λ k low there. absurd (omega (arith, low)) }

-- the places up to the next one are those before it and it
below_next : (k place : ℕ) → k < place + 1 → (k < place) ⊎ (k ≡ place)
below_next k place low = elim (cases_eq k place) [
  | inl same ↦ inr same
  | inr apart ↦ inl (omega (arith, low, apart))
]

-- what is left without it is in conflict
pub shrunk_less : (p : Problem) (place : ℕ) (core less : List Bool) → IsShrunk p place core → IsClash p (set core place false) less → IsShrunk p (place + 1) less
shrunk_less p place core less so clash = record {
  flags = clash.flags;
  inconsistent = clash.inconsistent;
  needed = λ k low there. elim (below_next k place low) [
    | inl before ↦
        let within : IsWithin less core = within_all less (set core place false) core clash.within (off_within core place) in
        consistent_fewer p (set less k false) (set core k false) (within_off less core k within) (so.needed k before (within k there))
    | inr same ↦ absurd (off_lacks less core place clash.within (sym (ap (slice_get less) same) ∙ there))
  ];
}

pub less_within : (p : Problem) (place : ℕ) (core less : List Bool) → IsClash p (set core place false) less → IsWithin less core
less_within p place core less clash = within_all less (set core place false) core clash.within (off_within core place)

-- what is left without it holds together
pub shrunk_needed : (p : Problem) (place : ℕ) (core : List Bool) (f : Family) → IsShrunk p place core → IsMetBy (restricted p (set core place false)) f → IsShrunk p (place + 1) core
shrunk_needed p place core f so met = record {
  flags = so.flags;
  inconsistent = so.inconsistent;
  needed = λ k low there. elim (below_next k place low) [
    | inl before ↦ so.needed k before there
    | inr same ↦ subst (λ j. IsConsistent p (set core j false)) (sym same) (f, met.met)
  ];
}

-- at the end
pub shrunk_minimal : (p : Problem) (core : List Bool) (count : ℕ) → length core ≤ count → IsShrunk p count core → IsMinimalConflict p core
shrunk_minimal p core count all so = record {
  flags = so.flags;
  inconsistent = so.inconsistent;
  minimal = λ few flags part.
      let low : part.place < length core = in_length core part.place true part.there in
      consistent_fewer p few (set core part.place false) (within_lack few core part.place part.within part.gone) (so.needed part.place (omega (arith, low, all)) part.there);
}
