-- Lists of flags that are parts of others.
use Rattle.std.proofs.Common.{◌≡◌, ℕ, zero, suc, ◌<◌, Bool, true, false, List, [], ◌∷◌, length, get_or, set, set-set, ◌⊎◌, inl, inr, refl, sym, ap, ◌∙◌, subst, arith}
use Rattle.std.specs.Prelude.{Some, None, slice_get, Option}
use Rattle.std.proofs.lemmas.Bool.{cases_eq, false≢true}
use Rattle.std.proofs.lemmas.Option.{slice_get_read}
use Rattle.family_solver.specs.Kept.Keeping.{IsWithin}
use Rattle.conflict_lattice.specs.Rounds.{is_part}

-- as a test, and as a fact
pub part_within : (few more : List Bool) → is_part few more ≡ true → IsWithin few more
part_within [] more part k h = absurd (cc)
part_within (true ∷ few) [] part k h = absurd (false≢true part)
part_within (false ∷ few) [] part zero h = let no : Some false ≡ Some true = h in absurd (cc)
part_within (false ∷ few) [] part (suc k) h = part_within few [] part k h
part_within (true ∷ few) (true ∷ more) part zero h = refl
part_within (true ∷ few) (true ∷ more) part (suc k) h = part_within few more part k h
part_within (true ∷ few) (false ∷ more) part k h = absurd (false≢true part)
part_within (false ∷ few) (c ∷ more) part zero h = let no : Some false ≡ Some true = h in absurd (cc)
part_within (false ∷ few) (c ∷ more) part (suc k) h = part_within few more part k h

pub within_part : (few more : List Bool) → IsWithin few more → is_part few more ≡ true
within_part [] more within = refl
within_part (true ∷ few) [] within = let no : ◌≡◌ {A = Option Bool} None (Some true) = within 0 refl in absurd (cc)
within_part (false ∷ few) [] within = within_part few [] (λ k. within (suc k))
within_part (true ∷ few) (true ∷ more) within = within_part few more (λ k. within (suc k))
within_part (true ∷ few) (false ∷ more) within = let no : Some false ≡ Some true = within 0 refl in absurd (cc)
within_part (false ∷ few) (c ∷ more) within = within_part few more (λ k. within (suc k))

-- parts of parts
pub within_all : (a b c : List Bool) → IsWithin a b → IsWithin b c → IsWithin a c
within_all a b c one other k h = other k (one k h)

-- a flag that stands is one of the list
pub in_length : (flags : List Bool) (k : ℕ) (b : Bool) → slice_get flags k ≡ Some b → k < length flags
in_length [] k b h = absurd (cc)
in_length (f ∷ flags) zero b h = omega arith
in_length (f ∷ flags) (suc k) b h = let low = in_length flags k b h in omega (arith, low)

-- a flag that is written, and the others
pub set_here : (flags : List Bool) (k : ℕ) (b : Bool) → k < length flags → slice_get (set flags k b) k ≡ Some b
set_here [] k b low = absurd (omega arith)
set_here (f ∷ flags) zero b low = refl
set_here (f ∷ flags) (suc k) b low = set_here flags k b (omega arith)

pub set_other : (flags : List Bool) (k j : ℕ) (b : Bool) → (j ≡ k → ⊥) → slice_get (set flags k b) j ≡ slice_get flags j
set_other [] k j b apart = refl
set_other (f ∷ flags) zero zero b apart = absurd (apart refl)
set_other (f ∷ flags) zero (suc j) b apart = refl
set_other (f ∷ flags) (suc k) zero b apart = refl
set_other (f ∷ flags) (suc k) (suc j) b apart = set_other flags k j b (λ e. apart (ap suc e))

-- one that stood already
pub set_same : (flags : List Bool) (k : ℕ) (b : Bool) → slice_get flags k ≡ Some b → set flags k b ≡ flags
set_same [] k b h = refl
set_same (true ∷ flags) zero true h = refl
set_same (false ∷ flags) zero false h = refl
set_same (true ∷ flags) zero false h = absurd (cc)
set_same (false ∷ flags) zero true h = absurd (cc)
set_same (f ∷ flags) (suc k) b h = ap (λ fs. f ∷ fs) (set_same flags k b h)

-- one that was taken off does not stand
off_there : (flags : List Bool) (k : ℕ) → slice_get (set flags k false) k ≡ Some true → ⊥
off_there [] k h = absurd (cc)
off_there (f ∷ flags) zero h = let no : Some false ≡ Some true = h in absurd (cc)
off_there (f ∷ flags) (suc k) h = off_there flags k h

-- a flag that is true does not lack
pub both_there : (flags more : List Bool) (k : ℕ) → IsWithin flags more → slice_get flags k ≡ Some true → slice_get more k ≡ Some false → ⊥
both_there flags more k within h lacks = let no : Some true ≡ Some false = sym (within k h) ∙ lacks in absurd (cc)

-- with one taken off, of few and of more
pub within_off : (few more : List Bool) (k : ℕ) → IsWithin few more → IsWithin (set few k false) (set more k false)
within_off few more k within j h = elim (cases_eq j k) [
  | inl same ↦ absurd (off_there few k (subst (λ i. slice_get (set few k false) i ≡ Some true) same h))
  | inr apart ↦ set_other more k j false apart ∙ within j (sym (set_other few k j false apart) ∙ h)
]

pub off_within : (flags : List Bool) (k : ℕ) → IsWithin (set flags k false) flags
off_within flags k j h = elim (cases_eq j k) [
  | inl same ↦ absurd (off_there flags k (subst (λ i. slice_get (set flags k false) i ≡ Some true) same h))
  | inr apart ↦ sym (set_other flags k j false apart) ∙ h
]

-- a part that lacks a flag
pub within_lack : (few more : List Bool) (k : ℕ) → IsWithin few more → slice_get few k ≡ Some false → IsWithin few (set more k false)
within_lack few more k within lacks j h = elim (cases_eq j k) [
  | inl same ↦ let no : Some true ≡ Some false = sym h ∙ ap (slice_get few) same ∙ lacks in absurd (cc)
  | inr apart ↦ set_other more k j false apart ∙ within j h
]

-- and one that was taken off is lacking in each part
pub off_lacks : (few more : List Bool) (k : ℕ) → IsWithin few (set more k false) → slice_get few k ≡ Some true → ⊥
off_lacks few more k within h = off_there more k (within k h)

-- with one more
pub within_on : (few more : List Bool) (k : ℕ) → k < length more → IsWithin few more → IsWithin (set few k true) (set more k true)
within_on few more k low within j h = elim (cases_eq j k) [
  | inl same ↦ ap (slice_get (set more k true)) same ∙ set_here more k true low
  | inr apart ↦ set_other more k j true apart ∙ within j (sym (set_other few k j true apart) ∙ h)
]

pub on_within : (flags : List Bool) (k : ℕ) → IsWithin flags (set flags k true)
on_within flags k j h = elim (cases_eq j k) [
  | inl same ↦ ap (slice_get (set flags k true)) same ∙ set_here flags k true (in_length flags k true (sym (ap (slice_get flags) same) ∙ h))
  | inr apart ↦ set_other flags k j true apart ∙ h
]

pub within_have : (few more : List Bool) (k : ℕ) → IsWithin few more → slice_get more k ≡ Some true → IsWithin (set few k true) more
within_have few more k within has j h = elim (cases_eq j k) [
  | inl same ↦ ap (slice_get more) same ∙ has
  | inr apart ↦ within j (sym (set_other few k j true apart) ∙ h)
]

-- a flag stands or lacks
pub flag_cases : (flags : List Bool) (k : ℕ) → k < length flags → (slice_get flags k ≡ Some true) ⊎ (slice_get flags k ≡ Some false)
flag_cases [] k low = absurd (omega arith)
flag_cases (true ∷ flags) zero low = inl refl
flag_cases (false ∷ flags) zero low = inr refl
flag_cases (f ∷ flags) (suc k) low = flag_cases flags k (omega arith)

-- a part of the same length is all, or lacks something
pub part_cases : (few more : List Bool) → length few ≡ length more → IsWithin few more → (few ≡ more) ⊎ ((k : ℕ) × (slice_get more k ≡ Some true) × (slice_get few k ≡ Some false))
part_cases [] [] n within = inl refl
part_cases [] (c ∷ more) n within = absurd (omega arith)
part_cases (b ∷ few) [] n within = absurd (omega arith)
part_cases (true ∷ few) (false ∷ more) n within = let no : Some false ≡ Some true = within 0 refl in absurd (cc)
part_cases (false ∷ few) (true ∷ more) n within = inr (0, refl, refl)
part_cases (true ∷ few) (true ∷ more) n within = elim (part_cases few more (omega arith) (λ k. within (suc k))) [
  | inl same ↦ inl (ap (λ fs. true ∷ fs) same)
  | inr found ↦ inr (suc found.0, found.1, found.2)
]
part_cases (false ∷ few) (false ∷ more) n within = elim (part_cases few more (omega arith) (λ k. within (suc k))) [
  | inl same ↦ inl (ap (λ fs. false ∷ fs) same)
  | inr found ↦ inr (suc found.0, found.1, found.2)
]

-- a flag that was read
pub read_there : (flags : List Bool) (k : ℕ) (x b : Bool) → x ≡ get_or flags k x → x ≡ b → k < length flags → slice_get flags k ≡ Some b
read_there flags k x b at is low = slice_get_read flags (length flags) k x refl low at ∙ ap Some is

-- one that was written and written back
pub written_back : (flags : List Bool) (k : ℕ) (b other : Bool) → slice_get flags k ≡ Some b → set (set flags k other) k b ≡ flags
written_back flags k b other at = set-set flags k other b ∙ set_same flags k b at
