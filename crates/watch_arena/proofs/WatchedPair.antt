-- A clause's watch moves from one literal to another.
use Rattle.std.proofs.Common.{◌≡◌, ◌≢◌, ◌∙◌, ◌⊎◌, ℕ, ◌-◌, ◌<◌, ◌≤◌, true, false, List, [], ◌∷◌, ◌++◌, length, get_or, set, refl, sym, ap, arith, inl, inr, get_or-set_same, get_or-set_other}
use Rattle.std.specs.List.{swap}
use Rattle.std.specs.List.{Contains}
use Rattle.std.proofs.lemmas.Bool.{cases_eq, cases_lt}
use Rattle.std.proofs.lemmas.List.{get_or_append_left, get_or_push, get_or_past, get_or_default, length_push}
use Rattle.std.proofs.lemmas.List.Edits.{Swapped, swapped_from_swap, length-swap}
use Rattle.clause_arena.specs.Records.{Record, record_at, no_record}
use Rattle.watch_arena.specs.Engines.{IsWatched, IsShort}

-- an element by its index
pub contains_at : (xs : List ℕ) (k x : ℕ) → k < length xs → get_or xs k 0 ≡ x → Contains xs x
contains_at xs k x lt is = (k, lt, get_or_default xs k x 0 lt ∙ is)

-- the index of an element
pub index_of : (xs : List ℕ) (x : ℕ) → Contains xs x → (k : ℕ) × (k < length xs) × (get_or xs k 0 ≡ x)
index_of xs x c = (c.0, c.1, get_or_default xs c.0 0 x c.1 ∙ c.2)

-- the records after one of them was changed
pub record_at-same : (records : List Record) (at : ℕ) (r : Record) → at < length records → record_at (set records at r) at ≡ r
record_at-same records at r lt = get_or-set_same records at r no_record lt

pub record_at-other : (records : List Record) (at b : ℕ) (r : Record) → b ≢ at → record_at (set records at r) b ≡ record_at records b
record_at-other records at b r ne = get_or-set_other records at b r no_record ne

-- a record of the list with one more at its end
pub record_at-put : (records : List Record) (r : Record) (at : ℕ) → at ≢ length records → record_at (records ++ r ∷ []) at ≡ record_at records at
record_at-put records r at ne =
    elim (cases_lt at (length records)) [
      | inl lt ↦ get_or_append_left records (r ∷ []) no_record at lt
      | inr ge ↦ let size = length_push records r in get_or_past (records ++ r ∷ []) at no_record (omega arith) ∙ sym (get_or_past records at no_record ge)
    ]

pub record_at-new : (records : List Record) (r : Record) → record_at (records ++ r ∷ []) (length records) ≡ r
record_at-new records r = get_or_push records r no_record (length records) refl

-- a live record is one of the list
pub live_within : (records : List Record) (at : ℕ) → (record_at records at).live ≡ true → at < length records
live_within records at on = elim (cases_lt at (length records)) [
  | inl lt ↦ lt
  | inr ge ↦ absurd (let off : (record_at records at).live ≡ false = ap (λ (r : Record). r.live) (get_or_past records at no_record ge) in let clash : true ≡ false = sym on ∙ off in cc)
]

-- a clause is watched by its first two literals
pub IsWatched-swapped : (lits : List ℕ) (a b : ℕ) → IsWatched lits a b → IsWatched lits b a
IsWatched-swapped lits a b w = record {
  differ = λ e. w.differ (sym e);
  two = w.two;
  either = elim w.either [ inl p ↦ inr p | inr p ↦ inl p ];
}

pub IsWatched-first : (lits : List ℕ) → 2 ≤ length lits → get_or lits 0 0 ≢ get_or lits 1 0 → IsWatched lits (get_or lits 0 0) (get_or lits 1 0)
IsWatched-first lits two ne = record { differ = ne; two = two; either = inl (refl, refl) }

-- by the slot of one of them
pub IsWatched-at : (lits : List ℕ) (slot a b : ℕ) → slot < 2 → 2 ≤ length lits → get_or lits slot 0 ≡ a → get_or lits (1 - slot) 0 ≡ b → a ≢ b → IsWatched lits a b
IsWatched-at lits slot a b small two first second ne = record {
  differ = ne;
  two = two;
  either = elim (cases_eq slot 0) [
    | inl e ↦ inl (ap (λ (n : ℕ). get_or lits n 0) (sym e) ∙ first, ap (λ (n : ℕ). get_or lits (1 - n) 0) (sym e) ∙ second)
    | inr ne0 ↦ let e : slot ≡ 1 = omega arith in
        inr (ap (λ (n : ℕ). get_or lits (1 - n) 0) (sym e) ∙ second, ap (λ (n : ℕ). get_or lits n 0) (sym e) ∙ first)
  ];
}

-- the pair that is watched is one alone
pub IsWatched-only : (lits : List ℕ) (a b c d : ℕ) → IsWatched lits a b → IsWatched lits c d → ((c ≡ a) × (d ≡ b)) ⊎ ((c ≡ b) × (d ≡ a))
IsWatched-only lits a b c d w v =
    elim w.either [
      | inl p ↦ elim v.either [ inl q ↦ inl (sym q.0 ∙ p.0, sym q.1 ∙ p.1) | inr q ↦ inr (sym q.1 ∙ p.1, sym q.0 ∙ p.0) ]
      | inr p ↦ elim v.either [ inl q ↦ inr (sym q.0 ∙ p.0, sym q.1 ∙ p.1) | inr q ↦ inl (sym q.1 ∙ p.1, sym q.0 ∙ p.0) ]
    ]

-- after a literal further on is exchanged with a watched one, that one is watched in its place
pub IsWatched-moved : (lits : List ℕ) (slot k other : ℕ) → slot < 2 → 2 ≤ k → k < length lits → get_or lits (1 - slot) 0 ≡ other → get_or lits k 0 ≢ other → IsWatched (swap lits slot k) (get_or lits k 0) other
IsWatched-moved lits slot k other small third within is ne =
    let s : Swapped (λ n. get_or lits n 0) (λ n. get_or (swap lits slot k) n 0) slot k = swapped_from_swap lits (swap lits slot k) slot k 0 (omega arith) within refl in
    let size : length (swap lits slot k) ≡ length lits = length-swap lits slot k in
    IsWatched-at (swap lits slot k) slot (get_or lits k 0) other small (omega arith) s.0
    (s.2 (1 - slot) (λ e. absurd (omega arith)) (λ e. absurd (omega arith)) ∙ is) ne

-- a short clause has no two that differ
pub short_not_watched : (lits : List ℕ) (a b : ℕ) → IsShort lits → IsWatched lits a b → ⊥
short_not_watched lits a b short w =
    let two = w.two in
    let same : get_or lits 1 0 ≡ get_or lits 0 0 = short 1 (omega arith) in
    elim w.either [ inl p ↦ w.differ (sym p.0 ∙ sym same ∙ p.1) | inr p ↦ w.differ (sym p.1 ∙ same ∙ p.0) ]
