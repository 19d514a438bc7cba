-- What stays as a watch moves, and as an entry is dropped.
use Rattle.std.proofs.Common.{◌≡◌, ◌≢◌, ◌∙◌, ◌⊎◌, ℕ, ◌-◌, ◌<◌, ◌≤◌, true, List, length, get_or, set, refl, sym, ap, subst, arith, inl, inr, length-set}
use Rattle.std.specs.List.{swap, Contains}
use Rattle.std.proofs.lemmas.Bool.{cases_eq}
use Rattle.std.proofs.lemmas.List.Sorted.{Contains-permutation, IsPermutation-swap, IsPermutation-refl, IsPermutation-sym, IsPermutation-trans}
use Rattle.lits_core.specs.Literals.{negation_of}
use Rattle.clause_arena.specs.Records.{Record, record_at, with_lits_swapped}
use Rattle.watch_arena.specs.declared.places.Place.{Place}
use Rattle.watch_arena.specs.Places.{place_at}
use Rattle.watch_arena.specs.Trails.{IsSameRecord, SameRecords}
use Rattle.watch_arena.specs.Engines.{mark_of, FalseBelow, IsReasonBelow, AreReasoned, IsWatched, IsShort, AreShortOrWatched, IsShortSettled, IsSettledAt, RecordsInRange}
use Rattle.watch_arena.proofs.WatchedPair.{record_at-same, record_at-other, live_within, IsWatched-at, IsWatched-swapped, IsWatched-only, IsWatched-moved, short_not_watched}

-- each record is itself
pub SameRecords-refl : (records : List Record) → SameRecords records records
SameRecords-refl records = record {
  count = refl;
  each = λ at. record { id = refl; live = refl; lits = IsPermutation-refl (record_at records at).lits };
}

-- one after another
pub SameRecords-trans : (a b c : List Record) → SameRecords a b → SameRecords b c → SameRecords a c
SameRecords-trans a b c s t = record {
  count = t.count ∙ s.count;
  each = λ at. let x = s.each at in let y = t.each at in record {
    id = y.id ∙ x.id;
    live = y.live ∙ x.live;
    lits = IsPermutation-trans (record_at a at).lits (record_at b at).lits (record_at c at).lits x.lits y.lits;
  };
}

-- two literals of one of them exchanged
pub SameRecords-swap : (records : List Record) (at slot k : ℕ) → at < length records → slot < length (record_at records at).lits → k < length (record_at records at).lits → SameRecords records (set records at (with_lits_swapped (record_at records at) slot k))
SameRecords-swap records at slot k lt first second = record {
  count = length-set records at (with_lits_swapped (record_at records at) slot k);
  each = λ b. elim (cases_eq b at) [
    | inl e ↦
        let here : IsSameRecord (record_at records at) (with_lits_swapped (record_at records at) slot k) = record {
          id = refl;
          live = refl;
          lits = IsPermutation-swap (record_at records at).lits (swap (record_at records at).lits slot k) slot k first second refl;
        } in
        let now : IsSameRecord (record_at records at) (record_at (set records at (with_lits_swapped (record_at records at) slot k)) at) = subst (λ (r : Record). IsSameRecord (record_at records at) r) (sym (record_at-same records at (with_lits_swapped (record_at records at) slot k) lt)) here in
        subst (λ (n : ℕ). IsSameRecord (record_at records n) (record_at (set records at (with_lits_swapped (record_at records at) slot k)) n)) (sym e) now
    | inr ne ↦
        subst (λ (r : Record). IsSameRecord (record_at records b) r) (sym (record_at-other records at b (with_lits_swapped (record_at records at) slot k) ne)) (record { id = refl; live = refl; lits = IsPermutation-refl (record_at records b).lits })
  ];
}

-- a literal of a record, by either
pub Contains-same : (r s : Record) (lit : ℕ) → IsSameRecord r s → Contains r.lits lit → Contains s.lits lit
Contains-same r s lit same c = Contains-permutation r.lits s.lits lit same.lits c

pub Contains-same_back : (r s : Record) (lit : ℕ) → IsSameRecord r s → Contains s.lits lit → Contains r.lits lit
Contains-same_back r s lit same c = Contains-permutation s.lits r.lits lit (IsPermutation-sym r.lits s.lits same.lits) c

-- a reason stays one
pub IsReasonBelow-same : (r s : Record) (marks : List ℕ) (n lit : ℕ) → IsSameRecord r s → IsReasonBelow r marks n lit → IsReasonBelow s marks n lit
IsReasonBelow-same r s marks n lit same p = record {
  live = same.live ∙ p.live;
  has = Contains-same r s lit same p.has;
  others = λ m c ne. p.others m (Contains-same_back r s m same c) ne;
}

pub AreReasoned-same : (old new : List Record) (marks : List ℕ) (places : List Place) → SameRecords old new → AreReasoned old marks places → AreReasoned new marks places
AreReasoned-same old new marks places same p q at lt is =
    IsReasonBelow-same (record_at old at) (record_at new at) marks q (place_at places q).lit (same.each at) (p q at lt is)

pub RecordsInRange-same : (old new : List Record) (variables : ℕ) → SameRecords old new → RecordsInRange old variables → RecordsInRange new variables
RecordsInRange-same old new variables same p at lit c = p at lit (Contains-same_back (record_at old at) (record_at new at) lit (same.each at) c)

-- what is known of a move, by the parts that it speaks of
pub record Move (records : List Record) (marks : List ℕ) (at slot k lit other : ℕ) : Type 0 where
  pub live : (record_at records at).live ≡ true
  pub slot_is : slot < 2
  pub third : 2 ≤ k
  pub within : k < length (record_at records at).lits
  pub lit_is : get_or (record_at records at).lits slot 0 ≡ lit
  pub other_is : get_or (record_at records at).lits (1 - slot) 0 ≡ other
  pub differ : lit ≢ other
  pub lit_false : 0 < mark_of marks (negation_of lit)
  pub new_differs : get_or (record_at records at).lits k 0 ≢ other
  pub new_not_false : mark_of marks (negation_of (get_or (record_at records at).lits k 0)) ≡ 0

-- the record after it
abbrev pub moved : List Record → ℕ → ℕ → ℕ → List Record
moved records at slot k = set records at (with_lits_swapped (record_at records at) slot k)

-- the literal that is watched anew
abbrev pub fresh : List Record → ℕ → ℕ → ℕ
fresh records at k = get_or (record_at records at).lits k 0

-- before it the clause watched these two
pub Move-was : (records : List Record) (marks : List ℕ) (at slot k lit other : ℕ) → Move records marks at slot k lit other → IsWatched (record_at records at).lits lit other
Move-was records marks at slot k lit other m =
    let within = m.within in let third = m.third in
    IsWatched-at (record_at records at).lits slot lit other m.slot_is (omega arith) m.lit_is m.other_is m.differ

-- after it these
pub Move-is : (records : List Record) (marks : List ℕ) (at slot k lit other : ℕ) → Move records marks at slot k lit other → IsWatched (record_at (moved records at slot k) at).lits (fresh records at k) other
Move-is records marks at slot k lit other m =
    let lt = live_within records at m.live in
    subst (λ (r : Record). IsWatched r.lits (fresh records at k) other) (sym (record_at-same records at (with_lits_swapped (record_at records at) slot k) lt))
    (IsWatched-moved (record_at records at).lits slot k other m.slot_is m.third m.within m.other_is m.new_differs)

-- it stays live
pub Move-live : (records : List Record) (at slot k : ℕ) → (record_at records at).live ≡ true → (record_at (moved records at slot k) at).live ≡ true
Move-live records at slot k live =
    ap (λ (r : Record). r.live) (record_at-same records at (with_lits_swapped (record_at records at) slot k) (live_within records at live)) ∙ live

-- each live clause stays short or watched
pub AreShortOrWatched-moved : (records : List Record) (marks : List ℕ) (at slot k lit other : ℕ) → Move records marks at slot k lit other → AreShortOrWatched records → AreShortOrWatched (moved records at slot k)
AreShortOrWatched-moved records marks at slot k lit other m kinds b live =
    elim (cases_eq b at) [
      | inl e ↦
          let w = Move-is records marks at slot k lit other m in
          let lits : List ℕ = (record_at (moved records at slot k) at).lits in
          let ne : get_or lits 0 0 ≢ get_or lits 1 0 = λ same. elim w.either [ inl p ↦ w.differ (sym p.0 ∙ same ∙ p.1) | inr p ↦ w.differ (sym p.1 ∙ sym same ∙ p.0) ] in
          let here : IsWatched lits (get_or lits 0 0) (get_or lits 1 0) = record { differ = ne; two = w.two; either = inl (refl, refl) } in
          let P : ℕ → Type 0 = λ n. IsShort (record_at (moved records at slot k) n).lits ⊎ IsWatched (record_at (moved records at slot k) n).lits (get_or (record_at (moved records at slot k) n).lits 0 0) (get_or (record_at (moved records at slot k) n).lits 1 0) in
          subst P (sym e) (inr here)
      | inr ne ↦
          let same : record_at (moved records at slot k) b ≡ record_at records b = record_at-other records at b (with_lits_swapped (record_at records at) slot k) ne in
          let P : Record → Type 0 = λ r. IsShort r.lits ⊎ IsWatched r.lits (get_or r.lits 0 0) (get_or r.lits 1 0) in
          subst P (sym same) (kinds b (sym (ap (λ (r : Record). r.live) same) ∙ live))
    ]

-- what is settled stays so
pub IsSettledAt-moved : (records : List Record) (shorts marks : List ℕ) (at slot k lit other h s n : ℕ) → Move records marks at slot k lit other → ((l : ℕ) → 0 < mark_of marks l → mark_of marks (negation_of l) ≡ 0) → IsSettledAt records shorts marks h s n → IsSettledAt (moved records at slot k) shorts marks h s n
IsSettledAt-moved records shorts marks at slot k lit other h s n m apart p = record {
  within = p.within;
  watched = λ b x y live w x_false. elim (cases_eq b at) [
    | inl e ↦
        let v : IsWatched (record_at (moved records at slot k) at).lits x y = subst (λ (c : ℕ). IsWatched (record_at (moved records at slot k) c).lits x y) e w in
        elim (IsWatched-only (record_at (moved records at slot k) at).lits (fresh records at k) other x y (Move-is records marks at slot k lit other m) v) [
          | inl q ↦ absurd (let none : mark_of marks (negation_of x) ≡ 0 = ap (λ (l : ℕ). mark_of marks (negation_of l)) q.0 ∙ m.new_not_false in let pos = x_false.0 in omega arith)
          | inr q ↦
              let other_false : FalseBelow marks h other = subst (λ (l : ℕ). FalseBelow marks h l) q.0 x_false in
              let lit_true = p.watched at other lit m.live (IsWatched-swapped (record_at records at).lits lit other (Move-was records marks at slot k lit other m)) other_false in
              absurd (let none = apart lit lit_true.0 in let pos = m.lit_false in omega arith)
        ]
    | inr ne ↦
        let same : record_at (moved records at slot k) b ≡ record_at records b = record_at-other records at b (with_lits_swapped (record_at records at) slot k) ne in
        p.watched b x y (sym (ap (λ (r : Record). r.live) same) ∙ live) (subst (λ (r : Record). IsWatched r.lits x y) same w) x_false
  ];
  alone = record {
    within = p.alone.within;
    each = λ b live short. elim (cases_eq b at) [
      | inl e ↦ absurd (short_not_watched (record_at (moved records at slot k) at).lits (fresh records at k) other (subst (λ (c : ℕ). IsShort (record_at (moved records at slot k) c).lits) e short) (Move-is records marks at slot k lit other m))
      | inr ne ↦
          let same : record_at (moved records at slot k) b ≡ record_at records b = record_at-other records at b (with_lits_swapped (record_at records at) slot k) ne in
          subst (λ (r : Record). IsShortSettled r.lits b shorts marks s n) (sym same) (p.alone.each b (sym (ap (λ (r : Record). r.live) same) ∙ live) (subst (λ (r : Record). IsShort r.lits) same short))
    ];
  };
}
