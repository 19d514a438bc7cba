-- The order of lists of flags, and an item put in its place.
use Rattle.std.proofs.Common.{◌≡◌, ℕ, zero, suc, ◌<◌, ◌≤◌, Bool, true, false, ◌&&◌, not, List, [], ◌∷◌, ◌++◌, length, get_or, take, drop, ◌⊎◌, inl, inr, refl, sym, ap, ◌∙◌, subst, arith, is_lt}
use Rattle.std.specs.Prelude.{All, Contains, IsTrue, ◌↔◌}
use Rattle.std.specs.List.{list_all}
use Rattle.std.proofs.lemmas.Bool.{and_from, false≢true, not-true}
use Rattle.world_model.specs.Questions.{flags_cmp}
use Rattle.world_model.proofs.Members.{In, here, there, all_at, all_from, contains_from_in, in_from_contains, place_of}
use Rattle.conflict_lattice.specs.Lattice.{ascend}

-- whether one list comes before another
abbrev pub comes : List Bool → List Bool → Bool
comes a b = is_lt (flags_cmp a b)

pub comes_chain : (a b c : List Bool) → length a ≡ length b → length b ≡ length c → comes a b ≡ true → comes b c ≡ true → comes a c ≡ true
comes_chain [] [] c n m one two = absurd (false≢true one)
comes_chain [] (y ∷ b) c n m one two = absurd (omega arith)
comes_chain (x ∷ a) [] c n m one two = absurd (omega arith)
comes_chain (x ∷ a) (y ∷ b) [] n m one two = absurd (omega arith)
comes_chain (true ∷ a) (true ∷ b) (true ∷ c) n m one two = comes_chain a b c (omega arith) (omega arith) one two
comes_chain (false ∷ a) (false ∷ b) (false ∷ c) n m one two = comes_chain a b c (omega arith) (omega arith) one two
comes_chain (false ∷ a) (true ∷ b) (true ∷ c) n m one two = refl
comes_chain (false ∷ a) (false ∷ b) (true ∷ c) n m one two = refl
comes_chain (false ∷ a) (true ∷ b) (false ∷ c) n m one two = absurd (false≢true two)
comes_chain (true ∷ a) (false ∷ b) (z ∷ c) n m one two = absurd (false≢true one)
comes_chain (true ∷ a) (true ∷ b) (false ∷ c) n m one two = absurd (false≢true two)

-- a list comes before another, or behind it, or is the same
pub comes_cases : (a b : List Bool) → length a ≡ length b → comes a b ≡ false → (a ≡ b) ⊎ (comes b a ≡ true)
comes_cases [] [] n h = inl refl
comes_cases [] (y ∷ b) n h = absurd (omega arith)
comes_cases (x ∷ a) [] n h = absurd (omega arith)
comes_cases (true ∷ a) (true ∷ b) n h = elim (comes_cases a b (omega arith) h) [
  | inl same ↦ inl (ap (λ fs. true ∷ fs) same)
  | inr behind ↦ inr behind
]
comes_cases (false ∷ a) (false ∷ b) n h = elim (comes_cases a b (omega arith) h) [
  | inl same ↦ inl (ap (λ fs. false ∷ fs) same)
  | inr behind ↦ inr behind
]
comes_cases (true ∷ a) (false ∷ b) n h = inr refl
comes_cases (false ∷ a) (true ∷ b) n h = absurd (false≢true (sym h))

two_parts : (a b : Bool) → (a && b) ≡ true → (a ≡ true) × (b ≡ true)
two_parts true true h = (refl, refl)
two_parts true false h = absurd (false≢true h)
two_parts false b h = absurd (false≢true h)

-- a list with an item more
abbrev inserted : List (List Bool) → ℕ → List Bool → List (List Bool)
inserted list place item = take place list ++ item ∷ drop place list

-- the items of it
pub inserted_cases : (list : List (List Bool)) (place : ℕ) (item flags : List Bool) → In flags (inserted list place item) → In flags list ⊎ (flags ≡ item)
inserted_cases list zero item flags (here e) = inr e
inserted_cases list zero item flags (there i) = inl i
inserted_cases [] (suc place) item flags (here e) = inr e
inserted_cases [] (suc place) item flags (there i) = inl i
inserted_cases (x ∷ list) (suc place) item flags (here e) = inl (here e)
inserted_cases (x ∷ list) (suc place) item flags (there i) = elim (inserted_cases list place item flags i) [
  | inl old ↦ inl (there old)
  | inr same ↦ inr same
]

pub item_inserted : (list : List (List Bool)) (place : ℕ) (item : List Bool) → In item (inserted list place item)
item_inserted list zero item = here refl
item_inserted [] (suc place) item = here refl
item_inserted (x ∷ list) (suc place) item = there (item_inserted list place item)

pub old_inserted : (list : List (List Bool)) (place : ℕ) (item flags : List Bool) → In flags list → In flags (inserted list place item)
old_inserted list zero item flags i = there i
old_inserted [] (suc place) item flags i = elim i [ ]
old_inserted (x ∷ list) (suc place) item flags (here e) = here e
old_inserted (x ∷ list) (suc place) item flags (there i) = there (old_inserted list place item flags i)

-- an item comes before all of an ascending list whose first it comes before
before_all : (item first : List Bool) (rest : List (List Bool)) → length item ≡ length first → ((flags : List Bool) → In flags rest → length flags ≡ length item) → comes item first ≡ true → list_all (comes first) rest ≡ true →
    list_all (comes item) (first ∷ rest) ≡ true
before_all item first rest n counted one later =
    and_from (comes item first) (list_all (comes item) rest) one (all_from (comes item) rest (λ flags i. comes_chain item first flags n (sym n ∙ sym (counted flags i)) one (all_at (comes first) later i)))

-- the place where an item belongs keeps the order
insert_ascend : (list : List (List Bool)) (place : ℕ) (item : List Bool) → ascend list ≡ true → ((flags : List Bool) → In flags list → length flags ≡ length item) → (In item list → ⊥) → place ≤ length list →
    ((k : ℕ) → k < place → comes (get_or list k []) item ≡ true) → (place < length list → comes (get_or list place []) item ≡ false) → ascend (inserted list place item) ≡ true
insert_ascend [] zero item up counted fresh low before behind = refl
insert_ascend [] (suc place) item up counted fresh low before behind = absurd (omega (arith, low))
insert_ascend (x ∷ list) zero item up counted fresh low before behind =
    let both = two_parts (list_all (comes x) list) (ascend list) up in
    let first : comes item x ≡ true = elim (comes_cases x item (counted x (here refl)) (behind (omega arith))) [
      | inl same ↦ absurd (fresh (here (sym same)))
      | inr later ↦ later
    ] in
    and_from (list_all (comes item) (x ∷ list)) (ascend (x ∷ list)) (before_all item x list (sym (counted x (here refl))) (λ flags i. counted flags (there i)) first both.0) up
insert_ascend (x ∷ list) (suc place) item up counted fresh low before behind =
    let both = two_parts (list_all (comes x) list) (ascend list) up in
    and_from (list_all (comes x) (inserted list place item)) (ascend (inserted list place item))
    (all_from (comes x) (inserted list place item) (λ flags i. elim (inserted_cases list place item flags i) [
      | inl old ↦ all_at (comes x) both.0 old
      | inr same ↦ ap (comes x) same ∙ before 0 (omega arith)
    ]))
    (insert_ascend list place item both.1 (λ flags i. counted flags (there i)) (λ i. fresh (there i)) (omega (arith, low)) (λ k small. before (suc k) (omega (arith, small))) (λ small. behind (omega (arith, small))))

-- lists with an item more
abbrev pub Adds : List (List Bool) → List Bool → List (List Bool) → Type 0
Adds old item new = (flags : List Bool) → Contains new flags ↔ (Contains old flags ⊎ (flags ≡ item))

-- an item put in its place
pub put_in : (list seen : List (List Bool)) (item flags : List Bool) (place : ℕ) (new : List (List Bool)) → seen ≡ list → flags ≡ item → IsTrue (ascend list) → All (λ other. length other ≡ length item) list → (Contains list item → ⊥) →
    place ≤ length seen → ((k : ℕ) → k < place → IsTrue (comes (get_or seen k []) flags)) → (place < length seen → IsTrue (not (comes (get_or seen place []) flags))) → new ≡ inserted list place item →
    IsTrue (ascend new) × Adds list item new
put_in list seen item flags place new same is up counted fresh low before behind put = (
  subst (λ items. IsTrue (ascend items)) (sym put) (insert_ascend list place item up
      (λ other i. let at = place_of i in subst (λ x. length x ≡ length item) (at.is other) (counted at.place other at.within))
      (λ i. fresh (contains_from_in i)) (omega (arith, low, ap length same))
      (λ k small. ap (λ xs. comes (get_or xs k []) item) (sym same) ∙ ap (comes (get_or seen k [])) (sym is) ∙ before k small)
      (λ small. ap (λ xs. comes (get_or xs place []) item) (sym same) ∙ ap (comes (get_or seen place [])) (sym is) ∙ not-true (comes (get_or seen place []) flags) (behind (omega (arith, small, ap length same))))),
  λ other. (
    λ there. elim (inserted_cases list place item other (in_from_contains (inserted list place item) (subst (λ items. Contains items other) put there))) [
      | inl old ↦ inl (contains_from_in old)
      | inr one ↦ inr one
    ],
    λ found. subst (λ items. Contains items other) (sym put) (elim found [
      | inl old ↦ contains_from_in (old_inserted list place item other (in_from_contains list old))
      | inr one ↦ subst (Contains (inserted list place item)) (sym one) (contains_from_in (item_inserted list place item))
    ]),
  ),
)
