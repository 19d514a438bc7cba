-- Groups of open rows.
use Rattle.std.proofs.Common.{◌≡◌, ℕ, zero, suc, ◌+◌, ◌<◌, ◌≤◌, Bool, true, false, List, [], ◌∷◌, ◌++◌, ◌⊎◌, inl, inr, length, get_or, refl, sym, ◌∙◌, subst, arith}
use Rattle.std.specs.Prelude.{All, Contains}
use Rattle.std.proofs.lemmas.List.{length_push}
use Rattle.std.proofs.lemmas.List.Elements.{All-append, All-contains}
use Rattle.std.proofs.lemmas.Bool.{false≢true, cases_lt}
use Rattle.world_model.proofs.Members.{In, here, there, none_in, In-left, In-right, In-get_or, from_append, contains_from_in, in_from_contains}
use Rattle.bit_rows.specs.Rows.{BitRows, bit_in}
use Rattle.bit_rows.specs.declared.words.Cells.{Cells}
use Rattle.point_frames.specs.declared.groups.Group.{Group}
use Rattle.point_frames.specs.Groups.{AreOpen, HasOpen, AreSplit, IsGroup, IsListed, AreGrouped, IsOpenMet, AreMetBelow}

-- what holds of each element holds of them in another way
pub all_as : {X : Type 0} (P Q : X → Type 0) (xs : List X) → ((x : X) → P x → Q x) → All P xs → All Q xs
all_as P Q xs f h = λ k d small. f (get_or xs k d) (h k d small)

-- groups whose rows are all met
pub groups_are_met : (rows : BitRows) (places left right : ℕ → Bool) (cells : Cells) (groups : List Group) (count : ℕ) → AreGrouped rows groups count →
    All (λ group. All (IsOpenMet rows places left right cells) group.rows.items) groups → AreMetBelow rows places left right cells count
groups_are_met rows places left right cells groups count is met r low small =
    let listed = is.listed r low small in
    All-contains (IsOpenMet rows places left right cells) listed.group.rows.items r
    (All-contains (λ group. All (IsOpenMet rows places left right cells) group.rows.items) groups listed.group met listed.there) listed.has

-- a group whose rows are not all met, where all open rows are
pub group_is_met : (rows : BitRows) (places left right : ℕ → Bool) (cells : Cells) (group : Group) (count : ℕ) → IsGroup rows count group → AreMetBelow rows places left right cells count →
    All (IsOpenMet rows places left right cells) group.rows.items
group_is_met rows places left right cells group count is met = all_as (λ r. (2 ≤ r) × (r < count)) (IsOpenMet rows places left right cells) group.rows.items (λ r small. met r small.0 small.1) is.are_open

-- a list that one more was pushed to
pub contains_old : {X : Type 0} (xs : List X) {x : X} (y : X) → Contains xs x → Contains (xs ++ y ∷ []) x
contains_old xs y c = contains_from_in (In-left (y ∷ []) (in_from_contains xs c))

pub contains_new : {X : Type 0} (xs : List X) (y : X) → Contains (xs ++ y ∷ []) y
contains_new xs y = contains_from_in (In-right xs (here refl))

pub from_push : {X : Type 0} (xs : List X) {x : X} (y : X) → Contains (xs ++ y ∷ []) x → Contains xs x ⊎ (x ≡ y)
from_push xs y c = elim (from_append xs (in_from_contains (xs ++ y ∷ []) c)) [
  | inl before ↦ inl (contains_from_in before)
  | inr last ↦ inr (only last)
]
  where
    only : {X : Type 0} {x y : X} → In x (y ∷ []) → x ≡ y
    only (here e) = e
    only (there h) = absurd (none_in h)

pub all_none : {X : Type 0} (P : X → Type 0) → All P []
all_none P = λ k d small. absurd (omega (arith, small))

pub all_push : {X : Type 0} (P : X → Type 0) (xs : List X) (y : X) → All P xs → P y → All P (xs ++ y ∷ [])
all_push P xs y h p = All-append P xs (y ∷ []) h (one P y p)
  where
    one : {X : Type 0} (P : X → Type 0) (y : X) → P y → All P (y ∷ [])
    one P y p zero d small = p
    one P y p (suc k) d small = absurd (omega (arith, small))

-- what holds of whatever a list contains holds of each element
pub all_contained : {X : Type 0} (P : X → Type 0) (xs : List X) → ((x : X) → Contains xs x → P x) → All P xs
all_contained P xs f = λ k d small. f (get_or xs k d) (contains_from_in (In-get_or xs k d small))

-- one open row more
pub open_pushed : (n : ℕ) (list : List ℕ) → AreOpen n list → 2 ≤ n → AreOpen (n + 1) (list ++ n ∷ [])
open_pushed n list are two = all_push (λ r. (2 ≤ r) × (r < n + 1)) list n (all_as (λ r. (2 ≤ r) × (r < n)) (λ r. (2 ≤ r) × (r < n + 1)) list (λ r h. (h.0, omega (arith, h.1))) are) (two, omega arith)

pub has_pushed : (n : ℕ) (list : List ℕ) → HasOpen n list → HasOpen (n + 1) (list ++ n ∷ [])
has_pushed n list has r low small = elim (cases_lt r n) [
  | inl before ↦ contains_old list n (has r low before)
  | inr last ↦
      let e : n ≡ r = omega (arith, small, last) in
      subst (Contains (list ++ n ∷ [])) e (contains_new list n)
]

-- a list is parted one by one
pub split_none : (rows : BitRows) (place : ℕ) → AreSplit rows [] place [] []
split_none rows place = record {
  counted = refl;
  have = all_none (λ r. bit_in rows r place ≡ true);
  each = λ r c. absurd (none_in (in_from_contains [] c));
  from = λ r h. elim h [ inl c ↦ c | inr c ↦ c ];
}

pub split_yes : (rows : BitRows) (xs having lacking : List ℕ) (place r : ℕ) → AreSplit rows xs place having lacking → bit_in rows r place ≡ true → AreSplit rows (xs ++ r ∷ []) place (having ++ r ∷ []) lacking
split_yes rows xs having lacking place r s has_it = record {
  counted = omega (arith, s.counted, length_push xs r, length_push having r);
  have = all_push (λ q. bit_in rows q place ≡ true) having r s.have has_it;
  each = λ q c. elim (from_push xs r c) [
    | inl before ↦ more q (s.each q before)
    | inr last ↦ inl (subst (Contains (having ++ r ∷ [])) (sym last) (contains_new having r))
  ];
  from = λ q h. elim h [
    | inl c ↦ back q (from_push having r c)
    | inr c ↦ contains_old xs r (s.from q (inr c))
  ];
}
  where
    more : (q : ℕ) → Contains having q ⊎ (Contains lacking q × (bit_in rows q place ≡ false)) → Contains (having ++ r ∷ []) q ⊎ (Contains lacking q × (bit_in rows q place ≡ false))
    more q (inl y) = inl (contains_old having r y)
    more q (inr n) = inr n

    back : (q : ℕ) → Contains having q ⊎ (q ≡ r) → Contains (xs ++ r ∷ []) q
    back q (inl y) = contains_old xs r (s.from q (inl y))
    back q (inr e) = subst (Contains (xs ++ r ∷ [])) (sym e) (contains_new xs r)

pub split_no : (rows : BitRows) (xs having lacking : List ℕ) (place r : ℕ) → AreSplit rows xs place having lacking → bit_in rows r place ≡ false → AreSplit rows (xs ++ r ∷ []) place having (lacking ++ r ∷ [])
split_no rows xs having lacking place r s has_it = record {
  counted = omega (arith, s.counted, length_push xs r, length_push lacking r);
  have = s.have;
  each = λ q c. elim (from_push xs r c) [
    | inl before ↦ more q (s.each q before)
    | inr last ↦ inr (subst (Contains (lacking ++ r ∷ [])) (sym last) (contains_new lacking r), subst (λ w. bit_in rows w place ≡ false) (sym last) has_it)
  ];
  from = λ q h. elim h [
    | inl c ↦ contains_old xs r (s.from q (inl c))
    | inr c ↦ back q (from_push lacking r c)
  ];
}
  where
    more : (q : ℕ) → Contains having q ⊎ (Contains lacking q × (bit_in rows q place ≡ false)) → Contains having q ⊎ (Contains (lacking ++ r ∷ []) q × (bit_in rows q place ≡ false))
    more q (inl y) = inl y
    more q (inr n) = inr (contains_old lacking r n.0, n.1)

    back : (q : ℕ) → Contains lacking q ⊎ (q ≡ r) → Contains (xs ++ r ∷ []) q
    back q (inl n) = contains_old xs r (s.from q (inr n))
    back q (inr e) = subst (Contains (xs ++ r ∷ [])) (sym e) (contains_new xs r)

-- the rows of a split are open where those of the list are
pub split_open : (rows : BitRows) (count place : ℕ) (list having lacking : List ℕ) → AreSplit rows list place having lacking → AreOpen count list → AreOpen count having × AreOpen count lacking
split_open rows count place list having lacking s are = (
  all_contained (λ r. (2 ≤ r) × (r < count)) having (λ r c. All-contains (λ r. (2 ≤ r) × (r < count)) list r are (s.from r (inl c))),
  all_contained (λ r. (2 ≤ r) × (r < count)) lacking (λ r c. All-contains (λ r. (2 ≤ r) × (r < count)) list r are (s.from r (inr c))),
)

-- where the first row of a list has the place, the others are fewer
pub split_fewer : (rows : BitRows) (place r : ℕ) (list having lacking : List ℕ) → AreSplit rows list place having lacking → Contains list r → bit_in rows r place ≡ true → length lacking < length list
split_fewer rows place r list having lacking s c has_it = elim (s.each r c) [
  | inl y ↦ omega (arith, s.counted, y.1)
  | inr n ↦ absurd (false≢true (sym n.1 ∙ has_it))
]

-- what is found while rows are left: groups, and each open row is in one of them or left
pub record AreSoFar (rows : BitRows) (groups : List Group) (rest : List ℕ) : Type 0 where
  pub are : All (IsGroup rows rows.count) groups
  pub rest_open : AreOpen rows.count rest
  pub each : (r : ℕ) → 2 ≤ r → r < rows.count → IsListed groups r ⊎ Contains rest r

pub so_far_none : (rows : BitRows) (rest : List ℕ) → AreOpen rows.count rest → HasOpen rows.count rest → AreSoFar rows [] rest
so_far_none rows rest are has = record { are = all_none (IsGroup rows rows.count); rest_open = are; each = λ r low small. inr (has r low small) }

pub so_far_more : (rows : BitRows) (groups : List Group) (group : Group) (rest lacking : List ℕ) → AreSoFar rows groups rest → AreSplit rows rest group.place group.rows.items lacking → AreSoFar rows (groups ++ group ∷ []) lacking
so_far_more rows groups group rest lacking so s =
    let opened = split_open rows rows.count group.place rest group.rows.items lacking s so.rest_open in
    record {
      are = all_push (IsGroup rows rows.count) groups group so.are (record { are_open = opened.0; have = s.have });
      rest_open = opened.1;
      each = λ r low small. more r (so.each r low small);
    }
  where
    of : (r : ℕ) → Contains group.rows.items r ⊎ (Contains lacking r × (bit_in rows r group.place ≡ false)) → IsListed (groups ++ group ∷ []) r ⊎ Contains lacking r
    of r (inl y) = inl (record { group = group; there = contains_new groups group; has = y })
    of r (inr n) = inr n.0

    more : (r : ℕ) → IsListed groups r ⊎ Contains rest r → IsListed (groups ++ group ∷ []) r ⊎ Contains lacking r
    more r (inl l) = inl (record { group = l.group; there = contains_old groups group l.there; has = l.has })
    more r (inr c) = of r (s.each r c)

pub so_far_all : (rows : BitRows) (groups : List Group) (rest : List ℕ) → 2 ≤ rows.count → AreSoFar rows groups rest → length rest ≡ 0 → AreGrouped rows groups rows.count
so_far_all rows groups rest two so none = record {
  are = so.are;
  listed = λ r low small. elim (so.each r low small) [ inl l ↦ l | inr c ↦ absurd (omega (arith, c.1, none)) ];
  two = two;
  within = omega arith;
}

-- a group among rows that are fewer
pub group_wider : (rows : BitRows) (few more : ℕ) (group : Group) → few ≤ more → IsGroup rows few group → IsGroup rows more group
group_wider rows few more group le is = record { are_open = all_as (λ r. (2 ≤ r) × (r < few)) (λ r. (2 ≤ r) × (r < more)) group.rows.items (λ r h. (h.0, omega (arith, h.1, le))) is.are_open; have = is.have }
