-- Strictly ascending lists of positions, and lists that have exactly the positions of some kind.
use Rattle.std.proofs.Common.{ap, ◌≡◌, Bool, true, false, not, cond, ◌⊎◌, ◌↔◌, inl, inr, List, [], ◌∷◌, ◌++◌, refl, sym, ◌∙◌, subst, true≢false, IsTrue}
use Rattle.std.specs.Prelude.{Option, Some, None, filter, Contains}
use Rattle.std.specs.List.{list_all}
use Rattle.std.proofs.lemmas.Bool.{and_parts, and_from, not-true, not_from_false}
use Rattle.rcc5_core.specs.declared.Rel.{Rel}
use Rattle.world_model.specs.Listing.{is_below, is_before_end, is_between, ascends}
use Rattle.world_model.specs.Laws.{is_not_above_end}
use Rattle.world_model.proofs.Members.{In, here, there, all_at, all_from, from_filter, from_append, In-left, In-right, in_from_contains, contains_from_in}
use Rattle.world_model.proofs.OrderPositions.{below_itself, below_apart, below_upto}

-- the first of an ascending list is below the rest, which ascends too
pub ascends_first : (t : List Rel) (ts : List (List Rel)) {x : List Rel} → IsTrue (ascends (t ∷ ts)) → In x ts → IsTrue (is_below t x)
ascends_first t ts h i = all_at (is_below t) (and_parts (list_all (is_below t) ts) (ascends ts) h).0 i

pub ascends_rest : (t : List Rel) (ts : List (List Rel)) → IsTrue (ascends (t ∷ ts)) → IsTrue (ascends ts)
ascends_rest t ts h = (and_parts (list_all (is_below t) ts) (ascends ts) h).1

pub ascends_from : (t : List Rel) (ts : List (List Rel)) → ((x : List Rel) → In x ts → IsTrue (is_below t x)) → IsTrue (ascends ts) → IsTrue (ascends (t ∷ ts))
ascends_from t ts each h = and_from (list_all (is_below t) ts) (ascends ts) (all_from (is_below t) ts each) h

-- two ascending lists, each position of the first below each of the second, ascend as one
pub ascends_append : (xs ys : List (List Rel)) → IsTrue (ascends xs) → IsTrue (ascends ys) →
    ((x y : List Rel) → In x xs → In y ys → IsTrue (is_below x y)) → IsTrue (ascends (xs ++ ys))
ascends_append [] ys h k each = k
ascends_append (x ∷ xs) ys h k each =
    ascends_from x (xs ++ ys) (λ z i. first z (from_append xs i)) (ascends_append xs ys (ascends_rest x xs h) k (λ y z i j. each y z (there i) j))
  where
    first : (z : List Rel) → In z xs ⊎ In z ys → IsTrue (is_below x z)
    first z (inl i) = ascends_first x xs h i
    first z (inr j) = each x z (here refl) j

-- and the other way round
pub ascends_left : (xs ys : List (List Rel)) → IsTrue (ascends (xs ++ ys)) → IsTrue (ascends xs)
ascends_left [] ys h = refl
ascends_left (x ∷ xs) ys h =
    ascends_from x xs (λ z i. ascends_first x (xs ++ ys) h (In-left ys i)) (ascends_left xs ys (ascends_rest x (xs ++ ys) h))

pub ascends_between : (xs ys : List (List Rel)) {x y : List Rel} → IsTrue (ascends (xs ++ ys)) → In x xs → In y ys → IsTrue (is_below x y)
ascends_between [] ys h i j = elim i [ ]
ascends_between (z ∷ zs) ys {x} {y} h (here e) j = subst (λ w. IsTrue (is_below w y)) (sym e) (ascends_first z (zs ++ ys) h (In-right zs j))
ascends_between (z ∷ zs) ys h (there i) j = ascends_between zs ys (ascends_rest z (zs ++ ys) h) i j

pub ascends_right : (xs ys : List (List Rel)) → IsTrue (ascends (xs ++ ys)) → IsTrue (ascends ys)
ascends_right [] ys h = h
ascends_right (x ∷ xs) ys h = ascends_right xs ys (ascends_rest x (xs ++ ys) h)

-- what is below one of a list stands before it
pub stands_before : (before rest : List (List Rel)) (m t : List Rel) → IsTrue (ascends (before ++ m ∷ rest)) → In t (before ++ m ∷ rest) → IsTrue (is_below t m) → In t before
stands_before before rest m t h i less = first (from_append before i)
  where
    first : In t before ⊎ In t (m ∷ rest) → In t before
    first (inl j) = j
    first (inr (here e)) = absurd (true≢false (sym less ∙ ap (is_below t) (sym e) ∙ below_itself t))
    first (inr (there j)) = absurd (true≢false (sym less ∙ below_apart m t (ascends_first m rest (ascends_right before (m ∷ rest) h) j)))

-- what passes a test ascends too
pub ascends_filter : (test : List Rel → Bool) (xs : List (List Rel)) → IsTrue (ascends xs) → IsTrue (ascends (filter test xs))
ascends_filter test [] h = refl
ascends_filter test (x ∷ xs) h = kept (test x) (ascends_filter test xs (ascends_rest x xs h))
  where
    kept : (b : Bool) → IsTrue (ascends (filter test xs)) → IsTrue (ascends (cond b (x ∷ filter test xs) (filter test xs)))
    kept true k = ascends_from x (filter test xs) (λ z i. ascends_first x xs h (from_filter test xs i).0) k
    kept false k = k

-- an ascending list has none of its own beside its first
above_first : (t : List Rel) (ts : List (List Rel)) → IsTrue (ascends (t ∷ ts)) → In t ts → ⊥
above_first t ts h i = true≢false (sym (ascends_first t ts h i) ∙ below_itself t)

-- the first of two ascending lists are one, where each list has the other's first
one_first : (x y : List Rel) (xs ys : List (List Rel)) → IsTrue (ascends (x ∷ xs)) → IsTrue (ascends (y ∷ ys)) → In x (y ∷ ys) → In y (x ∷ xs) → x ≡ y
one_first x y xs ys h k (here e) j = e
one_first x y xs ys h k (there i) (here e) = sym e
one_first x y xs ys h k (there i) (there j) = absurd (true≢false (sym (ascends_first y ys k i) ∙ below_apart x y (ascends_first x xs h j)))

-- what is in the rest of one list is in the rest of another with the same first
in_rest : (x y : List Rel) (xs ys : List (List Rel)) {t : List Rel} → IsTrue (ascends (x ∷ xs)) → x ≡ y → In t xs → In t (y ∷ ys) → In t ys
in_rest x y xs ys h same i (here e) = absurd (above_first x xs h (subst (λ w. In w xs) (e ∙ sym same) i))
in_rest x y xs ys h same i (there j) = j

-- ascending lists with the same members are one
pub same_members : (xs ys : List (List Rel)) → IsTrue (ascends xs) → IsTrue (ascends ys) →
    ((t : List Rel) → In t xs → In t ys) → ((t : List Rel) → In t ys → In t xs) → xs ≡ ys
same_members [] [] h k into back = refl
same_members [] (y ∷ ys) h k into back = elim (back y (here refl)) [ ]
same_members (x ∷ xs) [] h k into back = elim (into x (here refl)) [ ]
same_members (x ∷ xs) (y ∷ ys) h k into back =
    let same = one_first x y xs ys h k (into x (here refl)) (back y (here refl)) in
    let rest = same_members xs ys (ascends_rest x xs h) (ascends_rest y ys k)
    (λ t i. in_rest x y xs ys h same i (into t (there i)))
    (λ t i. in_rest y x ys xs k (sym same) i (back t (there i))) in
    λ i. same i ∷ rest i

-- the strictly ascending list of exactly the positions of a kind
pub record IsExactly (P : List Rel → Type 0) (xs : List (List Rel)) : Type 0 where
  pub ascending : IsTrue (ascends xs)
  pub sound : (t : List Rel) → In t xs → P t
  pub complete : (t : List Rel) → P t → In t xs

pub exactly_from : (P : List Rel → Type 0) (xs : List (List Rel)) → IsTrue (ascends xs) → ((t : List Rel) → Contains xs t ↔ P t) → IsExactly P xs
exactly_from P xs h each = record {
  ascending = h;
  sound = λ t i. (each t).0 (contains_from_in i);
  complete = λ t w. in_from_contains xs ((each t).1 w);
}

pub members_from : (P : List Rel → Type 0) (xs : List (List Rel)) → IsExactly P xs → (t : List Rel) → Contains xs t ↔ P t
members_from P xs e t = (λ c. e.sound t (in_from_contains xs c), λ w. contains_from_in (e.complete t w))

-- there is one such list
pub one_exact : (P : List Rel → Type 0) (xs ys : List (List Rel)) → IsExactly P xs → IsExactly P ys → xs ≡ ys
one_exact P xs ys a b = same_members xs ys a.ascending b.ascending (λ t i. b.complete t (a.sound t i)) (λ t i. a.complete t (b.sound t i))

-- what it says that a position is between two others
pub between_parts : (from : List Rel) (to : Option (List Rel)) (t : List Rel) → IsTrue (is_between from to t) → (is_below t from ≡ false) × IsTrue (is_before_end t to)
between_parts from to t h =
    let parts = and_parts (not (is_below t from)) (is_before_end t to) h in
    (not-true (is_below t from) parts.0, parts.1)

pub between_from : (from : List Rel) (to : Option (List Rel)) (t : List Rel) → is_below t from ≡ false → IsTrue (is_before_end t to) → IsTrue (is_between from to t)
between_from from to t h k = and_from (not (is_below t from)) (is_before_end t to) (not_from_false (is_below t from) h) k

-- of a kind, those between two positions
abbrev pub Between : (List Rel → Type 0) → List Rel → Option (List Rel) → List Rel → Type 0
Between W from to t = W t × IsTrue (is_between from to t)

-- what is below a middle is below an end that is not below the middle
before_end : (t mid : List Rel) (to : Option (List Rel)) → IsTrue (is_below t mid) → IsTrue (is_not_above_end mid to) → IsTrue (is_before_end t to)
before_end t mid None h k = refl
before_end t mid (Some end) h k = below_upto t mid end h (not-true (is_below end mid) k)

-- two lists of a kind, the second from where the first ends, are one
pub exactly_join : (W : List Rel → Type 0) (from mid : List Rel) (to : Option (List Rel)) (xs ys : List (List Rel)) →
    is_below mid from ≡ false → IsTrue (is_not_above_end mid to) →
    IsExactly (Between W from (Some mid)) xs → IsExactly (Between W mid to) ys → IsExactly (Between W from to) (xs ++ ys)
exactly_join W from mid to xs ys low high a b = record {
  ascending = ascends_append xs ys a.ascending b.ascending (λ x y i j. below_upto x mid y (left x i).1 (right y j).0);
  sound = λ t i. sound t (from_append xs i);
  complete = λ t w. complete t w (is_below t mid) refl;
}
  where
    left : (t : List Rel) → In t xs → (is_below t from ≡ false) × IsTrue (is_below t mid)
    left t i = between_parts from (Some mid) t (a.sound t i).1

    right : (t : List Rel) → In t ys → (is_below t mid ≡ false) × IsTrue (is_before_end t to)
    right t i = between_parts mid to t (b.sound t i).1

    from_mid : (t : List Rel) → is_below t mid ≡ false → (s : Bool) → is_below t from ≡ s → is_below t from ≡ false
    from_mid t h true e = absurd (true≢false (sym (below_upto t from mid e low) ∙ h))
    from_mid t h false e = e

    sound : (t : List Rel) → In t xs ⊎ In t ys → Between W from to t
    sound t (inl i) = ((a.sound t i).0, between_from from to t (left t i).0 (before_end t mid to (left t i).1 high))
    sound t (inr i) = ((b.sound t i).0, between_from from to t (from_mid t (right t i).0 (is_below t from) refl) (right t i).1)

    complete : (t : List Rel) → Between W from to t → (s : Bool) → is_below t mid ≡ s → In t (xs ++ ys)
    complete t w true e = In-left ys (a.complete t (w.0, between_from from (Some mid) t (between_parts from to t w.1).0 e))
    complete t w false e = In-right xs (b.complete t (w.0, between_from mid to t e (between_parts from to t w.1).1))
