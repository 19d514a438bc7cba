-- The next position of a tree: it comes after the last, it is shown, and it leaves out no shown position that follows the sets.
use Rattle.std.proofs.Common.{◌≡◌, ◌<◌, ◌≤◌, Bool, true, false, ◌&&◌, ◌||◌, cond, List, [], ◌∷◌, ◌++◌, length, ◌⊎◌, inl, inr, Option, Some, None, refl, sym, ap, ◌∙◌, subst, arith}
use Rattle.std.specs.Prelude.{nat_lt}
use Rattle.std.proofs.lemmas.Bool.{true≢false, false≢true, cases_Bool, cases_order, or_cases, or_left, or_right, and_parts, and_from, ltb-true, lt-ltb}
use Rattle.rcc5_core.specs.declared.Rel.{Rel}
use Rattle.rcc5_core.specs.declared.Rel.TheVariants.{Equals, Includes, IncludedIn, Overlaps, Disjoint}
use Rattle.rcc5_core.specs.declared.RelSet.{RelSet}
use Rattle.rcc5_core.specs.Relation.{rank_of, same_rel}
use Rattle.rcc5_core.specs.RelationSet.{has, next_of}
use Rattle.world_model.specs.Listing.{Begins, is_below, is_before_end}
use Rattle.world_model.proofs.OrderPositions.{below_apart, below_branch, first_or_rest}
use Rattle.cert_rules.specs.Order.{is_shown, least_from, from_below, single, or_later, onward}
use Rattle.world_model.proofs.Relations.{same_rank, one_rel, itself, first_is_in, first_is_least, next_is_in, next_is_least, none_is_next, some_has_first_of}

-- a position takes its relations from the sets in turn
abbrev pub Along : List RelSet → List Rel → Type 0
Along sets [] = Unit {0}
Along [] (r ∷ m) = ⊥
Along (set ∷ sets) (r ∷ m) = (has set r ≡ true) × Along sets m

-- a position begins with another where their first relations are one, and the rest begins with the rest
pub begins_onto : (q r : Rel) (m t : List Rel) → q ≡ r → Begins m t → Begins (q ∷ m) (r ∷ t)
begins_onto q r m t same begins = let head = sym same in let tail = begins.1 in (begins.0, λ i. head i ∷ tail i)

pub begins_parts : (q r : Rel) (m t : List Rel) → Begins (q ∷ m) (r ∷ t) → (q ≡ r) × Begins m t
begins_parts q r m t begins =
    let is : r ∷ t ≡ q ∷ (m ++ begins.0) = begins.1 in
    let head : q ≡ r = cc in
    let tail : t ≡ m ++ begins.0 = cc in
    (head, (begins.0, tail))

-- a position is below none, or not below the next one
abbrev pub IsPassed : Option (List Rel) → List Rel → Type 0
IsPassed next t = is_before_end t next ≡ false

-- after one first relation comes no position with a greater one or the same
pub not_below_head : (s r : Rel) (t : List Rel) → rank_of s ≤ rank_of r → is_below (r ∷ t) (s ∷ []) ≡ false
not_below_head s r t upto = elim (cases_Bool (is_below (r ∷ t) (s ∷ []))) [
  | inl below ↦ elim (first_or_rest r s t [] below) [
    | inl less ↦ absurd (omega arith)
    | inr both ↦ absurd (below_none t both.1)
  ]
  | inr not_below ↦ not_below
]
  where
    below_none : (t : List Rel) → is_below t [] ≡ true → ⊥
    below_none [] h = false≢true h
    below_none (x ∷ t) h = false≢true h

pub below_nothing : (t : List Rel) → is_below t [] ≡ true → ⊥
below_nothing [] h = false≢true h
below_nothing (x ∷ t) h = false≢true h

-- positions with one first relation are ordered by the rest
pub not_below_rest : (r : Rel) (t n : List Rel) → is_below t n ≡ false → is_below (r ∷ t) (r ∷ n) ≡ false
not_below_rest r t n h = elim (cases_Bool (is_below (r ∷ t) (r ∷ n))) [
  | inl below ↦ elim (first_or_rest r r t n below) [
    | inl less ↦ absurd (omega arith)
    | inr both ↦ absurd (true≢false (sym both.1 ∙ h))
  ]
  | inr not_below ↦ not_below
]

pub below_rest : (r : Rel) (m n : List Rel) → is_below m n ≡ true → is_below (r ∷ m) (r ∷ n) ≡ true
below_rest Equals m n h = h
below_rest Includes m n h = h
below_rest IncludedIn m n h = h
below_rest Overlaps m n h = h
below_rest Disjoint m n h = h

-- what is shown of a position with a first relation
pub shown_below : (from : List Rel) (r : Rel) (t : List Rel) → is_shown from (r ∷ t) ≡ true → is_shown (from_below from r) t ≡ true
shown_below [] r t h = refl
shown_below (f ∷ from) r t h = by (same_rel f r) refl h
  where
    by : (b : Bool) → same_rel f r ≡ b → (nat_lt (rank_of f) (rank_of r) || (b && is_shown from t)) ≡ true → is_shown (cond b from []) t ≡ true
    by false e h = refl
    by true e h = elim (or_cases (nat_lt (rank_of f) (rank_of r)) (is_shown from t) h) [
      | inl less ↦ let same = ap rank_of (one_rel f r e) in let under = ltb-true (rank_of f) (rank_of r) less in absurd (omega arith)
      | inr rest ↦ rest
    ]

pub shown_above : (from : List Rel) (r : Rel) (m n : List Rel) → is_shown from (r ∷ m) ≡ true → is_shown (from_below from r) n ≡ true → is_shown from (r ∷ n) ≡ true
shown_above [] r m n h k = refl
shown_above (f ∷ from) r m n h k = by (same_rel f r) refl h k
  where
    by : (b : Bool) → same_rel f r ≡ b → (nat_lt (rank_of f) (rank_of r) || (b && is_shown from m)) ≡ true → is_shown (cond b from []) n ≡ true →
        (nat_lt (rank_of f) (rank_of r) || (b && is_shown from n)) ≡ true
    by false e h k = h
    by true e h k = or_right (nat_lt (rank_of f) (rank_of r)) (is_shown from n) k

-- a shown position's first relation is not left of the start's
pub shown_first : (f : Rel) (from : List Rel) (r : Rel) (t : List Rel) → is_shown (f ∷ from) (r ∷ t) ≡ true → (rank_of f < rank_of r) ⊎ (f ≡ r)
shown_first f from r t h = elim (or_cases (nat_lt (rank_of f) (rank_of r)) (same_rel f r && is_shown from t) h) [
  | inl less ↦ inl (ltb-true (rank_of f) (rank_of r) less)
  | inr both ↦ inr (one_rel f r (and_parts (same_rel f r) (is_shown from t) both).0)
]

-- a later first relation is shown too
shown_later : (from : List Rel) (r s : Rel) (m n : List Rel) → rank_of r < rank_of s → is_shown from (r ∷ m) ≡ true → is_shown from (s ∷ n) ≡ true
shown_later [] r s m n less h = refl
shown_later (f ∷ from) r s m n less h = elim (shown_first f from r m h) [
  | inl before ↦ or_left (nat_lt (rank_of f) (rank_of s)) (same_rel f s && is_shown from n) (lt-ltb (rank_of f) (rank_of s) (omega arith))
  | inr same ↦ let at = ap rank_of same in or_left (nat_lt (rank_of f) (rank_of s)) (same_rel f s && is_shown from n) (lt-ltb (rank_of f) (rank_of s) (omega arith))
]

-- the least relation that is shown is in the set, is shown, and no shown one of the set comes before it; one is there where any is
pub record IsLeastFrom (set : RelSet) (from : List Rel) (found : Option Rel) : Type 0 where
  pub shown : (s : Rel) → found ≡ Some s → (has set s ≡ true) × (is_shown from (s ∷ []) ≡ true)
  pub least : (r : Rel) (t : List Rel) → has set r ≡ true → is_shown from (r ∷ t) ≡ true → (s : Rel) → found ≡ Some s → rank_of s ≤ rank_of r
  pub some : (r : Rel) (t : List Rel) → has set r ≡ true → is_shown from (r ∷ t) ≡ true → found ≡ None → ⊥

shown_itself : (f : Rel) (from : List Rel) → is_shown (f ∷ from) (f ∷ []) ≡ true
shown_itself f from = or_right (nat_lt (rank_of f) (rank_of f)) (same_rel f f && is_shown from []) (and_from (same_rel f f) (is_shown from []) (itself f) (empty_shown from))
  where
    empty_shown : (from : List Rel) → is_shown from [] ≡ true
    empty_shown [] = refl
    empty_shown (f ∷ from) = refl

pub least_from_is : (set : RelSet) (from : List Rel) → IsLeastFrom set from (least_from set from)
least_from_is set [] = record {
  shown = λ s is. (first_is_in set s is, refl);
  least = λ r t in_set shown s is. first_is_least set s r is in_set;
  some = λ r t in_set shown none. some_has_first_of set r in_set none;
}
least_from_is set (f ∷ from) = by (has set f) refl
  where
    by : (b : Bool) → has set f ≡ b → IsLeastFrom set (f ∷ from) (cond b (Some f) (next_of set f))
    by true e = record {
      shown = λ s is. let same : f ≡ s = cc in (ap (has set) (sym same) ∙ e, subst (λ q. is_shown (f ∷ from) (q ∷ []) ≡ true) same (shown_itself f from));
      least = λ r t in_set shown s is. let same : rank_of f ≡ rank_of s = (cc) in elim (shown_first f from r t shown) [
        | inl less ↦ omega arith
        | inr one ↦ let other = ap rank_of one in omega arith
      ];
      some = λ r t in_set shown none. cc;
    }
    by false e = record {
      shown = λ s is. let next = next_is_in set f s is in (next.0, or_left (nat_lt (rank_of f) (rank_of s)) (same_rel f s && is_shown from []) (lt-ltb (rank_of f) (rank_of s) next.1));
      least = λ r t in_set shown s is. elim (shown_first f from r t shown) [
        | inl less ↦ next_is_least set f s r is in_set less
        | inr one ↦ absurd (true≢false (sym in_set ∙ ap (has set) (sym one) ∙ e))
      ];
      some = λ r t in_set shown none. elim (shown_first f from r t shown) [
        | inl less ↦ none_is_next set f r none in_set less
        | inr one ↦ true≢false (sym in_set ∙ ap (has set) (sym one) ∙ e)
      ];
    }

-- a shown position along the sets that comes after the last one, and does not begin with it unless that branches, is not below
-- the next one
pub next_covers : (sets : List RelSet) (from : List Rel) (branches : Bool) (m t : List Rel) → Along sets t → is_shown from t ≡ true → is_below m t ≡ true →
    (branches ≡ false → Begins m t → ⊥) → IsPassed (onward sets from branches m) t
next_covers sets from branches m [] along shown after apart = absurd (below_nothing m after)
next_covers [] from branches m (r ∷ t) along shown after apart = absurd along
next_covers (set ∷ sets) from false [] (r ∷ t) along shown after apart = absurd (apart refl (r ∷ t, refl))
next_covers (set ∷ sets) from true [] (r ∷ t) along shown after apart = first (least_from set from) (least_from_is set from)
  where
    first : (found : Option Rel) → IsLeastFrom set from found → IsPassed (single found) (r ∷ t)
    first None is = absurd (is.some r t along.0 shown refl)
    first (Some s) is = not_below_head s r t (is.least r t along.0 shown s refl)
next_covers (set ∷ sets) from branches (q ∷ m) (r ∷ t) along shown after apart = elim (first_or_rest q r m t after) [
  | inl less ↦ beside (onward sets (from_below from q) branches m) less
  | inr both ↦
      let same : q ≡ r = same_rank q r both.0 in
      let rest : IsPassed (onward sets (from_below from r) branches m) t =
      next_covers sets (from_below from r) branches m t along.1 (shown_below from r t shown) both.1 (λ b begins. apart b (begins_onto q r m t same begins)) in
      subst (λ x. IsPassed (or_later set x (onward sets (from_below from x) branches m)) (r ∷ t)) (sym same) (below (onward sets (from_below from r) branches m) rest)
]
  where
    beside : (inner : Option (List Rel)) → rank_of q < rank_of r → IsPassed (or_later set q inner) (r ∷ t)
    beside None less = next (next_of set q) refl
      where
        next : (found : Option Rel) → next_of set q ≡ found → IsPassed (single found) (r ∷ t)
        next None e = absurd (none_is_next set q r e along.0 less)
        next (Some s) e = not_below_head s r t (next_is_least set q s r e along.0 less)
    beside (Some n) less = below_apart (q ∷ n) (r ∷ t) (below_branch [] q r n t less)

    below : (inner : Option (List Rel)) → IsPassed inner t → IsPassed (or_later set r inner) (r ∷ t)
    below None passed = absurd (true≢false passed)
    below (Some n) passed = not_below_rest r t n passed

-- the next position comes after the last
pub next_after : (sets : List RelSet) (from : List Rel) (branches : Bool) (m n : List Rel) → onward sets from branches m ≡ Some n → is_below m n ≡ true
next_after [] from branches m n e = cc
next_after (set ∷ sets) from false [] n e = cc
next_after (set ∷ sets) from true [] n e = first (least_from set from) e
  where
    first : (found : Option Rel) → single found ≡ Some n → is_below [] n ≡ true
    first None e = cc
    first (Some s) e = let is : s ∷ [] ≡ n = cc in subst (λ n. is_below [] n ≡ true) is refl
next_after (set ∷ sets) from branches (r ∷ m) n e =
    by (onward sets (from_below from r) branches m) refl (λ k f. next_after sets (from_below from r) branches m k f) e
  where
    next : (found : Option Rel) → next_of set r ≡ found → single found ≡ Some n → is_below (r ∷ m) n ≡ true
    next None f e = cc
    next (Some s) f e = let is : s ∷ [] ≡ n = cc in subst (λ n. is_below (r ∷ m) n ≡ true) is (below_branch [] r s m [] (next_is_in set r s f).1)

    by : (inner : Option (List Rel)) → onward sets (from_below from r) branches m ≡ inner →
        ((k : List Rel) → onward sets (from_below from r) branches m ≡ Some k → is_below m k ≡ true) → or_later set r inner ≡ Some n → is_below (r ∷ m) n ≡ true
    by None f inner_after e = next (next_of set r) refl e
    by (Some k) f inner_after e = let is : r ∷ k ≡ n = cc in subst (λ n. is_below (r ∷ m) n ≡ true) is (below_rest r m k (inner_after k f))

-- and is shown
pub next_shown : (sets : List RelSet) (from : List Rel) (branches : Bool) (m n : List Rel) → is_shown from m ≡ true → onward sets from branches m ≡ Some n → is_shown from n ≡ true
next_shown [] from branches m n shown e = cc
next_shown (set ∷ sets) from false [] n shown e = cc
next_shown (set ∷ sets) from true [] n shown e = first (least_from set from) (least_from_is set from) e
  where
    first : (found : Option Rel) → IsLeastFrom set from found → single found ≡ Some n → is_shown from n ≡ true
    first None is e = cc
    first (Some s) is e = let same : s ∷ [] ≡ n = cc in subst (λ n. is_shown from n ≡ true) same (is.shown s refl).1
next_shown (set ∷ sets) from branches (r ∷ m) n shown e =
    by (onward sets (from_below from r) branches m) refl (λ k f. next_shown sets (from_below from r) branches m k (shown_below from r m shown) f) e
  where
    next : (found : Option Rel) → next_of set r ≡ found → single found ≡ Some n → is_shown from n ≡ true
    next None f e = cc
    next (Some s) f e = let is : s ∷ [] ≡ n = cc in subst (λ n. is_shown from n ≡ true) is (shown_later from r s m [] (next_is_in set r s f).1 shown)

    by : (inner : Option (List Rel)) → onward sets (from_below from r) branches m ≡ inner →
        ((k : List Rel) → onward sets (from_below from r) branches m ≡ Some k → is_shown (from_below from r) k ≡ true) → or_later set r inner ≡ Some n → is_shown from n ≡ true
    by None f inner_shown e = next (next_of set r) refl e
    by (Some k) f inner_shown e = let is : r ∷ k ≡ n = cc in subst (λ n. is_shown from n ≡ true) is (shown_above from r m k shown (inner_shown k f))

-- what is not below the start is shown
pub shown_from_order : (from t : List Rel) → is_below t from ≡ false → is_shown from t ≡ true
shown_from_order [] t h = refl
shown_from_order (f ∷ from) [] h = refl
shown_from_order (f ∷ from) (r ∷ t) h = elim (cases_order (rank_of f) (rank_of r)) [
  | inl same ↦
      let one = same_rank f r same in
      let rest : is_below t from ≡ false = not_rest (cases_Bool (is_below t from)) one in
      or_right (nat_lt (rank_of f) (rank_of r)) (same_rel f r && is_shown from t)
      (and_from (same_rel f r) (is_shown from t) (subst (λ q. same_rel f q ≡ true) one (itself f)) (shown_from_order from t rest))
  | inr (inl less) ↦ or_left (nat_lt (rank_of f) (rank_of r)) (same_rel f r && is_shown from t) (lt-ltb (rank_of f) (rank_of r) less)
  | inr (inr more) ↦ absurd (true≢false (sym (below_branch [] r f t from more) ∙ h))
]
  where
    not_rest : (is_below t from ≡ true) ⊎ (is_below t from ≡ false) → f ≡ r → is_below t from ≡ false
    not_rest (inl below) one = absurd (true≢false (sym (subst (λ q. is_below (r ∷ t) (q ∷ from) ≡ true) (sym one) (below_rest r t from below)) ∙ h))
    not_rest (inr rest) one = rest

-- and what is shown and no shorter than the start is not below it
pub order_from_shown : (from t : List Rel) → is_shown from t ≡ true → length from ≤ length t → is_below t from ≡ false
order_from_shown [] t h long = elim (cases_Bool (is_below t [])) [ inl below ↦ absurd (below_nothing t below) | inr not_below ↦ not_below ]
order_from_shown (f ∷ from) [] h long = absurd (omega arith)
order_from_shown (f ∷ from) (r ∷ t) h long = elim (or_cases (nat_lt (rank_of f) (rank_of r)) (same_rel f r && is_shown from t) h) [
  | inl less ↦ below_apart (f ∷ from) (r ∷ t) (below_branch [] f r from t (ltb-true (rank_of f) (rank_of r) less))
  | inr both ↦
      let parts = and_parts (same_rel f r) (is_shown from t) both in
      let one = one_rel f r parts.0 in
      subst (λ q. is_below (r ∷ t) (q ∷ from) ≡ false) (sym one) (not_below_rest r t from (order_from_shown from t parts.1 (omega arith)))
]
