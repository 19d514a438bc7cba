-- What the trees, pairs and sums of a problem say of the bits of its points.
use Rattle.std.proofs.Common.{◌≡◌, ◌≢◌, ℕ, ◌*◌, ◌<◌, ◌≤◌, ◌⊎◌, Bool, true, false, ◌&&◌, ◌||◌, not, List, [], ◌∷◌, length, get_or, inl, inr, refl, sym, ap, ◌∙◌, subst, arith}
use Rattle.std.specs.Prelude.{IsTrue, ◌==◌, ◌++◌, All}
use Rattle.std.specs.List.{list_all, list_any}
use Rattle.std.proofs.lemmas.Bool.{and_from, and_parts, true≢false, ltb-true, cases_lt, ne_eqb, eq-eqb}
use Rattle.std.proofs.lemmas.List.{get_or_past, get_or_append_left, get_or_push}
use Rattle.rcc5_core.specs.declared.Region.{Region}
use Rattle.rcc5_core.specs.declared.Regions.{Regions}
use Rattle.rcc5_core.specs.declared.Region.TheVariants.{LeftOnly, Both, RightOnly}
use Rattle.rcc5_core.specs.declared.Occupancy.TheVariants.{Empty}
use Rattle.rcc5_core.specs.Region.{word_at, same_word}
use Rattle.world_model.specs.Problem.{Problem, concept_count, children_of, pairs, pair_count, is_concept, is_articulation, is_about_pair}
use Rattle.world_model.specs.Family.{implies}
use Rattle.world_model.specs.Node.{pair_at}
use Rattle.world_model.specs.Alive.{bit_of, lies_in, is_point, point_apart, point_covered}
use Rattle.world_model.proofs.Members.{In, none_in, all_at, any_at, place_of, In-get_or}
use Rattle.world_model.proofs.PointSets.{implies_at}
use Rattle.world_model.proofs.PointPairs.{In-concepts}
use Rattle.world_model.proofs.PointRules.{structure_parts}
use Rattle.world_model.proofs.PointAlive.{point_parts}
use Rattle.constraint_set.specs.Facts.{IsBuilt}
use Rattle.bit_rows.specs.Rows.{has_bit, BitRows, bit_in, IsPushed, IsPut}
use Rattle.point_table.specs.declared.rules.Rules.{Rules}
use Rattle.world_model.specs.Points.{forced_at}
use Rattle.point_table.specs.Growing.{AreImplied, AreExcluded, AreCovers, HasCover, IsSameSize, IsSquare}

-- a child is a concept
pub child_below : (p : Problem) → IsBuilt p → (c child : ℕ) → In child (children_of p c) → child < concept_count p
child_below p built c child i = elim (cases_lt c (length p.children)) [
  | inl within ↦ ltb-true child (concept_count p) (all_at (is_concept p) (all_at (list_all (is_concept p)) valid (In-get_or p.children c [] within)) i)
  | inr past ↦ absurd (none_in (subst (In child) (get_or_past p.children c [] past) i))
]
  where
    valid : list_all (list_all (is_concept p)) p.children ≡ true
    valid =
        let a = and_parts _ (list_all (is_about_pair p) p.narrowings) built.valid in
        let b = and_parts _ (list_all (is_articulation p) p.articulations) a.0 in
        let c = and_parts _ (length p.kept == length p.articulations) b.0 in
        (and_parts _ (list_all (list_all (is_concept p)) p.children) c.0).1

-- a point of a child is one of the parent
pub child_implies : (p : Problem) (c child : ℕ) → c < concept_count p → In child (children_of p c) → (bits : List Bool) → IsTrue (is_point p bits) → bit_of bits child ≡ true → bit_of bits c ≡ true
child_implies p c child within i bits point has =
    let s = structure_parts p bits (point_parts p bits point).structure in
    implies_at (bit_of bits child) (bit_of bits c)
    (all_at (λ child. implies (bit_of bits child) (bit_of bits c)) (all_at (λ c. list_all (λ child. implies (bit_of bits child) (bit_of bits c)) (children_of p c)) s.within (In-concepts p c within)) i) has

-- and of no other child, where siblings have nothing in common
pub child_excludes : (p : Problem) (c a b : ℕ) → p.switches.sibling ≡ true → c < concept_count p → In a (children_of p c) → In b (children_of p c) → a ≢ b →
    (bits : List Bool) → IsTrue (is_point p bits) → bit_of bits a ≡ true → bit_of bits b ≡ false
child_excludes p c a b on within in_a in_b apart bits point has =
    let s = structure_parts p bits (point_parts p bits point).structure in
    let siblings = implies_at p.switches.sibling (point_apart p bits) s.apart on in
    let test = λ (a b : ℕ). (a == b) || not (bit_of bits a && bit_of bits b) in
    let one = all_at (test a) (all_at (λ a. list_all (test a) (children_of p c)) (all_at (λ c. list_all (λ a. list_all (test a) (children_of p c)) (children_of p c)) siblings (In-concepts p c within)) in_a) in_b in
    lacks (bit_of bits a) (bit_of bits b) (sym (ap (λ x. x || not (bit_of bits a && bit_of bits b)) (ne_eqb a b apart)) ∙ one) has
  where
    lacks : (x y : Bool) → not (x && y) ≡ true → x ≡ true → y ≡ false
    lacks true true h e = absurd (true≢false (sym h))
    lacks true false h e = refl
    lacks false y h e = absurd (true≢false (sym e))

-- no point is in a region that is forced empty
pub pair_lacks : (p : Problem) (k : ℕ) (region : Region) → k < pair_count p → same_word (word_at (forced_at p k) region) Empty ≡ true →
    (bits : List Bool) → IsTrue (is_point p bits) → lies_in region (pair_at p k) bits ≡ false
pair_lacks p k region within empty bits point = (point_parts p bits point).apart (pair_at p k) region (In-get_or (pairs p) k (0, 0) within) (record { same = empty })

pub left_implies : (l r : Bool) → (l && not r) ≡ false → l ≡ true → r ≡ true
left_implies true true h e = refl
left_implies true false h e = absurd (true≢false h)
left_implies false r h e = absurd (true≢false (sym e))

pub right_implies : (l r : Bool) → (not l && r) ≡ false → r ≡ true → l ≡ true
right_implies true true h e = refl
right_implies true false h e = refl
right_implies false true h e = absurd (true≢false h)
right_implies false false h e = absurd (true≢false (sym e))

pub both_excludes : (l r : Bool) → (l && r) ≡ false → (l ≡ true → r ≡ false) × (r ≡ true → l ≡ false)
both_excludes true true h = absurd (true≢false h)
both_excludes true false h = (λ e. refl, λ e. absurd (true≢false (sym e)))
both_excludes false r h = (λ e. absurd (true≢false (sym e)), λ e. refl)

-- rows gain places of one row at most, on a condition
abbrev pub GainsOne : BitRows → BitRows → Bool → ℕ → (ℕ → Type 0) → Type 0
GainsOne old new on row places = (r k : ℕ) → bit_in new r k ≡ true → (bit_in old r k ≡ true) ⊎ ((on ≡ true) × (r ≡ row) × places k)

pub gained_implied : (p : Problem) (old new : BitRows) (on : Bool) (a b : ℕ) → AreImplied p old → GainsOne old new on a (λ k. k ≡ b) →
    (on ≡ true → (bits : List Bool) → IsTrue (is_point p bits) → bit_of bits a ≡ true → bit_of bits b ≡ true) → AreImplied p new
gained_implied p old new on a b are gains so x y h bits point has = elim (gains x y h) [
  | inl before ↦ are x y before bits point has
  | inr now ↦ ap (bit_of bits) now.2 ∙ so now.0 bits point (ap (bit_of bits) (sym now.1) ∙ has)
]

pub gained_excluded : (p : Problem) (old new : BitRows) (on : Bool) (a b : ℕ) → AreExcluded p old → GainsOne old new on a (λ k. k ≡ b) →
    (on ≡ true → (bits : List Bool) → IsTrue (is_point p bits) → bit_of bits a ≡ true → bit_of bits b ≡ false) → AreExcluded p new
gained_excluded p old new on a b are gains so x y h bits point has = elim (gains x y h) [
  | inl before ↦ are x y before bits point has
  | inr now ↦ ap (bit_of bits) now.2 ∙ so now.0 bits point (ap (bit_of bits) (sym now.1) ∙ has)
]

pub size_after : (a b c : BitRows) → IsSameSize a b → IsSameSize b c → IsSameSize a c
size_after a b c one other = record { count = other.count ∙ one.count; width = other.width ∙ one.width }

-- the sizes stay
pub same_size : (rows : BitRows) → IsSameSize rows rows
same_size rows = record { count = refl; width = refl }

pub put_size : (a b c : BitRows) (row : ℕ) (test : ℕ → Bool) → IsSameSize a b → IsPut b c row test → IsSameSize a c
put_size a b c row test same put = record { count = put.count ∙ same.count; width = put.width ∙ same.width }

pub square_stays : (n : ℕ) (a b : BitRows) → IsSquare n a → IsSameSize a b → IsSquare n b
square_stays n a b square same = record { counted = same.count ∙ square.counted; wide = subst (λ w. n ≤ 64 * w) (sym same.width) square.wide }

pub row_in_square : (n : ℕ) (rows : BitRows) (c : ℕ) → IsSquare n rows → c < n → c < rows.count
row_in_square n rows c square small = subst (λ m. c < m) (sym square.counted) small

pub place_in_square : (n : ℕ) (rows : BitRows) (c : ℕ) → IsSquare n rows → c < n → c < 64 * rows.width
place_in_square n rows c square small = let wide = square.wide in omega arith

pub differ : (a b : ℕ) → not (a == b) ≡ true → b ≢ a
differ a b h e = true≢false (sym h ∙ ap not (eq-eqb a b (sym e)))

-- a row gains what its concept implies
pub joined_implied : (p : Problem) (old new : BitRows) (on : Bool) (row concept : ℕ) (own : List ℕ) → AreImplied p old → GainsOne old new on row (λ k. has_bit own k ≡ true) →
    on ≡ bit_in old row concept → ((k : ℕ) → has_bit own k ≡ true → (bits : List Bool) → IsTrue (is_point p bits) → bit_of bits concept ≡ true → bit_of bits k ≡ true) → AreImplied p new
joined_implied p old new on row concept own are gains is follows x y h bits point has = elim (gains x y h) [
  | inl before ↦ are x y before bits point has
  | inr now ↦ follows y now.2 bits point (are row concept (sym is ∙ now.0) bits point (ap (bit_of bits) (sym now.1) ∙ has))
]

-- what is forced of a pair, as rules of its concepts
pub record PairRules (p : Problem) (pair : ℕ × ℕ) (regions : Regions) : Type 0 where
  pub left : same_word regions.left_only Empty ≡ true → (bits : List Bool) → IsTrue (is_point p bits) → bit_of bits pair.0 ≡ true → bit_of bits pair.1 ≡ true
  pub right : same_word regions.right_only Empty ≡ true → (bits : List Bool) → IsTrue (is_point p bits) → bit_of bits pair.1 ≡ true → bit_of bits pair.0 ≡ true
  pub one : same_word regions.both Empty ≡ true → (bits : List Bool) → IsTrue (is_point p bits) → bit_of bits pair.0 ≡ true → bit_of bits pair.1 ≡ false
  pub other : same_word regions.both Empty ≡ true → (bits : List Bool) → IsTrue (is_point p bits) → bit_of bits pair.1 ≡ true → bit_of bits pair.0 ≡ false

pub pair_rules : (p : Problem) (k : ℕ) (pair : ℕ × ℕ) (regions : Regions) → k < pair_count p → pair ≡ pair_at p k → regions ≡ forced_at p k → PairRules p pair regions
pair_rules p k pair regions small at is = record {
  left = λ e bits point. left_implies (bit_of bits pair.0) (bit_of bits pair.1) (lacks LeftOnly e bits point);
  right = λ e bits point. right_implies (bit_of bits pair.0) (bit_of bits pair.1) (lacks RightOnly e bits point);
  one = λ e bits point. (both_excludes (bit_of bits pair.0) (bit_of bits pair.1) (lacks Both e bits point)).0;
  other = λ e bits point. (both_excludes (bit_of bits pair.0) (bit_of bits pair.1) (lacks Both e bits point)).1;
}
  where
    lacks : (region : Region) → same_word (word_at regions region) Empty ≡ true → (bits : List Bool) → IsTrue (is_point p bits) → lies_in region pair bits ≡ false
    lacks region e bits point = ap (λ q. lies_in region q bits) at ∙ pair_lacks p k region small (ap (λ r. same_word (word_at r region) Empty) (sym is) ∙ e) bits point

-- a concept is covered by its children
pub child_covers : (p : Problem) (c : ℕ) → p.switches.coverage ≡ true → c < concept_count p → 0 < length (children_of p c) → (bits : List Bool) → IsTrue (is_point p bits) →
    bit_of bits c ≡ true → list_any (bit_of bits) (children_of p c) ≡ true
child_covers p c on within some bits point has =
    let s = structure_parts p bits (point_parts p bits point).structure in
    let test = λ (c : ℕ). (length (children_of p c) == 0) || implies (bit_of bits c) (list_any (bit_of bits) (children_of p c)) in
    let covered = all_at test (implies_at p.switches.coverage (point_covered p bits) s.covered on) (In-concepts p c within) in
    implies_at (bit_of bits c) (list_any (bit_of bits) (children_of p c))
    (sym (ap (λ x. x || implies (bit_of bits c) (list_any (bit_of bits) (children_of p c))) (ne_eqb (length (children_of p c)) 0 (λ e. omega (arith, e)))) ∙ covered) has

-- one head more
pub covers_more : (p : Problem) (old mid new : BitRows) (row head : ℕ) (heads more parts : List ℕ) → AreCovers p heads old → IsPushed old mid (λ _. false) → row ≡ old.count →
    new.count ≡ mid.count → ((r k : ℕ) → r ≢ row → bit_in new r k ≡ bit_in mid r k) → All (λ part. bit_in new row part ≡ true) parts → length heads ≡ old.count → more ≡ heads ++ head ∷ [] →
    HasCover p head parts → AreCovers p more new
covers_more p old mid new row head heads more parts are pushed at count others there counted is cover r d small bits point has = elim (cases_lt r old.count) [
  | inl before ↦
      let first : get_or more r d ≡ get_or heads r d = ap (λ hs. get_or hs r d) is ∙ get_or_append_left heads (head ∷ []) d r (omega (arith, counted)) in
      let some = are r d before bits point (ap (bit_of bits) (sym first) ∙ has) in
      let apart : r ≢ row = λ e. omega (arith, e, at) in
      record { place = some.place; passes = ap (λ b. b && bit_of bits some.place) (others r some.place apart ∙ pushed.before r some.place before) ∙ some.passes }
  | inr later ↦
      let grown = pushed.count in
      let same : r ≡ row = omega (arith, at, count) in
      let last : get_or more r d ≡ head = ap (λ hs. get_or hs r d) is ∙ get_or_push heads head d r (counted ∙ sym at ∙ sym same) in
      let found = any_at (bit_of bits) parts (cover bits point (ap (bit_of bits) (sym last) ∙ has)) in
      let stands = place_of found.member in
      record {
        place = found.item;
        passes = and_from (bit_in new r found.item) (bit_of bits found.item)
            (ap (λ q. bit_in new q found.item) same ∙ ap (bit_in new row) (sym (stands.is 0)) ∙ there stands.place 0 stands.within) found.passes;
      }
]

-- rules with the same of two concepts
pub record IsCoveredSo (old new : Rules) : Type 0 where
  pub implied : new.implied ≡ old.implied
  pub excluded : new.excluded ≡ old.excluded
  pub width : new.covers.width ≡ old.covers.width
  pub heads : length new.heads.items ≡ new.covers.count

pub not_empty : (xs : List ℕ) → (length xs ≡ 0 → ⊥) → 0 < length xs
not_empty xs h = omega (arith, h)
