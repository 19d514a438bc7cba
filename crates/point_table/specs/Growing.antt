-- The points that begin with some bits, and rules by which none does.
use Rattle.std.specs.Prelude.{◌≡◌, ℕ, ◌*◌, ◌<◌, ◌≤◌, Bool, true, false, ◌&&◌, List, ◌++◌, length, map, filter, take, slice_index_or, IsTrue}
use Rattle.world_model.specs.Problem.{Problem, concept_count}
use Rattle.world_model.specs.Alive.{bit_of, is_point}
use Rattle.std.specs.List.{list_any}
use Rattle.world_model.specs.Trial.{bit_lists}
use Rattle.bit_rows.specs.Rows.{SomePlace, BitRows, bit_in}
use Rattle.point_table.specs.declared.rules.Rules.{Rules}
use Rattle.point_table.specs.declared.grow.Terms.{Terms}
use Rattle.world_model.specs.Points.{empty_pairs}
use Rattle.point_table.specs.Points.{AreAllowed}

-- the points with these bits and then n more, in order
unfoldable pub points_below : Problem → List Bool → ℕ → List (List Bool)
points_below p begin n = filter (is_point p) (map (λ rest. begin ++ rest) (bit_lists n))

-- no point begins with these bits
abbrev pub NoneBegins : Problem → List Bool → Type 0
NoneBegins p begin = (bits : List Bool) → IsTrue (is_point p bits) → take (length begin) bits ≡ begin → ⊥

-- what each row has of a concept holds of each point: it is in the row's places too, where it is in the row's concept
abbrev pub AreImplied : Problem → BitRows → Type 0
AreImplied p rows = (a b : ℕ) → bit_in rows a b ≡ true → (bits : List Bool) → IsTrue (is_point p bits) → bit_of bits a ≡ true → bit_of bits b ≡ true

-- or it is in none of them
abbrev pub AreExcluded : Problem → BitRows → Type 0
AreExcluded p rows = (a b : ℕ) → bit_in rows a b ≡ true → (bits : List Bool) → IsTrue (is_point p bits) → bit_of bits a ≡ true → bit_of bits b ≡ false

-- or it is in one of them, for rows that each have a head
abbrev pub AreCovers : Problem → List ℕ → BitRows → Type 0
AreCovers p heads rows = (r d : ℕ) → r < rows.count → (bits : List Bool) → IsTrue (is_point p bits) → bit_of bits (slice_index_or heads r d) ≡ true →
    SomePlace (λ k. bit_in rows r k && bit_of bits k)

-- the concepts of the first row are in each point that begins with some bits, and those of the second in none
pub record IsTried (p : Problem) (begin : List Bool) (rows : BitRows) : Type 0 where
  pub two : rows.count ≡ 2
  pub some : 0 < rows.width
  pub yes : (k : ℕ) → bit_in rows 0 k ≡ true → (bits : List Bool) → IsTrue (is_point p bits) → take (length begin) bits ≡ begin → bit_of bits k ≡ true
  pub none : (k : ℕ) → bit_in rows 1 k ≡ true → (bits : List Bool) → IsTrue (is_point p bits) → take (length begin) bits ≡ begin → bit_of bits k ≡ false

-- rules whose rows fit each other and the concepts
pub record FitConcepts (count : ℕ) (rules : Rules) : Type 0 where
  pub implied_counted : rules.implied.count ≡ count
  pub excluded_counted : rules.excluded.count ≡ count
  pub width : rules.excluded.width ≡ rules.implied.width
  pub some : 0 < rules.implied.width
  pub wide : count ≤ 64 * rules.implied.width
  pub heads_counted : length rules.heads.items ≡ rules.covers.count

-- rules that hold of each point of a problem
pub record AreRules (p : Problem) (rules : Rules) : Type 0 where
  pub implied : AreImplied p rules.implied
  pub excluded : AreExcluded p rules.excluded
  pub covers : AreCovers p rules.heads.items rules.covers

-- what a search goes by fits its problem
pub record AreTerms (t : Terms) : Type 0 where
  pub sets : AreAllowed t.problem.now t.sets.now
  pub pairs : t.pairs.now ≡ empty_pairs t.problem.now
  pub fit : FitConcepts (concept_count t.problem.now) t.rules.now
  pub rules : AreRules t.problem.now t.rules.now

-- one row a concept, with a place for each concept
pub record IsSquare (count : ℕ) (rows : BitRows) : Type 0 where
  pub counted : rows.count ≡ count
  pub wide : count ≤ 64 * rows.width

-- rows after some places were added
pub record IsSameSize (old new : BitRows) : Type 0 where
  pub count : new.count ≡ old.count
  pub width : new.width ≡ old.width

-- each point of a concept is in one of some others
abbrev pub HasCover : Problem → ℕ → List ℕ → Type 0
HasCover p head parts = (bits : List Bool) → IsTrue (is_point p bits) → bit_of bits head ≡ true → list_any (bit_of bits) parts ≡ true

-- rules with more heads, and the same of two concepts
pub record IsMoreCovered (old new : Rules) : Type 0 where
  pub implied : new.implied ≡ old.implied
  pub excluded : new.excluded ≡ old.excluded
  pub width : new.covers.width ≡ old.covers.width
  pub heads : length new.heads.items ≡ new.covers.count
