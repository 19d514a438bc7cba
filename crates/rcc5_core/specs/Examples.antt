-- The whole sets, and relations of small sets.
use Rattle.std.specs.Prelude.{◌≡◌, ℕ, List, [], ◌∷◌, ◌++◌, map, filter, codes}
use Rattle.rcc5_core.specs.declared.Rel.TheVariants.{Equals, Includes, IncludedIn, Overlaps, Disjoint}
use Rattle.rcc5_core.specs.declared.RelSet.{RelSet}
use Rattle.rcc5_core.specs.Relation.{letter_of, is_in, relation_of}
use Rattle.rcc5_core.specs.RelationSet.{rels_that}
use Rattle.rcc5_core.specs.Region.{is_whole_set}

-- the set of the relations whose letters are given
abbrev pub set_of_letters : List ℕ → RelSet
set_of_letters letters = rels_that (λ rel. is_in (letter_of rel) letters)

-- every choice from a list, in its order
abbrev pub choices : List ℕ → List (List ℕ)
choices [] = [] ∷ []
choices (x ∷ xs) = map (λ rest. x ∷ rest) (choices xs) ++ choices xs

-- of the 32 sets just eleven are whole
abbrev pub ElevenWholeSets : Type 0
ElevenWholeSets = filter (λ letters. is_whole_set (set_of_letters letters)) (choices (codes "=><x!")) ≡
    codes "=><x!" ∷ codes "=>" ∷ codes "=<" ∷ codes "=" ∷ codes ">x!" ∷ codes ">" ∷ codes "<x!" ∷ codes "<" ∷ codes "x!" ∷ codes "x" ∷ codes "!" ∷ []

-- relations of sets, empty ones too: the first test that holds decides
pub record RelationsOfSmallSets : Type 0 where
  pub both_empty : relation_of [] [] ≡ Equals
  pub left_empty : relation_of [] (7 ∷ []) ≡ IncludedIn
  pub right_empty : relation_of (7 ∷ []) [] ≡ Includes
  pub apart : relation_of (1 ∷ []) (2 ∷ []) ≡ Disjoint
  pub crossing : relation_of (1 ∷ 2 ∷ []) (2 ∷ 3 ∷ []) ≡ Overlaps
  pub within : relation_of (2 ∷ []) (2 ∷ 3 ∷ []) ≡ IncludedIn
  pub around : relation_of (1 ∷ 2 ∷ 3 ∷ []) (1 ∷ 3 ∷ []) ≡ Includes
  pub same : relation_of (4 ∷ 5 ∷ []) (4 ∷ 5 ∷ []) ≡ Equals
