-- The five relations, and the relation of two sets of numbers.
use Rattle.std.specs.Prelude.{ℕ, Bool, true, false, ◌==◌, ◌&&◌, not, nat_lt, if◌then◌else◌, List, [], ◌∷◌, Option, find}
use Rattle.std.specs.List.{list_all, list_any}
use Rattle.rcc5_core.specs.declared.Rel.{Rel}
use Rattle.rcc5_core.specs.declared.Rel.TheVariants.{Equals, Includes, IncludedIn, Overlaps, Disjoint}

-- the relations, in their order
abbrev pub all_rels : List Rel
all_rels = Equals ∷ Includes ∷ IncludedIn ∷ Overlaps ∷ Disjoint ∷ []

-- a relation's place in that order
abbrev pub rank_of : Rel → ℕ
rank_of Equals = 0
rank_of Includes = 1
rank_of IncludedIn = 2
rank_of Overlaps = 3
rank_of Disjoint = 4

-- whether two relations are one
abbrev pub same_rel : Rel → Rel → Bool
same_rel a b = rank_of a == rank_of b

-- the relation of Y to X, where the given one is that of X to Y
abbrev pub converse_of : Rel → Rel
converse_of Equals = Equals
converse_of Includes = IncludedIn
converse_of IncludedIn = Includes
converse_of Overlaps = Overlaps
converse_of Disjoint = Disjoint

-- the letter that stands for a relation: = > < x !
abbrev pub letter_of : Rel → ℕ
letter_of Equals = 61
letter_of Includes = 62
letter_of IncludedIn = 60
letter_of Overlaps = 120
letter_of Disjoint = 33

-- the relation that a letter stands for, if any
abbrev pub with_letter : ℕ → Option Rel
with_letter byte = find (λ rel. letter_of rel == byte) all_rels

-- whether each number of a list is below all after it
abbrev pub is_ascending : List ℕ → Bool
is_ascending [] = true
is_ascending (x ∷ xs) = list_all (λ y. nat_lt x y) xs && is_ascending xs

-- whether a number is in a set, which is given by a list of its elements
abbrev pub is_in : ℕ → List ℕ → Bool
is_in x ys = list_any (λ y. x == y) ys

-- whether each element of X is one of Y
abbrev pub is_subset : List ℕ → List ℕ → Bool
is_subset xs ys = list_all (λ x. is_in x ys) xs

-- whether X and Y have an element in common
abbrev pub have_common : List ℕ → List ℕ → Bool
have_common xs ys = list_any (λ x. is_in x ys) xs

-- the relation of two sets, which may be empty: that of the first test that holds
abbrev pub relation_of : List ℕ → List ℕ → Rel
relation_of xs ys =
    if is_subset xs ys && is_subset ys xs then Equals else
    (if is_subset xs ys then IncludedIn else
    (if is_subset ys xs then Includes else
    (if not (have_common xs ys) then Disjoint else Overlaps)))

-- the relation of two sets, by whether X without Y, X and Y, and Y without X have an element
abbrev pub relation_by : Bool → Bool → Bool → Rel
relation_by false both false = Equals
relation_by false both true = IncludedIn
relation_by true both false = Includes
relation_by true false true = Disjoint
relation_by true true true = Overlaps
