-- Names, references and the words for relations.
use Rattle.std.specs.Prelude.{ℕ, ◌==◌, nat_le, Bool, not, ◌&&◌, List, [], ◌∷◌, length, Option, Some, None, option_map, option_and_then, is_some, find, if◌then◌else◌, ◌||◌, bytes_eq, codes}
use Rattle.std.specs.List.{list_all, list_any, before_first, after_first}
use Rattle.rcc5_core.specs.declared.Rel.{Rel}
use Rattle.rcc5_core.specs.declared.Rel.TheVariants.{Equals, Includes, IncludedIn, Overlaps, Disjoint}
use Rattle.rcc5_core.specs.declared.RelSet.{RelSet}
use Rattle.rcc5_core.specs.Relation.{letter_of, with_letter, is_in}
use Rattle.rcc5_core.specs.RelationSet.{no_rels, adding, rels_that}

-- whether a byte may stand in a name: not 00 to 1F and not 7F
abbrev pub is_name_byte : ℕ → Bool
is_name_byte b = nat_le 32 b && not (b == 127)

-- whether a word is a name: 1 to 128 such bytes
abbrev pub is_name : List ℕ → Bool
is_name word = nat_le 1 (length word) && nat_le (length word) 128 && list_all is_name_byte word

-- whether a byte is a full stop
abbrev pub is_dot : ℕ → Bool
is_dot b = b == 46

-- whether a word is a taxonomy's name: a name without full stop
abbrev pub is_taxonomy_name : List ℕ → Bool
is_taxonomy_name word = is_name word && not (list_any is_dot word)

-- the taxonomy's name and the concept's name of a reference: the word cut at its first full stop
abbrev pub reference_of : List ℕ → Option (List ℕ × List ℕ)
reference_of word =
    if list_any is_dot word && is_name (before_first is_dot word) && is_name (after_first is_dot word)
    then Some (before_first is_dot word, after_first is_dot word) else None

-- the words for relations
abbrev pub relation_words : List (List ℕ × Rel)
relation_words =
    (codes "equals", Equals) ∷ (codes "==", Equals) ∷
    (codes "includes", Includes) ∷ (codes ">", Includes) ∷
    (codes "is_included_in", IncludedIn) ∷ (codes "<", IncludedIn) ∷
    (codes "overlaps", Overlaps) ∷ (codes "><", Overlaps) ∷
    (codes "disjoint", Disjoint) ∷ (codes "!", Disjoint) ∷ []

-- the relation that a word stands for, if any
abbrev pub relation_of_word : List ℕ → Option Rel
relation_of_word word = option_map (λ entry. entry.1) (find (λ entry. bytes_eq word entry.0) relation_words)

-- the set of the relations that words stand for, if each stands for one
abbrev pub set_of_words : List (List ℕ) → Option RelSet
set_of_words [] = Some no_rels
set_of_words (word ∷ words) = option_and_then (λ rel. option_map (λ set. adding set rel) (set_of_words words)) (relation_of_word word)

-- whether a byte is the letter of a relation
abbrev pub is_letter : ℕ → Bool
is_letter byte = is_some (with_letter byte)

-- the set of the relations whose letters a word has: one at least, and no other byte
abbrev pub set_of_letters : List ℕ → Option RelSet
set_of_letters word =
    if (length word == 0) || not (list_all is_letter word) then None else Some (rels_that (λ rel. is_in (letter_of rel) word))

-- the references of words, if each is one
abbrev pub references_of : List (List ℕ) → Option (List (List ℕ × List ℕ))
references_of [] = Some []
references_of (word ∷ words) = option_and_then (λ reference. option_map (λ rest. reference ∷ rest) (references_of words)) (reference_of word)
