-- Letters read as relations, one after the other.
use Rattle.std.proofs.Common.{◌≡◌, ◌≤◌, ℕ, List, [], ◌∷◌, ◌++◌, length, Option, Some, None, refl, sym, ap, arith, append_assoc, append-nil, option_map, map, false}
use Rattle.std.proofs.lemmas.List.{length-map}
use Rattle.rcc5_core.specs.declared.Rel.{Rel}
use Rattle.rcc5_core.specs.declared.Rel.TheVariants.{Equals, Includes, IncludedIn, Overlaps, Disjoint}
use Rattle.rcc5_core.specs.Relation.{with_letter, letter_of}
use Rattle.proof_text.specs.Laws.{has_byte}
use Rattle.proof_text.specs.Words.{position_word}
use Rattle.run_ends.specs.Token.Token.{rels_of, position_in}

-- relations before others, if those are some
abbrev pub onto_rels : List Rel → Option (List Rel) → Option (List Rel)
onto_rels rels rest = option_map (λ others. rels ++ others) rest

pub onto_rels-nil : (rest : Option (List Rel)) → onto_rels [] rest ≡ rest
onto_rels-nil None = refl
onto_rels-nil (Some others) = refl

onto_rels-cons : (rels : List Rel) (rel : Rel) (rest : Option (List Rel)) →
    onto_rels rels (option_map (λ others. rel ∷ others) rest) ≡ onto_rels (rels ++ rel ∷ []) rest
onto_rels-cons rels rel None = refl
onto_rels-cons rels rel (Some others) = ap Some (sym (append_assoc rels (rel ∷ []) others))

pub rels_of-take : (rels : List Rel) (rel : Rel) (letter : ℕ) (letters : List ℕ) → with_letter letter ≡ Some rel →
    onto_rels rels (rels_of (letter ∷ letters)) ≡ onto_rels (rels ++ rel ∷ []) (rels_of letters)
rels_of-take rels rel letter letters e = rw e (onto_rels-cons rels rel (rels_of letters))

pub rels_of-stop : (rels : List Rel) (letter : ℕ) (letters : List ℕ) → with_letter letter ≡ None →
    onto_rels rels (rels_of (letter ∷ letters)) ≡ None
rels_of-stop rels letter letters e = rw e refl

pub rels_of-end : (rels : List Rel) → onto_rels rels (rels_of []) ≡ Some rels
rels_of-end rels = ap Some (append-nil rels)

pub ruleset rels_rules = (onto_rels-nil, rels_of-take, rels_of-stop, rels_of-end)

-- letters of relations read back
rels_of-letters : (q : List Rel) → rels_of (map letter_of q) ≡ Some q
rels_of-letters [] = refl
rels_of-letters (Equals ∷ q) = ap (option_map (λ rels. Equals ∷ rels)) (rels_of-letters q)
rels_of-letters (Includes ∷ q) = ap (option_map (λ rels. Includes ∷ rels)) (rels_of-letters q)
rels_of-letters (IncludedIn ∷ q) = ap (option_map (λ rels. IncludedIn ∷ rels)) (rels_of-letters q)
rels_of-letters (Overlaps ∷ q) = ap (option_map (λ rels. Overlaps ∷ rels)) (rels_of-letters q)
rels_of-letters (Disjoint ∷ q) = ap (option_map (λ rels. Disjoint ∷ rels)) (rels_of-letters q)

pub position_in-word : (q : List Rel) → position_in (position_word q) ≡ Some q
position_in-word [] = refl
position_in-word (Equals ∷ q) = rels_of-letters (Equals ∷ q)
position_in-word (Includes ∷ q) = rels_of-letters (Includes ∷ q)
position_in-word (IncludedIn ∷ q) = rels_of-letters (IncludedIn ∷ q)
position_in-word (Overlaps ∷ q) = rels_of-letters (Overlaps ∷ q)
position_in-word (Disjoint ∷ q) = rels_of-letters (Disjoint ∷ q)

-- no letter is a space or a line end
letters-spaceless : (q : List Rel) → has_byte 32 (map letter_of q) ≡ false
letters-spaceless [] = refl
letters-spaceless (Equals ∷ q) = letters-spaceless q
letters-spaceless (Includes ∷ q) = letters-spaceless q
letters-spaceless (IncludedIn ∷ q) = letters-spaceless q
letters-spaceless (Overlaps ∷ q) = letters-spaceless q
letters-spaceless (Disjoint ∷ q) = letters-spaceless q

letters-endless : (q : List Rel) → has_byte 10 (map letter_of q) ≡ false
letters-endless [] = refl
letters-endless (Equals ∷ q) = letters-endless q
letters-endless (Includes ∷ q) = letters-endless q
letters-endless (IncludedIn ∷ q) = letters-endless q
letters-endless (Overlaps ∷ q) = letters-endless q
letters-endless (Disjoint ∷ q) = letters-endless q

-- a word without spaces and line ends, not empty and not too long
pub record IsShortWord (word : List ℕ) : Type 0 where
  pub spaceless : has_byte 32 word ≡ false
  pub endless : has_byte 10 word ≡ false
  pub some : 1 ≤ length word
  pub short : length word ≤ 523776

pub position_word-short : (q : List Rel) → length q ≤ 523776 → IsShortWord (position_word q)
position_word-short [] short = record { spaceless = refl; endless = refl; some = omega arith; short = omega arith }
position_word-short (rel ∷ q) short = record {
  spaceless = letters-spaceless (rel ∷ q);
  endless = letters-endless (rel ∷ q);
  some = omega (arith, length-map (rel ∷ q) letter_of);
  short = omega (arith, length-map (rel ∷ q) letter_of);
}
