-- References, and the set of the relations that words stand for.
use Rattle.std.proofs.Common.{◌≡◌, ◌+◌, ◌-◌, ◌<◌, ◌≤◌, take, drop, get_or, ℕ, Bool, true, false, ◌||◌, List, [], ◌∷◌, ◌++◌, Option, None, Some, length, refl, sym, ap, ◌∙◌, arith, append_assoc}
use Rattle.std.specs.Prelude.{option_map, option_and_then, bytes_eq, nat_le, ◌&&◌}
use Rattle.std.specs.Borrow.{Bor}
use Rattle.std.proofs.lemmas.List.{append-nil, take_all}
use Rattle.std.specs.List.{position_or_len, list_any, list_all}
use Rattle.rcc5_core.specs.declared.Rel.{Rel}
use Rattle.rcc5_core.specs.declared.Rel.TheVariants.{Equals, Includes, IncludedIn, Overlaps, Disjoint}
use Rattle.rcc5_core.specs.declared.RelSet.{RelSet}
use Rattle.rcc5_core.specs.Relation.{same_rel}
use Rattle.rcc5_core.specs.RelationSet.{no_rels, adding}
use Rattle.text_words.specs.declared.words.Reference.{Reference}
use Rattle.text_words.specs.Words.{is_dot, is_name, is_name_byte, reference_of, references_of, relation_of_word, set_of_words}
use Rattle.text_words.specs.Views.{words_meant, reference_meant, references_meant, onto_references, set_onto}

-- a word of a length that no name has
pub name_short : (word : List ℕ) → (nat_le 1 (length word) && nat_le (length word) 128) ≡ false → is_name word ≡ false
name_short word h = by (nat_le 1 (length word)) (nat_le (length word) 128) (list_all is_name_byte word) h
  where
    by : (a b c : Bool) → (a && b) ≡ false → (a && b && c) ≡ false
    by false b c e = refl
    by true false c e = refl
    by true true c e = cc

pub name_long : (word : List ℕ) → (nat_le 1 (length word) && nat_le (length word) 128) ≡ true → is_name word ≡ list_all is_name_byte word
name_long word h = by (nat_le 1 (length word)) (nat_le (length word) 128) (list_all is_name_byte word) h
  where
    by : (a b c : Bool) → (a && b) ≡ true → (a && b && c) ≡ c
    by false b c e = cc
    by true false c e = cc
    by true true c e = refl

pub ruleset name_rules = (name_short, name_long)

-- the first of several words
pub words_meant_first : (words : List (Bor (List ℕ))) (d : Bor (List ℕ)) → 1 ≤ length words → words_meant words ≡ (get_or words 0 d).now ∷ words_meant (take (length words - 1) (drop 1 words))
words_meant_first [] d h = absurd (omega arith)
words_meant_first (w ∷ ws) d h = ap (λ rest. w.now ∷ words_meant rest) (sym (take_all (length (w ∷ ws) - 1) ws (omega arith)))

-- an element passes the test where the first that does has a place
pub any_placed : (p : ℕ → Bool) (xs : List ℕ) → position_or_len p xs < length xs → list_any p xs ≡ true
any_placed p [] h = absurd (omega arith)
any_placed p (x ∷ xs) h = by (any_placed p xs) (p x) refl h
  where
    by : (position_or_len p xs < length xs → list_any p xs ≡ true) → (b : Bool) → p x ≡ b → position_or_len p (x ∷ xs) < length (x ∷ xs) → list_any p (x ∷ xs) ≡ true
    by rest true e g = rw e refl
    by rest false e g =
        let more : position_or_len p (x ∷ xs) ≡ 1 + position_or_len p xs = rw e refl in
        rw e (rest (omega arith))

pub none_placed : (p : ℕ → Bool) (xs : List ℕ) → length xs ≤ position_or_len p xs → list_any p xs ≡ false
none_placed p [] h = refl
none_placed p (x ∷ xs) h = by (none_placed p xs) (p x) refl h
  where
    by : (length xs ≤ position_or_len p xs → list_any p xs ≡ false) → (b : Bool) → p x ≡ b → length (x ∷ xs) ≤ position_or_len p (x ∷ xs) → list_any p (x ∷ xs) ≡ false
    by rest true e g = let z : position_or_len p (x ∷ xs) ≡ 0 = rw e refl in absurd (omega arith)
    by rest false e g =
        let more : position_or_len p (x ∷ xs) ≡ 1 + position_or_len p xs = rw e refl in
        rw e (rest (omega arith))

pub dotted : (word : List ℕ) → position_or_len is_dot word < length word → list_any is_dot word ≡ true
dotted word h = any_placed is_dot word h

pub not_dotted : (word : List ℕ) → length word ≤ position_or_len is_dot word → reference_of word ≡ None
not_dotted word h = rw (none_placed is_dot word h) refl

pub ruleset dot_rules = (dotted, not_dotted)

references_meant_push : (refs : List Reference) (reference : Reference) → references_meant (refs ++ reference ∷ []) ≡ references_meant refs ++ reference_meant reference ∷ []
references_meant_push [] reference = refl
references_meant_push (r ∷ rs) reference = ap (λ rest. reference_meant r ∷ rest) (references_meant_push rs reference)

onto_references-append : (before refs : List (List ℕ × List ℕ)) (rest : Option (List (List ℕ × List ℕ))) → onto_references before (onto_references refs rest) ≡ onto_references (before ++ refs) rest
onto_references-append before refs None = refl
onto_references-append before refs (Some rest) = ap Some (sym (append_assoc before refs rest))

pub onto_references-nil : (rest : Option (List (List ℕ × List ℕ))) → onto_references [] rest ≡ rest
onto_references-nil None = refl
onto_references-nil (Some rest) = refl

-- the loop over references takes one
pub references_take : (refs : List Reference) (reference : Reference) (word : List ℕ) (words : List (List ℕ)) → reference_of word ≡ Some (reference_meant reference)
    → onto_references (references_meant refs) (references_of (word ∷ words)) ≡ onto_references (references_meant (refs ++ reference ∷ [])) (references_of words)
references_take refs reference word words e =
    let here : references_of (word ∷ words) ≡ onto_references (reference_meant reference ∷ []) (references_of words) = rw e refl in
    ap (onto_references (references_meant refs)) here
    ∙ onto_references-append (references_meant refs) (reference_meant reference ∷ []) (references_of words)
    ∙ ap (λ r. onto_references r (references_of words)) (sym (references_meant_push refs reference))

pub references_step : (refs new : List Reference) (reference : Reference) (rest : List (Bor (List ℕ))) (d : Bor (List ℕ)) → 1 ≤ length rest
    → reference_of (get_or rest 0 d).now ≡ Some (reference_meant reference) → new ≡ refs ++ reference ∷ []
    → onto_references (references_meant refs) (references_of (words_meant rest)) ≡ onto_references (references_meant new) (references_of (words_meant (take (length rest - 1) (drop 1 rest))))
references_step refs new reference rest d some e more =
    ap (λ words. onto_references (references_meant refs) (references_of words)) (words_meant_first rest d some)
    ∙ references_take refs reference (get_or rest 0 d).now (words_meant (take (length rest - 1) (drop 1 rest))) e
    ∙ ap (λ r. onto_references (references_meant r) (references_of (words_meant (take (length rest - 1) (drop 1 rest))))) (sym more)

pub references_stop : (refs : List (List ℕ × List ℕ)) (word : List ℕ) (words : List (List ℕ)) → reference_of word ≡ None → onto_references refs (references_of (word ∷ words)) ≡ None
references_stop refs word words e = rw e refl

pub references_end : (refs : List (List ℕ × List ℕ)) → onto_references refs (references_of []) ≡ Some refs
references_end refs = ap Some (append-nil refs)

pub ruleset references_rules = (words_meant_first, onto_references-nil, references_take, references_stop, references_end)

-- a relation is added before or after another one
or_swap : (x p q : Bool) → ((x || p) || q) ≡ ((x || q) || p)
or_swap true p q = refl
or_swap false true true = refl
or_swap false true false = refl
or_swap false false true = refl
or_swap false false false = refl

adding_swap : (set : RelSet) (a b : Rel) → adding (adding set a) b ≡ adding (adding set b) a
adding_swap set a b =
    same_rels
    (or_swap set.equals (same_rel a Equals) (same_rel b Equals))
    (or_swap set.includes (same_rel a Includes) (same_rel b Includes))
    (or_swap set.included_in (same_rel a IncludedIn) (same_rel b IncludedIn))
    (or_swap set.overlaps (same_rel a Overlaps) (same_rel b Overlaps))
    (or_swap set.disjoint (same_rel a Disjoint) (same_rel b Disjoint))
  where
    same_rels : {s t : RelSet} → s.equals ≡ t.equals → s.includes ≡ t.includes → s.included_in ≡ t.included_in → s.overlaps ≡ t.overlaps → s.disjoint ≡ t.disjoint → s ≡ t
    same_rels e f g h k = λ i. record { equals = e i; includes = f i; included_in = g i; overlaps = h i; disjoint = k i }

set_onto-adding : (set : RelSet) (rel : Rel) (words : List (List ℕ)) → option_map (λ s. adding s rel) (set_onto set words) ≡ set_onto (adding set rel) words
set_onto-adding set rel [] = refl
set_onto-adding set rel (w ∷ ws) =
    by (relation_of_word w) (set_onto set ws)
    ∙ ap (λ rest. option_and_then (λ r. option_map (λ s. adding s r) rest) (relation_of_word w)) (set_onto-adding set rel ws)
  where
    by : (r : Option Rel) (rest : Option RelSet) → option_map (λ s. adding s rel) (option_and_then (λ r. option_map (λ s. adding s r) rest) r)
        ≡ option_and_then (λ r. option_map (λ s. adding s r) (option_map (λ s. adding s rel) rest)) r
    by None rest = refl
    by (Some r) None = refl
    by (Some r) (Some s) = ap Some (adding_swap s r rel)

pub set_onto_none : (words : List (List ℕ)) → set_of_words words ≡ set_onto no_rels words
set_onto_none [] = refl
set_onto_none (w ∷ ws) = ap (λ rest. option_and_then (λ rel. option_map (λ s. adding s rel) rest) (relation_of_word w)) (set_onto_none ws)

-- the loop over the words of a relation takes one
pub set_takes : (set : RelSet) (word : List ℕ) (words : List (List ℕ)) (rel : Rel) → relation_of_word word ≡ Some rel
    → set_onto set (word ∷ words) ≡ set_onto (adding set rel) words
set_takes set word words rel e =
    let here : set_onto set (word ∷ words) ≡ option_map (λ s. adding s rel) (set_onto set words) = rw e refl in
    here ∙ set_onto-adding set rel words

pub set_stops : (set : RelSet) (word : List ℕ) (words : List (List ℕ)) → relation_of_word word ≡ None → set_onto set (word ∷ words) ≡ None
set_stops set word words e = rw e refl

pub ruleset set_rules = (words_meant_first, set_onto_none, set_takes, set_stops)

-- a test of all words, as the code has them
pub list_all_words : (p : List ℕ → Bool) (words : List (Bor (List ℕ))) → list_all p (words_meant words) ≡ list_all (λ w. p w.now) words
list_all_words p [] = refl
list_all_words p (w ∷ ws) = ap (λ b. p w.now && b) (list_all_words p ws)

-- whether one of the references is to a taxonomy, as the code has them
pub among_references : (taxonomy : List ℕ) (references : List Reference)
    → list_any (λ b. bytes_eq taxonomy b.0) (references_meant references) ≡ list_any (λ b. bytes_eq taxonomy b.taxonomy.now) references
among_references taxonomy [] = refl
among_references taxonomy (r ∷ rs) = ap (λ b. bytes_eq taxonomy r.taxonomy.now || b) (among_references taxonomy rs)
