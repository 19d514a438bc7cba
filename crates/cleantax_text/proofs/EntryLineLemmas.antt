-- The printed line of an articulation has the form of an entry with its words.
use Rattle.std.proofs.Common.{◌≡◌, ◌+◌, ◌<◌, ◌==◌, ℕ, Bool, true, false, not, List, [], ◌∷◌, ◌++◌, None, Some, length, map, take, drop, refl, sym, ap, ◌∙◌, arith, append_assoc}
use Rattle.std.specs.Prelude.{option_map, option_and_then, codes, bytes_eq, ◌&&◌, if◌then◌else◌, filter}
use Rattle.std.specs.List.{list_any, AllByRecursion, position_or_len, before_first, after_first}
use Rattle.std.proofs.lemmas.Bool.{and_parts, and_from, or_parts, or_right, ne_eqb, not-true, true≢false}
use Rattle.std.proofs.lemmas.List.{append-nil, length_push, take_at, drop_at}
use Rattle.std.proofs.lemmas.List.Folds.{list_any-append}
use Rattle.rcc5_core.specs.declared.Rel.{Rel}
use Rattle.rcc5_core.specs.declared.Rel.TheVariants.{Equals, Includes, IncludedIn, Overlaps, Disjoint}
use Rattle.rcc5_core.specs.declared.RelSet.{RelSet}
use Rattle.rcc5_core.specs.Relation.{all_rels}
use Rattle.rcc5_core.specs.RelationSet.{has, adding, no_rels, is_empty_set}
use Rattle.text_words.specs.Tokens.{Token, Bracket, Word, tokens_after}
use Rattle.text_words.specs.Words.{is_dot, is_name, is_taxonomy_name, reference_of, relation_of_word, set_of_words}
use Rattle.cleantax_text.specs.Forms.{PairEntry, SumEntry, form_of, words_to, sum_form, right_form, braces_form, entry_form, bracket_form}
use Rattle.cleantax_text.specs.Canonical.{spaced, word_of, words_text, set_text}
use Rattle.cleantax_text.proofs.ScanLemmas.{IsPrinted, printed_append, printed_low, printed_spaced, IsWord, EndsWord, scan_word, scan_spaced, spaced_ends, words_before}

-- the words of relations
pub rel_of_word : (rel : Rel) → relation_of_word (word_of rel) ≡ Some rel
rel_of_word Equals = refl
rel_of_word Includes = refl
rel_of_word IncludedIn = refl
rel_of_word Overlaps = refl
rel_of_word Disjoint = refl

rel_is_word : (rel : Rel) → IsWord (word_of rel)
rel_is_word Equals = record { some = omega arith; bytes = refl }
rel_is_word Includes = record { some = omega arith; bytes = refl }
rel_is_word IncludedIn = record { some = omega arith; bytes = refl }
rel_is_word Overlaps = record { some = omega arith; bytes = refl }
rel_is_word Disjoint = record { some = omega arith; bytes = refl }

rel_is_printed : (rel : Rel) → IsPrinted (word_of rel)
rel_is_printed Equals = printed_low (word_of Equals) refl refl
rel_is_printed Includes = printed_low (word_of Includes) refl refl
rel_is_printed IncludedIn = printed_low (word_of IncludedIn) refl refl
rel_is_printed Overlaps = printed_low (word_of Overlaps) refl refl
rel_is_printed Disjoint = printed_low (word_of Disjoint) refl refl

rel_no_sum : (rel : Rel) → bytes_eq (word_of rel) (codes "sums") ≡ false
rel_no_sum Equals = refl
rel_no_sum Includes = refl
rel_no_sum IncludedIn = refl
rel_no_sum Overlaps = refl
rel_no_sum Disjoint = refl

rels_are_words : (rels : List Rel) → AllByRecursion IsWord (map word_of rels)
rels_are_words [] = tt
rels_are_words (r ∷ rs) = (rel_is_word r, rels_are_words rs)

rels_are_printed : (rels : List Rel) → AllByRecursion IsPrinted (map word_of rels)
rels_are_printed [] = tt
rels_are_printed (r ∷ rs) = (rel_is_printed r, rels_are_printed rs)

-- the set of relations
abbrev set_of_rels : List Rel → RelSet
set_of_rels [] = no_rels
set_of_rels (r ∷ rs) = adding (set_of_rels rs) r

words_of_rels : (rels : List Rel) → set_of_words (map word_of rels) ≡ Some (set_of_rels rels)
words_of_rels [] = refl
words_of_rels (r ∷ rs) =
    ap (option_and_then (λ rel. option_map (λ set. adding set rel) (set_of_words (map word_of rs)))) (rel_of_word r)
    ∙ ap (option_map (λ set. adding set r)) (words_of_rels rs)

abbrev five : Bool → Bool → Bool → Bool → Bool → RelSet
five a b c d e = record { equals = a; includes = b; included_in = c; overlaps = d; disjoint = e }

members_are : (a b c d e : Bool) → set_of_rels (filter (has (five a b c d e)) all_rels) ≡ five a b c d e
members_are true true true true true = refl
members_are true true true true false = refl
members_are true true true false true = refl
members_are true true true false false = refl
members_are true true false true true = refl
members_are true true false true false = refl
members_are true true false false true = refl
members_are true true false false false = refl
members_are true false true true true = refl
members_are true false true true false = refl
members_are true false true false true = refl
members_are true false true false false = refl
members_are true false false true true = refl
members_are true false false true false = refl
members_are true false false false true = refl
members_are true false false false false = refl
members_are false true true true true = refl
members_are false true true true false = refl
members_are false true true false true = refl
members_are false true true false false = refl
members_are false true false true true = refl
members_are false true false true false = refl
members_are false true false false true = refl
members_are false true false false false = refl
members_are false false true true true = refl
members_are false false true true false = refl
members_are false false true false true = refl
members_are false false true false false = refl
members_are false false false true true = refl
members_are false false false true false = refl
members_are false false false false true = refl
members_are false false false false false = refl

pub set_again : (set : RelSet) → set_of_rels (filter (has set) all_rels) ≡ set
set_again set = members_are set.equals set.includes set.included_in set.overlaps set.disjoint

-- the words of a set give it
pub words_of_set : (set : RelSet) → set_of_words (map word_of (filter (has set) all_rels)) ≡ Some set
words_of_set set = words_of_rels (filter (has set) all_rels) ∙ ap Some (set_again set)

pub some_rels : (set : RelSet) → not (is_empty_set set) ≡ true → (length (map word_of (filter (has set) all_rels)) == 0) ≡ false
some_rels set e = by (filter (has set) all_rels) refl
  where
    by : (rels : List Rel) → filter (has set) all_rels ≡ rels → (length (map word_of (filter (has set) all_rels)) == 0) ≡ false
    by [] is =
        let none : set ≡ no_rels = sym (set_again set) ∙ ap set_of_rels is in
        absurd (true≢false (sym e ∙ ap (λ s. not (is_empty_set s)) none))
    by (r ∷ rs) is = let n = ap (λ l. length (map word_of l)) is in ne_eqb (length (map word_of (filter (has set) all_rels))) 0 (λ same. omega arith)

-- the tokens of a relation, and those after it
abbrev relation_tokens : List (List ℕ) → List Token → List Token
relation_tokens [] after = Bracket 123 ∷ Bracket 125 ∷ after
relation_tokens (word ∷ []) after = Word word ∷ after
relation_tokens (word ∷ other ∷ words) after = Bracket 123 ∷ (map Word (word ∷ other ∷ words) ++ Bracket 125 ∷ after)

scan_relation : (rels : List Rel) (rest : List ℕ) → EndsWord rest → tokens_after [] (words_text (map word_of rels) ++ rest) ≡ relation_tokens (map word_of rels) (tokens_after [] rest)
scan_relation [] rest e = refl
scan_relation (r ∷ []) rest e = let w = rel_is_word r in scan_word (word_of r) rest w.some w.bytes e
scan_relation (r ∷ o ∷ rs) rest e =
    let w = rel_is_word r in
    let words = map word_of (o ∷ rs) in
    let joined : (word_of r ++ spaced words ++ 125 ∷ []) ++ rest ≡ word_of r ++ (spaced words ++ 125 ∷ rest) =
    append_assoc (word_of r ++ spaced words) (125 ∷ []) rest ∙ append_assoc (word_of r) (spaced words) (125 ∷ rest) in
    ap (λ t. Bracket 123 ∷ tokens_after [] t) joined
    ∙ ap (λ ts. Bracket 123 ∷ ts) (scan_word (word_of r) (spaced words ++ 125 ∷ rest) w.some w.bytes (spaced_ends words (125 ∷ rest) refl))
    ∙ ap (λ ts. Bracket 123 ∷ Word (word_of r) ∷ ts) (scan_spaced words (125 ∷ rest) (rels_are_words (o ∷ rs)) refl)

braces_read : (left : List ℕ) (relation words : List (List ℕ)) (after : List Token) → braces_form left relation (map Word words ++ Bracket 125 ∷ after) ≡ right_form left (relation ++ words) (words_to 93 after)
braces_read left relation [] after = ap (λ ws. right_form left ws (words_to 93 after)) (sym (append-nil relation))
braces_read left relation (w ∷ ws) after =
    braces_read left (relation ++ w ∷ []) ws after ∙ ap (λ r. right_form left r (words_to 93 after)) (append_assoc relation (w ∷ []) ws)

relation_read : (left right : List ℕ) (rels : List Rel) → entry_form left (relation_tokens (map word_of rels) (Word right ∷ Bracket 93 ∷ [])) ≡ PairEntry left (map word_of rels) right
relation_read left right [] = refl
relation_read left right (r ∷ []) = ap (λ b. if b then sum_form left (Some (right ∷ [])) else PairEntry left (word_of r ∷ []) right) (rel_no_sum r)
relation_read left right (r ∷ o ∷ rs) = braces_read left [] (map word_of (r ∷ o ∷ rs)) (Word right ∷ Bracket 93 ∷ [])

-- an entry on two concepts
abbrev pub pair_line : List ℕ → List ℕ → List ℕ → List ℕ
pair_line left relation right = 91 ∷ (left ++ 32 ∷ (relation ++ 32 ∷ (right ++ 93 ∷ [])))

pub pair_read : (left right : List ℕ) (set : RelSet) → IsWord left → IsWord right
    → form_of (tokens_after [] (pair_line left (set_text set) right)) ≡ PairEntry left (map word_of (filter (has set) all_rels)) right
pair_read left right set l r =
    let rels = filter (has set) all_rels in
    let last : tokens_after [] (right ++ 93 ∷ []) ≡ Word right ∷ Bracket 93 ∷ [] = scan_word right (93 ∷ []) r.some r.bytes refl in
    let tokens : tokens_after [] (left ++ 32 ∷ (set_text set ++ 32 ∷ (right ++ 93 ∷ []))) ≡ Word left ∷ relation_tokens (map word_of rels) (Word right ∷ Bracket 93 ∷ []) =
    scan_word left (32 ∷ (set_text set ++ 32 ∷ (right ++ 93 ∷ []))) l.some l.bytes refl
    ∙ ap (λ ts. Word left ∷ ts) (scan_relation rels (32 ∷ (right ++ 93 ∷ [])) refl ∙ ap (relation_tokens (map word_of rels)) last) in
    ap (λ ts. bracket_form ts) tokens ∙ relation_read left right rels

printed_relation : (rels : List Rel) → IsPrinted (words_text (map word_of rels))
printed_relation [] = printed_low (codes "{}") refl refl
printed_relation (r ∷ []) = rel_is_printed r
printed_relation (r ∷ o ∷ rs) =
    let words = map word_of (o ∷ rs) in
    printed_append (codes "{" ++ word_of r ++ spaced words) (codes "}")
    (printed_append (codes "{" ++ word_of r) (spaced words) (printed_append (codes "{") (word_of r) (printed_low (codes "{") refl refl) (rel_is_printed r)) (printed_spaced words (rels_are_printed (o ∷ rs))))
    (printed_low (codes "}") refl refl)

pub printed_pair : (left right : List ℕ) (set : RelSet) → IsPrinted left → IsPrinted right → IsPrinted (pair_line left (set_text set) right)
printed_pair left right set l r =
    let blank = printed_low (32 ∷ []) refl refl in
    printed_append (91 ∷ []) (left ++ 32 ∷ (set_text set ++ 32 ∷ (right ++ 93 ∷ []))) (printed_low (91 ∷ []) refl refl)
    (printed_append left (32 ∷ (set_text set ++ 32 ∷ (right ++ 93 ∷ []))) l
    (printed_append (32 ∷ []) (set_text set ++ 32 ∷ (right ++ 93 ∷ [])) blank
    (printed_append (set_text set) (32 ∷ (right ++ 93 ∷ [])) (printed_relation (filter (has set) all_rels))
    (printed_append (32 ∷ []) (right ++ 93 ∷ []) blank (printed_append right (93 ∷ []) r (printed_low (93 ∷ []) refl refl))))))

-- an entry on a sum
abbrev pub sum_line : List ℕ → List (List ℕ) → List ℕ
sum_line whole parts = 91 ∷ (whole ++ 32 ∷ (codes "sums" ++ (spaced parts ++ 93 ∷ [])))

two_parts : (whole : List ℕ) (parts : List (List ℕ)) → 1 < length parts → sum_form whole (Some parts) ≡ SumEntry whole parts
two_parts whole [] h = absurd (omega arith)
two_parts whole (p ∷ []) h = absurd (omega arith)
two_parts whole (p ∷ q ∷ ps) h = refl

pub sum_read : (whole : List ℕ) (parts : List (List ℕ)) → IsWord whole → AllByRecursion IsWord parts → 1 < length parts → form_of (tokens_after [] (sum_line whole parts)) ≡ SumEntry whole parts
sum_read whole parts w ps two =
    let tokens : tokens_after [] (whole ++ 32 ∷ (codes "sums" ++ (spaced parts ++ 93 ∷ []))) ≡ Word whole ∷ Word (codes "sums") ∷ (map Word parts ++ Bracket 93 ∷ []) =
    scan_word whole (32 ∷ (codes "sums" ++ (spaced parts ++ 93 ∷ []))) w.some w.bytes refl
    ∙ ap (λ ts. Word whole ∷ ts) (scan_word (codes "sums") (spaced parts ++ 93 ∷ []) (omega arith) refl (spaced_ends parts (93 ∷ []) refl)
    ∙ ap (λ ts. Word (codes "sums") ∷ ts) (scan_spaced parts (93 ∷ []) ps refl)) in
    ap (λ ts. bracket_form ts) tokens ∙ ap (sum_form whole) (words_before 93 parts refl) ∙ two_parts whole parts two

pub printed_sum : (whole : List ℕ) (parts : List (List ℕ)) → IsPrinted whole → AllByRecursion IsPrinted parts → IsPrinted (sum_line whole parts)
printed_sum whole parts w ps =
    printed_append (91 ∷ []) (whole ++ 32 ∷ (codes "sums" ++ (spaced parts ++ 93 ∷ []))) (printed_low (91 ∷ []) refl refl)
    (printed_append whole (32 ∷ (codes "sums" ++ (spaced parts ++ 93 ∷ []))) w
    (printed_append (codes " sums") (spaced parts ++ 93 ∷ []) (printed_low (codes " sums") refl refl)
    (printed_append (spaced parts) (93 ∷ []) (printed_spaced parts ps) (printed_low (93 ∷ []) refl refl))))

-- a reference is cut at its full stop
dot_at : (id name : List ℕ) → list_any is_dot id ≡ false → position_or_len is_dot (id ++ 46 ∷ name) ≡ length id
dot_at [] name e = refl
dot_at (b ∷ bs) name e =
    let parts = or_parts (is_dot b) (list_any is_dot bs) e in
    let here : is_dot b ≡ false = parts.0 in
    let rest = dot_at bs name parts.1 in
    let more : position_or_len is_dot ((b ∷ bs) ++ 46 ∷ name) ≡ 1 + position_or_len is_dot (bs ++ 46 ∷ name) = rw here refl in
    omega arith

pub reference_read : (id name : List ℕ) → is_taxonomy_name id ≡ true → is_name name ≡ true → reference_of (id ++ 46 ∷ name) ≡ Some (id, name)
reference_read id name i n =
    let parts = and_parts (is_name id) (not (list_any is_dot id)) i in
    let at = dot_at id name (not-true (list_any is_dot id) parts.1) in
    let any : list_any is_dot (id ++ 46 ∷ name) ≡ true = list_any-append is_dot id (46 ∷ name) ∙ or_right (list_any is_dot id) true refl in
    let before : before_first is_dot (id ++ 46 ∷ name) ≡ id = ap (λ k. take k (id ++ 46 ∷ name)) at ∙ take_at id (46 ∷ name) (length id) refl in
    let after : after_first is_dot (id ++ 46 ∷ name) ≡ name =
    ap (λ k. drop (k + 1) (id ++ 46 ∷ name)) at ∙ ap (drop (length id + 1)) (sym (append_assoc id (46 ∷ []) name)) ∙ drop_at (id ++ 46 ∷ []) name (length id + 1) (length_push id 46) in
    let test : (list_any is_dot (id ++ 46 ∷ name) && is_name (before_first is_dot (id ++ 46 ∷ name)) && is_name (after_first is_dot (id ++ 46 ∷ name))) ≡ true =
    and_from _ _ (and_from _ _ any (ap is_name before ∙ parts.0)) (ap is_name after ∙ n) in
    ap (λ b. if b then Some (before_first is_dot (id ++ 46 ∷ name), after_first is_dot (id ++ 46 ∷ name)) else None) test
    ∙ ap (λ w. Some (w, after_first is_dot (id ++ 46 ∷ name))) before ∙ ap (λ w. Some (id, w)) after
