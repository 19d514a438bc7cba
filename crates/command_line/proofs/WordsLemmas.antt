-- Keys, operands and words.
use Rattle.std.proofs.Common.{◌≡◌, ℕ, ◌+◌, ◌<◌, Bool, true, false, cond, List, [], ◌∷◌, ◌++◌, None, Some, Result, Ok, Err, length, map, drop, get_or, refl, sym, ap, ◌∙◌, arith}
use Rattle.std.specs.Prelude.{string_bytes, bytes_eq}
use Rattle.std.specs.List.{position_or_len, before_first, after_first}
use Rattle.std.proofs.lemmas.List.{drop_more}
use Rattle.std.specs.declared.string.String.{String}
use Rattle.std.specs.declared.alloc.Global.{Global}
use Rattle.text_words.proofs.WordLemmas.{any_placed, none_placed}
use Rattle.command_line.specs.declared.table.Key.{Key}
use Rattle.command_line.specs.declared.Operand.{Operand}
use Rattle.command_line.specs.declared.UsageKind.{UsageKind}
use Rattle.command_line.specs.Table.{Row, key_name}
use Rattle.command_line.specs.Words.{key_among, is_equals, cut_word, and_then, operand_of, operands_of}

-- a key of the first list is found there
pub key_among-first : (first second : List Key) (name : List ℕ) (key : Key) → key_among first name ≡ Some key → key_among (first ++ second) name ≡ Some key
key_among-first [] second name key h = cc
key_among-first (k ∷ ks) second name key h = by (bytes_eq name (key_name k)) (key_among-first ks second name key) h
  where
    by : (b : Bool) → (key_among ks name ≡ Some key → key_among (ks ++ second) name ≡ Some key) → cond b (Some k) (key_among ks name) ≡ Some key → cond b (Some k) (key_among (ks ++ second) name) ≡ Some key
    by true rest e = e
    by false rest e = rest e

-- and else in the second
pub key_among-second : (first second : List Key) (name : List ℕ) → key_among first name ≡ None → key_among (first ++ second) name ≡ key_among second name
key_among-second [] second name h = refl
key_among-second (k ∷ ks) second name h = by (bytes_eq name (key_name k)) (key_among-second ks second name) h
  where
    by : (b : Bool) → (key_among ks name ≡ None → key_among (ks ++ second) name ≡ key_among second name) → cond b (Some k) (key_among ks name) ≡ None → cond b (Some k) (key_among (ks ++ second) name) ≡ key_among second name
    by true rest e = cc
    by false rest e = rest e

pub ruleset key_rules = (key_among-first, key_among-second)

-- a word with = is cut, and one without it is not
pub cut_word-equals : (word : List ℕ) → position_or_len is_equals word < length word → cut_word word ≡ Some (before_first is_equals word, after_first is_equals word)
cut_word-equals word h = rw (any_placed is_equals word h) refl

pub cut_word-none : (word : List ℕ) → position_or_len is_equals word ≡ length word → cut_word word ≡ None
cut_word-none word h = rw (none_placed is_equals word (omega (arith, h))) refl

pub ruleset cut_rules = (cut_word-equals, cut_word-none)

-- the next of the words
words_next : (words : List (String Global)) (i : ℕ) (word : String Global) → i < length words → word ≡ get_or words i word
    → map string_bytes (drop i words) ≡ string_bytes word ∷ map string_bytes (drop (i + 1) words)
words_next words i word h at =
    ap (map string_bytes) (drop_more words i word h)
    ∙ ap (λ (w : String Global). string_bytes w ∷ map string_bytes (drop (i + 1) words)) (sym at)

-- the loop over the further words takes one
pub operands_take : (known : List (List ℕ)) (row : Row) (earlier longer : List Operand) (words : List (String Global)) (i : ℕ) (word : String Global) (operand : Operand) → i < length words → word ≡ get_or words i word
    → operand_of known row earlier (string_bytes word) ≡ Ok operand → longer ≡ earlier ++ operand ∷ []
    → operands_of known row earlier (map string_bytes (drop i words)) ≡ operands_of known row longer (map string_bytes (drop (i + 1) words))
operands_take known row earlier longer words i word operand h at here more =
    ap (λ (ws : List (List ℕ)). operands_of known row earlier ws) (words_next words i word h at)
    ∙ ap (λ (r : Result Operand UsageKind). and_then r (λ o. operands_of known row (earlier ++ o ∷ []) (map string_bytes (drop (i + 1) words)))) here
    ∙ ap (λ (list : List Operand). operands_of known row list (map string_bytes (drop (i + 1) words))) (sym more)

-- a fault ends it
pub operands_stop : (known : List (List ℕ)) (row : Row) (earlier : List Operand) (words : List (String Global)) (i : ℕ) (word : String Global) (kind : UsageKind) → i < length words → word ≡ get_or words i word
    → operand_of known row earlier (string_bytes word) ≡ Err kind
    → operands_of known row earlier (map string_bytes (drop i words)) ≡ Err kind
operands_stop known row earlier words i word kind h at here =
    ap (λ (ws : List (List ℕ)). operands_of known row earlier ws) (words_next words i word h at)
    ∙ ap (λ (r : Result Operand UsageKind). and_then r (λ o. operands_of known row (earlier ++ o ∷ []) (map string_bytes (drop (i + 1) words)))) here

pub ruleset operands_rules = (operands_take, operands_stop)
