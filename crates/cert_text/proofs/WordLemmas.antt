-- Words of a line: each is read back from its text.
use Rattle.std.proofs.Common.{◌≡◌, ℕ, ◌-◌, ◌^◌, ◌<◌, ◌≤◌, ◌||◌, Bool, true, false, ◌&&◌, cond, eqb, leb, List, [], ◌∷◌, ◌++◌, length, map, codes, decimal, bytes_eq, Option, Some, None, option_map, option_and_then, Result, Ok, ok_or, refl, ap, ◌∙◌, arith}
use Rattle.std.specs.List.{AllByRecursion, join_with_byte, list_all}
use Rattle.std.proofs.lemmas.Bool.{and_parts, or_parts}
use Rattle.std.proofs.lemmas.Bool.Decides.{nat_tests}
use Rattle.rcc5_core.specs.declared.Rel.{Rel}
use Rattle.rcc5_core.specs.declared.Rel.TheVariants.{Equals, Includes, IncludedIn, Overlaps, Disjoint}
use Rattle.rcc5_core.specs.Relation.{letter_of, with_letter}
use Rattle.proof_text.specs.declared.fault.LineTextFault.{LineTextFault}
use Rattle.proof_text.specs.declared.fault.LineTextFault.TheVariants.{BadLine, BadNumber}
use Rattle.proof_text.specs.Words.{words_of, parted, spelled, switch_word, position_word}
use Rattle.proof_text.specs.Numbers.{number_in}
use Rattle.proof_text.specs.Lines.{◌>>=◌, id_in, item_at, IsId}
use Rattle.proof_text.specs.Laws.{has_byte}
use Rattle.proof_text.proofs.NumberLemmas.{number_in-decimal, decimal-nonempty, decimal-no_byte}
use Rattle.proof_text.proofs.WordLemmas.{words_of-joined, joined-parted, joined-clean}
use Rattle.proof_text.proofs.ItemLemmas.{item_at-some, id-word}
use Rattle.cert_text.specs.Lines.{each_in, spelled_in, small_in, switch_at, relation_at, last_at, last_word, position_at, end_at, end_word, bit_with, bit_byte, bits_at, elements_at, elements_word, sets_of}

-- a word that is read as x, and has no byte below `!` (33)
pub record IsWord {A : Type 0} (at : List ℕ → Result A LineTextFault) (x : A) (word : List ℕ) : Type 0 where
  pub read : at word ≡ Ok x
  pub clean : (byte : ℕ) → byte < 33 → has_byte byte word ≡ false

-- whether no byte of a word is below `!`
abbrev is_plain : List ℕ → Bool
is_plain word = list_all (λ b. leb 33 b) word

not_byte : (a byte : ℕ) → leb 33 a ≡ true → byte < 33 → eqb a byte ≡ false
not_byte a byte above low = grind (arith, nat_tests)

pub plain-clean : (word : List ℕ) → is_plain word ≡ true → (byte : ℕ) → byte < 33 → has_byte byte word ≡ false
plain-clean [] h byte low = refl
plain-clean (a ∷ word) h byte low =
    let parts = and_parts (leb 33 a) (is_plain word) h in
    ap (λ b. b || has_byte byte word) (not_byte a byte parts.0 low) ∙ plain-clean word parts.1 byte low

pub number-word : (high n : ℕ) → high < 2 ^ 64 → n ≤ high → IsWord (item_at (number_in 0 high)) n (decimal n)
number-word high n small h = record {
  read = item_at-some (number_in 0 high) (decimal n) n (decimal-nonempty n (omega arith)) (number_in-decimal 0 high n (omega arith) (omega arith) h);
  clean = λ byte low. decimal-no_byte n byte (omega arith) (omega arith);
}

pub clause-word : (id : ℕ) → IsId id → IsWord (item_at id_in) id (decimal id)
clause-word id h = record {
  read = (id-word id h).read;
  clean = λ byte low. (id-word id h).clean byte (omega arith);
}

pub switch_read-word : (on : Bool) → IsWord switch_at on (switch_word on)
switch_read-word true = record { read = refl; clean = plain-clean (codes "on") refl }
switch_read-word false = record { read = refl; clean = plain-clean (codes "off") refl }

pub relation-word : (rel : Rel) → IsWord relation_at rel (letter_of rel ∷ [])
relation-word Equals = record { read = refl; clean = plain-clean (codes "=") refl }
relation-word Includes = record { read = refl; clean = plain-clean (codes ">") refl }
relation-word IncludedIn = record { read = refl; clean = plain-clean (codes "<") refl }
relation-word Overlaps = record { read = refl; clean = plain-clean (codes "x") refl }
relation-word Disjoint = record { read = refl; clean = plain-clean (codes "!") refl }

pub last_read-word : (last : Option Rel) → IsWord last_at last (last_word last)
last_read-word None = record { read = refl; clean = plain-clean (codes ".") refl }
last_read-word (Some Equals) = record { read = refl; clean = plain-clean (codes "=") refl }
last_read-word (Some Includes) = record { read = refl; clean = plain-clean (codes ">") refl }
last_read-word (Some IncludedIn) = record { read = refl; clean = plain-clean (codes "<") refl }
last_read-word (Some Overlaps) = record { read = refl; clean = plain-clean (codes "x") refl }
last_read-word (Some Disjoint) = record { read = refl; clean = plain-clean (codes "!") refl }

-- a byte that stands for x, and is neither a full stop nor below `!`
record IsByteOf {A : Type 0} (symbol : ℕ → Option A) (x : A) (byte : ℕ) : Type 0 where
  read : symbol byte ≡ Some x
  other : eqb byte 46 ≡ false
  above : leb 33 byte ≡ true

each_in-map : {A : Type 0} (symbol : ℕ → Option A) (byte : A → ℕ) → ((x : A) → IsByteOf symbol x (byte x)) → (xs : List A) → each_in symbol (map byte xs) ≡ Some xs
each_in-map symbol byte h [] = refl
each_in-map symbol byte h (x ∷ xs) =
    ap (option_and_then (λ a. option_map (λ others. a ∷ others) (each_in symbol (map byte xs)))) (h x).read
    ∙ ap (option_map (λ others. x ∷ others)) (each_in-map symbol byte h xs)

plain-map : {A : Type 0} (symbol : ℕ → Option A) (byte : A → ℕ) → ((x : A) → IsByteOf symbol x (byte x)) → (xs : List A) → is_plain (map byte xs) ≡ true
plain-map symbol byte h [] = refl
plain-map symbol byte h (x ∷ xs) = ap (λ b. b && is_plain (map byte xs)) (h x).above ∙ plain-map symbol byte h xs

spelled_in-word : {A : Type 0} (symbol : ℕ → Option A) (byte : A → ℕ) → ((x : A) → IsByteOf symbol x (byte x)) → (xs : List A) → spelled_in symbol (spelled byte xs) ≡ Some xs
spelled_in-word symbol byte h [] = refl
spelled_in-word symbol byte h (x ∷ xs) =
    ap (λ b. cond (b && bytes_eq (map byte xs) []) (Some []) (each_in symbol (map byte (x ∷ xs)))) (h x).other ∙ each_in-map symbol byte h (x ∷ xs)

spelled-plain : {A : Type 0} (symbol : ℕ → Option A) (byte : A → ℕ) → ((x : A) → IsByteOf symbol x (byte x)) → (xs : List A) → is_plain (spelled byte xs) ≡ true
spelled-plain symbol byte h [] = refl
spelled-plain symbol byte h (x ∷ xs) = plain-map symbol byte h (x ∷ xs)

spelled-word : {A : Type 0} (symbol : ℕ → Option A) (byte : A → ℕ) → ((x : A) → IsByteOf symbol x (byte x)) → (xs : List A) →
    IsWord (λ word. ok_or (spelled_in symbol word) BadLine) xs (spelled byte xs)
spelled-word symbol byte h xs = record {
  read = ap (λ o. ok_or o BadLine) (spelled_in-word symbol byte h xs);
  clean = plain-clean (spelled byte xs) (spelled-plain symbol byte h xs);
}

letter-byte : (rel : Rel) → IsByteOf with_letter rel (letter_of rel)
letter-byte Equals = record { read = refl; other = refl; above = refl }
letter-byte Includes = record { read = refl; other = refl; above = refl }
letter-byte IncludedIn = record { read = refl; other = refl; above = refl }
letter-byte Overlaps = record { read = refl; other = refl; above = refl }
letter-byte Disjoint = record { read = refl; other = refl; above = refl }

bit-byte : (bit : Bool) → IsByteOf bit_with bit (bit_byte bit)
bit-byte true = record { read = refl; other = refl; above = refl }
bit-byte false = record { read = refl; other = refl; above = refl }

pub position_read-word : (q : List Rel) → IsWord position_at q (position_word q)
position_read-word q = spelled-word with_letter letter_of letter-byte q

pub bits-word : (bits : List Bool) → IsWord bits_at bits (spelled bit_byte bits)
bits-word bits = spelled-word bit_with bit_byte bit-byte bits

-- no position is a `-`
no_dash : (q : List Rel) → bytes_eq (position_word q) (codes "-") ≡ false
no_dash [] = refl
no_dash (Equals ∷ q) = refl
no_dash (Includes ∷ q) = refl
no_dash (IncludedIn ∷ q) = refl
no_dash (Overlaps ∷ q) = refl
no_dash (Disjoint ∷ q) = refl

pub end_read-word : (to : Option (List Rel)) → IsWord end_at to (end_word to)
end_read-word None = record { read = refl; clean = plain-clean (codes "-") refl }
end_read-word (Some q) = record {
  read = ap (λ b. cond b (Ok None) (position_at (position_word q) >>= λ q. Ok (Some q))) (no_dash q) ∙ ap (λ read. read >>= λ q. Ok (Some q)) (position_read-word q).read;
  clean = (position_read-word q).clean;
}

-- numbers below 2 ^ 32
abbrev pub AreSmall : List ℕ → Type 0
AreSmall xs = AllByRecursion (λ x. x < 2 ^ 32) xs

each_in-decimals : (xs : List ℕ) → AreSmall xs → each_in small_in (map decimal xs) ≡ Some xs
each_in-decimals [] h = refl
each_in-decimals (x ∷ xs) h =
    ap (option_and_then (λ a. option_map (λ others. a ∷ others) (each_in small_in (map decimal xs)))) (number_in-decimal 0 (2 ^ 32 - 1) x (omega (arith, h.0)) (omega arith) (omega (arith, h.0)))
    ∙ ap (option_map (λ others. x ∷ others)) (each_in-decimals xs h.1)

-- no byte below `0` (48) is in a decimal
clean-decimals : (byte : ℕ) → byte < 48 → (xs : List ℕ) → AreSmall xs → AllByRecursion (λ word. has_byte byte word ≡ false) (map decimal xs)
clean-decimals byte low [] h = tt
clean-decimals byte low (x ∷ xs) h = (decimal-no_byte x byte (omega (arith, h.0)) low, clean-decimals byte low xs h.1)

elements_at-some : (word xs : List ℕ) → 0 < length word → bytes_eq word (codes "-") ≡ false → each_in small_in (words_of 44 word) ≡ Some xs → elements_at word ≡ Ok xs
elements_at-some [] xs some other e = absurd (omega arith)
elements_at-some (first ∷ others) xs some other e =
    ap (λ b. cond b (Ok []) (ok_or (each_in small_in (words_of 44 (first ∷ others))) BadNumber)) other ∙ ap (λ o. ok_or o BadNumber) e

-- a word that begins with a digit is no `-`, whatever follows
digits_first : (digits rest : List ℕ) → 0 < length digits → has_byte 45 digits ≡ false → (0 < length (digits ++ rest)) × (bytes_eq (digits ++ rest) (codes "-") ≡ false)
digits_first [] rest some clean = absurd (omega arith)
digits_first (d ∷ digits) rest some clean =
    let parts = or_parts (eqb d 45) (has_byte 45 digits) clean in
    (omega arith, ap (λ b. b && bytes_eq (digits ++ rest) []) parts.0)

elements-read : (x : ℕ) (xs : List ℕ) → AreSmall (x ∷ xs) → elements_at (elements_word (x ∷ xs)) ≡ Ok (x ∷ xs)
elements-read x xs h =
    let words = map decimal (x ∷ xs) in
    let front = digits_first (decimal x) (parted 44 (map decimal xs)) (decimal-nonempty x (omega (arith, h.0))) (decimal-no_byte x 45 (omega (arith, h.0)) (omega arith)) in
    let text : join_with_byte 44 words ≡ decimal x ++ parted 44 (map decimal xs) = joined-parted 44 (decimal x) (map decimal xs) in
    elements_at-some (join_with_byte 44 words) (x ∷ xs) (rw text front.0) (ap (λ word. bytes_eq word (codes "-")) text ∙ front.1)
    (ap (each_in small_in) (words_of-joined 44 (decimal x) (map decimal xs) (clean-decimals 44 (omega arith) (x ∷ xs) h)) ∙ each_in-decimals (x ∷ xs) h)

comma_other : (byte : ℕ) → byte < 33 → eqb 44 byte ≡ false
comma_other byte low = grind (arith, nat_tests)

pub elements-word : (xs : List ℕ) → AreSmall xs → IsWord elements_at xs (elements_word xs)
elements-word [] h = record { read = refl; clean = plain-clean (codes "-") refl }
elements-word (x ∷ xs) h = record {
  read = elements-read x xs h;
  clean = λ byte low. joined-clean 44 byte (map decimal (x ∷ xs)) (comma_other byte low) (clean-decimals byte (omega arith) (x ∷ xs) h);
}

pub sets_of-words : (sets : List (List ℕ)) → AllByRecursion AreSmall sets → sets_of (map elements_word sets) ≡ Ok sets
sets_of-words [] h = refl
sets_of-words (set ∷ sets) h =
    ap (λ read. read >>= λ set. sets_of (map elements_word sets) >>= λ others. Ok (set ∷ others)) (elements-word set h.0).read
    ∙ ap (λ read. read >>= λ others. Ok (set ∷ others)) (sets_of-words sets h.1)

pub clean-sets : (byte : ℕ) → byte < 33 → (sets : List (List ℕ)) → AllByRecursion AreSmall sets → AllByRecursion (λ word. has_byte byte word ≡ false) (map elements_word sets)
clean-sets byte low [] h = tt
clean-sets byte low (set ∷ sets) h = ((elements-word set h.0).clean byte low, clean-sets byte low sets h.1)
