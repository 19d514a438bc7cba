-- A printed token read.
use Rattle.std.proofs.Common.{◌≡◌, ℕ, ◌*◌, ◌<◌, ◌≤◌, ◌==◌, true, false, ◌&&◌, List, [], ◌∷◌, ◌++◌, length, refl, ap, append_assoc, ◌∙◌, arith, Some, Ok, codes, decimal, bytes_eq, ◌-◌}
use Rattle.std.specs.List.{join_with_byte, list_all, AllByRecursion}
use Rattle.std.proofs.lemmas.Bool.{and_parts, le-ltb, le-leb, eq-eqb, eqb-true}
use Rattle.std.proofs.lemmas.Bool.Decides.{nat_tests}
use Rattle.std.proofs.lemmas.List.{length-append}
use Rattle.std.proofs.lemmas.Fmt.{length-decimal-le}
use Rattle.std.proofs.Math.Nat.{mul-le-mul}
use Rattle.rcc5_core.specs.declared.Rel.{Rel}
use Rattle.world_model.specs.Problem.{Problem, pair_count, concept_count}
use Rattle.constraint_set.specs.Facts.{IsBuilt}
use Rattle.proof_text.specs.Words.{words_of, position_word}
use Rattle.proof_text.specs.Laws.{has_byte}
use Rattle.proof_text.specs.Numbers.{number_in}
use Rattle.proof_text.proofs.WordLemmas.{words_of-joined, joined-clean}
use Rattle.proof_text.proofs.NumberLemmas.{number_in-decimal, decimal-no_byte}
use Rattle.run_ends.specs.Token.Contents.{Contents, is_digest, is_digest_byte, contents_of_words, contents_of_lines, contents_of}
use Rattle.run_ends.specs.Token.Printing.{words_behind}
use Rattle.run_ends.specs.Token.Token.{digest_of, token_text, contents_result, token_result}
use Rattle.run_ends.proofs.token.PositionLemmas.{IsShortWord, position_in-word, position_word-short}
use Rattle.run_ends.proofs.token.DigestLemmas.{encoded-is_digest, digits-clean}

-- the contents of a line whose words are these
line_contents : (line : List ℕ) (words : List (List ℕ)) → length line < 1048576 → has_byte 10 line ≡ false → words_of 32 line ≡ words →
    contents_of (line ++ 10 ∷ []) ≡ contents_of_words words
line_contents line words short endless parted =
    let within : length (line ++ 10 ∷ []) ≤ 1048576 = omega (arith, length-append line (10 ∷ [])) in
    let lines : words_of 10 (line ++ 10 ∷ []) ≡ line ∷ [] ∷ [] = words_of-joined 10 line ([] ∷ []) (endless, (refl, tt)) in
    rw (le-ltb 1048576 (length (line ++ 10 ∷ [])) within) (ap contents_of_lines lines ∙ ap contents_of_words parted)

-- the words of a token
abbrev words_with : ℕ → ℕ → List ℕ → List ℕ → List (List ℕ)
words_with n k digest word = codes "token" ∷ codes "2" ∷ decimal n ∷ decimal k ∷ digest ∷ word ∷ []

abbrev contents_with : ℕ → ℕ → List ℕ → List ℕ → Contents
contents_with n k digest word = record { taxonomies = n; pairs = Some k; digest = digest; position = word }

above_none : (n : ℕ) → 1 ≤ n → (n == 0) ≡ false
above_none n some = grind (arith, nat_tests)

-- numbers of taxonomies and pairs as they may be
record AreCounts (n k : ℕ) : Type 0 where
  two : 2 ≤ n
  eight : n ≤ 8
  few : k ≤ 523776

words_contents : (n k : ℕ) (digest word : List ℕ) → AreCounts n k → is_digest digest ≡ true → IsShortWord word →
    contents_of_words (words_with n k digest word) ≡ Some (contents_with n k digest word)
words_contents n k digest word counts is short =
    let two = counts.two in
    let eight = counts.eight in
    let few = counts.few in
    let first : number_in 2 8 (decimal n) ≡ Some n = number_in-decimal 2 8 n (omega arith) two eight in
    let second : number_in 0 523776 (decimal k) ≡ Some k = number_in-decimal 0 523776 k (omega arith) (omega arith) few in
    let some : (length word == 0) ≡ false = above_none (length word) short.some in
    rw (first, second, is, some) refl

-- no word of a token has this byte
clean_words : (byte n k : ℕ) (digest word : List ℕ) → AreCounts n k → byte < 48 → has_byte byte (codes "token") ≡ false → has_byte byte (codes "2") ≡ false →
    is_digest digest ≡ true → has_byte byte word ≡ false → AllByRecursion (λ w. has_byte byte w ≡ false) (words_with n k digest word)
clean_words byte n k digest word counts small first second is clean =
    let parts = and_parts (length digest == 64) (list_all is_digest_byte digest) is in
    let eight = counts.eight in
    let few = counts.few in
    (first, (second, (decimal-no_byte n byte (omega arith) small, (decimal-no_byte k byte (omega arith) small, (digits-clean byte digest small parts.1, (clean, tt))))))

-- a token's line isn't too long
line_short : (n k : ℕ) (digest word : List ℕ) → AreCounts n k → length digest ≡ 64 → IsShortWord word → length (join_with_byte 32 (words_with n k digest word)) < 1048576
line_short n k digest word counts long short =
    let eight = counts.eight in
    let few = counts.few in
    let most = short.short in
    let taxonomies = length-decimal-le 19 n (omega arith) (omega arith) (omega arith) in
    let pairs = length-decimal-le 19 k (omega arith) (omega arith) (omega arith) in
    let first = length-append (decimal n) (32 ∷ (decimal k ++ 32 ∷ (digest ++ 32 ∷ word))) in
    let second = length-append (decimal k) (32 ∷ (digest ++ 32 ∷ word)) in
    let third = length-append digest (32 ∷ word) in
    omega arith

text_contents : (n k : ℕ) (digest word : List ℕ) → AreCounts n k → is_digest digest ≡ true → IsShortWord word →
    contents_of (join_with_byte 32 (words_with n k digest word) ++ 10 ∷ []) ≡ Some (contents_with n k digest word)
text_contents n k digest word counts is short =
    let words = words_with n k digest word in
    let parts = and_parts (length digest == 64) (list_all is_digest_byte digest) is in
    let spaceless = clean_words 32 n k digest word counts (omega arith) refl refl is short.spaceless in
    let endless = clean_words 10 n k digest word counts (omega arith) refl refl is short.endless in
    let parted : words_of 32 (join_with_byte 32 words) ≡ words = words_of-joined 32 (codes "token") _ spaceless in
    line_contents (join_with_byte 32 words) words (line_short n k digest word counts (eqb-true _ _ parts.0) short) (joined-clean 32 10 words refl endless) parted
    ∙ words_contents n k digest word counts is short

-- a problem has not more pairs than 1,024 concepts have
few_pairs : (p : Problem) → IsBuilt p → 2 * pair_count p ≡ concept_count p * (concept_count p - 1) → pair_count p ≤ 523776
few_pairs p built number =
    let n = concept_count p in
    let few : n ≤ 1024 = built.concepts in
    let less : n - 1 ≤ 1023 = omega arith in
    let most : n * (n - 1) ≤ 1024 * 1023 = mul-le-mul few less in
    omega arith

same_bytes : (xs : List ℕ) → bytes_eq xs xs ≡ true
same_bytes [] = refl
same_bytes (x ∷ xs) = ap (λ b. b && bytes_eq xs xs) (eq-eqb x x refl) ∙ same_bytes xs

contents_position : (p : Problem) (q : List Rel) → length q ≤ pair_count p →
    contents_result p (Some (contents_with (length p.taxonomies) (pair_count p) (digest_of p) (position_word q))) ≡ Ok q
contents_position p q within =
    rw (
      same_bytes (digest_of p),
      eq-eqb (length p.taxonomies) (length p.taxonomies) refl,
      eq-eqb (pair_count p) (pair_count p) refl,
      position_in-word q,
      le-leb (length q) (pair_count p) within,
    ) refl

pub reads_back : (p : Problem) (q : List Rel) → IsBuilt p → 2 * pair_count p ≡ concept_count p * (concept_count p - 1) → length q ≤ pair_count p →
    token_result p (token_text p q) ≡ Ok q
reads_back p q built number within =
    let few = few_pairs p built number in
    let counts : AreCounts (length p.taxonomies) (pair_count p) = record { two = built.two; eight = built.eight; few = few } in
    ap (contents_result p) (text_contents _ _ (digest_of p) (position_word q) counts (encoded-is_digest _) (position_word-short q (omega arith)))
    ∙ contents_position p q within

printed_joined : (n k digest word : List ℕ) → codes "token 2 " ++ n ++ codes " " ++ k ++ codes " " ++ digest ++ codes " " ++ word ++ codes "\n"
    ≡ join_with_byte 32 (codes "token" ∷ codes "2" ∷ n ∷ k ∷ digest ∷ word ∷ []) ++ codes "\n"
printed_joined n k digest word = simp append_assoc

-- what is printed is a token
pub token_is : (begun token : List ℕ) (p : Problem) (q : List Rel) → begun ≡ codes "token 2 " → token ≡ begun ++ words_behind p (digest_of p) q → token ≡ token_text p q
token_is begun token p q first more =
    more ∙ ap (λ l. l ++ words_behind p (digest_of p) q) first ∙ printed_joined (decimal (length p.taxonomies)) (decimal (pair_count p)) (digest_of p) (position_word q)
