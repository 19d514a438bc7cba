-- The digits of a digest.
use Rattle.std.proofs.Common.{◌≡◌, ℕ, suc, zero, ◌*◌, ◌/◌, ◌%◌, ◌<◌, ◌==◌, nat_lt, Bool, true, false, ◌&&◌, ◌||◌, List, [], ◌∷◌, length, slice_index, refl, ap, ◌∙◌, arith}
use Rattle.std.specs.List.{list_all}
use Rattle.std.specs.Int.{to_be_bytes, w32}
use Rattle.std.proofs.lemmas.Bool.{and_parts, lt-ltb, ltb-true}
use Rattle.std.proofs.lemmas.Bool.Decides.{nat_tests}
use Rattle.std.proofs.lemmas.List.Folds.{list_all-append}
use Rattle.std.proofs.lemmas.List.Sums.{AllPass-from_list_all}
use Rattle.hex.specs.Hex.{encode_with, encode_lower, lower_digits}
use Rattle.hex.proofs.HexLemmas.{length-encode_with}
use Rattle.sha2.specs.Sha256.{sha256, digest_bytes}
use Rattle.sha2.proofs.Facts256.{length-sha256}
use Rattle.proof_text.specs.Laws.{has_byte}
use Rattle.run_ends.specs.Token.Contents.{is_digest_byte, is_digest}

-- each of sixteen digits is one
digit_at : (d : ℕ) → d < 16 → is_digest_byte (slice_index lower_digits d) ≡ true
digit_at d small = AllPass-from_list_all is_digest_byte lower_digits refl d 0 small

-- whether a number is a byte
abbrev is_byte : ℕ → Bool
is_byte b = nat_lt b 256

encoded_digits : (bytes : List ℕ) → list_all is_byte bytes ≡ true → list_all is_digest_byte (encode_with lower_digits bytes) ≡ true
unfolding encode_with
encoded_digits [] h = refl
encoded_digits (b ∷ bytes) h =
    let parts = and_parts (nat_lt b 256) (list_all is_byte bytes) h in
    let small : b < 256 = ltb-true b 256 parts.0 in
    let high : b / 16 < 16 = omega arith in
    let low : b % 16 < 16 = omega arith in
    rw (digit_at (b / 16) high, digit_at (b % 16) low) (encoded_digits bytes parts.1)

-- the lowest byte of a number
lowest : (x : ℕ) → nat_lt (x % 256) 256 ≡ true
lowest x = lt-ltb (x % 256) 256 (omega arith)

four_bytes : (x y z w : ℕ) → list_all is_byte (x % 256 ∷ y % 256 ∷ z % 256 ∷ w % 256 ∷ []) ≡ true
four_bytes x y z w = rw (lowest x, lowest y, lowest z, lowest w) refl

digest_bytes-bytes : (h : List ℕ) (n : ℕ) → list_all is_byte (digest_bytes h n) ≡ true
unfolding digest_bytes
digest_bytes-bytes h zero = refl
digest_bytes-bytes h (suc n) =
    let x = slice_index h n in
    list_all-append is_byte (digest_bytes h n) (to_be_bytes w32 x)
    ∙ ap (λ b. b && list_all is_byte (to_be_bytes w32 x)) (digest_bytes-bytes h n)
    ∙ four_bytes (x / 16777216) (x / 65536) (x / 256) x

sha256-bytes : (m : List ℕ) → list_all is_byte (sha256 m) ≡ true
unfolding sha256
sha256-bytes m = digest_bytes-bytes _ 8

pub encoded-is_digest : (m : List ℕ) → is_digest (encode_lower (sha256 m)) ≡ true
encoded-is_digest m =
    let long : length (encode_lower (sha256 m)) ≡ 64 = length-encode_with lower_digits (sha256 m) ∙ ap (λ n. 2 * n) (length-sha256 m) in
    ap (λ n. (n == 64) && list_all is_digest_byte (encode_lower (sha256 m))) long ∙ encoded_digits (sha256 m) (sha256-bytes m)

-- a digit is no byte below 48
digit_other : (x byte : ℕ) → byte < 48 → is_digest_byte x ≡ true → (x == byte) ≡ false
digit_other x byte small h = grind (arith, nat_tests)

pub digits-clean : (byte : ℕ) (word : List ℕ) → byte < 48 → list_all is_digest_byte word ≡ true → has_byte byte word ≡ false
digits-clean byte [] small h = refl
digits-clean byte (x ∷ word) small h =
    let parts = and_parts (is_digest_byte x) (list_all is_digest_byte word) h in
    ap (λ b. b || has_byte byte word) (digit_other x byte small parts.0) ∙ digits-clean byte word small parts.1
