-- The text of a line, piece by piece.
use Rattle.std.proofs.Common.{◌≡◌, ℕ, ◌<◌, List, [], ◌∷◌, ◌++◌, append_assoc, length, get_or, take, drop, ◌-◌, refl, map, decimal, Result, Ok, Err, OnOk, sym, ap, ◌∙◌, ◌^◌, All, Fits, w32, arith}
use Rattle.std.specs.List.{join_with_byte}
use Rattle.std.proofs.lemmas.List.{get_or_default, take_all}
use Rattle.proof_text.specs.Words.{parted}
use Rattle.proof_text.proofs.WordLemmas.{joined-parted, parted-append}
use Rattle.cert_text.specs.Lines.{elements_word}

-- the elements of a set that has some
pub elements-parted : (set : List ℕ) → 0 < length set → elements_word set ≡ decimal (get_or set 0 0) ++ parted 44 (map decimal (drop 1 set))
elements-parted [] some = absurd (omega arith)
elements-parted (x ∷ xs) some = joined-parted 44 (decimal x) (map decimal xs)

-- all members but the first
rest_whole : (set : List ℕ) → take (length set - 1) (drop 1 set) ≡ drop 1 set
rest_whole [] = refl
rest_whole (x ∷ xs) = take_all (length (x ∷ xs) - 1) xs (omega arith)

pub set_put : (set old mid new : List ℕ) (first : ℕ) → 0 < length set → first ≡ get_or set 0 0 → mid ≡ old ++ 32 ∷ decimal first →
    new ≡ mid ++ parted 44 (map decimal (take (length set - 1) (drop 1 set))) → new ≡ old ++ 32 ∷ elements_word set
set_put set old mid new first some is_first is_mid is_new =
    is_new ∙ ap (λ others. mid ++ parted 44 (map decimal others)) (rest_whole set) ∙ ap (λ t. t ++ parted 44 (map decimal (drop 1 set))) (is_mid ∙ ap (λ n. old ++ 32 ∷ decimal n) is_first)
    ∙ append_assoc old (32 ∷ decimal (get_or set 0 0)) (parted 44 (map decimal (drop 1 set)))
    ∙ ap (λ t. old ++ 32 ∷ t) (sym (elements-parted set some))

-- a word, and then others with a space before each, in two pieces
pub two_put : (word : List ℕ) (front back : List (List ℕ)) (old first mid new : List ℕ) → first ≡ old ++ word → mid ≡ first ++ parted 32 front → new ≡ mid ++ parted 32 back →
    new ≡ old ++ join_with_byte 32 (word ∷ front ++ back)
two_put word front back old first mid new is_first is_mid is_new =
    is_new ∙ ap (λ t. t ++ parted 32 back) (is_mid ∙ ap (λ t. t ++ parted 32 front) is_first)
    ∙ append_assoc (old ++ word) (parted 32 front) (parted 32 back)
    ∙ append_assoc old word (parted 32 front ++ parted 32 back)
    ∙ ap (λ t. old ++ (word ++ t)) (sym (parted-append 32 front back))
    ∙ ap (λ t. old ++ t) (sym (joined-parted 32 word (front ++ back)))

-- numbers of a list of u32 are below 2 ^ 32
pub fits-small : (set : List ℕ) → ((i : ℕ) → Fits w32 (get_or set i 0)) → All (λ x. x < 2 ^ 32) set
fits-small set fits k d within = omega (arith, fits k, get_or_default set k 0 d within)

-- what is so anyhow
pub always : {V E P : Type 0} (r : Result V E) → P → OnOk r P
always (Ok v) p = p
always (Err e) p = tt
