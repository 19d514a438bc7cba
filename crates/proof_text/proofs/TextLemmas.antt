-- The text of a line, piece by piece.
use Rattle.std.proofs.Common.{◌≡◌, ℕ, ◌+◌, ◌^◌, ◌<◌, ◌≤◌, List, ◌∷◌, ◌++◌, append_assoc, length, get_or, drop, codes, decimal, All, sym, ap, ◌∙◌, arith, add-one, drop-cons}
use Rattle.std.proofs.lemmas.List.{get_or_default}
use Rattle.lits_core.specs.declared.Line.TheVariants.{Derive, Forget}
use Rattle.proof_text.specs.Words.{parted}
use Rattle.proof_text.specs.Lines.{literal_text, list_words, line_text, IsId}
use Rattle.proof_text.proofs.WordLemmas.{joined-parted, parted-append}

-- one word more of a list is put, and the words to come are one fewer
pub word_put : (word : ℕ → List ℕ) (items before after all : List ℕ) (k : ℕ) → k < length items → before ++ parted 32 (list_words word (drop k items)) ≡ all →
    after ≡ before ++ 32 ∷ word (get_or items k 0) → after ++ parted 32 (list_words word (drop (k + 1) items)) ≡ all
word_put word items before after all k within so_far is =
    let x = get_or items k 0 in
    let to_come = parted 32 (list_words word (drop (k + 1) items)) in
    let more : drop k items ≡ x ∷ drop (k + 1) items = rw add-one (drop-cons items k 0 within) in
    ap (λ t. t ++ to_come) is
    ∙ append_assoc before (32 ∷ word x) to_come
    ∙ sym (ap (λ rest. before ++ parted 32 (list_words word rest)) more)
    ∙ so_far

-- a derive line in its four pieces, behind what was there before
pub derive_text : (id : ℕ) (lits hints before kind first front text : List ℕ) → kind ≡ before ++ codes "d" → first ≡ kind ++ 32 ∷ decimal id →
    front ≡ first ++ parted 32 (list_words literal_text lits) → text ≡ front ++ parted 32 (list_words decimal hints) → text ≡ before ++ line_text (Derive id lits hints)
derive_text id lits hints before kind first front text is_kind is_first is_front is_text =
    let a = list_words literal_text lits in
    let b = list_words decimal hints in
    is_text ∙ ap (λ t. t ++ parted 32 b) (is_front ∙ ap (λ t. t ++ parted 32 a) (is_first ∙ ap (λ t. t ++ 32 ∷ decimal id) is_kind ∙ append_assoc before (codes "d") (32 ∷ decimal id))
    ∙ append_assoc before (codes "d" ++ 32 ∷ decimal id) (parted 32 a))
    ∙ append_assoc before ((codes "d" ++ 32 ∷ decimal id) ++ parted 32 a) (parted 32 b)
    ∙ ap (λ t. before ++ t) (append_assoc (codes "d" ++ 32 ∷ decimal id) (parted 32 a) (parted 32 b)
    ∙ ap (λ t. (codes "d" ++ 32 ∷ decimal id) ++ t) (sym (parted-append 32 a b))
    ∙ sym (joined-parted 32 (codes "d") (decimal id ∷ a ++ b)))

pub forget_text : (ids before kind text : List ℕ) → kind ≡ before ++ codes "k" → text ≡ kind ++ parted 32 (list_words decimal ids) → text ≡ before ++ line_text (Forget ids)
forget_text ids before kind text is_kind is_text =
    is_text ∙ ap (λ t. t ++ parted 32 (list_words decimal ids)) is_kind ∙ append_assoc before (codes "k") (parted 32 (list_words decimal ids))
    ∙ ap (λ t. before ++ t) (sym (joined-parted 32 (codes "k") (list_words decimal ids)))

-- numbers that are at least 1 and below a bound
pub ids_from : (ids : List ℕ) → All (λ id. 1 ≤ id) ids → All (λ id. id < 2 ^ 64) ids → All IsId ids
ids_from ids above below = λ k d h. (above k d h, below k d h)

-- a bound at each place, at whatever default
pub all_below : (bound : ℕ) (xs : List ℕ) → ((k : ℕ) → k < length xs → get_or xs k 0 < bound) → All (λ x. x < bound) xs
all_below bound xs h = λ k d within. let e = get_or_default xs k d 0 within in let small = h k within in omega arith
