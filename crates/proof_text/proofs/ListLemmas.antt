-- The items of a list, word by word.
use Rattle.std.proofs.Common.{◌≡◌, ℕ, Bool, true, false, cond, bytes_eq, List, [], ◌∷◌, ◌++◌, append_assoc, append-nil, Option, Result, Ok, Err, refl, sym, ap, ◌∙◌}
use Rattle.std.specs.Result.{IsErrAnd}
use Rattle.proof_text.specs.declared.fault.LineTextFault.{LineTextFault}
use Rattle.proof_text.specs.declared.fault.LineTextFault.TheVariants.{BadLine}
use Rattle.proof_text.specs.Lines.{◌>>=◌, Gives, zero_word, item_at, list_of}

-- what a list gives, with items before it
unfoldable pub behind : List ℕ → Result (List ℕ × List (List ℕ)) LineTextFault → Result (List ℕ × List (List ℕ)) LineTextFault
behind front read = read >>= λ x. Ok (front ++ x.0, x.1)

pub behind-none : (read : Result (List ℕ × List (List ℕ)) LineTextFault) → behind [] read ≡ read
unfolding behind
behind-none (Ok x) = refl
behind-none (Err k) = refl

-- a list that ends at once
list_of-end : (item : List ℕ → Option ℕ) (front : List ℕ) → behind front (list_of item []) ≡ Err BadLine
unfolding behind
list_of-end item front = refl

-- what a word and the words after it give
unfoldable pub list_cases : (item : List ℕ → Option ℕ) (words : List (List ℕ)) → Bool → Result ℕ LineTextFault → Result (List ℕ × List (List ℕ)) LineTextFault
list_cases item words b read = cond b (Ok ([], words)) (read >>= λ x. list_of item words >>= λ others. Ok (x ∷ others.0, others.1))

pub list_of-cases : (item : List ℕ → Option ℕ) (word : List ℕ) (words : List (List ℕ)) →
    list_of item (word ∷ words) ≡ list_cases item words (bytes_eq word zero_word) (item_at item word)
unfolding list_cases
list_of-cases item word words = refl

behind-step : (front : List ℕ) (x : ℕ) (read : Result (List ℕ × List (List ℕ)) LineTextFault) →
    behind front (read >>= λ others. Ok (x ∷ others.0, others.1)) ≡ behind (front ++ x ∷ []) read
unfolding behind
behind-step front x (Ok others) = ap (λ items. Ok (items, others.1)) (sym (append_assoc front (x ∷ []) others.0))
behind-step front x (Err k) = refl

-- the word `0` ends a list
list_of-zero : (item : List ℕ → Option ℕ) (front word : List ℕ) (words : List (List ℕ)) → bytes_eq word zero_word ≡ true →
    behind front (list_of item (word ∷ words)) ≡ Ok (front, words)
unfolding behind list_cases
list_of-zero item front word words h =
    ap (λ b. behind front (list_cases item words b (item_at item word))) h ∙ ap (λ items. Ok (items, words)) (append-nil front)

-- another word is an item
list_of-item : (item : List ℕ → Option ℕ) (front word : List ℕ) (words : List (List ℕ)) (x : ℕ) → bytes_eq word zero_word ≡ false →
    item_at item word ≡ Ok x → behind front (list_of item (word ∷ words)) ≡ behind (front ++ x ∷ []) (list_of item words)
unfolding list_cases
list_of-item item front word words x h e =
    ap (λ b. behind front (list_cases item words b (item_at item word))) h
    ∙ ap (λ read. behind front (list_cases item words false read)) e
    ∙ behind-step front x (list_of item words)

-- or the fault of the list
list_of-fault : (item : List ℕ → Option ℕ) (front word : List ℕ) (words : List (List ℕ)) (k : LineTextFault) → bytes_eq word zero_word ≡ false →
    item_at item word ≡ Err k → behind front (list_of item (word ∷ words)) ≡ Err k
unfolding behind list_cases
list_of-fault item front word words k h e =
    ap (λ b. behind front (list_cases item words b (item_at item word))) h
    ∙ ap (λ read. behind front (list_cases item words false read)) e

-- in a loop over the words, where the items so far and those to come are those of all the words: at the list's end
pub turn_zero : (item : List ℕ → Option ℕ) (front word : List ℕ) (words rest : List (List ℕ)) (read : Result (List ℕ × List (List ℕ)) LineTextFault) →
    behind front (list_of item words) ≡ read → words ≡ word ∷ rest → bytes_eq word zero_word ≡ true → read ≡ Ok (front, rest)
turn_zero item front word words rest read kept first h =
    sym kept ∙ ap (λ ws. behind front (list_of item ws)) first ∙ list_of-zero item front word rest h

-- after an item
pub turn_item : (item : List ℕ → Option ℕ) (front word new : List ℕ) (words rest : List (List ℕ)) (read : Result (List ℕ × List (List ℕ)) LineTextFault) (x : ℕ) →
    behind front (list_of item words) ≡ read → words ≡ word ∷ rest → bytes_eq word zero_word ≡ false → item_at item word ≡ Ok x → new ≡ front ++ x ∷ [] →
    behind new (list_of item rest) ≡ read
turn_item item front word new words rest read x kept first h e pushed =
    ap (λ items. behind items (list_of item rest)) pushed
    ∙ sym (list_of-item item front word rest x h e) ∙ sym (ap (λ ws. behind front (list_of item ws)) first) ∙ kept

-- at a fault
pub turn_fault : (item : List ℕ → Option ℕ) (front word : List ℕ) (words rest : List (List ℕ)) (read : Result (List ℕ × List (List ℕ)) LineTextFault) (k : LineTextFault) →
    behind front (list_of item words) ≡ read → words ≡ word ∷ rest → bytes_eq word zero_word ≡ false → item_at item word ≡ Err k → read ≡ Err k
turn_fault item front word words rest read k kept first h e =
    sym kept ∙ ap (λ ws. behind front (list_of item ws)) first ∙ list_of-fault item front word rest k h e

-- where no word is left
pub turn_end : (item : List ℕ → Option ℕ) (front : List ℕ) (words : List (List ℕ)) (read : Result (List ℕ × List (List ℕ)) LineTextFault) →
    behind front (list_of item words) ≡ read → words ≡ [] → read ≡ Err BadLine
turn_end item front words read kept none =
    sym kept ∙ ap (λ ws. behind front (list_of item ws)) none ∙ list_of-end item front

-- what the exit of a `?` answers
pub gives_fault : {X Y : Type 0} (view : X → Y) (r : Result X LineTextFault) (k : LineTextFault) (read : Result Y LineTextFault) →
    IsErrAnd r (λ y. y ≡ k) → read ≡ Err k → Gives view r read
gives_fault view (Ok x) k read h e = absurd h
gives_fault view (Err y) k read h e = λ _. e ∙ ap Err (sym h)
