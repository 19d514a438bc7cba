-- Pieces that are sent one after another.
use Rattle.std.proofs.Common.{ℕ, ◌-◌, arith, length, length-drop, List, ◌++◌, take, drop, Option, Some, None, sym, ap, subst, ◌∙◌, append_assoc, take-append-drop}
use Rattle.std.proofs.lemmas.List.{take_all}
use Rattle.std.specs.Io.KnownBytes.{Appends}
use Rattle.outer_store.specs.Sent.{SentInPart}

Appends-joins : (old mid new : Option (List ℕ)) (a b : List ℕ) → Appends old mid a → Appends mid new b → Appends old new (a ++ b)
Appends-joins None mid new a b first second = tt
Appends-joins (Some xs) None new a b first second = absurd first
Appends-joins (Some xs) (Some ys) None a b first second = absurd second
Appends-joins (Some xs) (Some ys) (Some zs) a b first second = second ∙ ap (λ bytes. bytes ++ b) first ∙ append_assoc xs a b

-- one more write sends the first n bytes of the rest
pub SentInPart-more : (old mid new : Option (List ℕ)) (piece rest : List ℕ) (n : ℕ) → SentInPart old mid piece rest → Appends mid new (take n rest) → SentInPart old new piece (drop n rest)
SentInPart-more old mid new piece rest n sent more = record {
  part = sent.part ++ take n rest;
  whole = sent.whole ∙ ap (λ bytes. sent.part ++ bytes) (sym (take-append-drop n rest)) ∙ sym (append_assoc sent.part (take n rest) (drop n rest));
  grown = Appends-joins old mid new sent.part (take n rest) sent.grown more;
}

-- one more write, where the rest is what a slice cuts of it
pub SentInPart-cut : (old mid new : Option (List ℕ)) (piece rest : List ℕ) (n : ℕ) → SentInPart old mid piece rest → Appends mid new (take n rest) → SentInPart old new piece (take (length rest - n) (drop n rest))
SentInPart-cut old mid new piece rest n sent more =
    subst (λ left. SentInPart old new piece left) (sym (take_all (length rest - n) (drop n rest) (omega (arith, length-drop n rest)))) (SentInPart-more old mid new piece rest n sent more)
