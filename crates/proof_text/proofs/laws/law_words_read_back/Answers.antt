use Rattle.std.proofs.Common.{◌≡◌, ◌≢◌, ℕ, List, [], ◌∷◌, false, All, refl}
use Rattle.std.specs.List.{join_with_byte}
use Rattle.std.proofs.lemmas.List.Splits.{join_with_byte-slice_split}
use Rattle.std.proofs.lemmas.List.Elements.{recursion_from_All}
use Rattle.proof_text.specs.Words.{words_of}
use Rattle.proof_text.specs.Laws.{has_byte}
use Rattle.proof_text.proofs.WordLemmas.{words_of-joined}
use Rattle.proof_text.proofs.laws.law_words_read_back.Goals as goal

joined : (separator : ℕ) (words : List (List ℕ)) → words ≢ [] → All (λ word. has_byte separator word ≡ false) words →
    words_of separator (join_with_byte separator words) ≡ words
joined separator [] some h = absurd (some refl)
joined separator (word ∷ words) some h = words_of-joined separator word words (recursion_from_All _ (word ∷ words) h)

pub returns : goal.returns
returns c = record {
  joined = joined;
  parted = join_with_byte-slice_split;
}
