-- Bytes that begin no line.
use Rattle.std.proofs.Common.{◌≡◌, ℕ, ◌+◌, ◌<◌, ◌≤◌, cond, eqb, List, [], ◌∷◌, ◌++◌, append_assoc, length, length-append, take, drop, position, Option, Some, None, Err, refl, ap, ◌∙◌, arith}
use Rattle.std.specs.Prelude.{bytes_eq, ok_or}
use Rattle.proof_text.specs.declared.fault.LineTextFault.TheVariants.{BadLine}
use Rattle.proof_text.specs.Words.{words_of}
use Rattle.proof_text.specs.Lines.{◌>>=◌}
use Rattle.proof_text.proofs.WordLemmas.{words_of-next, position_within}
use Rattle.cert_text.specs.declared.kind.LineKind.{LineKind}
use Rattle.cert_text.specs.declared.kind.LineKind.TheVariants as kind
use Rattle.cert_text.specs.Lines.{kind_word, all_kinds, kind_in, rest_of}
use Rattle.cert_text.proofs.ReadLemmas.{is_word, find-passes}
use Rattle.cert_reader.specs.declared.mode.Mode.{Mode}
use Rattle.cert_reader.specs.Reading.{may_stand, fits_in, line_in}
use Rattle.cert_reader.specs.Reader.{BeginsNone}
use Rattle.cert_reader.proofs.BlockLemmas.{before_first, at_first, none_such}
use Rattle.cert_reader.proofs.ReadingLemmas.{words_some, glued}

-- a first word with which no line begins, and a space behind it
pub begins_badly : (mode : Mode) (front : List ℕ) (place : ℕ) → position (λ b. eqb b 32) front ≡ Some place →
    ((words : List (List ℕ)) → line_in mode (take place front ∷ words) ≡ Err BadLine) → BeginsNone mode front
begins_badly mode front place found bad = record {
  some = omega (arith, position_within 32 front place found);
  bad = λ more.
      let rest = drop (place + 1) front in
      ap (line_in mode)
      (ap (λ front. words_of 32 (front ++ more)) (at_first 32 front place found) ∙ ap (words_of 32) (append_assoc (take place front) (32 ∷ rest) more)
      ∙ words_of-next 32 (take place front) (rest ++ more) (before_first 32 front place found))
      ∙ bad (words_of 32 (rest ++ more));
}

-- no kind has a word of more than 11 bytes
kind_is_short : (k : LineKind) → length (kind_word k) ≤ 11
kind_is_short kind.Certificate = omega arith
kind_is_short kind.Claims = omega arith
kind_is_short kind.Derive = omega arith
kind_is_short kind.Forget = omega arith
kind_is_short kind.Branch = omega arith
kind_is_short kind.NoPoint = omega arith
kind_is_short kind.NoRelation = omega arith
kind_is_short kind.World = omega arith
kind_is_short kind.Holds = omega arith
kind_is_short kind.Fails = omega arith
kind_is_short kind.End = omega arith
kind_is_short kind.Quit = omega arith
kind_is_short kind.Done = omega arith

no_kind : (word : List ℕ) (found : Option LineKind) → kind_in word ≡ found → 11 < length word → found ≡ None
unfolding kind_in
no_kind word None e long = refl
no_kind word (Some k) e long =
    let same = is_word word (kind_word k) (find-passes (λ kind. bytes_eq word (kind_word kind)) all_kinds k e) in
    absurd (omega (arith, long, kind_is_short k, ap length same))

long_word : (mode : Mode) (word : List ℕ) (words : List (List ℕ)) → 11 < length word → line_in mode (word ∷ words) ≡ Err BadLine
unfolding line_in
long_word mode word words long =
    ap (λ found. ok_or found BadLine >>= λ kind. cond (may_stand mode kind) (rest_of kind words >>= fits_in mode) (Err BadLine)) (no_kind word (kind_in word) refl long)

long_cases : (mode : Mode) (front more : List ℕ) (words : List (List ℕ)) → position (λ b. eqb b 32) front ≡ None → 11 < length front → words_of 32 more ≡ words →
    line_in mode (words_of 32 (front ++ more)) ≡ Err BadLine
long_cases mode front more [] none long e = absurd (words_some 32 more e)
long_cases mode front more (word ∷ words) none long e =
    ap (line_in mode) (glued 32 front more word words (none_such 32 front none) e) ∙ long_word mode (front ++ word) words (omega (arith, long, length-append front word))

-- a first word that is longer than that of any line
pub begins_long : (mode : Mode) (front : List ℕ) → position (λ b. eqb b 32) front ≡ None → 11 < length front → BeginsNone mode front
begins_long mode front none long = record {
  some = omega (arith, long);
  bad = λ more. long_cases mode front more (words_of 32 more) none long refl;
}
