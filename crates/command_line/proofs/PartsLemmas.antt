-- Of parts that words ask for: the problem's file is not one that a token may be written to.
use Rattle.std.proofs.Common.{◌≡◌, ◌≢◌, ℕ, ◌≤◌, true, false, ◌&&◌, List, [], ◌++◌, length, drop, refl, sym, ap, ◌∙◌, arith}
use Rattle.std.specs.Prelude.{bytes_eq, decimal, is_some, unwrap_or}
use Rattle.std.proofs.Math.Seq.{take-append_seam, drop-append_seam}
use Rattle.std.proofs.lemmas.Slice.Eq.{bytes_eq-Decides}
use Rattle.proof_text.specs.Numbers.{number_in}
use Rattle.proof_text.proofs.NumberLemmas.{number_in-decimal}
use Rattle.command_line.specs.declared.table.Key.TheVariants.{In, Count, Token}
use Rattle.command_line.specs.declared.Operand.{Operand}
use Rattle.command_line.specs.Words.{is_given, value_of, is_numbered, gives_numbered}

-- a word with the number of a part behind it is found
numbered : (front : List ℕ) (k : ℕ) → 1 ≤ k → k ≤ 5000 → is_numbered front (front ++ decimal k) ≡ true
numbered front k least most =
    ap (λ (word : List ℕ). bytes_eq word front && is_some (number_in 1 5000 (drop (length front) (front ++ decimal k)))) (take-append_seam front (decimal k))
    ∙ ap (λ b. b && is_some (number_in 1 5000 (drop (length front) (front ++ decimal k)))) ((bytes_eq-Decides front front).1 refl)
    ∙ ap (λ (word : List ℕ). is_some (number_in 1 5000 word)) (drop-append_seam front (decimal k))
    ∙ ap is_some (number_in-decimal 1 5000 k (omega (arith, most)) least most)

-- so where none is found, none is there
pub none_numbered : (front word : List ℕ) (k : ℕ) → is_numbered front word ≡ false → 1 ≤ k → k ≤ 5000 → word ≢ front ++ decimal k
none_numbered front word k none least most same = let found = ap (is_numbered front) same ∙ numbered front k least most in cc

-- where the number of parts is given
pub parts_apart : (operands : List Operand) (k : ℕ) → is_given operands Count ≡ true → gives_numbered operands ≡ false → 1 ≤ k → k ≤ 5000
    → unwrap_or (value_of operands In) [] ≢ unwrap_or (value_of operands Token) [] ++ decimal k
parts_apart operands k given none =
    none_numbered (unwrap_or (value_of operands Token) []) (unwrap_or (value_of operands In) []) k
    (sym (ap (λ b. b && is_numbered (unwrap_or (value_of operands Token) []) (unwrap_or (value_of operands In) [])) given) ∙ none)
