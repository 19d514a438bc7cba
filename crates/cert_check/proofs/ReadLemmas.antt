-- A certificate has fewer lines than bytes.
use Rattle.std.proofs.Common.{◌≡◌, ℕ, ◌+◌, ◌^◌, ◌≤◌, inl, inr, cond, List, [], ◌∷◌, length, Option, Some, None, Result, Ok, Err, refl, sym, ap, subst, ◌∙◌, arith}
use Rattle.std.proofs.lemmas.Bool.{cases_Bool, ltb-false}
use Rattle.proof_text.specs.Words.{words_of}
use Rattle.proof_text.specs.declared.fault.LineTextFault.{LineTextFault}
use Rattle.cert_text.specs.declared.line.CertLine.{CertLine}
use Rattle.cert_reader.specs.declared.spot.Spot.{Spot}
use Rattle.cert_reader.specs.declared.fault.CertTextKind.{CertTextKind}
use Rattle.cert_reader.specs.declared.fault.CertTextKind.TheVariants.{TooLong}
use Rattle.cert_reader.specs.Reading.{Reading, first_spot, spot_after, is_too_long, line_read, line_in, line_at, rest_fault, ending, going_on, reading_of}
use Rattle.cert_reader.specs.Reader.{Reader, MayRead}
use Rattle.cert_check.specs.Whole.{AreFew}

-- the next line begins behind a line, and within the greatest length
read_place : (spot : Spot) (bytes : List ℕ) (line : Result CertLine LineTextFault) (read : CertLine × Spot) → line_read spot bytes line ≡ Ok read → read.1.place ≡ spot.place + length bytes + 1
read_place spot bytes (Ok line) read e = let same : read ≡ (line, spot_after spot bytes line) = cc in ap (λ r. r.1.place) same
read_place spot bytes (Err fault) read e = cc

place_after : (spot : Spot) (bytes : List ℕ) (read : CertLine × Spot) → line_at spot bytes ≡ Ok read → (spot.place + 1 ≤ read.1.place) × (read.1.place ≤ 2 ^ 36)
unfolding line_at
place_after spot bytes read e = elim (cases_Bool (is_too_long spot (length bytes + 1))) [
  | inl long ↦ let no : Err TooLong ≡ Ok read = sym (ap (λ b. cond b (Err TooLong) (line_read spot bytes (line_in spot.mode (words_of 32 bytes)))) long) ∙ e in cc
  | inr short ↦
      let is : line_read spot bytes (line_in spot.mode (words_of 32 bytes)) ≡ Ok read =
      sym (ap (λ b. cond b (Err TooLong) (line_read spot bytes (line_in spot.mode (words_of 32 bytes)))) short) ∙ e in
      let place = read_place spot bytes (line_in spot.mode (words_of 32 bytes)) read is in
      (omega (arith, place), omega (arith, place, ltb-false (2 ^ 36) (spot.place + (length bytes + 1)) short))
]

ending_none : (spot : Spot) (o : Option CertTextKind) → length (ending spot o).lines ≡ 0
ending_none spot None = refl
ending_none spot (Some kind) = refl

going_few : (spot : Spot) (r : Result (CertLine × Spot) CertTextKind) (further : Spot → Reading) → spot.place ≤ 2 ^ 36 →
    ((read : CertLine × Spot) → r ≡ Ok read → length (further read.1).lines + 1 + spot.place ≤ 2 ^ 36) → length (going_on spot r further).lines + spot.place ≤ 2 ^ 36
going_few spot (Ok read) further short next = omega (arith, next read refl)
going_few spot (Err kind) further short next = omega (arith, short)

lines_few : (spot : Spot) (pieces : List (List ℕ)) → spot.place ≤ 2 ^ 36 → length (reading_of spot pieces).lines + spot.place ≤ 2 ^ 36
lines_few spot [] short = omega (arith, short, ending_none spot (rest_fault spot []))
lines_few spot (bytes ∷ []) short = omega (arith, short, ending_none spot (rest_fault spot bytes))
lines_few spot (bytes ∷ (next ∷ pieces)) short =
    going_few spot (line_at spot bytes) (λ after. reading_of after (next ∷ pieces)) short
    (λ read e. let places = place_after spot bytes read e in let more = lines_few read.1 (next ∷ pieces) places.1 in omega (arith, more, places.0))

-- so at the top of a text
pub few_at_first : (left : Option (List ℕ)) (reader : Reader) → reader ≡ record { spot = first_spot; pending = []; refusal = None } → AreFew 0 (MayRead reader left)
few_at_first left reader is = subst (λ reader. AreFew 0 (MayRead reader left)) (sym is)
    (λ read may. omega (arith, ap (λ (read : Reading). length read.lines) may.1.1, lines_few first_spot (words_of 10 may.0) (omega arith)))
