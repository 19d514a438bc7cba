-- A line gathered of what may be to come.
use Rattle.std.proofs.Common.{◌≡◌, ℕ, ◌+◌, ◌^◌, ◌<◌, ◌≤◌, ◌==◌, Bool, true, false, not, cond, List, [], ◌∷◌, ◌++◌, append-nil, append_assoc, length, Option, Some, None, option_map, IfSome, refl, sym, ap, subst, ◌∙◌}
use Rattle.std.proofs.lemmas.Bool.{true≢false, eqb-true}
use Rattle.proof_text.specs.Laws.{has_byte}
use Rattle.cert_reader.specs.Bytes.{IsMoved, MayHold, MayCome, ForSome, GoesOn}
use Rattle.cert_reader.specs.declared.fault.CertTextKind.{CertTextKind}
use Rattle.cert_reader.specs.declared.fault.CertTextKind.TheVariants.{TooLong}
use Rattle.cert_reader.specs.declared.gather.Gathered.TheVariants as gathered
use Rattle.cert_reader.specs.declared.spot.Spot.{Spot}
use Rattle.cert_reader.specs.Reading.{faulty, reading_from}
use Rattle.cert_reader.specs.Reader.{IsGathered}
use Rattle.cert_reader.proofs.BlockLemmas.{none_of, gathered_no_lf}
use Rattle.cert_reader.proofs.GoesOnLemmas.{goes_joins}
use Rattle.cert_reader.proofs.ReadingLemmas.{reading_long}

-- bytes that a source may have left behind a piece that was taken were left with it
pub held_before : (piece rest : List ℕ) (old left : Option (List ℕ)) → option_map (λ rest. piece ++ rest) left ≡ old → MayHold left rest → MayHold old (piece ++ rest)
held_before piece rest old None took may = subst (λ old. MayHold old (piece ++ rest)) took tt
held_before piece rest old (Some told) took may = subst (λ old. MayHold old (piece ++ rest)) took (ap (λ rest. piece ++ rest) may)

-- no bytes may be left where the last block has none
was_true : (b : Bool) → not b ≡ false → b ≡ true
was_true true e = refl
was_true false e = absurd (true≢false e)

pub none_left : (more : Bool) (left : Option (List ℕ)) → IfSome left (λ bytes. more ≡ not (length bytes == 0)) → more ≡ false → MayHold left []
none_left more None ended none = tt
none_left more (Some bytes) ended none = sym (none_of bytes (eqb-true (length bytes) 0 (was_true (length bytes == 0) (sym ended ∙ none))))

-- a line that was gathered from what may have been to come at first, and grew by bytes at hand
module _ (first : List ℕ → Type 0) (found : Bool) (old new line more : List ℕ) (left : Option (List ℕ)) (is : IsMoved found old new line more)
    (clean : has_byte 10 line ≡ false) (gathers : GoesOn first (MayCome old left) (λ all rest. all ≡ line ++ rest)) where
  -- some bytes to come are the line with all that was moved, and such as may be left behind it
  grown : (rest : List ℕ) → MayHold left rest → ForSome first (λ all. all ≡ more ++ (cond found (10 ∷ new) [] ++ rest))
  grown rest may =
      let prior = gathers.before (old ++ rest) (rest, (may, refl)) in (
        prior.0,
        (
          prior.1.0,
          prior.1.1
              ∙ ap (λ old. line ++ (old ++ rest)) is.parted
              ∙ ap (λ bytes. line ++ bytes) (append_assoc is.moved (cond found (10 ∷ new) []) rest)
              ∙ sym (append_assoc line is.moved (cond found (10 ∷ new) [] ++ rest))
              ∙ ap (λ line. line ++ (cond found (10 ∷ new) [] ++ rest)) (sym is.grown),
        ),
      )

  -- up to its LF
  pub gathers_line : (spot : Spot) → found ≡ true → GoesOn first (MayCome new left) (λ all rest. IsGathered gathered.Line spot all rest more)
  gathers_line spot hit = record {
    before = λ bytes may.
        let prior = grown may.0 may.1.0 in (
          prior.0,
          (
            prior.1.0,
            (
              gathered_no_lf found old new line more is clean,
              prior.1.1 ∙ ap (λ found. more ++ (cond found (10 ∷ new) [] ++ may.0)) hit ∙ ap (λ bytes. more ++ 10 ∷ bytes) (sym may.1.1),
            ),
          ),
        );
  }

  -- beyond the room
  pub gathers_long : (spot : Spot) → 2 ^ 36 < spot.place + length more → GoesOn first (MayCome new left) (λ all rest. IsGathered (gathered.Faulty TooLong) spot all rest more)
  gathers_long spot long = record {
    before = λ bytes may.
        let prior = grown may.0 may.1.0 in
        (prior.0, (prior.1.0, ap (reading_from spot) prior.1.1 ∙ reading_long spot more _ (gathered_no_lf found old new line more is clean) long));
  }

  -- all bytes at hand
  pub gathers_all : found ≡ false → GoesOn first (MayCome new left) (λ all rest. all ≡ more ++ rest)
  gathers_all missed = record {
    before = λ bytes may.
        let prior = grown may.0 may.1.0 in (
          prior.0,
          (
            prior.1.0,
            prior.1.1 ∙ ap (λ found. more ++ (cond found (10 ∷ new) [] ++ may.0)) missed ∙ ap (λ new. more ++ (new ++ may.0)) (sym (is.all missed)) ∙ ap (λ bytes. more ++ bytes) (sym may.1.1),
          ),
        );
  }

  -- and its fault is told
  pub gathers_faulty : (spot : Spot) (kind : CertTextKind) (later : List ℕ → Type 0) (front : List ℕ) → found ≡ false → front ≡ more
      → GoesOn (MayCome new left) later (λ old rest. reading_from spot (front ++ old) ≡ faulty spot kind)
      → GoesOn first later (λ all rest. IsGathered (gathered.Faulty kind) spot all rest more)
  gathers_faulty spot kind later front missed same told =
      goes_joins (gathers_all missed) told (λ all old rest whole fault. ap (reading_from spot) (whole ∙ ap (λ front. front ++ old) (sym same)) ∙ fault)

  -- to the end of the bytes
  pub gathers_rest : (spot : Spot) (next : Bool) (later : List ℕ → Type 0) → found ≡ false → spot.place + length more ≤ 2 ^ 36 → IfSome left (λ bytes. next ≡ not (length bytes == 0)) → next ≡ false
      → GoesOn first later (λ all rest. IsGathered gathered.Rest spot all rest more)
  gathers_rest spot next later missed short ended none = record {
    before = λ bytes may.
        let prior = grown [] (none_left next left ended none) in (
          prior.0,
          (
            prior.1.0,
            (
              gathered_no_lf found old new line more is clean,
              short,
              prior.1.1 ∙ ap (λ found. more ++ (cond found (10 ∷ new) [] ++ [])) missed ∙ append-nil more,
            ),
          ),
        );
  }

  -- and on to the next block
  pub gathers_on : (block : List ℕ) (after : Option (List ℕ)) → found ≡ false → option_map (λ rest. block ++ rest) after ≡ left
      → GoesOn first (MayCome block after) (λ all rest. all ≡ more ++ rest)
  gathers_on block after missed took = record {
    before = λ bytes may.
        let prior = grown (block ++ may.0) (held_before block may.0 left after took may.1.0) in
        (prior.0, (prior.1.0, prior.1.1 ∙ ap (λ found. more ++ (cond found (10 ∷ new) [] ++ (block ++ may.0))) missed ∙ ap (λ bytes. more ++ bytes) (sym may.1.1)));
  }
