-- A line of which no more than its front was kept.
use Rattle.std.proofs.Common.{◌≡◌, ℕ, ◌+◌, ◌^◌, ◌<◌, ◌≤◌, ◌==◌, Bool, true, false, not, cond, List, [], ◌∷◌, ◌++◌, append-nil, append_assoc, length, length-append, Option, Some, None, Err, option_map, IfSome, refl, sym, ap, subst, ◌∙◌, arith}
use Rattle.std.proofs.lemmas.Bool.{lt-ltb, le-ltb}
use Rattle.std.proofs.lemmas.Bool.Decides.{nat_tests}
use Rattle.proof_text.specs.Words.{words_of}
use Rattle.proof_text.specs.Laws.{has_byte}
use Rattle.cert_reader.specs.declared.spot.Spot.{Spot}
use Rattle.cert_reader.specs.declared.fault.CertTextKind.{CertTextKind}
use Rattle.cert_reader.specs.declared.fault.CertTextKind.TheVariants.{EndsEarly, BadLine, TooLong}
use Rattle.cert_reader.specs.Bytes.{IsMoved, MayCome, GoesOn}
use Rattle.cert_reader.specs.Reading.{faulty, is_over, rest_fault, line_read, line_in, line_at, ending, going_on, reading_from}
use Rattle.cert_reader.specs.Reader.{BeginsNone}
use Rattle.cert_reader.proofs.BlockLemmas.{clean_on}
use Rattle.cert_reader.proofs.GatherLemmas.{held_before, none_left}
use Rattle.cert_reader.proofs.GoesOnLemmas.{goes_as, goes_joins}
use Rattle.cert_reader.proofs.ReadingLemmas.{reading_line, reading_rest, reading_long}

-- bytes that are gone behind a front, up to an LF where it was found, and how many all these are
pub record IsGone (front : List ℕ) (found : Bool) (count : ℕ) (old rest : List ℕ) : Type 0 where
  pub gone : List ℕ
  pub no_lf : has_byte 10 (front ++ gone) ≡ false
  pub parted : old ≡ gone ++ cond found (10 ∷ rest) rest
  pub counted : count ≡ length front + length gone + cond found 1 0

-- none at first
pub none_gone : (front old : List ℕ) → has_byte 10 front ≡ false → IsGone front false (length front) old old
none_gone front old clean = record {
  gone = [];
  no_lf = ap (has_byte 10) (append-nil front) ∙ clean;
  parted = refl;
  counted = omega arith;
}

-- what a block's bytes and those behind it are, where some of them are gone
record IsTaken (found : Bool) (count : ℕ) (all rest : List ℕ) : Type 0 where
  taken : List ℕ
  no_lf : has_byte 10 taken ≡ false
  parted : all ≡ taken ++ cond found (10 ∷ rest) rest
  counted : count ≡ length taken + cond found 1 0

taken_of : (found : Bool) (block new moved rest bytes : List ℕ) (count : ℕ) → IsMoved found block new [] moved → length block ≡ count + length new → bytes ≡ new ++ rest →
    IsTaken found count (block ++ rest) bytes
taken_of true block new moved rest bytes count is counts e = record {
  taken = is.moved;
  no_lf = is.no_lf;
  parted = ap (λ block. block ++ rest) is.parted ∙ append_assoc is.moved (10 ∷ new) rest ∙ ap (λ bytes. is.moved ++ 10 ∷ bytes) (sym e);
  counted = omega (arith, counts, ap length is.parted, length-append is.moved (10 ∷ new));
}
taken_of false block new moved rest bytes count is counts e =
    let none = is.all refl in
    let all : block ≡ is.moved = is.parted ∙ append-nil is.moved in
    record {
      taken = is.moved;
      no_lf = is.no_lf;
      parted = ap (λ block. block ++ rest) all ∙ ap (λ bytes. is.moved ++ bytes) (sym (e ∙ ap (λ new. new ++ rest) none));
      counted = omega (arith, counts, ap length all, ap length none);
    }

gone_on : (front : List ℕ) (found : Bool) (n count : ℕ) (old all rest : List ℕ) → IsGone front false n old all → IsTaken found count all rest → IsGone front found (n + count) old rest
gone_on front found n count old all rest is take = record {
  gone = is.gone ++ take.taken;
  no_lf = ap (has_byte 10) (sym (append_assoc front is.gone take.taken)) ∙ clean_on (front ++ is.gone) take.taken is.no_lf take.no_lf;
  parted = is.parted ∙ ap (λ all. is.gone ++ all) take.parted ∙ sym (append_assoc is.gone take.taken (cond found (10 ∷ rest) rest));
  counted = omega (arith, is.counted, take.counted, length-append is.gone take.taken);
}

-- the bytes of a front and those that are gone
whole_of : (front : List ℕ) (found : Bool) (n : ℕ) (old rest : List ℕ) (is : IsGone front found n old rest) → front ++ old ≡ (front ++ is.gone) ++ cond found (10 ∷ rest) rest
whole_of front found n old rest is = ap (λ old. front ++ old) is.parted ∙ sym (append_assoc front is.gone (cond found (10 ∷ rest) rest))

-- beyond the room
gone_long : (spot : Spot) (front : List ℕ) (found : Bool) (n : ℕ) (old rest : List ℕ) → IsGone front found n old rest → 2 ^ 36 < spot.place + n → reading_from spot (front ++ old) ≡ faulty spot TooLong
unfolding line_at
gone_long spot front true n old rest is long =
    let whole = front ++ is.gone in
    ap (reading_from spot) (whole_of front true n old rest is) ∙ reading_line spot whole rest is.no_lf
    ∙ ap (λ b. going_on spot (cond b (Err TooLong) (line_read spot whole (line_in spot.mode (words_of 32 whole)))) (λ after. reading_from after rest))
    (lt-ltb (2 ^ 36) (spot.place + (length whole + 1)) (omega (arith, long, is.counted, length-append front is.gone)))
gone_long spot front false n old rest is long =
    let whole = front ++ is.gone in
    ap (reading_from spot) (whole_of front false n old rest is) ∙ reading_long spot whole rest is.no_lf (omega (arith, long, is.counted, length-append front is.gone))

-- up to an LF within it
gone_bad : (spot : Spot) (front : List ℕ) (n : ℕ) (old rest : List ℕ) → IsGone front true n old rest → spot.place + n ≤ 2 ^ 36 → BeginsNone spot.mode front →
    reading_from spot (front ++ old) ≡ faulty spot BadLine
unfolding line_at
gone_bad spot front n old rest is short none =
    let whole = front ++ is.gone in
    ap (reading_from spot) (whole_of front true n old rest is) ∙ reading_line spot whole rest is.no_lf
    ∙ ap (λ b. going_on spot (cond b (Err TooLong) (line_read spot whole (line_in spot.mode (words_of 32 whole)))) (λ after. reading_from after rest))
    (le-ltb (2 ^ 36) (spot.place + (length whole + 1)) (omega (arith, short, is.counted, length-append front is.gone)))
    ∙ ap (λ read. going_on spot (line_read spot whole read) (λ after. reading_from after rest)) (none.bad is.gone)

some_rest : (spot : Spot) (over : Bool) → ending spot (cond over (Some BadLine) (Some EndsEarly)) ≡ faulty spot (cond over BadLine EndsEarly)
some_rest spot true = refl
some_rest spot false = refl

not_none : (n : ℕ) → 0 < n → n == 0 ≡ false
not_none n some = grind (arith, nat_tests)

rest_within : (spot : Spot) (whole : List ℕ) → spot.place + length whole ≤ 2 ^ 36 → 0 < length whole → ending spot (rest_fault spot whole) ≡ faulty spot (cond (is_over spot.mode) BadLine EndsEarly)
unfolding rest_fault
rest_within spot whole short some =
    ap (λ b. ending spot (cond b (Some TooLong) (cond (is_over spot.mode) (cond (length whole == 0) None (Some BadLine)) (Some EndsEarly)))) (le-ltb (2 ^ 36) (spot.place + length whole) short)
    ∙ ap (λ b. ending spot (cond (is_over spot.mode) (cond b None (Some BadLine)) (Some EndsEarly))) (not_none (length whole) some)
    ∙ some_rest spot (is_over spot.mode)

-- or to the end of the bytes
gone_rest : (spot : Spot) (front : List ℕ) (n : ℕ) (old : List ℕ) → IsGone front false n old [] → spot.place + n ≤ 2 ^ 36 → BeginsNone spot.mode front →
    reading_from spot (front ++ old) ≡ faulty spot (cond (is_over spot.mode) BadLine EndsEarly)
gone_rest spot front n old is short none =
    let whole = front ++ is.gone in
    ap (reading_from spot) (whole_of front false n old [] is ∙ append-nil whole) ∙ reading_rest spot whole is.no_lf
    ∙ rest_within spot whole (omega (arith, short, is.counted, length-append front is.gone)) (omega (arith, none.some, length-append front is.gone))

-- bytes that are gone of what may have been to come at first
module _ (first : List ℕ → Type 0) (spot : Spot) (front : List ℕ) (n : ℕ) (left : Option (List ℕ)) (goes : GoesOn first (MayCome [] left) (IsGone front false n)) where
  -- no more come
  pub passes_rest : (next : Bool) (later : List ℕ → Type 0) (kind : CertTextKind) → IfSome left (λ bytes. next ≡ not (length bytes == 0)) → next ≡ false → spot.place + n ≤ 2 ^ 36
      → BeginsNone spot.mode front → kind ≡ cond (is_over spot.mode) BadLine EndsEarly → GoesOn first later (λ old rest. reading_from spot (front ++ old) ≡ faulty spot kind)
  passes_rest next later kind ended none short begins is_kind = record {
    before = λ bytes may.
        let prior = goes.before [] ([], (none_left next left ended none, refl)) in
        (prior.0, (prior.1.0, gone_rest spot front n prior.0 prior.1.1 short begins ∙ ap (faulty spot) (sym is_kind)));
  }

  -- a block comes, and bytes of it go
  module _ (block : List ℕ) (after : Option (List ℕ)) (found : Bool) (count : ℕ) (new : List ℕ) (took : option_map (λ rest. block ++ rest) after ≡ left)
      (moved : (moved : List ℕ) × IsMoved found block new [] moved) (counts : length block ≡ count + length new) where
    goes_by : GoesOn first (MayCome new after) (IsGone front found (n + count))
    goes_by =
        goes_joins goes
        (record {
          before = λ bytes may.
              let all = block ++ may.0 in
              (all, ((all, (held_before block may.0 left after took may.1.0, refl)), taken_of found block new moved.0 may.0 bytes count moved.1 counts may.1.1));
        })
        (λ old all rest is take. gone_on front found n count old all rest is take)

    pub passes_on : found ≡ false → GoesOn first (MayCome [] after) (IsGone front false (n + count))
    passes_on missed =
        subst (λ new. GoesOn first (MayCome new after) (IsGone front false (n + count))) (moved.1.all missed)
        (subst (λ found. GoesOn first (MayCome new after) (IsGone front found (n + count))) missed goes_by)

    pub passes_long : 2 ^ 36 < spot.place + (n + count) → GoesOn first (MayCome new after) (λ old rest. reading_from spot (front ++ old) ≡ faulty spot TooLong)
    passes_long long = goes_as goes_by (λ old rest is. gone_long spot front found (n + count) old rest is long)

    pub passes_line : found ≡ true → spot.place + (n + count) ≤ 2 ^ 36 → BeginsNone spot.mode front
        → GoesOn first (MayCome new after) (λ old rest. reading_from spot (front ++ old) ≡ faulty spot BadLine)
    passes_line hit short begins =
        goes_as (subst (λ found. GoesOn first (MayCome new after) (IsGone front found (n + count))) hit goes_by)
        (λ old rest is. gone_bad spot front (n + count) old rest is short begins)
