-- Pieces that are put one behind the other.
use Rattle.std.proofs.Common.{◌≡◌, ◌≢◌, ℕ, zero, suc, ◌+◌, ◌-◌, ◌<◌, ◌≤◌, ◌==◌, ◌⊎◌, inl, inr, Bool, true, false, cond, List, [], ◌∷◌, ◌++◌, take, drop, length, flat_map, get_or, Option, Result, Ok, Err, OnErr, refl, sym, ap, subst, ◌∙◌, append-nil, append_assoc, arith}
use Rattle.std.proofs.lemmas.Bool.{eqb-true}
use Rattle.std.specs.List.{slice_range}
use Rattle.std.proofs.Math.Seq.{take-suc}
use Rattle.std.proofs.lemmas.Grind.{flat_map-append}
use Rattle.std.proofs.lemmas.List.{take-append-drop, take_all, drop_all, length-take-le, length-drop, get_or-take, get_or-drop}
use Rattle.std.proofs.lemmas.List.Folds.{drop_split}
use Rattle.outer_store.specs.Bytes.{GrownInPart, added}
use Rattle.outer_store.specs.Faults.{Rose}
use Rattle.outer_store.specs.declared.fault.StoreFault.{StoreFault}
use Rattle.outer_store.specs.declared.fault.StoreFault.TheVariants as fault
use Rattle.outer_store.proofs.BytesLemmas.{added-added, GrownInPart-longer, GrownInPart-after, GrownInPart-whole}
use Rattle.run_ends.specs.Ends.{line_of, in_lines, IsLineEnd}
use Rattle.outer_store.specs.States.{SinkState}
use Rattle.run_ends.specs.Runs.{LeavesPiece}

-- a piece behind one that is put whole
pub piece_after : {T : Type 0} (r : Result T StoreFault) (piece more : List ℕ) (old mid new : SinkState) → mid.bytes ≡ added old.bytes piece → mid.faults ≡ old.faults
    → LeavesPiece r more mid new → LeavesPiece r (piece ++ more) old new
piece_after (Ok v) piece more old mid new put same h = record {
  ok = h.ok ∙ ap (λ told. added told more) put ∙ added-added old.bytes piece more;
  err = tt;
  cause = h.cause ∙ same;
  later = subst (λ (n : ℕ). n ≤ new.faults) same h.later;
}
piece_after (Err fault.Failed) piece more old mid new put same h = record {
  ok = tt;
  err = GrownInPart-after old.bytes mid.bytes new.bytes piece more put h.err;
  cause = subst (λ (n : ℕ). Rose n new.faults) same h.cause;
  later = subst (λ (n : ℕ). n ≤ new.faults) same h.later;
}
piece_after (Err fault.NoMemory) piece more old mid new put same h = record {
  ok = tt;
  err = GrownInPart-after old.bytes mid.bytes new.bytes piece more put h.err;
  cause = h.cause ∙ same;
  later = subst (λ (n : ℕ). n ≤ new.faults) same h.later;
}

-- a first part of a piece is one of a longer piece
pub part_of_more : {T E : Type 0} (r : Result T E) (old new : Option (List ℕ)) (piece more : List ℕ) → GrownInPart old new piece → OnErr r (GrownInPart old new (piece ++ more))
part_of_more (Ok v) old new piece more h = tt
part_of_more (Err e) old new piece more h = GrownInPart-longer old new piece more h

-- the lines of the first of a list, and that of the next
lines_more : {X : Type 0} (line : X → List ℕ) (xs : List X) (i : ℕ) (x : X) → i < length xs → x ≡ get_or xs i x
    → flat_map line (take (i + 1) xs) ≡ flat_map line (take i xs) ++ line x
lines_more line xs i x within is =
    let next : i + 1 ≡ suc i = omega arith in
    ap (λ (n : ℕ). flat_map line (take n xs)) next
    ∙ ap (flat_map line) (take-suc xs i x within)
    ∙ flat_map-append line (take i xs) (get_or xs i x ∷ [])
    ∙ ap (λ (bytes : List ℕ). flat_map line (take i xs) ++ bytes) (append-nil (line (get_or xs i x)) ∙ ap line (sym is))

-- the lines of the first of a list are a first part of all
lines_split : {X : Type 0} (line : X → List ℕ) (xs : List X) (i : ℕ) → flat_map line (take i xs) ++ flat_map line (drop i xs) ≡ flat_map line xs
lines_split line xs i = sym (flat_map-append line (take i xs) (drop i xs)) ∙ ap (flat_map line) (take-append-drop i xs)

-- one more line
pub line_put : {X : Type 0} (line : X → List ℕ) (xs : List X) (i : ℕ) (x : X) (old mid new : Option (List ℕ)) → i < length xs → x ≡ get_or xs i x
    → mid ≡ added old (flat_map line (take i xs)) → new ≡ added mid (line x) → new ≡ added old (flat_map line (take (i + 1) xs))
line_put line xs i x old mid new within is so_far put =
    put
    ∙ ap (λ told. added told (line x)) so_far
    ∙ added-added old (flat_map line (take i xs)) (line x)
    ∙ ap (added old) (sym (lines_more line xs i x within is))

-- a part of the next line is refused
pub line_refused : {X T E : Type 0} (r : Result T E) (line : X → List ℕ) (xs : List X) (i : ℕ) (x : X) (old mid new : Option (List ℕ)) → i < length xs → x ≡ get_or xs i x
    → mid ≡ added old (flat_map line (take i xs)) → GrownInPart mid new (line x) → OnErr r (GrownInPart old new (flat_map line xs))
line_refused (Ok v) line xs i x old mid new within is so_far part = tt
line_refused (Err e) line xs i x old mid new within is so_far part =
    subst (GrownInPart old new) (lines_split line xs (i + 1))
    (GrownInPart-longer old new (flat_map line (take (i + 1) xs)) (flat_map line (drop (i + 1) xs))
    (subst (GrownInPart old new) (sym (lines_more line xs i x within is)) (GrownInPart-after old mid new (flat_map line (take i xs)) (line x) so_far part)))

-- no memory for the next line
pub line_starved : {X T E : Type 0} (r : Result T E) (line : X → List ℕ) (xs : List X) (i : ℕ) (old mid : Option (List ℕ)) → mid ≡ added old (flat_map line (take i xs))
    → OnErr r (GrownInPart old mid (flat_map line xs))
line_starved (Ok v) line xs i old mid so_far = tt
line_starved (Err e) line xs i old mid so_far =
    subst (GrownInPart old mid) (lines_split line xs i) (GrownInPart-whole old mid (flat_map line (take i xs)) (flat_map line (drop i xs)) so_far)

-- all lines are put
pub lines_put : {X : Type 0} (line : X → List ℕ) (xs : List X) (i : ℕ) (old new : Option (List ℕ)) → length xs ≤ i
    → new ≡ added old (flat_map line (take i xs)) → new ≡ added old (flat_map line xs)
lines_put line xs i old new end put = put ∙ ap (λ ys. added old (flat_map line ys)) (take_all i xs end)

-- a part of what is left of a piece is refused, or memory is wanting for it
pub rest_refused : {T E : Type 0} (r : Result T E) (whole so_far piece more : List ℕ) (old mid new : Option (List ℕ)) → whole ≡ so_far ++ (piece ++ more) → mid ≡ added old so_far → GrownInPart mid new piece
    → OnErr r (GrownInPart old new whole)
rest_refused (Ok v) whole so_far piece more old mid new is put part = tt
rest_refused (Err e) whole so_far piece more old mid new is put part =
    subst (GrownInPart old new) (sym (is ∙ sym (append_assoc so_far piece more))) (GrownInPart-longer old new (so_far ++ piece) more (GrownInPart-after old mid new so_far piece put part))

-- the lines of a text behind a piece that is a line: it ends with a line feed, or nothing is behind it
fed_split : (piece rest : List ℕ) (n : ℕ) → n + 1 ≡ length piece → get_or piece n 0 ≡ 10 → in_lines (piece ++ rest) ≡ in_lines piece ++ in_lines rest
fed_split [] rest n last fed = absurd (omega (arith, last))
fed_split (b ∷ []) [] n last fed = sym (append-nil (in_lines (b ∷ [])))
fed_split (b ∷ []) (c ∷ rest) zero last fed = rw fed refl
fed_split (b ∷ []) (c ∷ rest) (suc n) last fed = absurd (omega (arith, last))
fed_split (b ∷ c ∷ bs) rest zero last fed = absurd (omega (arith, last))
fed_split (b ∷ c ∷ bs) rest (suc n) last fed = ap (λ l. b ∷ l) (fed_split (c ∷ bs) rest n (omega (arith, last)) fed)

text_split : (piece rest : List ℕ) → (rest ≡ []) ⊎ ((n : ℕ) × (n + 1 ≡ length piece) × (get_or piece n 0 ≡ 10)) → in_lines (piece ++ rest) ≡ in_lines piece ++ in_lines rest
text_split piece rest (inl none) = ap (λ r. in_lines (piece ++ r)) none ∙ ap in_lines (append-nil piece) ∙ sym (append-nil (in_lines piece)) ∙ ap (λ r. in_lines piece ++ in_lines r) (sym none)
text_split piece rest (inr (n, last, fed)) = fed_split piece rest n last fed

-- of a piece that ends with a line feed, and of one that doesn't
pub lines_whole : (piece : List ℕ) (n : ℕ) → n + 1 ≡ length piece → get_or piece n 0 ≡ 10 → in_lines piece ≡ piece
lines_whole [] n last fed = absurd (omega (arith, last))
lines_whole (b ∷ []) zero last fed = rw fed refl
lines_whole (b ∷ []) (suc n) last fed = absurd (omega (arith, last))
lines_whole (b ∷ c ∷ bs) zero last fed = absurd (omega (arith, last))
lines_whole (b ∷ c ∷ bs) (suc n) last fed = ap (λ l. b ∷ l) (lines_whole (c ∷ bs) n (omega (arith, last)) fed)

pub lines_open : (piece : List ℕ) (n : ℕ) → n + 1 ≡ length piece → get_or piece n 0 ≢ 10 → in_lines piece ≡ line_of piece
lines_open [] n last unfed = absurd (omega (arith, last))
lines_open (b ∷ []) zero last unfed = by (b == 10) refl
  where
    by : (t : Bool) → (b == 10) ≡ t → cond t (b ∷ []) (line_of (b ∷ [])) ≡ line_of (b ∷ [])
    by false e = refl
    by true e = absurd (unfed (eqb-true b 10 e))
lines_open (b ∷ []) (suc n) last unfed = absurd (omega (arith, last))
lines_open (b ∷ c ∷ bs) zero last unfed = absurd (omega (arith, last))
lines_open (b ∷ c ∷ bs) (suc n) last unfed = ap (λ l. b ∷ l) (lines_open (c ∷ bs) n (omega (arith, last)) unfed)

-- what is put of a text up to a place
pub record ArePutTo (text : List ℕ) (from : ℕ) (old new : Option (List ℕ)) : Type 0 where
  pub lines : List ℕ
  pub whole : in_lines text ≡ lines ++ in_lines (drop from text)
  pub put : new ≡ added old lines

-- the rest of a text from a line on
pub line_next : (text : List ℕ) (from to : ℕ) → IsLineEnd text from to → in_lines (drop from text) ≡ in_lines (slice_range text from to) ++ in_lines (drop to text)
line_next text from to end = ap in_lines whole ∙ text_split (slice_range text from to) (drop to text) (elim end.ended [
  | inl all ↦ inl (drop_all to text (omega (arith, all)))
  | inr fed ↦ inr (to - from - 1, omega (arith, long, end.beyond), last fed)
])
  where
    whole : drop from text ≡ slice_range text from to ++ drop to text
    whole = drop_split text from to (omega (arith, end.beyond))

    long : length (slice_range text from to) ≡ to - from
    long = length-take-le (to - from) (drop from text) (omega (arith, end.within, end.beyond, length-drop from text))

    last : get_or text (to - 1) 0 ≡ 10 → get_or (slice_range text from to) (to - from - 1) 0 ≡ 10
    last fed =
        get_or-take (to - from) (drop from text) (to - from - 1) 0 (omega (arith, end.beyond))
        ∙ get_or-drop from text (to - from - 1) 0
        ∙ ap (λ (n : ℕ). get_or text n 0) (omega (arith, end.beyond))
        ∙ fed

pub put_next : (text : List ℕ) (from to : ℕ) (piece : List ℕ) (old mid new : Option (List ℕ)) → ArePutTo text from old mid → IsLineEnd text from to → piece ≡ slice_range text from to
    → new ≡ added mid (in_lines piece) → ArePutTo text to old new
put_next text from to piece old mid new so_far end is put = record {
  lines = so_far.lines ++ in_lines piece;
  whole = so_far.whole ∙ ap (λ xs. so_far.lines ++ xs) (line_next text from to end ∙ ap (λ xs. in_lines xs ++ in_lines (drop to text)) (sym is)) ∙ sym (append_assoc so_far.lines (in_lines piece) (in_lines (drop to text)));
  put = put ∙ ap (λ told. added told (in_lines piece)) so_far.put ∙ added-added old so_far.lines (in_lines piece);
}

pub put_refused : {T E : Type 0} (r : Result T E) (text : List ℕ) (from to : ℕ) (piece : List ℕ) (old mid new : Option (List ℕ)) → ArePutTo text from old mid → IsLineEnd text from to → piece ≡ slice_range text from to
    → GrownInPart mid new (in_lines piece) → OnErr r (GrownInPart old new (in_lines text))
put_refused r text from to piece old mid new so_far end is part =
    rest_refused r (in_lines text) so_far.lines (in_lines piece) (in_lines (drop to text)) old mid new
    (so_far.whole ∙ ap (λ xs. so_far.lines ++ xs) (line_next text from to end ∙ ap (λ xs. in_lines xs ++ in_lines (drop to text)) (sym is))) so_far.put part

pub put_all : (text : List ℕ) (from : ℕ) (old new : Option (List ℕ)) → ArePutTo text from old new → length text ≤ from → new ≡ added old (in_lines text)
put_all text from old new so_far end =
    so_far.put ∙ ap (added old) (sym (append-nil so_far.lines) ∙ ap (λ xs. so_far.lines ++ in_lines xs) (sym (drop_all from text end)) ∙ sym so_far.whole)

-- a text that ends with a line feed is as it is in lines
ends_lines : (front : List ℕ) → in_lines (front ++ 10 ∷ []) ≡ front ++ 10 ∷ []
ends_lines [] = refl
ends_lines (x ∷ []) = refl
ends_lines (x ∷ y ∷ front) = ap (λ (rest : List ℕ). x ∷ rest) (ends_lines (y ∷ front))

-- a text that does
pub IsEnded : List ℕ → Type 0
IsEnded text = (front : List ℕ) × (text ≡ front ++ 10 ∷ [])

pub ended_line : (words : List ℕ) → IsEnded (line_of words)
unfolding IsEnded
ended_line words = (words, refl)

pub ended_behind : (before text : List ℕ) → IsEnded text → IsEnded (before ++ text)
unfolding IsEnded
ended_behind before text ended = (before ++ ended.0, ap (λ (rest : List ℕ). before ++ rest) ended.1 ∙ sym (append_assoc before ended.0 (10 ∷ [])))

pub ended_lines : (text : List ℕ) → IsEnded text → in_lines text ≡ text
unfolding IsEnded
ended_lines text ended = ap in_lines ended.1 ∙ ends_lines ended.0 ∙ sym ended.1
