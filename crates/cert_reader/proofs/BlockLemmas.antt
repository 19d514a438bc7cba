-- Bytes of a block up to the next LF.
use Rattle.std.proofs.Common.{◌≡◌, ℕ, ◌+◌, ◌-◌, ◌<◌, ◌≤◌, Bool, true, false, eqb, ltb, cond, List, [], ◌∷◌, ◌++◌, append-nil, length, length-append, length-take, get_or, take, drop, position, Some, None, refl, sym, ap, ◌∙◌, arith}
use Rattle.std.proofs.lemmas.Grind.{common_steps}
use Rattle.std.specs.List.{position_or_len}
use Rattle.std.proofs.lemmas.Bool.{eqb-true}
use Rattle.std.proofs.lemmas.Bool.Decides.{nat_tests}
use Rattle.std.proofs.lemmas.List.{take-append-drop, drop-take, drop-drop, drop_more, get_or-take, get_or_default}
use Rattle.std.proofs.lemmas.List.Folds.{list_any_none}
use Rattle.std.proofs.lemmas.List.Quantifiers.{position-Some}
use Rattle.std.proofs.lemmas.List.Sums.{fails_before_first}
use Rattle.std.proofs.Math.Seq.{drop-length}
use Rattle.proof_text.specs.Laws.{has_byte}
use Rattle.cert_reader.specs.Bytes.{part_of, IsMoved}

-- a part of a block without its first bytes
pub skip_part : (block : List ℕ) (from upto count : ℕ) → count ≤ length (part_of block from upto) → part_of block (from + count) upto ≡ drop count (part_of block from upto)
skip_part block from upto count within =
    let m = upto - (from + count) in
    let whole : count + m ≡ upto - from = omega (arith, within, length-take (upto - from) (drop from block)) in
    ap (λ xs. take m xs) (sym (drop-drop count from block)) ∙ sym (drop-take count m (drop from block)) ∙ ap (λ k. drop count (take k (drop from block))) whole

-- the bytes before the first of a kind are others
pub before_first : (byte : ℕ) (text : List ℕ) (place : ℕ) → position (λ b. eqb b byte) text ≡ Some place → has_byte byte (take place text) ≡ false
before_first byte text place found =
    let first = position-Some (λ b. eqb b byte) text place 0 found in
    list_any_none (λ b. eqb b byte) (take place text) (λ k d within.
    let small : k < place = omega (arith, within, length-take place text) in
    ap (λ b. eqb b byte) (get_or_default (take place text) k d 0 within ∙ get_or-take place text k 0 small) ∙ first.2 k small)

-- and behind them it stands
pub at_first : (byte : ℕ) (text : List ℕ) (place : ℕ) → position (λ b. eqb b byte) text ≡ Some place → text ≡ take place text ++ byte ∷ drop (place + 1) text
at_first byte text place found =
    let first = position-Some (λ b. eqb b byte) text place 0 found in
    sym (take-append-drop place text)
    ∙ ap (λ xs. take place text ++ xs) (drop_more text place 0 first.0 ∙ ap (λ b. b ∷ drop (place + 1) text) (eqb-true (get_or text place 0) byte first.1))

pub moved_some : (text line new_line new : List ℕ) (place : ℕ) → position (λ b. eqb b 10) text ≡ Some place → new_line ≡ line ++ take place text → new ≡ drop (place + 1) text →
    IsMoved true text new line new_line
moved_some text line new_line new place found is_line is_new = record {
  moved = take place text;
  grown = is_line;
  no_lf = before_first 10 text place found;
  parted = at_first 10 text place found ∙ ap (λ xs. take place text ++ 10 ∷ xs) (sym is_new);
  all = λ e. absurd (cc);
}

at_least : (n m : ℕ) → cond (ltb n m) (Some n) None ≡ None → m ≤ n
at_least n m h = grind (arith, nat_tests)

-- bytes of which none is found
pub none_such : (byte : ℕ) (text : List ℕ) → position (λ b. eqb b byte) text ≡ None → has_byte byte text ≡ false
none_such byte text found =
    let p : ℕ → Bool = λ b. eqb b byte in
    let whole = at_least (position_or_len p text) (length text) found in
    list_any_none p text (λ k d within. fails_before_first p text k d (omega (arith, whole, within)))

pub moved_all : (text line new_line new : List ℕ) → position (λ b. eqb b 10) text ≡ None → new_line ≡ line ++ text → new ≡ drop (length text) text → IsMoved false text new line new_line
moved_all text line new_line new found is_line is_new = record {
  moved = text;
  grown = is_line;
  no_lf = none_such 10 text found;
  parted = sym (append-nil text);
  all = λ e. is_new ∙ drop-length text;
}

-- a line that took all bytes at hand is longer by these
pub moved_length : (found : Bool) (old new line more : List ℕ) → IsMoved found old new line more → found ≡ false → length more ≡ length line + length old
moved_length found old new line more is missed =
    let all : old ≡ is.moved = is.parted ∙ ap (λ b. is.moved ++ cond b (10 ∷ new) []) missed ∙ append-nil is.moved in
    ap length is.grown ∙ length-append line is.moved ∙ ap (λ o. length line + length o) (sym all)

-- no bytes are those whose number is 0
pub none_of : (bytes : List ℕ) → length bytes ≡ 0 → bytes ≡ []
none_of [] is = refl
none_of (byte ∷ bytes) is = absurd (omega (arith, is))

pub clean_on : (line moved : List ℕ) → has_byte 10 line ≡ false → has_byte 10 moved ≡ false → has_byte 10 (line ++ moved) ≡ false
clean_on line moved before after = grind (arith, common_steps)

-- no LF is in the line that was moved on
pub gathered_no_lf : (found : Bool) (old new line more : List ℕ) → IsMoved found old new line more → has_byte 10 line ≡ false → has_byte 10 more ≡ false
gathered_no_lf found old new line more is before = ap (has_byte 10) is.grown ∙ clean_on line is.moved before is.no_lf
