-- Reading in pieces and adding in pieces, for code over any store or sink.
use Rattle.std.proofs.Common.{◌≡◌, ℕ, ◌+◌, ◌<◌, ◌≤◌, arith, length, length-drop, length-take, length-append, IfSome, Result, Ok, Err, OnErr, List, [], ◌++◌, take, drop, Option, Some, None, refl, sym, ap, subst, ◌∙◌, append_assoc, append-nil}
use Rattle.std.proofs.lemmas.List.{take_all}
use Rattle.std.proofs.Math.Seq.{take-add}
use Rattle.outer_store.specs.Bytes.{Copies, GrownInPart, added}

-- to add two pieces is to add them joined
pub added-added : (told : Option (List ℕ)) (first second : List ℕ) → added (added told first) second ≡ added told (first ++ second)
added-added None first second = refl
added-added (Some bytes) first second = ap Some (append_assoc bytes first second)

added-nothing : (told : Option (List ℕ)) → added told [] ≡ told
added-nothing None = refl
added-nothing (Some bytes) = ap Some (append-nil bytes)

-- what stayed has grown by a part of any piece
pub GrownInPart-kept : (old new : Option (List ℕ)) (piece : List ℕ) → new ≡ old → GrownInPart old new piece
GrownInPart-kept old new piece kept = record { part = []; rest = piece; whole = refl; grown = kept ∙ sym (added-nothing old) }

-- a whole piece is a part of a longer one
pub GrownInPart-whole : (old new : Option (List ℕ)) (piece more : List ℕ) → new ≡ added old piece → GrownInPart old new (piece ++ more)
GrownInPart-whole old new piece more grown = record { part = piece; rest = more; whole = refl; grown = grown }

-- a part of a piece is a part of a longer one
pub GrownInPart-longer : (old new : Option (List ℕ)) (piece more : List ℕ) → GrownInPart old new piece → GrownInPart old new (piece ++ more)
GrownInPart-longer old new piece more h = record {
  part = h.part;
  rest = h.rest ++ more;
  whole = ap (λ bytes. bytes ++ more) h.whole ∙ append_assoc h.part h.rest more;
  grown = h.grown;
}

-- a whole piece, and then a part of the next
pub GrownInPart-after : (old mid new : Option (List ℕ)) (piece more : List ℕ) → mid ≡ added old piece → GrownInPart mid new more → GrownInPart old new (piece ++ more)
GrownInPart-after old mid new piece more first h = record {
  part = piece ++ h.part;
  rest = h.rest;
  whole = ap (λ bytes. piece ++ bytes) h.whole ∙ sym (append_assoc piece h.part h.rest);
  grown = h.grown ∙ ap (λ told. added told h.part) first ∙ added-added old piece h.part;
}

-- a whole piece, and then a part of the next where its put was refused
pub GrownInPart-after_err : {T E : Type 0} (r : Result T E) (old mid new : Option (List ℕ)) (piece more : List ℕ) → mid ≡ added old piece → OnErr r (GrownInPart mid new more) → OnErr r (GrownInPart old new (piece ++ more))
GrownInPart-after_err (Ok v) old mid new piece more first h = h
GrownInPart-after_err (Err e) old mid new piece more first h = GrownInPart-after old mid new piece more first h

-- these are the first of the told bytes
abbrev pub IsFrontOf : List ℕ → Option (List ℕ) → Type 0
IsFrontOf bytes told = IfSome told (λ all. bytes ≡ take (length bytes) all)

pub IsFrontOf-nothing : (told : Option (List ℕ)) → IsFrontOf [] told
IsFrontOf-nothing None = tt
IsFrontOf-nothing (Some all) = refl

-- a read that goes on where the front ends makes it longer
pub IsFrontOf-read : (told : Option (List ℕ)) (bytes buffer : List ℕ) (n : ℕ) → n ≤ length buffer → IsFrontOf bytes told → IfSome told (λ all. Copies (drop (length bytes) all) n buffer) → IsFrontOf (bytes ++ take n buffer) told
IsFrontOf-read None bytes buffer n room front copies = tt
IsFrontOf-read (Some all) bytes buffer n room front copies =
    let longer : bytes ++ take n buffer ≡ take (length bytes + n) all =
    ap (λ piece. bytes ++ piece) copies.copied ∙ ap (λ (first : List ℕ). first ++ take n (drop (length bytes) all)) front ∙ sym (take-add (length bytes) n all) in
    let size : length (bytes ++ take n buffer) ≡ length bytes + n = omega (arith, length-append bytes (take n buffer), length-take n buffer) in
    longer ∙ ap (λ size. take size all) (sym size)

-- a turn of a loop that reads makes the front longer, by what a read and a push ensure
pub IsFrontOf-turn : (told now : Option (List ℕ)) (bytes longer buffer : List ℕ) (place n : ℕ) → n ≤ length buffer → IsFrontOf bytes told → place ≡ length bytes → IfSome told (λ all. Copies (drop place all) n buffer) → now ≡ told → longer ≡ bytes ++ take n buffer → IsFrontOf longer now
IsFrontOf-turn told now bytes longer buffer place n room front at copies kept pushed =
    let here = subst (λ at. IfSome told (λ all. Copies (drop at all) n buffer)) at copies in
    let read = IsFrontOf-read told bytes buffer n room front here in
    subst (λ items. IsFrontOf items now) (sym pushed) (subst (λ told. IsFrontOf (bytes ++ take n buffer) told) (sym kept) read)

-- a read of nothing, with room, was at the end: the front is the whole
pub IsFrontOf-end : (told : Option (List ℕ)) (bytes buffer : List ℕ) → 0 < length buffer → IsFrontOf bytes told → IfSome told (λ all. Copies (drop (length bytes) all) 0 buffer) → IfSome told (λ all. bytes ≡ all)
IsFrontOf-end None bytes buffer room front copies = tt
IsFrontOf-end (Some all) bytes buffer room front copies =
    front ∙ take_all (length bytes) all (omega (arith, copies.ended refl room, length-drop (length bytes) all))
