-- What a call copies, adds or leaves, where the bytes are told.
use Rattle.std.specs.Prelude.{◌≡◌, ℕ, ◌<◌, ◌≤◌, List, ◌++◌, length, take, Option}
use Rattle.std.specs.Option.{option_map}

-- the first n bytes of the buffer are the first n of these bytes, and n is 0 only at no bytes or no room
pub record Copies (bytes : List ℕ) (n : ℕ) (buffer : List ℕ) : Type 0 where
  pub copied : take n buffer ≡ take n bytes
  pub within : n ≤ length bytes
  pub ended : n ≡ 0 → 0 < length buffer → length bytes ≡ 0

-- the told bytes, and the piece behind them
abbrev pub added : Option (List ℕ) → List ℕ → Option (List ℕ)
added told piece = option_map (λ bytes. bytes ++ piece) told

-- the told bytes grew by a first part of the piece
pub record GrownInPart (old new : Option (List ℕ)) (piece : List ℕ) : Type 0 where
  pub part : List ℕ
  pub rest : List ℕ
  pub whole : piece ≡ part ++ rest
  pub grown : new ≡ added old part
