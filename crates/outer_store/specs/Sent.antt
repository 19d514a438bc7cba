-- What a loop of writes has sent.
use Rattle.std.specs.Prelude.{◌≡◌, ℕ, List, ◌++◌, Option}
use Rattle.std.specs.Io.KnownBytes.{Appends}

-- the known bytes grew by a first part of the piece, and the rest is left
pub record SentInPart (old new : Option (List ℕ)) (piece rest : List ℕ) : Type 0 where
  pub part : List ℕ
  pub whole : piece ≡ part ++ rest
  pub grown : Appends old new part
