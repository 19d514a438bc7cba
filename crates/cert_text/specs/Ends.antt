-- How the reading of a certificate's text ends.
use Rattle.std.specs.Prelude.{ℕ}

-- its last line was read, or the line of a number has a fault of the text, of some kind
pub data TextEnd (K : Type 0) : Type 0 where
  Whole : TextEnd K
  Faulty : ℕ → K → TextEnd K
