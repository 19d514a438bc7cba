-- Which lines are read whole.
use Rattle.std.specs.Prelude.{◌≡◌, ℕ, ◌^◌, ◌≤◌, Bool, ◌&&◌, is_ok, List, [], ◌∷◌, length, Some, IsTrue}
use Rattle.lits_core.specs.declared.Line.TheVariants.{Derive, Forget}
use Rattle.cert_text.specs.declared.line.CertLine.{CertLine}
use Rattle.cert_text.specs.declared.line.CertLine.TheVariants.{Certificate, Claims, Proof, Branch, NoPoint, NoRelation, World, Holds, Fails, End, Quit, Done}
use Rattle.cert_text.specs.declared.kind.LineKind.{LineKind}
use Rattle.cert_text.specs.declared.kind.LineKind.TheVariants as kind
use Rattle.cert_text.specs.Ends.{Whole}
use Rattle.cert_text.specs.Logs.{lines_in}
use Rattle.cert_reader.specs.declared.mode.Mode.{Mode}
use Rattle.cert_reader.specs.declared.mode.Mode.TheVariants.{Header}
use Rattle.cert_reader.specs.Reading.{may_stand, mode_after, fits_in, is_over, reading}

-- the kind of a line
abbrev pub kind_of_line : CertLine → LineKind
kind_of_line (Certificate switches from) = kind.Certificate
kind_of_line (Claims switches) = kind.Claims
kind_of_line (Proof (Derive id lits hints)) = kind.Derive
kind_of_line (Proof (Forget ids)) = kind.Forget
kind_of_line (Branch depth last) = kind.Branch
kind_of_line (NoPoint depth last need clause) = kind.NoPoint
kind_of_line (NoRelation depth last pair) = kind.NoRelation
kind_of_line (World depth last family) = kind.World
kind_of_line (Holds subject family) = kind.Holds
kind_of_line (Fails subject) = kind.Fails
kind_of_line (End to) = kind.End
kind_of_line Quit = kind.Quit
kind_of_line Done = kind.Done

-- whether a line fits in a mode: the tree of a block ends at the end alone
abbrev pub fits : Mode → CertLine → Bool
fits mode line = is_ok (fits_in mode line)

-- whether lines may stand one after another from a mode on, and the last of them ends a certificate
abbrev pub stands : Mode → List CertLine → Bool
stands mode [] = is_over mode
stands mode (line ∷ lines) = may_stand mode (kind_of_line line) && fits mode line && stands (mode_after mode line) lines

-- such lines are read whole from the bytes that spell them, if these are no longer than a certificate may be
pub record StandingLinesAreRead : Type 0 where
  pub whole : (bytes : List ℕ) (lines : List CertLine) → lines_in bytes ≡ Some lines → IsTrue (stands Header lines) → length bytes ≤ 2 ^ 36 →
      reading bytes ≡ record { lines = lines; ends = Whole }
