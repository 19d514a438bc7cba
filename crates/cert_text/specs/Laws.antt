-- What printed lines of a certificate read as.
use Rattle.std.specs.Prelude.{◌≡◌, ℕ, false, List, Some, Ok, All}
use Rattle.proof_text.specs.Laws.{has_byte}
use Rattle.cert_text.specs.declared.line.CertLine.{CertLine}
use Rattle.cert_text.specs.Lines.{cert_line_of, cert_text, IsCertLine}
use Rattle.cert_text.specs.Logs.{lines_in, lines_text}

-- a line is read back from its text, in which there is no LF (10)
pub record CertLinesReadBack : Type 0 where
  pub printed : (line : CertLine) → IsCertLine line → cert_line_of (cert_text line) ≡ Ok line
  pub no_lf : (line : CertLine) → IsCertLine line → has_byte 10 (cert_text line) ≡ false

-- what is read as a line is the one text of it
pub record CertLinesHaveOneText : Type 0 where
  pub text : (bytes : List ℕ) (line : CertLine) → cert_line_of bytes ≡ Ok line → bytes ≡ cert_text line
  pub line : (bytes : List ℕ) (line : CertLine) → cert_line_of bytes ≡ Ok line → IsCertLine line

-- lines are told by their text, and bytes that tell lines are their text
pub record ToldLinesAreTexts : Type 0 where
  pub told : (lines : List CertLine) → All IsCertLine lines → lines_in (lines_text lines) ≡ Some lines
  pub text : (bytes : List ℕ) (lines : List CertLine) → lines_in bytes ≡ Some lines → bytes ≡ lines_text lines
