-- The forms of lines, by the words behind the slot.
use Rattle.std.specs.Prelude.{ℕ, List, [], ◌∷◌, Option, Some, None, if◌then◌else◌, bytes_eq, codes}

-- what a line is behind its slot
pub data Form : Type 0 where
  -- `open`
  OpenForm : Form
  -- `keep BITS`
  KeepForm : List ℕ → Form
  -- `narrow REFERENCE REFERENCE LETTERS`
  NarrowForm : List ℕ → List ℕ → List ℕ → Form
  -- `next`
  NextForm : Form
  -- `close`
  CloseForm : Form

-- a form, if no word is left
abbrev pub at_end : Form → List (List ℕ) → Option Form
at_end form [] = Some form
at_end form (word ∷ words) = None

-- after `keep`: one word
abbrev pub keep_form : List (List ℕ) → Option Form
keep_form [] = None
keep_form (bits ∷ words) = at_end (KeepForm bits) words

-- after `narrow`: three words
abbrev pub narrow_form : List (List ℕ) → Option Form
narrow_form [] = None
narrow_form (left ∷ []) = None
narrow_form (left ∷ right ∷ []) = None
narrow_form (left ∷ right ∷ letters ∷ words) = at_end (NarrowForm left right letters) words

-- by the first word
abbrev pub keyword_form : List ℕ → List (List ℕ) → Option Form
keyword_form word words =
    if bytes_eq word (codes "open") then at_end OpenForm words else
    (if bytes_eq word (codes "keep") then keep_form words else
    (if bytes_eq word (codes "narrow") then narrow_form words else
    (if bytes_eq word (codes "next") then at_end NextForm words else
    (if bytes_eq word (codes "close") then at_end CloseForm words else None))))

-- the form of a line, if it has one
abbrev pub form_of : List (List ℕ) → Option Form
form_of [] = None
form_of (word ∷ words) = keyword_form word words
