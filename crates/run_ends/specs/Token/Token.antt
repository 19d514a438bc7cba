-- Tokens: the text of a problem and a position, and the position that a token has for a problem.
use Rattle.std.specs.Prelude.{◌≡◌, ◌≤◌, ℕ, ◌==◌, nat_le, Bool, true, ◌&&◌, not, if◌then◌else◌, List, [], ◌∷◌, ◌++◌, length, codes, decimal, bytes_eq, Option, Some, None, option_map, option_and_then, Result, Ok, Err, ok_or}
use Rattle.std.specs.List.{join_with_byte}
use Rattle.hex.specs.Hex.{encode_lower}
use Rattle.sha2.specs.Sha256.{sha256}
use Rattle.rcc5_core.specs.declared.Rel.{Rel}
use Rattle.rcc5_core.specs.Relation.{with_letter}
use Rattle.proof_text.specs.Words.{switch_word, position_word}
use Rattle.world_model.specs.Problem.{Problem, pair_count}
use Rattle.world_model.specs.declared.Switches.{Switches}
use Rattle.constraint_set.specs.Facts.{IsBuilt}
use Rattle.cleantax_text.specs.Canonical.{canonical_text}
use Rattle.run_ends.specs.declared.token.TokenKind.{TokenKind}
use Rattle.run_ends.specs.declared.token.TokenKind.TheVariants.{BadToken, OtherProblem, BadPosition}
use Rattle.run_ends.specs.declared.token.TokenFault.{TokenFault}
use Rattle.run_ends.specs.declared.token.TokenFault.TheVariants as fault
use Rattle.run_ends.specs.Token.Contents.{Contents, contents_of}

-- the line of the switches
abbrev pub switches_line : Switches → List ℕ
switches_line s =
    codes "switches " ++ switch_word s.nonempty ++ codes " " ++ switch_word s.sibling ++ codes " " ++ switch_word s.coverage ++ codes "\n"

-- the digest of a problem, in hexadecimal digits: SHA-256 of its canonical text, followed by the line of its switches
abbrev pub digest_of : Problem → List ℕ
digest_of p = encode_lower (sha256 (canonical_text p ++ switches_line p.switches))

-- the words of a token
abbrev pub token_words : Problem → List Rel → List (List ℕ)
token_words p q =
    codes "token" ∷ codes "2" ∷ decimal (length p.taxonomies) ∷ decimal (pair_count p) ∷ digest_of p ∷ position_word q ∷ []

-- the token of a problem and a position: its words with one space between, and a line end
abbrev pub token_text : Problem → List Rel → List ℕ
token_text p q = join_with_byte 32 (token_words p q) ++ codes "\n"

-- the relations that letters stand for, if each stands for one
abbrev pub rels_of : List ℕ → Option (List Rel)
rels_of [] = Some []
rels_of (letter ∷ letters) = option_and_then (λ rel. option_map (λ rels. rel ∷ rels) (rels_of letters)) (with_letter letter)

-- the position that a word is, if it is one
abbrev pub position_in : List ℕ → Option (List Rel)
position_in word = if bytes_eq word (codes ".") then Some [] else rels_of word

-- the position that a word is, if it has no more letters than the problem has pairs
abbrev pub position_for : Problem → List ℕ → Option (List Rel)
position_for p word = option_and_then (λ q. if nat_le (length q) (pair_count p) then Some q else None) (position_in word)

-- whether a number is this one, where it is told
abbrev pub is_if_told : Option ℕ → ℕ → Bool
is_if_told None count = true
is_if_told (Some told) count = told == count

-- whether contents are of this problem
abbrev pub are_of : Problem → Contents → Bool
are_of p c = bytes_eq c.digest (digest_of p) && ((c.taxonomies == length p.taxonomies) && is_if_told c.pairs (pair_count p))

-- what contents give a problem
abbrev pub contents_result : Problem → Option Contents → Result (List Rel) TokenKind
contents_result p None = Err BadToken
contents_result p (Some c) = if not (are_of p c) then Err OtherProblem else ok_or (position_for p c.position) BadPosition

-- the position that bytes have for a problem, or the first fault of them as its token
abbrev pub token_result : Problem → List ℕ → Result (List Rel) TokenKind
token_result p bytes = contents_result p (contents_of bytes)

-- the kind of a fault, but for want of memory
abbrev pub kind_of : TokenFault → Option TokenKind
kind_of fault.BadToken = Some BadToken
kind_of fault.OtherProblem = Some OtherProblem
kind_of fault.BadPosition = Some BadPosition
kind_of fault.NoMemory = None

-- reading a printed token gives its position
abbrev pub PrintingReadsBack : Type 0
PrintingReadsBack = (p : Problem) (q : List Rel) → IsBuilt p → length q ≤ pair_count p → token_result p (token_text p q) ≡ Ok q
