-- The files of a request are those of its command's row.
use Rattle.std.proofs.Common.{◌≡◌, ℕ, List, [], ◌∷◌, ◌++◌, Option, None, Some, false, refl, sym, ap, ◌∙◌}
use Rattle.std.specs.Prelude.{not, unwrap_or}
use Rattle.std.specs.List.{list_any}
use Rattle.std.specs.Option.{option_to_list}
use Rattle.std.proofs.lemmas.List.{append-nil}
use Rattle.command_line.specs.declared.table.Command.TheVariants as command
use Rattle.command_line.specs.declared.table.Key.{Key}
use Rattle.command_line.specs.declared.table.Key.TheVariants.{In, Cert, Token, Resume, Kinds, Left, Right, Set, Count, Until, Certs, Script}
use Rattle.command_line.specs.declared.table.KeyKind.TheVariants.{FileName, FileNames}
use Rattle.command_line.specs.declared.Operand.{Operand}
use Rattle.command_line.specs.Table.{row_of}
use Rattle.command_line.specs.Words.{names_in, value_of, is_given, is_lacking, request_for}
use Rattle.command_line.specs.Requests.{Names, names_of, names_given, names_under, RowsNameFiles, DeskRowNamesFiles}
use Rattle.command_line.proofs.MadeLemmas.{needs_first, needs_second}

-- what one key gives, and what two give
one_given : (o : Option (List ℕ)) → option_to_list o ≡ names_given FileName o ++ []
one_given None = refl
one_given (Some value) = refl

two_given : (o p : Option (List ℕ)) → option_to_list o ++ option_to_list p ≡ names_given FileName o ++ (names_given FileName p ++ [])
two_given None None = refl
two_given None (Some other) = refl
two_given (Some value) None = refl
two_given (Some value) (Some other) = refl

three_given : (o p q : Option (List ℕ)) → option_to_list o ++ (option_to_list p ++ option_to_list q) ≡ names_given FileName o ++ (names_given FileName p ++ (names_given FileName q ++ []))
three_given None p q = two_given p q
three_given (Some value) p q = ap (λ (names : List (List ℕ)). value ∷ names) (two_given p q)

-- what one key gives that names a file, and one that names several
several_given : (o p : Option (List ℕ)) → option_to_list o ++ names_given FileNames p ≡ names_given FileName o ++ (names_given FileNames p ++ [])
several_given None p = sym (append-nil (names_given FileNames p))
several_given (Some value) p = ap (λ (names : List (List ℕ)). value ∷ names) (sym (append-nil (names_given FileNames p)))

-- a key that has to be given gives its value
needed : (o : Option (List ℕ)) → (o ≡ None → ⊥) → unwrap_or o [] ∷ [] ≡ option_to_list o
needed None given = absurd (given refl)
needed (Some value) given = refl

needed_names : (o : Option (List ℕ)) → (o ≡ None → ⊥) → names_in (unwrap_or o []) ≡ names_given FileNames o
needed_names None given = absurd (given refl)
needed_names (Some value) given = refl

both : (a b : Names) → a.read ≡ b.read → a.written ≡ b.written → a ≡ b
both a b e f = λ i. record { read = e i; written = f i }

-- the problem's file and another's, where both have to be given
two_needed : (operands : List Operand) (key : Key) → list_any (λ k. not (is_given operands k)) (In ∷ key ∷ []) ≡ false
    → unwrap_or (value_of operands In) [] ∷ unwrap_or (value_of operands key) [] ∷ [] ≡ names_given FileName (value_of operands In) ++ (names_given FileName (value_of operands key) ++ [])
two_needed operands key lacking =
    ap (λ (names : List (List ℕ)). names ++ unwrap_or (value_of operands key) [] ∷ []) (needed (value_of operands In) (needs_first operands In (key ∷ []) lacking))
    ∙ ap (λ (names : List (List ℕ)). option_to_list (value_of operands In) ++ names) (needed (value_of operands key) (needs_second operands In key [] lacking))
    ∙ two_given (value_of operands In) (value_of operands key)

-- the files of a question that is answered by claims
claims : (operands : List Operand) → is_lacking (row_of command.Mir) operands ≡ false →
    names_of (request_for command.Mir operands) ≡ record { read = names_under operands (In ∷ []); written = names_under operands (Cert ∷ []) }
claims operands lacking = both _ _ (needed (value_of operands In) (needs_first operands In [] lacking) ∙ one_given (value_of operands In)) (one_given (value_of operands Cert))

pub rows : RowsNameFiles
rows command.Align operands lacking = both _ _
    (ap (λ (names : List (List ℕ)). names ++ option_to_list (value_of operands Resume)) (needed (value_of operands In) (needs_first operands In [] lacking)) ∙ two_given (value_of operands In) (value_of operands Resume))
    (two_given (value_of operands Cert) (value_of operands Token))
rows command.Check operands lacking = both _ _ (two_needed operands Cert lacking) refl
rows command.Mir operands lacking = claims operands lacking
rows command.Conflict operands lacking = claims operands lacking
rows command.Lattice operands lacking = claims operands lacking
rows command.Explain operands lacking = both _ _ (needed (value_of operands In) (needs_first operands In (Left ∷ Right ∷ Set ∷ []) lacking) ∙ one_given (value_of operands In)) refl
rows command.Report operands lacking = both _ _ (needed (value_of operands In) (needs_first operands In (Kinds ∷ []) lacking) ∙ one_given (value_of operands In)) refl
rows command.Parts operands lacking = both _ _ (needed (value_of operands In) (needs_first operands In (Count ∷ Token ∷ []) lacking) ∙ one_given (value_of operands In)) refl
rows command.Part operands lacking = both _ _
    (ap (λ (names : List (List ℕ)). names ++ (option_to_list (value_of operands Resume) ++ option_to_list (value_of operands Until))) (needed (value_of operands In) (needs_first operands In (Cert ∷ []) lacking))
    ∙ three_given (value_of operands In) (value_of operands Resume) (value_of operands Until))
    (needed (value_of operands Cert) (needs_second operands In Cert [] lacking) ∙ one_given (value_of operands Cert))
rows command.Join operands lacking = both _ _
    (ap (λ (names : List (List ℕ)). names ++ names_in (unwrap_or (value_of operands Certs) [])) (needed (value_of operands In) (needs_first operands In (Certs ∷ []) lacking))
    ∙ ap (λ (names : List (List ℕ)). option_to_list (value_of operands In) ++ names) (needed_names (value_of operands Certs) (needs_second operands In Certs [] lacking))
    ∙ several_given (value_of operands In) (value_of operands Certs))
    refl
rows command.Trial operands lacking = refl

-- and those of the desk
pub desk_rows : DeskRowNamesFiles
desk_rows operands lacking = both _ _ (two_needed operands Script lacking) refl
