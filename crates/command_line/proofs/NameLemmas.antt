-- File names that operands give: those of two keys are not one, where no name is given again.
use Rattle.std.proofs.Common.{◌≡◌, ℕ, ◌+◌, ◌<◌, Bool, true, false, cond, ◌||◌, List, [], ◌∷◌, ◌++◌, length, drop, get_or, Option, None, Some, refl, sym, ap, subst, ◌∙◌}
use Rattle.std.specs.Prelude.{bytes_eq, find, option_map}
use Rattle.std.specs.List.{flat_map, list_any}
use Rattle.std.proofs.lemmas.Bool.{or_right}
use Rattle.std.proofs.lemmas.List.{drop_more}
use Rattle.std.proofs.lemmas.List.Folds.{list_any-append}
use Rattle.std.proofs.lemmas.Slice.Eq.{bytes_eq-Decides}
use Rattle.command_line.specs.declared.table.Key.{Key}
use Rattle.command_line.specs.declared.table.Key.TheVariants.{In, Cert, Nonempty, Sibling, Coverage, Nodes, Worlds, Token, Resume, Kinds, Seed, Size, Left, Right, Set, Count, Until, Certs, Script}
use Rattle.command_line.specs.declared.table.KeyKind.TheVariants.{FileName}
use Rattle.command_line.specs.declared.Operand.{Operand}
use Rattle.command_line.specs.Table.{key_name, kind_of, same_key}
use Rattle.command_line.specs.Words.{is_among, names_by, file_names, has_same_name, value_of}
use Rattle.command_line.specs.Requests.{AreApart}

-- the test of the operands from a place on: by the operand there, and those behind it
pub names_at : (operands : List Operand) (i : ℕ) (operand : Operand) → i < length operands → operand ≡ get_or operands i operand
    → has_same_name (drop i operands) ≡ (list_any (is_among (flat_map file_names (drop (i + 1) operands))) (file_names operand) || has_same_name (drop (i + 1) operands))
names_at operands i operand h at = ap has_same_name (drop_more operands i operand h ∙ ap (λ (o : Operand). o ∷ drop (i + 1) operands) (sym at))

-- all keys
abbrev all_keys : List Key
all_keys = In ∷ Cert ∷ Nonempty ∷ Sibling ∷ Coverage ∷ Nodes ∷ Worlds ∷ Token ∷ Resume ∷ Kinds ∷ Seed ∷ Size ∷ Left ∷ Right ∷ Set ∷ Count ∷ Until ∷ Certs ∷ Script ∷ []

-- each is found by how it is written
key_again : (key : Key) → find (λ other. bytes_eq (key_name key) (key_name other)) all_keys ≡ Some key
key_again In = refl
key_again Cert = refl
key_again Nonempty = refl
key_again Sibling = refl
key_again Coverage = refl
key_again Nodes = refl
key_again Worlds = refl
key_again Token = refl
key_again Resume = refl
key_again Kinds = refl
key_again Seed = refl
key_again Size = refl
key_again Left = refl
key_again Right = refl
key_again Set = refl
key_again Count = refl
key_again Until = refl
key_again Certs = refl
key_again Script = refl

some_key : (a b : Key) → Some a ≡ Some b → a ≡ b
some_key a b e = cc

-- keys that are written alike are one
pub same_key_is : (a b : Key) → same_key a b ≡ true → a ≡ b
same_key_is a b e =
    some_key a b
    (sym (key_again a)
    ∙ ap (λ name. find (λ other. bytes_eq name (key_name other)) all_keys) ((bytes_eq-Decides (key_name a) (key_name b)).0 e)
    ∙ key_again b)

pub or_false : (a b : Bool) → (a || b) ≡ false → (a ≡ false) × (b ≡ false)
or_false true b e = cc
or_false false b e = (refl, e)

some_value : (a b : List ℕ) → Some a ≡ Some b → a ≡ b
some_value a b e = cc

-- an operand of a file's key gives just its value
gives_one : (o : Operand) (key : Key) (value : List ℕ) → kind_of key ≡ FileName → same_key o.key key ≡ true → Some o.value ≡ Some value → file_names o ≡ value ∷ []
gives_one o key value kind same e =
    ap (λ k. names_by (kind_of k) o.value) (same_key_is o.key key same)
    ∙ ap (λ k. names_by k o.value) kind
    ∙ ap (λ (v : List ℕ). v ∷ []) (some_value o.value value e)

-- a name is among names, and among more
among_first : (names more : List (List ℕ)) (word : List ℕ) → is_among names word ≡ true → is_among (names ++ more) word ≡ true
among_first names more word e = list_any-append (bytes_eq word) names more ∙ ap (λ b. b || is_among more word) e

among_last : (names more : List (List ℕ)) (word : List ℕ) → is_among more word ≡ true → is_among (names ++ more) word ≡ true
among_last names more word e = list_any-append (bytes_eq word) names more ∙ or_right (is_among names word) (is_among more word) e

-- a name that a key gives is among those of all operands
given_among : (operands : List Operand) (key : Key) (value : List ℕ) → kind_of key ≡ FileName → value_of operands key ≡ Some value → is_among (flat_map file_names operands) value ≡ true
given_among [] key value kind e = cc
given_among (o ∷ os) key value kind e = by (same_key o.key key) refl (given_among os key value kind) e
  where
    by : (b : Bool) → same_key o.key key ≡ b → (value_of os key ≡ Some value → is_among (flat_map file_names os) value ≡ true)
        → option_map (λ operand. operand.value) (cond b (Some o) (find (λ operand. same_key operand.key key) os)) ≡ Some value → is_among (file_names o ++ flat_map file_names os) value ≡ true
    by true same rest h =
        among_first (file_names o) (flat_map file_names os) value
        (ap (λ names. is_among names value) (gives_one o key value kind same h) ∙ ap (λ b. b || false) ((bytes_eq-Decides value value).1 refl))
    by false other rest h = among_last (file_names o) (flat_map file_names os) value (rest h)

-- so it is not a name that the operand before gives
later_differs : (o : Operand) (os : List Operand) (key other : Key) (x y : List ℕ) → kind_of key ≡ FileName → kind_of other ≡ FileName
    → list_any (is_among (flat_map file_names os)) (file_names o) ≡ false → same_key o.key key ≡ true → Some o.value ≡ Some x → value_of os other ≡ Some y → x ≡ y → ⊥
later_differs o os key other x y kind kind' none same e later alike =
    let there = given_among os other y kind' later in
    let gives : file_names o ≡ y ∷ [] = gives_one o key x kind same e ∙ ap (λ (v : List ℕ). v ∷ []) alike in
    let lacks : list_any (is_among (flat_map file_names os)) (y ∷ []) ≡ false = subst (λ (names : List (List ℕ)). list_any (is_among (flat_map file_names os)) names ≡ false) gives none in
    let is : list_any (is_among (flat_map file_names os)) (y ∷ []) ≡ true = ap (λ b. b || false) there in
    cc

names_differ : (operands : List Operand) (a b : Key) (x y : List ℕ) → kind_of a ≡ FileName → kind_of b ≡ FileName → same_key a b ≡ false
    → has_same_name operands ≡ false → value_of operands a ≡ Some x → value_of operands b ≡ Some y → x ≡ y → ⊥
names_differ [] a b x y ka kb apart none ea eb = cc
names_differ (o ∷ os) a b x y ka kb apart none ea eb =
    let parts = or_false (list_any (is_among (flat_map file_names os)) (file_names o)) (has_same_name os) none in
    by (same_key o.key a) refl (same_key o.key b) refl parts.0 (names_differ os a b x y ka kb apart parts.1) ea eb
  where
    by : (p : Bool) → same_key o.key a ≡ p → (q : Bool) → same_key o.key b ≡ q → list_any (is_among (flat_map file_names os)) (file_names o) ≡ false
        → (value_of os a ≡ Some x → value_of os b ≡ Some y → x ≡ y → ⊥)
        → option_map (λ operand. operand.value) (cond p (Some o) (find (λ operand. same_key operand.key a) os)) ≡ Some x
        → option_map (λ operand. operand.value) (cond q (Some o) (find (λ operand. same_key operand.key b) os)) ≡ Some y → x ≡ y → ⊥
    by true one true other first rest h g = let both = subst (λ (k : Key). same_key k b ≡ true) (same_key_is o.key a one) other in cc
    by true one false other first rest h g = later_differs o os a b x y ka kb first one h g
    by false one true other first rest h g = λ alike. later_differs o os b a y x kb ka first other g h (sym alike)
    by false one false other first rest h g = rest h g

-- what two keys name, where both are given, are two files
pub keys_apart : (operands : List Operand) (a b : Key) → kind_of a ≡ FileName → kind_of b ≡ FileName → same_key a b ≡ false → has_same_name operands ≡ false
    → AreApart (value_of operands a) (value_of operands b)
keys_apart operands a b ka kb apart none = by (value_of operands a) refl (value_of operands b) refl
  where
    by : (p : Option (List ℕ)) → value_of operands a ≡ p → (q : Option (List ℕ)) → value_of operands b ≡ q → AreApart p q
    by None e q f = tt
    by (Some x) e None f = tt
    by (Some x) e (Some y) f = names_differ operands a b x y ka kb apart none e f
