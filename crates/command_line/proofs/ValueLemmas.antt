-- What is known of the values of words that are a request.
use Rattle.std.proofs.Common.{◌≡◌, ℕ, ◌<◌, ◌≤◌, ◌%◌, ◌^◌, nat_eq, Bool, true, false, cond, List, [], ◌∷◌, ◌++◌, Option, None, Some, IfSome, Result, Ok, Err, refl, subst, arith}
use Rattle.std.specs.Prelude.{find, option_map, option_and_then, unwrap_or}
use Rattle.std.proofs.lemmas.Bool.{eqb-true}
use Rattle.proof_text.specs.Numbers.{number_in}
use Rattle.proof_text.proofs.NumberLemmas.{number_in-spells}
use Rattle.command_line.specs.declared.UsageKind.TheVariants.{BadNumber}
use Rattle.command_line.specs.declared.table.Key.{Key}
use Rattle.command_line.specs.declared.table.Key.TheVariants.{Kinds, Size, Count}
use Rattle.command_line.specs.declared.Operand.{Operand}
use Rattle.command_line.specs.declared.UsageKind.{UsageKind}
use Rattle.command_line.specs.Table.{Row, kind_of, same_key}
use Rattle.command_line.proofs.NameLemmas.{same_key_is}
use Rattle.command_line.specs.Words.{value_fault, need, and_then, fail_if, unless, key_in, cut_word, is_given, operand_of, operands_of, value_of, names_fault, kinds_of, number_fault, even_fault, size_in, count_in}

-- a value comes of each step
pub need_ok : {X Y : Type 0} (o : Option X) (kind : UsageKind) (further : X → Result Y UsageKind) (y : Y) → need o kind further ≡ Ok y → (x : X) × (further x ≡ Ok y)
need_ok None kind further y e = cc
need_ok (Some x) kind further y e = (x, e)

pub and_ok : {X Y : Type 0} (r : Result X UsageKind) (further : X → Result Y UsageKind) (y : Y) → and_then r further ≡ Ok y → (x : X) × (r ≡ Ok x) × (further x ≡ Ok y)
and_ok (Ok x) further y e = (x, refl, e)
and_ok (Err kind) further y e = cc

pub fail_ok : {Y : Type 0} (test : Bool) (kind : UsageKind) (rest : Result Y UsageKind) (y : Y) → fail_if test kind rest ≡ Ok y → (test ≡ false) × (rest ≡ Ok y)
fail_ok true kind rest y e = cc
fail_ok false kind rest y e = (refl, e)

unless_ok : {Y : Type 0} (fault : Option UsageKind) (rest : Result Y UsageKind) (y : Y) → unless fault rest ≡ Ok y → (fault ≡ None) × (rest ≡ Ok y)
unless_ok None rest y e = (refl, e)
unless_ok (Some kind) rest y e = cc

-- good results that are one
abbrev Same : Operand → Operand → Type 0
Same a b = ◌≡◌ {A = Result Operand UsageKind} (Ok a) (Ok b)

abbrev SameAll : List Operand → List Operand → Type 0
SameAll a b = ◌≡◌ {A = Result (List Operand) UsageKind} (Ok a) (Ok b)

same_all : (a b : List Operand) → SameAll a b → a ≡ b
same_all a b e = cc

some_same : (a b : Operand) → Some a ≡ Some b → a ≡ b
some_same a b e = cc

-- an operand's value has no fault
abbrev pub IsValued : List (List ℕ) → Operand → Type 0
IsValued known operand = value_fault known (kind_of operand.key) operand.value ≡ None

abbrev pub AreValued : List (List ℕ) → List Operand → Type 0
AreValued known [] = Unit {0}
AreValued known (operand ∷ operands) = IsValued known operand × AreValued known operands

valued_more : (known : List (List ℕ)) (operands : List Operand) (operand : Operand) → AreValued known operands → IsValued known operand → AreValued known (operands ++ operand ∷ [])
valued_more known [] operand valued one = (one, tt)
valued_more known (o ∷ os) operand valued one = (valued.0, valued_more known os operand valued.1 one)

operand_valued : (known : List (List ℕ)) (row : Row) (earlier : List Operand) (word : List ℕ) (operand : Operand) → operand_of known row earlier word ≡ Ok operand → IsValued known operand
operand_valued known row earlier word operand e =
    let cut = need_ok (cut_word word) _ _ operand e in
    let key = need_ok (key_in row cut.0.0) _ _ operand cut.1 in
    let once = fail_ok (is_given earlier key.0) _ _ operand key.1 in
    let valued = unless_ok (value_fault known (kind_of key.0) cut.0.1) _ operand once.1 in
    by (record { key = key.0; value = cut.0.1 }) operand valued.0 valued.1
  where
    by : (made operand : Operand) → IsValued known made → Same made operand → IsValued known operand
    by made operand valued same = cc

pub operands_valued : (known : List (List ℕ)) (row : Row) (earlier : List Operand) (words : List (List ℕ)) (operands : List Operand) → AreValued known earlier
    → operands_of known row earlier words ≡ Ok operands → AreValued known operands
operands_valued known row earlier [] operands valued e = by earlier operands valued e
  where
    by : (some all : List Operand) → AreValued known some → SameAll some all → AreValued known all
    by some all valued same = subst (AreValued known) (same_all some all same) valued
operands_valued known row earlier (word ∷ words) operands valued e =
    let one = and_ok (operand_of known row earlier word) _ operands e in
    operands_valued known row (earlier ++ one.0 ∷ []) words operands (valued_more known earlier one.0 valued (operand_valued known row earlier word one.0 one.1)) one.2

-- so of the value that a key has
found_valued : (known : List (List ℕ)) (key : Key) (operands : List Operand) (operand : Operand) → AreValued known operands
    → find (λ o. same_key o.key key) operands ≡ Some operand → IsValued known operand × (same_key operand.key key ≡ true)
found_valued known key [] operand valued e = cc
found_valued known key (o ∷ os) operand valued e = by (same_key o.key key) refl (found_valued known key os operand valued.1) e
  where
    by : (b : Bool) → same_key o.key key ≡ b → (find (λ o. same_key o.key key) os ≡ Some operand → IsValued known operand × (same_key operand.key key ≡ true))
        → cond b (Some o) (find (λ o. same_key o.key key) os) ≡ Some operand → IsValued known operand × (same_key operand.key key ≡ true)
    by true at rest same = here o operand valued.0 at same
      where
        here : (a b : Operand) → IsValued known a → same_key a.key key ≡ true → Some a ≡ Some b → IsValued known b × (same_key b.key key ≡ true)
        here a b one two same = subst (λ (o : Operand). IsValued known o × (same_key o.key key ≡ true)) (some_same a b same) (one, two)
    by false at rest same = rest same

-- the value of a key that is given has no fault
given_valued : (known : List (List ℕ)) (operands : List Operand) (key : Key) (o : Option Operand) → AreValued known operands → find (λ o. same_key o.key key) operands ≡ o
    → (option_map (λ o. o.value) o ≡ None → ⊥) → value_fault known (kind_of key) (unwrap_or (option_map (λ o. o.value) o) []) ≡ None
given_valued known operands key None valued found given = absurd (given refl)
given_valued known operands key (Some o) valued found given =
    let one = found_valued known key operands o valued found in
    subst (λ (k : Key). value_fault known (kind_of k) o.value ≡ None) (same_key_is o.key key one.1) one.0

key_valued : (known : List (List ℕ)) (operands : List Operand) (key : Key) → AreValued known operands → (value_of operands key ≡ None → ⊥)
    → value_fault known (kind_of key) (unwrap_or (value_of operands key) []) ≡ None
key_valued known operands key valued given = given_valued known operands key (find (λ o. same_key o.key key) operands) valued refl given

-- so the names of reports have none
pub kinds_valued : (known : List (List ℕ)) (operands : List Operand) → AreValued known operands → (value_of operands Kinds ≡ None → ⊥) → names_fault known (kinds_of operands) ≡ None
kinds_valued known operands valued given = key_valued known operands Kinds valued given

-- what is read of a value that is given is read of the value itself
of_given : (fault : Option ℕ → Option UsageKind) (read : List ℕ → Option ℕ) (o : Option (List ℕ)) → (o ≡ None → ⊥) → fault (read (unwrap_or o [])) ≡ None → fault (option_and_then read o) ≡ None
of_given fault read None given none = absurd (given refl)
of_given fault read (Some word) given none = none

-- a number that is read is in its range
in_range : (low high : ℕ) (o : Option (List ℕ)) → high < 2 ^ 64 → IfSome (option_and_then (number_in low high) o) (λ n. (low ≤ n) × (n ≤ high))
in_range low high None below = tt
in_range low high (Some word) below = by (number_in low high word) refl
  where
    by : (o : Option ℕ) → number_in low high word ≡ o → IfSome o (λ n. (low ≤ n) × (n ≤ high))
    by None e = tt
    by (Some n) e = let spells = number_in-spells low high n word below e in (spells.above, spells.below)

-- a size without a fault is one
sized : (o : Option ℕ) → IfSome o (λ n. (14 ≤ n) × (n ≤ 256)) → even_fault o ≡ None → (unwrap_or o 0 % 2 ≡ 0) × (14 ≤ unwrap_or o 0) × (unwrap_or o 0 ≤ 256)
sized None within e = cc
sized (Some n) within e = (by (nat_eq (n % 2) 0) refl e, within.0, within.1)
  where
    by : (b : Bool) → nat_eq (n % 2) 0 ≡ b → cond b None (Some BadNumber) ≡ None → n % 2 ≡ 0
    by true same e = eqb-true (n % 2) 0 same
    by false same e = cc

pub size_valued : (known : List (List ℕ)) (operands : List Operand) → AreValued known operands → (value_of operands Size ≡ None → ⊥)
    → (size_in operands % 2 ≡ 0) × (14 ≤ size_in operands) × (size_in operands ≤ 256)
size_valued known operands valued given =
    sized (option_and_then (number_in 14 256) (value_of operands Size)) (in_range 14 256 (value_of operands Size) (omega arith))
    (of_given even_fault (number_in 14 256) (value_of operands Size) given (key_valued known operands Size valued given))

-- and so is a number of parts
counted : (o : Option ℕ) → IfSome o (λ n. (1 ≤ n) × (n ≤ 1000)) → number_fault o ≡ None → (1 ≤ unwrap_or o 0) × (unwrap_or o 0 ≤ 1000)
counted None within e = cc
counted (Some n) within e = within

pub count_valued : (known : List (List ℕ)) (operands : List Operand) → AreValued known operands → (value_of operands Count ≡ None → ⊥)
    → (1 ≤ count_in operands) × (count_in operands ≤ 1000)
count_valued known operands valued given =
    counted (option_and_then (number_in 1 1000) (value_of operands Count)) (in_range 1 1000 (value_of operands Count) (omega arith))
    (of_given number_fault (number_in 1 1000) (value_of operands Count) given (key_valued known operands Count valued given))
