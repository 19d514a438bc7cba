-- Literals by their codes, and what bits make true. Bits say of each variable whether it holds; a variable past their
-- end does not.
use Rattle.std.specs.Prelude.{ℕ, ◌+◌, ◌-◌, ◌*◌, ◌/◌, ◌%◌, ◌==◌, Bool, false, not, List, if◌then◌else◌, slice_index_or}
use Rattle.std.specs.List.{list_any, list_all}

-- the code of a variable's literal
abbrev pub literal_of : ℕ → Bool → ℕ
literal_of variable negative = 2 * variable + (if negative then 1 else 0)

-- the variable of a literal
abbrev pub variable_of : ℕ → ℕ
variable_of lit = lit / 2

-- whether a literal says that its variable does not hold
abbrev pub is_negative : ℕ → Bool
is_negative lit = lit % 2 == 1

-- the other literal of the same variable
unfoldable pub negation_of : ℕ → ℕ
negation_of lit = if is_negative lit then lit - 1 else lit + 1

-- whether bits make a literal true
unfoldable pub lit_true : List Bool → ℕ → Bool
lit_true bits lit =
    if is_negative lit then not (slice_index_or bits (variable_of lit) false) else slice_index_or bits (variable_of lit) false

-- whether bits make one of a clause's literals true
abbrev pub clause_true : List Bool → List ℕ → Bool
clause_true bits clause = list_any (lit_true bits) clause

-- whether bits make each clause true
abbrev pub meets_all : List Bool → List (List ℕ) → Bool
meets_all bits clauses = list_all (clause_true bits) clauses
