-- What is known of negations and of the truth of literals, so that no proof above divides by two.
use Rattle.std.proofs.Common.{◌≡◌, ℕ, ◌*◌, ◌<◌, ◌≢◌, ◌⊎◌, Bool, true, false, not, cond, List, get_or, refl, sym, ap, ◌∙◌, arith}
use Rattle.std.proofs.lemmas.Bool.Decides.{nat_tests}
use Rattle.lits_core.specs.Literals.{literal_of, variable_of, is_negative, negation_of, lit_true}

-- the literal of a variable has that variable and that sign
pub variable_of-literal_of : (variable : ℕ) (negative : Bool) → variable_of (literal_of variable negative) ≡ variable
variable_of-literal_of variable true = omega arith
variable_of-literal_of variable false = omega arith

pub is_negative-literal_of : (variable : ℕ) (negative : Bool) → is_negative (literal_of variable negative) ≡ negative
is_negative-literal_of variable true = grind (arith, nat_tests)
is_negative-literal_of variable false = grind (arith, nat_tests)

-- a negation has the same variable and the other sign, and is another literal
pub variable_of-negation : (lit : ℕ) → variable_of (negation_of lit) ≡ variable_of lit
unfolding negation_of
variable_of-negation lit = grind (arith, nat_tests)

pub is_negative-negation : (lit : ℕ) → is_negative (negation_of lit) ≡ not (is_negative lit)
unfolding negation_of
is_negative-negation lit = grind (arith, nat_tests)

pub negation-other : (lit : ℕ) → negation_of lit ≢ lit
unfolding negation_of
negation-other lit e = grind (arith, nat_tests)

-- negating twice gives the literal back
pub negation-negation : (lit : ℕ) → negation_of (negation_of lit) ≡ lit
unfolding negation_of
negation-negation lit = grind (arith, nat_tests)

-- literals with one negation are one
pub negation-injective : (a b : ℕ) → negation_of a ≡ negation_of b → a ≡ b
negation-injective a b e = sym (negation-negation a) ∙ ap negation_of e ∙ negation-negation b

-- the negation of a literal of the first variables is one of theirs
pub negation-below : (lit count : ℕ) → lit < 2 * count → negation_of lit < 2 * count
unfolding negation_of
negation-below lit count h = grind (arith, nat_tests)

-- two literals of one variable are equal, or negations of each other
pub same_variable : (a b : ℕ) → variable_of a ≡ variable_of b → (a ≡ b) ⊎ (a ≡ negation_of b)
unfolding negation_of
same_variable a b e = grind (arith, nat_tests)

-- a bit and its negation, by two signs that differ
two_signs : (bit negative : Bool) → cond (not negative) (not bit) bit ≡ not (cond negative (not bit) bit)
two_signs true true = refl
two_signs true false = refl
two_signs false true = refl
two_signs false false = refl

-- the truth of a literal by its variable and sign
truth_by : (bits : List Bool) (a b : ℕ) (s t : Bool) → a ≡ b → s ≡ not t → cond s (not (get_or bits a false)) (get_or bits a false) ≡ not (cond t (not (get_or bits b false)) (get_or bits b false))
truth_by bits a b s t same other = rw (same, other) (two_signs (get_or bits b false) t)

-- bits make exactly one of a literal and its negation true
pub lit_true-negation : (bits : List Bool) (lit : ℕ) → lit_true bits (negation_of lit) ≡ not (lit_true bits lit)
unfolding lit_true
lit_true-negation bits lit =
    truth_by bits _ (variable_of lit) _ (is_negative lit) (variable_of-negation lit) (is_negative-negation lit)
