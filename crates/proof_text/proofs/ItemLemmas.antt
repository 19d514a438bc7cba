-- Ids and literals as words: each is read back from its word, and from no other.
use Rattle.std.proofs.Common.{◌≡◌, ◌≢◌, ℕ, ◌+◌, ◌-◌, ◌^◌, ◌<◌, Bool, true, false, ◌||◌, cond, eqb, List, [], ◌∷◌, ◌++◌, length, get_or, codes, decimal, bytes_eq, Option, Some, None, option_map, Ok, ok_or, refl, sym, ap, subst, ◌∙◌, arith}
use Rattle.std.proofs.lemmas.Bool.Decides.{nat_tests}
use Rattle.std.proofs.lemmas.Fmt.{first_decimal}
use Rattle.std.proofs.lemmas.Slice.Eq.{bytes_eq-Decides}
use Rattle.lits_core.specs.Literals.{literal_of, variable_of, is_negative}
use Rattle.proof_text.specs.declared.fault.LineTextFault.{LineTextFault}
use Rattle.proof_text.specs.declared.fault.LineTextFault.TheVariants.{BadNumber}
use Rattle.proof_text.specs.Numbers.{number_in}
use Rattle.proof_text.specs.Lines.{zero_word, id_in, literal_from, literal_in, literal_text, item_at, IsId}
use Rattle.proof_text.specs.Laws.{has_byte}
use Rattle.proof_text.proofs.NumberLemmas.{number_in-decimal, number_in-spells, decimal-nonempty, decimal-no_byte}
use Rattle.lits_core.proofs.LiteralLemmas.{variable_of-literal_of, is_negative-literal_of}

-- a word of an item: the item is read from it, it has no space and no LF, and it isn't the one that ends a list
pub record IsWordOf (item : List ℕ → Option ℕ) (x : ℕ) (word : List ℕ) : Type 0 where
  pub read : item_at item word ≡ Ok x
  pub clean : (byte : ℕ) → byte < 45 → has_byte byte word ≡ false
  pub other : bytes_eq word zero_word ≡ false

pub item_at-some : (item : List ℕ → Option ℕ) (word : List ℕ) (x : ℕ) → 0 < length word → item word ≡ Some x → item_at item word ≡ Ok x
item_at-some item [] x some e = absurd (omega arith)
item_at-some item (first ∷ others) x some e = ap (λ o. ok_or o BadNumber) e

ok_or-ok : (o : Option ℕ) (x : ℕ) → ok_or {E = LineTextFault} o BadNumber ≡ Ok x → o ≡ Some x
ok_or-ok None x e = absurd (cc)
ok_or-ok (Some y) x e = cc

-- what is read as an item is the item that the word spells
pub item_at-ok : (item : List ℕ → Option ℕ) (word : List ℕ) (x : ℕ) → item_at item word ≡ Ok x → item word ≡ Some x
item_at-ok item [] x e = absurd (cc)
item_at-ok item (first ∷ others) x e = ok_or-ok (item (first ∷ others)) x e

not_true : (word : List ℕ) (b : Bool) → bytes_eq word zero_word ≡ b → get_or word 0 0 ≢ 48 → bytes_eq word zero_word ≡ false
not_true word true e h = absurd (h (ap (λ w. get_or w 0 0) ((bytes_eq-Decides word zero_word).0 e)))
not_true word false e h = e

not_zero_word : (word : List ℕ) → get_or word 0 0 ≢ 48 → bytes_eq word zero_word ≡ false
not_zero_word word h = not_true word (bytes_eq word zero_word) refl h

pub id-word : (id : ℕ) → IsId id → IsWordOf id_in id (decimal id)
id-word id h = record {
  read = item_at-some id_in (decimal id) id (decimal-nonempty id h.1) (number_in-decimal 1 (2 ^ 64 - 1) id h.1 h.0 (omega arith));
  clean = λ byte low. decimal-no_byte id byte h.1 (omega arith);
  other = not_zero_word (decimal id) (λ e. absurd (omega (arith, first_decimal id h.0 h.1)));
}

-- an id is read from its digits alone
pub id-text : (id : ℕ) (word : List ℕ) → id_in word ≡ Some id → (word ≡ decimal id) × IsId id
id-text id word e =
    let spells = number_in-spells 1 (2 ^ 64 - 1) id word (omega arith) e in
    (spells.text, (spells.above, omega arith))

-- a literal is the one of its variable with its sign
literal_of-parts : (lit : ℕ) → literal_of (variable_of lit) (is_negative lit) ≡ lit
literal_of-parts lit = grind (arith, nat_tests)

-- the literal of a sign, from its variable's digits
literal_from-decimal : (lit : ℕ) (negative : Bool) → lit < 2 ^ 32 → is_negative lit ≡ negative → literal_from negative (decimal (variable_of lit + 1)) ≡ Some lit
literal_from-decimal lit negative h e =
    ap (option_map (λ n. literal_of (n - 1) negative)) (number_in-decimal 1 (2 ^ 31) (variable_of lit + 1) (omega arith) (omega arith) (omega arith))
    ∙ ap (λ v. Some (literal_of v negative)) (less_one (variable_of lit)) ∙ ap (λ b. Some (literal_of (variable_of lit) b)) (sym e) ∙ ap Some (literal_of-parts lit)
  where
    less_one : (v : ℕ) → (v + 1) - 1 ≡ v
    less_one v = omega arith

-- digits are no sign
literal_in-digits : (word : List ℕ) → 48 < get_or word 0 0 → literal_in word ≡ literal_from false word
unfolding literal_in
literal_in-digits [] h = absurd (omega arith)
literal_in-digits (first ∷ others) h = ap (λ b. cond b (literal_from true others) (literal_from false (first ∷ others))) (digit_other first h)
  where
    digit_other : (c : ℕ) → 48 < c → eqb c 45 ≡ false
    digit_other c h = grind (arith, nat_tests)

sign_other : (byte : ℕ) → byte < 45 → eqb 45 byte ≡ false
sign_other byte low = grind (arith, nat_tests)

-- the word of a literal, by its sign
signed_text : ℕ → Bool → List ℕ
signed_text lit negative = (cond negative (codes "-") []) ++ decimal (variable_of lit + 1)

signed-word : (lit : ℕ) (negative : Bool) → lit < 2 ^ 32 → is_negative lit ≡ negative → IsWordOf literal_in lit (signed_text lit negative)
unfolding signed_text literal_in
signed-word lit true h e = record {
  read = literal_from-read (literal_from-decimal lit true h e);
  clean = λ byte low. ap (λ b. b || has_byte byte (decimal (variable_of lit + 1))) (sign_other byte low) ∙ decimal-no_byte (variable_of lit + 1) byte (omega arith) (omega arith);
  other = refl;
}
  where
    literal_from-read : {o : Option ℕ} → o ≡ Some lit → ok_or {E = LineTextFault} o BadNumber ≡ Ok lit
    literal_from-read e = ap (λ o. ok_or o BadNumber) e
signed-word lit false h e =
    let digits = decimal (variable_of lit + 1) in
    let first = first_decimal (variable_of lit + 1) (omega arith) (omega arith) in
    record {
      read = item_at-some literal_in digits lit (decimal-nonempty (variable_of lit + 1) (omega arith)) (literal_in-digits digits first ∙ literal_from-decimal lit false h e);
      clean = λ byte low. decimal-no_byte (variable_of lit + 1) byte (omega arith) (omega arith);
      other = not_zero_word digits (λ e. absurd (omega (arith, first)));
    }

pub literal-word : (lit : ℕ) → lit < 2 ^ 32 → IsWordOf literal_in lit (literal_text lit)
unfolding literal_text signed_text
literal-word lit h = signed-word lit (is_negative lit) h refl

literal_of-small : (variable : ℕ) (negative : Bool) → variable < 2 ^ 31 → literal_of variable negative < 2 ^ 32
literal_of-small variable true h = omega arith
literal_of-small variable false h = omega arith

-- a mapped option has a value where the option has one
option_map-some : (f : ℕ → ℕ) (o : Option ℕ) (y : ℕ) → option_map f o ≡ Some y → (x : ℕ) × (o ≡ Some x) × (f x ≡ y)
option_map-some f None y e = absurd (cc)
option_map-some f (Some x) y e = (x, refl, cc)

-- the digits of a literal's variable are read from the literal's word alone
literal_from-text : (lit : ℕ) (negative : Bool) (digits : List ℕ) → literal_from negative digits ≡ Some lit →
    (digits ≡ decimal (variable_of lit + 1)) × (is_negative lit ≡ negative) × (lit < 2 ^ 32)
literal_from-text lit negative digits e =
    let found = option_map-some (λ n. literal_of (n - 1) negative) (number_in 1 (2 ^ 31) digits) lit e in
    let n = found.0 in
    let spells = number_in-spells 1 (2 ^ 31) n digits (omega arith) found.1 in
    let above = spells.above in
    let below = spells.below in
    let variable : variable_of lit ≡ n - 1 = ap variable_of (sym found.2) ∙ variable_of-literal_of (n - 1) negative in
    let number : n ≡ variable_of lit + 1 = omega arith in
    (spells.text ∙ ap decimal number, ap is_negative (sym found.2) ∙ is_negative-literal_of (n - 1) negative, subst (λ l. l < 2 ^ 32) found.2 (literal_of-small (n - 1) negative (omega arith)))

literal-cases : (lit first : ℕ) (others : List ℕ) (b : Bool) → eqb first 45 ≡ b → cond b (literal_from true others) (literal_from false (first ∷ others)) ≡ Some lit →
    (first ∷ others ≡ signed_text lit (is_negative lit)) × (lit < 2 ^ 32)
unfolding signed_text
literal-cases lit first others true same e =
    let found = literal_from-text lit true others e in
    let sign : first ≡ 45 = grind (arith, nat_tests) in
    (ap (λ c. c ∷ others) sign ∙ ap (λ digits. 45 ∷ digits) found.0 ∙ ap (λ b. cond b (codes "-") [] ++ decimal (variable_of lit + 1)) (sym found.1), found.2)
literal-cases lit first others false same e =
    let found = literal_from-text lit false (first ∷ others) e in
    (found.0 ∙ ap (λ b. cond b (codes "-") [] ++ decimal (variable_of lit + 1)) (sym found.1), found.2)

-- a literal is read from its word alone
pub literal-text : (lit : ℕ) (word : List ℕ) → literal_in word ≡ Some lit → (word ≡ literal_text lit) × (lit < 2 ^ 32)
unfolding literal_in literal_text signed_text
literal-text lit [] e = absurd (cc)
literal-text lit (first ∷ others) e = literal-cases lit first others (eqb first 45) refl e
