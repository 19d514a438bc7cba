-- Words that are read are the text of what they are read as.
use Rattle.std.proofs.Common.{◌≡◌, ℕ, ◌-◌, ◌^◌, ◌<◌, Bool, true, false, cond, eqb, List, [], ◌∷◌, map, find, codes, decimal, bytes_eq, Option, Some, None, option_map, option_and_then, Result, Ok, Err, ok_or, refl, sym, ap, subst, ◌∙◌, arith}
use Rattle.std.specs.Bool.{⊤}
use Rattle.std.specs.List.{AllByRecursion, join_with_byte}
use Rattle.std.proofs.lemmas.Bool.Decides.{nat_tests}
use Rattle.std.proofs.lemmas.Slice.Eq.{bytes_eq-Decides}
use Rattle.std.proofs.lemmas.List.Splits.{join_with_byte-slice_split}
use Rattle.rcc5_core.specs.declared.Rel.{Rel}
use Rattle.rcc5_core.specs.Relation.{all_rels, letter_of, with_letter}
use Rattle.proof_text.specs.declared.fault.LineTextFault.{LineTextFault}
use Rattle.proof_text.specs.declared.fault.LineTextFault.TheVariants.{BadLine, BadNumber}
use Rattle.proof_text.specs.Words.{words_of, spelled, switch_word, position_word}
use Rattle.proof_text.specs.Lines.{◌>>=◌, id_in, item_at, IsId}
use Rattle.proof_text.proofs.NumberLemmas.{number_in-spells}
use Rattle.proof_text.proofs.ItemLemmas.{item_at-ok, id-text}
use Rattle.proof_text.proofs.LineLemmas.{bind_ok, ok_same}
use Rattle.cert_text.specs.Lines.{taken, each_in, spelled_in, small_in, large_in, switch_at, relation_at, last_at, last_word, position_at, end_at, end_word, bit_with, bit_byte, bits_at, elements_at, elements_word, sets_of}
use Rattle.cert_text.proofs.WordLemmas.{AreSmall}

-- what is read by `at` has this text, and keeps P
abbrev pub Reads : {A : Type 0} → (List ℕ → Result A LineTextFault) → (A → List ℕ) → (A → Type 0) → Type 0
Reads {A} at text P = (word : List ℕ) (x : A) → at word ≡ Ok x → (word ≡ text x) × P x

-- the first of some words
pub taken-read : {A : Type 0} (at : List ℕ → Result A LineTextFault) (text : A → List ℕ) (P : A → Type 0) → Reads at text P → (words : List (List ℕ)) (y : A × List (List ℕ)) →
    taken at words ≡ Ok y → (words ≡ text y.0 ∷ y.1) × P y.0
taken-read {A} at text P reads [] y e = absurd (cc)
taken-read {A} at text P reads (word ∷ words) y e =
    let first = bind_ok (λ x. Ok (x, words)) (at word) y e in
    let word_is = reads word first.0 first.1 in
    subst (λ (y : A × List (List ℕ)). (word ∷ words ≡ text y.0 ∷ y.1) × P y.0) (ok_same (first.0, words) y first.2) (ap (λ w. w ∷ words) word_is.0, word_is.1)

pub small-read : Reads (item_at small_in) decimal (λ n. n < 2 ^ 32)
small-read word n e =
    let spells = number_in-spells 0 (2 ^ 32 - 1) n word (omega arith) (item_at-ok small_in word n e) in
    let below = spells.below in
    (spells.text, omega arith)

pub large-read : Reads (item_at large_in) decimal (λ n. n < 2 ^ 64)
large-read word n e =
    let spells = number_in-spells 0 (2 ^ 64 - 1) n word (omega arith) (item_at-ok large_in word n e) in
    let below = spells.below in
    (spells.text, omega arith)

pub clause-read : Reads (item_at id_in) decimal IsId
clause-read word id e = id-text id word (item_at-ok id_in word id e)

-- a word that passed a test for some bytes is those bytes
pub is_word : (word bytes : List ℕ) → bytes_eq word bytes ≡ true → word ≡ bytes
is_word word bytes e = (bytes_eq-Decides word bytes).0 e

switch-cases : (word : List ℕ) (on : Bool) (is_on is_off : Bool) → bytes_eq word (codes "on") ≡ is_on → bytes_eq word (codes "off") ≡ is_off →
    ◌≡◌ {A = Result Bool LineTextFault} (cond is_on (Ok true) (cond is_off (Ok false) (Err BadLine))) (Ok on) → word ≡ switch_word on
switch-cases word on true is_off a b e = is_word word (codes "on") a ∙ ap switch_word (ok_same true on e)
switch-cases word on false true a b e = is_word word (codes "off") b ∙ ap switch_word (ok_same false on e)
switch-cases word on false false a b e = absurd (cc)

pub switch-read : Reads switch_at switch_word (λ _. ⊤)
switch-read word on e = (switch-cases word on (bytes_eq word (codes "on")) (bytes_eq word (codes "off")) refl refl e, tt)

ok_or-ok : {A : Type 0} (o : Option A) (k : LineTextFault) (x : A) → ok_or o k ≡ Ok x → o ≡ Some x
ok_or-ok None k x e = absurd (cc)
ok_or-ok (Some y) k x e = ap Some (ok_same y x e)

some_same : {A : Type 0} (x y : A) → ◌≡◌ {A = Option A} (Some x) (Some y) → x ≡ y
some_same x y e = cc

find-cases : {X : Type 0} (test : X → Bool) (xs : List X) (y x : X) → (find test xs ≡ Some x → test x ≡ true) → (b : Bool) → test y ≡ b → cond b (Some y) (find test xs) ≡ Some x → test x ≡ true
find-cases test xs y x more true same e = subst (λ z. test z ≡ true) (some_same y x e) same
find-cases test xs y x more false same e = more e

-- what is found passes the test
pub find-passes : {X : Type 0} (test : X → Bool) (xs : List X) (x : X) → find test xs ≡ Some x → test x ≡ true
find-passes test [] x e = absurd (cc)
find-passes test (y ∷ ys) x e = find-cases test ys y x (find-passes test ys x) (test y) refl e

same_number : (a b : ℕ) → eqb a b ≡ true → b ≡ a
same_number a b h = grind (arith, nat_tests)

letter-read : (letter : ℕ) (rel : Rel) → with_letter letter ≡ Some rel → letter ≡ letter_of rel
letter-read letter rel e = same_number (letter_of rel) letter (find-passes (λ rel. eqb (letter_of rel) letter) all_rels rel e)

pub relation-read : Reads relation_at (λ rel. letter_of rel ∷ []) (λ _. ⊤)
relation-read [] rel e = absurd (cc)
relation-read (letter ∷ []) rel e = (ap (λ l. l ∷ []) (letter-read letter rel (ok_or-ok (with_letter letter) BadLine rel e)), tt)
relation-read (letter ∷ other ∷ others) rel e = absurd (cc)

last-cases : (word : List ℕ) (last : Option Rel) (root : Bool) → bytes_eq word (codes ".") ≡ root →
    cond root (Ok None) (relation_at word >>= λ rel. Ok (Some rel)) ≡ Ok last → word ≡ last_word last
last-cases word last true same e = is_word word (codes ".") same ∙ ap last_word (ok_same None last e)
last-cases word last false same e =
    let rel = bind_ok (λ rel. Ok (Some rel)) (relation_at word) last e in
    (relation-read word rel.0 rel.1).0 ∙ ap last_word (ok_same (Some rel.0) last rel.2)

pub last-read : Reads last_at last_word (λ _. ⊤)
last-read word last e = (last-cases word last (bytes_eq word (codes ".")) refl e, tt)

-- steps over options that gave something
and_then-some : {A B : Type 0} (f : A → Option B) (o : Option A) (y : B) → option_and_then f o ≡ Some y → (x : A) × (o ≡ Some x) × (f x ≡ Some y)
and_then-some f None y e = absurd (cc)
and_then-some f (Some x) y e = (x, refl, e)

map-some : {A B : Type 0} (f : A → B) (o : Option A) (y : B) → option_map f o ≡ Some y → (x : A) × (o ≡ Some x) × (f x ≡ y)
map-some f None y e = absurd (cc)
map-some f (Some x) y e = (x, refl, some_same (f x) y e)

-- members that are all read
each_in-read : {X A : Type 0} (one : X → Option A) (text : A → X) (P : A → Type 0) → ((w : X) (x : A) → one w ≡ Some x → (w ≡ text x) × P x) →
    (words : List X) (xs : List A) → each_in one words ≡ Some xs → (words ≡ map text xs) × AllByRecursion P xs
each_in-read one text P reads [] xs e = subst (λ xs. ([] ≡ map text xs) × AllByRecursion P xs) (some_same [] xs e) (refl, tt)
each_in-read one text P reads (w ∷ words) xs e =
    let first = and_then-some (λ a. option_map (λ others. a ∷ others) (each_in one words)) (one w) xs e in
    let rest = map-some (λ others. first.0 ∷ others) (each_in one words) xs first.2 in
    let word_is = reads w first.0 first.1 in
    let more = each_in-read one text P reads words rest.0 rest.1 in
    subst (λ xs. (w ∷ words ≡ map text xs) × AllByRecursion P xs) rest.2
    (ap (λ w. w ∷ words) word_is.0 ∙ ap (λ ws. text first.0 ∷ ws) more.0, (word_is.1, more.1))

-- a word of some bytes is the spelling of a list that has some members
spelled_some : {A : Type 0} (byte : A → ℕ) (first : ℕ) (others : List ℕ) (xs : List A) → first ∷ others ≡ map byte xs → first ∷ others ≡ spelled byte xs
spelled_some byte first others [] e = absurd (cc)
spelled_some byte first others (x ∷ xs) e = e

spelled-cases : {A : Type 0} (symbol : ℕ → Option A) (byte : A → ℕ) → ((c : ℕ) (x : A) → symbol c ≡ Some x → c ≡ byte x) → (first : ℕ) (others : List ℕ) (xs : List A) (b : Bool) →
    bytes_eq (first ∷ others) (codes ".") ≡ b → cond b (Some []) (each_in symbol (first ∷ others)) ≡ Some xs → first ∷ others ≡ spelled byte xs
spelled-cases symbol byte reads first others xs true same e = is_word (first ∷ others) (codes ".") same ∙ ap (spelled byte) (some_same [] xs e)
spelled-cases symbol byte reads first others xs false same e =
    spelled_some byte first others xs (each_in-read symbol byte (λ _. ⊤) (λ c x found. (reads c x found, tt)) (first ∷ others) xs e).0

spelled-read : {A : Type 0} (symbol : ℕ → Option A) (byte : A → ℕ) → ((c : ℕ) (x : A) → symbol c ≡ Some x → c ≡ byte x) →
    Reads (λ word. ok_or (spelled_in symbol word) BadLine) (spelled byte) (λ _. ⊤)
spelled-read symbol byte reads [] xs e = absurd (cc)
spelled-read symbol byte reads (first ∷ others) xs e =
    (spelled-cases symbol byte reads first others xs (bytes_eq (first ∷ others) (codes ".")) refl (ok_or-ok (spelled_in symbol (first ∷ others)) BadLine xs e), tt)

pub position-read : Reads position_at position_word (λ _. ⊤)
position-read word q e = spelled-read with_letter letter_of letter-read word q e

bit-cases : (byte : ℕ) (bit : Bool) (zero one : Bool) → eqb byte 48 ≡ zero → eqb byte 49 ≡ one → cond zero (Some false) (cond one (Some true) None) ≡ Some bit → byte ≡ bit_byte bit
bit-cases byte bit true one a b e = sym (same_number byte 48 a) ∙ ap bit_byte (some_same false bit e)
bit-cases byte bit false true a b e = sym (same_number byte 49 b) ∙ ap bit_byte (some_same true bit e)
bit-cases byte bit false false a b e = absurd (cc)

bit-read : (byte : ℕ) (bit : Bool) → bit_with byte ≡ Some bit → byte ≡ bit_byte bit
bit-read byte bit e = bit-cases byte bit (eqb byte 48) (eqb byte 49) refl refl e

pub bits-read : Reads bits_at (spelled bit_byte) (λ _. ⊤)
bits-read word bits e = spelled-read bit_with bit_byte bit-read word bits e

end-cases : (word : List ℕ) (to : Option (List Rel)) (last : Bool) → bytes_eq word (codes "-") ≡ last → cond last (Ok None) (position_at word >>= λ q. Ok (Some q)) ≡ Ok to → word ≡ end_word to
end-cases word to true same e = is_word word (codes "-") same ∙ ap end_word (ok_same None to e)
end-cases word to false same e =
    let q = bind_ok (λ q. Ok (Some q)) (position_at word) to e in
    (position-read word q.0 q.1).0 ∙ ap end_word (ok_same (Some q.0) to q.2)

pub end-read : Reads end_at end_word (λ _. ⊤)
end-read word to e = (end-cases word to (bytes_eq word (codes "-")) refl e, tt)

small_in-read : (word : List ℕ) (n : ℕ) → small_in word ≡ Some n → (word ≡ decimal n) × (n < 2 ^ 32)
small_in-read word n e =
    let spells = number_in-spells 0 (2 ^ 32 - 1) n word (omega arith) e in
    let below = spells.below in
    (spells.text, omega arith)

elements_some : (first : ℕ) (others xs : List ℕ) → first ∷ others ≡ join_with_byte 44 (map decimal xs) → first ∷ others ≡ elements_word xs
elements_some first others [] e = absurd (cc)
elements_some first others (x ∷ xs) e = e

elements-cases : (first : ℕ) (others xs : List ℕ) (b : Bool) → bytes_eq (first ∷ others) (codes "-") ≡ b →
    cond b (Ok []) (ok_or (each_in small_in (words_of 44 (first ∷ others))) BadNumber) ≡ Ok xs → (first ∷ others ≡ elements_word xs) × AreSmall xs
elements-cases first others xs true same e =
    subst (λ xs. (first ∷ others ≡ elements_word xs) × AreSmall xs) (ok_same [] xs e) (is_word (first ∷ others) (codes "-") same, tt)
elements-cases first others xs false same e =
    let found = ok_or-ok (each_in small_in (words_of 44 (first ∷ others))) BadNumber xs e in
    let read = each_in-read small_in decimal (λ x. x < 2 ^ 32) small_in-read (words_of 44 (first ∷ others)) xs found in
    (elements_some first others xs (sym (join_with_byte-slice_split 44 (first ∷ others)) ∙ ap (join_with_byte 44) read.0), read.1)

elements-read : Reads elements_at elements_word AreSmall
elements-read [] xs e = absurd (cc)
elements-read (first ∷ others) xs e = elements-cases first others xs (bytes_eq (first ∷ others) (codes "-")) refl e

pub sets-read : (words sets : List (List ℕ)) → sets_of words ≡ Ok sets → (words ≡ map elements_word sets) × AllByRecursion AreSmall sets
sets-read [] sets e = subst (λ sets. ([] ≡ map elements_word sets) × AllByRecursion AreSmall sets) (ok_same [] sets e) (refl, tt)
sets-read (word ∷ words) sets e =
    let first = bind_ok (λ set. sets_of words >>= λ others. Ok (set ∷ others)) (elements_at word) sets e in
    let rest = bind_ok (λ others. Ok (first.0 ∷ others)) (sets_of words) sets first.2 in
    let word_is = elements-read word first.0 first.1 in
    let more = sets-read words rest.0 rest.1 in
    subst (λ sets. (word ∷ words ≡ map elements_word sets) × AllByRecursion AreSmall sets) (ok_same (first.0 ∷ rest.0) sets rest.2)
    (ap (λ w. w ∷ words) word_is.0 ∙ ap (λ ws. elements_word first.0 ∷ ws) more.0, (word_is.1, more.1))
