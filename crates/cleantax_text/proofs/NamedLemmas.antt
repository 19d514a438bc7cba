-- Which names a text gives: words without blanks, brackets and hashes, of UTF-8.
use Rattle.std.proofs.Common.{◌≡◌, ◌≢◌, ◌+◌, ◌-◌, ◌<◌, ◌==◌, ◌||◌, ℕ, Bool, true, false, not, List, [], ◌∷◌, ◌++◌, Option, None, Some, Result, Ok, Err, length, get_or, All, AllPairs, refl, sym, ap, subst, ◌∙◌, inl, inr, arith, append_assoc, IsUtf8}
use Rattle.std.specs.Prelude.{option_map, if◌then◌else◌, nat_le, bytes_eq, codes, ◌&&◌}
use Rattle.std.specs.List.{list_all, list_any, AllByRecursion, position_or_len, before_first}
use Rattle.std.proofs.lemmas.Bool.{and_parts, and_from, or_cases, eqb-true, true≢false}
use Rattle.std.proofs.lemmas.List.{append-nil, get_or-take, length-take}
use Rattle.std.proofs.lemmas.List.Sums.{list_all-from_AllPass, prefix_len_passes}
use Rattle.std.proofs.lemmas.List.Folds.{list_all-append, list_any_at}
use Rattle.std.proofs.lemmas.List.Elements.{All-nil, All-push, All-set, All-get_or}
use Rattle.std.proofs.lemmas.List.Quantifiers.{all_pairs_push}
use Rattle.std.proofs.lemmas.Slice.Eq.{bytes_eq-Decides}
use Rattle.taxon_tree.specs.Trees.{Trees, no_trees}
use Rattle.taxon_tree.specs.Row.{with_name, with_link, place_of, add_child, add_children, add_row}
use Rattle.taxon_tree.proofs.RowLemmas.{with_name-Ok, with_link-Ok, and_then-Ok}
use Rattle.world_model.specs.declared.Articulation.{Articulation}
use Rattle.world_model.specs.declared.Articulation.TheVariants.{Sum}
use Rattle.cleantax_text.specs.declared.TextKind.{TextKind}
use Rattle.text_words.specs.Tokens.{Token, Bracket, Word, ended, is_hash, is_blank, is_bracket, without_return, bare, tokens_after, tokens_of}
use Rattle.text_words.specs.Words.{is_name, is_taxonomy_name, reference_of, references_of, set_of_words}
use Rattle.cleantax_text.specs.Forms.{Form, Blank, TaxonomyLine, ArticulationLine, RowLine, PairEntry, SumEntry, NoForm, words_to, taxonomy_form, row_form, sum_form, braces_form, right_form, entry_form, bracket_form, form_of}
use Rattle.text_words.specs.Views.{ends_word}
use Rattle.cleantax_text.specs.Kept.{IsKept}
use Rattle.constraint_set.specs.Facts.{all_different}
use Rattle.cleantax_text.specs.Reading.{Reading, InArticulations, nothing_read, fail_if, in_taxonomy, in_articulations, concept_number, concept_numbers, with_taxonomy, concepts_before, last_number, last_forest, with_forest, with_articulation, pair_of, after_row, after_pair, after_sum, after_form, after_line, after_lines, and_then}
use Rattle.cleantax_text.proofs.KeptLemmas.{fail_if-Ok, need-Ok, with_forest-Ok, not_true, kept_line, kept_nothing}
use Rattle.cleantax_text.proofs.CutLemmas.{before_cut, after_cut, bare_utf8}

-- a byte that is no hash; one that may stand in a word
abbrev pub is_plain : ℕ → Bool
is_plain b = not (is_hash b)

abbrev pub is_word_byte : ℕ → Bool
is_word_byte b = is_plain b && not (ends_word b)

pub record IsClean (word : List ℕ) : Type 0 where
  pub bytes : list_all is_word_byte word ≡ true
  pub utf8 : IsUtf8 word

-- a name of a concept, and of a taxonomy, as a text gives it
pub record IsConceptName (word : List ℕ) : Type 0 where
  pub clean : IsClean word
  pub name : is_name word ≡ true

pub record IsTaxonomyName (word : List ℕ) : Type 0 where
  pub clean : IsClean word
  pub name : is_taxonomy_name word ≡ true

-- all words among tokens
abbrev WordsHold : (List ℕ → Type 0) → List Token → Type 0
WordsHold P [] = Unit {0}
WordsHold P (Bracket b ∷ tokens) = WordsHold P tokens
WordsHold P (Word word ∷ tokens) = P word × WordsHold P tokens

pub blank_low : (b : ℕ) → is_blank b ≡ true → b < 128
blank_low b e = elim (or_cases (b == 32) (b == 9) e) [
  | inl at ↦ let is = eqb-true b 32 at in omega arith
  | inr at ↦ let is = eqb-true b 9 at in omega arith
]

bracket_among : (b : ℕ) (cs : List ℕ) → AllByRecursion (λ c. c < 128) cs → list_any (λ c. b == c) cs ≡ true → b < 128
bracket_among b [] h e = absurd (true≢false (sym e))
bracket_among b (c ∷ cs) h e = elim (or_cases (b == c) (list_any (λ c. b == c) cs) e) [
  | inl at ↦ let is = eqb-true b c at in let small : c < 128 = h.0 in omega arith
  | inr later ↦ bracket_among b cs h.1 later
]

pub bracket_low : (b : ℕ) → is_bracket b ≡ true → b < 128
bracket_low b e = bracket_among b (codes "()[]{}") (omega arith, (omega arith, (omega arith, (omega arith, (omega arith, (omega arith, tt)))))) e

ended_alone : (word : List ℕ) → IsClean word → WordsHold IsClean (ended word)
ended_alone [] c = tt
ended_alone (b ∷ bs) c = (c, tt)

ended_before : (word : List ℕ) (tokens : List Token) → IsClean word → WordsHold IsClean tokens → WordsHold IsClean (ended word ++ tokens)
ended_before [] tokens c h = h
ended_before (b ∷ bs) tokens c h = (c, h)

word_byte : (b : ℕ) → is_plain b ≡ true → is_blank b ≡ false → is_bracket b ≡ false → is_word_byte b ≡ true
word_byte b plain blank bracket = by (is_plain b) (is_blank b) (is_bracket b) plain blank bracket
  where
    by : (p q r : Bool) → p ≡ true → q ≡ false → r ≡ false → (p && not (q || r)) ≡ true
    by p q r e f g = rw (e, f, g) refl

clean_tokens : (word line : List ℕ) → list_all is_word_byte word ≡ true → list_all is_plain line ≡ true → IsUtf8 (word ++ line) → WordsHold IsClean (tokens_after word line)
clean_tokens word [] w l u = ended_alone word (record { bytes = w; utf8 = subst IsUtf8 (append-nil word) u })
clean_tokens word (b ∷ bs) w l u =
    let plain = and_parts (is_plain b) (list_all is_plain bs) l in
    by plain.0 (λ v. clean_tokens [] bs refl plain.1 v) (λ x v. clean_tokens (word ++ b ∷ []) bs x plain.1 v) (is_blank b) refl (is_bracket b) refl
  where
    cut : b < 128 → IsClean word
    cut small = record { bytes = w; utf8 = before_cut word b bs small u }

    by : is_plain b ≡ true → (IsUtf8 bs → WordsHold IsClean (tokens_after [] bs))
        → (list_all is_word_byte (word ++ b ∷ []) ≡ true → IsUtf8 ((word ++ b ∷ []) ++ bs) → WordsHold IsClean (tokens_after (word ++ b ∷ []) bs))
        → (p : Bool) → is_blank b ≡ p → (q : Bool) → is_bracket b ≡ q → WordsHold IsClean (tokens_after word (b ∷ bs))
    by plain rest more true e q f = rw e (ended_before word (tokens_after [] bs) (cut (blank_low b e)) (rest (after_cut word b bs (blank_low b e) u)))
    by plain rest more false e true f = rw (e, f) (ended_before word (Bracket b ∷ tokens_after [] bs) (cut (bracket_low b f)) (rest (after_cut word b bs (bracket_low b f) u)))
    by plain rest more false e false f =
        rw (e, f) (more
        (list_all-append is_word_byte word (b ∷ []) ∙ and_from _ _ w (and_from _ _ (word_byte b plain e f) refl))
        (subst IsUtf8 (sym (append_assoc word (b ∷ []) bs)) u))

no_hash : (xs : List ℕ) → list_all is_plain (before_first is_hash xs) ≡ true
no_hash xs = list_all-from_AllPass is_plain (before_first is_hash xs) (λ k d lt.
    let n = position_or_len is_hash xs in
    let within : k < n = omega (arith, length-take n xs) in
    subst (λ b. is_plain b ≡ true) (sym (get_or-take n xs k d within)) (prefix_len_passes is_plain xs k d within))

-- the words of a line
pub line_words : (line : List ℕ) → IsUtf8 line → WordsHold IsClean (tokens_of line)
line_words line u = clean_tokens [] (bare line) refl (no_hash (without_return line)) (bare_utf8 line u)

-- what holds of the words of a taxonomy line and of a row
abbrev FormHolds : (List ℕ → Type 0) → Form → Type 0
FormHolds P Blank = Unit {0}
FormHolds P (TaxonomyLine id) = P id
FormHolds P ArticulationLine = Unit {0}
FormHolds P (RowLine names) = AllByRecursion P names
FormHolds P (PairEntry left relation right) = Unit {0}
FormHolds P (SumEntry whole parts) = Unit {0}
FormHolds P NoForm = Unit {0}

abbrev SomeHold : (List ℕ → Type 0) → Option (List (List ℕ)) → Type 0
SomeHold P None = Unit {0}
SomeHold P (Some words) = AllByRecursion P words

module _ (P : List ℕ → Type 0) where
  hold_if : (b : Bool) (f g : Form) → FormHolds P f → FormHolds P g → FormHolds P (if b then f else g)
  hold_if true f g a b = a
  hold_if false f g a b = b

  hold_more : (word : List ℕ) (words : Option (List (List ℕ))) → P word → SomeHold P words → SomeHold P (option_map (λ ws. word ∷ ws) words)
  hold_more word None p h = tt
  hold_more word (Some ws) p h = (p, h)

  hold_end : (b : Bool) → SomeHold P (if b then Some [] else None)
  hold_end true = tt
  hold_end false = tt

  hold_words : (close : ℕ) (tokens : List Token) → WordsHold P tokens → SomeHold P (words_to close tokens)
  hold_words close [] h = tt
  hold_words close (Word word ∷ tokens) h = hold_more word (words_to close tokens) h.0 (hold_words close tokens h.1)
  hold_words close (Bracket b ∷ []) h = hold_end (b == close)
  hold_words close (Bracket b ∷ t ∷ ts) h = tt

  hold_row : (words : Option (List (List ℕ))) → SomeHold P words → FormHolds P (row_form words)
  hold_row None h = tt
  hold_row (Some []) h = tt
  hold_row (Some (w ∷ ws)) h = h

  hold_sum : (whole : List ℕ) (words : Option (List (List ℕ))) → FormHolds P (sum_form whole words)
  hold_sum whole None = tt
  hold_sum whole (Some []) = tt
  hold_sum whole (Some (p ∷ [])) = tt
  hold_sum whole (Some (p ∷ q ∷ ps)) = tt

  hold_right : (left : List ℕ) (relation : List (List ℕ)) (words : Option (List (List ℕ))) → FormHolds P (right_form left relation words)
  hold_right left relation None = tt
  hold_right left relation (Some []) = tt
  hold_right left relation (Some (r ∷ [])) = tt
  hold_right left relation (Some (r ∷ o ∷ ws)) = tt

  hold_braces : (left : List ℕ) (relation : List (List ℕ)) (tokens : List Token) → FormHolds P (braces_form left relation tokens)
  hold_braces left relation [] = tt
  hold_braces left relation (Word word ∷ tokens) = hold_braces left (relation ++ word ∷ []) tokens
  hold_braces left relation (Bracket b ∷ tokens) = hold_if (b == 125) (right_form left relation (words_to 93 tokens)) NoForm (hold_right left relation (words_to 93 tokens)) tt

  hold_entry : (left : List ℕ) (tokens : List Token) → FormHolds P (entry_form left tokens)
  hold_entry left [] = tt
  hold_entry left (Word word ∷ tokens) =
      hold_if (bytes_eq word (codes "sums")) (sum_form left (words_to 93 tokens)) (right_form left (word ∷ []) (words_to 93 tokens))
      (hold_sum left (words_to 93 tokens)) (hold_right left (word ∷ []) (words_to 93 tokens))
  hold_entry left (Bracket b ∷ tokens) = hold_if (b == 123) (braces_form left [] tokens) NoForm (hold_braces left [] tokens) tt

  hold_bracket : (tokens : List Token) → FormHolds P (bracket_form tokens)
  hold_bracket [] = tt
  hold_bracket (Word left ∷ tokens) = hold_entry left tokens
  hold_bracket (Bracket b ∷ tokens) = tt

  hold_taxonomy : (tokens : List Token) → WordsHold P tokens → FormHolds P (taxonomy_form tokens)
  hold_taxonomy [] h = tt
  hold_taxonomy (Word id ∷ tokens) h = h.0
  hold_taxonomy (Bracket b ∷ tokens) h = tt

  hold_form : (tokens : List Token) → WordsHold P tokens → FormHolds P (form_of tokens)
  hold_form [] h = tt
  hold_form (Word word ∷ tokens) h =
      hold_if (bytes_eq word (codes "taxonomy")) (taxonomy_form tokens) (if bytes_eq word (codes "articulation") || bytes_eq word (codes "articulations") then ArticulationLine else NoForm)
      (hold_taxonomy tokens h.1) (hold_if (bytes_eq word (codes "articulation") || bytes_eq word (codes "articulations")) ArticulationLine NoForm tt tt)
  hold_form (Bracket b ∷ tokens) h =
      hold_if (b == 40) (row_form (words_to 41 tokens)) (if b == 91 then bracket_form tokens else NoForm)
      (hold_row (words_to 41 tokens) (hold_words 41 tokens h)) (hold_if (b == 91) (bracket_form tokens) NoForm (hold_bracket tokens) tt)

  -- what a row leaves
  kept_name : (limit : ℕ) (f : Trees) (name : List ℕ) (g : Trees) → All P f.names → P name → with_name limit f name ≡ Ok g → All P g.names
  kept_name limit f name g h p e = elim (with_name-Ok limit f name g e) [
    | inl same ↦ subst (λ t. All P t.names) (sym same) h
    | inr named ↦ subst (λ t. All P t.names) (sym named.is) (All-push P f.names name h p)
  ]

  kept_child : (limit parent : ℕ) (f : Trees) (name : List ℕ) (g : Trees) → All P f.names → P name → add_child limit parent f name ≡ Ok g → All P g.names
  kept_child limit parent f name g h p e =
      let s = and_then-Ok (with_name limit f name) (λ t. with_link parent t (place_of f name)) g e in
      let links = with_link-Ok parent s.0 (place_of f name) g s.2 in
      subst (λ t. All P t.names) (sym links.is) (kept_name limit f name s.0 h p s.1)

  kept_children : (limit parent : ℕ) (f : Trees) (names : List (List ℕ)) (g : Trees) → All P f.names → AllByRecursion P names → add_children limit parent f names ≡ Ok g → All P g.names
  kept_children limit parent f [] g h ps e = let s : f ≡ g = cc in subst (λ t. All P t.names) s h
  kept_children limit parent f (name ∷ names) g h ps e =
      let s = and_then-Ok (add_child limit parent f name) (λ t. add_children limit parent t names) g e in
      kept_children limit parent s.0 names g (kept_child limit parent f name s.0 h ps.0 s.1) ps.1 s.2

  kept_row_names : (limit : ℕ) (f : Trees) (names : List (List ℕ)) (g : Trees) → All P f.names → AllByRecursion P names → add_row limit f names ≡ Ok g → All P g.names
  kept_row_names limit f [] g h ps e = let s : f ≡ g = cc in subst (λ t. All P t.names) s h
  kept_row_names limit f (name ∷ names) g h ps e =
      let s = and_then-Ok (with_name limit f name) (λ t. add_children limit (place_of f name) t names) g e in
      kept_children limit (place_of f name) s.0 names g (kept_name limit f name s.0 h ps.0 s.1) ps.1 s.2

-- what the reader keeps of names
pub record IsNamed (r : Reading) : Type 0 where
  pub ids : All IsTaxonomyName r.ids
  pub apart : AllPairs (λ x y. x ≢ y) r.ids
  pub names : All (λ f. All IsConceptName f.names) r.forests

named_nothing : IsNamed nothing_read
named_nothing = record { ids = All-nil IsTaxonomyName; apart = λ i j d a b. absurd (omega arith); names = All-nil (λ (f : Trees). All IsConceptName f.names) }

named_taxonomy : (r : Reading) (id : List ℕ) (next : Reading) → IsClean id → IsNamed r → after_form r (TaxonomyLine id) ≡ Ok next → IsNamed next
named_taxonomy r id next c k e =
    let a = fail_if-Ok (not (is_taxonomy_name id)) _ _ next e in
    let b = fail_if-Ok (list_any (bytes_eq id) r.ids) _ _ next a.1 in
    let full = fail_if-Ok (nat_le 8 (length r.ids)) _ (Ok (with_taxonomy r id)) next b.1 in
    let is : with_taxonomy r id ≡ next = cc in
    subst IsNamed is (record {
      ids = All-push IsTaxonomyName r.ids id k.ids (record { clean = c; name = not_true (is_taxonomy_name id) a.0 });
      apart = all_pairs_push (λ x y. x ≢ y) r.ids id k.apart (λ n d lt same.
          true≢false (sym (list_any_at (bytes_eq id) r.ids n d lt ((bytes_eq-Decides id (get_or r.ids n d)).1 (sym same))) ∙ b.0));
      names = All-push (λ (f : Trees). All IsConceptName f.names) r.forests no_trees k.names (All-nil IsConceptName);
    })

are_names : (names : List (List ℕ)) → AllByRecursion IsClean names → list_all is_name names ≡ true → AllByRecursion IsConceptName names
are_names [] c e = tt
are_names (n ∷ ns) c e = let parts = and_parts (is_name n) (list_all is_name ns) e in (record { clean = c.0; name = parts.0 }, are_names ns c.1 parts.1)

named_row : (r : Reading) (names : List (List ℕ)) (next : Reading) → AllByRecursion IsClean names → IsKept r → IsNamed r → after_row r names ≡ Ok next → IsNamed next
named_row r names next c kept k e =
    let limit = 1024 - concepts_before r (last_number r) in
    let made = add_row limit (last_forest r) names in
    let a = fail_if-Ok (not (in_taxonomy r.place)) _ (fail_if (not (list_all is_name names)) _ (with_forest r made)) next e in
    let b = fail_if-Ok (not (list_all is_name names)) _ (with_forest r made) next a.1 in
    let w = with_forest-Ok r made next b.1 in
    let some : 0 < length r.forests = kept.placed (not_true (in_taxonomy r.place) a.0) in
    let was : All IsConceptName (last_forest r).names = All-get_or (λ (f : Trees). All IsConceptName f.names) r.forests (last_number r) no_trees (omega arith) k.names in
    subst IsNamed w.2 (record {
      ids = k.ids;
      apart = k.apart;
      names = All-set (λ (f : Trees). All IsConceptName f.names) r.forests (last_number r) w.0
          (kept_row_names IsConceptName limit (last_forest r) names w.0 was (are_names names c (not_true (list_all is_name names) b.0)) w.1) k.names;
    })

-- a line that changes neither taxonomies nor concepts
module _ (r next : Reading) (k : IsNamed r) where
  same_named : next.ids ≡ r.ids → next.forests ≡ r.forests → IsNamed next
  same_named e f = record {
    ids = subst (All IsTaxonomyName) (sym e) k.ids;
    apart = subst (AllPairs (λ x y. x ≢ y)) (sym e) k.apart;
    names = subst (All (λ (g : Trees). All IsConceptName g.names)) (sym f) k.names;
  }

named_articulation : (r : Reading) (a : Articulation) (next : Reading) → IsNamed r → with_articulation r a ≡ Ok next → IsNamed next
named_articulation r a next k e =
    let full = fail_if-Ok (nat_le 4096 (length r.articulations)) _ (Ok (record r { articulations = r.articulations ++ a ∷ [] })) next e in
    let is : record r { articulations = r.articulations ++ a ∷ [] } ≡ next = cc in
    same_named r next k (ap (λ (n : Reading). n.ids) (sym is)) (ap (λ (n : Reading). n.forests) (sym is))

named_pair : (r : Reading) (left : List ℕ) (relation : List (List ℕ)) (right : List ℕ) (next : Reading) → IsNamed r → after_pair r left relation right ≡ Ok next → IsNamed next
named_pair r left relation right next k e =
    let p = fail_if-Ok (not (in_articulations r.place)) _ _ next e in
    let a = need-Ok (reference_of left) _ _ next p.1 in
    let b = need-Ok (reference_of right) _ _ next a.2 in
    let some = fail_if-Ok (length relation == 0) _ _ next b.2 in
    let s = need-Ok (set_of_words relation) _ _ next some.1 in
    let i = need-Ok (concept_number r a.0) _ _ next s.2 in
    let j = need-Ok (concept_number r b.0) _ _ next i.2 in
    let other = fail_if-Ok (bytes_eq a.0.0 b.0.0) _ _ next j.2 in
    named_articulation r (pair_of i.0 j.0 s.0) next k other.1

named_sum : (r : Reading) (whole : List ℕ) (parts : List (List ℕ)) (next : Reading) → IsNamed r → after_sum r whole parts ≡ Ok next → IsNamed next
named_sum r whole parts next k e =
    let p = fail_if-Ok (not (in_articulations r.place)) _ _ next e in
    let a = need-Ok (reference_of whole) _ _ next p.1 in
    let bs = need-Ok (references_of parts) _ _ next a.2 in
    let i = need-Ok (concept_number r a.0) _ _ next bs.2 in
    let js = need-Ok (concept_numbers r bs.0) _ _ next i.2 in
    let others = fail_if-Ok (list_any (λ b. bytes_eq a.0.0 b.0) bs.0) _ _ next js.2 in
    let once = fail_if-Ok (not (all_different js.0)) _ _ next others.1 in
    named_articulation r (Sum i.0 js.0) next k once.1

named_form : (r : Reading) (form : Form) (next : Reading) → FormHolds IsClean form → IsKept r → IsNamed r → after_form r form ≡ Ok next → IsNamed next
named_form r Blank next h kept k e = let is : r ≡ next = cc in subst IsNamed is k
named_form r (TaxonomyLine id) next h kept k e = named_taxonomy r id next h k e
named_form r ArticulationLine next h kept k e =
    let is : record r { place = InArticulations } ≡ next = cc in
    same_named r next k (ap (λ (n : Reading). n.ids) (sym is)) (ap (λ (n : Reading). n.forests) (sym is))
named_form r (RowLine names) next h kept k e = named_row r names next h kept k e
named_form r (PairEntry left relation right) next h kept k e = named_pair r left relation right next k e
named_form r (SumEntry whole parts) next h kept k e = named_sum r whole parts next k e
named_form r NoForm next h kept k e = absurd (cc)

and_then_line : (number : ℕ) (made : Result Reading TextKind) (further : Reading → Result Reading (ℕ × TextKind)) (next : Reading) → and_then number made further ≡ Ok next
    → (middle : Reading) × (made ≡ Ok middle) × (further middle ≡ Ok next)
and_then_line number (Ok middle) further next e = (middle, refl, e)
and_then_line number (Err kind) further next e = absurd (cc)

-- what a text gives is kept, and named
pub record IsGiven (r : Reading) : Type 0 where
  pub kept : IsKept r
  pub named : IsNamed r

given_lines : (number : ℕ) (r : Reading) (lines : List (List ℕ)) (next : Reading) → AllByRecursion IsUtf8 lines → IsGiven r → after_lines number r lines ≡ Ok next → IsGiven next
given_lines number r [] next u k e = let is : r ≡ next = cc in subst IsGiven is k
given_lines number r (line ∷ lines) next u k e =
    let s = and_then_line number (after_line r line) (λ m. after_lines (number + 1) m lines) next e in
    given_lines (number + 1) s.0 lines next u.1
    (record { kept = kept_line r line s.0 k.kept s.1; named = named_form r (form_of (tokens_of line)) s.0 (hold_form IsClean (tokens_of line) (line_words line u.0)) k.kept k.named s.1 })
    s.2

pub given_text : (lines : List (List ℕ)) (next : Reading) → AllByRecursion IsUtf8 lines → after_lines 1 nothing_read lines ≡ Ok next → IsGiven next
given_text lines next u e = given_lines 1 nothing_read lines next u (record { kept = kept_nothing; named = named_nothing }) e
