-- The canonical text of a problem that a text says is a text of this problem.
use Rattle.std.proofs.Common.{◌≡◌, ◌+◌, ◌≤◌, ℕ, Bool, true, false, List, [], ◌∷◌, ◌++◌, Result, Ok, Err, length, take, refl, sym, ap, subst, ◌∙◌, arith, IsUtf8}
use Rattle.std.specs.Prelude.{codes, nat_lt, count_by, flat_map, if◌then◌else◌}
use Rattle.std.specs.Str.Lossy.{utf8_valid_len}
use Rattle.std.proofs.lemmas.Bool.{le-ltb}
use Rattle.std.proofs.lemmas.List.{append-nil}
use Rattle.std.proofs.lemmas.Str.{utf8_valid_len-IsUtf8}
use Rattle.world_model.specs.Problem.{Problem}
use Rattle.world_model.specs.declared.Switches.{Switches}
use Rattle.constraint_set.specs.Build.{problem_of}
use Rattle.cleantax_text.specs.declared.TextKind.{TextKind}
use Rattle.cleantax_text.specs.declared.TextKind.TheVariants.{NotUtf8, TooLong, TaxonomyCount}
use Rattle.text_words.specs.Tokens.{is_line_end, without_mark, lines_of}
use Rattle.cleantax_text.specs.Canonical.{canonical_text}
use Rattle.cleantax_text.specs.Pieces.{taxonomies_text, line_of}
use Rattle.cleantax_text.specs.Reading.{Place, InArticulations, Reading, nothing_read, after_lines, at_end, text_result, IsProblemText}
use Rattle.cleantax_text.specs.ReadsBack.{ReadsBack}
use Rattle.cleantax_text.proofs.CutLemmas.{whole_utf8, unmarked_utf8, lines_utf8}
use Rattle.cleantax_text.proofs.NamedLemmas.{IsGiven, given_text}
use Rattle.cleantax_text.proofs.ScanLemmas.{printed_low, Reads, reads_more, reads_line}
use Rattle.cleantax_text.proofs.LaidLemmas.{taxonomies_read}
use Rattle.cleantax_text.proofs.EntriesBackLemmas.{entries}

-- what the lines of a text gave that says a problem
record Gave (switches : Switches) (p : Problem) : Type 0 where
  reading : Reading
  given : IsGiven reading
  two : nat_lt (length reading.ids) 2 ≡ false
  is : p ≡ problem_of reading.ids reading.forests reading.articulations switches

-- too few taxonomies; too many bytes; bytes that are not UTF-8
abbrev pub unless_few : Bool → Problem → Result Problem (ℕ × TextKind)
unless_few few p = if few then Err (0, TaxonomyCount) else Ok p

abbrev pub unless_long : Bool → Result Problem (ℕ × TextKind) → Result Problem (ℕ × TextKind)
unless_long long rest = if long then Err (0, TooLong) else rest

abbrev pub unless_invalid : List ℕ → Bool → Result Problem (ℕ × TextKind) → Result Problem (ℕ × TextKind)
unless_invalid bytes invalid rest = if invalid then Err (count_by is_line_end (take (utf8_valid_len bytes) bytes) + 1, NotUtf8) else rest

gave_at_end : (switches : Switches) (p : Problem) (made : Result Reading (ℕ × TextKind)) → ((r : Reading) → made ≡ Ok r → IsGiven r) → at_end switches made ≡ Ok p → Gave switches p
gave_at_end switches p (Err fault) given e = absurd (cc)
gave_at_end switches p (Ok r) given e = by (nat_lt (length r.ids) 2) refl e
  where
    by : (few : Bool) → nat_lt (length r.ids) 2 ≡ few → unless_few few (problem_of r.ids r.forests r.articulations switches) ≡ Ok p → Gave switches p
    by true f h = absurd (cc)
    by false f h = record { reading = r; given = given r refl; two = f; is = let same : problem_of r.ids r.forests r.articulations switches ≡ p = cc in sym same }

gave : (bytes : List ℕ) (switches : Switches) (p : Problem) → IsProblemText bytes switches p → Gave switches p
gave bytes switches p e = by (nat_lt 1048576 (length bytes)) (nat_lt (utf8_valid_len bytes) (length bytes)) refl e
  where
    by : (long invalid : Bool) → nat_lt (utf8_valid_len bytes) (length bytes) ≡ invalid
        → unless_long long (unless_invalid bytes invalid (at_end switches (after_lines 1 nothing_read (lines_of (without_mark bytes))))) ≡ Ok p
        → Gave switches p
    by true invalid f h = absurd (cc)
    by false true f h = absurd (cc)
    by false false f h = gave_at_end switches p (after_lines 1 nothing_read (lines_of (without_mark bytes)))
        (λ r made. given_text (lines_of (without_mark bytes)) r (lines_utf8 (without_mark bytes) (unmarked_utf8 bytes (whole_utf8 bytes f))) made) h

-- a text without a mark, of UTF-8 and not too long, whose lines give this
says : (text : List ℕ) (switches : Switches) (r : Reading) → length text ≤ 1048576 → IsUtf8 text → without_mark text ≡ text → nat_lt (length r.ids) 2 ≡ false
    → after_lines 1 nothing_read (lines_of text) ≡ Ok r → text_result text switches ≡ Ok (problem_of r.ids r.forests r.articulations switches)
says text switches r short u unmarked two e =
    let valid : nat_lt (utf8_valid_len text) (length text) ≡ false = le-ltb _ _ (let n = utf8_valid_len-IsUtf8 text u in omega arith) in
    let rest : Result Problem (ℕ × TextKind) = at_end switches (after_lines 1 nothing_read (lines_of (without_mark text))) in
    ap (λ b. unless_long b (unless_invalid text (nat_lt (utf8_valid_len text) (length text)) rest)) (le-ltb 1048576 (length text) short)
    ∙ ap (λ b. unless_invalid text b rest) valid
    ∙ ap (λ t. at_end switches (after_lines 1 nothing_read (lines_of t))) unmarked
    ∙ ap (at_end switches) e
    ∙ ap (λ b. unless_few b (problem_of r.ids r.forests r.articulations switches)) two

-- a canonical text begins with the word `taxonomy`
begins : (p : Problem) (ids : List (List ℕ)) → p.taxonomies ≡ ids → nat_lt (length ids) 2 ≡ false → (xs : List ℕ) × (taxonomies_text p (length p.taxonomies) ≡ 116 ∷ xs)
begins p [] is two = absurd (cc)
begins p (id ∷ ids) is two = (_, ap (λ l. taxonomies_text p (length l)) is)

module _ (r : Reading) (switches : Switches) (given : IsGiven r) (two : nat_lt (length r.ids) 2 ≡ false) where
  abbrev it : Problem
  it = problem_of r.ids r.forests r.articulations switches

  articulation_line : (place : Place) → Reads (record { ids = r.ids; forests = r.forests; articulations = []; place = place }) (codes "articulation\n") (record { ids = r.ids; forests = r.forests; articulations = []; place = InArticulations })
  articulation_line place =
      reads_line (record { ids = r.ids; forests = r.forests; articulations = []; place = place }) (record { ids = r.ids; forests = r.forests; articulations = []; place = InArticulations })
      (codes "articulation") (printed_low (codes "articulation") refl refl) refl

  reads_all : Reads nothing_read (canonical_text it) (record { ids = r.ids; forests = r.forests; articulations = r.articulations; place = InArticulations })
  reads_all =
      let k = given.kept in
      let n = given.named in
      let taxonomies = taxonomies_read r.ids r.forests r.articulations switches k.hold k.named k.eight k.concepts n.ids n.apart n.names in
      let few = k.few in
      let at_taxonomies : Reading = record { ids = r.ids; forests = r.forests; articulations = []; place = taxonomies.0 } in
      let at_articulations : Reading = record { ids = r.ids; forests = r.forests; articulations = []; place = InArticulations } in
      let end : Reading = record { ids = r.ids; forests = r.forests; articulations = r.articulations; place = InArticulations } in
      reads_more nothing_read at_articulations end (taxonomies_text it (length r.ids) ++ codes "articulation\n") (flat_map (line_of it) r.articulations)
      (reads_more nothing_read at_taxonomies at_articulations (taxonomies_text it (length r.ids)) (codes "articulation\n") taxonomies.1 (articulation_line taxonomies.0))
      (entries r.ids r.forests r.articulations switches k.hold k.named n.ids n.apart n.names [] r.articulations k.fit k.said (omega arith))

  no_mark : without_mark (canonical_text it) ≡ canonical_text it
  no_mark =
      let b = begins it r.ids refl two in
      let same : canonical_text it ≡ 116 ∷ (b.0 ++ codes "articulation\n" ++ flat_map (line_of it) r.articulations) =
      ap (λ t. t ++ codes "articulation\n" ++ flat_map (line_of it) r.articulations) b.1 in
      ap without_mark same ∙ sym same

  pub again : length (canonical_text it) ≤ 1048576 → text_result (canonical_text it) switches ≡ Ok it
  again short =
      let all = reads_all in
      let end : Reading = record { ids = r.ids; forests = r.forests; articulations = r.articulations; place = InArticulations } in
      says (canonical_text it) switches end short all.utf8 no_mark two
      (ap (λ t. after_lines 1 nothing_read (lines_of t)) (sym (append-nil (canonical_text it))) ∙ (all.lines 1 []).1)

-- what is printed reads back
pub reads_back : (p : Problem) → ReadsBack (canonical_text p) p
reads_back p bytes switches e short =
    let g = gave bytes switches p e in
    let same = g.is in
    subst (λ q. IsProblemText (canonical_text q) switches q) (sym same) (again g.reading switches g.given g.two (subst (λ q. length (canonical_text q) ≤ 1048576) same short))

pub text_reads_back : (text : List ℕ) (p : Problem) → text ≡ canonical_text p → ReadsBack text p
text_reads_back text p e = subst (λ t. ReadsBack t p) (sym e) (reads_back p)
