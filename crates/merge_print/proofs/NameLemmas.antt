-- The names of a problem that a text says are UTF-8.
use Rattle.std.proofs.Common.{◌≡◌, ℕ, Bool, true, false, List, Result, Ok, Err, length, refl, subst}
use Rattle.std.specs.Prelude.{All, nat_lt}
use Rattle.std.specs.Str.{IsUtf8}
use Rattle.std.specs.Str.Lossy.{utf8_valid_len}
use Rattle.std.proofs.lemmas.List.Elements.{All-weaker}
use Rattle.taxon_tree.specs.Trees.{Trees}
use Rattle.world_model.specs.Problem.{Problem}
use Rattle.world_model.specs.declared.Switches.{Switches}
use Rattle.constraint_set.specs.Build.{problem_of}
use Rattle.cleantax_text.specs.declared.TextKind.{TextKind}
use Rattle.text_words.specs.Tokens.{without_mark, lines_of}
use Rattle.cleantax_text.specs.Reading.{Reading, nothing_read, after_lines, at_end, IsProblemText}
use Rattle.cleantax_text.proofs.CutLemmas.{whole_utf8, unmarked_utf8, lines_utf8}
use Rattle.cleantax_text.proofs.NamedLemmas.{IsGiven, given_text, IsConceptName, IsTaxonomyName}
use Rattle.merge_print.specs.Json.{HasUtf8Names}
use Rattle.merge_print.proofs.RangeLemmas.{all_flat}
use Rattle.cleantax_text.proofs.ReadsBackLemmas.{unless_few, unless_long, unless_invalid}

-- names that lines gave
given_names : (r : Reading) (switches : Switches) → IsGiven r → HasUtf8Names (problem_of r.ids r.forests r.articulations switches)
given_names r switches given = record {
  taxonomies_are = All-weaker IsTaxonomyName IsUtf8 (λ w n. n.clean.utf8) r.ids given.named.ids;
  names_are = all_flat IsUtf8 (λ (f : Trees). f.names) r.forests
      (All-weaker (λ (f : Trees). All IsConceptName f.names) (λ (f : Trees). All IsUtf8 f.names) (λ f h. All-weaker IsConceptName IsUtf8 (λ w n. n.clean.utf8) f.names h) r.forests given.named.names);
}

names_at_end : (switches : Switches) (p : Problem) (made : Result Reading (ℕ × TextKind)) → ((r : Reading) → made ≡ Ok r → IsGiven r) → at_end switches made ≡ Ok p → HasUtf8Names p
names_at_end switches p (Err fault) given e = absurd (cc)
names_at_end switches p (Ok r) given e = by (nat_lt (length r.ids) 2) e
  where
    by : (few : Bool) → unless_few few (problem_of r.ids r.forests r.articulations switches) ≡ Ok p → HasUtf8Names p
    by true h = absurd (cc)
    by false h = let same : problem_of r.ids r.forests r.articulations switches ≡ p = cc in subst HasUtf8Names same (given_names r switches (given r refl))

pub names_utf8 : (bytes : List ℕ) (switches : Switches) (p : Problem) → IsProblemText bytes switches p → HasUtf8Names p
names_utf8 bytes switches p e = by (nat_lt 1048576 (length bytes)) (nat_lt (utf8_valid_len bytes) (length bytes)) refl e
  where
    by : (long invalid : Bool) → nat_lt (utf8_valid_len bytes) (length bytes) ≡ invalid
        → unless_long long (unless_invalid bytes invalid (at_end switches (after_lines 1 nothing_read (lines_of (without_mark bytes))))) ≡ Ok p
        → HasUtf8Names p
    by true invalid f h = absurd (cc)
    by false true f h = absurd (cc)
    by false false f h = names_at_end switches p (after_lines 1 nothing_read (lines_of (without_mark bytes)))
        (λ r made. given_text (lines_of (without_mark bytes)) r (lines_utf8 (without_mark bytes) (unmarked_utf8 bytes (whole_utf8 bytes f))) made) h
