-- Small texts, and what they say.
use Rattle.std.specs.Prelude.{◌≡◌, ℕ, true, List, Err, refl, codes}
use Rattle.world_model.specs.declared.Switches.{Switches}
use Rattle.cleantax_text.specs.declared.TextKind.TheVariants.{BadLine, UnknownRelation, TaxonomyCount, TwoParents, ChildTwice, Cycle, SameTaxonomy, PartTwice}
use Rattle.taxon_tree.specs.Row.{with_name, with_link}
use Rattle.taxon_tree.specs.Ancestry.{is_ancestor, decided}
use Rattle.cleantax_text.specs.declared.TextKind.{TextKind}
use Rattle.text_words.specs.Tokens.{lines_of}
use Rattle.cleantax_text.specs.Reading.{at_end, after_lines, nothing_read}

-- all three switches on
abbrev pub all_on : Switches
all_on = record { nonempty = true; sibling = true; coverage = true }

-- a text of UTF-8 has this first fault
abbrev pub Faulty : List ℕ → ℕ → TextKind → Type 0
Faulty text line kind = at_end all_on (after_lines 1 nothing_read (lines_of text)) ≡ Err (line, kind)

-- a word that is no relation is found before the unknown concept, on line 6 and not on line 7
pub first_fault : Faulty (codes "taxonomy 1\n(A)\ntaxonomy 2\n(B)\narticulation\n[1.A resembles 2.Z]\noops\n") 6 UnknownRelation
unfolding with_name with_link is_ancestor decided
first_fault = refl

pub two_parents : Faulty (codes "taxonomy 1\n(A B C)\n(D B)\n") 3 TwoParents
unfolding with_name with_link is_ancestor decided
two_parents = refl

pub cycle : Faulty (codes "taxonomy 1\n(A B C)\n(B A)\n") 3 Cycle
unfolding with_name with_link is_ancestor decided
cycle = refl

pub twice : Faulty (codes "taxonomy 1\n(A B C)\n(A B)\n") 3 ChildTwice
unfolding with_name with_link is_ancestor decided
twice = refl

pub too_few : Faulty (codes "taxonomy 1\n(A B C)\n") 0 TaxonomyCount
unfolding with_name with_link is_ancestor decided
too_few = refl

pub part_twice : Faulty (codes "taxonomy 1\n(A)\ntaxonomy 2\n(B)\n(C)\narticulation\n[1.A sums 2.B 2.B]\n") 7 PartTwice
unfolding with_name with_link is_ancestor decided
part_twice = refl

pub one_part : Faulty (codes "taxonomy 1\n(A)\ntaxonomy 2\n(B)\n(C)\narticulation\n[1.A sums 2.B]\n") 7 BadLine
unfolding with_name with_link is_ancestor decided
one_part = refl

pub same_taxonomy : Faulty (codes "taxonomy 1\n(A)\ntaxonomy 2\n(B)\n(C)\narticulation\n[1.A sums 2.B 1.A]\n") 7 SameTaxonomy
unfolding with_name with_link is_ancestor decided
same_taxonomy = refl
