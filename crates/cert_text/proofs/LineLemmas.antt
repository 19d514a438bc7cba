-- A line is read back from its words, and no word of it has a byte below `!`.
use Rattle.std.proofs.Common.{◌≡◌, ◌≢◌, ℕ, ◌-◌, ◌^◌, ◌<◌, Bool, false, append-nil, List, [], ◌∷◌, ◌++◌, map, codes, decimal, Option, Result, Ok, All, refl, sym, ap, subst, ◌∙◌, arith}
use Rattle.std.specs.List.{AllByRecursion, join_with_byte}
use Rattle.std.proofs.lemmas.List.Elements.{recursion_from_All}
use Rattle.lits_core.specs.declared.Line.TheVariants.{Derive, Forget}
use Rattle.rcc5_core.specs.declared.Rel.{Rel}
use Rattle.world_model.specs.declared.Switches.{Switches}
use Rattle.world_model.specs.Family.{Family}
use Rattle.proof_text.specs.declared.fault.LineTextFault.{LineTextFault}
use Rattle.proof_text.specs.Words.{words_of, switch_word, position_word}
use Rattle.proof_text.specs.Lines.{◌>>=◌, id_in, item_at}
use Rattle.proof_text.specs.Laws.{has_byte}
use Rattle.proof_text.proofs.WordLemmas.{words_of-joined, joined-clean}
use Rattle.proof_text.proofs.LineLemmas.{AreClean, clean_line, derive_of-words, forget_of-words, each}
use Rattle.cert_text.specs.declared.line.CertLine.{CertLine}
use Rattle.cert_text.specs.declared.line.CertLine.TheVariants.{Certificate, Claims, Proof, Branch, NoPoint, NoRelation, World, Holds, Fails, End, Quit, Done}
use Rattle.cert_text.specs.declared.line.Subject.{Subject}
use Rattle.cert_text.specs.declared.line.Subject.TheVariants.{Narrowed, Kept}
use Rattle.cert_text.specs.Lines.{taken, small_in, large_in, switch_at, relation_at, last_at, last_word, position_at, end_at, end_word, bits_at, elements_word, sets_of, family_of, family_words, narrowed_of, kept_of, subject_of, subject_words, switches_of, version_of, version_words, node_of, node_words, ended, certificate_of, claims_of, branch_of, no_point_of, no_relation_of, world_of, holds_of, fails_of, end_of, kind_in, cert_line_of_words, cert_line_of, cert_words, cert_text, IsSmallFamily, IsSmallSubject, IsCertLine}
use Rattle.cert_text.proofs.WordLemmas.{IsWord, plain-clean, number-word, clause-word, switch_read-word, relation-word, last_read-word, position_read-word, bits-word, end_read-word, AreSmall, sets_of-words, clean-sets}

taken-word : {A : Type 0} (at : List ℕ → Result A LineTextFault) (x : A) (word : List ℕ) (words : List (List ℕ)) → IsWord at x word → taken at (word ∷ words) ≡ Ok (x, words)
taken-word at x word words h = ap (λ read. read >>= λ x. Ok (x, words)) h.read

small-word : (n : ℕ) → n < 2 ^ 32 → IsWord (item_at small_in) n (decimal n)
small-word n h = number-word (2 ^ 32 - 1) n (omega arith) (omega arith)

large-word : (n : ℕ) → n < 2 ^ 64 → IsWord (item_at large_in) n (decimal n)
large-word n h = number-word (2 ^ 64 - 1) n (omega arith) (omega arith)

-- the pieces of a line are read back, whatever follows them
switches_of-words : (s : Switches) (rest : List (List ℕ)) →
    switches_of (switch_word s.nonempty ∷ switch_word s.sibling ∷ switch_word s.coverage ∷ rest) ≡ Ok (s, rest)
unfolding switches_of
switches_of-words s rest =
    let coverage : Bool × List (List ℕ) → Result (Switches × List (List ℕ)) LineTextFault =
    λ coverage. Ok (record { nonempty = s.nonempty; sibling = s.sibling; coverage = coverage.0 }, coverage.1) in
    ap (λ read. read >>= λ nonempty. taken switch_at nonempty.1 >>= λ sibling. taken switch_at sibling.1 >>= λ coverage.
    Ok (record { nonempty = nonempty.0; sibling = sibling.0; coverage = coverage.0 }, coverage.1))
    (taken-word switch_at s.nonempty (switch_word s.nonempty) (switch_word s.sibling ∷ switch_word s.coverage ∷ rest) (switch_read-word s.nonempty))
    ∙ ap (λ read. read >>= λ sibling. taken switch_at sibling.1 >>= λ coverage.
    Ok (record { nonempty = s.nonempty; sibling = sibling.0; coverage = coverage.0 }, coverage.1))
    (taken-word switch_at s.sibling (switch_word s.sibling) (switch_word s.coverage ∷ rest) (switch_read-word s.sibling))
    ∙ ap (λ read. read >>= coverage) (taken-word switch_at s.coverage (switch_word s.coverage) rest (switch_read-word s.coverage))

version_of-words : (s : Switches) (rest : List (List ℕ)) → version_of (version_words s ++ rest) ≡ Ok (s, rest)
unfolding version_of
version_of-words s rest = switches_of-words s rest

node_of-words : (depth : ℕ) (last : Option Rel) (rest : List (List ℕ)) → depth < 2 ^ 32 → node_of (node_words depth last ++ rest) ≡ Ok ((depth, last), rest)
unfolding node_of
node_of-words depth last rest h =
    ap (λ read. read >>= λ depth. taken last_at depth.1 >>= λ last. Ok ((depth.0, last.0), last.1)) (taken-word (item_at small_in) depth (decimal depth) (last_word last ∷ rest) (small-word depth h))
    ∙ ap (λ read. read >>= λ last. Ok ((depth, last.0), last.1)) (taken-word last_at last (last_word last) rest (last_read-word last))

small_sets : (sets : List (List ℕ)) → All (λ set. All (λ x. x < 2 ^ 32) set) sets → AllByRecursion AreSmall sets
small_sets sets h = each (λ set. recursion_from_All (λ x. x < 2 ^ 32) set) sets (recursion_from_All (λ set. All (λ x. x < 2 ^ 32) set) sets h)

family_of-words : (f : Family) → IsSmallFamily f → family_of (family_words f) ≡ Ok f
unfolding family_of
family_of-words f h =
    ap (λ read. read >>= λ universe. sets_of universe.1 >>= λ sets. Ok (record { universe = universe.0; sets = sets }))
    (taken-word (item_at small_in) f.universe (decimal f.universe) (map elements_word f.sets) (small-word f.universe h.0))
    ∙ ap (λ read. read >>= λ sets. Ok (record { universe = f.universe; sets = sets })) (sets_of-words f.sets (small_sets f.sets h.1))

subject_of-words : (s : Subject) (rest : List (List ℕ)) → IsSmallSubject s → subject_of (subject_words s ++ rest) ≡ Ok (s, rest)
unfolding subject_of narrowed_of kept_of
subject_of-words (Narrowed pair rel) rest h =
    ap (λ read. read >>= λ pair. taken relation_at pair.1 >>= λ rel. Ok (Narrowed pair.0 rel.0, rel.1)) (taken-word (item_at small_in) pair (decimal pair) _ (small-word pair h))
    ∙ ap (λ read. read >>= λ rel. Ok (Narrowed pair rel.0, rel.1)) (taken-word relation_at rel _ rest (relation-word rel))
subject_of-words (Kept bits) rest h = ap (λ read. read >>= λ bits. Ok (Kept bits.0, bits.1)) (taken-word bits_at bits _ rest (bits-word bits))

-- each kind of line is read back from the words after its first
certificate_of-words : (s : Switches) (from : List Rel) → certificate_of (version_words s ++ position_word from ∷ []) ≡ Ok (Certificate s from)
unfolding certificate_of
certificate_of-words s from =
    ap (λ read. read >>= λ switches. taken position_at switches.1 >>= λ from. ended from.1 (Certificate switches.0 from.0)) (version_of-words s (position_word from ∷ []))
    ∙ ap (λ read. read >>= λ from. ended from.1 (Certificate s from.0)) (taken-word position_at from (position_word from) [] (position_read-word from))

claims_of-words : (s : Switches) → claims_of (version_words s) ≡ Ok (Claims s)
unfolding claims_of
claims_of-words s = ap (λ read. read >>= λ switches. ended switches.1 (Claims switches.0)) (version_of-words s [])

branch_of-words : (depth : ℕ) (last : Option Rel) → depth < 2 ^ 32 → branch_of (node_words depth last) ≡ Ok (Branch depth last)
unfolding branch_of
branch_of-words depth last h = ap (λ read. read >>= λ node. ended node.1 (Branch node.0.0 node.0.1)) (node_of-words depth last [] h)

no_point_of-words : (depth : ℕ) (last : Option Rel) (need clause : ℕ) → IsCertLine (NoPoint depth last need clause) →
    no_point_of (node_words depth last ++ decimal need ∷ decimal clause ∷ []) ≡ Ok (NoPoint depth last need clause)
unfolding no_point_of
no_point_of-words depth last need clause h =
    ap (λ read. read >>= λ node. taken (item_at large_in) node.1 >>= λ need. taken (item_at id_in) need.1 >>= λ clause. ended clause.1 (NoPoint node.0.0 node.0.1 need.0 clause.0))
    (node_of-words depth last (decimal need ∷ decimal clause ∷ []) h.0)
    ∙ ap (λ read. read >>= λ need. taken (item_at id_in) need.1 >>= λ clause. ended clause.1 (NoPoint depth last need.0 clause.0))
    (taken-word (item_at large_in) need (decimal need) (decimal clause ∷ []) (large-word need h.1))
    ∙ ap (λ read. read >>= λ clause. ended clause.1 (NoPoint depth last need clause.0)) (taken-word (item_at id_in) clause (decimal clause) [] (clause-word clause h.2))

no_relation_of-words : (depth : ℕ) (last : Option Rel) (pair : ℕ) → IsCertLine (NoRelation depth last pair) →
    no_relation_of (node_words depth last ++ decimal pair ∷ []) ≡ Ok (NoRelation depth last pair)
unfolding no_relation_of
no_relation_of-words depth last pair h =
    ap (λ read. read >>= λ node. taken (item_at small_in) node.1 >>= λ pair. ended pair.1 (NoRelation node.0.0 node.0.1 pair.0)) (node_of-words depth last (decimal pair ∷ []) h.0)
    ∙ ap (λ read. read >>= λ pair. ended pair.1 (NoRelation depth last pair.0)) (taken-word (item_at small_in) pair (decimal pair) [] (small-word pair h.1))

world_of-words : (depth : ℕ) (last : Option Rel) (f : Family) → IsCertLine (World depth last f) → world_of (node_words depth last ++ family_words f) ≡ Ok (World depth last f)
unfolding world_of
world_of-words depth last f h =
    ap (λ read. read >>= λ node. family_of node.1 >>= λ family. Ok (World node.0.0 node.0.1 family)) (node_of-words depth last (family_words f) h.0)
    ∙ ap (λ read. read >>= λ family. Ok (World depth last family)) (family_of-words f h.1)

holds_of-words : (s : Subject) (f : Family) → IsCertLine (Holds s f) → holds_of (subject_words s ++ family_words f) ≡ Ok (Holds s f)
unfolding holds_of
holds_of-words s f h =
    ap (λ read. read >>= λ subject. family_of subject.1 >>= λ family. Ok (Holds subject.0 family)) (subject_of-words s (family_words f) h.0)
    ∙ ap (λ read. read >>= λ family. Ok (Holds s family)) (family_of-words f h.1)

fails_of-words : (s : Subject) → IsSmallSubject s → fails_of (subject_words s) ≡ Ok (Fails s)
unfolding fails_of
fails_of-words s h =
    ap fails_of (sym (append-nil (subject_words s))) ∙ ap (λ read. read >>= λ subject. ended subject.1 (Fails subject.0)) (subject_of-words s [] h)

end_of-words : (to : Option (List Rel)) → end_of (end_word to ∷ []) ≡ Ok (End to)
unfolding end_of
end_of-words to = ap (λ read. read >>= λ to. ended to.1 (End to.0)) (taken-word end_at to (end_word to) [] (end_read-word to))

line-words : (line : CertLine) → IsCertLine line → cert_line_of_words (cert_words line) ≡ Ok line
unfolding cert_line_of_words kind_in
line-words (Certificate s from) h = certificate_of-words s from
line-words (Claims s) h = claims_of-words s
line-words (Proof (Derive id lits hints)) h = ap (λ read. read >>= λ line. Ok (Proof line)) (derive_of-words id lits hints h)
line-words (Proof (Forget ids)) h = ap (λ read. read >>= λ line. Ok (Proof line)) (forget_of-words ids h)
line-words (Branch depth last) h = branch_of-words depth last h
line-words (NoPoint depth last need clause) h = no_point_of-words depth last need clause h
line-words (NoRelation depth last pair) h = no_relation_of-words depth last pair h
line-words (World depth last f) h = world_of-words depth last f h
line-words (Holds s f) h = holds_of-words s f h
line-words (Fails s) h = fails_of-words s h
line-words (End to) h = end_of-words to
line-words Quit h = refl
line-words Done h = refl

-- no byte below `!` is in a word
clean-node : (byte : ℕ) → byte < 33 → (depth : ℕ) (last : Option Rel) (rest : List (List ℕ)) → depth < 2 ^ 32 → AreClean byte rest → AreClean byte (node_words depth last ++ rest)
clean-node byte low depth last rest h clean = ((small-word depth h).clean byte low, ((last_read-word last).clean byte low, clean))

clean-version : (byte : ℕ) → byte < 33 → (s : Switches) (rest : List (List ℕ)) → AreClean byte rest → AreClean byte (version_words s ++ rest)
clean-version byte low s rest clean =
    (plain-clean (codes "1") refl byte low, ((switch_read-word s.nonempty).clean byte low, ((switch_read-word s.sibling).clean byte low, ((switch_read-word s.coverage).clean byte low, clean))))

clean-family : (byte : ℕ) → byte < 33 → (f : Family) → IsSmallFamily f → AreClean byte (family_words f)
clean-family byte low f h = ((small-word f.universe h.0).clean byte low, clean-sets byte low f.sets (small_sets f.sets h.1))

clean-subject : (byte : ℕ) → byte < 33 → (s : Subject) (rest : List (List ℕ)) → IsSmallSubject s → AreClean byte rest → AreClean byte (subject_words s ++ rest)
clean-subject byte low (Narrowed pair rel) rest h clean = (plain-clean (codes "m") refl byte low, ((small-word pair h).clean byte low, ((relation-word rel).clean byte low, clean)))
clean-subject byte low (Kept bits) rest h clean = (plain-clean (codes "a") refl byte low, ((bits-word bits).clean byte low, clean))

clean-line : (byte : ℕ) → byte < 33 → (line : CertLine) → IsCertLine line → AreClean byte (cert_words line)
clean-line byte low (Certificate s from) h = (plain-clean (codes "certificate") refl byte low, clean-version byte low s (position_word from ∷ []) ((position_read-word from).clean byte low, tt))
clean-line byte low (Claims s) h = (plain-clean (codes "claims") refl byte low, clean-version byte low s [] tt)
clean-line byte low (Proof line) h = clean_line byte (omega arith) line h
clean-line byte low (Branch depth last) h = (plain-clean (codes "b") refl byte low, clean-node byte low depth last [] h tt)
clean-line byte low (NoPoint depth last need clause) h =
    (plain-clean (codes "x") refl byte low, clean-node byte low depth last (decimal need ∷ decimal clause ∷ []) h.0 ((large-word need h.1).clean byte low, ((clause-word clause h.2).clean byte low, tt)))
clean-line byte low (NoRelation depth last pair) h = (plain-clean (codes "e") refl byte low, clean-node byte low depth last (decimal pair ∷ []) h.0 ((small-word pair h.1).clean byte low, tt))
clean-line byte low (World depth last f) h = (plain-clean (codes "w") refl byte low, clean-node byte low depth last (family_words f) h.0 (clean-family byte low f h.1))
clean-line byte low (Holds s f) h = (plain-clean (codes "some") refl byte low, clean-subject byte low s (family_words f) h.0 (clean-family byte low f h.1))
clean-line byte low (Fails s) h =
    (plain-clean (codes "none") refl byte low, subst (AreClean byte) (append-nil (subject_words s)) (clean-subject byte low s [] h tt))
clean-line byte low (End to) h = (plain-clean (codes "end") refl byte low, ((end_read-word to).clean byte low, tt))
clean-line byte low Quit h = (plain-clean (codes "quit") refl byte low, tt)
clean-line byte low Done h = (plain-clean (codes "done") refl byte low, tt)

-- the words of a text are those that it joins, for it has some
words_of-line : (words : List (List ℕ)) → words ≢ [] → AreClean 32 words → words_of 32 (join_with_byte 32 words) ≡ words
words_of-line [] some clean = absurd (some refl)
words_of-line (word ∷ words) some clean = words_of-joined 32 word words clean

some_words : (line : CertLine) → cert_words line ≢ []
some_words (Certificate s from) = λ e. absurd (cc)
some_words (Claims s) = λ e. absurd (cc)
some_words (Proof (Derive id lits hints)) = λ e. absurd (cc)
some_words (Proof (Forget ids)) = λ e. absurd (cc)
some_words (Branch depth last) = λ e. absurd (cc)
some_words (NoPoint depth last need clause) = λ e. absurd (cc)
some_words (NoRelation depth last pair) = λ e. absurd (cc)
some_words (World depth last f) = λ e. absurd (cc)
some_words (Holds s f) = λ e. absurd (cc)
some_words (Fails s) = λ e. absurd (cc)
some_words (End to) = λ e. absurd (cc)
some_words Quit = λ e. absurd (cc)
some_words Done = λ e. absurd (cc)

-- a line is read back from its text
pub cert_line_of-text : (line : CertLine) → IsCertLine line → cert_line_of (cert_text line) ≡ Ok line
cert_line_of-text line h = ap cert_line_of_words (words_of-line (cert_words line) (some_words line) (clean-line 32 (omega arith) line h)) ∙ line-words line h

-- and has no LF
pub cert_text-no_lf : (line : CertLine) → IsCertLine line → has_byte 10 (cert_text line) ≡ false
cert_text-no_lf line h = joined-clean 32 10 (cert_words line) refl (clean-line 10 (omega arith) line h)
