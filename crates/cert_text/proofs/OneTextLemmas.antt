-- Bytes that are read as a line are its text.
use Rattle.std.proofs.Common.{◌≡◌, ℕ, ◌^◌, ◌<◌, Bool, true, false, cond, List, [], ◌∷◌, ◌++◌, append-nil, codes, decimal, bytes_eq, Option, Some, None, Result, Ok, Err, ok_or, All, IfOk, refl, sym, ap, subst, ◌∙◌}
use Rattle.std.specs.Bool.{⊤}
use Rattle.std.specs.List.{AllByRecursion, join_with_byte}
use Rattle.std.proofs.lemmas.List.Elements.{All-from_recursion}
use Rattle.std.proofs.lemmas.List.Splits.{join_with_byte-slice_split}
use Rattle.lits_core.specs.declared.Line.{Line}
use Rattle.lits_core.specs.declared.Line.TheVariants.{Derive, Forget}
use Rattle.lits_core.specs.Derivation.{FromOne}
use Rattle.rcc5_core.specs.declared.Rel.{Rel}
use Rattle.rcc5_core.specs.Relation.{letter_of}
use Rattle.world_model.specs.declared.Switches.{Switches}
use Rattle.world_model.specs.Family.{Family}
use Rattle.proof_text.specs.declared.fault.LineTextFault.{LineTextFault}
use Rattle.proof_text.specs.declared.fault.LineTextFault.TheVariants.{BadLine}
use Rattle.proof_text.specs.Words.{words_of, spelled, switch_word, position_word}
use Rattle.proof_text.specs.Lines.{◌>>=◌, id_in, item_at, derive_of, forget_of, IsId, IsLine, Gives}
use Rattle.proof_text.proofs.LineLemmas.{bind_ok, ok_same, derive_of-read, forget_of-read}
use Rattle.cert_text.specs.declared.line.CertLine.{CertLine}
use Rattle.cert_text.specs.declared.line.CertLine.TheVariants.{Certificate, Claims, Proof, Branch, NoPoint, NoRelation, World, Holds, Fails, End, Quit, Done}
use Rattle.cert_text.specs.declared.line.Subject.{Subject}
use Rattle.cert_text.specs.declared.line.Subject.TheVariants.{Narrowed, Kept}
use Rattle.cert_text.specs.declared.kind.LineKind.{LineKind}
use Rattle.cert_text.specs.declared.kind.LineKind.TheVariants as kind
use Rattle.cert_text.specs.Lines.{taken, small_in, large_in, switch_at, relation_at, last_at, last_word, position_at, end_at, end_word, bit_byte, bits_at, sets_of, family_of, family_words, narrowed_of, kept_of, subject_of, subject_words, switches_of, version_of, version_words, node_of, node_words, ended, certificate_of, claims_of, branch_of, no_point_of, no_relation_of, world_of, holds_of, fails_of, end_of, rest_of, kind_word, all_kinds, kind_in, cert_line_of_words, cert_line_of, cert_words, cert_text, IsSmallFamily, IsSmallSubject, IsCertLine, IdsFromOne}
use Rattle.cert_text.proofs.WordLemmas.{AreSmall}
use Rattle.cert_text.proofs.ReadLemmas.{taken-read, small-read, large-read, clause-read, switch-read, relation-read, last-read, position-read, bits-read, end-read, is_word, find-passes, sets-read}

-- words that some pieces and the words after them are
abbrev IsNode : List (List ℕ) → (ℕ × Option Rel) × List (List ℕ) → Type 0
IsNode words y = (words ≡ node_words y.0.0 y.0.1 ++ y.1) × (y.0.0 < 2 ^ 32)

node-read : (words : List (List ℕ)) (y : (ℕ × Option Rel) × List (List ℕ)) → node_of words ≡ Ok y → IsNode words y
unfolding node_of
node-read words y e =
    let depth = bind_ok (λ depth. taken last_at depth.1 >>= λ last. Ok ((depth.0, last.0), last.1)) (taken (item_at small_in) words) y e in
    let last = bind_ok (λ last. Ok ((depth.0.0, last.0), last.1)) (taken last_at depth.0.1) y depth.2 in
    let first = taken-read (item_at small_in) decimal (λ n. n < 2 ^ 32) small-read words depth.0 depth.1 in
    let second = taken-read last_at last_word (λ _. ⊤) last-read depth.0.1 last.0 last.1 in
    subst (IsNode words) (ok_same ((depth.0.0, last.0.0), last.0.1) y last.2) (first.0 ∙ ap (λ ws. decimal depth.0.0 ∷ ws) second.0, first.1)

abbrev AreSwitches : List (List ℕ) → Switches × List (List ℕ) → Type 0
AreSwitches words y = words ≡ switch_word y.0.nonempty ∷ switch_word y.0.sibling ∷ switch_word y.0.coverage ∷ y.1

switches-read : (words : List (List ℕ)) (y : Switches × List (List ℕ)) → switches_of words ≡ Ok y → AreSwitches words y
unfolding switches_of
switches-read words y e =
    let a = bind_ok (λ nonempty. taken switch_at nonempty.1 >>= λ sibling. taken switch_at sibling.1 >>= λ coverage.
    Ok (record { nonempty = nonempty.0; sibling = sibling.0; coverage = coverage.0 }, coverage.1)) (taken switch_at words) y e in
    let b = bind_ok (λ sibling. taken switch_at sibling.1 >>= λ coverage. Ok (record { nonempty = a.0.0; sibling = sibling.0; coverage = coverage.0 }, coverage.1)) (taken switch_at a.0.1) y a.2 in
    let c = bind_ok (λ coverage. Ok (record { nonempty = a.0.0; sibling = b.0.0; coverage = coverage.0 }, coverage.1)) (taken switch_at b.0.1) y b.2 in
    let first = (taken-read switch_at switch_word (λ _. ⊤) switch-read words a.0 a.1).0 in
    let second = (taken-read switch_at switch_word (λ _. ⊤) switch-read a.0.1 b.0 b.1).0 in
    let third = (taken-read switch_at switch_word (λ _. ⊤) switch-read b.0.1 c.0 c.1).0 in
    subst (AreSwitches words) (ok_same (record { nonempty = a.0.0; sibling = b.0.0; coverage = c.0.0 }, c.0.1) y c.2)
    (first ∙ ap (λ ws. switch_word a.0.0 ∷ ws) second ∙ ap (λ ws. switch_word a.0.0 ∷ switch_word b.0.0 ∷ ws) third)

version-cases : (word : List ℕ) (words : List (List ℕ)) (y : Switches × List (List ℕ)) (b : Bool) → bytes_eq word (codes "1") ≡ b → cond b (switches_of words) (Err BadLine) ≡ Ok y →
    word ∷ words ≡ version_words y.0 ++ y.1
version-cases word words y true same e = ap (λ w. w ∷ words) (is_word word (codes "1") same) ∙ ap (λ ws. codes "1" ∷ ws) (switches-read words y e)
version-cases word words y false same e = absurd (cc)

version-read : (words : List (List ℕ)) (y : Switches × List (List ℕ)) → version_of words ≡ Ok y → words ≡ version_words y.0 ++ y.1
unfolding version_of
version-read [] y e = absurd (cc)
version-read (word ∷ words) y e = version-cases word words y (bytes_eq word (codes "1")) refl e

from_small : (sets : List (List ℕ)) → AllByRecursion AreSmall sets → AllByRecursion (λ set. All (λ x. x < 2 ^ 32) set) sets
from_small [] h = tt
from_small (set ∷ sets) h = (All-from_recursion (λ x. x < 2 ^ 32) set h.0, from_small sets h.1)

abbrev IsFamily : List (List ℕ) → Family → Type 0
IsFamily words f = (words ≡ family_words f) × IsSmallFamily f

family-read : (words : List (List ℕ)) (f : Family) → family_of words ≡ Ok f → IsFamily words f
unfolding family_of
family-read words f e =
    let universe = bind_ok (λ universe. sets_of universe.1 >>= λ sets. Ok (record { universe = universe.0; sets = sets })) (taken (item_at small_in) words) f e in
    let sets = bind_ok (λ sets. Ok (record { universe = universe.0.0; sets = sets })) (sets_of universe.0.1) f universe.2 in
    let first = taken-read (item_at small_in) decimal (λ n. n < 2 ^ 32) small-read words universe.0 universe.1 in
    let others = sets-read universe.0.1 sets.0 sets.1 in
    subst (IsFamily words) (ok_same (record { universe = universe.0.0; sets = sets.0 }) f sets.2)
    (first.0 ∙ ap (λ ws. decimal universe.0.0 ∷ ws) others.0, (first.1, All-from_recursion (λ set. All (λ x. x < 2 ^ 32) set) sets.0 (from_small sets.0 others.1)))

abbrev IsSubject : List (List ℕ) → Subject × List (List ℕ) → Type 0
IsSubject words y = (words ≡ subject_words y.0 ++ y.1) × IsSmallSubject y.0

narrowed-read : (words : List (List ℕ)) (y : Subject × List (List ℕ)) → narrowed_of words ≡ Ok y → IsSubject (codes "m" ∷ words) y
unfolding narrowed_of
narrowed-read words y e =
    let pair = bind_ok (λ pair. taken relation_at pair.1 >>= λ rel. Ok (Narrowed pair.0 rel.0, rel.1)) (taken (item_at small_in) words) y e in
    let rel = bind_ok (λ rel. Ok (Narrowed pair.0.0 rel.0, rel.1)) (taken relation_at pair.0.1) y pair.2 in
    let first = taken-read (item_at small_in) decimal (λ n. n < 2 ^ 32) small-read words pair.0 pair.1 in
    let second = taken-read relation_at (λ rel. letter_of rel ∷ []) (λ _. ⊤) relation-read pair.0.1 rel.0 rel.1 in
    subst (IsSubject (codes "m" ∷ words)) (ok_same (Narrowed pair.0.0 rel.0.0, rel.0.1) y rel.2)
    (ap (λ ws. codes "m" ∷ ws) (first.0 ∙ ap (λ ws. decimal pair.0.0 ∷ ws) second.0), first.1)

kept-read : (words : List (List ℕ)) (y : Subject × List (List ℕ)) → kept_of words ≡ Ok y → IsSubject (codes "a" ∷ words) y
unfolding kept_of
kept-read words y e =
    let bits = bind_ok (λ bits. Ok (Kept bits.0, bits.1)) (taken bits_at words) y e in
    let first = taken-read bits_at (spelled bit_byte) (λ _. ⊤) bits-read words bits.0 bits.1 in
    subst (IsSubject (codes "a" ∷ words)) (ok_same (Kept bits.0.0, bits.0.1) y bits.2) (ap (λ ws. codes "a" ∷ ws) first.0, tt)

subject-cases : (word : List ℕ) (words : List (List ℕ)) (y : Subject × List (List ℕ)) (m a : Bool) → bytes_eq word (codes "m") ≡ m → bytes_eq word (codes "a") ≡ a →
    cond m (narrowed_of words) (cond a (kept_of words) (Err BadLine)) ≡ Ok y → IsSubject (word ∷ words) y
subject-cases word words y true a is_m is_a e = subst (λ w. IsSubject (w ∷ words) y) (sym (is_word word (codes "m") is_m)) (narrowed-read words y e)
subject-cases word words y false true is_m is_a e = subst (λ w. IsSubject (w ∷ words) y) (sym (is_word word (codes "a") is_a)) (kept-read words y e)
subject-cases word words y false false is_m is_a e = absurd (cc)

subject-read : (words : List (List ℕ)) (y : Subject × List (List ℕ)) → subject_of words ≡ Ok y → IsSubject words y
unfolding subject_of
subject-read [] y e = absurd (cc)
subject-read (word ∷ words) y e = subject-cases word words y (bytes_eq word (codes "m")) (bytes_eq word (codes "a")) refl refl e

ended-read : (words : List (List ℕ)) (line read : CertLine) → ended words line ≡ Ok read → (words ≡ []) × (line ≡ read)
ended-read [] line read e = (refl, ok_same line read e)
ended-read (word ∷ words) line read e = absurd (cc)

-- words that are read as a line are its words
abbrev IsRead : List (List ℕ) → CertLine → Type 0
IsRead words line = (words ≡ cert_words line) × IsCertLine line

certificate-read : (words : List (List ℕ)) (line : CertLine) → certificate_of words ≡ Ok line → IsRead (codes "certificate" ∷ words) line
unfolding certificate_of
certificate-read words line e =
    let s = bind_ok (λ switches. taken position_at switches.1 >>= λ from. ended from.1 (Certificate switches.0 from.0)) (version_of words) line e in
    let q = bind_ok (λ from. ended from.1 (Certificate s.0.0 from.0)) (taken position_at s.0.1) line s.2 in
    let end = ended-read q.0.1 (Certificate s.0.0 q.0.0) line q.2 in
    let front = version-read words s.0 s.1 in
    let from = (taken-read position_at position_word (λ _. ⊤) position-read s.0.1 q.0 q.1).0 in
    subst (IsRead (codes "certificate" ∷ words)) end.1
    (ap (λ ws. codes "certificate" ∷ ws) (front ∙ ap (λ ws. version_words s.0.0 ++ ws) (from ∙ ap (λ ws. position_word q.0.0 ∷ ws) end.0)), tt)

claims-read : (words : List (List ℕ)) (line : CertLine) → claims_of words ≡ Ok line → IsRead (codes "claims" ∷ words) line
unfolding claims_of
claims-read words line e =
    let s = bind_ok (λ switches. ended switches.1 (Claims switches.0)) (version_of words) line e in
    let end = ended-read s.0.1 (Claims s.0.0) line s.2 in
    subst (IsRead (codes "claims" ∷ words)) end.1 (ap (λ ws. codes "claims" ∷ ws) (version-read words s.0 s.1 ∙ ap (λ ws. version_words s.0.0 ++ ws) end.0), tt)

branch-read : (words : List (List ℕ)) (line : CertLine) → branch_of words ≡ Ok line → IsRead (codes "b" ∷ words) line
unfolding branch_of
branch-read words line e =
    let node = bind_ok (λ node. ended node.1 (Branch node.0.0 node.0.1)) (node_of words) line e in
    let end = ended-read node.0.1 (Branch node.0.0.0 node.0.0.1) line node.2 in
    let front = node-read words node.0 node.1 in
    subst (IsRead (codes "b" ∷ words)) end.1 (ap (λ ws. codes "b" ∷ ws) (front.0 ∙ ap (λ ws. node_words node.0.0.0 node.0.0.1 ++ ws) end.0), front.1)

no_point-read : (words : List (List ℕ)) (line : CertLine) → no_point_of words ≡ Ok line → IsRead (codes "x" ∷ words) line
unfolding no_point_of
no_point-read words line e =
    let node = bind_ok (λ node. taken (item_at large_in) node.1 >>= λ need. taken (item_at id_in) need.1 >>= λ clause. ended clause.1 (NoPoint node.0.0 node.0.1 need.0 clause.0)) (node_of words) line e in
    let depth = node.0.0.0 in
    let last = node.0.0.1 in
    let need = bind_ok (λ need. taken (item_at id_in) need.1 >>= λ clause. ended clause.1 (NoPoint depth last need.0 clause.0)) (taken (item_at large_in) node.0.1) line node.2 in
    let clause = bind_ok (λ clause. ended clause.1 (NoPoint depth last need.0.0 clause.0)) (taken (item_at id_in) need.0.1) line need.2 in
    let end = ended-read clause.0.1 (NoPoint depth last need.0.0 clause.0.0) line clause.2 in
    let front = node-read words node.0 node.1 in
    let second = taken-read (item_at large_in) decimal (λ n. n < 2 ^ 64) large-read node.0.1 need.0 need.1 in
    let third = taken-read (item_at id_in) decimal IsId clause-read need.0.1 clause.0 clause.1 in
    subst (IsRead (codes "x" ∷ words)) end.1
    (ap (λ ws. codes "x" ∷ ws) (front.0 ∙ ap (λ ws. node_words depth last ++ ws) (second.0 ∙ ap (λ ws. decimal need.0.0 ∷ ws) (third.0 ∙ ap (λ ws. decimal clause.0.0 ∷ ws) end.0))), (front.1, second.1, third.1))

no_relation-read : (words : List (List ℕ)) (line : CertLine) → no_relation_of words ≡ Ok line → IsRead (codes "e" ∷ words) line
unfolding no_relation_of
no_relation-read words line e =
    let node = bind_ok (λ node. taken (item_at small_in) node.1 >>= λ pair. ended pair.1 (NoRelation node.0.0 node.0.1 pair.0)) (node_of words) line e in
    let depth = node.0.0.0 in
    let last = node.0.0.1 in
    let pair = bind_ok (λ pair. ended pair.1 (NoRelation depth last pair.0)) (taken (item_at small_in) node.0.1) line node.2 in
    let end = ended-read pair.0.1 (NoRelation depth last pair.0.0) line pair.2 in
    let front = node-read words node.0 node.1 in
    let second = taken-read (item_at small_in) decimal (λ n. n < 2 ^ 32) small-read node.0.1 pair.0 pair.1 in
    subst (IsRead (codes "e" ∷ words)) end.1
    (ap (λ ws. codes "e" ∷ ws) (front.0 ∙ ap (λ ws. node_words depth last ++ ws) (second.0 ∙ ap (λ ws. decimal pair.0.0 ∷ ws) end.0)), (front.1, second.1))

world-read : (words : List (List ℕ)) (line : CertLine) → world_of words ≡ Ok line → IsRead (codes "w" ∷ words) line
unfolding world_of
world-read words line e =
    let node = bind_ok (λ node. family_of node.1 >>= λ family. Ok (World node.0.0 node.0.1 family)) (node_of words) line e in
    let family = bind_ok (λ family. Ok (World node.0.0.0 node.0.0.1 family)) (family_of node.0.1) line node.2 in
    let front = node-read words node.0 node.1 in
    let back = family-read node.0.1 family.0 family.1 in
    subst (IsRead (codes "w" ∷ words)) (ok_same (World node.0.0.0 node.0.0.1 family.0) line family.2)
    (ap (λ ws. codes "w" ∷ ws) (front.0 ∙ ap (λ ws. node_words node.0.0.0 node.0.0.1 ++ ws) back.0), (front.1, back.1))

holds-read : (words : List (List ℕ)) (line : CertLine) → holds_of words ≡ Ok line → IsRead (codes "some" ∷ words) line
unfolding holds_of
holds-read words line e =
    let subject = bind_ok (λ subject. family_of subject.1 >>= λ family. Ok (Holds subject.0 family)) (subject_of words) line e in
    let family = bind_ok (λ family. Ok (Holds subject.0.0 family)) (family_of subject.0.1) line subject.2 in
    let front = subject-read words subject.0 subject.1 in
    let back = family-read subject.0.1 family.0 family.1 in
    subst (IsRead (codes "some" ∷ words)) (ok_same (Holds subject.0.0 family.0) line family.2)
    (ap (λ ws. codes "some" ∷ ws) (front.0 ∙ ap (λ ws. subject_words subject.0.0 ++ ws) back.0), (front.1, back.1))

fails-read : (words : List (List ℕ)) (line : CertLine) → fails_of words ≡ Ok line → IsRead (codes "none" ∷ words) line
unfolding fails_of
fails-read words line e =
    let subject = bind_ok (λ subject. ended subject.1 (Fails subject.0)) (subject_of words) line e in
    let end = ended-read subject.0.1 (Fails subject.0.0) line subject.2 in
    let front = subject-read words subject.0 subject.1 in
    subst (IsRead (codes "none" ∷ words)) end.1
    (ap (λ ws. codes "none" ∷ ws) (front.0 ∙ ap (λ ws. subject_words subject.0.0 ++ ws) end.0 ∙ append-nil (subject_words subject.0.0)), front.1)

end-line-read : (words : List (List ℕ)) (line : CertLine) → end_of words ≡ Ok line → IsRead (codes "end" ∷ words) line
unfolding end_of
end-line-read words line e =
    let to = bind_ok (λ to. ended to.1 (End to.0)) (taken end_at words) line e in
    let end = ended-read to.0.1 (End to.0.0) line to.2 in
    let first = (taken-read end_at end_word (λ _. ⊤) end-read words to.0 to.1).0 in
    subst (IsRead (codes "end" ∷ words)) end.1 (ap (λ ws. codes "end" ∷ ws) (first ∙ ap (λ ws. end_word to.0.0 ∷ ws) end.0), tt)

rest-read : (k : LineKind) (words : List (List ℕ)) (line : CertLine) → rest_of k words ≡ Ok line → IsRead (kind_word k ∷ words) line
rest-read kind.Certificate words line e = certificate-read words line e
rest-read kind.Claims words line e = claims-read words line e
rest-read kind.Derive words line e =
    let read = bind_ok (λ line. Ok (Proof line)) (derive_of words) line e in
    subst (IsRead (codes "d" ∷ words)) (ok_same (Proof read.0) line read.2) (derive_of-read words read.0 read.1)
rest-read kind.Forget words line e =
    let read = bind_ok (λ line. Ok (Proof line)) (forget_of words) line e in
    subst (IsRead (codes "k" ∷ words)) (ok_same (Proof read.0) line read.2) (forget_of-read words read.0 read.1)
rest-read kind.Branch words line e = branch-read words line e
rest-read kind.NoPoint words line e = no_point-read words line e
rest-read kind.NoRelation words line e = no_relation-read words line e
rest-read kind.World words line e = world-read words line e
rest-read kind.Holds words line e = holds-read words line e
rest-read kind.Fails words line e = fails-read words line e
rest-read kind.End words line e = end-line-read words line e
rest-read kind.Quit words line e =
    let end = ended-read words Quit line e in
    subst (IsRead (codes "quit" ∷ words)) end.1 (ap (λ ws. codes "quit" ∷ ws) end.0, tt)
rest-read kind.Done words line e =
    let end = ended-read words Done line e in
    subst (IsRead (codes "done" ∷ words)) end.1 (ap (λ ws. codes "done" ∷ ws) end.0, tt)

kind-found : (o : Option LineKind) (k : LineKind) → ok_or {E = LineTextFault} o BadLine ≡ Ok k → o ≡ Some k
kind-found None k e = absurd (cc)
kind-found (Some j) k e = ap Some (ok_same j k e)

kind_in-read : (word : List ℕ) (k : LineKind) → kind_in word ≡ Some k → word ≡ kind_word k
unfolding kind_in
kind_in-read word k e = is_word word (kind_word k) (find-passes (λ kind. bytes_eq word (kind_word kind)) all_kinds k e)

words-read : (words : List (List ℕ)) (line : CertLine) → cert_line_of_words words ≡ Ok line → IsRead words line
unfolding cert_line_of_words
words-read [] line e = absurd (cc)
words-read (word ∷ words) line e =
    let k = bind_ok (λ kind. rest_of kind words) (ok_or (kind_in word) BadLine) line e in
    subst (λ w. IsRead (w ∷ words) line) (sym (kind_in-read word k.0 (kind-found (kind_in word) k.0 k.1))) (rest-read k.0 words line k.2)

-- bytes that are read as a line are its text, and the line has one
pub cert_line_of-read : (bytes : List ℕ) (line : CertLine) → cert_line_of bytes ≡ Ok line → (bytes ≡ cert_text line) × IsCertLine line
cert_line_of-read bytes line e =
    let read = words-read (words_of 32 bytes) line e in
    (sym (join_with_byte-slice_split 32 bytes) ∙ ap (λ ws. join_with_byte 32 ws) read.0, read.1)

proof_ids : (line : Line) → IsLine line → FromOne line
proof_ids (Derive id lits hints) h = (h.0.0, λ k d within. (h.2 k d within).0)
proof_ids (Forget ids) h = λ k d within. (h k d within).0

-- a line that a text may have has ids from 1
pub has_ids : (line : CertLine) → IsCertLine line → IdsFromOne line
has_ids (Certificate switches from) h = tt
has_ids (Claims switches) h = tt
has_ids (Proof line) h = proof_ids line h
has_ids (Branch depth last) h = tt
has_ids (NoPoint depth last need clause) h = h.2.0
has_ids (NoRelation depth last pair) h = tt
has_ids (World depth last family) h = tt
has_ids (Holds subject family) h = tt
has_ids (Fails subject) h = tt
has_ids (End to) h = tt
has_ids Quit h = tt
has_ids Done h = tt

-- what a call that reads bytes as a line answers
pub gives_text : (bytes : List ℕ) (r : Result CertLine LineTextFault) → Gives (λ line. line) r (cert_line_of bytes) → IfOk r (λ line. bytes ≡ cert_text line)
gives_text bytes (Ok line) e = (cert_line_of-read bytes line e).0
gives_text bytes (Err k) e = tt

pub gives_ids : (bytes : List ℕ) (r : Result CertLine LineTextFault) → Gives (λ line. line) r (cert_line_of bytes) → IfOk r IdsFromOne
gives_ids bytes (Ok line) e = has_ids line (cert_line_of-read bytes line e).1
gives_ids bytes (Err k) e = tt
