-- Paths, their relations at a depth, and how tables that leave them stand to them.
use Rattle.std.proofs.Common.{◌≡◌, ℕ, ◌<◌, ◌≤◌, ◌+◌, Bool, true, false, List, [], ◌∷◌, ◌++◌, take, drop, length, length-append, append-nil, zero, suc, refl, sym, ap, ◌∙◌, subst, arith}
use Rattle.std.specs.Prelude.{IsTrue}
use Rattle.std.proofs.lemmas.Bool.{true≢false}
use Rattle.std.proofs.lemmas.List.{take-append-drop, take-append-le, drop_more, length-take-le, get_or-take, get_or_append_left, take_all}
use Rattle.std.proofs.Math.Seq.{get_or-append_seam}
use Rattle.rcc5_core.specs.declared.Rel.{Rel}
use Rattle.rcc5_core.specs.declared.Rel.TheVariants.{Equals}
use Rattle.rcc5_core.specs.Relation.{rank_of}
use Rattle.world_model.specs.Listing.{is_below, rel_at}
use Rattle.world_model.proofs.OrderPositions.{below_itself, below_apart, below_longer, below_branch, below_upto}

-- a path is its part above a depth, the relation there, and the rest
pub cut_at : (m : List Rel) (k : ℕ) → k < length m → m ≡ take k m ++ rel_at m k ∷ drop (k + 1) m
cut_at m k within = sym (take-append-drop k m) ∙ ap (λ xs. take k m ++ xs) (drop_more m k Equals within)

-- the path that turns off at a depth
abbrev pub turned : List Rel → ℕ → Rel → List Rel
turned m k r = take k m ++ r ∷ []

pub turned_length : (m : List Rel) (k : ℕ) (r : Rel) → k < length m → length (turned m k r) ≡ k + 1
turned_length m k r within =
    length-append (take k m) (r ∷ []) ∙ ap (λ n. n + 1) (length-take-le k m (omega arith))

-- above that depth it is as before
pub turned_take : (m : List Rel) (k j : ℕ) (r : Rel) → k < length m → j ≤ k → take j (turned m k r) ≡ take j m
turned_take m k j r within upto =
    let long : length (take k m) ≡ k = length-take-le k m (omega arith) in
    take-append-le j (take k m) (r ∷ []) (omega arith) ∙ short m k j upto
  where
    short : (m : List Rel) (k j : ℕ) → j ≤ k → take j (take k m) ≡ take j m
    short [] k j h = ap (take j) (take_all k [] (omega arith))
    short (x ∷ m) k zero h = refl
    short (x ∷ m) zero (suc j) h = absurd (omega arith)
    short (x ∷ m) (suc k) (suc j) h = ap (λ xs. x ∷ xs) (short m k j (omega arith))

pub turned_before : (m : List Rel) (k j : ℕ) (r : Rel) → k < length m → j < k → rel_at (turned m k r) j ≡ rel_at m j
turned_before m k j r within less =
    let long : length (take k m) ≡ k = length-take-le k m (omega arith) in
    get_or_append_left (take k m) (r ∷ []) Equals j (omega arith) ∙ get_or-take k m j Equals less

pub turned_there : (m : List Rel) (k : ℕ) (r : Rel) → k < length m → rel_at (turned m k r) k ≡ r
turned_there m k r within =
    let long : length (take k m) ≡ k = length-take-le k m (omega arith) in
    ap (λ n. rel_at (turned m k r) n) (sym long) ∙ get_or-append_seam (take k m) r [] Equals

-- a later turn comes behind the path
pub turned_below : (m : List Rel) (k : ℕ) (r : Rel) (rest : List Rel) → k < length m → rank_of (rel_at m k) < rank_of r → IsTrue (is_below m (take k m ++ r ∷ rest))
turned_below m k r rest within less =
    subst (λ x. IsTrue (is_below x (take k m ++ r ∷ rest))) (sym (cut_at m k within)) (below_branch (take k m) (rel_at m k) r (drop (k + 1) m) rest less)

-- a position is not below its prefix
pub upto_prefix : (c rest : List Rel) → is_below (c ++ rest) c ≡ false
upto_prefix c [] = ap (λ x. is_below x c) (append-nil c) ∙ below_itself c
upto_prefix c (r ∷ rest) = below_apart c (c ++ r ∷ rest) (below_longer c r rest)

-- what is behind a prefix and what is behind its lengthening
pub upto_longer : (c : List Rel) (t : List Rel) (rest : List Rel) → is_below t (c ++ rest) ≡ false → is_below t c ≡ false
upto_longer c t rest h = by (is_below t c) refl
  where
    by : (b : Bool) → is_below t c ≡ b → is_below t c ≡ false
    by true e = absurd (true≢false (sym (below_upto t c (c ++ rest) e (upto_prefix c rest)) ∙ h))
    by false e = e
