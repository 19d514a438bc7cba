-- What a node allows a pair: two look-ups.
use Rattle.std.proofs.Common.{◌≡◌, ℕ, ◌<◌, zero, suc, List, [], ◌∷◌, ◌++◌, length, map, get_or, Option, Some, None, refl, sym, ap, ◌∙◌, subst, arith, append_assoc, append-nil}
use Rattle.std.specs.Prelude.{slice_get, option_and_then}
use Rattle.std.proofs.lemmas.Option.{slice_get_within, slice_get-get_or, slice_get_read}
use Rattle.std.proofs.lemmas.List.{length-map}
use Rattle.rcc5_core.specs.declared.Rel.{Rel}
use Rattle.rcc5_core.specs.declared.Rel.TheVariants.{Equals}
use Rattle.rcc5_core.specs.RelationSet.{both_of, only}
use Rattle.world_model.specs.Problem.{Problem, pairs, pair_count, narrowed}
use Rattle.world_model.specs.Alive.{allowed, narrowings_at}
use Rattle.world_model.specs.Node.{pair_at}
use Rattle.world_model.specs.Laws.{PairsStandOnce}
use Rattle.cert_rules.specs.Trees.{Branching, sets_of}
use Rattle.cert_rules.specs.FromTheEnd.{set_at}
use Rattle.cert_rules.proofs.NodeProblems.{children_narrow_law}
use Rattle.cert_tree.specs.Levels.{AreLevels, depth_of, narrowed_set}

-- a problem narrowed along a path
abbrev pub along : Problem → List (ℕ × ℕ) → List Rel → Problem
along q levels m = record q { narrowings = q.narrowings ++ narrowings_at levels m }

one_more : (q : Problem) (pair : ℕ × ℕ) (levels : List (ℕ × ℕ)) (rel : Rel) (m : List Rel) → along q (pair ∷ levels) (rel ∷ m) ≡ along (narrowed q pair (only rel)) levels m
one_more q pair levels rel m =
    ap {B = Problem} (λ ns. record q { narrowings = ns }) (sym (append_assoc q.narrowings (record { left = pair.0; right = pair.1; set = only rel } ∷ []) (narrowings_at levels m)))

no_more : (q : Problem) (pair : ℕ × ℕ) → allowed (record q { narrowings = q.narrowings ++ [] }) pair ≡ allowed q pair
no_more q pair = ap (λ ns. allowed (record q { narrowings = ns }) pair) (append-nil q.narrowings)

-- a pair off the path is not narrowed
pub untouched : (q : Problem) (levels : List (ℕ × ℕ)) (m : List Rel) (pair : ℕ × ℕ) → ((d : ℕ) (other : ℕ × ℕ) → d < length m → slice_get levels d ≡ Some other → other ≡ pair → ⊥) →
    allowed (along q levels m) pair ≡ allowed q pair
untouched q [] m pair apart = no_more q pair
untouched q (level ∷ levels) [] pair apart = no_more q pair
untouched q (level ∷ levels) (rel ∷ m) pair apart =
    ap (λ q. allowed q pair) (one_more q level levels rel m)
    ∙ untouched (narrowed q level (only rel)) levels m pair (λ d other short at same. apart (suc d) other (omega arith) at same)
    ∙ children_narrow_law.others q level pair (only rel) (λ same. apart 0 level (omega arith) refl (sym same))

-- a pair on the path, which stands in it once, is narrowed to the relation there
pub touched : (q : Problem) (levels : List (ℕ × ℕ)) (m : List Rel) (pair : ℕ × ℕ) (d : ℕ) (rel : Rel) → slice_get levels d ≡ Some pair → slice_get m d ≡ Some rel →
    ((e : ℕ) (other : ℕ × ℕ) → e < length m → (e ≡ d → ⊥) → slice_get levels e ≡ Some other → other ≡ pair → ⊥) →
    allowed (along q levels m) pair ≡ both_of (allowed q pair) (only rel)
touched q [] m pair d rel at got apart = cc
touched q (level ∷ levels) [] pair d rel at got apart = cc
touched q (level ∷ levels) (r ∷ m) pair zero rel at got apart =
    let this : level ≡ pair = cc in
    let same : r ≡ rel = cc in
    ap (λ q. allowed q pair) (one_more q level levels r m)
    ∙ untouched (narrowed q level (only r)) levels m pair (λ e other short at same. apart (suc e) other (omega arith) (λ z. absurd (omega (arith, z))) at same)
    ∙ subst (λ level. allowed (narrowed q level (only r)) pair ≡ both_of (allowed q pair) (only rel)) (sym this)
    (children_narrow_law.own q pair (only r) ∙ ap (λ r. both_of (allowed q pair) (only r)) same)
touched q (level ∷ levels) (r ∷ m) pair (suc d) rel at got apart =
    ap (λ q. allowed q pair) (one_more q level levels r m)
    ∙ touched (narrowed q level (only r)) levels m pair d rel at got (λ e other short differ at same. apart (suc e) other (omega arith) (λ z. differ (omega (arith, z))) at same)
    ∙ ap (λ set. both_of set (only rel)) (children_narrow_law.others q level pair (only r) (λ same. apart 0 level (omega arith) (λ z. absurd (omega (arith, z))) refl (sym same)))

got_mapped : (f : ℕ → ℕ × ℕ) (xs : List ℕ) (d : ℕ) (y : ℕ × ℕ) → slice_get (map f xs) d ≡ Some y → (x : ℕ) × (slice_get xs d ≡ Some x) × (f x ≡ y)
got_mapped f [] d y e = cc
got_mapped f (x ∷ xs) zero y e = (x, refl, cc)
got_mapped f (x ∷ xs) (suc d) y e = got_mapped f xs d y e

pub mapped_got : (f : ℕ → ℕ × ℕ) (xs : List ℕ) (d : ℕ) (x : ℕ) → slice_get xs d ≡ Some x → slice_get (map f xs) d ≡ Some (f x)
mapped_got f [] d x e = cc
mapped_got f (y ∷ xs) zero x e = let same : y ≡ x = cc in ap (λ x. Some (f x)) same
mapped_got f (y ∷ xs) (suc d) x e = mapped_got f xs d x e

-- a level at which a pair stands is the one that is known of it
known : PairsStandOnce → (q : Problem) (list : List ℕ) (depths : List (Option ℕ)) (k : ℕ) → AreLevels q list depths → k < pair_count q →
    (d : ℕ) (other : ℕ × ℕ) → slice_get (map (pair_at q) list) d ≡ Some other → other ≡ pair_at q k → depth_of depths k ≡ Some d
known law q list depths k are within d other at same =
    let got = got_mapped (pair_at q) list d other at in
    let kept = are.depths_are.kept got.0 d got.1 in
    let inside : got.0 < pair_count q = omega (arith, slice_get_within depths got.0 (Some d) kept, are.within) in
    subst (λ j. depth_of depths j ≡ Some d) (law.once q got.0 k inside within (got.2 ∙ same)) (ap (option_and_then (λ depth. depth)) kept)

found_at : (depth : Option (Option ℕ)) (d : ℕ) → option_and_then (λ depth. depth) depth ≡ Some d → depth ≡ Some (Some d)
found_at None d e = cc
found_at (Some depth) d e = ap Some e

-- what a node allows a pair, by the pair's depth
pub allowed_by_depth : PairsStandOnce → (q : Problem) (list : List ℕ) (depths : List (Option ℕ)) (m : List Rel) (k : ℕ) (depth : Option ℕ) → AreLevels q list depths → k < pair_count q →
    depth_of depths k ≡ depth →
    narrowed_set (allowed q (pair_at q k)) (option_and_then (slice_get m) depth) ≡ allowed (along q (map (pair_at q) list) m) (pair_at q k)
allowed_by_depth law q list depths m k None are within at =
    sym (untouched q (map (pair_at q) list) m (pair_at q k) (λ d other short got same.
    let no : None ≡ Some d = sym at ∙ known law q list depths k are within d other got same in absurd cc))
allowed_by_depth law q list depths m k (Some d) are within at = by (slice_get m d) refl
  where
    only_there : (e : ℕ) (other : ℕ × ℕ) → slice_get (map (pair_at q) list) e ≡ Some other → other ≡ pair_at q k → e ≡ d
    only_there e other got same = let is : Some e ≡ Some d = sym (known law q list depths k are within e other got same) ∙ at in cc

    by : (rel : Option Rel) → slice_get m d ≡ rel → narrowed_set (allowed q (pair_at q k)) rel ≡ allowed (along q (map (pair_at q) list) m) (pair_at q k)
    by None none = sym (untouched q (map (pair_at q) list) m (pair_at q k) (λ e other short got same.
        let here : e ≡ d = only_there e other got same in
        let some : slice_get m e ≡ Some (get_or m e Equals) = slice_get-get_or m e Equals short in
        let no : None ≡ Some (get_or m e Equals) = sym none ∙ ap (slice_get m) (sym here) ∙ some in
        absurd cc))
    by (Some rel) some = sym (touched q (map (pair_at q) list) m (pair_at q k) d rel (mapped_got (pair_at q) list d k (are.depths_are.found k d (found_at (slice_get depths k) d at))) some
        (λ e other short differ got same. differ (only_there e other got same)))

-- a tree by its parts
abbrev pub tree_with : Problem → List ℕ → List Rel → Branching
tree_with q list from = record { subject = q; levels = map (pair_at q) list; from = from }

pub depth_within : (q : Problem) (list : List ℕ) (from : List Rel) (tree : Branching) (d : ℕ) → tree_with q list from ≡ tree → d < length tree.levels → d < length list
depth_within q list from tree d is short = let counted = ap (λ t. length t.levels) is in omega (arith, short, counted, length-map list (pair_at q))

pub level_within : (q : Problem) (list : List ℕ) (depths : List (Option ℕ)) (d k : ℕ) → AreLevels q list depths → d < length list → k ≡ get_or list d k → k < pair_count q
level_within q list depths d k are within read =
    let kept = are.depths_are.kept k d (slice_get_read list (length list) d k refl within read) in omega (arith, slice_get_within depths k (Some d) kept, are.within)

-- the pair and the set of a depth
pub level_pair : (q : Problem) (list : List ℕ) (d k : ℕ) → d < length list → k ≡ get_or list d k → slice_get (map (pair_at q) list) d ≡ Some (pair_at q k)
level_pair q list d k within read = mapped_got (pair_at q) list d k (slice_get_read list (length list) d k refl within read)

set_of_pair : (q : Problem) (pairs : List (ℕ × ℕ)) (d : ℕ) (pair : ℕ × ℕ) → slice_get pairs d ≡ Some pair → set_at (map (allowed q) pairs) d ≡ allowed q pair
set_of_pair q [] d pair e = cc
set_of_pair q (other ∷ pairs) zero pair e = let same : other ≡ pair = cc in ap (allowed q) same
set_of_pair q (other ∷ pairs) (suc d) pair e = set_of_pair q pairs d pair e

pub level_set : (q : Problem) (list : List ℕ) (from : List Rel) (d k : ℕ) → d < length list → k ≡ get_or list d k → set_at (sets_of (tree_with q list from)) d ≡ allowed q (pair_at q k)
level_set q list from d k within read = set_of_pair q (map (pair_at q) list) d (pair_at q k) (level_pair q list d k within read)
