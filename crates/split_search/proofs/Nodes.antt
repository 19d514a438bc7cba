-- The problems along a path, the pairs of its depths, and where it goes on.
use Rattle.std.proofs.Common.{◌≡◌, ℕ, zero, suc, ◌+◌, ◌-◌, ◌<◌, ◌≤◌, Bool, true, false, not, ◌||◌, List, [], ◌∷◌, ◌++◌, map, length, take, get_or, Option, Some, None, All, refl, sym, ap, ◌∙◌, arith, append_assoc, append-nil}
use Rattle.std.specs.Prelude.{slice_get, slice_index_or, is_some, IfSome}
use Rattle.std.proofs.lemmas.Option.{slice_get_read}
use Rattle.std.specs.List.{AllByRecursion}
use Rattle.std.proofs.lemmas.List.{length-map}
use Rattle.std.proofs.lemmas.List.Elements.{recursion_from_All}
use Rattle.rcc5_core.specs.declared.Rel.{Rel}
use Rattle.rcc5_core.specs.declared.RelSet.{RelSet}
use Rattle.rcc5_core.specs.RelationSet.{first_of, next_of, only, is_empty_set}
use Rattle.rcc5_core.specs.Region.{is_whole_set}
use Rattle.world_model.specs.Problem.{Problem, pairs, pair_count, narrowed}
use Rattle.world_model.specs.Alive.{allowed}
use Rattle.world_model.specs.Node.{pair_at}
use Rattle.cert_rules.specs.Order.{onward, or_later, least_from}
use Rattle.cert_rules.specs.Trees.{Branching, node_problem, sets_of}
use Rattle.cert_rules.specs.FromTheEnd.{from_after, found_or, set_at}
use Rattle.cert_rules.specs.NodeProblems.{level_at}
use Rattle.cert_rules.specs.ClaimLists.{split_pairs}
use Rattle.cert_rules.proofs.FromTheEnd.{found_from_the_end_law}
use Rattle.cert_rules.proofs.NodeProblems.{children_narrow_law}
use Rattle.split_search.specs.Walking.{split_tree, next_node, problems_from}
use Rattle.world_model.proofs.FewPoints.{filter_within}

-- there is a problem for each node on the way
pub problems_counted : (tree : Branching) (m rest : List Rel) → length (problems_from tree m rest) ≡ length rest + 1
problems_counted tree m [] = refl
problems_counted tree m (rel ∷ rest) = let more = problems_counted tree (m ++ rel ∷ []) rest in omega (arith, more)

-- the last is that of the node itself
pub problems_last : (tree : Branching) (m rest : List Rel) → slice_get (problems_from tree m rest) (length rest) ≡ Some (node_problem tree (m ++ rest))
problems_last tree m [] = ap (λ m. Some (node_problem tree m)) (sym (append-nil m))
problems_last tree m (rel ∷ rest) = problems_last tree (m ++ rel ∷ []) rest ∙ ap (λ m. Some (node_problem tree m)) (append_assoc m (rel ∷ []) rest)

-- one relation further there is one more
pub problems_more : (tree : Branching) (m rest : List Rel) (rel : Rel) →
    problems_from tree m (rest ++ rel ∷ []) ≡ problems_from tree m rest ++ node_problem tree (m ++ (rest ++ rel ∷ [])) ∷ []
problems_more tree m [] rel = refl
problems_more tree m (r ∷ rest) rel =
    ap (λ ps. node_problem tree m ∷ ps) (problems_more tree (m ++ r ∷ []) rest rel
    ∙ ap (λ n. problems_from tree (m ++ r ∷ []) rest ++ node_problem tree n ∷ []) (append_assoc m (r ∷ []) (rest ++ rel ∷ [])))

pub length_more : (m : List Rel) (rel : Rel) → length (m ++ rel ∷ []) ≡ length m + 1
length_more [] rel = refl
length_more (r ∷ m) rel = let more = length_more m rel in omega (arith, more)

take_front : {X : Type 0} (xs : List X) (x : X) → take (length xs) (xs ++ x ∷ []) ≡ xs
take_front [] x = refl
take_front (y ∷ xs) x = ap (λ ys. y ∷ ys) (take_front xs x)

-- and one relation back one less
pub problems_less : (tree : Branching) (path m : List Rel) (rel : Rel) (problems fewer : List Problem) → path ≡ m ++ rel ∷ [] → problems ≡ problems_from tree [] path →
    fewer ≡ take (length problems - 1) problems → fewer ≡ problems_from tree [] m
problems_less tree path m rel problems fewer is are cut =
    let all : problems ≡ problems_from tree [] m ++ node_problem tree (m ++ rel ∷ []) ∷ [] = are ∙ ap (problems_from tree []) is ∙ problems_more tree [] m rel in
    let counted : length problems ≡ length (problems_from tree [] path) = ap length are in
    let path_counted : length path ≡ length (m ++ rel ∷ []) = ap length is in
    let front : length problems - 1 ≡ length (problems_from tree [] m) =
    omega (arith, counted, path_counted, problems_counted tree [] path, problems_counted tree [] m, length_more m rel) in
    cut ∙ ap (λ n. take n problems) front ∙ ap (take (length (problems_from tree [] m))) all ∙ take_front (problems_from tree [] m) (node_problem tree (m ++ rel ∷ []))

-- at the root there is the problem of the tree alone
pub root_problems : (q subject copy : Problem) (path : List Rel) (none problems : List Problem) → subject ≡ q → copy ≡ q → path ≡ [] → none ≡ [] → problems ≡ none ++ copy ∷ [] →
    problems ≡ problems_from (split_tree subject) [] path
root_problems q subject copy path none problems subject_is copy_is path_is none_is are =
    are ∙ ap (λ ps. ps ++ copy ∷ []) none_is ∙ ap (λ q. q ∷ []) (copy_is ∙ sym subject_is ∙ sym (children_narrow_law.root (split_tree subject)))
    ∙ ap (problems_from (split_tree subject) []) (sym path_is)

-- the pair and the set of a depth
mapped_got : (f : ℕ → ℕ × ℕ) (xs : List ℕ) (d x : ℕ) → slice_get xs d ≡ Some x → slice_get (map f xs) d ≡ Some (f x)
mapped_got f [] d x e = cc
mapped_got f (y ∷ xs) zero x e = let same : y ≡ x = cc in ap (λ x. Some (f x)) same
mapped_got f (y ∷ xs) (suc d) x e = mapped_got f xs d x e

set_of_pair : (q : Problem) (pairs : List (ℕ × ℕ)) (d : ℕ) (pair : ℕ × ℕ) → slice_get pairs d ≡ Some pair → set_at (map (allowed q) pairs) d ≡ allowed q pair
set_of_pair q [] d pair e = cc
set_of_pair q (other ∷ pairs) zero pair e = let same : other ≡ pair = cc in ap (allowed q) same
set_of_pair q (other ∷ pairs) (suc d) pair e = set_of_pair q pairs d pair e

pair_of_got : (pairs : List (ℕ × ℕ)) (d : ℕ) (pair none : ℕ × ℕ) → slice_get pairs d ≡ Some pair → slice_index_or pairs d none ≡ pair
pair_of_got [] d pair none e = cc
pair_of_got (other ∷ pairs) zero pair none e = cc
pair_of_got (other ∷ pairs) (suc d) pair none e = pair_of_got pairs d pair none e

pub pairs_counted : (q : Problem) (list : List ℕ) → map (pair_at q) list ≡ split_pairs q → length (split_pairs q) ≡ length list
pairs_counted q list are = sym (ap length are) ∙ length-map list (pair_at q)

pub depth_set : (q : Problem) (list : List ℕ) (d k : ℕ) → map (pair_at q) list ≡ split_pairs q → d < length list → k ≡ get_or list d k → set_at (sets_of (split_tree q)) d ≡ allowed q (pair_at q k)
depth_set q list d k are within read =
    ap (λ pairs. set_at (map (allowed q) pairs) d) (sym are)
    ∙ set_of_pair q (map (pair_at q) list) d (pair_at q k) (mapped_got (pair_at q) list d k (slice_get_read list (length list) d k refl within read))

depth_pair : (q : Problem) (list : List ℕ) (d k : ℕ) → map (pair_at q) list ≡ split_pairs q → d < length list → k ≡ get_or list d k → level_at (split_tree q) d ≡ pair_at q k
depth_pair q list d k are within read =
    ap (λ pairs. slice_index_or pairs d (0, 0)) (sym are)
    ∙ pair_of_got (map (pair_at q) list) d (pair_at q k) (0, 0) (mapped_got (pair_at q) list d k (slice_get_read list (length list) d k refl within read))

-- the problem one relation further
pub child_problem : (q : Problem) (list : List ℕ) (m : List Rel) (rel : Rel) (k : ℕ) → map (pair_at q) list ≡ split_pairs q → length m < length list → k ≡ get_or list (length m) k →
    narrowed (node_problem (split_tree q) m) (pair_at q k) (only rel) ≡ node_problem (split_tree q) (m ++ rel ∷ [])
child_problem q list m rel k are within read =
    let short : length m < length (split_pairs q) = omega (arith, within, pairs_counted q list are) in
    sym (children_narrow_law.child (split_tree q) m rel short ∙ ap (λ pair. narrowed (node_problem (split_tree q) m) pair (only rel)) (depth_pair q list (length m) k are within read))

-- a place in a list, as it is read
pub got_read : {X : Type 0} (xs : List X) (k : ℕ) (x y : X) → slice_get xs k ≡ Some y → x ≡ get_or xs k x → x ≡ y
got_read [] k x y e read = cc
got_read (z ∷ xs) zero x y e read = let same : z ≡ y = cc in read ∙ same
got_read (z ∷ xs) (suc k) x y e read = got_read xs k x y e read

-- what is so anyhow is so of what was found
pub if_some_any : {X P : Type 0} (found : Option X) → P → IfSome found (λ _. P)
if_some_any None p = tt
if_some_any (Some x) p = p

pub few_split : (q : Problem) → length (split_pairs q) ≤ pair_count q
few_split q = filter_within (λ pair. not (is_empty_set (allowed q pair) || is_whole_set (allowed q pair))) (pairs q)

-- the problem of a child, put behind those on the way to its parent
pub child_added : (q : Problem) (list : List ℕ) (m path : List Rel) (rel : Rel) (k d : ℕ) (node below : Problem) (one : RelSet) (problems more : List Problem) → map (pair_at q) list ≡ split_pairs q →
    length m < length list → d ≡ length m → k ≡ get_or list d k → node ≡ node_problem (split_tree q) m → one ≡ only rel → below ≡ narrowed node (pair_at node k) one →
    problems ≡ problems_from (split_tree q) [] m → more ≡ problems ++ below ∷ [] → path ≡ m ++ rel ∷ [] → more ≡ problems_from (split_tree q) [] path
child_added q list m path rel k d node below one problems more are within depth read node_is one_is below_is problems_are more_are path_is =
    let here : k ≡ get_or list (length m) k = read ∙ ap (λ d. get_or list d k) depth in
    let child : below ≡ node_problem (split_tree q) (m ++ rel ∷ []) =
    below_is ∙ ap (λ set. narrowed node (pair_at node k) set) one_is ∙ ap (λ n. narrowed n (pair_at n k) (only rel)) node_is ∙ child_problem q list m rel k are within here in
    more_are ∙ ap (λ ps. ps ++ below ∷ []) problems_are ∙ ap (λ b. problems_from (split_tree q) [] m ++ b ∷ []) child
    ∙ sym (problems_more (split_tree q) [] m rel) ∙ ap (problems_from (split_tree q) []) (sym path_is)

-- a number that is read from a list of small ones is small
pub small_read : (n : ℕ) (xs : List ℕ) (k x : ℕ) → AllByRecursion (λ pair. pair < n) xs → k < length xs → x ≡ get_or xs k x → x < n
small_read n [] k x h within read = absurd (omega arith)
small_read n (y ∷ xs) zero x h within read = let first = h.0 in omega (arith, first, read)
small_read n (y ∷ xs) (suc k) x h within read = small_read n xs k x h.1 (omega arith) read

pub small_at : (n : ℕ) (xs : List ℕ) (k x : ℕ) → All (λ pair. pair < n) xs → k < length xs → x ≡ get_or xs k x → x < n
small_at n xs k x h within read = small_read n xs k x (recursion_from_All (λ pair. pair < n) xs h) within read

-- nothing comes below a full path
full : (sets : List RelSet) (m : List Rel) → length sets ≤ length m → onward sets [] true m ≡ onward sets [] false m
full [] m long = refl
full (set ∷ sets) [] long = absurd (omega arith)
full (set ∷ sets) (rel ∷ m) long = ap (or_later set rel) (full sets m (omega arith))

nothing_after : (m : List Rel) → from_after [] m ≡ []
nothing_after [] = refl
nothing_after (rel ∷ m) = nothing_after m

sets_counted : (q : Problem) (list : List ℕ) → map (pair_at q) list ≡ split_pairs q → length (sets_of (split_tree q)) ≡ length list
sets_counted q list are = length-map (split_pairs q) (allowed q) ∙ pairs_counted q list are

-- what is found below a node that branches, or not
pub below_found : (q : Problem) (list : List ℕ) (m : List Rel) (branches : Bool) (found : Option Rel) → map (pair_at q) list ≡ split_pairs q → branches ≡ true → length m < length list →
    found ≡ first_of (set_at (sets_of (split_tree q)) (length m)) → next_node q branches m ≡ found_or m found (next_node q false m)
below_found q list m branches found are branch short is =
    let sets = sets_of (split_tree q) in
    ap (λ b. onward sets [] b m) branch
    ∙ found_from_the_end_law.below sets [] m (omega (arith, short, sets_counted q list are))
    ∙ ap (λ from. found_or m (least_from (set_at sets (length m)) from) (onward sets [] false m)) (nothing_after m)
    ∙ ap (λ rel. found_or m rel (onward sets [] false m)) (sym is)

pub below_full : (q : Problem) (list : List ℕ) (m : List Rel) (branches : Bool) → map (pair_at q) list ≡ split_pairs q → branches ≡ true → length list ≤ length m →
    next_node q branches m ≡ next_node q false m
below_full q list m branches are branch long = ap (λ b. next_node q b m) branch ∙ full (sets_of (split_tree q)) m (omega (arith, long, sets_counted q list are))

-- the last relation of a path gives way to a later one, or it is taken off
pub shorter : (m : List Rel) (rel : Rel) (path : List Rel) (n : ℕ) → path ≡ m ++ rel ∷ [] → length path ≤ n → length m < n
shorter m rel path n is short = let counted = ap length is in omega (arith, counted, short, length_more m rel)

behind : (q : Problem) (list : List ℕ) (m : List Rel) (rel : Rel) (path : List Rel) → map (pair_at q) list ≡ split_pairs q → path ≡ m ++ rel ∷ [] → length path ≤ length list →
    next_node q false path ≡ found_or m (next_of (set_at (sets_of (split_tree q)) (length m)) rel) (next_node q false m)
behind q list m rel path are is short =
    let less = shorter m rel path (length list) is short in
    ap (next_node q false) is ∙ found_from_the_end_law.behind (sets_of (split_tree q)) [] m rel (omega (arith, less, sets_counted q list are))

pub later_next : (q : Problem) (list : List ℕ) (m : List Rel) (rel : Rel) (path : List Rel) (found : Option Rel) → map (pair_at q) list ≡ split_pairs q → path ≡ m ++ rel ∷ [] →
    length path ≤ length list → found ≡ next_of (set_at (sets_of (split_tree q)) (length m)) rel → is_some found ≡ true → next_node q false path ≡ found_or m found None
later_next q list m rel path None are is short next some = cc
later_next q list m rel path (Some later) are is short next some =
    behind q list m rel path are is short ∙ ap (λ found. found_or m found (next_node q false m)) (sym next)

pub later_none : (q : Problem) (list : List ℕ) (m : List Rel) (rel : Rel) (path : List Rel) (found : Option Rel) → map (pair_at q) list ≡ split_pairs q → path ≡ m ++ rel ∷ [] →
    length path ≤ length list → found ≡ next_of (set_at (sets_of (split_tree q)) (length m)) rel → is_some found ≡ false → next_node q false m ≡ next_node q false path
later_none q list m rel path (Some later) are is short next none = cc
later_none q list m rel path None are is short next none =
    sym (behind q list m rel path are is short ∙ ap (λ found. found_or m found (next_node q false m)) (sym next))

pub root_ends : (q : Problem) (path : List Rel) → path ≡ [] → next_node q false path ≡ None
root_ends q path is = ap (next_node q false) is ∙ found_from_the_end_law.root (sets_of (split_tree q)) []
