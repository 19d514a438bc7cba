-- A path goes on.
use Rattle.std.proofs.Common.{◌≡◌, ℕ, ◌<◌, ◌≤◌, ◌+◌, zero, suc, Bool, true, false, cond, List, [], ◌∷◌, ◌++◌, length, drop, Option, Some, None, refl, sym, ap, ◌∙◌, arith, inl, inr}
use Rattle.std.specs.Option.{option_or}
use Rattle.std.specs.Prelude.{slice_get, if◌then◌else◌, is_some, IfSome}
use Rattle.std.proofs.lemmas.Bool.{ne_eqb}
use Rattle.rcc5_core.specs.declared.Rel.{Rel}
use Rattle.rcc5_core.specs.declared.RelSet.{RelSet}
use Rattle.rcc5_core.specs.Relation.{rank_of}
use Rattle.rcc5_core.specs.RelationSet.{next_of}
use Rattle.cert_rules.specs.Order.{is_shown, least_from, from_below, onward, or_later}
use Rattle.std.proofs.lemmas.List.{length-map}
use Rattle.world_model.specs.Alive.{allowed}
use Rattle.lits_core.specs.Derivation.{State}
use Rattle.cert_text.specs.declared.line.CertLine.{CertLine}
use Rattle.cert_rules.specs.declared.RejectKind.{RejectKind}
use Rattle.cert_rules.specs.declared.RejectKind.TheVariants.{MissingBranch}
use Rattle.cert_rules.specs.Trees.{Branching, same_last, sets_of, names, node_fault, tree_fault}
use Rattle.cert_rules.specs.FromTheEnd.{from_after, found_or, set_at}
use Rattle.cert_rules.proofs.FromTheEnd.{found_from_the_end_law}
use Rattle.cert_rules.proofs.Nexts.{shown_below, shown_above, shown_first, next_shown}
use Rattle.world_model.proofs.Relations.{next_is_in}
use Rattle.cert_tree.specs.Walks.{IsPath, IsBeside, least_with, node_of, name_fault}

-- nothing comes below a full path
pub full : (sets : List RelSet) (from m : List Rel) → length sets ≤ length m → onward sets from true m ≡ onward sets from false m
full [] from m long = refl
full (set ∷ sets) from [] long = absurd (omega arith)
full (set ∷ sets) from (rel ∷ m) long = ap (or_later set rel) (full sets (from_below from rel) m (omega arith))

pub least_is : (set : RelSet) (from : List Rel) → least_from set from ≡ least_with set (slice_get from 0)
least_is set [] = refl
least_is set (f ∷ from) = refl

-- what is found below a branch
pub found_below : (sets : List RelSet) (from m : List Rel) → length m < length sets →
    onward sets from true m ≡ found_or m (least_with (set_at sets (length m)) (slice_get (from_after from m) 0)) (onward sets from false m)
found_below sets from m short = found_from_the_end_law.below sets from m short ∙ ap (λ rel. found_or m rel (onward sets from false m)) (least_is (set_at sets (length m)) (from_after from m))

way_here : (xs : List Rel) (n : ℕ) (rel : Rel) → from_below (drop n xs) rel ≡ (if same_last (slice_get (drop n xs) 0) (Some rel) then drop (suc n) xs else [])
way_here [] zero rel = refl
way_here [] (suc n) rel = refl
way_here (x ∷ xs) zero rel = refl
way_here (x ∷ xs) (suc n) rel = way_here xs n rel

way_on : (xs : List Rel) (n : ℕ) (rel : Rel) → from_below (drop n xs) rel ≡ (if same_last (slice_get (drop n xs) 0) (Some rel) then drop (n + 1) xs else [])
way_on xs n rel = let next : suc n ≡ n + 1 = omega arith in way_here xs n rel ∙ ap (λ k. if same_last (slice_get (drop n xs) 0) (Some rel) then drop k xs else []) next

length_more : (m : List Rel) (rel : Rel) → length (m ++ rel ∷ []) ≡ length m + 1
length_more [] rel = refl
length_more (r ∷ m) rel = let more = length_more m rel in omega (arith, more)

-- a path goes down
pub path_down : (depths : ℕ) (from path : List Rel) (on_way now : Bool) (rel : Rel) → IsPath depths from path on_way → length path < depths → is_shown from (path ++ rel ∷ []) ≡ true →
    now ≡ same_last (slice_get (from_after from path) 0) (Some rel) → IsPath depths from (path ++ rel ∷ []) now
path_down depths from path on_way now rel is short shown same = record {
  short = omega (arith, length_more path rel);
  shown = shown;
  below = found_from_the_end_law.start from path rel ∙ ap (λ xs. from_below xs rel) is.below ∙ by on_way is.below;
}
  where
    counted : (b : Bool) → (if b then drop (length path + 1) from else []) ≡ (if b then drop (length (path ++ rel ∷ [])) from else [])
    counted b = ap (λ n. if b then drop n from else []) (sym (length_more path rel))

    by : (on_way : Bool) → from_after from path ≡ (if on_way then drop (length path) from else []) →
        from_below (if on_way then drop (length path) from else []) rel ≡ (if now then drop (length (path ++ rel ∷ [])) from else [])
    by true e =
        way_on from (length path) rel ∙ ap (λ b. if b then drop (length path + 1) from else []) (ap (λ xs. same_last (slice_get xs 0) (Some rel)) (sym e) ∙ sym same) ∙ counted now
    by false e = ap (λ b. if b then drop (length (path ++ rel ∷ [])) from else []) (sym (same ∙ ap (λ xs. same_last (slice_get xs 0) (Some rel)) e))

-- the root
pub path_at_root : (depths : ℕ) (from : List Rel) → IsPath depths from [] true
path_at_root depths [] = record { short = omega arith; shown = refl; below = refl }
path_at_root depths (f ∷ from) = record { short = omega arith; shown = refl; below = refl }

-- a shown path without its last relation
pub shown_front : (from m : List Rel) (rel : Rel) → is_shown from (m ++ rel ∷ []) ≡ true → is_shown from m ≡ true
shown_front [] m rel shown = refl
shown_front (f ∷ from) [] rel shown = refl
shown_front (f ∷ from) (r ∷ m) rel shown =
    shown_above (f ∷ from) r (m ++ rel ∷ []) m shown (shown_front (from_below (f ∷ from) r) m rel (shown_below (f ∷ from) r (m ++ rel ∷ []) shown))

lower_first : (f : Rel) (from : List Rel) (rel next : Rel) → is_shown (f ∷ from) (rel ∷ []) ≡ true → rank_of rel < rank_of next → rank_of f < rank_of next
lower_first f from rel next shown less = elim (shown_first f from rel [] shown) [
  | inl lower ↦ omega (arith, lower, less)
  | inr same ↦ let rank = ap rank_of same in omega (arith, rank, less)
]

-- a later relation in place of the last one leads off the start's way
off_the_way : (from m : List Rel) (rel next : Rel) → is_shown from (m ++ rel ∷ []) ≡ true → rank_of rel < rank_of next → from_after from (m ++ next ∷ []) ≡ []
off_the_way [] [] rel next shown less = refl
off_the_way (f ∷ from) [] rel next shown less =
    let lower = lower_first f from rel next shown less in
    ap (λ b. if b then from else []) (ne_eqb (rank_of f) (rank_of next) (λ same. absurd (omega (arith, same, lower))))
off_the_way from (r ∷ m) rel next shown less = off_the_way (from_below from r) m rel next (shown_below from r (m ++ rel ∷ []) shown) less

later_shown : (from m : List Rel) (rel next : Rel) → is_shown from (m ++ rel ∷ []) ≡ true → rank_of rel < rank_of next → is_shown from (m ++ next ∷ []) ≡ true
later_shown [] m rel next shown less = refl
later_shown (f ∷ from) [] rel next shown less = let lower = lower_first f from rel next shown less in grind (arith, lower)
later_shown (f ∷ from) (r ∷ m) rel next shown less =
    shown_above (f ∷ from) r (m ++ rel ∷ []) (m ++ next ∷ []) shown (later_shown (from_below (f ∷ from) r) m rel next (shown_below (f ∷ from) r (m ++ rel ∷ []) shown) less)

pub is_beside : (from m : List Rel) (set : RelSet) (rel next : Rel) → is_shown from (m ++ rel ∷ []) ≡ true → next_of set rel ≡ Some next → IsBeside from m next
is_beside from m set rel next shown found =
    let less = (next_is_in set rel next found).1 in record { shown = later_shown from m rel next shown less; off = off_the_way from m rel next shown less }

-- what comes after a path whose last relation has a later one, or none
pub found_later : (sets : List RelSet) (from m : List Rel) (rel next : Rel) → length m < length sets → next_of (set_at sets (length m)) rel ≡ Some next →
    onward sets from false (m ++ rel ∷ []) ≡ Some (m ++ next ∷ [])
found_later sets from m rel next short found = found_from_the_end_law.behind sets from m rel short ∙ ap (λ found. found_or m found (onward sets from false m)) found

pub found_no_later : (sets : List RelSet) (from m : List Rel) (rel : Rel) → length m < length sets → next_of (set_at sets (length m)) rel ≡ None →
    onward sets from false (m ++ rel ∷ []) ≡ onward sets from false m
found_no_later sets from m rel short found = found_from_the_end_law.behind sets from m rel short ∙ ap (λ found. found_or m found (onward sets from false m)) found

-- what is left of a path is within the tree
shorter : (m : List Rel) (rel : Rel) (path : List Rel) (n : ℕ) → path ≡ m ++ rel ∷ [] → length path ≤ n → length m < n
shorter m rel path n is short = let counted = ap length is in omega (arith, counted, short, length_more m rel)

counted_sets : (tree : Branching) → length (sets_of tree) ≡ length tree.levels
counted_sets tree = length-map tree.levels (allowed tree.subject)

within_sets : (tree : Branching) (m : List Rel) (rel : Rel) (path : List Rel) → path ≡ m ++ rel ∷ [] → length path ≤ length tree.levels → length m < length (sets_of tree)
within_sets tree m rel path is short = let less = shorter m rel path (length tree.levels) is short in omega (arith, less, counted_sets tree)

-- the last relation of a path gives way to a later one
pub later_next : (tree : Branching) (m : List Rel) (rel : Rel) (path : List Rel) (found : Option Rel) → path ≡ m ++ rel ∷ [] → length path ≤ length tree.levels →
    found ≡ next_of (set_at (sets_of tree) (length m)) rel → is_some found ≡ true → onward (sets_of tree) tree.from false path ≡ found_or m found None
later_next tree m rel path None is short next some = cc
later_next tree m rel path (Some later) is short next some =
    ap (onward (sets_of tree) tree.from false) is ∙ found_later (sets_of tree) tree.from m rel later (within_sets tree m rel path is short) (sym next)

pub later_beside : (tree : Branching) (m : List Rel) (rel : Rel) (path : List Rel) (found : Option Rel) → path ≡ m ++ rel ∷ [] → is_shown tree.from path ≡ true →
    found ≡ next_of (set_at (sets_of tree) (length m)) rel → IfSome found (λ rel. IsBeside tree.from m rel)
later_beside tree m rel path None is shown next = tt
later_beside tree m rel path (Some later) is shown next =
    is_beside tree.from m (set_at (sets_of tree) (length m)) rel later (ap (is_shown tree.from) (sym is) ∙ shown) (sym next)

-- or it is taken off
pub later_none : (tree : Branching) (m : List Rel) (rel : Rel) (path : List Rel) (found : Option Rel) → path ≡ m ++ rel ∷ [] → length path ≤ length tree.levels →
    found ≡ next_of (set_at (sets_of tree) (length m)) rel → is_some found ≡ false → onward (sets_of tree) tree.from false m ≡ onward (sets_of tree) tree.from false path
later_none tree m rel path (Some later) is short next none = cc
later_none tree m rel path None is short next none =
    sym (ap (onward (sets_of tree) tree.from false) is ∙ found_no_later (sets_of tree) tree.from m rel (within_sets tree m rel path is short) (sym next))

pub short_front : (m : List Rel) (rel : Rel) (path : List Rel) (n : ℕ) → path ≡ m ++ rel ∷ [] → length path ≤ n → length m ≤ n
short_front m rel path n is short = let less = shorter m rel path n is short in omega (arith, less)

pub shown_rest : (from m : List Rel) (rel : Rel) (path : List Rel) → path ≡ m ++ rel ∷ [] → is_shown from path ≡ true → is_shown from m ≡ true
shown_rest from m rel path is shown = shown_front from m rel (ap (is_shown from) (sym is) ∙ shown)

pub root_ends : (tree : Branching) (path : List Rel) → path ≡ [] → onward (sets_of tree) tree.from false path ≡ None
root_ends tree path is = ap (onward (sets_of tree) tree.from false) is ∙ found_from_the_end_law.root (sets_of tree) tree.from

-- what is found below a node, or not
pub below_found : (tree : Branching) (m : List Rel) (branches : Bool) (found : Option Rel) → branches ≡ true → length m < length tree.levels →
    found ≡ least_with (set_at (sets_of tree) (length m)) (slice_get (from_after tree.from m) 0) →
    onward (sets_of tree) tree.from branches m ≡ found_or m found (onward (sets_of tree) tree.from false m)
below_found tree m branches found branch short is =
    ap (λ b. onward (sets_of tree) tree.from b m) branch
    ∙ found_below (sets_of tree) tree.from m (omega (arith, short, counted_sets tree))
    ∙ ap (λ rel. found_or m rel (onward (sets_of tree) tree.from false m)) (sym is)

pub below_full : (tree : Branching) (m : List Rel) (branches : Bool) → branches ≡ true → length tree.levels ≤ length m →
    onward (sets_of tree) tree.from branches m ≡ onward (sets_of tree) tree.from false m
below_full tree m branches branch long = ap (λ b. onward (sets_of tree) tree.from b m) branch ∙ full (sets_of tree) tree.from m (omega (arith, long, counted_sets tree))

pub below_shown : (tree : Branching) (m n : List Rel) (branches : Bool) → is_shown tree.from m ≡ true → onward (sets_of tree) tree.from branches m ≡ Some n → is_shown tree.from n ≡ true
below_shown tree m n branches shown next = next_shown (sets_of tree) tree.from branches m n shown next

named_or : (b : Bool) (fault : Option RejectKind) → option_or (cond b None (Some MissingBranch)) fault ≡ cond b fault (Some MissingBranch)
named_or true fault = refl
named_or false fault = refl

-- what is wrong with a line is what is wrong with its name, or else with what it says of the node
pub both_faults : (tree : Branching) (proof : State) (expected : Bool) (m : List Rel) (line : CertLine) →
    option_or (name_fault (node_of expected m) line) (node_fault tree proof m line) ≡ tree_fault tree proof (node_of expected m) line
both_faults tree proof true m line = named_or (names m line) (node_fault tree proof m line)
both_faults tree proof false m line = refl
