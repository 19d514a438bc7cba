-- How many concepts a row leaves.
use Rattle.std.proofs.Common.{◌≡◌, ◌+◌, ◌≤◌, ℕ, List, [], ◌∷◌, length, Ok, ap, ◌∙◌, arith, inl, inr, subst}
use Rattle.std.proofs.lemmas.List.{length_push}
use Rattle.taxon_tree.specs.Trees.{Trees}
use Rattle.taxon_tree.specs.Row.{with_name, with_link, place_of, add_child, add_children, add_row}
use Rattle.taxon_tree.proofs.RowLemmas.{with_name-Ok, with_link-Ok, and_then-Ok}

-- g has the concepts of f and more, and no more than the limit
pub record Grows (limit : ℕ) (f g : Trees) : Type 0 where
  pub longer : length f.names ≤ length g.names
  pub within : length g.names ≤ limit

grows_name : (limit : ℕ) (f : Trees) (name : List ℕ) (g : Trees) → length f.names ≤ limit → with_name limit f name ≡ Ok g → Grows limit f g
grows_name limit f name g h e = elim (with_name-Ok limit f name g e) [
  | inl kept ↦ let n : length g.names ≡ length f.names = ap (λ t. length t.names) kept in record { longer = omega arith; within = omega arith }
  | inr named ↦
      let n : length g.names ≡ length f.names + 1 = ap (λ t. length t.names) named.is ∙ length_push f.names name in
      let room = named.room in
      record { longer = omega arith; within = omega (arith, room) }
]

same_link : (parent : ℕ) (f : Trees) (c : ℕ) (g : Trees) → with_link parent f c ≡ Ok g → length g.names ≡ length f.names
same_link parent f c g e = let links = with_link-Ok parent f c g e in ap (λ t. length t.names) links.is

grows_child : (limit parent : ℕ) (f : Trees) (name : List ℕ) (g : Trees) → length f.names ≤ limit → add_child limit parent f name ≡ Ok g → Grows limit f g
grows_child limit parent f name g h e =
    let s = and_then-Ok (with_name limit f name) (λ t. with_link parent t (place_of f name)) g e in
    let named = grows_name limit f name s.0 h s.1 in
    let n = same_link parent s.0 (place_of f name) g s.2 in
    record { longer = omega (arith, n, named.longer); within = omega (arith, n, named.within) }

grows_children : (limit parent : ℕ) (f : Trees) (names : List (List ℕ)) (g : Trees) → length f.names ≤ limit → add_children limit parent f names ≡ Ok g → Grows limit f g
grows_children limit parent f [] g h e = let s : f ≡ g = cc in subst (Grows limit f) s (record { longer = omega arith; within = h })
grows_children limit parent f (name ∷ names) g h e =
    let s = and_then-Ok (add_child limit parent f name) (λ t. add_children limit parent t names) g e in
    let first = grows_child limit parent f name s.0 h s.1 in
    let rest = grows_children limit parent s.0 names g first.within s.2 in
    record { longer = omega (arith, first.longer, rest.longer); within = rest.within }

-- a row leaves at least the concepts that were there, and at most the limit
pub grows_row : (limit : ℕ) (f : Trees) (names : List (List ℕ)) (g : Trees) → length f.names ≤ limit → add_row limit f names ≡ Ok g → Grows limit f g
grows_row limit f [] g h e = let s : f ≡ g = cc in subst (Grows limit f) s (record { longer = omega arith; within = h })
grows_row limit f (name ∷ names) g h e =
    let s = and_then-Ok (with_name limit f name) (λ t. add_children limit (place_of f name) t names) g e in
    let first = grows_name limit f name s.0 h s.1 in
    let rest = grows_children limit (place_of f name) s.0 names g first.within s.2 in
    record { longer = omega (arith, first.longer, rest.longer); within = rest.within }
