-- Lists that are seen through a map, as a list of vectors is seen as a list of lists.
use Rattle.std.proofs.Common.{◌≡◌, ◌+◌, ◌-◌, ◌≤◌, ◌<◌, ℕ, suc, Bool, true, false, not, cond, if◌then◌else◌, ◌||◌, List, [], ◌∷◌, ◌++◌, None, Some, length, set, get_or, take, map, position, refl, sym, ap, ◌∙◌, inl, inr, arith}
use Rattle.std.proofs.lemmas.Bool.{cases_lt, lt-ltb}
use Rattle.std.proofs.lemmas.List.{map-set, get_or-map, set-get_or, length-map, length_push, take_at, map-append}
use Rattle.std.specs.List.{position_or_len, list_any}
use Rattle.std.specs.Str.{bytes_eq}
use Rattle.taxon_tree.specs.Trees.{Trees}

-- trees are equal where their parts are
pub same_trees : (f g : Trees) → f.names ≡ g.names → f.parents ≡ g.parents → f.children ≡ g.children → f ≡ g
same_trees f g a b d = λ i. record { names = a i; parents = b i; children = d i }

module _ {X Y : Type 0} (f : X → Y) where
  pub position_or_len-map : (p : Y → Bool) (xs : List X) → position_or_len p (map f xs) ≡ position_or_len (λ x. p (f x)) xs
  position_or_len-map p [] = refl
  position_or_len-map p (x ∷ xs) = ap (λ n. cond (not (p (f x))) (1 + n) 0) (position_or_len-map p xs)

  pub list_any-map : (p : Y → Bool) (xs : List X) → list_any p (map f xs) ≡ list_any (λ x. p (f x)) xs
  list_any-map p [] = refl
  list_any-map p (x ∷ xs) = ap (λ b. p (f x) || b) (list_any-map p xs)

  pub position-map : (p : Y → Bool) (xs : List X) → position p (map f xs) ≡ position (λ x. p (f x)) xs
  position-map p xs = rw (position_or_len-map p xs, length-map xs f) refl

  -- an element changes to one that shows the same
  pub map-set_kept : (xs : List X) (i : ℕ) (d new : X) → i < length xs → f new ≡ f (get_or xs i d) → map f (set xs i new) ≡ map f xs
  map-set_kept xs i d new lt same =
      map-set f xs i new ∙ ap (set (map f xs) i) (same ∙ sym (get_or-map f xs i d (f d) lt)) ∙ set-get_or (map f xs) i (f d)

  -- an element changes to one that shows g of what it showed
  pub map-set_changed : (e : Y) (g : Y → Y) (xs : List X) (i : ℕ) (d new : X) → i < length xs → f new ≡ g (f (get_or xs i d))
      → map f (set xs i new) ≡ set (map f xs) i (g (get_or (map f xs) i e))
  map-set_changed e g xs i d new lt change =
      map-set f xs i new ∙ ap (set (map f xs) i) (change ∙ ap g (sym (get_or-map f xs i d e lt)))

-- what is left after the last element is taken
pub taken_last : (old new : List ℕ) (x : ℕ) → old ≡ new ++ x ∷ [] → new ≡ take (length old - 1) old
taken_last old new x e =
    sym (ap (λ l. take (length l - 1) l) e ∙ ap (λ n. take (n - 1) (new ++ x ∷ [])) (length_push new x) ∙ take_at new (x ∷ []) (length new + 1 - 1) (omega arith))

module _ {X : Type 0} (p : X → Bool) where
  -- no place passes
  pub position-None : (xs : List X) → position p xs ≡ None → length xs ≤ position_or_len p xs
  position-None xs h = elim (cases_lt (position_or_len p xs) (length xs)) [
    | inl lt ↦ (let some : position p xs ≡ Some (position_or_len p xs) = ap (λ b. cond b (Some (position_or_len p xs)) None) (lt-ltb _ _ lt) in absurd (cc))
    | inr le ↦ le
  ]

  pub list_any-none : (xs : List X) → length xs ≤ position_or_len p xs → list_any p xs ≡ false
  list_any-none [] h = refl
  list_any-none (x ∷ xs) h = by (p x) refl (list_any-none xs) h
    where
      by : (b : Bool) → p x ≡ b → (length xs ≤ position_or_len p xs → list_any p xs ≡ false)
          → suc (length xs) ≤ cond (not b) (1 + position_or_len p xs) 0 → (b || list_any p xs) ≡ false
      by true e rest g = absurd (omega arith)
      by false e rest g = rest (omega arith)

-- a new name goes last
pub inserted_new : {X : Type 0} (f : X → List ℕ) (keys : List X) (k : X) (name : List ℕ) → f k ≡ name → position (bytes_eq name) (map f keys) ≡ None
    → map f (if list_any (λ y. bytes_eq (f k) (f y)) keys then keys else keys ++ k ∷ []) ≡ map f keys ++ name ∷ []
inserted_new f keys k name same new =
    let none : list_any (λ y. bytes_eq (f k) (f y)) keys ≡ false =
    ap (λ n. list_any (λ y. bytes_eq n (f y)) keys) same ∙ sym (list_any-map f (bytes_eq name) keys) ∙ list_any-none (bytes_eq name) (map f keys) (position-None (bytes_eq name) (map f keys) new) in
    ap (λ b. map f (if b then keys else keys ++ k ∷ [])) none ∙ map-append f keys (k ∷ []) ∙ ap (λ n. map f keys ++ n ∷ []) same
