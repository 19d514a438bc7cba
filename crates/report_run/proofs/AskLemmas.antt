-- Watchers that are taken out of a list by their names.
use Rattle.std.proofs.Common.{◌≡◌, ◌≢◌, ℕ, zero, suc, ◌+◌, ◌<◌, ◌≤◌, Bool, true, false, cond, List, [], ◌∷◌, ◌++◌, Option, None, Some, IsTrue, inl, inr, length, get_or, map, take, refl, sym, ap, subst, ◌∙◌, arith, append-nil}
use Rattle.std.specs.Prelude.{◌↔◌, bytes_eq, All, AllPairs, Contains}
use Rattle.std.specs.Option.{option_to_list}
use Rattle.std.specs.List.{filter_map, remove, cons_option}
use Rattle.std.proofs.Math.Seq.{take-suc}
use Rattle.std.proofs.lemmas.List.{take_all, map-append}
use Rattle.std.proofs.lemmas.List.Elements.{filter_map-append}
use Rattle.std.proofs.lemmas.Bool.{true≢false, cases_eq}
use Rattle.std.proofs.lemmas.Slice.Eq.{bytes_eq-Decides}
use Rattle.world_watch.specs.Steps.{Texts}
use Rattle.report_run.specs.Steps.{IsFirstNamed}
use Rattle.report_run.specs.Reporting.{Watched, watched, first_named, asked}

-- a watcher as a run sees it
abbrev pub seen_as : {W : Type 0} → (W → List ℕ) → (W → Texts) → W → Watched
seen_as name text w = record { name = name w; text = text w }

-- an element by its place, whatever stands for none
one_there : {X : Type 0} (xs : List X) (n : ℕ) (a b : X) → n < length xs → get_or xs n a ≡ get_or xs n b
one_there [] n a b less = absurd (omega arith)
one_there (x ∷ xs) zero a b less = refl
one_there (x ∷ xs) (suc n) a b less = one_there xs n a b (omega arith)

item_at : {X : Type 0} (xs : List X) (n : ℕ) (x d : X) → n < length xs → x ≡ get_or xs n x → x ≡ get_or xs n d
item_at xs n x d within is = is ∙ one_there xs n x d within

-- none of the first watchers has a name
pub record NoneNamed {W : Type 0} (ws : List W) (name : W → List ℕ) (kind : List ℕ) (n : ℕ) : Type 0 where
  pub none : (k : ℕ) (d : W) → k < n → bytes_eq (name (get_or ws k d)) kind ≡ false

-- one more has not
pub none_more : {W : Type 0} (ws : List W) (name : W → List ℕ) (kind : List ℕ) (n : ℕ) (w : W) (answer : Bool) → NoneNamed ws name kind n → n < length ws → w ≡ get_or ws n w
    → IsTrue answer ↔ (name w ≡ kind) → answer ≡ false → NoneNamed ws name kind (n + 1)
none_more ws name kind n w answer so_far within is says denied = record { none = each }
  where
    unnamed : bytes_eq (name w) kind ≡ false
    unnamed = by (bytes_eq (name w) kind) refl
      where
        by : (b : Bool) → bytes_eq (name w) kind ≡ b → b ≡ false
        by false e = refl
        by true e = absurd (true≢false (sym (says.1 ((bytes_eq-Decides (name w) kind).0 e)) ∙ denied))

    each : (k : ℕ) (d : _) → k < n + 1 → bytes_eq (name (get_or ws k d)) kind ≡ false
    each k d less = elim (cases_eq k n) [
      | inl same ↦ ap (λ i. bytes_eq (name (get_or ws i d)) kind) same ∙ ap (λ x. bytes_eq (name x) kind) (sym (item_at ws n w d within is)) ∙ unnamed
      | inr other ↦ so_far.none k d (omega (arith, less, other))
    ]

pub one_first : {W : Type 0} (ws : List W) (name : W → List ℕ) (kind : List ℕ) (n : ℕ) (w : W) (answer : Bool) → NoneNamed ws name kind n → n < length ws → w ≡ get_or ws n w
    → IsTrue answer ↔ (name w ≡ kind) → answer ≡ true → IsFirstNamed name ws kind (Some n)
one_first ws name kind n w answer so_far within is says given = (
  within,
  λ d. ap (λ x. bytes_eq (name x) kind) (sym (item_at ws n w d within is)) ∙ (bytes_eq-Decides (name w) kind).1 (says.0 given),
  λ k d less. so_far.none k d less,
)

-- no watcher has a name
none_named : {W : Type 0} (name : W → List ℕ) (text : W → Texts) (ws : List W) (kind : List ℕ) → IsFirstNamed name ws kind None → first_named (watched name text ws) kind ≡ None
none_named name text [] kind none = refl
none_named name text (w ∷ ws) kind none = rw (none 0 w (omega arith)) (none_named name text ws kind (λ k d less. none (suc k) d (omega (arith, less))))

rest_named : {W : Type 0} (name : W → List ℕ) (w : W) (ws : List W) (kind : List ℕ) (place : ℕ) → IsFirstNamed name (w ∷ ws) kind (Some (suc place)) → IsFirstNamed name ws kind (Some place)
rest_named name w ws kind place first = (omega (arith, first.0), λ d. first.1 d, λ k d less. first.2 (suc k) d (omega (arith, less)))

-- the first watcher with a name stands for it
one_named : {W : Type 0} (name : W → List ℕ) (text : W → Texts) (ws : List W) (kind : List ℕ) (place : ℕ) (d : W) → IsFirstNamed name ws kind (Some place)
    → first_named (watched name text ws) kind ≡ Some (seen_as name text (get_or ws place d))
one_named name text [] kind place d first = absurd (omega (arith, first.0))
one_named name text (w ∷ ws) kind zero d first = rw (first.1 w) refl
one_named name text (w ∷ ws) kind (suc place) d first = rw (first.2 0 w (omega arith)) (one_named name text ws kind place d (rest_named name w ws kind place first))

-- where it is taken out, the same watchers stand for other names
others_named : {W : Type 0} (name : W → List ℕ) (text : W → Texts) (ws : List W) (kind other : List ℕ) (place : ℕ) → IsFirstNamed name ws kind (Some place) → other ≢ kind
    → first_named (watched name text (remove ws place)) other ≡ first_named (watched name text ws) other
others_named name text [] kind other place first apart = absurd (omega (arith, first.0))
others_named name text (w ∷ ws) kind other zero first apart = by (bytes_eq (name w) other) refl
  where
    by : (b : Bool) → bytes_eq (name w) other ≡ b → first_named (watched name text ws) other ≡ cond b (Some (seen_as name text w)) (first_named (watched name text ws) other)
    by false e = refl
    by true e = absurd (apart (sym ((bytes_eq-Decides (name w) other).0 e) ∙ (bytes_eq-Decides (name w) kind).0 (first.1 w)))
others_named name text (w ∷ ws) kind other (suc place) first apart =
    ap (cond (bytes_eq (name w) other) (Some (seen_as name text w))) (others_named name text ws kind other place (rest_named name w ws kind place first) apart)

seen_append : {W : Type 0} (name : W → List ℕ) (text : W → Texts) (xs ys : List W) → watched name text (xs ++ ys) ≡ watched name text xs ++ watched name text ys
seen_append name text xs ys = map-append (seen_as name text) xs ys

-- a watcher that stands for a name is moved, and where there is none, nothing is
pub one_moved : {W : Type 0} (name : W → List ℕ) (text : W → Texts) (ws seen found found' : List W) (kind : List ℕ) (place : ℕ) (w : W) → seen ≡ ws → IsFirstNamed name seen kind (Some place) → w ≡ get_or ws place w → found' ≡ found ++ w ∷ []
    → watched name text found' ≡ watched name text found ++ option_to_list (first_named (watched name text ws) kind)
one_moved name text ws seen found found' kind place w same first is more =
    ap (watched name text) more ∙ seen_append name text found (w ∷ []) ∙ ap (λ x. watched name text found ++ seen_as name text x ∷ []) is
    ∙ ap (λ o. watched name text found ++ option_to_list o) (sym (one_named name text ws kind place w (subst (λ xs. IsFirstNamed name xs kind (Some place)) same first)))

pub none_moved : {W : Type 0} (name : W → List ℕ) (text : W → Texts) (ws seen found : List W) (kind : List ℕ) → seen ≡ ws → IsFirstNamed name seen kind None
    → watched name text found ≡ watched name text found ++ option_to_list (first_named (watched name text ws) kind)
none_moved name text ws seen found kind same none =
    sym (append-nil (watched name text found)) ∙ ap (λ o. watched name text found ++ option_to_list o) (sym (none_named name text ws kind (subst (λ xs. IsFirstNamed name xs kind None) same none)))

pub others_kept : {W : Type 0} (name : W → List ℕ) (text : W → Texts) (ws seen ws' : List W) (kind other : List ℕ) (place : ℕ) → seen ≡ ws → IsFirstNamed name seen kind (Some place) → other ≢ kind → ws' ≡ remove ws place
    → first_named (watched name text ws') other ≡ first_named (watched name text ws) other
others_kept name text ws seen ws' kind other place same first apart without =
    ap (λ xs. first_named (watched name text xs) other) without ∙ others_named name text ws kind other place (subst (λ xs. IsFirstNamed name xs kind (Some place)) same first) apart

-- the watchers for the first of some names are taken out, and the same ones as before stand for the others
pub record AreAsked {W : Type 0} (ws found now : List W) (name : W → List ℕ) (text : W → Texts) (kinds : List (List ℕ)) (i : ℕ) : Type 0 where
  pub found_are : watched name text found ≡ asked (watched name text ws) (take i kinds)
  pub others : (j : ℕ) (d : List ℕ) → i ≤ j → j < length kinds → first_named (watched name text now) (get_or kinds j d) ≡ first_named (watched name text ws) (get_or kinds j d)

pub asked_first : {W : Type 0} (name : W → List ℕ) (text : W → Texts) (ws found : List W) (kinds : List (List ℕ)) → found ≡ [] → AreAsked ws found ws name text kinds 0
asked_first name text ws found kinds none = record { found_are = ap (watched name text) none; others = λ j d le less. refl }

-- the watchers for the first names and for the next
asked_next : (ws : List Watched) (kinds : List (List ℕ)) (i : ℕ) (kind : List ℕ) → i < length kinds → kind ≡ get_or kinds i kind
    → asked ws (take (i + 1) kinds) ≡ asked ws (take i kinds) ++ option_to_list (first_named ws kind)
asked_next ws kinds i kind within is =
    let next : i + 1 ≡ suc i = omega arith in
    ap (λ (n : ℕ). asked ws (take n kinds)) next
    ∙ ap (asked ws) (take-suc kinds i kind within)
    ∙ filter_map-append (first_named ws) (take i kinds) (get_or kinds i kind ∷ [])
    ∙ ap (λ k. asked ws (take i kinds) ++ filter_map (first_named ws) (k ∷ [])) (sym is)
    ∙ ap (λ xs. asked ws (take i kinds) ++ xs) (as_list (first_named ws kind))
  where
    as_list : (o : Option Watched) → cons_option o [] ≡ option_to_list o
    as_list None = refl
    as_list (Some w) = refl

-- the watcher for the next name is moved
pub asked_more : {W : Type 0} (name : W → List ℕ) (text : W → Texts) (ws : List W) (kinds : List (List ℕ)) (i : ℕ) (kind : List ℕ) (found now found' now' : List W)
    → AreAsked ws found now name text kinds i → i < length kinds → kind ≡ get_or kinds i kind → AllPairs (λ one other. one ≢ other) kinds
    → watched name text found' ≡ watched name text found ++ option_to_list (first_named (watched name text now) kind)
    → ((other : List ℕ) → other ≢ kind → first_named (watched name text now') other ≡ first_named (watched name text now) other)
    → AreAsked ws found' now' name text kinds (i + 1)
asked_more name text ws kinds i kind found now found' now' are within is once moved kept =
    let same : first_named (watched name text now) kind ≡ first_named (watched name text ws) kind =
    ap (first_named (watched name text now)) is ∙ are.others i kind (omega arith) within ∙ ap (first_named (watched name text ws)) (sym is) in
    record {
      found_are =
          moved
          ∙ ap (λ fs. fs ++ option_to_list (first_named (watched name text now) kind)) are.found_are
          ∙ ap (λ f. asked (watched name text ws) (take i kinds) ++ option_to_list f) same
          ∙ sym (asked_next (watched name text ws) kinds i kind within is);
      others = λ j d le less.
          let apart : get_or kinds j d ≢ kind = λ e. once i j d (omega arith) less (sym (e ∙ is ∙ one_there kinds i kind d within)) in
          kept (get_or kinds j d) apart ∙ are.others j d (omega arith) less;
    }

pub asked_all : {W : Type 0} (name : W → List ℕ) (text : W → Texts) (ws : List W) (kinds : List (List ℕ)) (i : ℕ) (found now : List W) → AreAsked ws found now name text kinds i → length kinds ≤ i
    → watched name text found ≡ asked (watched name text ws) kinds
asked_all name text ws kinds i found now are all = are.found_are ∙ ap (asked (watched name text ws)) (take_all i kinds all)

-- the first watcher with a name that some watcher has
record HasFirst (ws : List Watched) (kind : List ℕ) : Type 0 where
  one : Watched
  first : first_named ws kind ≡ Some one
  named : one.name ≡ kind

has_first : (ws : List Watched) (kind : List ℕ) → Contains (map (λ w. w.name) ws) kind → HasFirst ws kind
has_first [] kind (k, less, is) = absurd (omega (arith, less))
has_first (w ∷ ws) kind (k, less, is) = by (bytes_eq w.name kind) refl k less is (has_first ws kind)
  where
    by : (b : Bool) → bytes_eq w.name kind ≡ b → (n : ℕ) → n < length (map (λ (x : Watched). x.name) (w ∷ ws)) → get_or (map (λ (x : Watched). x.name) (w ∷ ws)) n kind ≡ kind
        → (Contains (map (λ (x : Watched). x.name) ws) kind → HasFirst ws kind) → HasFirst (w ∷ ws) kind
    by true e n less is rest = record { one = w; first = rw e refl; named = (bytes_eq-Decides w.name kind).0 e }
    by false e zero less is rest = absurd (true≢false (sym ((bytes_eq-Decides w.name kind).1 is) ∙ e))
    by false e (suc n) less is rest = let h = rest (n, omega (arith, less), is) in record { one = h.one; first = rw e h.first; named = h.named }

-- the watchers that are asked for have the names of their kinds
pub asked_named : (ws : List Watched) (kinds : List (List ℕ)) → All (λ kind. Contains (map (λ w. w.name) ws) kind) kinds → map (λ w. w.name) (asked ws kinds) ≡ kinds
asked_named ws [] all = refl
asked_named ws (kind ∷ kinds) all =
    let first = has_first ws kind (all 0 kind (omega arith)) in
    let rest = asked_named ws kinds (λ k d less. all (suc k) d (omega (arith, less))) in
    ap (λ f. map (λ (w : Watched). w.name) (cons_option f (asked ws kinds))) first.first ∙ ap (λ n. n ∷ map (λ (w : Watched). w.name) (asked ws kinds)) first.named ∙ ap (λ ns. kind ∷ ns) rest

-- a watcher's name is that of what a run sees
pub names_seen : {W : Type 0} (name : W → List ℕ) (text : W → Texts) (ws : List W) → map (λ w. w.name) (watched name text ws) ≡ map name ws
names_seen name text [] = refl
names_seen name text (w ∷ ws) = ap (λ ns. name w ∷ ns) (names_seen name text ws)
