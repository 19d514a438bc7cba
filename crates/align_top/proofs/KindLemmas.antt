-- Names of watchers that words may ask for.
use Rattle.std.proofs.Common.{◌≡◌, ◌≢◌, ℕ, suc, Bool, true, false, cond, ◌||◌, ◌&&◌, List, [], ◌∷◌, map, None, Some, refl, sym, ap, subst, ◌∙◌, arith}
use Rattle.std.specs.Prelude.{All, AllPairs, Contains, bytes_eq, not}
use Rattle.std.specs.List.{list_all}
use Rattle.std.proofs.lemmas.Slice.Eq.{bytes_eq-Decides}
use Rattle.std.proofs.lemmas.List.Elements.{All-nil, All-cons}
use Rattle.std.proofs.lemmas.List.Kept.{AllPairs-cons}
use Rattle.cert_text.proofs.ReadLemmas.{is_word}
use Rattle.command_line.specs.declared.UsageKind.TheVariants.{UnknownKind, KindTwice}
use Rattle.command_line.specs.Words.{is_among, has_twice, names_fault}
use Rattle.world_watch.specs.Steps.{Texts}
use Rattle.report_run.specs.Reporting.{Watched, watched, AreKinds}
use Rattle.align_top.proofs.RunLemmas.{watched_names}

-- a name among others is one of them, and one that is not among them is none
there : (names : List (List ℕ)) (word : List ℕ) → is_among names word ≡ true → Contains names word
there [] word e = cc
there (name ∷ names) word e = by (bytes_eq word name) refl (there names word) e
  where
    by : (b : Bool) → bytes_eq word name ≡ b → (is_among names word ≡ true → Contains names word) → (b || is_among names word) ≡ true → Contains (name ∷ names) word
    by true same rest h = (0, omega arith, sym (is_word word name same))
    by false same rest h = let later = rest h in (suc later.0, (let lt = later.1 in omega (arith, lt)), later.2)

apart : (names : List (List ℕ)) (word : List ℕ) → is_among names word ≡ false → All (λ other. word ≢ other) names
apart [] word e = All-nil (λ other. word ≢ other)
apart (name ∷ names) word e = by (bytes_eq word name) refl (apart names word) e
  where
    by : (b : Bool) → bytes_eq word name ≡ b → (is_among names word ≡ false → All (λ other. word ≢ other) names) → (b || is_among names word) ≡ false → All (λ other. word ≢ other) (name ∷ names)
    by true same rest h = cc
    by false other rest h = All-cons (λ other. word ≢ other) name names (λ e. let t = subst (λ (xs : List ℕ). bytes_eq word xs ≡ true) e ((bytes_eq-Decides word word).1 refl) in cc) (rest h)

-- so of all names of a list
all_there : (names kinds : List (List ℕ)) → list_all (is_among names) kinds ≡ true → All (Contains names) kinds
all_there names [] e = All-nil (Contains names)
all_there names (kind ∷ kinds) e = by (is_among names kind) refl (all_there names kinds) e
  where
    by : (b : Bool) → is_among names kind ≡ b → (list_all (is_among names) kinds ≡ true → All (Contains names) kinds) → (b && list_all (is_among names) kinds) ≡ true → All (Contains names) (kind ∷ kinds)
    by true known rest h = All-cons (Contains names) kind kinds (there names kind known) (rest h)
    by false known rest h = cc

none_twice : (kinds : List (List ℕ)) → has_twice kinds ≡ false → AllPairs (λ one other. one ≢ other) kinds
none_twice [] e = λ i j d lt within. absurd (omega arith)
none_twice (kind ∷ kinds) e = by (is_among kinds kind) refl (none_twice kinds) e
  where
    by : (b : Bool) → is_among kinds kind ≡ b → (has_twice kinds ≡ false → AllPairs (λ one other. one ≢ other) kinds) → (b || has_twice kinds) ≡ false → AllPairs (λ one other. one ≢ other) (kind ∷ kinds)
    by true same rest h = cc
    by false other rest h = AllPairs-cons (λ one other. one ≢ other) kind kinds (apart kinds kind other) (rest h)

-- names without a fault can be asked for
are_kinds : (watchers : List Watched) (kinds : List (List ℕ)) → names_fault (map (λ w. w.name) watchers) kinds ≡ None → AreKinds watchers kinds
are_kinds watchers kinds e = by (list_all (is_among (map (λ w. w.name) watchers)) kinds) refl (has_twice kinds) refl e
  where
    by : (known : Bool) → list_all (is_among (map (λ w. w.name) watchers)) kinds ≡ known → (twice : Bool) → has_twice kinds ≡ twice
        → cond (not known) (Some UnknownKind) (cond twice (Some KindTwice) None) ≡ None → AreKinds watchers kinds
    by false known twice same h = cc
    by true known true same h = cc
    by true known false same h = record { named = all_there (map (λ w. w.name) watchers) kinds known; once = none_twice kinds same }

-- so of watchers as they are handed in
pub kinds_by : {W : Type 0} (name : W → List ℕ) (text : W → Texts) (ws : List W) (kinds : List (List ℕ)) → names_fault (map name ws) kinds ≡ None → AreKinds (watched name text ws) kinds
kinds_by name text ws kinds e = are_kinds (watched name text ws) kinds (ap (λ names. names_fault names kinds) (watched_names name text ws) ∙ e)
