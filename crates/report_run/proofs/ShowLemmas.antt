-- Watchers that are shown the worlds from the first on.
use Rattle.std.proofs.Common.{◌≡◌, ℕ, ◌+◌, ◌-◌, ◌^◌, ◌<◌, ◌≤◌, min, false, List, [], ◌∷◌, ◌++◌, Option, None, Some, length, get_or, refl, sym, ap, subst, ◌∙◌, arith, IsTrue, append-nil, append_assoc, length-append}
use Rattle.std.specs.Prelude.{Contains}
use Rattle.std.proofs.lemmas.Bool.{not_from_false}
use Rattle.rcc5_core.specs.declared.Rel.{Rel}
use Rattle.world_model.specs.Problem.{Problem, is_problem}
use Rattle.world_model.specs.Family.{IsPossibleWorld}
use Rattle.world_model.specs.Listing.{is_below, is_between, IsListing}
use Rattle.world_model.specs.Laws.{is_not_above_end}
use Rattle.world_model.specs.Trial.{worlds_between}
use Rattle.world_model.proofs.OrderListings.{listings_join_law, one_listing_law}
use Rattle.world_model.proofs.OrderPositions.{below_itself}
use Rattle.world_model.proofs.TrialLaws.{trial_is_right_law}
use Rattle.world_walk.specs.Ahead.{IsOnward, Lists}
use Rattle.world_walk.specs.Tables.{TablesState, IsAtWorld, PassedTold}
use Rattle.world_model.specs.Saturated.{saturated}
use Rattle.world_watch.specs.Steps.{Texts, AllTook}
use Rattle.report_run.specs.Steps.{all_worlds, HaveSeen, AreShownAll}

none_first : (m : List Rel) → is_below m [] ≡ false
none_first [] = refl
none_first (r ∷ m) = refl

not_above : (m : List Rel) (other : Option (List Rel)) → IsOnward m other → IsTrue (is_not_above_end m other)
not_above m None onward = refl
not_above m (Some end) onward = onward

-- what stands up to a place, and from there up to another
upto_on : (p : Problem) (mid other : Option (List Rel)) (worlds more : List (List Rel)) → IsListing p [] mid worlds → Lists p mid other more → IsListing p [] other (worlds ++ more)
upto_on p None other worlds more upto lists =
    subst (λ o. IsListing p [] o (worlds ++ more)) (sym lists.0)
    (subst (IsListing p [] None) (sym (append-nil worlds) ∙ ap (λ ws. worlds ++ ws) (sym lists.1)) upto)
upto_on p (Some mid) other worlds more upto lists =
    listings_join_law p [] mid other worlds more (not_from_false (is_below mid []) (none_first mid)) (not_above mid other lists.onward) upto lists.exactly

-- the worlds from a place on
abbrev pub worlds_from : Problem → Option (List Rel) → List (List Rel)
worlds_from p None = []
worlds_from p (Some at) = worlds_between p at None

-- as many fewer are left behind a stretch as it has
lists_left : (p : Problem) → IsTrue (is_problem p) → (one other : Option (List Rel)) (worlds : List (List Rel)) → Lists p one other worlds
    → length (worlds_from p one) ≡ length worlds + length (worlds_from p other)
lists_left p valid None other worlds lists = by other lists.0
  where
    none : length worlds ≡ 0
    none = ap length lists.1

    by : (o : Option (List Rel)) → o ≡ None → 0 ≡ length worlds + length (worlds_from p o)
    by None same = omega (arith, none)
    by (Some end) same = cc
lists_left p valid (Some one) None worlds lists =
    let same : worlds_between p one None ≡ worlds = one_listing_law.worlds p one None _ _ (trial_is_right_law.worlds p valid one None) lists.exactly in
    omega (arith, ap length same)
lists_left p valid (Some one) (Some other) worlds lists =
    let joined : IsListing p one None (worlds ++ worlds_between p other None) =
    listings_join_law p one other None worlds (worlds_between p other None) lists.onward refl lists.exactly (trial_is_right_law.worlds p valid other None) in
    let same : worlds_between p one None ≡ worlds ++ worlds_between p other None = one_listing_law.worlds p one None _ _ (trial_is_right_law.worlds p valid one None) joined in
    ap length same ∙ length-append worlds (worlds_between p other None)

-- a world is left where one stands
one_left : (p : Problem) → IsTrue (is_problem p) → (t : List Rel) → IsPossibleWorld p t → 1 ≤ length (worlds_between p t None)
one_left p valid t world =
    let there : IsTrue (is_between t None t) = rw (below_itself t) refl in
    let found : Contains (worlds_between p t None) t = ((trial_is_right_law.worlds p valid t None).members t).1 (world, there) in
    omega (arith, found.1)

-- and behind one that a table told
pub told_fewer : (p : Problem) → IsTrue (is_problem p) → (old new : TablesState) → old.problem ≡ p → PassedTold old new → IsAtWorld new
    → length (worlds_from p new.at) - length new.told < length (worlds_from p old.at) - length old.told
told_fewer p valid old new same passed at =
    let lists : Lists p old.at new.at old.told = subst (λ q. Lists q old.at new.at old.told) same passed.passed in
    let world : IsPossibleWorld p at.table = subst (λ q. IsPossibleWorld q at.table) (passed.problem ∙ same) at.world in
    let some : 1 ≤ length (worlds_from p new.at) = subst (λ o. 1 ≤ length (worlds_from p o)) (sym at.at) (one_left p valid at.table world) in
    omega (arith, lists_left p valid old.at new.at old.told lists, ap length at.told, some)

seen_none : {W : Type 0} (name : W → List ℕ) (text : W → Texts) (p : Problem) (ws : List W) → HaveSeen name text p [] ws ws
seen_none name text p ws = record { counted = refl; each = λ k d less. record { named = refl; seen = λ rest. refl } }

seen_more : {W : Type 0} (name : W → List ℕ) (text : W → Texts) (p : Problem) (worlds : List (List Rel)) (t : List Rel) (old mid new : List W)
    → HaveSeen name text p worlds old mid → AllTook name text p t mid new → HaveSeen name text p (worlds ++ t ∷ []) old new
seen_more name text p worlds t old mid new seen took = record {
  counted = took.counted ∙ seen.counted;
  each = λ k d less.
      let before = seen.each k d less in
      let now = took.took k d (omega (arith, less, seen.counted)) in
      record {
        named = now.named ∙ before.named;
        seen = λ rest. now.seen rest ∙ before.seen (t ∷ rest) ∙ ap (text (get_or old k d) p) (sym (append_assoc worlds (t ∷ []) rest));
      };
}

-- watchers have seen the worlds up to a place, and some told worlds from there on, so many
pub record AreShownTo {W : Type 0} (old new : List W) (name : W → List ℕ) (text : W → Texts) (p : Problem) (at : Option (List Rel)) (told : List (List Rel)) (count : ℕ) : Type 0 where
  pub passed : List (List Rel)
  pub upto : IsListing p [] at passed
  pub seen : HaveSeen name text p (passed ++ told) old new
  pub counted : count ≡ saturated (length (passed ++ told))

-- at first none
pub shown_first : {W : Type 0} (name : W → List ℕ) (text : W → Texts) (p : Problem) (at : Option (List Rel)) (told : List (List Rel)) (ws : List W) → IsListing p [] at [] → told ≡ []
    → AreShownTo ws ws name text p at told 0
shown_first name text p at told ws upto none = record {
  passed = [];
  upto = upto;
  seen = subst (λ ts. HaveSeen name text p ts ws ws) (sym none) (seen_none name text p ws);
  counted = ap (λ (ts : List (List Rel)). saturated (length ts)) (sym none);
}

-- a call passes the told worlds
pub shown_passed : {W : Type 0} (name : W → List ℕ) (text : W → Texts) (p : Problem) (at other : Option (List Rel)) (told : List (List Rel)) (old new : List W) (count : ℕ)
    → AreShownTo old new name text p at told count → Lists p at other told → AreShownTo old new name text p other [] count
shown_passed name text p at other told old new count shown lists = record {
  passed = shown.passed ++ told;
  upto = upto_on p at other shown.passed told shown.upto lists;
  seen = subst (λ ts. HaveSeen name text p ts old new) (sym (append-nil (shown.passed ++ told))) shown.seen;
  counted = shown.counted ∙ ap (λ (ts : List (List Rel)). saturated (length ts)) (sym (append-nil (shown.passed ++ told)));
}

-- one more world is shown
pub shown_more : {W : Type 0} (name : W → List ℕ) (text : W → Texts) (p : Problem) (at : Option (List Rel)) (t : List Rel) (old mid new : List W) (count count' : ℕ)
    → AreShownTo old mid name text p at [] count → AllTook name text p t mid new → count' ≡ min (count + 1) (2 ^ 64 - 1) → AreShownTo old new name text p at (t ∷ []) count'
shown_more name text p at t old mid new count count' shown took more = record {
  passed = shown.passed;
  upto = shown.upto;
  seen = seen_more name text p shown.passed t old mid new (subst (λ ts. HaveSeen name text p ts old mid) (append-nil shown.passed) shown.seen) took;
  counted =
      let before : count ≡ saturated (length shown.passed) = shown.counted ∙ ap (λ (ts : List (List Rel)). saturated (length ts)) (append-nil shown.passed) in
      omega (arith, more, before, length-append shown.passed (t ∷ []));
}

-- at the end all are
pub shown_all : {W : Type 0} (name : W → List ℕ) (text : W → Texts) (p : Problem) → IsTrue (is_problem p) → (old new : List W) (count : ℕ) → AreShownTo old new name text p None [] count
    → AreShownAll name text p old new count
shown_all name text p valid old new count shown =
    let same : shown.passed ++ [] ≡ all_worlds p = append-nil shown.passed ∙ one_listing_law.worlds p [] None _ _ shown.upto (trial_is_right_law.worlds p valid [] None) in (
      subst (λ ts. HaveSeen name text p ts old new) same shown.seen,
      shown.counted ∙ ap (λ (ts : List (List Rel)). saturated (length ts)) same,
    )

-- a table's next world is shown
pub shown_told : {W : Type 0} (name : W → List ℕ) (text : W → Texts) (p : Problem) (one other : TablesState) (t table : List Rel) (old mid new : List W) (count count' : ℕ)
    → one.problem ≡ p → AreShownTo old mid name text p one.at one.told count → PassedTold one other → other.told ≡ table ∷ [] → t ≡ table → AllTook name text p t mid new → count' ≡ min (count + 1) (2 ^ 64 - 1)
    → AreShownTo old new name text p other.at other.told count'
shown_told name text p one other t table old mid new count count' same shown passed told is took more =
    subst (λ ts. AreShownTo old new name text p other.at ts count') (ap (λ x. x ∷ []) is ∙ sym told)
    (shown_more name text p other.at t old mid new count count'
    (shown_passed name text p one.at other.at one.told old mid count shown (subst (λ q. Lists q one.at other.at one.told) same passed.passed)) took more)

-- a table has no world any more
pub shown_past : {W : Type 0} (name : W → List ℕ) (text : W → Texts) (p : Problem) (one other : TablesState) (old new : List W) (count : ℕ)
    → IsTrue (is_problem p) → one.problem ≡ p → AreShownTo old new name text p one.at one.told count → PassedTold one other → other.at ≡ None → AreShownAll name text p old new count
shown_past name text p one other old new count valid same shown passed end =
    shown_all name text p valid old new count
    (subst (λ o. AreShownTo old new name text p o [] count) end
    (shown_passed name text p one.at other.at one.told old new count shown (subst (λ q. Lists q one.at other.at one.told) same passed.passed)))
