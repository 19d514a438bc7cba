-- What a set of relations forces of a region, and what that says of two sets.
use Rattle.std.proofs.Common.{◌≡◌, Bool, true, false, not, ◌&&◌, cond, refl, sym, ap, ◌∙◌, subst}
use Rattle.std.specs.List.{list_all, list_any}
use Rattle.std.proofs.lemmas.Bool.{and_parts, false≢true, false_from_ne_true}
use Rattle.rcc5_core.specs.declared.Rel.{Rel}
use Rattle.rcc5_core.specs.declared.Rel.TheVariants.{Equals, Includes, IncludedIn, Overlaps, Disjoint}
use Rattle.rcc5_core.specs.declared.RelSet.{RelSet}
use Rattle.rcc5_core.specs.declared.Occupancy.{Occupancy}
use Rattle.rcc5_core.specs.declared.Occupancy.TheVariants.{Empty, Occupied, Free}
use Rattle.rcc5_core.specs.declared.Region.{Region}
use Rattle.rcc5_core.specs.declared.Region.TheVariants.{LeftOnly, Both, RightOnly}
use Rattle.rcc5_core.specs.Relation.{all_rels, relation_by}
use Rattle.rcc5_core.specs.RelationSet.{has, is_empty_set}
use Rattle.rcc5_core.specs.Region.{all_regions, word_at, row_of, same_word, all_say, forced_word, forced_regions}
use Rattle.world_model.specs.Family.{implies}
use Rattle.world_model.specs.Alive.{same_bool}
use Rattle.world_model.proofs.Members.{In, here, there, all_at, all_from, any_at, any_from}

pub implies_at : (a b : Bool) → implies a b ≡ true → a ≡ true → b ≡ true
implies_at true b h e = h
implies_at false b h e = absurd (false≢true e)

pub implies_from : (a b : Bool) → (a ≡ true → b ≡ true) → implies a b ≡ true
implies_from true b h = h refl
implies_from false b h = refl

pub same_bool_at : (a b : Bool) → same_bool a b ≡ true → a ≡ b
same_bool_at true true h = refl
same_bool_at true false h = absurd (false≢true h)
same_bool_at false true h = absurd (false≢true h)
same_bool_at false false h = refl

-- a test of both bits
abbrev pub every : (Bool → Bool) → Bool
every test = test true && test false

pub every_at : (test : Bool → Bool) → every test ≡ true → (b : Bool) → test b ≡ true
every_at test h true = (and_parts (test true) (test false) h).0
every_at test h false = (and_parts (test true) (test false) h).1

pub In-all_rels : (rel : Rel) → In rel all_rels
In-all_rels Equals = here refl
In-all_rels Includes = there (here refl)
In-all_rels IncludedIn = there (there (here refl))
In-all_rels Overlaps = there (there (there (here refl)))
In-all_rels Disjoint = there (there (there (there (here refl))))

pub In-all_regions : (region : Region) → In region all_regions
In-all_regions LeftOnly = here refl
In-all_regions Both = there (here refl)
In-all_regions RightOnly = there (there (here refl))

-- the word of a region that has an element, or has none
abbrev pub word_of : Bool → Occupancy
word_of true = Occupied
word_of false = Empty

-- the set forces the region to have an element, or to have none
pub record Forces (set : RelSet) (region : Region) (occupied : Bool) : Type 0 where
  pub same : same_word (word_at (forced_regions set) region) (word_of occupied) ≡ true

-- each relation of the set is in the other
abbrev pub IsInside : RelSet → RelSet → Type 0
IsInside a b = (rel : Rel) → has a rel ≡ true → has b rel ≡ true

forced_is : (set : RelSet) (region : Region) → word_at (forced_regions set) region ≡ forced_word set region
forced_is set LeftOnly = refl
forced_is set Both = refl
forced_is set RightOnly = refl

chosen : (none empty occupied b : Bool) → same_word (cond none Free (cond empty Empty (cond occupied Occupied Free))) (word_of b) ≡ true →
    (none ≡ false) × (cond b occupied empty ≡ true)
chosen true empty occupied true h = absurd (false≢true h)
chosen true empty occupied false h = absurd (false≢true h)
chosen false true occupied true h = absurd (false≢true h)
chosen false true occupied false h = (refl, refl)
chosen false false true true h = (refl, refl)
chosen false false true false h = absurd (false≢true h)
chosen false false false true h = absurd (false≢true h)
chosen false false false false h = absurd (false≢true h)

choose : (none empty occupied b : Bool) → none ≡ false → cond b occupied empty ≡ true → cond b empty occupied ≡ false →
    same_word (cond none Free (cond empty Empty (cond occupied Occupied Free))) (word_of b) ≡ true
choose none empty occupied true n o e = rw (n, e, o) refl
choose none empty occupied false n e o = rw (n, e) refl

-- all relations of a non-empty set say one word of the region
pub record AllSay (set : RelSet) (region : Region) (occupied : Bool) : Type 0 where
  pub some : is_empty_set set ≡ false
  pub all : all_say set region (word_of occupied) ≡ true

say_of : (set : RelSet) (region : Region) (b : Bool) → cond b (all_say set region Occupied) (all_say set region Empty) ≡ all_say set region (word_of b)
say_of set region true = refl
say_of set region false = refl

-- the relations of a set say what the set forces
says_at : (set : RelSet) (region : Region) (word : Occupancy) (rel : Rel) → all_say set region word ≡ true → has set rel ≡ true →
    same_word (word_at (row_of rel) region) word ≡ true
says_at set region word rel all h =
    implies_at (has set rel) (same_word (word_at (row_of rel) region) word)
    (all_at (λ rel. implies (has set rel) (same_word (word_at (row_of rel) region) word)) all (In-all_rels rel)) h

says_from : (set : RelSet) (region : Region) (word : Occupancy) → ((rel : Rel) → has set rel ≡ true → same_word (word_at (row_of rel) region) word ≡ true) →
    all_say set region word ≡ true
says_from set region word each =
    all_from (λ rel. implies (has set rel) (same_word (word_at (row_of rel) region) word)) all_rels
    (λ rel i. implies_from (has set rel) (same_word (word_at (row_of rel) region) word) (each rel))

pub all_say_from_forces : {set : RelSet} {region : Region} {b : Bool} → Forces set region b → AllSay set region b
all_say_from_forces {set} {region} {b} f =
    let e : same_word (forced_word set region) (word_of b) ≡ true = subst (λ w. same_word w (word_of b) ≡ true) (forced_is set region) f.same in
    let parts = chosen (is_empty_set set) (all_say set region Empty) (all_say set region Occupied) b e in
    record { some = parts.0; all = sym (say_of set region b) ∙ parts.1 }

-- one of a non-empty set
pub some_rel : (set : RelSet) → is_empty_set set ≡ false → (rel : Rel) × (has set rel ≡ true)
some_rel set h = let f = any_at (has set) all_rels (any_true (list_any (has set) all_rels) h) in (f.item, f.passes)
  where
    any_true : (b : Bool) → not b ≡ false → b ≡ true
    any_true true e = refl
    any_true false e = sym e

pub has_some : (set : RelSet) (rel : Rel) → has set rel ≡ true → is_empty_set set ≡ false
has_some set rel h = ap not (any_from (has set) (In-all_rels rel) h)

two_words : (word : Occupancy) (b : Bool) → same_word word (word_of b) ≡ true → same_word word (word_of (not b)) ≡ true → ⊥
two_words Empty true h k = false≢true h
two_words Empty false h k = false≢true k
two_words Occupied true h k = false≢true k
two_words Occupied false h k = false≢true h
two_words Free true h k = false≢true h
two_words Free false h k = false≢true h

pub forces_from_all_say : {set : RelSet} {region : Region} {b : Bool} → AllSay set region b → Forces set region b
forces_from_all_say {set} {region} {b} s =
    let one = some_rel set s.some in
    let here_word = says_at set region (word_of b) one.0 s.all one.1 in
    let other : all_say set region (word_of (not b)) ≡ false = false_from_ne_true _ (λ all. two_words (word_at (row_of one.0) region) b here_word (says_at set region (word_of (not b)) one.0 all one.1)) in
    record {
      same = subst (λ w. same_word w (word_of b) ≡ true) (sym (forced_is set region))
          (choose (is_empty_set set) (all_say set region Empty) (all_say set region Occupied) b s.some (say_of set region b ∙ s.all) (flip_say b other));
    }
  where
    flip_say : (b : Bool) → all_say set region (word_of (not b)) ≡ false → cond b (all_say set region Empty) (all_say set region Occupied) ≡ false
    flip_say true e = e
    flip_say false e = e

-- what a set forces, each non-empty set inside it forces
pub forces_inside : {a b : RelSet} {region : Region} {occupied : Bool} → IsInside a b → is_empty_set a ≡ false → Forces b region occupied → Forces a region occupied
forces_inside {a} {b} {region} {occupied} inside some f =
    let s : AllSay b region occupied = all_say_from_forces f in
    forces_from_all_say (record { some = some; all = says_from a region (word_of occupied) (λ rel h. says_at b region (word_of occupied) rel s.all (inside rel h)) })

-- whether the region has an element, by whether each of the three has
abbrev pub seen : Region → Bool → Bool → Bool → Bool
seen LeftOnly l m r = l
seen Both l m r = m
seen RightOnly l m r = r

row_table : every (λ l. every (λ m. every (λ r. list_all (λ region. every (λ b.
    implies (same_word (word_at (row_of (relation_by l m r)) region) (word_of b)) (same_bool (seen region l m r) b))) all_regions))) ≡ true
row_table = refl

-- what the relation of two sets says of a region is so
pub row_seen : (l m r : Bool) (region : Region) (b : Bool) → same_word (word_at (row_of (relation_by l m r)) region) (word_of b) ≡ true → seen region l m r ≡ b
row_seen l m r region b h =
    let on_region = λ (l m r : Bool) (region : Region) (b : Bool). implies (same_word (word_at (row_of (relation_by l m r)) region) (word_of b)) (same_bool (seen region l m r) b) in
    let on_r = every_at (λ r. list_all (λ region. every (on_region l m r region)) all_regions)
    (every_at (λ m. every (λ r. list_all (λ region. every (on_region l m r region)) all_regions))
    (every_at (λ l. every (λ m. every (λ r. list_all (λ region. every (on_region l m r region)) all_regions))) row_table l) m) r in
    let at = every_at (on_region l m r region) (all_at (λ region. every (on_region l m r region)) on_r (In-all_regions region)) b in
    same_bool_at (seen region l m r) b (implies_at _ (same_bool (seen region l m r) b) at h)

-- what a set forces is so of two sets whose relation is in it
pub forced_seen : {set : RelSet} {region : Region} {b : Bool} (l m r : Bool) → has set (relation_by l m r) ≡ true → Forces set region b → seen region l m r ≡ b
forced_seen {set} {region} {b} l m r h f =
    row_seen l m r region b (says_at set region (word_of b) (relation_by l m r) (all_say_from_forces f).all h)
