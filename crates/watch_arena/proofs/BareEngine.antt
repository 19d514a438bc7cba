-- What is so of an engine beside its chains.
use Rattle.std.proofs.Common.{◌≡◌, ◌∙◌, ◌⊎◌, ℕ, ◌*◌, ◌^◌, ◌<◌, ◌≤◌, List, [], length, get_or, Option, sym, subst}
use Rattle.std.specs.List.{Contains}
use Rattle.std.proofs.lemmas.List.Sorted.{IsPermutation-refl}
use Rattle.std.specs.List.Sorted.{IsPermutation}
use Rattle.clause_arena.specs.declared.place.Link.{Link}
use Rattle.clause_arena.specs.Records.{Record, record_at}
use Rattle.watch_arena.specs.declared.engine.Engine.{Engine}
use Rattle.watch_arena.specs.Places.{place_at}
use Rattle.watch_arena.specs.Trails.{SameRecords}
use Rattle.watch_arena.specs.Chains.{AreChains, IsNone, SameBodies}
use Rattle.watch_arena.specs.Engines.{AreMarked, AreReasoned, AreShortOrWatched, AreLevelled, RecordsInRange, IsReasonBelow, IsSettledAt, IsShortSettled, IsWatched, IsShort, IsEngine}

-- all but the chains
pub record IsBare (e : Engine) : Type 0 where
  pub few : e.variables < 2 ^ 32
  pub no_pairs : e.moves.pairs ≡ []
  pub room : e.variables ≤ e.places.room
  pub heads : length e.heads ≡ e.variables
  pub firsts : length e.firsts ≡ e.variables
  pub marked : AreMarked e.marks e.places.list e.variables
  pub in_range : RecordsInRange e.arena e.variables
  pub reasoned : AreReasoned e.arena e.marks e.places.list
  pub kinds : AreShortOrWatched e.arena
  pub levelled : AreLevelled e.places.list
  pub now : IsSettledAt e.arena e.shorts e.marks e.queue_head e.first (length e.places.list)
  pub saved : (p : ℕ) → p < length e.places.list → IsSettledAt e.arena e.shorts e.marks (get_or e.heads p 0) (get_or e.firsts p 0) p

pub IsBare-of : (e : Engine) → IsEngine e → IsBare e
IsBare-of e s = record {
  few = s.few;
  no_pairs = s.no_pairs;
  room = s.room;
  heads = s.heads;
  firsts = s.firsts;
  marked = s.marked;
  in_range = s.in_range;
  reasoned = s.reasoned;
  kinds = s.kinds;
  levelled = s.levelled;
  now = s.now;
  saved = s.saved;
}

pub IsEngine-of : (e : Engine) → IsBare e → length e.chains ≡ 2 * e.variables → AreChains e.arena e.chains IsNone → IsEngine e
IsEngine-of e b lists filed = record {
  few = b.few;
  no_pairs = b.no_pairs;
  room = b.room;
  lists = lists;
  heads = b.heads;
  firsts = b.firsts;
  marked = b.marked;
  in_range = b.in_range;
  reasoned = b.reasoned;
  kinds = b.kinds;
  filed = filed;
  levelled = b.levelled;
  now = b.now;
  saved = b.saved;
}

-- records with the same bodies are the same ones
pub SameRecords-bodies : (old new : List Record) → SameBodies old new → SameRecords old new
SameRecords-bodies old new s = record {
  count = s.count;
  each = λ at. let one = s.each at in record {
    id = one.id;
    live = one.live;
    lits = subst (λ (ls : List ℕ). IsPermutation (record_at old at).lits ls) (sym one.lits) (IsPermutation-refl (record_at old at).lits);
  };
}

-- what is settled is so by the bodies
IsSettledAt-bodies : (old new : List Record) (shorts marks : List ℕ) (h s n : ℕ) → SameBodies old new → IsSettledAt old shorts marks h s n → IsSettledAt new shorts marks h s n
IsSettledAt-bodies old new shorts marks h s n same p = record {
  within = p.within;
  watched = λ at a b live w f. let one = same.each at in
      p.watched at a b (sym one.live ∙ live) (subst (λ (ls : List ℕ). IsWatched ls a b) one.lits w) f;
  alone = record {
    within = p.alone.within;
    each = λ at live short. let one = same.each at in
        subst (λ (ls : List ℕ). IsShortSettled ls at shorts marks s n) (sym one.lits)
        (p.alone.each at (sym one.live ∙ live) (subst (λ (ls : List ℕ). IsShort ls) one.lits short));
  };
}

-- links and chains are no part of it
pub IsBare-linked : (e : Engine) (records : List Record) (chains : List (Option Link)) → IsBare e → SameBodies e.arena records → IsBare (record e { arena = records; chains = chains })
IsBare-linked e records chains b same = record {
  few = b.few;
  no_pairs = b.no_pairs;
  room = b.room;
  heads = b.heads;
  firsts = b.firsts;
  marked = b.marked;
  in_range = λ at lit c. b.in_range at lit (subst (λ (ls : List ℕ). Contains ls lit) (same.each at).lits c);
  reasoned = λ p at lt is. let was = b.reasoned p at lt is in let one = same.each at in
      let here : IsReasonBelow (record_at records at) e.marks p (place_at e.places.list p).lit = record {
        live = one.live ∙ was.live;
        has = subst (λ (ls : List ℕ). Contains ls (place_at e.places.list p).lit) (sym one.lits) was.has;
        others = λ m c ne. was.others m (subst (λ (ls : List ℕ). Contains ls m) one.lits c) ne;
      } in here;
  kinds = λ at live. let one = same.each at in
      let P : List ℕ → Type 0 = λ ls. IsShort ls ⊎ IsWatched ls (get_or ls 0 0) (get_or ls 1 0) in
      subst P (sym one.lits) (b.kinds at (sym one.live ∙ live));
  levelled = b.levelled;
  now = IsSettledAt-bodies e.arena records e.shorts e.marks e.queue_head e.first (length e.places.list) same b.now;
  saved = λ p lt. IsSettledAt-bodies e.arena records e.shorts e.marks (get_or e.heads p 0) (get_or e.firsts p 0) p same (b.saved p lt);
}
