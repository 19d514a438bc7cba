-- Replies that are put one after another, and what is put where a put is refused.
use Rattle.std.proofs.Common.{◌≡◌, ℕ, suc, ◌+◌, ◌<◌, ◌≤◌, Bool, true, false, List, [], ◌∷◌, ◌++◌, take, drop, length, map, flat_map, get_or, Option, Some, OnErr, Result, Ok, Err, refl, sym, ap, subst, ◌∙◌, append-nil, arith}
use Rattle.std.specs.Prelude.{◌==◌, ◌&&◌, not, None}
use Rattle.std.proofs.Math.Seq.{take-suc}
use Rattle.std.proofs.lemmas.Grind.{flat_map-append}
use Rattle.std.proofs.lemmas.List.{map-append, take-append-drop, take_all}
use Rattle.std.proofs.lemmas.List.Elements.{filter-append}
use Rattle.outer_store.specs.Bytes.{GrownInPart, added}
use Rattle.outer_store.specs.States.{SinkState}
use Rattle.outer_store.specs.declared.fault.StoreFault.{StoreFault}
use Rattle.outer_store.proofs.BytesLemmas.{added-added, GrownInPart-longer, GrownInPart-after}
use Rattle.world_model.specs.Problem.{Problem}
use Rattle.desk_run.specs.declared.script.requests.DeskRequest.{DeskRequest}
use Rattle.desk_run.specs.declared.desk.reply.Reply.{Reply}
use Rattle.desk_run.specs.declared.desk.reply.Reply.TheVariants.{NoMemory}
use Rattle.desk_run.specs.Desk.Talks.{Exchange, Talk, is_starved, of_slot, IsAlone}
use Rattle.desk_run.specs.Desk.Desks.{DeskState, slot_at, all_closed, IsExchange}
use Rattle.desk_run.specs.Desk.Apart.{IsAfter}
use Rattle.desk_run.proofs.desk.ApartLemmas.{apart_law}
use Rattle.run_ends.specs.Runs.{LeavesPiece}
use Rattle.run_ends.proofs.PieceLemmas.{piece_after}
use Rattle.desk_run.specs.Answering.{reply_line, served_line, IsTalkOf, IsServed}
use Rattle.desk_run.specs.Steps.{IsServedOut}

-- what was asked in a talk
abbrev asked : Talk → List DeskRequest
asked talk = map (λ (e : Exchange). e.request) talk

abbrev exchanged : DeskRequest → Reply → Exchange
exchanged request reply = record { request = request; reply = reply }

-- requests for each of which memory was wanting
abbrev pub starved : List DeskRequest → Talk
starved [] = []
starved (request ∷ requests) = exchanged request NoMemory ∷ starved requests

starved_asked : (requests : List DeskRequest) → asked (starved requests) ≡ requests
starved_asked [] = refl
starved_asked (request ∷ requests) = ap (λ rs. request ∷ rs) (starved_asked requests)

never : (b : Bool) → (b && false) ≡ false
never true = refl
never false = refl

-- they are no slot's
no_slots : (k : ℕ) (requests : List DeskRequest) → of_slot k (starved requests) ≡ []
no_slots k [] = refl
no_slots k (request ∷ requests) = rw (never (request.slot == k)) (no_slots k requests)

still_of_slot : (k : ℕ) (talk : Talk) (rest : List DeskRequest) → of_slot k (talk ++ starved rest) ≡ of_slot k talk
still_of_slot k talk rest =
    filter-append (λ (e : Exchange). (e.request.slot == k) && not (is_starved e.reply)) talk (starved rest)
    ∙ ap (λ es. of_slot k talk ++ es) (no_slots k rest)
    ∙ append-nil (of_slot k talk)

-- a talk that goes on so leaves the slots where they are
rest_starved : (p : Problem) (requests rest : List DeskRequest) (talk : Talk) → IsTalkOf p requests talk → IsTalkOf p (requests ++ rest) (talk ++ starved rest)
rest_starved p requests rest talk is = record {
  asked = map-append (λ (e : Exchange). e.request) talk (starved rest) ∙ ap (λ rs. rs ++ asked (starved rest)) is.asked ∙ ap (λ rs. requests ++ rs) (starved_asked rest);
  ends = is.ends;
  apart = λ k. subst (λ es. IsAlone p None es (is.ends k)) (sym (still_of_slot k talk rest)) (is.apart k);
}

-- a talk after which the desk is so
talk_after : (p : Problem) (requests : List DeskRequest) (talk : Talk) (desk : DeskState) → asked talk ≡ requests → IsAfter p talk desk → IsTalkOf p requests talk
talk_after p requests talk desk are after = record { asked = are; ends = slot_at desk; apart = after.apart }

-- requests none of which was reached
pub none_reached : (p : Problem) (requests : List DeskRequest) → IsTalkOf p requests (starved requests)
none_reached p requests = rest_starved p [] requests [] (talk_after p [] [] (all_closed p) refl (apart_law.at_first p))

-- the first of the requests are handled, and their replies put
pub record AreServedTo (p : Problem) (requests : List DeskRequest) (i : ℕ) (desk : DeskState) (old new : Option (List ℕ)) : Type 0 where
  pub talk : Talk
  pub are : asked talk ≡ take i requests
  pub after : IsAfter p talk desk
  pub put : new ≡ added old (flat_map reply_line talk)

-- none of them are
pub none_served : (p : Problem) (requests : List DeskRequest) (desk : DeskState) (old : Option (List ℕ)) → p ≡ desk.problem → desk ≡ all_closed desk.problem → AreServedTo p requests 0 desk old old
none_served p requests desk old same closed = record {
  talk = [];
  are = refl;
  after = subst (IsAfter p []) (sym (closed ∙ ap all_closed (sym same))) (apart_law.at_first p);
  put = nothing old;
}
  where
    nothing : (told : Option (List ℕ)) → told ≡ added told []
    nothing None = refl
    nothing (Some bytes) = ap Some (sym (append-nil bytes))

-- one more is handled
module _ (p : Problem) (requests : List DeskRequest) (i : ℕ) (desk desk' : DeskState) (old mid : Option (List ℕ)) (so_far : AreServedTo p requests i desk old mid)
    (request : DeskRequest) (reply : Reply) (within : i < length requests) (is : request ≡ get_or requests i request) (exchange : IsExchange desk request reply desk') where
  abbrev longer : Talk
  longer = so_far.talk ++ exchanged request reply ∷ []

  longer_asked : asked longer ≡ take (i + 1) requests
  longer_asked =
      let next : suc i ≡ i + 1 = omega arith in
      map-append (λ (e : Exchange). e.request) so_far.talk (exchanged request reply ∷ [])
      ∙ ap (λ rs. rs ++ request ∷ []) so_far.are
      ∙ ap (λ r. take i requests ++ r ∷ []) is
      ∙ sym (take-suc requests i request within)
      ∙ ap (λ (n : ℕ). take n requests) next

  longer_after : IsAfter p longer desk'
  longer_after = apart_law.one_more p so_far.talk desk desk' request reply so_far.after exchange

  longer_lines : flat_map reply_line so_far.talk ++ reply_line (exchanged request reply) ≡ flat_map reply_line longer
  longer_lines = sym (flat_map-append reply_line so_far.talk (exchanged request reply ∷ []) ∙ ap (λ line. flat_map reply_line so_far.talk ++ line) (append-nil (reply_line (exchanged request reply))))

  -- and its reply put
  pub one_served : (new : Option (List ℕ)) → new ≡ added mid (reply_line (exchanged request reply)) → AreServedTo p requests (i + 1) desk' old new
  one_served new put = record {
    talk = longer;
    are = longer_asked;
    after = longer_after;
    put = put ∙ ap (λ told. added told (reply_line (exchanged request reply))) so_far.put ∙ added-added old (flat_map reply_line so_far.talk) (reply_line (exchanged request reply)) ∙ ap (added old) longer_lines;
  }

  -- or its put is refused: it is as though memory had been wanting for all that follow
  pub rest_talk : Talk
  rest_talk = longer ++ starved (drop (i + 1) requests)

  pub rest_talk_is : IsTalkOf p requests rest_talk
  unfolding rest_talk
  rest_talk_is =
      subst (λ rs. IsTalkOf p rs (longer ++ starved (drop (i + 1) requests))) (take-append-drop (i + 1) requests)
      (rest_starved p (take (i + 1) requests) (drop (i + 1) requests) longer (talk_after p (take (i + 1) requests) longer desk' longer_asked longer_after))

  pub part_put : (new : Option (List ℕ)) → GrownInPart mid new (reply_line (exchanged request reply)) → GrownInPart old new (flat_map reply_line rest_talk)
  unfolding rest_talk
  part_put new part =
      subst (GrownInPart old new) (sym (flat_map-append reply_line longer (starved (drop (i + 1) requests))))
      (GrownInPart-longer old new (flat_map reply_line longer) (flat_map reply_line (starved (drop (i + 1) requests)))
      (subst (GrownInPart old new) longer_lines (GrownInPart-after old mid new (flat_map reply_line so_far.talk) (reply_line (exchanged request reply)) so_far.put part)))

-- all are served
pub all_served : (p : Problem) (requests : List DeskRequest) (i : ℕ) (desk : DeskState) (old new : Option (List ℕ)) → length requests ≤ i → (so_far : AreServedTo p requests i desk old new) → IsTalkOf p requests so_far.talk
all_served p requests i desk old new end so_far = talk_after p requests so_far.talk desk (so_far.are ∙ take_all i requests end) so_far.after

-- a fact of a refusal
pub on_err : {T E : Type 0} (r : Result T E) (Fact : Type 0) → Fact → OnErr r Fact
on_err (Ok value) Fact fact = tt
on_err (Err e) Fact fact = fact

-- the replies of a talk, and the last line behind them
abbrev pub text_of : Talk → List DeskRequest → List ℕ
text_of talk requests = flat_map reply_line talk ++ served_line (length requests)

pub served_by : (p : Problem) (requests : List DeskRequest) (talk : Talk) → IsTalkOf p requests talk → IsServed p requests (text_of talk requests)
served_by p requests talk is = record { talk = talk; is = is; put = refl }

pub count_behind : {T : Type 0} (r : Result T StoreFault) (p : Problem) (requests : List DeskRequest) (talk : Talk) (old mid new : SinkState) → IsTalkOf p requests talk
    → mid.bytes ≡ added old.bytes (flat_map reply_line talk) → mid.faults ≡ old.faults → LeavesPiece r (served_line (length requests)) mid new → IsServedOut p requests r old new
count_behind r p requests talk old mid new is put same count =
    (text_of talk requests, (served_by p requests talk is, piece_after r (flat_map reply_line talk) (served_line (length requests)) old mid new put same count))
