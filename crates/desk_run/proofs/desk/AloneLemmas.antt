-- A slot's replies follow from its own acts.
use Rattle.std.proofs.Common.{◌≡◌, List, [], ◌∷◌, ◌⊎◌, inl, inr, refl, sym, ap, ◌∙◌, subst, true≢false}
use Rattle.std.specs.Prelude.{Option, Some, None}
use Rattle.std.proofs.lemmas.Bool.{not-true}
use Rattle.rcc5_core.specs.declared.Rel.{Rel}
use Rattle.world_model.specs.Problem.{Problem}
use Rattle.world_model.specs.Listing.{is_below}
use Rattle.world_model.proofs.OrderPositions.{below_cases}
use Rattle.world_walk.specs.ToCome.{IsFirstToCome, NoneToCome}
use Rattle.desk_run.specs.declared.script.requests.Act.{Act}
use Rattle.desk_run.specs.declared.script.requests.Act.TheVariants.{Open, Keep, Narrow, Next, Close}
use Rattle.desk_run.specs.declared.desk.reply.Reply.{Reply}
use Rattle.desk_run.specs.declared.desk.reply.Reply.TheVariants.{Opened, Kept, Narrowed, World, NoneLeft, Closed, SlotOpen, SlotClosed, NoMemory}
use Rattle.desk_run.specs.Desk.Slots.{OpenSlot, Slot, IsNextReply, IsStep}
use Rattle.desk_run.specs.Desk.Talks.{Talk, acts, replies, IsAlone, SlotsAnswerAlone}

-- two first worlds are one
one_first : (p : Problem) (last : Option (List Rel)) (t u : List Rel) → IsFirstToCome p last t → IsFirstToCome p last u → t ≡ u
one_first p last t u a b = elim (below_cases t u) [
  | inl less ↦ absurd (true≢false (sym less ∙ not-true (is_below t u) (b.least t a.comes)))
  | inr (inl same) ↦ same
  | inr (inr more) ↦ absurd (true≢false (sym more ∙ not-true (is_below u t) (a.least u b.comes)))
]

-- a reply to `next` is a world
pub record IsWorld (s : OpenSlot) (reply : Reply) (new : Slot) : Type 0 where
  pub table : List Rel
  pub first : IsFirstToCome s.problem s.last table
  pub replied : reply ≡ World table
  pub moved : new ≡ Some (record s { last = Some table })

-- or none is left
pub record IsEnd (s : OpenSlot) (reply : Reply) (new : Slot) : Type 0 where
  pub none : NoneToCome s.problem s.last
  pub replied : reply ≡ NoneLeft
  pub kept : new ≡ Some s

pub by_reply : (s : OpenSlot) (reply : Reply) (new : Slot) → IsNextReply s reply new → IsWorld s reply new ⊎ IsEnd s reply new
by_reply s (World t) new h = inl (record { table = t; first = h.0; replied = refl; moved = h.1 })
by_reply s NoneLeft new h = inr (record { none = h.0; replied = refl; kept = h.1 })
by_reply s Opened new h = absurd h
by_reply s Kept new h = absurd h
by_reply s Narrowed new h = absurd h
by_reply s Closed new h = absurd h
by_reply s SlotOpen new h = absurd h
by_reply s SlotClosed new h = absurd h
by_reply s NoMemory new h = absurd h

-- there is one reply, and one slot after it
record AreOne (r s : Reply) (a b : Slot) : Type 0 where
  one_reply : r ≡ s
  one_slot : a ≡ b

one_next : (s : OpenSlot) (q r : Reply) (a b : Slot) → IsNextReply s q a → IsNextReply s r b → AreOne q r a b
one_next s q r a b x y = by (by_reply s q a x) (by_reply s r b y)
  where
    by : IsWorld s q a ⊎ IsEnd s q a → IsWorld s r b ⊎ IsEnd s r b → AreOne q r a b
    by (inl v) (inl w) =
        let same : v.table ≡ w.table = one_first s.problem s.last v.table w.table v.first w.first in
        record {
          one_reply = v.replied ∙ ap World same ∙ sym w.replied;
          one_slot = v.moved ∙ ap (λ t. Some (record s { last = Some t })) same ∙ sym w.moved;
        }
    by (inl v) (inr w) = absurd (w.none v.table v.first.comes)
    by (inr v) (inl w) = absurd (v.none w.table w.first.comes)
    by (inr v) (inr w) = record { one_reply = v.replied ∙ sym w.replied; one_slot = v.kept ∙ sym w.kept }

-- what equations give
one_of : {q r want : Reply} {a b slot : Slot} → (q ≡ want) × (a ≡ slot) → (r ≡ want) × (b ≡ slot) → AreOne q r a b
one_of x y = record { one_reply = x.0 ∙ sym y.0; one_slot = x.1 ∙ sym y.1 }

one_step : (p : Problem) (old : Slot) (act : Act) (q r : Reply) (a b : Slot) → IsStep p old act q a → IsStep p old act r b → AreOne q r a b
one_step p None Open q r a b x y = one_of x y
one_step p None (Keep flags) q r a b x y = one_of x y
one_step p None (Narrow k set) q r a b x y = one_of x y
one_step p None Next q r a b x y = one_of x y
one_step p None Close q r a b x y = one_of x y
one_step p (Some s) Open q r a b x y = one_of x y
one_step p (Some s) (Keep flags) q r a b x y = one_of x y
one_step p (Some s) (Narrow k set) q r a b x y = one_of x y
one_step p (Some s) Next q r a b x y = one_next s q r a b x y
one_step p (Some s) Close q r a b x y = one_of x y

-- equal acts get equal replies, and lead to one slot
record AreAlike (a b : Talk) (one other : Slot) : Type 0 where
  same_replies : replies a ≡ replies b
  same_end : one ≡ other

alike : (p : Problem) (start one other : Slot) (a b : Talk) → IsAlone p start a one → IsAlone p start b other → acts a ≡ acts b → AreAlike a b one other
alike p start one other [] [] x y same = record { same_replies = refl; same_end = x ∙ sym y }
alike p start one other [] (f ∷ fs) x y same = cc
alike p start one other (e ∷ es) [] x y same = cc
alike p start one other (e ∷ es) (f ∷ fs) x y same =
    let act : e.request.act ≡ f.request.act = cc in
    let more : acts es ≡ acts fs = cc in
    let step = one_step p start e.request.act e.reply f.reply x.0 y.0 x.1 (subst (λ a. IsStep p start a f.reply y.0) (sym act) y.1) in
    let rest = alike p x.0 one other es fs x.2 (subst (λ m. IsAlone p m fs other) (sym step.one_slot) y.2) more in
    record { same_replies = λ i. step.one_reply i ∷ rest.same_replies i; same_end = rest.same_end }

pub alone_law : SlotsAnswerAlone
alone_law = record {
  same_replies = λ p start one other a b x y same. (alike p start one other a b x y same).same_replies;
  same_ends = λ p start one other a b x y same. (alike p start one other a b x y same).same_end;
}
