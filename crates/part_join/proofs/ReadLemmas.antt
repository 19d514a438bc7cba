-- What is read of the file under a name, and of the files under names, one after the other.
use Rattle.std.proofs.Common.{◌≡◌, ℕ, suc, ◌+◌, ◌<◌, ◌++◌, List, [], ◌∷◌, map, length, take, drop, get_or, refl, sym, ap, ◌∙◌, subst, arith}
use Rattle.std.specs.Prelude.{Option, Some, None, Result, Ok, Err, Contains, ⊤}
use Rattle.std.specs.List.{AllZip}
use Rattle.std.proofs.lemmas.List.{map-append, map_more, length-map, length-take-le}
use Rattle.std.proofs.Math.Seq.{split_at}
use Rattle.std.proofs.lemmas.List.Elements.{AllZip-push}
use Rattle.std.proofs.lemmas.Slice.Zip.{AllZip-long}
use Rattle.outer_store.specs.Contents.{Contents}
use Rattle.outer_store.specs.Faults.{Counts, Rose}
use Rattle.outer_store.specs.States.{StoreState, IsQuiet, IsQuiet-joins}
use Rattle.world_model.proofs.Members.{In-map, In-get_or, contains_from_in}
use Rattle.world_model.specs.Problem.{Problem}
use Rattle.cert_reader.specs.Bytes.{MayHold, ForSome}
use Rattle.cert_reader.specs.Reading.{reading}
use Rattle.cert_check.specs.Answers.{IsAnswerOf}
use Rattle.cert_check.specs.declared.accepted.Accepted.{Accepted}
use Rattle.cert_check.specs.declared.accepted.Accepted.TheVariants.{Listing, Claims}
use Rattle.cert_check.specs.declared.fault.CheckFault.{CheckFault}
use Rattle.cert_check.specs.declared.fault.CheckFault.TheVariants as unread
use Rattle.cert_rules.specs.declared.parts.PartKind.{PartKind}
use Rattle.part_join.specs.Parts.{Part}
use Rattle.part_join.specs.Joining.{part_by, part_in, AreParts, IsJoin, MayHoldAll, SomeRose, IfReadFailed, IfReadFault}
use Rattle.part_join.specs.Reads.{as_part, IsPartOf, IsUnread, IsReadOf}
use Rattle.part_join.specs.Sweeping.{IsSweepOf}
use Rattle.part_join.specs.declared.fault.JoinFault.{JoinFault}
use Rattle.part_join.specs.declared.fault.JoinFault.TheVariants.{PartRefused, Gap, ReadFault, NoMemory}
use Rattle.rcc5_core.specs.declared.Rel.{Rel}

-- the part that is read is that of the bytes
pub part_tells : (p : Problem) (number : ℕ) (bytes : List ℕ) (said : Result Accepted CheckFault) → IsAnswerOf p (reading bytes) said → IsPartOf p number bytes (as_part number said)
part_tells p number bytes (Ok (Listing from to worlds)) h = ap part_by h
part_tells p number bytes (Ok (Claims claims)) h = (refl, ap part_by h)
part_tells p number bytes (Err (unread.Text line kind)) h = (refl, ap part_by h)
part_tells p number bytes (Err (unread.Rejected line kind)) h = (refl, ap part_by h)
part_tells p number bytes (Err unread.ReadFault) h = tt
part_tells p number bytes (Err unread.NoMemory) h = tt

pub part_told : (p : Problem) (number : ℕ) (told : Option (List ℕ)) (said : Result Accepted CheckFault) → ForSome (MayHold told) (λ bytes. IsAnswerOf p (reading bytes) said) →
    ForSome (MayHold told) (λ bytes. IsPartOf p number bytes (as_part number said))
part_told p number told said h = (h.0, (h.1.0, part_tells p number h.0 said h.1.1))

-- some bytes that a name may hold
some_file : (told : Option (List ℕ)) → ForSome (MayHold told) (λ bytes. ⊤)
some_file None = ([], (tt, tt))
some_file (Some bytes) = (bytes, (refl, tt))

some_files : (held : Contents) (names : List (List ℕ)) → ForSome (MayHoldAll held names) (λ files. ⊤)
some_files held [] = ([], (tt, tt))
some_files held (name ∷ names) =
    let first : ForSome (MayHold (held name)) (λ bytes. ⊤) = some_file (held name) in
    let rest : ForSome (MayHoldAll held names) (λ files. ⊤) = some_files held names in
    (first.0 ∷ rest.0, ((first.1.0, rest.1.0), tt))

-- files of names, and of more names
zip_append : {A B : Type 0} (R : A → B → Type 0) (xs : List A) (ys : List B) (us : List A) (vs : List B) → AllZip R xs ys → AllZip R us vs → AllZip R (xs ++ us) (ys ++ vs)
zip_append R [] [] us vs h k = k
zip_append R [] (y ∷ ys) us vs h k = absurd h
zip_append R (x ∷ xs) [] us vs h k = absurd h
zip_append R (x ∷ xs) (y ∷ ys) us vs h k = (h.0, zip_append R xs ys us vs h.1 k)

-- files of some names are certificates of these parts
abbrev pub IsReadSoFar : Problem → Contents → List (List ℕ) → List Part → Type 0
IsReadSoFar p held names parts = ForSome (MayHoldAll held names) (λ files. AreParts p files parts)

-- one more part is read
pub read_more : (p : Problem) (held : Contents) (names : List (List ℕ)) (name : List ℕ) (number : ℕ) (parts : List Part) (q : Part) → IsReadSoFar p held names parts →
    ForSome (MayHold (held name)) (λ bytes. IsPartOf p number bytes (Ok q)) → IsReadSoFar p held (names ++ name ∷ []) (parts ++ q ∷ [])
read_more p held names name number parts q so_far one = (
  so_far.0 ++ one.0 ∷ [],
  (AllZip-push (λ name file. MayHold (held name) file) names so_far.0 name one.0 so_far.1.0 one.1.0, are),
)
  where
    are : AreParts p (so_far.0 ++ one.0 ∷ []) (parts ++ q ∷ [])
    are = map-append (part_in p) so_far.0 (one.0 ∷ []) ∙ (λ i. so_far.1.1 i ++ one.1.1 i ∷ []) ∙ sym (map-append {B = Result Part (ℕ × PartKind)} (λ (q : Part). Ok q) parts (q ∷ []))

-- or the reading ends at a fault
pub read_ended : (p : Problem) (held : Contents) (names : List (List ℕ)) (name : List ℕ) (later : List (List ℕ)) (number : ℕ) (parts : List Part) (fault : JoinFault) →
    number ≡ length names + 1 → IsReadSoFar p held names parts → ForSome (MayHold (held name)) (λ bytes. IsPartOf p number bytes (Err fault)) →
    ForSome (MayHoldAll held (names ++ name ∷ later)) (λ files. IsUnread p files fault)
read_ended p held names name later number parts fault numbered so_far one = (files, (held_all, by fault one.1.1))
  where
    rest : ForSome (MayHoldAll held later) (λ files. ⊤)
    rest = some_files held later

    files : List (List ℕ)
    files = so_far.0 ++ one.0 ∷ rest.0

    held_all : MayHoldAll held (names ++ name ∷ later) files
    held_all = zip_append (λ name file. MayHold (held name) file) names so_far.0 (name ∷ later) (one.0 ∷ rest.0) so_far.1.0 (one.1.0, rest.1.0)

    by : (fault : JoinFault) → IsPartOf p number one.0 (Err fault) → IsUnread p files fault
    by (PartRefused n line kind) h = record {
      earlier = so_far.0;
      file = one.0;
      later = rest.0;
      split = refl;
      numbered = h.0 ∙ numbered ∙ ap (λ n. n + 1) (sym (AllZip-long (λ name file. MayHold (held name) file) names so_far.0 so_far.1.0));
      parts = parts;
      good = so_far.1.1;
      refused = h.1;
    }
    by (Gap from to) h = absurd h
    by ReadFault h = tt
    by NoMemory h = tt

-- what comes of the parts that were read is the join
swept_is : (p : Problem) (files : List (List ℕ)) (parts : List Part) (result : Result (List (List Rel)) JoinFault) → AreParts p files parts → IsSweepOf p parts result → IsJoin p files result
swept_is p files parts (Ok worlds) are h = record { parts = parts; are = are; reach = h.0; listing = h.1 }
swept_is p files parts (Err (PartRefused number line kind)) are h = absurd h
swept_is p files parts (Err (Gap from to)) are h = record { parts = parts; are = are; gap = h }
swept_is p files parts (Err ReadFault) are h = absurd h
swept_is p files parts (Err NoMemory) are h = tt

pub joined_is : (p : Problem) (held : Contents) (names : List (List ℕ)) (parts : List Part) (result : Result (List (List Rel)) JoinFault) → IsReadSoFar p held names parts →
    IsSweepOf p parts result → ForSome (MayHoldAll held names) (λ files. IsJoin p files result)
joined_is p held names parts result read swept = (read.0, (read.1.0, swept_is p read.0 parts result read.1.1 swept))

-- no read fails there
pub swept_cause : (p : Problem) (parts : List Part) (result : Result (List (List Rel)) JoinFault) (failed other : Type 0) → IsSweepOf p parts result → other → IfReadFault result failed other
swept_cause p parts (Ok worlds) failed other h quiet = quiet
swept_cause p parts (Err (PartRefused number line kind)) failed other h quiet = quiet
swept_cause p parts (Err (Gap from to)) failed other h quiet = quiet
swept_cause p parts (Err ReadFault) failed other h quiet = absurd h
swept_cause p parts (Err NoMemory) failed other h quiet = quiet

-- why nothing was read is why nothing is joined
unread_is : (p : Problem) (files : List (List ℕ)) (fault : JoinFault) → IsUnread p files fault → IsJoin p files (Err fault)
unread_is p files (PartRefused number line kind) h = h
unread_is p files (Gap from to) h = absurd h
unread_is p files ReadFault h = tt
unread_is p files NoMemory h = tt

pub joined_not : (p : Problem) (held : Contents) (names : List (List ℕ)) (fault : JoinFault) →
    ForSome (MayHoldAll held names) (λ files. IsUnread p files fault) → ForSome (MayHoldAll held names) (λ files. IsJoin p files (Err fault))
joined_not p held names fault h = (h.0, (h.1.0, unread_is p h.0 fault h.1.1))

-- a turn over the names: the name at a place is read as a part
pub step_read : {N : Type 0} (f : N → List ℕ) (p checked : Problem) (held mid : Contents) (names : List N) (place : ℕ) (name : N) (text : List ℕ) (number : ℕ) (parts more : List Part) (q : Part) →
    checked ≡ p → place < length names → name ≡ get_or names place name → text ≡ f name → mid ≡ held → more ≡ parts ++ q ∷ [] → IsReadSoFar p held (map f (take place names)) parts →
    ForSome (MayHold (mid text)) (λ bytes. IsPartOf checked number bytes (Ok q)) → IsReadSoFar p held (map f (take (place + 1) names)) more
step_read f p checked held mid names place name text number parts more q one_problem within is told same are so_far one =
    rw (are, map_more f names place name within ∙ ap (λ name. map f (take place names) ++ f name ∷ []) (sym is))
    (read_more p held (map f (take place names)) (f name) number parts q so_far
    (subst (λ p. ForSome (MayHold (held (f name))) (λ bytes. IsPartOf p number bytes (Ok q))) one_problem
    (subst (λ text. ForSome (MayHold (held text)) (λ bytes. IsPartOf checked number bytes (Ok q))) told
    (subst (λ (held : Contents). ForSome (MayHold (held text)) (λ bytes. IsPartOf checked number bytes (Ok q))) same one))))

-- or the reading ends there
pub step_ended : {N : Type 0} (f : N → List ℕ) (p checked : Problem) (held mid : Contents) (names : List N) (place : ℕ) (name : N) (text : List ℕ) (parts : List Part) (fault : JoinFault) →
    checked ≡ p → place < length names → name ≡ get_or names place name → text ≡ f name → mid ≡ held → IsReadSoFar p held (map f (take place names)) parts →
    ForSome (MayHold (mid text)) (λ bytes. IsPartOf checked (place + 1) bytes (Err fault)) → ForSome (MayHoldAll held (map f names)) (λ files. IsUnread p files fault)
step_ended {N} f p checked held mid names place name text parts fault one_problem within is told same so_far one =
    subst (λ names. ForSome (MayHoldAll held names) (λ files. IsUnread p files fault)) (sym split)
    (read_ended p held (map f (take place names)) (f name) (map f (drop (suc place) names)) (place + 1) parts fault numbered so_far
    (subst (λ p. ForSome (MayHold (held (f name))) (λ bytes. IsPartOf p (place + 1) bytes (Err fault))) one_problem
    (subst (λ text. ForSome (MayHold (held text)) (λ bytes. IsPartOf checked (place + 1) bytes (Err fault))) told
    (subst (λ (held : Contents). ForSome (MayHold (held text)) (λ bytes. IsPartOf checked (place + 1) bytes (Err fault))) same one))))
  where
    split : map f names ≡ map f (take place names) ++ f name ∷ map f (drop (suc place) names)
    split =
        ap (map f) (split_at names place name within) ∙ map-append f (take place names) (get_or names place name ∷ drop (suc place) names)
        ∙ ap (λ name. map f (take place names) ++ f name ∷ map f (drop (suc place) names)) (sym is)

    numbered : place + 1 ≡ length (map f (take place names)) + 1
    numbered = ap (λ n. n + 1) (sym (length-map (take place names) f ∙ length-take-le place names (omega arith)))

-- for want of memory
pub starved_is : {T : Type 0} (p : Problem) (held : Contents) (names : List (List ℕ)) (good : List (List ℕ) → T → Type 0) (result : Result T JoinFault) → result ≡ Err NoMemory →
    ForSome (MayHoldAll held names) (λ files. IsReadOf p files (good files) result)
starved_is p held names good result is =
    let some : ForSome (MayHoldAll held names) (λ files. ⊤) = some_files held names in
    subst (λ result. ForSome (MayHoldAll held names) (λ files. IsReadOf p files (good files) result)) (sym is) (some.0, (some.1.0, tt))

-- a read of a name at a place failed
pub step_cause : {N : Type 0} (f : N → List ℕ) (fault : JoinFault) (names : List N) (place : ℕ) (name : N) (text : List ℕ) (one mid other : StoreState) → place < length names →
    name ≡ get_or names place name → text ≡ f name → IsQuiet one mid → IfReadFailed fault (Rose (mid.reads text) (other.reads text)) (IsQuiet mid other) →
    IfReadFailed fault (SomeRose (map f names) one.reads other.reads) (IsQuiet one other)
step_cause f fault names place name text one mid other within is told quiet cause = by fault cause
  where
    quiet_on : IsQuiet mid other → IsQuiet one other
    quiet_on still = IsQuiet-joins one mid other quiet still

    by : (fault : JoinFault) → IfReadFailed fault (Rose (mid.reads text) (other.reads text)) (IsQuiet mid other) →
        IfReadFailed fault (SomeRose (map f names) one.reads other.reads) (IsQuiet one other)
    by (PartRefused number line kind) h = quiet_on h
    by (Gap from to) h = quiet_on h
    by NoMemory h = quiet_on h
    by ReadFault h = (
      text,
      (
        subst (λ text. Contains (map f names) text) (sym (told ∙ ap f is)) (contains_from_in (In-map f (In-get_or names place name within))),
        subst (λ (reads : Counts). Rose (reads text) (other.reads text)) quiet.0 h,
      ),
    )
