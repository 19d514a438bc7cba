-- A map in code against the files that it stands for.
use Rattle.std.proofs.Common.{◌≡◌, ℕ, List, [], ◌∷◌, Bool, true, false, cond, map, ◌++◌, Result, Ok, Err, OnOk, Option, Some, None, unwrap_or, refl, sym, ap, ◌∙◌}
use Rattle.std.specs.Option.{option_map}
use Rattle.std.specs.String.{string_bytes}
use Rattle.std.specs.Str.{bytes_eq}
use Rattle.std.specs.Map.{update, lookup}
use Rattle.std.specs.BTreeMap.{BTreeMap, get_by_text, is_at}
use Rattle.std.specs.Ordering.{nat_cmp, eq_by_cmp, is_eq}
use Rattle.std.specs.declared.cmp.Ordering.{Ordering}
use Rattle.std.specs.declared.cmp.Ordering.TheVariants.{Less, Equal, Greater}
use Rattle.std.proofs.lemmas.Bool.{false≢true}
use Rattle.std.specs.Cmp.{eq_by_cmp_equiv}
use Rattle.std.specs.Cmp.Lexicographic.{slice_cmp, nat_list_cmp_total}
use Rattle.std.specs.FinMap.{get, insert, find, same_map, get-insert, get-from_entries, slice_cmp-IsAntisymmetric, nat_cmp-IsAntisymmetric}
use Rattle.std.proofs.lemmas.Map.Text.{is_eq-slice_cmp}
use Rattle.std.specs.declared.string.String.{String}
use Rattle.std.specs.declared.vec.Vec.{Vec}
use Rattle.std.specs.declared.alloc.Global.{Global}
use Rattle.outer_store.specs.Memory.{Files, bytes_of, told}
use Rattle.outer_store.specs.Contents.{OthersKept}
use Rattle.outer_store.specs.Entries.{files_of}

abbrev Map : Type 0
Map = BTreeMap (String Global) (Vec ℕ Global)

abbrev entry_of : String Global × Vec ℕ Global → List ℕ × List ℕ
entry_of entry = (string_bytes entry.0, entry.1.items)

items_of_choice : (b : Bool) (v : Vec ℕ Global) (rest : Option (Vec ℕ Global)) → cond b (Some v.items) (option_map (λ (w : Vec ℕ Global). w.items) rest) ≡ option_map (λ (w : Vec ℕ Global). w.items) (cond b (Some v) rest)
items_of_choice true v rest = refl
items_of_choice false v rest = refl

find-entries : (q : List ℕ) (es : List (String Global × Vec ℕ Global)) → find (slice_cmp nat_cmp) q (map entry_of es) ≡ option_map (λ (w : Vec ℕ Global). w.items) (lookup (is_at (λ k. slice_cmp nat_cmp q (string_bytes k))) es)
find-entries q [] = refl
find-entries q (e ∷ es) =
    let test = eq_by_cmp (slice_cmp nat_cmp) q (string_bytes e.0) in
    ap (cond test (Some e.1.items)) (find-entries q es) ∙ items_of_choice test e.1 _

-- what a name holds in the files is what the map has at its text
pub get-files_of : (m : Map) (q : List ℕ) → get (files_of m) q ≡ option_map (λ (w : Vec ℕ Global). w.items) (get_by_text m q)
get-files_of m q = get-from_entries nat_list_cmp_total _ q ∙ find-entries q m.entries

text_test : (name q : List ℕ) → bytes_eq name q ≡ eq_by_cmp (slice_cmp nat_cmp) q name
text_test name q = sym (is_eq-slice_cmp name q) ∙ (eq_by_cmp_equiv nat_list_cmp_total).symm name q

-- an update of the map at one text is an insertion into the files
pub files_of-updated : (m n : Map) (name : List ℕ) (v : Vec ℕ Global) → ((q : List ℕ) → get_by_text n q ≡ update bytes_eq (get_by_text m) name (Some v) q) → files_of n ≡ insert (files_of m) name v.items
files_of-updated m n name v updated =
    same_map nat_list_cmp_total (slice_cmp-IsAntisymmetric nat_cmp-IsAntisymmetric) _ _ (λ q.
    get-files_of n q
    ∙ ap (option_map (λ (w : Vec ℕ Global). w.items)) (updated q)
    ∙ sym (items_of_choice (bytes_eq name q) v (get_by_text m q))
    ∙ ap (λ b. cond b (Some v.items) (option_map (λ (w : Vec ℕ Global). w.items) (get_by_text m q))) (text_test name q)
    ∙ ap (cond (eq_by_cmp (slice_cmp nat_cmp) q name) (Some v.items)) (sym (get-files_of m q))
    ∙ sym (get-insert nat_list_cmp_total (files_of m) name v.items q))

from_equal : (r : Ordering) → is_eq r ≡ true → r ≡ Equal
from_equal Less e = absurd (false≢true e)
from_equal Equal e = refl
from_equal Greater e = absurd (false≢true e)

same_name : (q name : List ℕ) → eq_by_cmp (slice_cmp nat_cmp) q name ≡ true → q ≡ name
same_name q name is = slice_cmp-IsAntisymmetric nat_cmp-IsAntisymmetric q name (from_equal _ is)

insert_choice : (b : Bool) (x : List ℕ) (o : Option (List ℕ)) → (b ≡ true → o ≡ Some x) → cond b (Some x) o ≡ o
insert_choice true x o h = sym (h refl)
insert_choice false x o h = refl

-- to insert what a name holds changes nothing
insert_held : (files : Files) (name x : List ℕ) → get files name ≡ Some x → insert files name x ≡ files
insert_held files name x held =
    same_map nat_list_cmp_total (slice_cmp-IsAntisymmetric nat_cmp-IsAntisymmetric) _ _ (λ q.
    get-insert nat_list_cmp_total files name x q
    ∙ insert_choice (eq_by_cmp (slice_cmp nat_cmp) q name) x (get files q) (λ is. ap (get files) (same_name q name is) ∙ held))

module _ (m n : Map) (name : List ℕ) (v w : Vec ℕ Global) (found : Some v ≡ get_by_text m name) (updated : (q : List ℕ) → get_by_text n q ≡ update bytes_eq (get_by_text m) name (Some w) q) where
  held : get (files_of m) name ≡ Some v.items
  held = get-files_of m name ∙ ap (option_map (λ (w : Vec ℕ Global). w.items)) (sym found)

  -- a value written back as it was
  pub files_of-kept : w.items ≡ v.items → files_of n ≡ files_of m
  files_of-kept same = files_of-updated m n name w updated ∙ ap (insert (files_of m) name) same ∙ insert_held (files_of m) name v.items held

  -- a value that grew
  pub files_of-grown : (piece : List ℕ) → w.items ≡ v.items ++ piece → files_of n ≡ insert (files_of m) name (bytes_of (files_of m) name ++ piece)
  files_of-grown piece grown =
      files_of-updated m n name w updated
      ∙ ap (insert (files_of m) name) (grown ∙ ap (λ (o : Option (List ℕ)). unwrap_or o [] ++ piece) (sym held))

-- where no name was found, it holds nothing
pub bytes_of-none : (m : Map) (name : List ℕ) → get_by_text m name ≡ None → bytes_of (files_of m) name ≡ []
bytes_of-none m name none = ap (λ (o : Option (List ℕ)). unwrap_or o []) (get-files_of m name ∙ ap (option_map (λ (w : Vec ℕ Global). w.items)) none)

-- a name holds what was inserted under it
pub bytes_of-insert : (old new : Files) (name x : List ℕ) → new ≡ insert old name x → bytes_of new name ≡ x
bytes_of-insert old new name x inserted =
    ap (λ files. bytes_of files name) inserted
    ∙ ap (λ (o : Option (List ℕ)). unwrap_or o []) (get-insert nat_list_cmp_total old name x name ∙ ap (λ b. cond b (Some x) (get old name)) ((eq_by_cmp_equiv nat_list_cmp_total).refl name))

other_choice : (b : Bool) (x : List ℕ) (o : Option (List ℕ)) → (b ≡ true → ⊥) → cond b (Some x) o ≡ o
other_choice true x o h = absurd (h refl)
other_choice false x o h = refl

-- and other names hold what they held
pub others_of-insert : (old new : Files) (name x : List ℕ) → new ≡ insert old name x → OthersKept name (told old) (told new)
others_of-insert old new name x inserted other apart =
    ap (λ files. told files other) inserted
    ∙ ap (λ (o : Option (List ℕ)). Some (unwrap_or o []))
    (get-insert nat_list_cmp_total old name x other ∙ other_choice (eq_by_cmp (slice_cmp nat_cmp) other name) x (get old other) (λ is. apart (same_name other name is)))

-- files that did not change keep what other names hold
pub others_of-kept : (old new : Files) (name : List ℕ) → new ≡ old → OthersKept name (told old) (told new)
others_of-kept old new name kept other apart = ap (λ files. told files other) kept

-- what a name holds after an answer that inserted
pub bytes_of-on_ok : {T E : Type 0} (r : Result T E) (old new : Files) (name x : List ℕ) → OnOk r (new ≡ insert old name x) → OnOk r (bytes_of new name ≡ x)
bytes_of-on_ok (Ok v) old new name x inserted = bytes_of-insert old new name x inserted
bytes_of-on_ok (Err e) old new name x inserted = inserted
