-- What holds of each request that words make, and of what they ask of the desk.
use Rattle.std.proofs.Common.{◌≡◌, ℕ, Bool, true, false, cond, ◌||◌, List, [], ◌∷◌, Option, None, Some, IfNone, IfOk, Result, Ok, Err, refl, ap, subst}
use Rattle.std.specs.Prelude.{◌≢◌, not, ◌&&◌, find, option_map, option_and_then, unwrap_or}
use Rattle.std.specs.List.{list_any}
use Rattle.command_line.specs.declared.table.Command.{Command}
use Rattle.command_line.specs.declared.table.Command.TheVariants as command
use Rattle.command_line.specs.declared.table.Key.{Key}
use Rattle.command_line.specs.declared.table.Key.TheVariants.{In, Cert, Token, Resume, Nodes, Worlds, Kinds, Seed, Size, Count, Until, Script}
use Rattle.command_line.specs.declared.Operand.{Operand}
use Rattle.command_line.specs.declared.UsageKind.{UsageKind}
use Rattle.command_line.specs.declared.request.DeskArgs.{DeskArgs}
use Rattle.command_line.specs.declared.request.Request.{Request}
use Rattle.command_line.specs.Table.{row_of, desk_row, command_named, same_key}
use Rattle.command_line.specs.Words.{number_of, operands_of, is_given, value_of, limit_of, is_lacking, lacks_token, has_same_name, gives_numbered, request_for, request_of, desk_args, desk_request_of}
use Rattle.command_line.specs.Requests.{AreApart, IsMade}
use Rattle.command_line.proofs.NameLemmas.{or_false, keys_apart}
use Rattle.command_line.proofs.PartsLemmas.{parts_apart}
use Rattle.command_line.proofs.ValueLemmas.{need_ok, and_ok, fail_ok, AreValued, operands_valued, kinds_valued, size_valued, count_valued}

-- what is found is there, and what is there is found
find_none : (f : Operand → Bool) (operands : List Operand) → find f operands ≡ None → list_any f operands ≡ false
find_none f [] e = refl
find_none f (o ∷ os) e = by (f o) (find_none f os) e
  where
    by : (b : Bool) → (find f os ≡ None → list_any f os ≡ false) → cond b (Some o) (find f os) ≡ None → (b || list_any f os) ≡ false
    by true further found = cc
    by false further rest = further rest

any_none : (f : Operand → Bool) (operands : List Operand) → list_any f operands ≡ false → find f operands ≡ None
any_none f [] e = refl
any_none f (o ∷ os) e = by (f o) (any_none f os) e
  where
    by : (b : Bool) → (list_any f os ≡ false → find f os ≡ None) → (b || list_any f os) ≡ false → cond b (Some o) (find f os) ≡ None
    by true further there = cc
    by false further rest = further rest

map_none : {X Y : Type 0} (f : X → Y) (o : Option X) → option_map f o ≡ None → o ≡ None
map_none f None e = refl
map_none f (Some x) e = cc

not_given : (operands : List Operand) (key : Key) → value_of operands key ≡ None → is_given operands key ≡ false
not_given operands key e = find_none (λ operand. same_key operand.key key) operands (map_none (λ operand. operand.value) (find (λ operand. same_key operand.key key) operands) e)

no_limit : (operands : List Operand) (key : Key) → is_given operands key ≡ false → limit_of operands key ≡ None
no_limit operands key e =
    ap (λ (o : Option Operand). option_and_then number_of (option_map (λ operand. operand.value) o)) (any_none (λ operand. same_key operand.key key) operands e)

-- where no token is given, no limit is
limits_false : (nodes worlds token : Bool) → ((nodes || worlds) && not token) ≡ false → token ≡ false → (nodes ≡ false) × (worlds ≡ false)
limits_false nodes worlds true h e = cc
limits_false true worlds false h e = cc
limits_false false true false h e = cc
limits_false false false false h e = (refl, refl)

limited : (operands : List Operand) (token : Option (List ℕ)) → value_of operands Token ≡ token → lacks_token operands ≡ false
    → IfNone token ((limit_of operands Nodes ≡ None) × (limit_of operands Worlds ≡ None))
limited operands (Some name) e lacks = tt
limited operands None e lacks =
    let none = limits_false (is_given operands Nodes) (is_given operands Worlds) (is_given operands Token) lacks (not_given operands Token e) in
    (no_limit operands Nodes none.0, no_limit operands Worlds none.1)

-- the first of some required keys is given, and so are the others
first_needed : (one : Bool) (rest : Bool) → (not one || rest) ≡ false → (one ≡ true) × (rest ≡ false)
first_needed true rest e = (refl, e)
first_needed false rest e = cc

given : (operands : List Operand) (key : Key) → is_given operands key ≡ true → value_of operands key ≡ None → ⊥
given operands key there none = let away = not_given operands key none in cc

-- the problem of each command that has one is given, and so is its second required key
pub needs_first : (operands : List Operand) (key : Key) (keys : List Key) → list_any (λ k. not (is_given operands k)) (key ∷ keys) ≡ false → value_of operands key ≡ None → ⊥
needs_first operands key keys e = given operands key (first_needed (is_given operands key) (list_any (λ k. not (is_given operands k)) keys) e).0

pub needs_second : (operands : List Operand) (first key : Key) (keys : List Key) → list_any (λ k. not (is_given operands k)) (first ∷ key ∷ keys) ≡ false → value_of operands key ≡ None → ⊥
needs_second operands first key keys e =
    needs_first operands key keys (first_needed (is_given operands first) (list_any (λ k. not (is_given operands k)) (key ∷ keys)) e).1

second_given : (operands : List Operand) (first key : Key) (keys : List Key) → list_any (λ k. not (is_given operands k)) (first ∷ key ∷ keys) ≡ false → is_given operands key ≡ true
second_given operands first key keys e =
    let rest = first_needed (is_given operands first) (list_any (λ k. not (is_given operands k)) (key ∷ keys)) e in
    (first_needed (is_given operands key) (list_any (λ k. not (is_given operands k)) keys) rest.1).0

-- the value of a key that is given
apart_given : (one other : Option (List ℕ)) → (one ≡ None → ⊥) → AreApart one other → AreApart (Some (unwrap_or one [])) other
apart_given None other there apart = absurd (there refl)
apart_given (Some name) other there apart = apart

made_for : (known : List (List ℕ)) (c : Command) (operands : List Operand) → AreValued known operands → is_lacking (row_of c) operands ≡ false → lacks_token operands ≡ false
    → has_same_name operands ≡ false → gives_numbered operands ≡ false → IsMade known (request_for c operands)
made_for known command.Align operands valued lacking lacks same apart = record {
  apart = apart_given (value_of operands In) (value_of operands Resume) (needs_first operands In [] lacking) (keys_apart operands In Resume refl refl refl same);
  limited = limited operands (value_of operands Token) refl lacks;
  two = keys_apart operands Cert Token refl refl refl same;
}
made_for known command.Check operands valued lacking lacks same apart = tt
made_for known command.Mir operands valued lacking lacks same apart = tt
made_for known command.Conflict operands valued lacking lacks same apart = tt
made_for known command.Lattice operands valued lacking lacks same apart = tt
made_for known command.Explain operands valued lacking lacks same apart = tt
made_for known command.Report operands valued lacking lacks same apart = kinds_valued known operands valued (needs_second operands In Kinds [] lacking)
made_for known command.Parts operands valued lacking lacks same apart =
    let counted = count_valued known operands valued (needs_second operands In Count (Token ∷ []) lacking) in
    let given = second_given operands In Count (Token ∷ []) lacking in
    record { least = counted.0; most = counted.1; apart = λ k. parts_apart operands k given apart }
made_for known command.Part operands valued lacking lacks same apart =
    let there = needs_first operands In (Cert ∷ []) lacking in
    record {
      resumed = apart_given (value_of operands In) (value_of operands Resume) there (keys_apart operands In Resume refl refl refl same);
      ended = apart_given (value_of operands In) (value_of operands Until) there (keys_apart operands In Until refl refl refl same);
      two = keys_apart operands Resume Until refl refl refl same;
    }
made_for known command.Join operands valued lacking lacks same apart = tt
made_for known command.Trial operands valued lacking lacks same apart =
    let sized = size_valued known operands valued (needs_second operands Seed Size [] lacking) in
    record { even = sized.0; least = sized.1; most = sized.2 }

ok_same : {X : Type 0} (a b : X) (x y : Result X UsageKind) → x ≡ Ok a → y ≡ Ok b → x ≡ y → a ≡ b
ok_same a b x y p q e = cc

-- the names that words give are apart, a limit has a token, kinds are names of watchers, and a size is one
pub made : (known : List (List ℕ)) (words : List (List ℕ)) (r : Request) → request_of known words ≡ Ok r → IsMade known r
made known [] r e = cc
made known (word ∷ words) r e =
    let named = need_ok (command_named word) _ _ r e in
    let operands = and_ok (operands_of known (row_of named.0) [] words) _ r named.1 in
    let valued = operands_valued known (row_of named.0) [] words operands.0 tt operands.1 in
    let lacking = fail_ok (is_lacking (row_of named.0) operands.0) _ _ r operands.2 in
    let lacks = fail_ok (lacks_token operands.0) _ _ r lacking.1 in
    let same = fail_ok (has_same_name operands.0 || gives_numbered operands.0) _ _ r lacks.1 in
    let apart = or_false (has_same_name operands.0) (gives_numbered operands.0) same.0 in
    subst (IsMade known) (ok_same (request_for named.0 operands.0) r (Ok (request_for named.0 operands.0)) (Ok r) refl refl same.1) (made_for known named.0 operands.0 valued lacking.0 lacks.0 apart.0 apart.1)

-- so of what is answered
pub made_if : {E : Type 0} (known : List (List ℕ)) (words : List (List ℕ)) (answer : Result Request E) → IfOk answer (λ r. request_of known words ≡ Ok r) → IfOk answer (IsMade known)
made_if known words (Ok r) e = made known words r e
made_if known words (Err fault) e = tt

-- two names that are given, and are not one
both_given : (one other : Option (List ℕ)) → (one ≡ None → ⊥) → (other ≡ None → ⊥) → AreApart one other → unwrap_or one [] ≢ unwrap_or other []
both_given None other there there' apart = absurd (there refl)
both_given (Some name) None there there' apart = absurd (there' refl)
both_given (Some name) (Some other) there there' apart = apart

-- so are the problem and the script that the desk is given
desk_made : (words : List (List ℕ)) (args : DeskArgs) → desk_request_of words ≡ Ok args → args.input ≢ args.script
desk_made words args e =
    let operands = and_ok (operands_of [] desk_row [] words) _ args e in
    let lacking = fail_ok (is_lacking desk_row operands.0) _ _ args operands.2 in
    let same = fail_ok (has_same_name operands.0) _ _ args lacking.1 in
    let apart = both_given (value_of operands.0 In) (value_of operands.0 Script) (needs_first operands.0 In (Script ∷ []) lacking.0) (needs_second operands.0 In Script [] lacking.0)
    (keys_apart operands.0 In Script refl refl refl same.0) in
    subst (λ (a : DeskArgs). a.input ≢ a.script) (ok_same (desk_args operands.0) args (Ok (desk_args operands.0)) (Ok args) refl refl same.1) apart

-- so of what is answered
pub desk_made_if : {E : Type 0} (words : List (List ℕ)) (answer : Result DeskArgs E) → IfOk answer (λ args. desk_request_of words ≡ Ok args) → IfOk answer (λ args. args.input ≢ args.script)
desk_made_if words (Ok args) e = desk_made words args e
desk_made_if words (Err fault) e = tt
