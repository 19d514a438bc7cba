-- Members of a list read one after the other.
use Rattle.std.proofs.Common.{◌≡◌, ℕ, List, [], ◌∷◌, ◌++◌, Option, Some, None, refl, sym, ap, append_assoc, append-nil, option_map, Result, Ok, Err}
use Rattle.proof_text.specs.declared.fault.LineTextFault.{LineTextFault}
use Rattle.proof_text.specs.Lines.{◌>>=◌}
use Rattle.cert_text.specs.Lines.{each_in}

-- members before others, if those are some
abbrev pub onto : {A : Type 0} → List A → Option (List A) → Option (List A)
onto front rest = option_map (λ others. front ++ others) rest

pub onto-nil : {A : Type 0} (rest : Option (List A)) → onto [] rest ≡ rest
onto-nil None = refl
onto-nil (Some others) = refl

onto-cons : {A : Type 0} (front : List A) (x : A) (rest : Option (List A)) → onto front (option_map (λ others. x ∷ others) rest) ≡ onto (front ++ x ∷ []) rest
onto-cons front x None = refl
onto-cons front x (Some others) = ap Some (sym (append_assoc front (x ∷ []) others))

pub each-take : {X A : Type 0} (one : X → Option A) (front : List A) (x : A) (first : X) (others : List X) → one first ≡ Some x →
    onto front (each_in one (first ∷ others)) ≡ onto (front ++ x ∷ []) (each_in one others)
each-take one front x first others e = rw e (onto-cons front x (each_in one others))

pub each-stop : {X A : Type 0} (one : X → Option A) (front : List A) (first : X) (others : List X) → one first ≡ None → onto front (each_in one (first ∷ others)) ≡ None
each-stop one front first others e = rw e refl

pub each-end : {X A : Type 0} (one : X → Option A) (front : List A) → onto front (each_in one []) ≡ Some front
each-end one front = ap Some (append-nil front)

pub ruleset each_rules = (onto-nil, each-take, each-stop, each-end)

-- sets before those of the words to come
abbrev pub behind : List (List ℕ) → Result (List (List ℕ)) LineTextFault → Result (List (List ℕ)) LineTextFault
behind front read = read >>= λ others. Ok (front ++ others)

pub behind-none : (read : Result (List (List ℕ)) LineTextFault) → behind [] read ≡ read
behind-none (Ok sets) = refl
behind-none (Err k) = refl

behind-step : (front : List (List ℕ)) (set : List ℕ) (read : Result (List (List ℕ)) LineTextFault) →
    behind front (read >>= λ others. Ok (set ∷ others)) ≡ behind (front ++ set ∷ []) read
behind-step front set (Ok others) = ap Ok (sym (append_assoc front (set ∷ []) others))
behind-step front set (Err k) = refl
