-- What may have been before something that may be now.
use Rattle.cert_reader.specs.Bytes.{ForSome, GoesOn}

-- what stays has a fact with itself
pub goes_stays : {A : Type 0} (may : A → Type 0) (Fact : A → A → Type 0) → ((x : A) → Fact x x) → GoesOn may may Fact
goes_stays may Fact same = record { before = λ x here. (x, (here, same x)) }

-- a fact that follows from another
pub goes_as : {A : Type 0} {old new : A → Type 0} {Fact Other : A → A → Type 0} → GoesOn old new Fact → ((x y : A) → Fact x y → Other x y) → GoesOn old new Other
goes_as goes by = record { before = λ y here. let prior = goes.before y here in (prior.0, (prior.1.0, by prior.0 y prior.1.1)) }

-- two steps, one after the other
pub goes_joins : {A : Type 0} {old mid new : A → Type 0} {First Second Both : A → A → Type 0} → GoesOn old mid First → GoesOn mid new Second
    → ((x y z : A) → First x y → Second y z → Both x z) → GoesOn old new Both
goes_joins first second by = record {
  before = λ z here.
      let then = second.before z here in
      let prior = first.before then.0 then.1.0 in
      (prior.0, (prior.1.0, by prior.0 then.0 z prior.1.1 then.1.1));
}

-- a fact of something that may be now gives one of what may have been before
pub some_before : {A : Type 0} {old new : A → Type 0} {Fact : A → A → Type 0} {Then : A → Type 0} → GoesOn old new Fact → (Now : A → Type 0) → ForSome new Now
    → ((x y : A) → Fact x y → Now y → Then x) → ForSome old Then
some_before goes Now now by = let prior = goes.before now.0 now.1.0 in (prior.0, (prior.1.0, by prior.0 now.0 prior.1.1 now.1.1))
