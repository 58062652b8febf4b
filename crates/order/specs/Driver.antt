-- A driver: it is offered steps by calls, takes some and refuses the others.
use Rattle.std.specs.Prelude.{◌≡◌, List, [], ◌∷◌, ℕ, ◌+◌, ◌<◌, ◌≤◌, min, set, length, replicate}
use Rattle.laws.specs.Answer.{written}
use Rattle.order.specs.Order.{Done, Ready}

-- the answer to a call, 0 if it is taken, and what a taken call leaves of the state S
pub record Driver (S C : Type 0) : Type 0 where
  pub answer : C → S → ℕ
  pub taken : C → S → S

module _ {S C : Type 0} (D : Driver S C) where
  -- a refused call leaves everything
  abbrev pub after : C → S → S
  after c s = written (D.answer c s) s (D.taken c s)

  abbrev pub play : List C → S → S
  play [] s = s
  play (c ∷ cs) s = play cs (after c s)

  -- the answers to the calls of a run
  abbrev pub answers : List C → S → List ℕ
  answers [] s = []
  answers (c ∷ cs) s = D.answer c s ∷ answers cs (after c s)

  -- the steps that a run takes, in their order
  abbrev pub taken_by : (C → ℕ) → List C → S → List ℕ
  taken_by addr [] s = []
  taken_by addr (c ∷ cs) s = let rest = taken_by addr cs (after c s) in written (D.answer c s) rest (addr c ∷ rest)

-- what a state shows: the memory, the map of done steps, and how many have been taken
pub record View (S M : Type 0) : Type 0 where
  pub memory : S → M
  pub done : S → List ℕ
  pub count : S → ℕ

module _ {S C M : Type 0} (D : Driver S C) (U : View S M) (n : ℕ) (addr : C → ℕ) where
  pub record Started (s : S) : Type 0 where
    pub empty : U.done s ≡ replicate n 0
    pub none : U.count s ≡ 0

  -- A driver of n steps takes only steps that it has, that are undone, and for which all that the call waits for is done. It marks and counts them.
  pub record Fair (waits : C → ℕ → Type 0) : Type 0 where
    pub takes : (c : C) (s : S) → D.answer c s ≡ 0 → length (U.done s) ≡ n
        → (addr c < n) × (¬ Done (U.done s) (addr c)) × ((b : ℕ) → waits c b → Done (U.done s) b)
    pub marks : (c : C) (s : S) → U.done (D.taken c s) ≡ set (U.done s) (addr c) 1
    pub counts : (c : C) (s : S) → D.answer c s ≡ 0 → length (U.done s) ≡ n → U.count (D.taken c s) ≡ min (U.count s + 1) n

  -- Each call of the run that is taken does what `step` says of its address, and waits for what N says: it carries the record that was fixed for that address.
  module _ (waits : C → ℕ → Type 0) (step : ℕ → M → M) (N : ℕ → ℕ → Type 0) where
    pub record Meets (c : C) (s : S) : Type 0 where
      pub does : U.memory (D.taken c s) ≡ step (addr c) (U.memory s)
      pub awaits : (b : ℕ) → N (addr c) b → waits c b

    abbrev pub Carries : List C → S → Type 0
    Carries [] s = Unit {0}
    Carries (c ∷ cs) s = (D.answer c s ≡ 0 → Meets c s) × Carries cs (after D c s)

  -- no call that is taken spoils the memory
  pub record Spares (ok : M → Type 0) : Type 0 where
    pub spares : (c : C) (s : S) → D.answer c s ≡ 0 → ok (U.memory s) → ok (U.memory (D.taken c s))

  -- a call for step a with all that it needs: it is taken whenever a is undone and ready
  pub record Offers (N : ℕ → ℕ → Type 0) (ok : M → Type 0) (a : ℕ) (c : C) : Type 0 where
    pub at_step : addr c ≡ a
    pub accepted : (s : S) → ok (U.memory s) → length (U.done s) ≡ n → U.count s ≤ n → ¬ Done (U.done s) a → Ready N (U.done s) a → D.answer c s ≡ 0
