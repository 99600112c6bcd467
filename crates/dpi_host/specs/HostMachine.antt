-- What a host is to a design: functions of its type on plain numbers (IEEE 1800-2017 35.5).
-- They take the part of a host that never changes, then its state, the import's number and the arguments.
use Rattle.std.specs.Prelude.{◌≡◌, ℕ, ◌%◌, ◌^◌, List}

-- what a call answers
abbrev pub Answer : Type 0
Answer = List (List ℕ) → List ℕ → ℕ → List ℕ → ℕ

-- the state that a call leaves
abbrev pub After : Type 0
After = List (List ℕ) → List ℕ → ℕ → List ℕ → List ℕ

-- the reply to a call: the answer, cut to the width of the declared result (35.5.5). A void import has width 0, so that its reply is 0
abbrev pub reply_of : ℕ → ℕ → ℕ
reply_of width answered = answered % 2 ^ width

-- an import answers by its arguments alone: the answer ignores the state, and the call keeps it
pub record IsByArgs (answer : Answer) (after : After) (fixed : List (List ℕ)) (id : ℕ) : Type 0 where
  pub ignores : (s t args : List ℕ) → answer fixed s id args ≡ answer fixed t id args
  pub keeps : (s args : List ℕ) → after fixed s id args ≡ s
