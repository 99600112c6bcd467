-- A call that was made, and a buffer of calls.
use Rattle.std.specs.Prelude.{◌≡◌, ℕ, ◌-◌, ◌≤◌, List, ◌++◌, length, take, drop, replicate}
use Rattle.std.proofs.Common.{sym, ap, ◌∙◌, arith}
use Rattle.std.proofs.lemmas.List.{take-append-drop, length-take-le}

-- a call of an import: its number in the design, its arguments and its reply
pub record Call : Type 0 where
  pub import : ℕ
  pub args : List ℕ
  pub reply : ℕ

-- the calls that a buffer keeps, in order, and how many it has room for in all
pub record Buffer : Type 0 where
  pub calls : List Call
  pub room : ℕ

-- up to 8 arguments with zeros behind them, to 8 in all
abbrev pub padded : List ℕ → List ℕ
padded args = args ++ replicate (8 - length args) 0

-- 8 numbers, of which the first so many are arguments and the others are 0
pub record IsPadded (count : ℕ) (args : List ℕ) : Type 0 where
  pub few : count ≤ 8
  pub eight : length args ≡ 8
  pub zeros : drop count args ≡ replicate (8 - count) 0

pub length-take_padded : (count : ℕ) (args : List ℕ) → IsPadded count args → length (take count args) ≡ count
length-take_padded count args is = length-take-le count args (let few = is.few in let eight = is.eight in omega arith)

pub padded-take : (count : ℕ) (args : List ℕ) → IsPadded count args → padded (take count args) ≡ args
padded-take count args is =
    ap (λ (n : ℕ). take count args ++ replicate (8 - n) 0) (length-take_padded count args is)
    ∙ ap (λ (zeros : List ℕ). take count args ++ zeros) (sym is.zeros) ∙ take-append-drop count args
