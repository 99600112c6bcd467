-- A code, and a stack, as contracts see them.
use Rattle.std.specs.Prelude.{ℕ, max, List, fold}
use Rattle.vs_base.specs.Number.{Number}
use Rattle.task_eval.specs.declared.op.Op.{Op}

-- the ops, in order, and how many values their stack holds at most
pub record Ops : Type 0 where
  pub ops : List Op
  pub stack : ℕ

-- the values on a stack, the last one pushed first, and how many there is room for
pub record Held : Type 0 where
  pub values : List Number
  pub room : ℕ

-- the greatest number of values on a stack of these codes
abbrev pub deepest : List Ops → ℕ
deepest codes = fold (λ most code. max most code.stack) 0 codes
