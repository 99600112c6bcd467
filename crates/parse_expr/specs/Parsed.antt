-- When the tokens between two places are a part of a tree.
use Rattle.std.specs.Prelude.{◌≡◌, ◌≤◌, ℕ, true, List, length, drop, nat_le}
use Rattle.sv_tree.specs.TreeRead.{Laid, Read}
use Rattle.sv_tree.specs.TreeExpr.{ExprRead, StepRead, operators, are_level}
use Rattle.sv_tree.specs.Tree.{deepest}
use Rattle.parse_expr.specs.Input.{Input, symbols}
use Rattle.parse_expr.specs.declared.fault.ParseFault.{ParseFault}
use Rattle.parse_expr.specs.declared.fault.ParseFault.TheVariants.{Construct, Syntax, TooDeep, NoMemory}

-- The tokens from `start` up to `end` read as the part, which stands in `depth` things itself.
pub record Parsed (x : Input) (depth start end : ℕ) (part : Read) : Type 0 where
  -- they are its tokens, in order
  pub prints : drop start x.tokens ≡ part.print (drop end x.tokens)
  -- each token is what its place asks, and the parts stand together as the grammar has them
  pub shaped : part.shaped (symbols x) ≡ true
  -- none of them stands in more than 128 things
  pub shallow : (l : List Laid) → deepest l ≤ 128 → deepest (part.laid depth l) ≤ 128
  pub forward : start ≤ end
  pub within : end ≤ length x.tokens

-- The same of an expression that binds at least so tightly: 0 a primary, 1 with prefix operators, one more than the level of its operators.
pub record ParsedExpr (x : Input) (depth start end rank : ℕ) (e : ExprRead) : Type 0 where
  pub text : Parsed x depth start end e.text
  pub binds : nat_le (e.rank (symbols x)) rank ≡ true

-- The same of operators of a level, each with an operand that binds tighter.
pub record ParsedSteps (x : Input) (depth start end level : ℕ) (more : List StepRead) : Type 0 where
  pub text : Parsed x depth start end (operators more)
  pub are : are_level (symbols x) level more ≡ true

-- a fault of parsing names a token, or the end of the tokens
abbrev pub IsWithin : Input → ParseFault → Type 0
IsWithin x (Construct k) = ⊥
IsWithin x (Syntax k) = k ≤ length x.tokens
IsWithin x (TooDeep k) = k ≤ length x.tokens
IsWithin x NoMemory = Unit {0}
