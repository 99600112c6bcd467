-- When the tokens between two places are a statement, an item, or a block of items.
use Rattle.std.specs.Prelude.{◌≡◌, ◌<◌, ◌+◌, ℕ, false, ◌&&◌}
use Rattle.sv_tree.specs.declared.symbol.Symbol.TheVariants as sym
use Rattle.sv_tree.specs.Symbol.{same}
use Rattle.sv_tree.specs.TreeStmt.{BodyRead}
use Rattle.parse_expr.specs.Input.{Input, symbol_at}
use Rattle.parse_expr.specs.Parsed.{Parsed}

-- The tokens from `start` up to `end` read as the body, which stands in `depth` things itself.
pub record ParsedBody (x : Input) (depth start end : ℕ) (body : BodyRead) : Type 0 where
  pub text : Parsed x depth start end body.text
  -- there is a first one
  pub forward : start < end
  -- it is an `if` exactly where it begins with that word
  pub begins : body.is_if ≡ same sym.If (symbol_at x start)
  -- an `else` that an `if` at its end could take does not follow
  pub ends : body.takes_else && same sym.Else (symbol_at x end) ≡ false

-- a body in one thing fewer than its parts
abbrev pub ParsedInside : Input → ℕ → ℕ → ℕ → BodyRead → Type 0
ParsedInside x inner start end body = (depth : ℕ) → inner ≡ depth + 1 → ParsedBody x depth start end body
