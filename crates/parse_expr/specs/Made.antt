-- The expressions that are made of their parts.
use Rattle.std.specs.Prelude.{◌≡◌, ℕ, List, [], ◌∷◌}
use Rattle.sv_tree.specs.declared.symbol.Symbol.{Symbol}
use Rattle.sv_tree.specs.declared.token.Token.{Token}
use Rattle.sv_tree.specs.declared.tree.expr.Choice.{Choice}
use Rattle.sv_tree.specs.declared.tree.expr.Expr.{Expr}
use Rattle.sv_tree.specs.declared.tree.expr.Expr.TheVariants as expr
use Rattle.sv_tree.specs.declared.tree.expr.Step.{Step}
use Rattle.parse_expr.specs.Input.{Input, TakesThe}

-- an operand after prefix operators, of which there may be none
abbrev pub prefixed : List Token → Expr → Expr
prefixed [] operand = operand
prefixed (t ∷ ts) operand = expr.Prefix (t ∷ ts) operand

-- operands of one level, or one alone
abbrev pub levelled : Expr → List Step → Expr
levelled first [] = first
levelled first (x ∷ xs) = expr.Level first (x ∷ xs)

-- a chain of `?:`, or its last value alone
abbrev pub chosen : List Choice → Expr → Expr
chosen [] last = last
chosen (c ∷ cs) last = expr.Choose (c ∷ cs) last

-- what is made with the token that closes it
pub record Closes {A : Type 0} (x : Input) (s : Symbol) (start end : ℕ) (make : Token → A) (made : A) : Type 0 where
  pub close : Token
  pub takes : TakesThe x s start end close
  pub is : made ≡ make close

-- the same where a token closes it that stands inside, and then another
pub record ClosesTwice {A : Type 0} (x : Input) (s : Symbol) (start end : ℕ) (make : Token → Token → A) (made : A) : Type 0 where
  pub inner : Token
  pub middle : ℕ
  pub takes_inner : TakesThe x s start middle inner
  pub close : Token
  pub takes : TakesThe x s middle end close
  pub is : made ≡ make inner close
