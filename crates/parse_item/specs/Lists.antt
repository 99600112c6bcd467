-- What is made of a list and the `;` after it.
use Rattle.std.specs.Prelude.{◌≡◌, ℕ}
use Rattle.sv_tree.specs.declared.symbol.Symbol.TheVariants as sym
use Rattle.sv_tree.specs.declared.token.Token.{Token}
use Rattle.sv_tree.specs.declared.tree.list.CommaList.{CommaList}
use Rattle.sv_tree.specs.TreeRead.{Read, commas}
use Rattle.parse_expr.specs.Input.{Input, TakesThe}
use Rattle.parse_expr.specs.Parsed.{Parsed}

-- the tokens from `start` up to `end` are a list of parts with commas, and a `;`, of which the item is made
pub record ListMakes {A B : Type 0} (x : Input) (depth start end : ℕ) (reads : A → Read) (make : CommaList A → Token → B) (made : B) : Type 0 where
  pub list : CommaList A
  pub semicolon : Token
  pub place : ℕ
  pub parts : Parsed x depth start place (commas reads list)
  pub closes : TakesThe x sym.Semicolon place end semicolon
  pub is : made ≡ make list semicolon
