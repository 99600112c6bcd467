-- How a table holds the macros: at the number of each name, the text of the macro of this name.
use Rattle.std.specs.Prelude.{◌≡◌, ◌<◌, ℕ, List, [], length, get_or, Option, Some, None}
use Rattle.sv_tree.specs.declared.token.Token.{Token}
use Rattle.sv_tree.specs.Names.{EachOnce, IsAbsent}
use Rattle.sv_tree.specs.Tokens.{AreNamed}
use Rattle.sv_pp.specs.Directive.{Text}
use Rattle.sv_pp.specs.Reading.{Macros}

pub record Keeps (names : List Text) (table : List (Option (List Token))) (macros : Macros) : Type 0 where
  pub once : EachOnce names
  pub room : length table ≡ length names
  pub same : (i : ℕ) → i < length names → get_or table i None ≡ macros (get_or names i [])
  pub absent : (name : Text) → IsAbsent names name → macros name ≡ None
  pub named : (name : Text) (body : List Token) → macros name ≡ Some body → AreNamed names body
