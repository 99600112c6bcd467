-- What a printer says after a part was printed.
use Rattle.std.specs.Prelude.{◌≡◌, ◌++◌, Option, Some}
use Rattle.sv_tree.specs.TreeRead.{Tokens}

-- where there was memory enough, the tokens are those from before with the part's after them
pub record Appends (old : Option Tokens) (print : Tokens → Tokens) (new : Option Tokens) : Type 0 where
  pub whole : (now : Tokens) → new ≡ Some now → (before : Tokens) × (old ≡ Some before) × ((r : Tokens) → now ++ r ≡ before ++ print r)
