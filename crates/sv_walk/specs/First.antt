-- The token with which a part of the tree begins.
use Rattle.std.specs.Prelude.{◌≡◌, Some, slice_get}
use Rattle.sv_tree.specs.declared.token.Token.{Token}
use Rattle.sv_tree.specs.TreeRead.{Tokens, Read}

-- the first one of its tokens, whatever follows them
pub record BeginsWith (t : Token) (part : Read) : Type 0 where
  pub first : (rest : Tokens) → slice_get (part.print rest) 0 ≡ Some t
