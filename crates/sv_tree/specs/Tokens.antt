-- Tokens over a table of names.
use Rattle.std.specs.Prelude.{◌<◌, ℕ, List, [], ◌∷◌, length}
use Rattle.sv_tree.specs.declared.token.Token.{Token}

-- each token's number is one of the table
abbrev pub AreNamed : List (List ℕ) → List Token → Type 0
AreNamed names [] = Unit {0}
AreNamed names (t ∷ ts) = (t.name.0 < length names) × AreNamed names ts
