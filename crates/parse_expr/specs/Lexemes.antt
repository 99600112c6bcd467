-- The tokens as they are kept, each with what it is to the grammar.
use Rattle.std.specs.Prelude.{◌≡◌, ℕ, List, [], ◌∷◌}
use Rattle.sv_tree.specs.Spelling.{symbol_of}
use Rattle.parse_expr.specs.declared.source.Lexeme.{Lexeme}

abbrev pub AreSymbols : List (List ℕ) → List Lexeme → Type 0
AreSymbols names [] = Unit {0}
AreSymbols names (l ∷ ls) = (l.symbol ≡ symbol_of names l.token) × AreSymbols names ls
