-- What a token is to the grammar, by its kind and its spelling.
use Rattle.std.specs.Prelude.{ℕ, if◌then◌else◌, List, [], ◌∷◌, map, get_or}
use Rattle.std.specs.Str.{bytes_eq}
use Rattle.sv_tree.specs.declared.symbol.Symbol.{Symbol}
use Rattle.sv_tree.specs.declared.symbol.Symbol.TheVariants as sym
use Rattle.sv_tree.specs.declared.symbol.TheConstants.{WORDS, MARKS}
use Rattle.sv_tree.specs.declared.token.Token.{Token}
use Rattle.sv_tree.specs.declared.token.TokenKind.{TokenKind}
use Rattle.sv_tree.specs.declared.token.TokenKind.TheVariants as kind

-- the symbol that a table has for a text
abbrev pub found : List (List ℕ × Symbol) → List ℕ → Symbol
found [] text = sym.Other
found (x ∷ xs) text = if bytes_eq x.0 text then x.1 else found xs text

unfoldable pub words : List (List ℕ × Symbol)
words = map (λ x. (x.0.now, x.1)) WORDS

unfoldable pub marks : List (List ℕ × Symbol)
marks = map (λ x. (x.0.now, x.1)) MARKS

abbrev pub symbol_by : TokenKind → List ℕ → Symbol
symbol_by kind.Name text = sym.Name
symbol_by kind.Word text = found words text
symbol_by kind.Decimal text = sym.Decimal
symbol_by kind.Based text = sym.Based
symbol_by kind.Fill text = sym.Fill
symbol_by kind.Text text = sym.Text
symbol_by kind.System text = sym.System
symbol_by kind.Directive text = sym.Other
symbol_by kind.Mark text = found marks text

-- by the table in which its number stands
unfoldable pub symbol_of : List (List ℕ) → Token → Symbol
symbol_of names t = symbol_by t.kind (get_or names t.name.0 [])
