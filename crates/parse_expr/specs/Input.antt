-- What is parsed: a list of tokens, with the table of their names.
use Rattle.std.specs.Prelude.{◌≡◌, ◌≤◌, ◌<◌, ℕ, true, false, ◌⊎◌, List, [], ◌∷◌, length, drop, min}
use Rattle.sv_tree.specs.declared.symbol.Symbol.{Symbol}
use Rattle.sv_tree.specs.declared.symbol.Symbol.TheVariants as sym
use Rattle.sv_tree.specs.declared.token.Token.{Token}
use Rattle.sv_tree.specs.Symbol.{same}
use Rattle.sv_tree.specs.Spelling.{symbol_of}
use Rattle.sv_tree.specs.TreeRead.{Tokens, Symbols}

pub record Input : Type 0 where
  pub names : List (List ℕ)
  pub tokens : Tokens

-- what each token is to the grammar
abbrev pub symbols : Input → Symbols
symbols x = symbol_of x.names

abbrev pub first_symbol : Symbols → Tokens → Symbol
first_symbol s [] = sym.Other
first_symbol s (t ∷ ts) = s t

-- what the token at a place is; past the end it is one that no place of the grammar asks for
abbrev pub symbol_at : Input → ℕ → Symbol
symbol_at x at = first_symbol (symbols x) (drop at x.tokens)

-- ---- one token

-- the token at a place was taken
pub record Takes (x : Input) (start end : ℕ) (t : Token) : Type 0 where
  pub is : drop start x.tokens ≡ t ∷ drop end x.tokens
  pub symbol : symbols x t ≡ symbol_at x start
  pub forward : start < end
  pub within : end ≤ length x.tokens

-- it was the symbol that is asked there
pub record TakesThe (x : Input) (s : Symbol) (start end : ℕ) (t : Token) : Type 0 where
  pub takes : Takes x start end t
  pub asked : same s (symbols x t) ≡ true

-- another stands there, or none
abbrev pub IsAnother : Input → Symbol → ℕ → Type 0
IsAnother x s at = (at ≡ length x.tokens) ⊎ (same s (symbol_at x at) ≡ false)

-- the number of a place; every count of tokens that is accepted is below the bound
abbrev pub number : ℕ → ℕ
number at = min at 4294967295
