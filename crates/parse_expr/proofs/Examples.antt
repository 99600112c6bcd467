-- Small examples of the definitions, worked by hand from the grammar.
use Rattle.std.specs.Prelude.{◌≡◌, ℕ, true, false, List, [], ◌∷◌, codes}
use Rattle.std.proofs.Common.{refl, arith}
use Rattle.sv_tree.specs.declared.symbol.Symbol.TheVariants as symbol
use Rattle.sv_tree.specs.declared.token.Token.{Token}
use Rattle.sv_tree.specs.declared.token.TokenKind.{TokenKind}
use Rattle.sv_tree.specs.declared.token.TokenKind.TheVariants as kind
use Rattle.sv_tree.specs.declared.tree.expr.Expr.{Expr}
use Rattle.sv_tree.specs.Spelling.{symbol_of, words as reserved, marks as signs}
use Rattle.parse_expr.specs.First.{begins_expr, begins_type}
use Rattle.parse_expr.specs.Input.{Input, symbol_at, number, Takes}
use Rattle.parse_expr.specs.Made.{prefixed}
use Rattle.parse_expr.specs.Outside.{words, marks, functions, is_outside, is_the, starts_outside, outside_at}

token_of : TokenKind → ℕ → Token
token_of k id = record { kind = k; name = record { 0 = id }; at = record { file = 0; line = 1; col = 1 } }

-- ---- what may come first

-- `+` and `&` begin an expression, as prefix operators; `*` and `:` do not
first : (begins_expr symbol.Plus ≡ true) × (begins_expr symbol.Amp ≡ true) × (begins_expr symbol.Star ≡ false) × (begins_expr symbol.Colon ≡ false)
first = (refl, refl, refl, refl)

-- a `(` begins an expression and no type, `signed` and `[` a type and no expression
first_of_types : (begins_expr symbol.ParenOpen ≡ true) × (begins_type symbol.ParenOpen ≡ false) × (begins_type symbol.Signed ≡ true) × (begins_expr symbol.BracketOpen ≡ false) × (begins_type symbol.BracketOpen ≡ true)
first_of_types = (refl, refl, refl, refl, refl)

-- ---- places

table : List (List ℕ)
table = codes "(" ∷ codes "a" ∷ codes ")" ∷ codes "#" ∷ codes "initial" ∷ codes "**" ∷ codes "$time" ∷ codes "$signed" ∷ []

-- `( a )`
paren : Input
paren = record { names = table; tokens = token_of kind.Mark 0 ∷ token_of kind.Name 1 ∷ token_of kind.Mark 2 ∷ [] }

-- past the end nothing stands that the grammar asks for
at_places : (symbol_at paren 0 ≡ symbol.ParenOpen) × (symbol_at paren 1 ≡ symbol.Name) × (symbol_at paren 2 ≡ symbol.ParenClose) × (symbol_at paren 3 ≡ symbol.Other)
unfolding symbol_of reserved signs paren table token_of
at_places = (refl, refl, refl, refl)

-- the second token was taken
taken : Takes paren 1 2 (token_of kind.Name 1)
unfolding symbol_of reserved signs paren table token_of
taken = record { is = refl; symbol = refl; forward = omega arith; within = omega arith }

numbers : (number 0 ≡ 0) × (number 1000000 ≡ 1000000)
numbers = (refl, refl)

-- ---- what is made

-- an operand with no prefix operator is itself
alone : (e : Expr) → prefixed [] e ≡ e
alone e = refl

-- ---- outside of the subset

outside_words : (is_outside table (token_of kind.Word 4) ≡ true) × (is_outside table (token_of kind.Name 4) ≡ false) × (is_outside table (token_of kind.Mark 5) ≡ true) × (is_outside table (token_of kind.Mark 0) ≡ false)
unfolding is_outside words marks functions table token_of
outside_words = (refl, refl, refl, refl)

outside_functions : (is_outside table (token_of kind.System 6) ≡ true) × (is_outside table (token_of kind.System 7) ≡ false)
unfolding is_outside words marks functions table token_of
outside_functions = (refl, refl)

-- a `#` is outside with a name after it, or nothing, and not with a `(`
delays : (starts_outside table (token_of kind.Mark 3 ∷ token_of kind.Name 1 ∷ []) ≡ true)
    × (starts_outside table (token_of kind.Mark 3 ∷ []) ≡ true)
    × (starts_outside table (token_of kind.Mark 3 ∷ token_of kind.Mark 0 ∷ []) ≡ false)
unfolding is_outside is_the words marks functions table token_of
delays = (refl, refl, refl)

-- no token stands past the end
past_the_end : outside_at table (token_of kind.Mark 3 ∷ []) 1 ≡ false
past_the_end = refl
