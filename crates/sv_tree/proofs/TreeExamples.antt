-- Small examples of what trees read as, layer by layer.
use Rattle.std.specs.Prelude.{◌≡◌, ℕ, true, false, List, [], ◌∷◌, map, get_or, codes}
use Rattle.std.proofs.Common.{refl}
use Rattle.sv_tree.specs.declared.symbol.Symbol.{Symbol}
use Rattle.sv_tree.specs.declared.symbol.Symbol.TheVariants as sym
use Rattle.sv_tree.specs.declared.token.Token.{Token}
use Rattle.sv_tree.specs.declared.token.TokenKind.{TokenKind}
use Rattle.sv_tree.specs.declared.token.TokenKind.TheVariants as kind
use Rattle.sv_tree.specs.declared.tree.expr.Args.TheOpen.{Expr-F}
use Rattle.sv_tree.specs.Spelling.{words, marks, symbol_of}
use Rattle.sv_tree.specs.Symbol.{number_of, all_symbols}
use Rattle.sv_tree.specs.TreeRead.{Symbols, Read}
use Rattle.sv_tree.specs.TreeExpr.{ExprRead, StepRead, read_expr, read_choice}

-- ---- tokens by their texts

token_of : TokenKind → ℕ → Token
token_of k id = record { kind = k; name = record { 0 = id }; at = record { file = 0; line = 1; col = 1 } }

table : List (List ℕ)
table = codes "<=" ∷ codes "always_ff" ∷ codes "endmodule" ∷ []

-- a word and a mark are what their texts say, a name is one whatever its text
spelled : (symbol_of table (token_of kind.Mark 0) ≡ sym.LessEqual) × (symbol_of table (token_of kind.Word 1) ≡ sym.AlwaysFf) × (symbol_of table (token_of kind.Name 1) ≡ sym.Name)
unfolding symbol_of words marks table token_of
spelled = (refl, refl, refl)

-- a mark with the text of a word is nothing
misspelled : symbol_of table (token_of kind.Mark 2) ≡ sym.Other
unfolding symbol_of marks table token_of
misspelled = refl

-- ---- trees of tokens that stand for their symbols

abbrev tok : Symbol → Token
tok x = record { kind = kind.Mark; name = record { 0 = number_of x }; at = record { file = 0; line = 1; col = 1 } }

abbrev by_number : Symbols
by_number t = get_or all_symbols t.name.0 sym.Other

abbrev symbols : List Token → List Symbol
symbols = map by_number

abbrev depths : Read → List ℕ
depths a = map (λ x. x.1) (a.laid 0 [])

abbrev name : ExprRead
name = read_expr (Expr-F.Name (tok sym.Name) [])

abbrev after : Symbol → ExprRead → StepRead
after x e = record { mark = tok x; operand = e }

abbrev product : ExprRead
product = read_expr (Expr-F.Level name (after sym.Star name ∷ []))

abbrev sum : ExprRead
sum = read_expr (Expr-F.Level name (after sym.Plus product ∷ []))

-- `a + a * a` reads as a sum with a product in it
sum_reads : (symbols (sum.text.print []) ≡ sym.Name ∷ sym.Plus ∷ sym.Name ∷ sym.Star ∷ sym.Name ∷ []) × (sum.text.shaped by_number ≡ true)
sum_reads = (refl, refl)

-- and not as a product with a sum in it
product_of_sum : (read_expr (Expr-F.Level sum (after sym.Star name ∷ []))).text.shaped by_number ≡ false
product_of_sum = refl

-- operators of one level stand in one list, and only they do
one_level : ((read_expr (Expr-F.Level name (after sym.Plus name ∷ after sym.Minus name ∷ []))).text.shaped by_number ≡ true)
    × ((read_expr (Expr-F.Level name (after sym.Plus name ∷ after sym.Star name ∷ []))).text.shaped by_number ≡ false)
    × ((read_expr (Expr-F.Level (read_expr (Expr-F.Level name (after sym.Plus name ∷ []))) (after sym.Minus name ∷ []))).text.shaped by_number ≡ false)
one_level = (refl, refl, refl)

-- prefix operators stand before a primary, all in one list
prefixes : ((read_expr (Expr-F.Prefix (tok sym.Minus ∷ tok sym.Tilde ∷ []) name)).text.shaped by_number ≡ true)
    × ((read_expr (Expr-F.Prefix (tok sym.Minus ∷ []) (read_expr (Expr-F.Prefix (tok sym.Tilde ∷ []) name)))).text.shaped by_number ≡ false)
    × ((read_expr (Expr-F.Prefix (tok sym.Star ∷ []) name)).text.shaped by_number ≡ false)
prefixes = (refl, refl, refl)

-- of `a ? a : a` only the middle operand stands in something, and a parenthesis stands in itself
depths_of_choice : depths (read_expr (Expr-F.Choose (read_choice (record { test = name; question = tok sym.Question; value = name; colon = tok sym.Colon }) ∷ []) name)).text
    ≡ 0 ∷ 0 ∷ 1 ∷ 0 ∷ 0 ∷ []
depths_of_choice = refl

depths_of_paren : depths (read_expr (Expr-F.Paren (tok sym.ParenOpen) name (tok sym.ParenClose))).text ≡ 1 ∷ 1 ∷ 1 ∷ []
depths_of_paren = refl

-- `{a{a}}` has one pair of braces in another
depths_of_repeat : depths (read_expr (Expr-F.Repeat (tok sym.BraceOpen) name (tok sym.BraceOpen) name [] (tok sym.BraceClose) (tok sym.BraceClose))).text
    ≡ 1 ∷ 1 ∷ 2 ∷ 2 ∷ 2 ∷ 1 ∷ []
depths_of_repeat = refl
