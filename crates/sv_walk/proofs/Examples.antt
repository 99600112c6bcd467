-- What is met in small expressions, layer by layer.
use Rattle.std.specs.Prelude.{◌≡◌, ℕ, Bool, true, false, List, [], ◌∷◌, codes, refl}
use Rattle.sv_tree.specs.declared.token.Token.{Token}
use Rattle.sv_tree.specs.declared.token.TokenKind.TheVariants as kind
use Rattle.sv_tree.specs.declared.tree.expr.Choice.{Choice}
use Rattle.sv_tree.specs.declared.tree.expr.Expr.{Expr}
use Rattle.sv_tree.specs.declared.tree.expr.Select.{Select}
use Rattle.sv_tree.specs.declared.tree.expr.Step.{Step}
use Rattle.sv_tree.specs.declared.tree.expr.Args.TheOpen.{Args-F, Expr-F, Select-F}
use Rattle.sv_walk.specs.Events.{Event, Named, Called, Written, Term, Part, args_layer, expr_layer, select_layer, choice_layer, step_layer}
use Rattle.sv_walk.specs.Targets.{is_target_layer}

-- ---- tokens by the places of their texts

names : List (List ℕ)
names = codes ":" ∷ codes "+:" ∷ codes "-:" ∷ codes "$clog2" ∷ codes "$signed" ∷ codes "," ∷ []

-- a number that the table does not have is that of some name, brace or operator
abbrev token : ℕ → Token
token id = record { kind = kind.Name; name = record { 0 = id }; at = record { file = 0; line = 1; col = id } }

abbrev colon : Token
colon = token 0

abbrev plus_colon : Token
plus_colon = token 1

abbrev minus_colon : Token
minus_colon = token 2

abbrev comma : Token
comma = token 5

abbrev brace : Token
brace = token 6

abbrev operator : Token
operator = token 7

abbrev a : Token
a = token 10

abbrev b : Token
b = token 11

abbrev i : Token
i = token 12

abbrev n : Token
n = token 13

-- ---- parts of expressions

abbrev indexed : Token → List (Part Select) → Part Expr
indexed name selects = expr_layer names (Expr-F.Name name selects)

abbrev whole : Token → Part Expr
whole name = indexed name []

abbrev number : Part Expr
number = expr_layer names (Expr-F.Decimal (token 14))

abbrev after : Part Expr → Part Step
after operand = step_layer names (record { mark = comma; operand = operand })

abbrev bit : Part Expr → Part Select
bit at = select_layer names (Select-F.Bit brace at brace)

abbrev part : Token → Token → Token → Part Select
part from mark to = select_layer names (Select-F.Part brace (whole from) mark (whole to) brace)

abbrev chosen : Part Expr → Part Expr → Part Choice
chosen test value = choice_layer names (record { test = test; question = operator; value = value; colon = colon })

abbrev read : Token → Bool → Event
read name constant = Named name [] constant

-- ---- what is read

-- b + {2{a[i]}}
sum : (expr_layer names (Expr-F.Level (whole b) (after (expr_layer names (Expr-F.Repeat brace number brace (indexed a (bit (whole i) ∷ [])) [] brace brace)) ∷ []))).events false
    ≡ Term ∷ read b false ∷ Term ∷ Term ∷ Term ∷ Term ∷ Named a ((bit (whole i)).tree ∷ []) false ∷ Term ∷ Term ∷ read i false ∷ []
unfolding names
sum = refl

-- {n{a, b}}: the count needs a constant, and the parts do not
replication : (expr_layer names (Expr-F.Repeat brace (whole n) brace (whole a) (after (whole b) ∷ []) brace brace)).events false
    ≡ Term ∷ Term ∷ read n true ∷ Term ∷ read a false ∷ Term ∷ read b false ∷ []
unfolding names
replication = refl

-- $clog2(n), and $signed(n)
logarithm : (expr_layer names (Expr-F.System (token 3) brace (whole n) brace)).events false ≡ Term ∷ Term ∷ read n true ∷ []
unfolding names
logarithm = refl

conversion : (expr_layer names (Expr-F.System (token 4) brace (whole n) brace)).events false ≡ Term ∷ Term ∷ read n false ∷ []
unfolding names
conversion = refl

-- a[n:i]: both ends need a constant
range : (indexed a (part n colon i ∷ [])).events false ≡ Term ∷ Named a ((part n colon i).tree ∷ []) false ∷ Term ∷ Term ∷ read n true ∷ Term ∷ read i true ∷ []
unfolding names
range = refl

-- a[i +: n] and a[i -: n]: the width alone does
upwards : (indexed a (part i plus_colon n ∷ [])).events false ≡ Term ∷ Named a ((part i plus_colon n).tree ∷ []) false ∷ Term ∷ Term ∷ read i false ∷ Term ∷ read n true ∷ []
unfolding names
upwards = refl

downwards : (indexed a (part i minus_colon n ∷ [])).events false ≡ Term ∷ Named a ((part i minus_colon n).tree ∷ []) false ∷ Term ∷ Term ∷ read i false ∷ Term ∷ read n true ∷ []
unfolding names
downwards = refl

-- a[i + n] in a place that needs a constant: what stands deeper needs one too
deeper : (indexed a (bit (expr_layer names (Expr-F.Level (whole i) (after (whole n) ∷ []))) ∷ [])).events true
    ≡ Term ∷ Named a ((bit (expr_layer names (Expr-F.Level (whole i) (after (whole n) ∷ [])))).tree ∷ []) true ∷ Term ∷ Term ∷ read i true ∷ Term ∷ Term ∷ read n true ∷ []
unfolding names
deeper = refl

-- n(a, b): the call comes before its arguments
call : (expr_layer names (Expr-F.Call n brace (args_layer names (Args-F.Listed (whole a) (after (whole b) ∷ []))) brace)).events false
    ≡ Term ∷ Called n (args_layer names (Args-F.Listed (whole a) (after (whole b) ∷ []))).tree false ∷ Term ∷ read a false ∷ Term ∷ read b false ∷ []
unfolding names
call = refl

-- i ? a : b: the `?` is one term, between the test and the value
choice : (expr_layer names (Expr-F.Choose (chosen (whole i) (whole a) ∷ []) (whole b))).events false
    ≡ Term ∷ read i false ∷ Term ∷ Term ∷ read a false ∷ Term ∷ read b false ∷ []
unfolding names
choice = refl

-- - ~ (a): a term for each operator, one for the parenthesis and one for the name
prefixes : (expr_layer names (Expr-F.Prefix (operator ∷ operator ∷ []) (expr_layer names (Expr-F.Paren brace (whole a) brace)))).events false
    ≡ Term ∷ Term ∷ Term ∷ Term ∷ read a false ∷ []
unfolding names
prefixes = refl

-- ---- what is written

-- {a, b[i]}: the name and the brace of what is written are no terms, and the index is read
braces : (expr_layer names (Expr-F.Concat brace (whole a) (after (indexed b (bit (whole i) ∷ [])) ∷ []) brace)).written
    ≡ Written a [] ∷ Written b ((bit (whole i)).tree ∷ []) ∷ Term ∷ Term ∷ read i false ∷ []
unfolding names
braces = refl

-- (a) may not be written, and nothing is met in it
parenthesis : (expr_layer names (Expr-F.Paren brace (whole a) brace)).written ≡ []
unfolding names
parenthesis = refl

no_target : is_target_layer (Expr-F.Paren brace true brace) ≡ false
no_target = refl

-- {a, (b)} is not written either
half_target : is_target_layer (Expr-F.Concat brace true (false ∷ []) brace) ≡ false
half_target = refl
