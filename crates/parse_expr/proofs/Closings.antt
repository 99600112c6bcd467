-- The same rules for the answers of the functions that close a form.
use Rattle.std.proofs.Common.{◌≡◌, ◌≤◌, ◌<◌, ℕ, ◌+◌, List, [], ◌∷◌, Result, IfOk, OnOk, true, length, refl, sym, subst, arith}
use Rattle.std.proofs.lemmas.Result.{IfOk-weaker}
use Rattle.sv_tree.specs.declared.symbol.Symbol.{Symbol}
use Rattle.sv_tree.specs.declared.symbol.Symbol.TheVariants as symbol
use Rattle.sv_tree.specs.declared.token.Token.{Token}
use Rattle.sv_tree.specs.declared.tree.expr.Expr.{Expr}
use Rattle.sv_tree.specs.declared.tree.expr.Args.{Args}
use Rattle.sv_tree.specs.declared.tree.expr.Choice.{Choice}
use Rattle.sv_tree.specs.declared.tree.expr.Select.{Select}
use Rattle.sv_tree.specs.declared.tree.expr.Step.{Step}
use Rattle.sv_tree.specs.declared.tree.expr.Expr.TheVariants as expression
use Rattle.sv_tree.specs.declared.tree.expr.Args.TheVariants as arguments
use Rattle.sv_tree.specs.declared.tree.expr.Select.TheVariants as selected
use Rattle.sv_tree.specs.Symbol.{is_part}
use Rattle.sv_tree.specs.TreeRead.{◌then◌}
use Rattle.sv_tree.specs.TreeExpr.{args_read, expr_read, select_read, expr, steps}
use Rattle.parse_expr.specs.declared.fault.ParseFault.{ParseFault}
use Rattle.parse_expr.specs.Input.{Input, symbol_at, Takes, TakesThe}
use Rattle.parse_expr.specs.Made.{chosen, Closes, ClosesTwice}
use Rattle.parse_expr.specs.Parsed.{Parsed, ParsedExpr}
use Rattle.parse_expr.proofs.Rules.{Tested, rule_paren, rule_system, rule_call, rule_concat, rule_repeat, rule_bit, rule_part, rule_chosen, rule_args}

pub is_none : {A : Type 0} (xs : List A) → length xs ≤ 0 → xs ≡ []
is_none [] h = refl
is_none (x ∷ xs) h = absurd (omega arith)

module _ {x : Input} {a b c : ℕ} {opening : Token} (d e : ℕ) where
  pub closes_paren : (r : Result Expr ParseFault) (inner : Expr)
      → d + 1 ≤ 128 → TakesThe x symbol.ParenOpen a b opening → Parsed x (d + 1) b c (expr inner)
      → IfOk r (λ m. Closes x symbol.ParenClose c e (λ t. expression.Paren opening inner t) m) → IfOk r (λ m. ParsedExpr x d a e 0 (expr_read m))
  closes_paren r inner within h k = IfOk-weaker r (λ m. Closes x symbol.ParenClose c e (λ t. expression.Paren opening inner t) m) (λ m. ParsedExpr x d a e 0 (expr_read m)) (λ m i. rule_paren inner m within h k i)

  pub closes_concat : (r : Result Expr ParseFault) (first : Expr) (more : List Step)
      → d + 1 ≤ 128 → TakesThe x symbol.BraceOpen a b opening → Parsed x (d + 1) b c (expr first then steps more)
      → IfOk r (λ m. Closes x symbol.BraceClose c e (λ t. expression.Concat opening first more t) m) → IfOk r (λ m. ParsedExpr x d a e 0 (expr_read m))
  closes_concat r first more within h k =
      IfOk-weaker r (λ m. Closes x symbol.BraceClose c e (λ t. expression.Concat opening first more t) m) (λ m. ParsedExpr x d a e 0 (expr_read m)) (λ m i. rule_concat first more m within h k i)

  pub closes_bit : (r : Result Select ParseFault) (at : Expr)
      → d + 1 ≤ 128 → TakesThe x symbol.BracketOpen a b opening → Parsed x (d + 1) b c (expr at)
      → IfOk r (λ m. Closes x symbol.BracketClose c e (λ t. selected.Bit opening at t) m) → IfOk r (λ m. Parsed x d a e (select_read m))
  closes_bit r at within h k = IfOk-weaker r (λ m. Closes x symbol.BracketClose c e (λ t. selected.Bit opening at t) m) (λ m. Parsed x d a e (select_read m)) (λ m i. rule_bit at m within h k i)

  pub closes_part : {f : ℕ} {mark : Token} (g : ℕ) (r : Result Select ParseFault) (from to : Expr)
      → d + 1 ≤ 128 → TakesThe x symbol.BracketOpen a b opening → Parsed x (d + 1) b c (expr from) → is_part (symbol_at x c) ≡ true → Takes x c e mark → Parsed x (d + 1) e f (expr to)
      → IfOk r (λ m. Closes x symbol.BracketClose f g (λ t. selected.Part opening from mark to t) m) → IfOk r (λ m. Parsed x d a g (select_read m))
  closes_part {f} {mark} g r from to within h k part i n =
      IfOk-weaker r (λ m. Closes x symbol.BracketClose f g (λ t. selected.Part opening from mark to t) m) (λ m. Parsed x d a g (select_read m)) (λ m j. rule_part from to m within h k part i n j)

module _ {x : Input} {a b c e : ℕ} {name opening : Token} (d f : ℕ) where
  pub closes_system : (r : Result Expr ParseFault) (arg : Expr)
      → d + 1 ≤ 128 → TakesThe x symbol.System a b name → TakesThe x symbol.ParenOpen b c opening → Parsed x (d + 1) c e (expr arg)
      → IfOk r (λ m. Closes x symbol.ParenClose e f (λ t. expression.System name opening arg t) m) → IfOk r (λ m. ParsedExpr x d a f 0 (expr_read m))
  closes_system r arg within h i k =
      IfOk-weaker r (λ m. Closes x symbol.ParenClose e f (λ t. expression.System name opening arg t) m) (λ m. ParsedExpr x d a f 0 (expr_read m)) (λ m j. rule_system arg m within h i k j)

  pub closes_call : (r : Result Expr ParseFault) (args : Args)
      → d + 1 ≤ 128 → TakesThe x symbol.Name a b name → TakesThe x symbol.ParenOpen b c opening → Parsed x (d + 1) c e (args_read args)
      → IfOk r (λ m. Closes x symbol.ParenClose e f (λ t. expression.Call name opening args t) m) → IfOk r (λ m. ParsedExpr x d a f 0 (expr_read m))
  closes_call r args within h i k =
      IfOk-weaker r (λ m. Closes x symbol.ParenClose e f (λ t. expression.Call name opening args t) m) (λ m. ParsedExpr x d a f 0 (expr_read m)) (λ m j. rule_call args m within h i k j)

module _ {x : Input} {a b c e f : ℕ} {opening inner_opening : Token} (d g : ℕ) where
  pub closes_repeat : (r : Result Expr ParseFault) (count first : Expr) (none more : List Step)
      → d + 2 ≤ 128 → none ≡ [] → TakesThe x symbol.BraceOpen a b opening → Parsed x (d + 1) b c (expr count then steps none) → TakesThe x symbol.BraceOpen c e inner_opening
      → Parsed x (d + 2) e f (expr first then steps more)
      → IfOk r (λ m. ClosesTwice x symbol.BraceClose f g (λ s t. expression.Repeat opening count inner_opening first more s t) m) → IfOk r (λ m. ParsedExpr x d a g 0 (expr_read m))
  closes_repeat r count first none more within empty h k i n =
      IfOk-weaker r (λ m. ClosesTwice x symbol.BraceClose f g (λ s t. expression.Repeat opening count inner_opening first more s t) m) (λ m. ParsedExpr x d a g 0 (expr_read m))
      (λ m j. rule_repeat count first none more m within empty h k i n j)

module _ {x : Input} {d a b : ℕ} where
  pub makes_chosen : (r : Result Expr ParseFault) (choices : List Choice) (last : Expr) → Tested x d a b choices last → IfOk r (λ m. m ≡ chosen choices last) → IfOk r (λ m. Parsed x d a b (expr m))
  makes_chosen r choices last h = IfOk-weaker r (λ m. m ≡ chosen choices last) (λ m. Parsed x d a b (expr m)) (λ m is. rule_chosen choices last m is h)

-- what closes a form goes on
pub closing_goes : {A : Type 0} {a b : ℕ} (x : Input) (c : ℕ) (s : Symbol) (r : Result A ParseFault) (make : Token → A) → a < b → IfOk r (λ m. Closes x s b c make m) → OnOk r (a < c)
closing_goes {A} {a} {b} x c s r make before = IfOk-weaker r (λ m. Closes x s b c make m) (λ m. a < c) (λ m h. omega (arith, h.takes.takes.forward))

module _ {x : Input} {d a b : ℕ} where
  pub makes_listed : (r : Result Args ParseFault) (first : Expr) (more : List Step) → Parsed x d a b (expr first then steps more) → IfOk r (λ m. m ≡ arguments.Listed first more) → IfOk r (λ m. Parsed x d a b (args_read m))
  makes_listed r first more h =
      IfOk-weaker r (λ m. m ≡ arguments.Listed first more) (λ m. Parsed x d a b (args_read m)) (λ m is. subst (λ e. Parsed x d a b (args_read e)) (sym is) (rule_args first more h))
