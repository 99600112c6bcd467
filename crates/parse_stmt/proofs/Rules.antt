-- What is parsed as a statement: a rule for each form of the grammar, from its parts to the whole.
use Rattle.std.proofs.Common.{◌≡◌, ◌≤◌, ◌+◌, ◌<◌, ℕ, true, false, List, [], ◌∷◌, map, refl, sym, ap, ◌∙◌, subst, arith}
use Rattle.sv_tree.specs.declared.symbol.Symbol.TheVariants as symbol
use Rattle.sv_tree.specs.declared.token.Token.{Token}
use Rattle.sv_tree.specs.declared.tree.expr.Args.{Args}
use Rattle.sv_tree.specs.declared.tree.expr.Expr.{Expr}
use Rattle.sv_tree.specs.declared.tree.expr.Select.{Select}
use Rattle.sv_tree.specs.declared.tree.stmt.Arm.{Arm}
use Rattle.sv_tree.specs.declared.tree.stmt.Branch.{Branch, roll-Branch}
use Rattle.sv_tree.specs.declared.tree.stmt.LoopHead.{LoopHead}
use Rattle.sv_tree.specs.declared.tree.stmt.Lvalue.{Lvalue}
use Rattle.sv_tree.specs.declared.tree.stmt.Lvalue.TheVariants as lvalue
use Rattle.sv_tree.specs.declared.tree.stmt.Stmt.{Stmt}
use Rattle.sv_tree.specs.declared.tree.stmt.Stmt.TheVariants as stmt
use Rattle.sv_tree.specs.declared.tree.stmt.Test.{Test}
use Rattle.sv_tree.specs.Symbol.{same, is_assign}
use Rattle.sv_tree.specs.TreeExpr.{is_empty, expr, args_read, selects, steps}
use Rattle.sv_tree.specs.TreeRead.{token, ◌then◌, maybe, all_of}
use Rattle.sv_tree.specs.TreeStmt.{lvalue_read, stmt_loop, test, texts, stmt_read, arm_read, branch_read}
use Rattle.sv_tree.specs.TreeStmtLaws.{lvalue-Name, stmt-Empty, stmt-Block, stmt-If, stmt-IfElse, stmt-Case, stmt-For, stmt-Assign, stmt-Call, arm-Labels, arm-Default, branch-roll}
use Rattle.parse_expr.specs.Input.{Input, symbol_at, Takes, TakesThe, IsAnother}
use Rattle.parse_expr.specs.Parsed.{Parsed}
use Rattle.parse_expr.specs.ParsedLaws.{token_at, one_at, ◌and◌, deep, by}
use Rattle.parse_stmt.specs.Body.{ParsedBody, ParsedInside}
use Rattle.parse_stmt.specs.BodyLaws.{takes_forward, first_is_not, takes_not, another_not, flat, flat_3, flat_4, plain_body, ending_body, body_by, block_body, branch_parsed, chain_body, chain_else_body}
use Rattle.parse_stmt.specs.Heads.{named_word, case_head, arm_head, arm, case_of}
use Rattle.parse_stmt.specs.declared.cases.ArmHead.{ArmHead}
use Rattle.parse_stmt.specs.declared.cases.ArmHead.TheVariants.{Labels, Default}
use Rattle.parse_stmt.specs.declared.cases.CaseHead.{CaseHead}
use Rattle.parse_stmt.specs.declared.edges.NamedWord.{NamedWord}

some_branches : (x : Input) {a b : ℕ} (branches : List Branch) → (is_empty branches ≡ true → b ≡ a) → same symbol.If (symbol_at x a) ≡ true → same symbol.If (symbol_at x b) ≡ false
    → is_empty (map branch_read branches) ≡ false
some_branches x [] begun first last = let h = begun refl in cc (ap (λ n. same symbol.If (symbol_at x n)) h)
some_branches x (y ∷ ys) begun first last = refl

module _ {x : Input} {e : ℕ} where
  -- ---- statements in which no statement stands

  pub empty_stmt : {a b : ℕ} {t : Token} → e ≤ 128 → TakesThe x symbol.Semicolon a b t → ParsedInside x e a b (stmt_read (stmt.Empty t))
  empty_stmt {t = t} shallow h = λ d is. body_by (stmt-Empty t) (plain_body (deep is (token_at shallow h)) (takes_forward h.takes) (takes_not h symbol.If refl))

  pub call_stmt : {a b c f g h : ℕ} {name opens closes semicolon : Token} (args : Args) → e ≤ 128 → e + 1 ≤ 128
      → TakesThe x symbol.Name a b name → TakesThe x symbol.ParenOpen b c opens → Parsed x (e + 1) c f (args_read args)
      → TakesThe x symbol.ParenClose f g closes → TakesThe x symbol.Semicolon g h semicolon
      → ParsedInside x e a h (stmt_read (stmt.Call name opens args closes semicolon))
  call_stmt {name = name} {opens} {closes} {semicolon} args shallow inner n o p q s = λ d is.
      body_by (stmt-Call name opens args closes semicolon)
      (plain_body (deep is (token_at shallow n and deep refl (token_at inner o and p and token_at inner q) and token_at shallow s))
      (omega (arith, takes_forward n.takes, o.takes.forward, p.forward, q.takes.forward, s.takes.forward)) (takes_not n symbol.If refl))

  pub name_target : {a b c : ℕ} {name : Token} (chosen : List Select) → e ≤ 128 → TakesThe x symbol.Name a b name → Parsed x e b c (selects chosen)
      → Parsed x e a c (lvalue_read (lvalue.Name name chosen))
  name_target {name = name} chosen shallow n h = by (lvalue-Name name chosen) (token_at shallow n and h)

  pub assign_stmt : {a b c f g : ℕ} (target : Lvalue) {mark semicolon : Token} (value : Expr) → e ≤ 128 → same symbol.If (symbol_at x a) ≡ false
      → Parsed x e a b (lvalue_read target) → is_assign (symbol_at x b) ≡ true → Takes x b c mark → Parsed x e c f (expr value)
      → TakesThe x symbol.Semicolon f g semicolon
      → ParsedInside x e a g (stmt_read (stmt.Assign target mark value semicolon))
  assign_stmt target {mark} {semicolon} value shallow first h is_mark m k s = λ d is.
      body_by (stmt-Assign target mark value semicolon)
      (plain_body (deep is (h and one_at is_assign shallow is_mark m and k and token_at shallow s))
      (omega (arith, h.forward, takes_forward m, k.forward, s.takes.forward)) first)

  -- ---- blocks and loops

  pub block_stmt : {a b c f : ℕ} (opens : NamedWord) (parts : List Stmt) (closes : NamedWord)
      → Parsed x e a b (named_word symbol.Begin opens) → a < b → Parsed x e b c (texts (map stmt_read parts)) → Parsed x e c f (named_word symbol.End closes)
      → ParsedInside x e a f (stmt_read (stmt.Block opens.word opens.label parts closes.word closes.label))
  block_stmt opens parts closes h forward k l = λ d is.
      body_by (stmt-Block opens.word opens.label parts closes.word closes.label)
      (block_body opens (map stmt_read parts) closes is h k l (omega (arith, forward, k.forward, l.forward)))

  pub for_stmt : {a b c : ℕ} (head : LoopHead) (body : Stmt) → Parsed x e a b (stmt_loop head) → ParsedBody x e b c (stmt_read body)
      → ParsedInside x e a c (stmt_read (stmt.For head body))
  for_stmt head body h k = λ d is.
      body_by (stmt-For head body)
      (ending_body (stmt_read body) (deep is (h and k.text)) (omega (arith, h.forward, k.forward)) (first_is_not symbol.For head.word _ h symbol.If refl) k.ends)

  -- ---- `case`

  pub arm_of : {a b c : ℕ} (head : ArmHead) (body : Stmt) → Parsed x e a b (arm_head head) → ParsedBody x e b c (stmt_read body) → Parsed x e a c (arm_read (arm head body))
  arm_of (Labels labels colon) body h k = by (arm-Labels labels.first labels.more colon body) (flat_3 (expr labels.first) (steps labels.more) (token symbol.Colon colon) (stmt_read body).text (h and k.text))
  arm_of (Default word colon) body h k = by (arm-Default word colon body) (flat (token symbol.Default word) (maybe (token symbol.Colon) colon) (stmt_read body).text (h and k.text))

  pub case_stmt : {a b c f : ℕ} (head : CaseHead) (parts : List Arm) {end : Token} → e ≤ 128
      → Parsed x e a b (case_head head) → Parsed x e b c (all_of (map arm_read parts)) → TakesThe x symbol.Endcase c f end
      → ParsedInside x e a f (stmt_read (case_of head parts end))
  case_stmt head parts {end} shallow h k l = λ d is.
      body_by (stmt-Case head.word head.open head.subject head.close parts end)
      (plain_body (deep is (flat_4 (token symbol.Case head.word) (token symbol.ParenOpen head.open) (expr head.subject) (token symbol.ParenClose head.close) (all_of (map arm_read parts) then token symbol.Endcase end) (h and k and token_at shallow l))) (omega (arith, h.forward, k.forward, takes_forward l.takes)) (first_is_not symbol.Case head.word _ h symbol.If refl))

  -- ---- chains of `if`

  pub branch_stmt : {a b c f : ℕ} (t : Test) (body : Stmt) {w : Token} → e ≤ 128 → Parsed x e a b (test t) → ParsedBody x e b c (stmt_read body)
      → TakesThe x symbol.Else c f w → Parsed x e a f (branch_read (roll-Branch (record { test = t; body = body; else_word = w })))
  branch_stmt t body {w} shallow h k l = by (branch-roll t body w) (branch_parsed t shallow h k l)

  pub if_stmt : {a b c f g : ℕ} (branches : List Branch) (t : Test) (body : Stmt) (s : Stmt) → s ≡ stmt.If branches t body
      → Parsed x e a b (all_of (map branch_read branches)) → Parsed x e b c (test t) → ParsedBody x e c f (stmt_read body)
      → same symbol.If (symbol_at x a) ≡ true → (g ≡ f) × IsAnother x symbol.Else f
      → ParsedInside x e a g (stmt_read s)
  if_stmt {a} {b} {c} {f} {g} branches t body s made h k l first last = λ d is.
      let whole : ParsedBody x d a f (stmt_read s) =
      body_by (ap stmt_read made ∙ stmt-If branches t body) (chain_body (map branch_read branches) t is h k l first (another_not x symbol.Else f refl last.1)) in
      subst (λ n. ParsedBody x d a n (stmt_read s)) (sym last.0) whole

  pub if_else_stmt : {a b c : ℕ} (branches : List Branch) (body : Stmt) (s : Stmt) → s ≡ stmt.IfElse branches body
      → Parsed x e a b (all_of (map branch_read branches)) → ParsedBody x e b c (stmt_read body)
      → (is_empty branches ≡ true → b ≡ a) → same symbol.If (symbol_at x a) ≡ true → same symbol.If (symbol_at x b) ≡ false
      → ParsedInside x e a c (stmt_read s)
  if_else_stmt branches body s made h k begun first last = λ d is.
      body_by (ap stmt_read made ∙ stmt-IfElse branches body) (chain_else_body (map branch_read branches) is h k (some_branches x branches begun first last) first last)
