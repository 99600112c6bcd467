-- The rules of what is assigned.
use Rattle.std.proofs.Common.{◌≤◌, ℕ, ◌+◌, List, [], ◌∷◌, ◌++◌, Result, IfOk, map, refl, ap, ◌∙◌}
use Rattle.std.proofs.lemmas.List.{map_push}
use Rattle.std.proofs.lemmas.Result.{IfOk-weaker}
use Rattle.sv_tree.specs.declared.symbol.Symbol.TheVariants as symbol
use Rattle.sv_tree.specs.declared.token.Token.{Token}
use Rattle.sv_tree.specs.declared.tree.expr.Select.{Select}
use Rattle.sv_tree.specs.declared.tree.stmt.Lvalue.{Lvalue}
use Rattle.sv_tree.specs.declared.tree.stmt.Lvalue.TheVariants as target
use Rattle.sv_tree.specs.declared.tree.stmt.LvalueStep.{LvalueStep, roll-LvalueStep}
use Rattle.sv_tree.specs.TreeRead.{token, ◌then◌, all_of}
use Rattle.sv_tree.specs.TreeExpr.{selects}
use Rattle.sv_tree.specs.TreeStmt.{lvalue_read, lvalue_step_read}
use Rattle.sv_tree.specs.TreeStmtLaws.{lvalue-Name, lvalue-Concat, lvalue_step-roll}
use Rattle.parse_expr.specs.declared.fault.ParseFault.{ParseFault}
use Rattle.parse_expr.specs.Input.{Input, TakesThe}
use Rattle.parse_expr.specs.Made.{Closes}
use Rattle.parse_expr.specs.Parsed.{Parsed}
use Rattle.parse_expr.specs.ParsedLaws.{token_at, ◌and◌, deep, by, grouped, each_more}

module _ {x : Input} {d a b c : ℕ} {name : Token} where
  pub rule_variable : (chosen : List Select) → d ≤ 128 → TakesThe x symbol.Name a b name → Parsed x d b c (selects chosen) → Parsed x d a c (lvalue_read (target.Name name chosen))
  rule_variable chosen within h k = by (lvalue-Name name chosen) (token_at within h and k)

module _ {x : Input} {d a b c e : ℕ} {comma : Token} where
  pub rule_targets : (more : List LvalueStep) (one : Lvalue)
      → d ≤ 128 → Parsed x d a b (all_of (map lvalue_step_read more)) → TakesThe x symbol.Comma b c comma → Parsed x d c e (lvalue_read one)
      → Parsed x d a e (all_of (map lvalue_step_read (more ++ roll-LvalueStep (record { comma = comma; target = one }) ∷ [])))
  rule_targets more one within h k n =
      by (ap all_of (map_push lvalue_step_read more _ ∙ ap (λ p. map lvalue_step_read more ++ p ∷ []) (lvalue_step-roll comma one)))
      (each_more (λ p. p) (map lvalue_step_read more) (token symbol.Comma comma then lvalue_read one) h (token_at within k and n))

module _ {x : Input} {a b c : ℕ} {opening : Token} (d e : ℕ) where
  rule_concat : (first : Lvalue) (more : List LvalueStep) (made : Lvalue)
      → d + 1 ≤ 128 → Parsed x (d + 1) a b (token symbol.BraceOpen opening then lvalue_read first) → Parsed x (d + 1) b c (all_of (map lvalue_step_read more))
      → Closes x symbol.BraceClose c e (λ t. target.Concat opening first more t) made → Parsed x d a e (lvalue_read made)
  rule_concat first more made within h k m =
      by (ap lvalue_read m.is ∙ lvalue-Concat opening first more m.close)
      (deep refl (grouped (token symbol.BraceOpen opening) (lvalue_read first) (all_of (map lvalue_step_read more) then token symbol.BraceClose m.close) (h and k and token_at within m.takes)))

  pub closes_targets : (r : Result Lvalue ParseFault) (first : Lvalue) (more : List LvalueStep)
      → d + 1 ≤ 128 → Parsed x (d + 1) a b (token symbol.BraceOpen opening then lvalue_read first) → Parsed x (d + 1) b c (all_of (map lvalue_step_read more))
      → IfOk r (λ m. Closes x symbol.BraceClose c e (λ t. target.Concat opening first more t) m) → IfOk r (λ m. Parsed x d a e (lvalue_read m))
  closes_targets r first more within h k =
      IfOk-weaker r (λ m. Closes x symbol.BraceClose c e (λ t. target.Concat opening first more t) m) (λ m. Parsed x d a e (lvalue_read m)) (λ m i. rule_concat first more m within h k i)
