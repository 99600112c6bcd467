-- The first token of parts that stand one after another, and of the targets among them.
use Rattle.std.proofs.Common.{◌≡◌, ◌<◌, ◌≤◌, ℕ, suc, List, [], ◌∷◌, length, drop, get_or, slice_get, map, Some, None, sym, ap, ◌∙◌, subst, arith}
use Rattle.std.specs.Prelude.{◌&&◌}
use Rattle.std.proofs.Math.Seq.{drop-cons}
use Rattle.sv_tree.specs.declared.token.Token.{Token}
use Rattle.sv_tree.specs.declared.tree.expr.Choice.{Choice}
use Rattle.sv_tree.specs.declared.tree.expr.Step.{Step}
use Rattle.sv_tree.specs.declared.tree.expr.Args.TheOpen.{Expr-F}
use Rattle.sv_tree.specs.TreeRead.{all_of}
use Rattle.sv_tree.specs.TreeExpr.{ExprRead, expr_read, read_expr, choice_read}
use Rattle.sv_tree.specs.TreeExprLaws.{choice-roll}
use Rattle.sv_walk.specs.First.{BeginsWith}
use Rattle.sv_walk.specs.Targets.{is_target, step_targets}
use Rattle.sv_walk.specs.TargetLaws.{target_step-roll}

pub first_operator : (marks : List Token) (operand : ExprRead) (t : Token) → slice_get marks 0 ≡ Some t → BeginsWith t (read_expr (Expr-F.Prefix marks operand)).text
first_operator [] operand t none = absurd (cc)
first_operator (m ∷ marks) operand t is = record { first = λ rest. is }

pub no_operator : (marks : List Token) (operand : ExprRead) (t : Token) → slice_get marks 0 ≡ None → BeginsWith t operand.text → BeginsWith t (read_expr (Expr-F.Prefix marks operand)).text
no_operator [] operand t none h = record { first = λ rest. h.first rest }
no_operator (m ∷ marks) operand t none h = absurd (cc)

pub first_choice : (choices : List Choice) (x : Choice) (t : Token) → 1 ≤ length choices → x ≡ get_or choices 0 x → BeginsWith t (expr_read x.test).text → BeginsWith t (all_of (map choice_read choices))
first_choice [] x t some is h = absurd (omega (arith, some))
first_choice (y ∷ choices) x t some is h = record {
  first = λ rest.
      ap (λ r. slice_get (r.print ((all_of (map choice_read choices)).print rest)) 0) (choice-roll y.test y.question y.value y.colon)
      ∙ (subst (λ z. BeginsWith t (expr_read z.test).text) is h).first _;
}

pub no_choice : (choices : List Choice) (last : ExprRead) (t : Token) → choices ≡ [] → BeginsWith t last.text → BeginsWith t (read_expr (Expr-F.Choose (map choice_read choices) last)).text
no_choice [] last t none h = record { first = λ rest. h.first rest }
no_choice (x ∷ choices) last t none h = absurd (cc)

-- whether the parts from here on may all be written
pub targets_from : (xs : List Step) (i : ℕ) (x : Step) → i < length xs → x ≡ get_or xs i x → step_targets (drop i xs) ≡ (is_target x.operand && step_targets (drop (suc i) xs))
targets_from xs i x within is =
    ap step_targets (drop-cons xs i x within ∙ ap (λ y. y ∷ drop (suc i) xs) (sym is)) ∙ ap (λ b. b && step_targets (drop (suc i) xs)) (target_step-roll x.mark x.operand)
