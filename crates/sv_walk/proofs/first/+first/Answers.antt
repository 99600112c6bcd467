use Rattle.std.proofs.Common.{◌≡◌, refl, sym, ap, ◌∙◌, subst, slice_get}
use Rattle.sv_tree.specs.declared.token.Token.{Token}
use Rattle.sv_tree.specs.declared.tree.expr.Expr.{Expr}
use Rattle.sv_tree.specs.TreeExpr.{ExprRead, expr_read}
use Rattle.sv_tree.specs.TreeExprLaws as law
use Rattle.sv_walk.specs.First.{BeginsWith}
use Rattle.sv_walk.proofs.Firsts.{first_operator, no_operator, first_choice, no_choice}
use Rattle.sv_walk.proofs.first.+first.Goals as goal

by : {t : Token} {e f : Expr} {r : ExprRead} → e ≡ f → expr_read f ≡ r → BeginsWith t r.text → BeginsWith t (expr_read e).text
by {t = t} is reads h = subst (λ x. BeginsWith t x.text) (sym (ap expr_read is ∙ reads)) h

pub first_token-returns-in-Decimal : goal.first_token-returns-in-Decimal
first_token-returns-in-Decimal t c = by c.in-Decimal.is (law.expr-Decimal _) (record { first = λ rest. refl })

pub first_token-returns-in-Based : goal.first_token-returns-in-Based
first_token-returns-in-Based t c = by c.in-Based.is (law.expr-Based _) (record { first = λ rest. refl })

pub first_token-returns-in-Sized : goal.first_token-returns-in-Sized
first_token-returns-in-Sized t c = by c.in-Sized.is (law.expr-Sized _ _) (record { first = λ rest. refl })

pub first_token-returns-in-Fill : goal.first_token-returns-in-Fill
first_token-returns-in-Fill t c = by c.in-Fill.is (law.expr-Fill _) (record { first = λ rest. refl })

pub first_token-returns-in-Name : goal.first_token-returns-in-Name
first_token-returns-in-Name t c = by c.in-Name.is (law.expr-Name _ _) (record { first = λ rest. refl })

pub first_token-returns-in-Paren : goal.first_token-returns-in-Paren
first_token-returns-in-Paren t c = by c.in-Paren.is (law.expr-Paren _ _ _) (record { first = λ rest. refl })

pub first_token-returns-in-Concat : goal.first_token-returns-in-Concat
first_token-returns-in-Concat t c = by c.in-Concat.is (law.expr-Concat _ _ _ _) (record { first = λ rest. refl })

pub first_token-returns-in-Repeat : goal.first_token-returns-in-Repeat
first_token-returns-in-Repeat t c = by c.in-Repeat.is (law.expr-Repeat _ _ _ _ _ _ _) (record { first = λ rest. refl })

pub first_token-returns-in-Call : goal.first_token-returns-in-Call
first_token-returns-in-Call t c = by c.in-Call.is (law.expr-Call _ _ _ _) (record { first = λ rest. refl })

pub first_token-returns-in-System : goal.first_token-returns-in-System
first_token-returns-in-System t c = by c.in-System.is (law.expr-System _ _ _ _) (record { first = λ rest. refl })

pub first_token-returns-in-Level : goal.first_token-returns-in-Level
first_token-returns-in-Level t c =
    let h = rw c.get-in-Level.ensures at c.first_token-in-Level.ensures in
    by c.in-Level.is (law.expr-Level _ _) (record { first = λ rest. h.first _ })

pub first_token-returns-in-Some : goal.first_token-returns-in-Some
first_token-returns-in-Some t c =
    by c.in-Prefix.is (law.expr-Prefix _ _)
    (first_operator c.in-Prefix.operators (expr_read c.in-Prefix.operand) c.in-Some.operator.now (ap (λ marks. slice_get marks 0) (sym c.as_slice.ensures) ∙ sym c.in-Some.ensures.value))

pub first_token-returns-in-None : goal.first_token-returns-in-None
first_token-returns-in-None t c =
    by c.in-Prefix.is (law.expr-Prefix _ _)
    (no_operator c.in-Prefix.operators (expr_read c.in-Prefix.operand) c.first_token.result (ap (λ marks. slice_get marks 0) (sym c.as_slice.ensures) ∙ sym c.in-None.ensures.value)
    (rw c.get.ensures at c.first_token.ensures))

pub first_token-returns-in-Some-first_of : goal.first_token-returns-in-Some-first_of
first_token-returns-in-Some-first_of t c =
    let h = rw c.as_slice-in-Choose.ensures at c.in-Some-first_of.ensures in
    by c.in-Choose.is (law.expr-Choose _ _) (record { first = λ rest. h.first _ })

pub first_token-returns-in-None-first_of : goal.first_token-returns-in-None-first_of
first_token-returns-in-None-first_of t c =
    by c.in-Choose.is (law.expr-Choose _ _)
    (no_choice c.in-Choose.choices (expr_read c.in-Choose.last) c.first_token-in-None-first_of.result (sym c.as_slice-in-Choose.ensures ∙ c.in-None-first_of.ensures)
    (rw c.get-in-None-first_of.ensures at c.first_token-in-None-first_of.ensures))

pub first_of-returns-in-len1-up : goal.first_of-returns-in-len1-up
first_of-returns-in-len1-up t c = first_choice c.args.choices.now c.choice-item.result c.first_token.result c.in-len1-up.len_at_least c.choice-item.is c.first_token.ensures
