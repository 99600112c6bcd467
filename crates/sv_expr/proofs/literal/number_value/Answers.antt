use Rattle.std.proofs.Common.{ℕ, ap, ◌∙◌, arith}
use Rattle.vs_base.specs.Number.{Number, kept}
use Rattle.vs_base.specs.NumberLaws.{kept-kept}
use Rattle.sv_lex.specs.Number.{value}
use Rattle.vs_base.specs.Types.{in_context}
use Rattle.sv_expr.proofs.literal.number_value.Goals as goal

pub returns : goal.returns
returns c =
    let same = kept-kept 128 c.args.width (value c.args.digits.base 0 c.args.digits.text.now) (omega arith) in
    c.in_context.ensures ∙ ap (λ (n : Number). in_context n c.args.context) (c.new.ensures ∙ ap (λ (k : ℕ). kept c.args.width k) c.number_of.ensures ∙ same)
