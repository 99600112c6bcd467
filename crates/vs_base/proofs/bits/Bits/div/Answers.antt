use Rattle.std.proofs.Common.{ℕ, ◌≡◌, ◌<◌, ◌/◌, Bool, cond, not, pos, ap, ◌∙◌, arith}
use Rattle.std.specs.Prelude.{int_lt, unsigned_abs}
use Rattle.std.proofs.Math.Bool.{beq}
use Rattle.vs_base.specs.Number.{Number, kept, reading}
use Rattle.vs_base.specs.Operators.{negated}
use Rattle.vs_base.proofs.OperatorLemmas.{divided_is}
use Rattle.vs_base.proofs.bits.Bits.div.Goals as goal

pub returns : goal.returns
returns c =
    let by : c.magnitude-divisor.result ≡ unsigned_abs (reading c.args.signed c.args.right) = c.magnitude-divisor.ensures in
    let some : 0 < unsigned_abs (reading c.args.signed c.args.right) = (let h = c.if-divisor-eq0.false in omega arith) in
    let q : c.new-quotient.result ≡ kept c.args.self.width (unsigned_abs (reading c.args.signed c.args.self) / unsigned_abs (reading c.args.signed c.args.right)) =
    c.new-quotient.ensures ∙ ap (λ (n : Number). kept n.width (c.magnitude.result / c.magnitude-divisor.result)) c.self-2.view_is
    ∙ ap (λ (n : ℕ). kept c.args.self.width (n / c.magnitude-divisor.result)) c.magnitude.ensures
    ∙ ap (λ (n : ℕ). kept c.args.self.width (unsigned_abs (reading c.args.signed c.args.self) / n)) by in
    c.with_sign.ensures
    ∙ ap (λ (n : Number). cond (not (beq c.is_negative.result c.is_negative-2.result)) (negated n) n) q
    ∙ ap (λ (s : Bool). let n : Number = kept c.args.self.width (unsigned_abs (reading c.args.signed c.args.self) / unsigned_abs (reading c.args.signed c.args.right)) in cond (not (beq s c.is_negative-2.result)) (negated n) n) c.is_negative.ensures
    ∙ ap (λ (s : Bool). let n : Number = kept c.args.self.width (unsigned_abs (reading c.args.signed c.args.self) / unsigned_abs (reading c.args.signed c.args.right)) in cond (not (beq (int_lt (reading c.args.signed c.args.self) (pos 0)) s)) (negated n) n) c.is_negative-2.ensures
    ∙ divided_is c.args.signed c.args.self c.args.right some
