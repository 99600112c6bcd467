use Rattle.std.proofs.Common.{ℕ, ◌≡◌, ◌<◌, ◌%◌, Bool, cond, ap, ◌∙◌, arith}
use Rattle.std.specs.Prelude.{unsigned_abs}
use Rattle.vs_base.specs.Number.{Number, kept, reading}
use Rattle.vs_base.specs.Operators.{negated}
use Rattle.vs_base.proofs.OperatorLemmas.{remaining_is}
use Rattle.vs_base.proofs.bits.Bits.rem.Goals as goal

pub returns : goal.returns
returns c =
    let by : c.magnitude-divisor.result ≡ unsigned_abs (reading c.args.signed c.args.right) = c.magnitude-divisor.ensures in
    let some : 0 < unsigned_abs (reading c.args.signed c.args.right) = (let h = c.if-divisor-eq0.false in omega arith) in
    let r : c.new-remainder.result ≡ kept c.args.self.width (unsigned_abs (reading c.args.signed c.args.self) % unsigned_abs (reading c.args.signed c.args.right)) =
    c.new-remainder.ensures ∙ ap (λ (n : Number). kept n.width (c.magnitude.result % c.magnitude-divisor.result)) c.self-2.view_is
    ∙ ap (λ (n : ℕ). kept c.args.self.width (n % c.magnitude-divisor.result)) c.magnitude.ensures
    ∙ ap (λ (n : ℕ). kept c.args.self.width (unsigned_abs (reading c.args.signed c.args.self) % n)) by in
    c.with_sign.ensures
    ∙ ap (λ (n : Number). cond c.is_negative.result (negated n) n) r
    ∙ ap (λ (s : Bool). let n : Number = kept c.args.self.width (unsigned_abs (reading c.args.signed c.args.self) % unsigned_abs (reading c.args.signed c.args.right)) in cond s (negated n) n) c.is_negative.ensures
    ∙ remaining_is c.args.signed c.args.self c.args.right some
