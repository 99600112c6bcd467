use Rattle.std.proofs.Common.{◌≡◌, length, sym, inl}
use Rattle.std.proofs.lemmas.Result.{IfOk-weaker, IfErr-weaker}
use Rattle.parse_expr.specs.declared.fault.ParseFault.TheVariants as fault
use Rattle.parse_expr.specs.Input.{Takes, TakesThe, IsAnother, number}
use Rattle.parse_expr.proofs.Lexemes.{asked}
use Rattle.parse_expr.proofs.source.Source.expect.Goals as goal

pub returns-clause-token : goal.returns-clause-token
returns-clause-token c =
    IfOk-weaker c.take.result (λ t. Takes c.args.self.now c.args.at.now c.take.new.at t) (λ t. TakesThe c.args.self.now c.args.symbol c.args.at.now c.take.new.at t)
    (λ t h. asked c.args.self.now c.args.symbol c.args.at.now c.take.new.at t (sym c.if-not-sees.ensures) h) c.take.ensures.token

pub returns-clause-fault : goal.returns-clause-fault
returns-clause-fault c =
    IfErr-weaker c.take.result (λ f. (f ≡ fault.Syntax (number c.args.at.now)) × (c.take.new.at ≡ c.args.at.now) × (c.args.at.now ≡ length c.args.self.now.tokens))
    (λ f. (f ≡ fault.Syntax (number c.args.at.now)) × (c.take.new.at ≡ c.args.at.now) × IsAnother c.args.self.now c.args.symbol c.args.at.now) (λ f h. (h.0, h.1, inl h.2)) c.take.ensures.fault
