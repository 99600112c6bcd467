use Rattle.std.proofs.Common.{ℕ, ◌-◌, ◌++◌, List, ap, ◌∙◌, arith}
use Rattle.sim_session.specs.Lines.{hex_of}
use Rattle.sim_session.proofs.Steps.{hex_step}
use Rattle.sim_session.proofs.hex.put_digits.Goals as goal

pub digits-preserved : goal.digits-preserved
digits-preserved c =
    let j : ℕ = c.digits.left - 1 in
    record {
      written = ap (λ (l : List ℕ). l ++ hex_of j c.args.value) c.push_reserved.ensures.items
          ∙ hex_step c.digits.text.items c.digits.left j c.hex_digit.result c.args.value (omega arith) c.hex_digit.ensures ∙ c.digits.invariant.written;
      room = let len = c.push_reserved.ensures.len in let i = c.digits.invariant.room in omega arith;
      capacity = c.push_reserved.ensures.capacity ∙ c.digits.invariant.capacity;
    }
