use Rattle.std.proofs.Common.{ℕ, ap, ◌∙◌}
use Rattle.std.specs.Int.{reverse_bits_onto}
use Rattle.dpi_lib.proofs.Reversing.{reversed_is}
use Rattle.dpi_lib.proofs.answers.reverse.Goals as goal

pub returns : goal.returns
returns c = c.from.ensures ∙ c.reverse_bits.ensures ∙ ap (λ (n : ℕ). reverse_bits_onto 32 n 0) c.low.ensures ∙ reversed_is c.args.a
