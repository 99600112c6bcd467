use Rattle.std.proofs.Common.{ℕ, ◌%◌, ap, ◌∙◌}
use Rattle.std.specs.Int.{rotate_left, w32}
use Rattle.dpi_lib.proofs.Rotating.{rotated_is}
use Rattle.dpi_lib.proofs.answers.rotl.Goals as goal

pub returns : goal.returns
returns c = c.from.ensures ∙ c.rotate_left.ensures ∙ ap (λ (x : ℕ). rotate_left w32 x (c.args.n % 32)) c.low.ensures ∙ rotated_is c.args.a c.args.n
