use Rattle.std.proofs.Common.{ℕ, ◌+◌, not, Option, ap, ◌∙◌}
use Rattle.std.specs.Prelude.{nat_eq}
use Rattle.std.specs.Option.{option_eq}
use Rattle.rtl_pieces.specs.Words.{noted}
use Rattle.rtl_pieces.proofs.Cutting.{same_next, other_next}
use Rattle.rtl_pieces.proofs.pieces.same_below_next.Goals as goal

pub returns-then-ne-clause-same : goal.returns-then-ne-clause-same
returns-then-ne-clause-same c =
    let writer = noted c.args.writers.now in
    let first = ap (λ (x : Option ℕ). not (option_eq nat_eq x c.writer_at-2.result)) c.writer_at.ensures in
    let second = ap (λ (y : Option ℕ). not (option_eq nat_eq (writer (c.args.first + c.from.result + 1)) y)) c.writer_at-2.ensures in
    let third = ap (λ (n : ℕ). not (option_eq nat_eq (writer (c.args.first + n + 1)) (writer (c.args.first + n)))) c.from.ensures in
    other_next writer c.args.first c.args.bit (c.if-ne.ensures ∙ first ∙ second ∙ third)

pub returns-clause-same : goal.returns-clause-same
returns-clause-same c =
    let writer = noted c.args.writers.now in
    let first = ap (λ (x : Option ℕ). not (option_eq nat_eq x c.writer_at-2.result)) c.writer_at.ensures in
    let second = ap (λ (y : Option ℕ). not (option_eq nat_eq (writer (c.args.first + c.from.result + 1)) y)) c.writer_at-2.ensures in
    let third = ap (λ (n : ℕ). not (option_eq nat_eq (writer (c.args.first + n + 1)) (writer (c.args.first + n)))) c.from.ensures in
    same_next writer c.args.first c.args.bit c.args.same c.requires.same (c.if-ne.ensures ∙ first ∙ second ∙ third)
