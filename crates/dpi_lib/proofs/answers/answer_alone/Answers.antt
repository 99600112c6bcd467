use Rattle.std.proofs.Common.{ℕ, ◌%◌, sym, ap, ◌∙◌, arith, min, max}
use Rattle.std.specs.Prelude.{count_ones, slice_index}
use Rattle.dpi_lib.specs.Library.{reversed, mixed, rotated, import_at, imports}
use Rattle.dpi_lib.proofs.Table.{answered_at, rest_answers}
use Rattle.dpi_lib.proofs.answers.answer_alone.Goals as goal

pub returns-in-0 : goal.returns-in-0
unfolding import_at imports
returns-in-0 c = λ s. c.popcount.ensures ∙ ap count_ones c.argument-a.ensures ∙ sym (answered_at c.args.id 0 c.in-0.is s (slice_index c.args.args.now 0) (slice_index c.args.args.now 1))

pub returns-in-1 : goal.returns-in-1
unfolding import_at imports
returns-in-1 c = λ s. c.parity.ensures ∙ ap (λ (a : ℕ). count_ones a % 2) c.argument-a.ensures ∙ sym (answered_at c.args.id 1 c.in-1.is s (slice_index c.args.args.now 0) (slice_index c.args.args.now 1))

pub returns-in-2 : goal.returns-in-2
unfolding import_at imports
returns-in-2 c = λ s. c.reverse.ensures ∙ ap reversed c.argument-a.ensures ∙ sym (answered_at c.args.id 2 c.in-2.is s (slice_index c.args.args.now 0) (slice_index c.args.args.now 1))

pub returns-in-3 : goal.returns-in-3
unfolding import_at imports
returns-in-3 c = λ s. c.mix.ensures ∙ (λ i. mixed (c.argument-a.ensures i) (c.argument-b.ensures i)) ∙ sym (answered_at c.args.id 3 c.in-3.is s (slice_index c.args.args.now 0) (slice_index c.args.args.now 1))

pub returns-in-4 : goal.returns-in-4
unfolding import_at imports
returns-in-4 c = λ s. c.max.ensures ∙ (λ i. max (c.argument-a.ensures i) (c.argument-b.ensures i)) ∙ sym (answered_at c.args.id 4 c.in-4.is s (slice_index c.args.args.now 0) (slice_index c.args.args.now 1))

pub returns-in-5 : goal.returns-in-5
unfolding import_at imports
returns-in-5 c = λ s. c.min.ensures ∙ (λ i. min (c.argument-a.ensures i) (c.argument-b.ensures i)) ∙ sym (answered_at c.args.id 5 c.in-5.is s (slice_index c.args.args.now 0) (slice_index c.args.args.now 1))

pub returns-in-6 : goal.returns-in-6
unfolding import_at imports
returns-in-6 c = λ s. c.rotl.ensures ∙ (λ i. rotated (c.argument-a.ensures i) (c.argument-b.ensures i)) ∙ sym (answered_at c.args.id 6 c.in-6.is s (slice_index c.args.args.now 0) (slice_index c.args.args.now 1))

pub returns-in_default : goal.returns-in_default
returns-in_default c = λ s. sym (rest_answers c.args.id (omega arith) c.requires s (slice_index c.args.args.now 0) (slice_index c.args.args.now 1))
