use Rattle.std.proofs.Common.{ℕ, ◌≡◌, ◌+◌, ◌%◌, ◌^◌, true, sym, ap, ◌∙◌, arith}
use Rattle.std.specs.Prelude.{slice_index}
use Rattle.dpi_lib.specs.Library.{import_at, imports, is_alone, with_next, with_sum, with_cell, sum_of, cell_of}
use Rattle.dpi_lib.specs.LibraryLaws.{state_after_alone}
use Rattle.dpi_lib.proofs.Table.{answered_at, state_after_at, others_alone}
use Rattle.dpi_lib.proofs.host.LibHostHost.call.Goals as goal

pub answer_alone-requires : goal.answer_alone-requires
answer_alone-requires c = others_alone c.args.id (omega arith) (omega arith) (omega arith) (omega arith) (omega arith)

pub returns-in-7-clause-answer : goal.returns-in-7-clause-answer
unfolding import_at imports
returns-in-7-clause-answer c = c.advance.ensures.answer ∙ sym (answered_at c.args.id 7 c.in-7.is c.args.self.now (slice_index c.args.args.now 0) (slice_index c.args.args.now 1))

pub returns-in-7-clause-state : goal.returns-in-7-clause-state
unfolding import_at imports
returns-in-7-clause-state c = c.advance.ensures.state ∙ ap (with_next c.args.self.now) c.advance.ensures.answer ∙ sym (state_after_at c.args.id 7 c.in-7.is c.args.self.now (slice_index c.args.args.now 0) (slice_index c.args.args.now 1))

pub returns-in-8-clause-answer : goal.returns-in-8-clause-answer
unfolding import_at imports
returns-in-8-clause-answer c = c.put.ensures.answer ∙ sym (answered_at c.args.id 8 c.in-8.is c.args.self.now (slice_index c.args.args.now 0) (slice_index c.args.args.now 1))

pub returns-in-8-clause-state : goal.returns-in-8-clause-state
unfolding import_at imports
returns-in-8-clause-state c = c.put.ensures.state ∙ ap (λ (n : ℕ). with_sum c.args.self.now ((sum_of c.args.self.now + n) % 2 ^ 64)) c.argument-a.ensures ∙ sym (state_after_at c.args.id 8 c.in-8.is c.args.self.now (slice_index c.args.args.now 0) (slice_index c.args.args.now 1))

pub returns-in-9-clause-answer : goal.returns-in-9-clause-answer
unfolding import_at imports
returns-in-9-clause-answer c = c.sum.ensures ∙ sym (answered_at c.args.id 9 c.in-9.is c.args.self.now (slice_index c.args.args.now 0) (slice_index c.args.args.now 1))

pub returns-in-9-clause-state : goal.returns-in-9-clause-state
unfolding import_at imports
returns-in-9-clause-state c = sym (state_after_at c.args.id 9 c.in-9.is c.args.self.now (slice_index c.args.args.now 0) (slice_index c.args.args.now 1))

pub returns-in-10-clause-answer : goal.returns-in-10-clause-answer
unfolding import_at imports
returns-in-10-clause-answer c = c.peek.ensures ∙ ap (cell_of c.args.self.now) c.argument-a.ensures ∙ sym (answered_at c.args.id 10 c.in-10.is c.args.self.now (slice_index c.args.args.now 0) (slice_index c.args.args.now 1))

pub returns-in-10-clause-state : goal.returns-in-10-clause-state
unfolding import_at imports
returns-in-10-clause-state c = sym (state_after_at c.args.id 10 c.in-10.is c.args.self.now (slice_index c.args.args.now 0) (slice_index c.args.args.now 1))

pub returns-in-11-clause-answer : goal.returns-in-11-clause-answer
unfolding import_at imports
returns-in-11-clause-answer c = c.poke.ensures.answer ∙ ap (cell_of c.args.self.now) c.argument-a.ensures ∙ sym (answered_at c.args.id 11 c.in-11.is c.args.self.now (slice_index c.args.args.now 0) (slice_index c.args.args.now 1))

pub returns-in-11-clause-state : goal.returns-in-11-clause-state
unfolding import_at imports
returns-in-11-clause-state c = c.poke.ensures.state ∙ (λ i. with_cell c.args.self.now (c.argument-a.ensures i) (c.argument.ensures i)) ∙ sym (state_after_at c.args.id 11 c.in-11.is c.args.self.now (slice_index c.args.args.now 0) (slice_index c.args.args.now 1))

pub returns-in_default-clause-state : goal.returns-in_default-clause-state
returns-in_default-clause-state c =
    let told : is_alone (import_at c.args.id) ≡ true = others_alone c.args.id (omega arith) (omega arith) (omega arith) (omega arith) (omega arith) in
    sym (state_after_alone (import_at c.args.id) told c.args.self.now (slice_index c.args.args.now 0) (slice_index c.args.args.now 1))
