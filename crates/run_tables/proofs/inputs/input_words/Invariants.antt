use Rattle.std.proofs.Common.{◌≡◌, ◌+◌, ◌++◌, length, true}
use Rattle.std.specs.List.{list_all}
use Rattle.plan_types.specs.Machine.{input_vars, input_words_from, input_words}
use Rattle.run_tables.specs.Tables.{is_narrow}
use Rattle.run_tables.proofs.inputs.input_words.Given as goal

abbrev pub invariant-loop-rest : goal.invariant-loop-rest
invariant-loop-rest l = record {
  many : l.number + length l.rest ≡ length l.layout.words.items;
  same : l.out.items ++ input_words_from l.number (input_vars l.design.ports) l.rest ≡ input_words l.design.ports l.layout.words.items;
  narrow : list_all is_narrow l.out.items ≡ true;
}

abbrev pub decreases-loop-rest : goal.decreases-loop-rest
decreases-loop-rest l = length l.rest
