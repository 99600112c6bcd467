-- That tables are those of a model.
use Rattle.std.specs.Prelude.{◌≡◌, ◌<◌, ℕ, length, map, slice_index, true}
use Rattle.std.specs.List.{list_all}
use Rattle.plan_types.specs.Coded.{code_number}
use Rattle.plan_types.specs.Machine.{input_words, event_word, result_widths}
use Rattle.plan_types.specs.declared.built.Built.{Built}
use Rattle.run_tables.specs.Tables.{is_narrow}
use Rattle.plain_runner.specs.declared.tables.Tables.{Tables}

pub record AreTables (b : Built) (t : Tables) : Type 0 where
  pub inputs : t.inputs.items ≡ input_words b.design.ports b.layout.words.items
  pub narrow : list_all is_narrow t.inputs.items ≡ true
  pub events : (v : ℕ) → v < length b.design.vars → slice_index t.events.items v ≡ event_word b.layout.words.items v
  pub widths : t.widths.items ≡ result_widths b.design.imports
  pub settle : t.settle.items ≡ map (code_number b.design.procs) b.settle.nodes
  pub clocked : t.clocked.items ≡ map (code_number b.design.procs) b.clocked.nodes
