use Rattle.std.proofs.Common.{◌≡◌, ◌<◌, ◌≤◌, ℕ, length, drop, slice_index}
use Rattle.plan_types.specs.Machine.{event_word_from}
use Rattle.run_tables.proofs.events.event_words.Given as goal

abbrev pub invariant-loop-left : goal.invariant-loop-left
invariant-loop-left l = record {
  within : l.left ≤ length l.layout.words.items;
  many : length l.table.items ≡ length l.design.vars;
  each : (v : ℕ) → v < length l.design.vars → slice_index l.table.items v ≡ event_word_from l.left (drop l.left l.layout.words.items) v;
}

abbrev pub decreases-loop-left : goal.decreases-loop-left
decreases-loop-left l = l.left
