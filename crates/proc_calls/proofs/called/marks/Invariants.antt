use Rattle.std.proofs.Common.{◌≡◌, ◌<◌, ◌==◌, ℕ, false, length, slice_index_or}
use Rattle.std.specs.List.{list_any}
use Rattle.proc_calls.proofs.called.marks.Given as goal

abbrev pub invariant-loop-import : goal.invariant-loop-import
invariant-loop-import l = (length l.marks.items ≡ l.import) × ((k : ℕ) → k < l.import → slice_index_or l.marks.items k false ≡ list_any (λ n. n == k) l.calls)
