-- Which bit, and which word of a memory, a number on the stack names.
use Rattle.std.specs.Prelude.{ℕ, ◌+◌, ◌*◌, if◌then◌else◌, nat_lt, ℤ, pos, negsuc, ◌-ℤ◌, Option, Some, None}
use Rattle.std.specs.Int.{saturate_to_bits}
use Rattle.vs_base.specs.Number.{Number, reading}
use Rattle.task_eval.specs.declared.index.Index.{Index}
use Rattle.task_eval.specs.declared.index.Elements.{Elements}

-- the place that a number names: its reading, less the lowest declared index, limited to 64 bits with the sign. What is limited
-- lies outside of every value and every memory
abbrev pub place_of : Index → Number → ℤ
place_of i n = saturate_to_bits 63 (reading i.signed n -ℤ i.low)

abbrev pub word_in : Elements → ℤ → Option ℕ
word_in e (pos k) = if nat_lt k e.count then Some (e.base + k * e.stride) else None
word_in e (negsuc k) = None

-- the word of the element that an address names, if there is such an element
abbrev pub word_at : Elements → Number → Option ℕ
word_at e n = word_in e (place_of e.address n)
