-- The import library: twelve imports, numbered from 0 in the order of the table `imports`.
-- All numbers are below 2 ^ 64.
use Rattle.std.specs.Prelude.{ℕ, zero, suc, ◌+◌, ◌-◌, ◌*◌, ◌/◌, ◌%◌, ◌^◌, min, max, Bool, true, false, List, [], ◌∷◌, drop, map, slice_index, slice_index_or, slice_set, Option, bit_xor, count_ones, codes, position}
use Rattle.std.specs.Int.{bit_at}
use Rattle.std.specs.Str.{bytes_eq}
use Rattle.dpi_host.specs.HostMachine.{Answer, After}

-- ---- the state: the number that vs_next gave last, the sum of what vs_put was given, and 16 cells

abbrev pub next_of : List ℕ → ℕ
next_of s = slice_index s 0

abbrev pub sum_of : List ℕ → ℕ
sum_of s = slice_index s 1

abbrev pub cells_of : List ℕ → List ℕ
cells_of s = drop 2 s

abbrev pub cell_of : List ℕ → ℕ → ℕ
cell_of s i = slice_index (cells_of s) (i % 16)

-- the state with another next, sum or cell
abbrev pub with_next : List ℕ → ℕ → List ℕ
with_next s next = next ∷ sum_of s ∷ cells_of s

abbrev pub with_sum : List ℕ → ℕ → List ℕ
with_sum s sum = next_of s ∷ sum ∷ cells_of s

abbrev pub with_cell : List ℕ → ℕ → ℕ → List ℕ
with_cell s i v = next_of s ∷ sum_of s ∷ slice_set (cells_of s) (i % 16) v

-- ---- the answers by arguments alone

-- the number of k bits whose bit i is f i
unfoldable pub from_bits : ℕ → (ℕ → ℕ) → ℕ
from_bits zero f = 0
from_bits (suc k) f = from_bits k f + f k * 2 ^ k

-- bit i is bit 31 - i of a, for i below 32
abbrev pub reversed : ℕ → ℕ
reversed a = from_bits 32 (λ i. bit_at a (31 - i))

-- m xor (m >> 32), where m = a * 11400714819323198485 + b modulo 2 ^ 64
abbrev pub mixed : ℕ → ℕ → ℕ
mixed a b = let m : ℕ = (a * 11400714819323198485 + b) % 2 ^ 64 in bit_xor m (m / 2 ^ 32)

-- the low 32 bits of a, moved up by n modulo 32; what leaves them comes in below
abbrev pub rotated : ℕ → ℕ → ℕ
rotated a n = let moved : ℕ = a % 2 ^ 32 * 2 ^ (n % 32) in moved % 2 ^ 32 + moved / 2 ^ 32

-- ---- the imports

-- what an import does with its first two arguments: it answers by them alone, or it answers by the state too and leaves a state
pub data Import : Type 0 where
  alone : (ℕ → ℕ → ℕ) → Import
  stateful : (List ℕ → ℕ → ℕ → ℕ) → (List ℕ → ℕ → ℕ → List ℕ) → Import

-- whether it answers by its arguments alone
abbrev pub is_alone : Import → Bool
is_alone (alone f) = true
is_alone (stateful f g) = false

-- its answer in a state to two arguments
abbrev pub answered : Import → List ℕ → ℕ → ℕ → ℕ
answered (alone f) s a b = f a b
answered (stateful f g) s a b = f s a b

-- the state that it leaves
abbrev pub state_after : Import → List ℕ → ℕ → ℕ → List ℕ
state_after (alone f) s a b = s
state_after (stateful f g) s a b = g s a b

-- the imports with their names, in the order of their numbers
unfoldable pub imports : List (List ℕ × Import)
imports =
    (codes "vs_popcount", alone (λ a b. count_ones a)) ∷
    (codes "vs_parity", alone (λ a b. count_ones a % 2)) ∷
    (codes "vs_reverse", alone (λ a b. reversed a)) ∷
    (codes "vs_mix", alone mixed) ∷
    (codes "vs_max", alone max) ∷
    (codes "vs_min", alone min) ∷
    (codes "vs_rotl", alone rotated) ∷
    (codes "vs_next", stateful (λ s a b. (next_of s + 1) % 2 ^ 64) (λ s a b. with_next s ((next_of s + 1) % 2 ^ 64))) ∷
    (codes "vs_put", stateful (λ s a b. 0) (λ s a b. with_sum s ((sum_of s + a) % 2 ^ 64))) ∷
    (codes "vs_sum", stateful (λ s a b. sum_of s) (λ s a b. s)) ∷
    (codes "vs_peek", stateful (λ s i b. cell_of s i) (λ s i b. s)) ∷
    (codes "vs_poke", stateful (λ s i v. cell_of s i) with_cell) ∷
    []

-- the import of a number; at 12 and above one that answers 0
unfoldable pub import_at : ℕ → Import
import_at id = slice_index_or (map (λ row. row.1) imports) id (alone (λ a b. 0))

-- ---- the library as a host, whose fixed part is empty

-- the number of a name: its place in the table
unfoldable pub library_id : List ℕ → Option ℕ
library_id name = position (λ known. bytes_eq known name) (map (λ row. row.0) imports)

abbrev pub library_by_args : ℕ → Bool
library_by_args id = is_alone (import_at id)

-- a missing argument is 0, and a further one is ignored
abbrev pub library_answer : Answer
library_answer fixed s id args = answered (import_at id) s (slice_index args 0) (slice_index args 1)

abbrev pub library_after : After
library_after fixed s id args = state_after (import_at id) s (slice_index args 0) (slice_index args 1)
