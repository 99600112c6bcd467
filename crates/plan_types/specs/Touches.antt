-- What a node of a part may touch: the words with a bit that its process reads or writes, and the imports that are called.
use Rattle.std.specs.Prelude.{◌≡◌, ℕ, zero, suc, ◌+◌, ◌*◌, Bool, true, false, ◌&&◌, ◌||◌, not, List, slice_get, Option, Some, None}
use Rattle.std.specs.List.{list_all}
use Rattle.rtl_ir.specs.declared.design.Proc.{Proc}
use Rattle.rtl_ir.specs.declared.whole.Design.{Design}
use Rattle.rtl_pieces.specs.declared.layout.Word.{Word}
use Rattle.rtl_pieces.specs.Line.{Line, place_of}
use Rattle.rtl_pieces.specs.Bits.{line_in, reads, writes}
use Rattle.proc_calls.specs.Calls.{is_called}
use Rattle.plan_graph.specs.declared.node.Node.{Node}
use Rattle.plan_graph.specs.declared.node.Node.TheVariants as node
use Rattle.task_eval.specs.Codes.{Ops}
use Rattle.task_eval.specs.Course.{Course, finished, loading, storing, calling}
use Rattle.task_eval.specs.declared.op.Op.{Op}
use Rattle.task_eval.specs.declared.op.Op.TheVariants as op
use Rattle.plan_types.specs.Coded.{code_number}
use Rattle.plan_types.specs.Settle.{some_below}

-- the words that may be loaded and stored, and the imports that may be called
pub record Touch : Type 0 where
  pub loads : ℕ → Bool
  pub stores : ℕ → Bool
  pub calls : ℕ → Bool

-- ---- words by their bits

-- some bit of a word passes a test
abbrev pub some_bit : Line → (ℕ → Bool) → Word → Bool
some_bit line passes word = some_below (λ k. passes (place_of line word.holds + k)) word.len

-- a word that is no shadow, or one that is, with such a bit
abbrev pub plain_if : Line → (ℕ → Bool) → Option Word → Bool
plain_if line passes (Some word) = not word.shadow && some_bit line passes word
plain_if line passes None = false

abbrev pub shadow_if : Line → (ℕ → Bool) → Option Word → Bool
shadow_if line passes (Some word) = word.shadow && some_bit line passes word
shadow_if line passes None = false

-- ---- a node

module _ (design : Design) (words : List Word) where
  -- the words with a bit that process p writes, and with one that it reads or writes
  abbrev pub written : ℕ → ℕ → Bool
  written p w = plain_if (line_in design) (writes (line_in design) design.procs p) (slice_get words w)

  abbrev pub named : ℕ → ℕ → Bool
  named p w = plain_if (line_in design) (λ b. reads (line_in design) design.procs p b || writes (line_in design) design.procs p b) (slice_get words w)

  -- the shadows of what it writes
  abbrev pub shadowed : ℕ → ℕ → Bool
  shadowed p w = shadow_if (line_in design) (writes (line_in design) design.procs p) (slice_get words w)

  -- A combinational process stores what it writes, where a body stores the shadows (IEEE 1800-2017 10.4.2), which its commit copies. What
  -- is written in part is loaded before. A commit calls nothing.
  abbrev pub touch_of : Node → Touch
  touch_of (node.Comb p) = record { loads = named p; stores = written p; calls = is_called design.procs }
  touch_of (node.Body p) = record { loads = λ w. named p w || shadowed p w; stores = shadowed p; calls = is_called design.procs }
  touch_of (node.Commit p) = record { loads = shadowed p; stores = written p; calls = λ import. false }

-- ---- the ops of a code

-- all numbers below a bound pass a test
abbrev pub all_below : (ℕ → Bool) → ℕ → Bool
all_below passes zero = true
all_below passes (suc n) = passes n && all_below passes n

-- an op by an address may name each of the elements
abbrev pub op_keeps : Touch → Op → Bool
op_keeps t (op.Load word width) = t.loads word
op_keeps t (op.LoadAt e width) = all_below (λ k. t.loads (e.base + k * e.stride)) e.count
op_keeps t (op.Store word width) = t.stores word
op_keeps t (op.StoreAt e width) = all_below (λ k. t.stores (e.base + k * e.stride)) e.count
op_keeps t (op.Call import count width) = t.calls import
op_keeps t _ = true

abbrev pub code_keeps : Touch → Option Ops → Bool
code_keeps t (Some code) = list_all (op_keeps t) code.ops
code_keeps t None = true

-- the code of a node keeps to what the node may touch
abbrev pub keeps_to_its_own : Design → List Word → List Ops → Node → Bool
keeps_to_its_own design words codes n = code_keeps (touch_of design words n) (slice_get codes (code_number design.procs n))

-- ---- runs

-- a run loads, stores and calls only what it may touch, whatever it is given
abbrev pub Keeps : Touch → Course → Type 0
Keeps t finished = Unit {0}
Keeps t (loading word go) = (t.loads word ≡ true) × ((v : ℕ) → Keeps t (go v))
Keeps t (storing word value go) = (t.stores word ≡ true) × Keeps t go
Keeps t (calling import args go) = (t.calls import ≡ true) × ((v : ℕ) → Keeps t (go v))
