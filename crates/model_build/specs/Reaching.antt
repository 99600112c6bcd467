-- What a node may touch, told by the ranges of bits that its process reads and writes.
use Rattle.std.specs.Prelude.{◌≡◌, ◌==◌, ℕ, ◌+◌, ◌-◌, ◌*◌, ◌^◌, min, max, nat_lt, nat_le, Bool, true, false, ◌&&◌, ◌||◌, not, List, slice_get, slice_index_or, Option, Some, None}
use Rattle.std.specs.List.{list_all, list_any}
use Rattle.rtl_pieces.specs.declared.layout.Word.{Word}
use Rattle.rtl_pieces.specs.declared.range.BitRange.{BitRange}
use Rattle.rtl_pieces.specs.Line.{Line, place_of}
use Rattle.plan_graph.specs.declared.node.Node.{Node}
use Rattle.plan_graph.specs.declared.node.Node.TheVariants as node
use Rattle.task_eval.specs.Codes.{Ops}
use Rattle.task_eval.specs.declared.index.Elements.{Elements}
use Rattle.task_eval.specs.declared.op.Op.{Op}
use Rattle.task_eval.specs.declared.op.Op.TheVariants as op
use Rattle.plan_types.specs.Touches.{Touch, all_below, op_keeps}

-- the process of a node
abbrev pub proc_of : Node → ℕ
proc_of (node.Comb p) = p
proc_of (node.Body p) = p
proc_of (node.Commit p) = p

-- some of the bits from one place on and before another are in a range
abbrev pub overlaps : ℕ → ℕ → BitRange → Bool
overlaps from to r = nat_lt (max r.from from) (min r.to to)

abbrev pub reached : ℕ → ℕ → List BitRange → Bool
reached from to ranges = list_any (overlaps from to) ranges

-- two places are in a range, the first one below it or equal
abbrev pub covers : ℕ → ℕ → BitRange → Bool
covers low high r = nat_le r.from low && nat_lt high r.to

-- the bits of a word, whose places are below 2 ^ 128
abbrev pub word_reached : Line → List BitRange → Word → Bool
word_reached line ranges word = reached (place_of line word.holds) (min (place_of line word.holds + word.len) (2 ^ 128 - 1)) ranges

abbrev pub plain_reached : Line → List BitRange → Option Word → Bool
plain_reached line ranges (Some word) = not word.shadow && word_reached line ranges word
plain_reached line ranges None = false

abbrev pub shadow_reached : Line → List BitRange → Option Word → Bool
shadow_reached line ranges (Some word) = word.shadow && word_reached line ranges word
shadow_reached line ranges None = false

-- all words from one to another have their lowest bits in one range, where both are no shadows
abbrev pub spans : Line → List BitRange → Option Word → Option Word → Bool
spans line ranges (Some first) (Some last) = not first.shadow && (not last.shadow && list_any (covers (place_of line first.holds) (place_of line last.holds)) ranges)
spans line ranges _ _ = false

-- the words of some elements, whatever the address, are those of listed ones
abbrev pub is_same : Elements → Elements → Bool
is_same e f = (f.base == e.base && f.stride == e.stride) && f.count == e.count

abbrev pub is_listed : List Elements → Elements → Bool
is_listed listed e = list_any (is_same e) listed

abbrev pub called_by : List Bool → ℕ → Bool
called_by called import = slice_index_or called import false

-- the words of a design, its line of bits, which imports are called, and what a process reads and writes
module _ (words : List Word) (line : Line) (called : List Bool) (read written : List BitRange) where
  abbrev pub named_by : ℕ → Bool
  named_by w = plain_reached line read (slice_get words w) || plain_reached line written (slice_get words w)

  abbrev pub written_by : ℕ → Bool
  written_by w = plain_reached line written (slice_get words w)

  abbrev pub shadowed_by : ℕ → Bool
  shadowed_by w = shadow_reached line written (slice_get words w)

  -- those of elements, which do not begin with word 0
  abbrev pub elements_by : Elements → Bool
  elements_by e =
      nat_lt 0 e.base
      && (spans line read (slice_get words e.base) (slice_get words (e.base + (e.count - 1) * e.stride)) || spans line written (slice_get words e.base) (slice_get words (e.base + (e.count - 1) * e.stride)))

  abbrev pub touch_by : Node → Touch
  touch_by (node.Comb p) = record { loads = named_by; stores = written_by; calls = called_by called }
  touch_by (node.Body p) = record { loads = λ w. named_by w || shadowed_by w; stores = shadowed_by; calls = called_by called }
  touch_by (node.Commit p) = record { loads = shadowed_by; stores = written_by; calls = λ import. false }

  -- elements that all are named are found without looking at each
  abbrev pub loads_all_by : Node → Elements → Bool
  loads_all_by (node.Comb p) e = elements_by e || all_below (λ k. named_by (e.base + k * e.stride)) e.count
  loads_all_by (node.Body p) e = elements_by e || all_below (λ k. named_by (e.base + k * e.stride) || shadowed_by (e.base + k * e.stride)) e.count
  loads_all_by (node.Commit p) e = all_below (λ k. shadowed_by (e.base + k * e.stride)) e.count

  abbrev pub stores_all_by : Node → Elements → Bool
  stores_all_by n e = all_below (λ k. (touch_by n).stores (e.base + k * e.stride)) e.count

  -- the elements of a code are tested once each, and an op by an address has to name listed ones
  abbrev pub op_by : Node → List Elements → List Elements → Op → Bool
  op_by n loaded stored (op.LoadAt e width) = is_listed loaded e
  op_by n loaded stored (op.StoreAt e width) = is_listed stored e
  op_by n loaded stored o = op_keeps (touch_by n) o

  abbrev pub ops_by : Node → List Elements → List Elements → List Op → Bool
  ops_by n loaded stored ops = (list_all (loads_all_by n) loaded && list_all (stores_all_by n) stored) && list_all (op_by n loaded stored) ops

  -- for some lists of elements
  abbrev pub OpsBy : Node → List Op → Type 0
  OpsBy n ops = (loaded : List Elements) × (stored : List Elements) × (ops_by n loaded stored ops ≡ true)

  abbrev pub CodeBy : Node → Option Ops → Type 0
  CodeBy n (Some code) = OpsBy n code.ops
  CodeBy n None = Unit {0}
