-- How the code finds the edges: the writer of each word, and the readers noted at each writer.
use Rattle.std.specs.Prelude.{◌≡◌, ◌<◌, ◌≤◌, ℕ, zero, suc, ◌-◌, ◌^◌, ◌==◌, nat_lt, min, Bool, true, not, ◌&&◌, ◌||◌, List, [], ◌∷◌, ◌++◌, map, fold, length, slice_index, slice_index_or, slice_set, sum_by, if◌then◌else◌}
use Rattle.std.specs.List.{list_any, All}
use Rattle.plan_graph.specs.declared.node.Edge.{Edge}
use Rattle.logic_graph.specs.declared.ranges.WordRange.{WordRange}
use Rattle.logic_graph.specs.declared.ranges.Touched.{Touched}
use Rattle.logic_graph.specs.declared.writers.TheConstants.{NOBODY}
use Rattle.logic_graph.specs.Reading.{has_word, meet_somewhere, edge_to}

-- ---- the writer of each word

abbrev pub has_word_of : ℕ → List WordRange → Bool
has_word_of w ranges = list_any (has_word w) ranges

-- the writer of a word, as marking one process after another leaves it
abbrev pub writer_from : ℕ → ℕ → List Touched → ℕ → ℕ
writer_from at so_far [] w = so_far
writer_from at so_far (p ∷ more) w = writer_from (suc at) (if has_word_of w p.writes then at else so_far) more w

-- no range goes past so many words
abbrev pub EndsWithin : ℕ → List WordRange → Type 0
EndsWithin words ranges = All (λ r. r.end ≤ words) ranges

abbrev pub AllEndWithin : ℕ → List Touched → Type 0
AllEndWithin words procs = All (λ p. EndsWithin words p.writes) procs

-- from each word on, up to the end of its run, the writer is the same
pub record IsRun (of_word : List ℕ) (w end : ℕ) : Type 0 where
  pub goes_on : w < end
  pub within : end ≤ length of_word
  pub same : (k : ℕ) → w ≤ k → k < end → slice_index of_word k ≡ slice_index of_word w

pub record RunsEnd (of_word run_end : List ℕ) : Type 0 where
  pub len : length run_end ≡ length of_word
  pub runs : (w : ℕ) → w < length of_word → IsRun of_word w (slice_index run_end w)

pub record WritersAre (procs : List Touched) (of_word run_end : List ℕ) : Type 0 where
  pub within : AllEndWithin (length of_word) procs
  pub writers : (w : ℕ) → w < length of_word → slice_index of_word w ≡ writer_from 0 NOBODY procs w
  pub runs : RunsEnd of_word run_end

-- a process is the writer of all words of these ranges
abbrev pub Keeps : List ℕ → ℕ → List WordRange → Type 0
Keeps of_word writer ranges = (w : ℕ) → has_word_of w ranges ≡ true → slice_index of_word w ≡ writer

abbrev pub AllKeep : List ℕ → List Touched → Type 0
AllKeep of_word procs = (i : ℕ) (d : Touched) → i < length procs → Keeps of_word i (slice_index_or procs i d).writes

-- ---- the readers of each writer

-- a reader stands last in a list
abbrev pub is_last : ℕ → List ℕ → Bool
is_last reader list = nat_lt 0 (length list) && (slice_index list (length list - 1) == reader)

-- a reader is noted at a writer, unless that is the reader itself or has it already; past the last process there is none
abbrev pub note_in : ℕ → List (List ℕ) → ℕ → List (List ℕ)
note_in reader readers writer =
    if (writer == reader) || is_last reader (slice_index_or readers writer []) then readers else slice_set readers writer (slice_index_or readers writer [] ++ reader ∷ [])

-- it is noted at the writer of each of so many words
abbrev pub note_span : List ℕ → ℕ → ℕ → ℕ → List (List ℕ) → List (List ℕ)
note_span of_word reader w zero readers = readers
note_span of_word reader w (suc many) readers = note_span of_word reader (suc w) many (note_in reader readers (slice_index of_word w))

abbrev pub note_range_in : List ℕ → ℕ → List (List ℕ) → WordRange → List (List ℕ)
note_range_in of_word reader readers range = note_span of_word reader range.first (min range.end (length of_word) - range.first) readers

abbrev pub note_all_in : List ℕ → ℕ → List (List ℕ) → List WordRange → List (List ℕ)
note_all_in of_word reader readers ranges = fold (note_range_in of_word reader) readers ranges

-- how many are noted, as far as a number of 64 bits tells it
abbrev pub Counted : ℕ → List (List ℕ) → Type 0
Counted count readers = count ≡ min (sum_by (λ list. length list) readers) (2 ^ 64 - 1)

-- the readers, of those from `at` on, of a process which writes these ranges
abbrev pub readers_from : ℕ → List WordRange → ℕ → List Touched → List ℕ
readers_from i writes at [] = []
readers_from i writes at (p ∷ more) = if not (at == i) && meet_somewhere writes p.reads then at ∷ readers_from i writes (suc at) more else readers_from i writes (suc at) more

-- the first processes are noted at those that they read from
pub record HasNoted (procs front : List Touched) (readers : List (List ℕ)) : Type 0 where
  pub len : length readers ≡ length procs
  pub lists : (i : ℕ) (d : Touched) → i < length procs → slice_index_or readers i [] ≡ readers_from i (slice_index_or procs i d).writes 0 front

-- ---- the edges, from the readers

abbrev pub listed : ℕ → List (List ℕ) → List Edge
listed at [] = []
listed at (list ∷ more) = map (edge_to at) list ++ listed (suc at) more
