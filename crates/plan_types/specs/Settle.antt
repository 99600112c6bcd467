-- The order of settling of a design, by the bits that its processes read and write.
use Rattle.std.specs.Prelude.{ℕ, zero, suc, ◌==◌, Bool, true, false, ◌&&◌, ◌||◌, not, if◌then◌else◌, List, [], ◌∷◌, ◌++◌, map, length}
use Rattle.rtl_ir.specs.declared.design.Proc.{Proc}
use Rattle.rtl_ir.specs.declared.whole.Design.{Design}
use Rattle.rtl_pieces.specs.Line.{Line}
use Rattle.rtl_pieces.specs.Bits.{line_in, reads, writes}
use Rattle.plan_graph.specs.declared.node.Edge.{Edge}
use Rattle.plan_graph.specs.declared.node.Node.{Node}
use Rattle.plan_graph.specs.declared.node.Part.{Part}
use Rattle.order_levels.specs.Serial.{comb_procs, serial_nodes}
use Rattle.order_levels.specs.Settling.{Settling, InOrder, Stalls, settling}
use Rattle.logic_graph.specs.Reading.{edge_to}
use Rattle.plan_types.specs.Coded.{is_clocked}

-- of each process whether it is clocked
abbrev pub clocked_of : List Proc → List Bool
clocked_of procs = map is_clocked procs

-- the numbers of the combinational processes
abbrev pub combs_of : List Proc → List ℕ
combs_of procs = comb_procs (clocked_of procs)

-- ---- which process feeds which: it writes a bit that the other reads

-- some number below a bound passes a test
abbrev pub some_below : (ℕ → Bool) → ℕ → Bool
some_below passes zero = false
some_below passes (suc n) = passes n || some_below passes n

abbrev pub feeds : Line → List Proc → ℕ → ℕ → Bool
feeds line procs p q = some_below (λ b. writes line procs p b && reads line procs q b) line.bits

-- the edges from process p, which is number i, to each other one that it feeds, of those from a number on
abbrev pub edges_out : (ℕ → ℕ → Bool) → ℕ → ℕ → ℕ → List ℕ → List Edge
edges_out feeds i p at [] = []
edges_out feeds i p at (q ∷ more) = if not (at == i) && feeds p q then edge_to i at ∷ edges_out feeds i p (suc at) more else edges_out feeds i p (suc at) more

abbrev pub edges_from : (ℕ → ℕ → Bool) → ℕ → List ℕ → List ℕ → List Edge
edges_from feeds at [] procs = []
edges_from feeds at (p ∷ more) procs = edges_out feeds at p 0 procs ++ edges_from feeds (suc at) more procs

-- the edges between the combinational processes of a design, numbered among themselves
unfoldable pub read_edges : Design → List Edge
read_edges design = edges_from (feeds (line_in design) design.procs) 0 (combs_of design.procs) (combs_of design.procs)

-- ---- the order

abbrev pub settling_of : Design → Settling
settling_of design = settling (length (combs_of design.procs)) (read_edges design)

abbrev pub is_in_order : Settling → Bool
is_in_order (InOrder order) = true
is_in_order (Stalls loop) = false

-- no process waits for another for ever
abbrev pub settles : Design → Bool
settles design = is_in_order (settling_of design)

abbrev pub order_of : Settling → List ℕ
order_of (InOrder order) = order
order_of (Stalls loop) = []

-- the nodes of a part in serial order
abbrev pub nodes_in_order : Design → Part → List Node
nodes_in_order design part = serial_nodes (clocked_of design.procs) (order_of (settling_of design)) part
