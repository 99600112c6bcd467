-- That a refusal of one stage is that of the whole.
use Rattle.std.proofs.Common.{◌≡◌, ◌≤◌, List, true, false, ◌||◌, inl, inr, ◌⊎◌, nat_lt, length}
use Rattle.std.proofs.lemmas.Bool.{or_cases, ltb-true, ltb-false}
use Rattle.vs_base.specs.declared.limits.Kind.TheVariants as kind
use Rattle.rtl_ir.specs.declared.whole.Design.{Design}
use Rattle.plan_graph.specs.declared.node.Part.TheVariants as part
use Rattle.model_build.specs.declared.import.ImportUse.{ImportUse}
use Rattle.model_build.specs.declared.fault.BuildFault.{BuildFault}
use Rattle.model_build.specs.declared.fault.BuildFault.TheVariants as fault
use Rattle.plan_types.specs.Drivers.{OneDriver}
use Rattle.model_build.specs.Drivers.{DriverRefusal}
use Rattle.model_build.specs.Imports.{ImportFault}
use Rattle.plan_types.specs.Settle.{combs_of, read_edges, settling_of}
use Rattle.model_build.specs.Settle.{FewNodes, ManyNodes, OrderFault, GraphRefusal, LoopRefusal, nodes_of}
use Rattle.model_build.specs.Answer.{IsAccepted, FewWords, IsFault, LayFault, WordsFault}
use Rattle.vs_base.specs.declared.limits.TheConstants.{NODES, EDGES}

pub drivers_refused : (design : Design) (uses : List ImportUse) (f : BuildFault) → DriverRefusal design f → IsFault design uses f
drivers_refused design uses (fault.NoMemory error) is = is
drivers_refused design uses (fault.MultipleDrivers name one two) is = is
drivers_refused design uses (fault.UnknownImport name) is = absurd is
drivers_refused design uses (fault.NotByArguments name) is = absurd is
drivers_refused design uses (fault.TooMany k) is = absurd is
drivers_refused design uses (fault.Loop places) is = absurd is

pub imports_refused : (design : Design) (uses : List ImportUse) (f : BuildFault) → OneDriver design → ImportFault design.imports uses f → IsFault design uses f
imports_refused design uses (fault.NoMemory error) one is = is
imports_refused design uses (fault.MultipleDrivers name first second) one is = absurd is
imports_refused design uses (fault.UnknownImport name) one is = (one, is)
imports_refused design uses (fault.NotByArguments name) one is = (one, is)
imports_refused design uses (fault.TooMany k) one is = absurd is
imports_refused design uses (fault.Loop places) one is = absurd is

pub lay_refused : (design : Design) (uses : List ImportUse) (f : BuildFault) → IsAccepted design uses → LayFault design f → IsFault design uses f
lay_refused design uses (fault.NoMemory error) accepted is = is
lay_refused design uses (fault.MultipleDrivers name first second) accepted is = absurd is
lay_refused design uses (fault.UnknownImport name) accepted is = absurd is
lay_refused design uses (fault.NotByArguments name) accepted is = absurd is
lay_refused design uses (fault.TooMany k) accepted is = (accepted, is)
lay_refused design uses (fault.Loop places) accepted is = (accepted, is.0, is.1, is.2, is.3)

pub words_refused : (design : Design) (f : BuildFault) → WordsFault design f → LayFault design f
words_refused design (fault.NoMemory error) is = is
words_refused design (fault.MultipleDrivers name first second) is = absurd is
words_refused design (fault.UnknownImport name) is = absurd is
words_refused design (fault.NotByArguments name) is = absurd is
words_refused design (fault.TooMany kind.Words) is = is
words_refused design (fault.TooMany kind.Tokens) is = absurd is
words_refused design (fault.TooMany kind.Instances) is = absurd is
words_refused design (fault.TooMany kind.Processes) is = absurd is
words_refused design (fault.TooMany kind.Terms) is = absurd is
words_refused design (fault.TooMany kind.Calls) is = absurd is
words_refused design (fault.TooMany kind.Nodes) is = absurd is
words_refused design (fault.TooMany kind.Edges) is = absurd is
words_refused design (fault.Loop places) is = absurd is

pub order_refused : (design : Design) (f : BuildFault) → FewWords design → OrderFault design f → LayFault design f
order_refused design (fault.NoMemory error) few is = is
order_refused design (fault.MultipleDrivers name first second) few is = absurd is
order_refused design (fault.UnknownImport name) few is = absurd is
order_refused design (fault.NotByArguments name) few is = absurd is
order_refused design (fault.TooMany kind.Words) few is = absurd is
order_refused design (fault.TooMany kind.Tokens) few is = absurd is
order_refused design (fault.TooMany kind.Instances) few is = absurd is
order_refused design (fault.TooMany kind.Processes) few is = absurd is
order_refused design (fault.TooMany kind.Terms) few is = absurd is
order_refused design (fault.TooMany kind.Calls) few is = absurd is
order_refused design (fault.TooMany kind.Nodes) few is = (few, is)
order_refused design (fault.TooMany kind.Edges) few is = (few, is.0, is.1)
order_refused design (fault.Loop places) few is = (few, is.0, is.1, is.2)

-- ---- the order

pub graph_refused : (design : Design) (f : BuildFault) → FewNodes design → GraphRefusal (read_edges design) f → OrderFault design f
graph_refused design (fault.NoMemory error) few is = is
graph_refused design (fault.MultipleDrivers name first second) few is = absurd is
graph_refused design (fault.UnknownImport name) few is = absurd is
graph_refused design (fault.NotByArguments name) few is = absurd is
graph_refused design (fault.TooMany kind.Words) few is = absurd is
graph_refused design (fault.TooMany kind.Tokens) few is = absurd is
graph_refused design (fault.TooMany kind.Instances) few is = absurd is
graph_refused design (fault.TooMany kind.Processes) few is = absurd is
graph_refused design (fault.TooMany kind.Terms) few is = absurd is
graph_refused design (fault.TooMany kind.Calls) few is = absurd is
graph_refused design (fault.TooMany kind.Nodes) few is = absurd is
graph_refused design (fault.TooMany kind.Edges) few is = (few, is)
graph_refused design (fault.Loop places) few is = absurd is

pub loop_refused : (design : Design) (f : BuildFault) → FewNodes design → length (read_edges design) ≤ EDGES → LoopRefusal design.procs (combs_of design.procs) (settling_of design) f → OrderFault design f
loop_refused design (fault.NoMemory error) few edges is = is
loop_refused design (fault.MultipleDrivers name first second) few edges is = absurd is
loop_refused design (fault.UnknownImport name) few edges is = absurd is
loop_refused design (fault.NotByArguments name) few edges is = absurd is
loop_refused design (fault.TooMany k) few edges is = absurd is
loop_refused design (fault.Loop places) few edges is = (few, edges, record { loop = is.0; stalls = is.1; told = is.2 })

-- the tests of both parts
pub many_nodes : (design : Design) → (nat_lt NODES (nodes_of design part.Settle) || nat_lt NODES (nodes_of design part.Clocked)) ≡ true → ManyNodes design
many_nodes design is = by_part (or_cases (nat_lt NODES (nodes_of design part.Settle)) (nat_lt NODES (nodes_of design part.Clocked)) is)
  where
    by_part : (nat_lt NODES (nodes_of design part.Settle) ≡ true) ⊎ (nat_lt NODES (nodes_of design part.Clocked) ≡ true) → ManyNodes design
    by_part (inl e) = inl (ltb-true NODES (nodes_of design part.Settle) e)
    by_part (inr e) = inr (ltb-true NODES (nodes_of design part.Clocked) e)

pub few_nodes : (design : Design) → nat_lt NODES (nodes_of design part.Settle) ≡ false → nat_lt NODES (nodes_of design part.Clocked) ≡ false → FewNodes design
few_nodes design one two = record { settle = ltb-false NODES (nodes_of design part.Settle) one; clocked = ltb-false NODES (nodes_of design part.Clocked) two }
