-- Small designs, and what the definitions say of them.
use Rattle.std.proofs.Common.{◌≡◌, ℕ, zero, suc, ◌<◌, Bool, true, false, ◌&&◌, List, [], ◌∷◌, ◌∙◌, map, length, Option, Some, None, negsuc, refl, sym, ap, arith, lit≤, if◌then◌else◌}
use Rattle.std.specs.Prelude.{codes, slice_get, slice_index_or, nat_lt, ◌==◌}
use Rattle.std.specs.Str.{bytes_eq}
use Rattle.std.specs.Fmt.{digits}
use Rattle.std.specs.List.{list_all}
use Rattle.std.proofs.lemmas.Bool.{false≢true, and_parts}
use Rattle.vs_base.specs.declared.origin.Origin.{Origin}
use Rattle.rtl_ir.specs.declared.design.Var.{Var}
use Rattle.rtl_ir.specs.declared.design.Mem.{Mem}
use Rattle.rtl_ir.specs.declared.design.Proc.{Proc}
use Rattle.rtl_ir.specs.declared.design.ProcKind.{ProcKind}
use Rattle.rtl_ir.specs.declared.design.ProcKind.TheVariants.{Comb, Clocked}
use Rattle.rtl_ir.specs.declared.design.Import.{Import}
use Rattle.rtl_ir.specs.declared.expr.Target.{Target, roll-Target, out-roll-Target}
use Rattle.rtl_ir.specs.declared.expr.Select.{roll-Select, out-roll-Select}
use Rattle.rtl_ir.specs.declared.expr.ExprNode.TheVariants as node
use Rattle.rtl_ir.specs.declared.stmt.Stmt.TheVariants as stmt
use Rattle.rtl_ir.specs.declared.whole.Design.{Design}
use Rattle.rtl_ir.specs.WithinDesign.{counts_of, proc_fits}
use Rattle.rtl_ir.specs.WithinLaws as fit_laws
use Rattle.rtl_ir.specs.WithinStmtLaws as fit_stmt_laws
use Rattle.rtl_pieces.specs.declared.range.BitRange.{BitRange}
use Rattle.rtl_pieces.specs.declared.layout.Word.{Word}
use Rattle.rtl_pieces.specs.Line.{Line, line_of, has}
use Rattle.rtl_pieces.specs.Bits.{named_left, writes}
use Rattle.rtl_pieces.specs.WritesLaws as write_laws
use Rattle.rtl_pieces.specs.ReadsLaws as read_laws
use Rattle.dpi_host.specs.declared.mode.Mode.{Mode}
use Rattle.dpi_host.specs.declared.mode.Mode.TheVariants as mode
use Rattle.plan_graph.specs.declared.node.Node.{Node}
use Rattle.plan_graph.specs.declared.node.Node.TheVariants as node_of
use Rattle.plan_graph.specs.declared.node.Part.TheVariants as part
use Rattle.task_eval.specs.declared.op.Op.{Op}
use Rattle.task_eval.specs.declared.op.Op.TheVariants as op
use Rattle.task_eval.specs.Codes.{Ops}
use Rattle.proc_cost.specs.CostLaws as cost_laws
use Rattle.order_levels.specs.Settling.{InOrder, settling}
use Rattle.logic_graph.specs.Reading.{edge_to}
use Rattle.plan_types.specs.declared.plan.ValidPlan.{ValidPlan}
use Rattle.plan_types.specs.OneTask.{groups_of, first_tasks, lists_of, numbers_of}
use Rattle.model_build.specs.declared.import.ImportUse.{ImportUse}
use Rattle.model_build.specs.Names.{bit_name}
use Rattle.plan_types.specs.Drivers.{OneDriver}
use Rattle.model_build.specs.Drivers.{TwoDrivers}
use Rattle.model_build.specs.Imports.{uses_from, ids_of, AllAnswer, IsUnknown, IsUnsafe}
use Rattle.plan_types.specs.Cuts.{words_of}
use Rattle.plan_types.specs.Settle.{read_edges, settling_of}
use Rattle.model_build.specs.Settle.{nodes_of, IsLoop}
use Rattle.model_build.specs.Touching.{is_in}
use Rattle.model_build.specs.Costs.{commit_cost, node_cost}
use Rattle.model_build.specs.Plans.{IsPlan}

-- ---- names of bits: of `logic [4:3] w` and `logic [3:0] m [-1:2]` in top

abbrev two_bits : List ℕ → ℕ → Var
two_bits name lsb = record { path = codes "top"; name = name; width = 2; lsb = lsb; signed = false; init = record { width = 2; value = 0 }; scope = 0; some = lit≤ tt; most = lit≤ tt; init_width = refl }

abbrev v : Var
v = two_bits (codes "v") 0

abbrev w : Var
w = two_bits (codes "w") 3

abbrev vars : List Var
vars = v ∷ w ∷ []

abbrev m : Mem
m = record { path = codes "top.m"; width = 4; lsb = 0; signed = false; low = negsuc 0; count = 4; scope = 0; some = lit≤ tt; most = lit≤ tt; elements = lit≤ tt; addresses = omega arith }

-- the lowest bit goes by its declared index
declared_index : bit_name vars [] (record { mem = false; item = 1; element = 0; bit = 0 }) ≡ codes "top.w[3]"
unfolding digits
declared_index = refl

-- the first element goes by its declared address, and a memory's path has its name already
declared_address : bit_name vars (m ∷ []) (record { mem = true; item = 0; element = 0; bit = 2 }) ≡ codes "top.m[-1][2]"
unfolding digits
declared_address = refl

-- ---- imports: the host knows `sum`, as number 7, and `next`, as number 8, of which `sum` alone goes by its arguments

abbrev id_of : List ℕ → Option ℕ
id_of name = if bytes_eq name (codes "sum") then Some 7 else (if bytes_eq name (codes "next") then Some 8 else None)

abbrev by_args : ℕ → Bool
by_args id = id == 7

abbrev import : List ℕ → Bool → Import
import name pure = record { name = name; declared_pure = pure; args = []; result = None; at = record { file = 0; line = 1; col = 1 }; few = lit≤ tt; arg_types = refl; result_type = refl }

abbrev imports : List Import
imports = import (codes "sum") true ∷ import (codes "next") false ∷ import (codes "gone") true ∷ []

-- where these are called and the others are not
abbrev uses : Mode → List Bool → List ImportUse
uses mode called = uses_from id_of by_args mode (λ k. slice_index_or called k false) 0 imports

what_the_host_tells : uses mode.Pure (true ∷ false ∷ true ∷ [])
    ≡ record { called = true; deemed = true; id = Some 7; by_args = true }
    ∷ record { called = false; deemed = false; id = Some 8; by_args = false }
    ∷ record { called = true; deemed = true; id = None; by_args = false } ∷ []
what_the_host_tells = refl

is_unknown : IsUnknown imports (uses mode.Pure (true ∷ false ∷ true ∷ [])) (codes "gone")
is_unknown = record { number = 2; first = refl; named = refl }

-- nothing calls what the host does not have, and what is not by arguments is not deemed safe
all_answer : AllAnswer (uses mode.Pure (true ∷ true ∷ false ∷ []))
all_answer = record { known = refl; safe = refl }

-- the same calls where all imports are deemed safe
is_unsafe : IsUnsafe imports (uses mode.All (true ∷ true ∷ false ∷ [])) (codes "next")
is_unsafe = record { number = 1; known = refl; first = refl; named = refl }

-- an unknown import comes before one that is not by arguments, though it is declared after it
unknown_first : IsUnknown imports (uses mode.All (true ∷ true ∷ true ∷ [])) (codes "gone")
unknown_first = record { number = 2; first = refl; named = refl }

numbers : ids_of id_of by_args imports ≡ 7 ∷ 8 ∷ 0 ∷ []
numbers = refl

-- ---- drivers, words and edges, where the line of bits is v[0], v[1], w[3], w[4]

abbrev line : Line
line = line_of vars []

abbrev bits : ℕ → ℕ → BitRange
bits from to = record { from = from; to = to }

abbrev bit_of : ℕ → ℕ → Target
bit_of var at = roll-Target (record {
  mem = false;
  item = var;
  element = None;
  select = Some (roll-Select (record { at = record { width = 3; signed = false; node = node.Const (record { width = 3; value = at }) }; width = 1; down = false }));
  whole = false;
})

abbrev all_of : ℕ → Target
all_of var = roll-Target (record { mem = false; item = var; element = None; select = None; whole = true })

abbrev at : ℕ → Origin
at n = record { file = 0; line = n; col = 8 }

-- `assign TO = FROM;` in this line of the file
abbrev assign : ℕ → Target → Target → Proc
assign n to from = record { kind = Comb; body = stmt.Write (record { parts = to ∷ [] }) (record { width = 2; signed = false; node = node.Read from }) ∷ []; at = at n }

abbrev Fits : List Proc → Type 0
Fits procs = list_all (proc_fits (counts_of vars [] [])) procs ≡ true

abbrev design : (procs : List Proc) → Fits procs → Design
design procs fit = record { vars = vars; mems = []; procs = procs; imports = []; ports = []; scopes = record { path = codes "top"; parent = None; block = false } ∷ []; vars_fit = refl; mems_fit = refl; procs_fit = fit; ports_fit = refl; parents_first = refl }

-- w[4] = v[1], and v[1] = w[3]: a loop by variables
abbrev chain : List Proc
chain = assign 1 (bit_of 1 4) (bit_of 0 1) ∷ assign 2 (bit_of 0 1) (bit_of 1 3) ∷ []

chain_fits : Fits chain
chain_fits = simp (fit_stmt_laws.laws, fit_laws.laws, out-roll-Target, out-roll-Select) refl

-- by bits the second waits for nothing, and runs first
one_edge : read_edges (design chain chain_fits) ≡ edge_to 1 0 ∷ []
unfolding read_edges
one_edge = simp (write_laws.laws, read_laws.laws, out-roll-Target, out-roll-Select) refl

second_first : settling_of (design chain chain_fits) ≡ InOrder (1 ∷ 0 ∷ [])
second_first = ap (settling 2) one_edge

-- w[4] = v[1], and v[1] = w[4]
abbrev ring : List Proc
ring = assign 1 (bit_of 1 4) (bit_of 0 1) ∷ assign 2 (bit_of 0 1) (bit_of 1 4) ∷ []

ring_fits : Fits ring
ring_fits = simp (fit_stmt_laws.laws, fit_laws.laws, out-roll-Target, out-roll-Select) refl

two_edges : read_edges (design ring ring_fits) ≡ edge_to 0 1 ∷ edge_to 1 0 ∷ []
unfolding read_edges
two_edges = simp (write_laws.laws, read_laws.laws, out-roll-Target, out-roll-Select) refl

is_loop : IsLoop (design ring ring_fits) (at 1 ∷ at 2 ∷ [])
is_loop = record { loop = 0 ∷ 1 ∷ []; stalls = ap (settling 2) two_edges; told = refl }

-- a process that reads what it writes does not wait for itself: w = w
abbrev own : List Proc
own = assign 1 (all_of 1) (all_of 1) ∷ []

own_fits : Fits own
own_fits = simp (fit_stmt_laws.laws, fit_laws.laws, out-roll-Target) refl

no_edge : read_edges (design own own_fits) ≡ []
unfolding read_edges
no_edge = refl

-- w[4] = v[1], and w = v: w[3] has one driver, and w[4] two
abbrev clash : List Proc
clash = assign 1 (bit_of 1 4) (bit_of 0 1) ∷ assign 2 (all_of 1) (all_of 0) ∷ []

clash_fits : Fits clash
clash_fits = simp (fit_stmt_laws.laws, fit_laws.laws, out-roll-Target, out-roll-Select) refl

first_left : named_left line (slice_get clash 0) ≡ bits 3 4 ∷ []
first_left = simp (write_laws.laws, read_laws.laws, out-roll-Target, out-roll-Select) refl

first_writes : (b : ℕ) → writes line clash 0 b ≡ (nat_lt b 4 && has b (bits 3 4 ∷ []))
first_writes b = ap (λ found. nat_lt b 4 && has b found) first_left

second_left : named_left line (slice_get clash 1) ≡ bits 2 4 ∷ []
second_left = simp (write_laws.laws, read_laws.laws, out-roll-Target) refl

second_writes : (b : ℕ) → writes line clash 1 b ≡ (nat_lt b 4 && has b (bits 2 4 ∷ []))
second_writes b = ap (λ found. nat_lt b 4 && has b found) second_left

one_below : (p b : ℕ) → b < 3 → writes line clash p b ≡ true → p ≡ 1
one_below zero zero h e = absurd (false≢true (sym (first_writes 0) ∙ e))
one_below zero (suc zero) h e = absurd (false≢true (sym (first_writes 1) ∙ e))
one_below zero (suc (suc zero)) h e = absurd (false≢true (sym (first_writes 2) ∙ e))
one_below zero (suc (suc (suc b))) h e = absurd (omega (arith, h))
one_below (suc zero) b h e = refl
one_below (suc (suc p)) b h e = absurd (false≢true (and_parts (nat_lt b 4) false e).1)

two_drivers : TwoDrivers (design clash clash_fits) (codes "top.w[4]") (at 1) (at 2)
unfolding digits
two_drivers = record {
  bit = record { mem = false; item = 1; element = 0; bit = 1 };
  first = 0;
  second = 1;
  is_double = record {
    is_bit = refl;
    first_writes = first_writes 3;
    second_writes = second_writes 3;
    in_order = lit≤ tt;
    first_two = λ p h e. omega (arith, h);
    least = λ b h p q x y. one_below p b h x ∙ sym (one_below q b h y);
  };
  named = refl;
  first_at = refl;
  second_at = refl;
}

-- bits that nothing drives are no fault
no_drivers : OneDriver (design [] refl)
no_drivers = record { single = λ b p q x y. absurd (false≢true (and_parts (nat_lt b 4) false x).1) }

abbrev word : ℕ → ℕ → ℕ → Word
word var bit len = record { holds = record { mem = false; item = var; element = 0; bit = bit }; len = len; shadow = false }

-- without a process each variable is one word, behind the table's
uncut : words_of (design [] refl) ≡ word 0 0 0 ∷ word 0 0 2 ∷ word 1 0 2 ∷ []
uncut = refl

-- each of both is cut below the bit that is driven
cut_where_the_driver_changes : words_of (design chain chain_fits) ≡ word 0 0 0 ∷ word 0 0 1 ∷ word 0 1 1 ∷ word 1 0 1 ∷ word 1 1 1 ∷ []
cut_where_the_driver_changes = simp (write_laws.laws, read_laws.laws, out-roll-Target, out-roll-Select) refl

-- ---- words and bits: the words 1, 2 and 3 have 2, 1 and 1 bits, and the table's has none

abbrev places : List ℕ
places = 0 ∷ 0 ∷ 2 ∷ 3 ∷ 4 ∷ []

touched : map (λ k. is_in places k (bits 1 3)) (0 ∷ 1 ∷ 2 ∷ 3 ∷ 4 ∷ []) ≡ false ∷ true ∷ true ∷ false ∷ false ∷ []
touched = refl

no_bits_in_no_word : is_in places 1 (bits 1 1) ≡ false
no_bits_in_no_word = refl

-- ---- costs and plans: process 1 is clocked, and its commit copies two shadows

abbrev empty : ProcKind → Proc
empty kind = record { kind = kind; body = []; at = at 1 }

abbrev procs : List Proc
procs = empty Comb ∷ empty (Clocked []) ∷ empty Comb ∷ []

abbrev code : List Op → Ops
code ops = record { ops = ops; stack = 1 }

abbrev copies : Ops
copies = code (op.Load 4 8 ∷ op.Store 2 8 ∷ op.Load 5 8 ∷ op.Store 3 8 ∷ [])

abbrev the_codes : List Ops
the_codes = code [] ∷ code [] ∷ code [] ∷ copies ∷ []

two_shadows : node_cost procs the_codes (node_of.Commit 1) ≡ 2
two_shadows = refl

-- what does nothing costs 1 all the same
empty_body : node_cost procs the_codes (node_of.Body 1) ≡ 1
empty_body = refl

empty_commit : commit_cost (Some (code [])) ≡ 1
empty_commit = refl

-- its assignment is all that `assign w[4] = v[1]` costs
one_assignment : node_cost chain [] (node_of.Comb 0) ≡ 1
one_assignment = simp (cost_laws.stmt-Write, cost_laws.target_is, cost_laws.expr_is, cost_laws.node-Read, out-roll-Target) refl

-- a body, a commit, and two combinational processes
four_nodes : nodes_of (design procs refl) part.Clocked ≡ 4
four_nodes = refl

-- settling runs process 2 before process 0, by the order of the two among themselves
settles : (plan : ValidPlan) → IsPlan procs the_codes (1 ∷ 0 ∷ []) part.Settle plan → plan.nodes ≡ node_of.Comb 2 ∷ node_of.Comb 0 ∷ []
settles plan is = is.nodes

abbrev all_four : List Node
all_four = node_of.Body 1 ∷ node_of.Commit 1 ∷ node_of.Comb 2 ∷ node_of.Comb 0 ∷ []

-- after a clock the same follows the body and the commit, all as the one task of thread 0
clocks : (plan : ValidPlan) → IsPlan procs the_codes (1 ∷ 0 ∷ []) part.Clocked plan
    → (plan.nodes ≡ all_four) × (plan.graph.costs ≡ 1 ∷ 2 ∷ 1 ∷ 1 ∷ []) × (plan.groups ≡ (0 ∷ 1 ∷ 2 ∷ 3 ∷ []) ∷ []) × (plan.tasks ≡ record { thread = 0; start = 0 } ∷ []) × (plan.order ≡ 0 ∷ []) × (plan.threads ≡ (0 ∷ []) ∷ [])
clocks plan is = (
  is.nodes,
  is.costs ∙ ap (map (node_cost procs the_codes)) is.nodes,
  is.groups ∙ ap (λ (nodes : List Node). groups_of (length nodes)) is.nodes,
  is.tasks ∙ ap (λ (nodes : List Node). first_tasks (length nodes)) is.nodes,
  is.placement ∙ ap (λ (nodes : List Node). numbers_of (length nodes)) is.nodes,
  is.threads ∙ ap (λ (nodes : List Node). lists_of (length nodes)) is.nodes,
)

-- a part without nodes has no group and no task, and one thread with nothing to do
nothing_to_do : (plan : ValidPlan) → IsPlan [] [] [] part.Clocked plan → (plan.groups ≡ []) × (plan.tasks ≡ []) × (plan.order ≡ []) × (plan.threads ≡ [] ∷ [])
nothing_to_do plan is = (
  is.groups ∙ ap (λ (nodes : List Node). groups_of (length nodes)) is.nodes,
  is.tasks ∙ ap (λ (nodes : List Node). first_tasks (length nodes)) is.nodes,
  is.placement ∙ ap (λ (nodes : List Node). numbers_of (length nodes)) is.nodes,
  is.threads ∙ ap (λ (nodes : List Node). lists_of (length nodes)) is.nodes,
)
