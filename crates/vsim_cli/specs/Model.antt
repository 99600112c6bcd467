-- The model of a laid out design, and for what it is refused.
use Rattle.std.specs.Prelude.{◌≡◌, ℕ, Bool, true, false, List, length, map, take, drop, Some}
use Rattle.std.specs.List.{All}
use Rattle.dpi_host.specs.declared.mode.Mode.{Mode}
use Rattle.sv_tree.specs.declared.tree.source.SourceTree.{SourceTree}
use Rattle.sv_elab.specs.declared.scope.Scope.{Scope}
use Rattle.rtl_ir.specs.declared.whole.Design.{Design}
use Rattle.rtl_flat.specs.Imports as flat_imports
use Rattle.rtl_flat.specs.Ports as flat_ports
use Rattle.rtl_flat.specs.Laid.{VarStands, MemStands, ScopeByScope, flat_scope_of, var_scope, mem_scope}
use Rattle.rtl_pieces.specs.Bits.{line_in, writes}
use Rattle.rtl_pieces.specs.Line.{place_of}
use Rattle.plan_graph.specs.declared.node.Part.TheVariants as part
use Rattle.task_code.specs.Compiled.{Each, IsBody, IsCommit, clocked_from}
use Rattle.plan_types.specs.declared.built.Built.{Built}
use Rattle.plan_types.specs.Cuts.{IsCut}
use Rattle.model_build.specs.declared.import.ImportUse.{ImportUse}
use Rattle.model_build.specs.declared.fault.BuildFault.{BuildFault}
use Rattle.model_build.specs.declared.fault.BuildFault.TheVariants as build
use Rattle.model_build.specs.Answer.{IsAccepted, IsFault}
use Rattle.model_build.specs.Imports as imports
use Rattle.model_build.specs.Settle.{Settles}
use Rattle.model_build.specs.Plans.{IsPlan}
use Rattle.run_status.specs.Lines.{Text, out_of_memory}
use Rattle.fault_text.specs.FaultText as line
use Rattle.vsim_cli.specs.Case.{HostView}

-- ---- what is told of the flat design of scopes

pub record IsFlat (table : List Text) (tree : SourceTree) (scopes : List Scope) (d : Design) : Type 0 where
  pub scopes_are : d.scopes ≡ map flat_scope_of scopes
  pub imports : flat_imports.AreImports table tree d.imports
  pub ports : flat_ports.top_ports table tree.descriptions scopes ≡ Some d.ports
  pub vars : All (VarStands scopes) d.vars
  pub mems : All (MemStands scopes) d.mems
  pub vars_order : ScopeByScope var_scope d.vars
  pub mems_order : ScopeByScope mem_scope d.mems

-- ---- its model

-- how the host serves the imports of a design
abbrev pub uses_of : Mode → HostView → Design → List ImportUse
uses_of mode h d = imports.uses_of h.id_of h.by_args mode d

-- the words of a design, a code for each process and each commit, the plans of both parts of an eval in one settle order, and how imports are served
pub record IsBuilt (mode : Mode) (h : HostView) (d : Design) (b : Built) : Type 0 where
  pub design : b.design ≡ d
  pub words : IsCut d b.layout.words.items
  pub bodies : Each (IsBody b.layout.words.items) d.procs (take (length d.procs) b.codes)
  pub commits : Each (λ (p : ℕ). IsCommit b.layout.words.items (λ word. writes (line_in d) d.procs p (place_of (line_in d) word.holds))) (clocked_from 0 d.procs) (drop (length d.procs) b.codes)
  pub settle : (order : List ℕ) × Settles d order × IsPlan d.procs b.codes order part.Settle b.settle × IsPlan d.procs b.codes order part.Clocked b.clocked
  pub deemed : b.deemed ≡ imports.deemed_of mode d.imports
  pub ids : b.ids ≡ imports.ids_of h.id_of h.by_args d.imports

pub record IsModel (mode : Mode) (h : HostView) (table : List Text) (tree : SourceTree) (scopes : List Scope) (b : Built) : Type 0 where
  pub design : Design
  pub flat : IsFlat table tree scopes design
  pub accepted : IsAccepted design (uses_of mode h design)
  pub built : IsBuilt mode h design b

-- ---- its refusal

-- a fault that is the design's; want of memory is none
abbrev pub is_of_model : BuildFault → Bool
is_of_model (build.NoMemory e) = false
is_of_model _ = true

abbrev pub model_text : List Text → BuildFault → Text
model_text files (build.NoMemory e) = out_of_memory
model_text files (build.MultipleDrivers bit one two) = line.two_drivers files bit one two
model_text files (build.UnknownImport name) = line.unknown_import name
model_text files (build.NotByArguments name) = line.not_by_arguments name
model_text files (build.TooMany kind) = line.too_many kind
model_text files (build.Loop places) = line.loop_text files places

pub record ModelRefused (files : List Text) (mode : Mode) (h : HostView) (table : List Text) (tree : SourceTree) (scopes : List Scope) (line : Text) : Type 0 where
  pub design : Design
  pub flat : IsFlat table tree scopes design
  pub fault : BuildFault
  pub kind : is_of_model fault ≡ true
  pub cause : IsFault design (uses_of mode h design) fault
  pub text : line ≡ model_text files fault
