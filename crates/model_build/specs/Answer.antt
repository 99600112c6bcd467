-- What the build of a model is answered, in the one order of refusals.
use Rattle.std.specs.Prelude.{◌<◌, ◌≤◌, List, length, ⊤}
use Rattle.vs_base.specs.declared.limits.TheConstants.{WORDS, EDGES}
use Rattle.vs_base.specs.declared.limits.Kind.{Kind}
use Rattle.vs_base.specs.declared.limits.Kind.TheVariants as kind
use Rattle.rtl_ir.specs.declared.whole.Design.{Design}
use Rattle.model_build.specs.declared.import.ImportUse.{ImportUse}
use Rattle.model_build.specs.declared.fault.BuildFault.{BuildFault}
use Rattle.model_build.specs.declared.fault.BuildFault.TheVariants as fault
use Rattle.plan_types.specs.Drivers.{OneDriver}
use Rattle.model_build.specs.Drivers.{TwoDrivers}
use Rattle.model_build.specs.Imports.{AllAnswer, IsUnknown, IsUnsafe}
use Rattle.plan_types.specs.Cuts.{words_of}
use Rattle.plan_types.specs.Settle.{read_edges}
use Rattle.model_build.specs.Settle.{FewNodes, ManyNodes, IsLoop}

-- each bit has one driver at most, and no import is refused
pub record IsAccepted (design : Design) (uses : List ImportUse) : Type 0 where
  pub drivers : OneDriver design
  pub imports : AllAnswer uses

abbrev pub FewWords : Design → Type 0
FewWords design = length (words_of design) ≤ WORDS

-- what there is too much of, where nothing before it is
abbrev pub TooManyIn : Design → Kind → Type 0
TooManyIn design kind.Words = WORDS < length (words_of design)
TooManyIn design kind.Nodes = FewWords design × ManyNodes design
TooManyIn design kind.Edges = FewWords design × FewNodes design × (EDGES < length (read_edges design))
TooManyIn design _ = ⊥

-- Each fault with all that it says: that it holds, and that none before it does. Want of memory says nothing.
abbrev pub IsFault : Design → List ImportUse → BuildFault → Type 0
IsFault design uses (fault.NoMemory error) = ⊤
IsFault design uses (fault.MultipleDrivers name one two) = TwoDrivers design name one two
IsFault design uses (fault.UnknownImport name) = OneDriver design × IsUnknown design.imports uses name
IsFault design uses (fault.NotByArguments name) = OneDriver design × IsUnsafe design.imports uses name
IsFault design uses (fault.TooMany kind) = IsAccepted design uses × TooManyIn design kind
IsFault design uses (fault.Loop places) = IsAccepted design uses × FewWords design × FewNodes design × (length (read_edges design) ≤ EDGES) × IsLoop design places

-- what the words and the order of an accepted design are refused for
abbrev pub LayFault : Design → BuildFault → Type 0
LayFault design (fault.NoMemory error) = ⊤
LayFault design (fault.TooMany kind) = TooManyIn design kind
LayFault design (fault.Loop places) = FewWords design × FewNodes design × (length (read_edges design) ≤ EDGES) × IsLoop design places
LayFault design _ = ⊥

abbrev pub WordsFault : Design → BuildFault → Type 0
WordsFault design (fault.NoMemory error) = ⊤
WordsFault design (fault.TooMany kind.Words) = WORDS < length (words_of design)
WordsFault design _ = ⊥
