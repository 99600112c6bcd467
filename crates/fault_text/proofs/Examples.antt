-- Lines on standard error, without `vsim: ` and the line feed.
use Rattle.std.proofs.Common.{◌≡◌, ℕ, List, [], ◌∷◌, refl}
use Rattle.std.specs.Prelude.{codes}
use Rattle.std.specs.Fmt.{digits}
use Rattle.vs_base.specs.declared.origin.Origin.{Origin}
use Rattle.vs_base.specs.declared.limits.Kind.TheVariants as kind
use Rattle.sv_lex.specs.declared.file.LexFault.TheVariants as lexing
use Rattle.sv_names.specs.declared.fault.DesignFault.TheVariants as design
use Rattle.stimulus.specs.declared.fault.StimFault.TheVariants as stim
use Rattle.run_status.specs.Lines.{Text}
use Rattle.fault_text.specs.FaultText.{too_long, lexing_text, design_text, two_drivers, unknown_import, not_by_arguments, loop_text, stimulus_text, not_converged}

abbrev files : List Text
files = codes "d.sv" ∷ codes "e.sv" ∷ []

abbrev at : ℕ → ℕ → ℕ → Origin
at file line col = record { file = file; line = line; col = col }

longer : too_long (codes "d.sv") ≡ codes "d.sv: longer than 4194304 bytes"
longer = refl

comment : lexing_text files (lexing.OpenComment (at 1 1 13)) ≡ codes "e.sv:1:13: open comment"
unfolding digits
comment = refl

name : design_text files (codes "top" ∷ codes "q" ∷ []) (design.UnknownName (at 0 1 34) (record { 0 = 1 })) ≡ codes "d.sv:1:34: unknown name q"
unfolding digits
name = refl

words : design_text files [] (design.TooMany kind.Words) ≡ codes "too many words"
words = refl

drivers : two_drivers files (codes "top.y[0]") (at 0 1 45) (at 1 2 10) ≡ codes "two drivers of top.y[0]: d.sv:1:45 e.sv:2:10"
unfolding digits
drivers = refl

unknown : unknown_import (codes "b") ≡ codes "import b is unknown"
unknown = refl

unsafe : not_by_arguments (codes "vs_next") ≡ codes "import vs_next does not answer by arguments alone"
unsafe = refl

loop : loop_text files (at 0 1 33 ∷ at 0 1 47 ∷ []) ≡ codes "loop of 2: d.sv:1:33 d.sv:1:47"
unfolding digits
loop = refl

wide : stimulus_text (stim.ValueTooWide 12) ≡ codes "stimulus line 12: value too wide"
unfolding digits
wide = refl

endless : not_converged 12 ≡ codes "eval 12: not converged"
unfolding digits
endless = refl
