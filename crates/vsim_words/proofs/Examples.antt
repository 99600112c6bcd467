-- Command lines, worked out.
use Rattle.std.proofs.Common.{◌≡◌, List, refl, [], ◌∷◌, codes}
use Rattle.std.specs.Prelude.{Some, None, replicate}
use Rattle.clap.specs.Words.{Text}
use Rattle.clap.proofs.OnLiterals.{clap_on_literals}
use Rattle.dpi_host.specs.declared.mode.Mode.TheVariants as mode
use Rattle.vsim_words.specs.declared.options.Action.TheVariants.{Lint, Stim}
use Rattle.vsim_words.specs.Command.{found}
use Rattle.vsim_words.specs.Settings.{Settings, settings_of}

-- a check of these files, with the defaults
abbrev checked : List Text → Settings
checked names = record {
  files = names;
  action = Lint;
  top_module = None;
  threads = 1;
  threads_dpi = mode.Pure;
  calls = None;
  vcd = None;
}

-- a run of d.sv, with the defaults
abbrev run : Text → Settings
run stim = record (checked (codes "d.sv" ∷ [])) { action = Stim stim }

a_check : settings_of (codes "a.sv" ∷ codes "--lint-only" ∷ codes "b.sv" ∷ []) ≡ Some (checked (codes "a.sv" ∷ codes "b.sv" ∷ []))
unfolding found clap_on_literals
a_check = refl

a_run : settings_of (codes "d.sv" ∷ codes "--stim" ∷ codes "s" ∷ []) ≡ Some (run (codes "s"))
unfolding found clap_on_literals
a_run = refl

a_run_with_all : settings_of (codes "--stim=s" ∷ codes "--top-module" ∷ codes "top" ∷ codes "--threads=01" ∷ codes "--threads-dpi" ∷ codes "all" ∷ codes "d.sv" ∷ codes "--calls=c" ∷ codes "--vcd" ∷ codes "w" ∷ [])
    ≡ Some (record (run (codes "s")) {
      top_module = Some (codes "top");
      threads_dpi = mode.All;
      calls = Some (codes "c");
      vcd = Some (codes "w");
    })
unfolding found clap_on_literals
a_run_with_all = refl

-- a value that is joined may begin with -
joined : settings_of (codes "d.sv" ∷ codes "--stim=-x" ∷ []) ≡ Some (run (codes "-x"))
unfolding found clap_on_literals
joined = refl

-- after -- each word is a file
after_the_options : settings_of (codes "--lint-only" ∷ codes "--" ∷ codes "--stim" ∷ []) ≡ Some (checked (codes "--stim" ∷ []))
unfolding found clap_on_literals
after_the_options = refl

-- ---- words without settings

an_option_twice : settings_of (codes "d.sv" ∷ codes "--lint-only" ∷ codes "--lint-only" ∷ []) ≡ None
unfolding found clap_on_literals
an_option_twice = refl

an_unknown_option : settings_of (codes "d.sv" ∷ codes "--lint-only" ∷ codes "--wat" ∷ []) ≡ None
unfolding found clap_on_literals
an_unknown_option = refl

help : settings_of (codes "d.sv" ∷ codes "--lint-only" ∷ codes "-h" ∷ []) ≡ None
unfolding found clap_on_literals
help = refl

two_threads : settings_of (codes "d.sv" ∷ codes "--lint-only" ∷ codes "--threads" ∷ codes "2" ∷ []) ≡ None
unfolding found clap_on_literals
two_threads = refl

no_mode : settings_of (codes "d.sv" ∷ codes "--lint-only" ∷ codes "--threads-dpi=some" ∷ []) ≡ None
unfolding found clap_on_literals
no_mode = refl

no_name : settings_of (codes "d.sv" ∷ codes "--stim" ∷ codes "-" ∷ []) ≡ None
unfolding found clap_on_literals
no_name = refl

no_action : settings_of (codes "d.sv" ∷ []) ≡ None
unfolding found clap_on_literals
no_action = refl

both_actions : settings_of (codes "d.sv" ∷ codes "--lint-only" ∷ codes "--stim=s" ∷ []) ≡ None
unfolding found clap_on_literals
both_actions = refl

no_file : settings_of (codes "--lint-only" ∷ []) ≡ None
unfolding found clap_on_literals
no_file = refl

-- one more than may stand
too_many_files : settings_of (codes "--lint-only" ∷ replicate 65 (codes "d")) ≡ None
unfolding found clap_on_literals
too_many_files = refl

calls_of_a_check : settings_of (codes "d.sv" ∷ codes "--lint-only" ∷ codes "--calls=c" ∷ []) ≡ None
unfolding found clap_on_literals
calls_of_a_check = refl

one_file_for_both : settings_of (codes "d.sv" ∷ codes "--stim=s" ∷ codes "--calls=w" ∷ codes "--vcd=w" ∷ []) ≡ None
unfolding found clap_on_literals
one_file_for_both = refl
