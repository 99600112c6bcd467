-- The command line as `clap` states its meaning: the command, and what is found of it in a list of words.
use Rattle.std.specs.Prelude.{List, [], ◌∷◌, fold, Option, Some, None, true, codes}
use Rattle.clap.specs.Words.{App, Kinds, Row, Rule, Text, fault_of, matches_of, new_app, new_rule, with_rule}
use Rattle.clap.specs.Simple.{on_top}
use Rattle.clap.specs.declared.builder.action.ArgAction.TheVariants.{Set, SetTrue, Append}

-- `--name VALUE` or `--name=VALUE`: one text, given once at most
abbrev pub option_rule : Text → Rule
option_rule name = record (new_rule name) { long = Some name; action = Some Set }

-- `--name`, given once at most
abbrev pub flag_rule : Text → Rule
flag_rule name = record (new_rule name) { long = Some name; action = Some SetTrue }

-- any number of words that are no options
abbrev pub files_rule : Rule
files_rule = record (new_rule (codes "FILES")) { action = Some Append }

-- the program, of which the words are those after its name
abbrev pub program : App
program = on_top (λ s. record s { no_binary_name = true }) (new_app (codes "vsim"))

abbrev pub rules : List Rule
rules =
    flag_rule (codes "lint-only")
    ∷ option_rule (codes "stim")
    ∷ option_rule (codes "top-module")
    ∷ option_rule (codes "threads")
    ∷ option_rule (codes "threads-dpi")
    ∷ option_rule (codes "calls")
    ∷ option_rule (codes "vcd")
    ∷ files_rule
    ∷ []

-- `vsim [OPTIONS] FILES..`
abbrev pub command : App
command = fold with_rule program rules

abbrev pub where_faultless : Kinds → List Row → Option (List Row)
where_faultless [] rows = Some rows
where_faultless (k ∷ ks) rows = None

-- what `clap` finds of each argument, where it has no fault to tell
unfoldable pub found : List Text → Option (List Row)
found words = where_faultless (fault_of command words) (matches_of command words)
