-- The settings of a list of words.
use Rattle.std.specs.Prelude.{ℕ, ◌+◌, ◌-◌, ◌*◌, ◌||◌, ◌&&◌, not, Bool, true, false, List, [], length, Option, Some, None, is_some, if◌then◌else◌, nat_le, codes, option_and_then, fold}
use Rattle.std.specs.List.{list_all, list_any}
use Rattle.std.specs.Option.{option_map_or}
use Rattle.std.specs.Str.{bytes_eq}
use Rattle.clap.specs.Words.{Text}
use Rattle.dpi_host.specs.declared.mode.Mode.{Mode}
use Rattle.dpi_host.specs.declared.mode.Mode.TheVariants as mode
use Rattle.vsim_words.specs.declared.options.Action.{Action}
use Rattle.vsim_words.specs.declared.options.Action.TheVariants.{Lint, Stim}
use Rattle.vsim_words.specs.Given.{Given, given}

pub record Settings : Type 0 where
  pub files : List Text
  pub action : Action
  pub top_module : Option Text
  pub threads : ℕ
  pub threads_dpi : Mode
  pub calls : Option Text
  pub vcd : Option Text

-- ---- numbers and modes

abbrev pub is_digit : ℕ → Bool
is_digit c = nat_le 48 c && nat_le c 57

-- one to nine decimal digits
abbrev pub is_number : Text → Bool
is_number text = nat_le 1 (length text) && nat_le (length text) 9 && list_all is_digit text

-- the number that decimal digits write
abbrev pub number_in : Text → ℕ
number_in text = fold (λ n c. n * 10 + (c - 48)) 0 text

-- a number from `least` to `most`
abbrev pub number_within : ℕ → ℕ → Text → Option ℕ
number_within least most text =
    if is_number text && nat_le least (number_in text) && nat_le (number_in text) most
    then Some (number_in text) else None

-- one thread, where no number stands, and so far no other number
abbrev pub threads_of : Option Text → Option ℕ
threads_of None = Some 1
threads_of (Some text) = number_within 1 1 text

abbrev pub mode_of : Option Text → Option Mode
mode_of None = Some mode.Pure
mode_of (Some text) =
    if bytes_eq text (codes "all") then Some mode.All
    else (if bytes_eq text (codes "pure") then Some mode.Pure
    else (if bytes_eq text (codes "none") then Some mode.None else None))

-- ---- what else is refused

-- no file or module is named so
abbrev pub is_no_name : Text → Bool
is_no_name text = bytes_eq text [] || bytes_eq text (codes "-")

abbrev pub has_no_name : Option Text → Bool
has_no_name value = option_map_or is_no_name value false

abbrev pub misnames : Given → Bool
misnames g =
    list_any is_no_name g.files || has_no_name g.stim || has_no_name g.top_module
    || has_no_name g.calls || has_no_name g.vcd

-- both stand, or neither does
abbrev pub is_unclear : Bool → Bool → Bool
is_unclear true stim = stim
is_unclear false stim = not stim

-- exactly one of `--lint-only` and `--stim` stands
abbrev pub wants_none_or_both : Given → Bool
wants_none_or_both g = is_unclear g.lint_only (is_some g.stim)

abbrev pub has_too_few_or_many_files : Given → Bool
has_too_few_or_many_files g = not (nat_le 1 (length g.files) && nat_le (length g.files) 64)

-- only a run has calls and a waveform
abbrev pub logs_no_run : Given → Bool
logs_no_run g = not (is_some g.stim) && (is_some g.calls || is_some g.vcd)

abbrev pub are_same : Option Text → Option Text → Bool
are_same (Some a) (Some b) = bytes_eq a b
are_same _ _ = false

abbrev pub logs_into_one_file : Given → Bool
logs_into_one_file g = are_same g.calls g.vcd

abbrev pub is_refused : Given → Bool
is_refused g =
    misnames g || wants_none_or_both g || has_too_few_or_many_files g || logs_no_run g
    || logs_into_one_file g

-- ---- the settings

abbrev pub action_of : Option Text → Action
action_of None = Lint
action_of (Some stim) = Stim stim

abbrev pub settings_with : Given → ℕ → Mode → Settings
settings_with g threads mode = record {
  files = g.files;
  action = action_of g.stim;
  top_module = g.top_module;
  threads = threads;
  threads_dpi = mode;
  calls = g.calls;
  vcd = g.vcd;
}

abbrev pub settings_by : Given → Option ℕ → Option Mode → Option Settings
settings_by g (Some threads) (Some mode) =
    if is_refused g then None else Some (settings_with g threads mode)
settings_by g _ _ = None

abbrev pub settings_in : Given → Option Settings
settings_in g = settings_by g (threads_of g.threads) (mode_of g.threads_dpi)

-- the settings of the words, which have none where `clap` refuses them or one of the tests above does
abbrev pub settings_of : List Text → Option Settings
settings_of words = option_and_then settings_in (given words)
