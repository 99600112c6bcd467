-- What stands on the command line, word for word.
use Rattle.std.specs.Prelude.{List, [], Bool, false, Option, codes, unwrap_or}
use Rattle.std.specs.Option.{option_map, option_map_or}
use Rattle.std.specs.Str.{bytes_eq}
use Rattle.clap.specs.Words.{Row, Text, all_of, first_of}
use Rattle.vsim_words.specs.Command.{found}

pub record Given : Type 0 where
  pub files : List Text
  pub lint_only : Bool
  pub stim : Option Text
  pub top_module : Option Text
  pub threads : Option Text
  pub threads_dpi : Option Text
  pub calls : Option Text
  pub vcd : Option Text

-- a flag's value is the text true or the text false
abbrev pub is_set : List Row → Text → Bool
is_set rows name = option_map_or (λ value. bytes_eq value (codes "true")) (first_of name rows) false

abbrev pub files_in : List Row → List Text
files_in rows = unwrap_or (all_of (codes "FILES") rows) []

abbrev pub given_in : List Row → Given
given_in rows = record {
  files = files_in rows;
  lint_only = is_set rows (codes "lint-only");
  stim = first_of (codes "stim") rows;
  top_module = first_of (codes "top-module") rows;
  threads = first_of (codes "threads") rows;
  threads_dpi = first_of (codes "threads-dpi") rows;
  calls = first_of (codes "calls") rows;
  vcd = first_of (codes "vcd") rows;
}

-- what stands in the words, where `clap` takes them
abbrev pub given : List Text → Option Given
given words = option_map given_in (found words)
