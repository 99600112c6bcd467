-- What the code's records say.
use Rattle.std.specs.Prelude.{[], map}
use Rattle.std.specs.Option.{option_map, option_map_or}
use Rattle.vsim_words.specs.declared.given.Given.{Given as CodeGiven}
use Rattle.vsim_words.specs.declared.options.Options.{Options}
use Rattle.vsim_words.specs.Given.{Given}
use Rattle.vsim_words.specs.Settings.{Settings}

abbrev pub given_by : CodeGiven → Given
given_by g = record {
  files = option_map_or (λ s. map (λ t. t.now) s.now) g.files [];
  lint_only = g.lint_only;
  stim = option_map (λ s. s.now) g.stim;
  top_module = option_map (λ s. s.now) g.top_module;
  threads = option_map (λ s. s.now) g.threads;
  threads_dpi = option_map (λ s. s.now) g.threads_dpi;
  calls = option_map (λ s. s.now) g.calls;
  vcd = option_map (λ s. s.now) g.vcd;
}

abbrev pub settings_by_options : Options → Settings
settings_by_options o = record {
  files = o.files.items;
  action = o.action;
  top_module = o.top_module;
  threads = o.threads;
  threads_dpi = o.threads_dpi;
  calls = o.calls;
  vcd = o.vcd;
}
