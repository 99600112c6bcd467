-- What holds of all settings.
use Rattle.std.specs.Prelude.{◌≡◌, ◌≤◌, ◌||◌, ◌&&◌, ℕ, not, Bool, true, false, List, length, Option, Some, None, nat_le, option_and_then, refl}
use Rattle.std.proofs.Common.{cond, subst, arith}
use Rattle.std.proofs.lemmas.Bool.Decides.{nat_tests}
use Rattle.clap.specs.Words.{Text}
use Rattle.dpi_host.specs.declared.mode.Mode.{Mode}
use Rattle.vsim_words.specs.Given.{Given, given}
use Rattle.vsim_words.specs.Settings.{Settings, has_too_few_or_many_files, is_refused, logs_into_one_file, logs_no_run, misnames, mode_of, settings_by, settings_in, settings_of, settings_with, threads_of, wants_none_or_both}

-- one file stands, and not more than 64
pub record HasFiles (names : List Text) : Type 0 where
  pub some : 1 ≤ length names
  pub most : length names ≤ 64

third_fails : (a b c d e : Bool) → (a || b || c || d || e) ≡ false → c ≡ false
third_fails true b c d e h = cc
third_fails false true c d e h = cc
third_fails false false true d e h = cc
third_fails false false false d e h = refl

within : (n : ℕ) → not (nat_le 1 n && nat_le n 64) ≡ false → (1 ≤ n) × (n ≤ 64)
within n h = grind (arith, nat_tests)

files_in_range : (g : Given) → is_refused g ≡ false → HasFiles g.files
files_in_range g h =
    let both = within (length g.files) (third_fails (misnames g) (wants_none_or_both g) (has_too_few_or_many_files g) (logs_no_run g) (logs_into_one_file g) h) in
    record { some = both.0; most = both.1 }

files_accepted : (g : Given) (threads : ℕ) (mode : Mode) (s : Settings) (b : Bool) → is_refused g ≡ b → cond b None (Some (settings_with g threads mode)) ≡ Some s → HasFiles s.files
files_accepted g threads mode s true e h = cc
files_accepted g threads mode s false e h =
    let same : settings_with g threads mode ≡ s = cc in
    subst (λ (x : Settings). HasFiles x.files) same (files_in_range g e)

files_by : (g : Given) (threads : Option ℕ) (mode : Option Mode) (s : Settings) → settings_by g threads mode ≡ Some s → HasFiles s.files
files_by g (Some threads) (Some mode) s h = files_accepted g threads mode s (is_refused g) refl h
files_by g (Some threads) None s h = cc
files_by g None mode s h = cc

pub files_of_given : (g : Given) (s : Settings) → settings_in g ≡ Some s → HasFiles s.files
files_of_given g s h = files_by g (threads_of g.threads) (mode_of g.threads_dpi) s h

files_given : (o : Option Given) (s : Settings) → option_and_then settings_in o ≡ Some s → HasFiles s.files
files_given None s h = cc
files_given (Some g) s h = files_of_given g s h

-- settings name 1 to 64 files
pub files_of_settings : (words : List Text) (s : Settings) → settings_of words ≡ Some s → HasFiles s.files
files_of_settings words s h = files_given (given words) s h
