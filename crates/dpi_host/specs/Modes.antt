-- Which imports are taken as safe to call from several threads.
use Rattle.std.specs.Prelude.{Bool, true, false}
use Rattle.dpi_host.specs.declared.mode.Mode.{Mode}
use Rattle.dpi_host.specs.declared.mode.Mode.TheVariants as mode

-- all are, those that are declared pure are, or none is
abbrev pub is_deemed : Mode → Bool → Bool
is_deemed mode.All declared_pure = true
is_deemed mode.Pure declared_pure = declared_pure
is_deemed mode.None declared_pure = false
