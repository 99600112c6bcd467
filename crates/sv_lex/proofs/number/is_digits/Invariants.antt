use Rattle.std.proofs.Common.{◌≡◌, ◌<◌, ◌^◌, ◌&&◌, ◌||◌, length}
use Rattle.std.specs.List.{list_any}
use Rattle.sv_lex.specs.Number.{value, each_digit, is_small, is_digits, is_no_underscore}
use Rattle.sv_lex.proofs.number.is_digits.Given as goal

abbrev pub invariant-loop-rest : goal.invariant-loop-rest
invariant-loop-rest l =
    ((l.some || list_any is_no_underscore l.rest) && each_digit l.base l.rest && is_small (value l.base l.sum l.rest) ≡ is_digits l.base l.text) × (l.sum < 2 ^ 128)

abbrev pub decreases-loop-rest : goal.decreases-loop-rest
decreases-loop-rest l = length l.rest
