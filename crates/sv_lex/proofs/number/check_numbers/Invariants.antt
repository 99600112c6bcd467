use Rattle.std.proofs.Common.{◌≡◌, ◌+◌, length}
use Rattle.std.specs.List.{position_from}
use Rattle.sv_tree.specs.Tokens.{AreNamed}
use Rattle.sv_lex.specs.Number.{is_no_number}
use Rattle.sv_lex.proofs.number.check_numbers.Given as goal

abbrev pub invariant-loop-rest : goal.invariant-loop-rest
invariant-loop-rest l =
    (position_from (is_no_number l.names) l.at l.rest ≡ position_from (is_no_number l.names) 0 l.tokens) × (l.at + length l.rest ≡ length l.tokens) × AreNamed l.names l.rest

abbrev pub decreases-loop-rest : goal.decreases-loop-rest
decreases-loop-rest l = length l.rest
