-- Types whose width is from 1 to the greatest one.
use Rattle.std.specs.Prelude.{Bool, true, ◌&&◌, nat_le, Option, Some, None}
use Rattle.vs_base.specs.declared.types.ValueType.{ValueType}
use Rattle.vs_base.specs.declared.limits.TheConstants.{WIDTH}

abbrev pub is_type : ValueType → Bool
is_type t = nat_le 1 t.width && nat_le t.width WIDTH

-- a void result has none
abbrev pub result_is_type : Option ValueType → Bool
result_is_type (Some t) = is_type t
result_is_type None = true
