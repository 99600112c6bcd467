-- The definitions of types, worked out at small widths.
use Rattle.std.proofs.Common.{◌≡◌, true, false, refl}
use Rattle.vs_base.specs.declared.types.ValueType.{ValueType}
use Rattle.vs_base.specs.Number.{kept}
use Rattle.vs_base.specs.Types.{wider, decimal_type, assigned_in, in_context}

abbrev byte : ValueType
byte = record { width = 8; signed = true }

abbrev half : ValueType
half = record { width = 16; signed = false }

-- one unsigned operand makes the whole unsigned
operator_mixed : wider byte half ≡ half
operator_mixed = refl

operator_with_decimal : wider byte decimal_type ≡ decimal_type
operator_with_decimal = refl

-- the left side gives its width and not its sign
assigned_to_more : assigned_in byte 16 ≡ record half { signed = true }
assigned_to_more = refl

assigned_to_less : assigned_in half 8 ≡ half
assigned_to_less = refl

-- 8'sh80 in 16 bits, in a signed context and in an unsigned one
minus_128_signed : in_context (kept 8 0x80) (assigned_in byte 16) ≡ kept 16 0xff80
minus_128_signed = refl

minus_128_unsigned : in_context (kept 8 0x80) half ≡ kept 16 0x80
minus_128_unsigned = refl
