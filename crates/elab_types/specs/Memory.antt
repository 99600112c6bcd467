-- The addresses of memories (IEEE 1800-2017 7.4.2).
use Rattle.std.specs.Prelude.{ℕ, if◌then◌else◌, Option, Some, None, ◌^◌, ◌-◌, ℤ, pos, neg_ℤ, ◌+ℤ◌, ◌-ℤ◌, int_lt}
use Rattle.vs_base.specs.declared.origin.Origin.{Origin}
use Rattle.sv_tree.specs.declared.tree.item.Dimension.{Dimension}
use Rattle.sv_tree.specs.declared.tree.item.Dimension.TheVariants as dimension
use Rattle.sv_tree.specs.declared.tree.words.Range.{Range}
use Rattle.sv_expr.specs.declared.fault.WalkFault.{WalkFault}
use Rattle.sv_expr.specs.declared.fault.WalkFault.TheVariants.{BadRange}
use Rattle.sv_expr.specs.Bound.{◌before◌, whole_part}
use Rattle.sv_expr.specs.Environment.{Environment}
use Rattle.sv_expr.specs.Meaning.{FirstFault, OwnReadingOf}
use Rattle.elab_types.specs.declared.kinds.Bounds.{Bounds}

-- the lowest address, and how many there are
pub record Addresses : Type 0 where
  pub low : ℤ
  pub count : ℕ

abbrev pub addresses : Bounds → Addresses
addresses b = record { low = b.low; count = b.count }

-- the addresses from a lowest to a highest one
abbrev pub ascending : ℤ → ℤ → Addresses
ascending low high = record { low = low; count = whole_part ((high -ℤ low) +ℤ pos 1) }

-- an address of more than 64 bits with a sign, no element, or too many
abbrev pub ends_fault : Origin → ℤ → ℤ → Option WalkFault
ends_fault at low high =
    if int_lt low (neg_ℤ (pos (2 ^ 63))) then Some (BadRange at)
    else (if int_lt (pos (2 ^ 63 - 1)) high then Some (BadRange at)
    else (if int_lt ((high -ℤ low) +ℤ pos 1) (pos 1) then Some (BadRange at)
    else (if int_lt (pos 65536) ((high -ℤ low) +ℤ pos 1) then Some (BadRange at) else None)))

abbrev pub lesser : ℤ → ℤ → ℤ
lesser a b = if int_lt a b then a else b

abbrev pub greater : ℤ → ℤ → ℤ
greater a b = if int_lt a b then b else a

module _ (env : Environment) where
  abbrev pub lowest : Range → ℤ
  lowest r = lesser (OwnReadingOf env r.left) (OwnReadingOf env r.right)

  abbrev pub highest : Range → ℤ
  highest r = greater (OwnReadingOf env r.left) (OwnReadingOf env r.right)

  abbrev pub ranged : Range → Addresses
  ranged r = ascending (lowest r) (highest r)

  abbrev pub range_fault : Range → Option WalkFault
  range_fault r = FirstFault env r.left before FirstFault env r.right before ends_fault r.open.at (lowest r) (highest r)

  -- `[a:b]` has the addresses from the lesser end to the greater, `[n]` those from 0 to n - 1
  abbrev pub bounds_of : Dimension → Addresses
  bounds_of (dimension.Count opens count closes) = ascending (pos 0) (OwnReadingOf env count -ℤ pos 1)
  bounds_of (dimension.Bounds range) = ranged range

  abbrev pub fault_of : Dimension → Option WalkFault
  fault_of (dimension.Count opens count closes) = FirstFault env count before ends_fault opens.at (pos 0) (OwnReadingOf env count -ℤ pos 1)
  fault_of (dimension.Bounds range) = range_fault range
