-- When a design is not cut: where there are too many words, or no memory is left.
use Rattle.std.specs.Prelude.{⊤}
use Rattle.rtl_pieces.specs.declared.fault.CutFault.{CutFault}
use Rattle.rtl_pieces.specs.declared.fault.CutFault.TheVariants.{NoMemory, TooMany}

abbrev pub ManyIf : Type 0 → CutFault → Type 0
ManyIf many (NoMemory error) = ⊤
ManyIf many TooMany = many
