use Rattle.std.proofs.Common.{ℕ, ◌%◌, false, sym, ap, arith}
use Rattle.std.specs.Fmt.{digit_glyph}
use Rattle.vs_base.specs.NumberLaws.{high_is_zero}
use Rattle.vs_base.proofs.NumberLemmas.{IsNumber-same}
use Rattle.vs_base.proofs.bits.Bits.bin_digit.Goals as goal

pub returns-then-k-ge128 : goal.returns-then-k-ge128
returns-then-k-ge128 c = ap (λ (n : ℕ). digit_glyph false (n % 2)) (sym (high_is_zero c.args.self.value c.args.self.width (c.args.k) (IsNumber-same _ c.args.self c.self.view_is c.self.invariant).fits (let h = IsNumber-same _ c.args.self c.self.view_is c.self.invariant in omega arith)))
