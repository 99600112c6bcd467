-- Places of bits stay far below the greatest number, and an element has a bit, and no more than a type may have.
use Rattle.std.specs.Prelude.{◌^◌, Bool, ◌&&◌, nat_le}
use Rattle.vs_base.specs.declared.limits.TheConstants.{WIDTH}
use Rattle.rtl_pieces.specs.declared.item.Item.{Item}

abbrev pub is_near : Item → Bool
is_near item = nat_le item.first (2 ^ 124) && (nat_le 1 item.width && nat_le item.width WIDTH)
