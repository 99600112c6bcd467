use Rattle.std.proofs.Common.{◌≡◌, ◌-◌, ◌≤◌, ◌∙◌, leb, length, ap, rules, arith}
use Rattle.std.proofs.lemmas.List.Sorted.{IsPartitionPoint-from_clause}
use Rattle.rtl_pieces.specs.declared.item.Item.{Item}
use Rattle.rtl_pieces.specs.Line.{place_in, is_bit_in}
use Rattle.rtl_pieces.proofs.Finding.{found, parted_in, same_item}
use Rattle.rtl_pieces.proofs.line.BitLine.bit.Goals as goal

pub bit_in-requires-clause-above : goal.bit_in-requires-clause-above
bit_in-requires-clause-above c =
    let line = c.args.self.now in
    let items = c.as_slice-items.result.now in
    let same : items ≡ line.items = cc in
    let place = c.args.place in
    let point = c.partition_point.result in
    let bound : point ≤ length items = omega (arith, c.partition_point.ensures.bound) in
    let p = IsPartitionPoint-from_clause (λ (item : Item). leb item.first place) items point c.partition_point.ensures.partitioned (parted_in line items place same c.requires.placed) (λ a r f k. search rules) in
    let number : c.saturating_sub-number.result ≡ point - 1 = omega (arith, c.saturating_sub-number.ensures) in
    (found line items point place c.in-Some.item.now same c.requires.placed c.requires.within bound p c.saturating_sub-number.result number c.in-Some.ensures.lookup.1).from

pub bit_in-requires-clause-below : goal.bit_in-requires-clause-below
bit_in-requires-clause-below c =
    let line = c.args.self.now in
    let items = c.as_slice-items.result.now in
    let same : items ≡ line.items = cc in
    let place = c.args.place in
    let point = c.partition_point.result in
    let bound : point ≤ length items = omega (arith, c.partition_point.ensures.bound) in
    let p = IsPartitionPoint-from_clause (λ (item : Item). leb item.first place) items point c.partition_point.ensures.partitioned (parted_in line items place same c.requires.placed) (λ a r f k. search rules) in
    let number : c.saturating_sub-number.result ≡ point - 1 = omega (arith, c.saturating_sub-number.ensures) in
    (found line items point place c.in-Some.item.now same c.requires.placed c.requires.within bound p c.saturating_sub-number.result number c.in-Some.ensures.lookup.1).to

pub returns-in-Some-clause-place : goal.returns-in-Some-clause-place
returns-in-Some-clause-place c =
    let line = c.args.self.now in
    let items = c.as_slice-items.result.now in
    let same : items ≡ line.items = cc in
    let bit = c.bit_in.result in
    let e = same_item line items c.saturating_sub-number.result c.in-Some.item.now c.first_bit-lowest.result bit same c.in-Some.ensures.lookup.0 c.in-Some.ensures.lookup.1 c.first_bit-lowest.ensures c.bit_in.ensures.mem c.bit_in.ensures.item in
    ap (λ (i : Item). place_in i bit.element bit.bit) e ∙ c.bit_in.ensures.place

pub returns-in-Some-clause-there : goal.returns-in-Some-clause-there
returns-in-Some-clause-there c =
    let line = c.args.self.now in
    let items = c.as_slice-items.result.now in
    let same : items ≡ line.items = cc in
    let bit = c.bit_in.result in
    let e = same_item line items c.saturating_sub-number.result c.in-Some.item.now c.first_bit-lowest.result bit same c.in-Some.ensures.lookup.0 c.in-Some.ensures.lookup.1 c.first_bit-lowest.ensures c.bit_in.ensures.mem c.bit_in.ensures.item in
    ap (λ (i : Item). is_bit_in i bit.element bit.bit) e ∙ c.bit_in.ensures.there
