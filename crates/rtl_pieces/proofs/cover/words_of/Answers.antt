use Rattle.std.proofs.Common.{◌≡◌, ◌-◌, ◌<◌, ◌&&◌, ℕ, Bool, min, leb, ltb, ap, ◌∙◌, rules, arith}
use Rattle.std.proofs.lemmas.List.Sorted.{IsPartitionPoint-from_clause, IsPartitionedBy-leb, IsPartitionedBy-ltb}
use Rattle.rtl_pieces.proofs.Covering.{covers, same_end}
use Rattle.rtl_pieces.proofs.cover.words_of.Goals as goal

pub returns-clause-exactly : goal.returns-clause-exactly
returns-clause-exactly c =
    let places = c.args.places.now in
    let begun = c.partition_point-begun.result in
    let end = c.partition_point-end.result in
    let words = c.saturating_sub-words.result in
    let e : c.saturating_sub.result ≡ begun - 1 = omega (arith, c.saturating_sub.ensures) in
    let m : c.min.result ≡ min end words = omega (arith, c.min.ensures) in
    λ w k.
    let within : w < words = omega (arith, c.saturating_sub-words.ensures) in
    ap (λ (x : ℕ). leb x w && ltb w c.min.result) e ∙ ap (λ (x : ℕ). leb (begun - 1) w && ltb w x) m ∙ ap (λ (x : Bool). leb (begun - 1) w && x) (same_end w end words within)
    ∙ covers places begun end c.args.range.from c.args.range.to c.if-range.false
    (IsPartitionPoint-from_clause (λ n. leb n c.args.range.from) places begun c.partition_point-begun.ensures.partitioned (IsPartitionedBy-leb (λ n. n) places c.args.range.from c.requires.rising) (λ a r q h. search rules))
    (IsPartitionPoint-from_clause (λ n. ltb n c.args.range.to) places end c.partition_point-end.ensures.partitioned (IsPartitionedBy-ltb (λ n. n) places c.args.range.to c.requires.rising) (λ a r q h. search rules))
    w k
