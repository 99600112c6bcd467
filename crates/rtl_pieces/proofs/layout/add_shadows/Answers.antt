use Rattle.std.proofs.Common.{◌≡◌, ◌≤◌, ◌<◌, ◌+◌, length, get_or, drop, length-append, ap, ◌∙◌, arith}
use Rattle.rtl_pieces.specs.Line.{place_of}
use Rattle.rtl_pieces.specs.Words.{noted, shadow_if, is_clocked, shadows_of}
use Rattle.rtl_pieces.proofs.Counting.{step, shadow_next, same_front}
use Rattle.rtl_pieces.proofs.layout.add_shadows.Goals as goal

pub loop-number-preserved : goal.loop-number-preserved
loop-number-preserved c =
    let line = c.args.line.now in
    let procs = c.args.procs.now in
    let start = c.args.words.now.items in
    let mid = c.loop-number.words.items in
    let n = c.loop-number.number in
    let word = c.index.result.now in
    let within : n < length start = omega (arith, c.loop-number-test.true, c.len-number-end.ensures) in
    let is : word ≡ get_or start n word = c.index.ensures ∙ same_front mid start (shadows_of line procs (drop n start)) (shadows_of line procs (drop 1 start)) n word within c.loop-number.invariant.2 c.loop-number.invariant.0 in
    let writer = noted c.args.writers.now (place_of line word.holds) in
    let this = shadow_if (is_clocked procs writer) word in
    let new = c.add_shadow.new.words.items in
    let k = c.in_ok-add_shadow.ensures.words in
    let more : length start ≤ length new = omega (arith, ap length k, length-append mid this, c.loop-number.invariant.2) in (
      step mid new this (shadows_of line procs (drop (n + 1) start)) (shadows_of line procs (drop n start)) _ k (shadow_next line procs start n word writer within is (c.requires.writers (place_of line word.holds))) c.loop-number.invariant.0,
      c.in_ok-add_shadow.ensures.few,
      more,
    )
