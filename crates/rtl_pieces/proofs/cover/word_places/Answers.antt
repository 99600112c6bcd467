use Rattle.std.proofs.Common.{◌≡◌, subst, sym, arith}
use Rattle.std.specs.List.Sorted.{IsNonDecreasing}
use Rattle.std.proofs.lemmas.Grind.{common_steps}
use Rattle.rtl_pieces.specs.Cover.{places_of}
use Rattle.rtl_pieces.proofs.Covering.{places_rise}
use Rattle.rtl_pieces.proofs.cover.word_places.Goals as goal

pub returns-then-word-clause-rising : goal.returns-then-word-clause-rising
returns-then-word-clause-rising c =
    let e : c.push.new.self.items ≡ places_of 0 c.args.layout.now.words.items = grind (arith, common_steps) in
    subst IsNonDecreasing (sym e) (places_rise c.args.layout.now.words.items)

pub returns-clause-rising : goal.returns-clause-rising
returns-clause-rising c =
    let e : c.push-2.new.self.items ≡ places_of 0 c.args.layout.now.words.items = grind (arith, common_steps) in
    subst IsNonDecreasing (sym e) (places_rise c.args.layout.now.words.items)
