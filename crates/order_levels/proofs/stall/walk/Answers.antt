use Rattle.std.proofs.Common.{◌≡◌, ◌∙◌, ◌++◌, ◌<◌, ◌-◌, ◌+◌, ℕ, suc, true, false, Option, Some, [], ◌∷◌, sym, ap, subst, length, get_or, arith}
use Rattle.std.specs.Option.{IfSome}
use Rattle.std.proofs.lemmas.List.{length-set, get_or_read}
use Rattle.std.proofs.lemmas.Result.{IfOk-weaker}
use Rattle.plan_graph.specs.Graphs.{is_among}
use Rattle.order_levels.specs.Settling.{walk_turns, list_from, first_below}
use Rattle.order_levels.specs.Sets.{holder_in, unmarked}
use Rattle.order_levels.proofs.StallLemmas.{walk_none, walk_seen, walk_on, mark_more, first_within}
use Rattle.order_levels.proofs.stall.walk.Goals as goal

pub returns-in_default : goal.returns-in_default
returns-in_default c =
    let sources = c.args.sources.now in
    let holder = holder_in sources c.args.has_run.now in
    let left = suc (length sources) - c.loop-turn.turn in
    let walked = c.loop-turn.walked.items in
    c.new.ensures.items ∙ sym (walk_none left holder walked) ∙ sym (ap (walk_turns left holder walked) c.in_default.is) ∙ c.loop-turn.invariant.rest

pub returns-then-index : goal.returns-then-index
returns-then-index c =
    let sources = c.args.sources.now in
    let holder = holder_in sources c.args.has_run.now in
    let turn = c.loop-turn.turn in
    let left = suc (length sources) - turn in
    let walked = c.loop-turn.walked.items in
    let n = c.in-Some.n in
    let seen = c.loop-turn.seen.items in
    let place : n < length sources = subst (λ (o : Option ℕ). IfSome o (λ m. m < length sources)) c.in-Some.is c.loop-turn.invariant.within in
    let inside : n < length seen = let len = c.loop-turn.invariant.seen_len in omega arith in
    let had : is_among n walked ≡ true = sym (c.loop-turn.invariant.seen n place) ∙ sym (get_or_read seen n c.index.result.now inside c.index.ensures true) ∙ c.if-index.true in
    let is : left ≡ suc (length sources - turn) = let more = c.loop-turn-test.true in omega arith in
    let rest = sym (walk_seen left (length sources - turn) holder walked n is had) ∙ sym (ap (walk_turns left holder walked) c.in-Some.is) ∙ c.loop-turn.invariant.rest in
    IfOk-weaker c.list_from.result (λ v. v.items ≡ list_from n c.as_slice.result.now) (λ v. v.items ≡ walk_turns (suc (length sources)) holder [] (Some c.args.start))
    (λ v e. e ∙ ap (list_from n) c.as_slice.ensures.value ∙ rest) c.list_from.ensures

pub loop-turn-preserved : goal.loop-turn-preserved
loop-turn-preserved c =
    let sources = c.args.sources.now in
    let marks = c.args.has_run.now in
    let holder = holder_in sources marks in
    let turn = c.loop-turn.turn in
    let left = suc (length sources) - turn in
    let turns = suc (length sources) - (turn + 1) in
    let walked = c.loop-turn.walked.items in
    let n = c.in-Some.n in
    let seen = c.loop-turn.seen.items in
    let place : n < length sources = subst (λ (o : Option ℕ). IfSome o (λ m. m < length sources)) c.in-Some.is c.loop-turn.invariant.within in
    let inside : n < length seen = let len = c.loop-turn.invariant.seen_len in omega arith in
    let fresh : is_among n walked ≡ false = sym (c.loop-turn.invariant.seen n place) ∙ sym (get_or_read seen n c.index.result.now inside c.index.ensures true) ∙ c.if-index.false in
    let is : left ≡ suc turns = let more = c.loop-turn-test.true in omega arith in
    let pushed : c.push.new.self.items ≡ walked ++ n ∷ [] = c.in_ok-push.ensures.items in
    let list : c.as_slice-in-loop-turn.result.now ≡ get_or sources n [] = c.as_slice-in-loop-turn.ensures ∙ get_or_read sources n c.index-sources-n.result place c.index-sources-n.is [] in
    let next : c.first_holder-next.result ≡ holder n = c.first_holder-next.ensures ∙ (λ i. first_below (unmarked marks (list i)) (c.requires.marks i)) in
    record {
      rest =
          (λ i. walk_turns turns holder (pushed i) (next i)) ∙ walk_on left turns holder walked n is fresh
          ∙ sym (ap (walk_turns left holder walked) c.in-Some.is) ∙ c.loop-turn.invariant.rest;
      seen_len = length-set seen n true ∙ c.loop-turn.invariant.seen_len;
      seen = λ m less. mark_more seen walked n m inside (c.loop-turn.invariant.seen m less) ∙ ap (is_among m) (sym pushed);
      within = first_within (unmarked marks (get_or sources n [])) (length sources) c.first_holder-next.result next;
    }
