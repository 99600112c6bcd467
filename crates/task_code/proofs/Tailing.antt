-- What is put to the front of the end of a code keeps what its type keeps.
use Rattle.std.proofs.Common.{◌≡◌, ℕ, zero, suc, ◌+◌, ◌-◌, ◌<◌, ◌≤◌, true, List, [], ◌∷◌, ◌++◌, length, reverse, map, slice_index, get_or, refl, sym, ap, subst, arith, ◌∙◌}
use Rattle.std.proofs.lemmas.Bool.{false≢true}
use Rattle.std.proofs.lemmas.List.{reverse-append, length-reverse, length-map, get_or-reverse, get_or-map}
use Rattle.task_eval.specs.declared.op.Op.{Op}
use Rattle.task_eval.specs.declared.op.Op.TheVariants as op
use Rattle.task_eval.specs.Soundness.{takes, puts, IsShaped, IsFit, AllWays, IsSoundFrom, OpWithin}
use Rattle.task_eval.specs.SoundLaws.{sound_more}
use Rattle.task_code.specs.declared.tail.Limits.{Limits}
use Rattle.task_code.specs.declared.tail.Mark.{Mark}
use Rattle.task_code.specs.Tails.{is_plain, StoresIn, Lands, AllLand, IsTail, depth_at}

-- an op that skips nothing has one way on
plain_ways : (o : Op) (Way : ℕ → Type 0) → is_plain o ≡ true → Way 0 → AllWays o Way
plain_ways (op.Push n) Way e w = w
plain_ways (op.Load word width) Way e w = w
plain_ways (op.LoadAt x width) Way e w = w
plain_ways (op.Store word width) Way e w = w
plain_ways (op.StoreAt x width) Way e w = w
plain_ways (op.Slice at width) Way e w = w
plain_ways (op.SliceAt i width) Way e w = w
plain_ways (op.Place at) Way e w = w
plain_ways (op.PlaceAt i) Way e w = w
plain_ways (op.Extend width signed) Way e w = w
plain_ways (op.One o) Way e w = w
plain_ways (op.Two o width signed) Way e w = w
plain_ways (op.Join high low) Way e w = w
plain_ways (op.Repeat times width) Way e w = w
plain_ways (op.Pick below) Way e w = w
plain_ways op.Drop Way e w = w
plain_ways (op.Skip n) Way e w = absurd (false≢true e)
plain_ways (op.SkipIfZero n) Way e w = absurd (false≢true e)
plain_ways (op.SkipIfTrue n) Way e w = absurd (false≢true e)
plain_ways (op.Call import count width) Way e w = w

-- what is put last into the list stands first in the code
front : (items items' : List Op) (o : Op) → items' ≡ items ++ o ∷ [] → reverse items' ≡ o ∷ reverse items
front items items' o e = ap reverse e ∙ reverse-append items (o ∷ [])

-- jumps land where they landed
lands_on : (room room' : ℕ) (o : Op) (ops : List Op) (marks : List Mark) → room ≤ room' → AllLand room ops marks → AllLand room' (o ∷ ops) marks
lands_on room room' o ops [] h l = tt
lands_on room room' o ops (m ∷ more) h l =
    let within = l.0.0 in
    let deep = l.0.1 in
    let e : suc (length ops - m.left) ≡ length (o ∷ ops) - m.left = omega arith in (
      (omega arith, omega arith, subst (λ n. IsSoundFrom room' (o ∷ ops) n m.depth) e (sound_more room room' ops (length ops - m.left) m.depth h l.0.2)),
      lands_on room room' o ops more h l.1,
    )

-- an op whose ways on are sound
put : (room room' depth next : ℕ) (ops : List Op) (marks : List Mark) (limits : Limits) (o : Op)
    → IsTail room depth ops marks limits → room ≤ room' → next ≤ room' → IsFit room' o next → AllWays o (λ n. IsSoundFrom room' ops n (next - takes o + puts o))
    → OpWithin limits.words limits.imports o → StoresIn limits o → IsTail room' next (o ∷ ops) marks limits
put room room' depth next ops marks limits o t more deep fit ways within stores =
    record { deep = deep; sound = (fit, ways); lands = lands_on room room' o ops marks more t.lands; within = (within, t.within); stores = (stores, t.stores) }

-- an op that skips nothing
pub put_plain : (room room' depth next taken given : ℕ) (items items' : List Op) (marks : List Mark) (limits : Limits) (o : Op)
    → IsTail room depth (reverse items) marks limits → items' ≡ items ++ o ∷ [] → room ≤ room' → next ≤ room'
    → is_plain o ≡ true → takes o ≡ taken → puts o ≡ given → IsShaped o → OpWithin limits.words limits.imports o → StoresIn limits o
    → given ≤ depth → next ≡ depth - given + taken → IsTail room' next (reverse items') marks limits
put_plain room room' depth next taken given items items' marks limits o t e more deep plain is_taken is_given shaped within stores enough is_next =
    let same : next - takes o + puts o ≡ depth = omega (arith, is_taken, is_given, enough, is_next) in
    let fit : IsFit room' o next = record { enough = omega (arith, is_taken, is_next); room = let d = t.deep in omega (arith, same, d, more); shaped = shaped } in
    let sound : IsSoundFrom room' (reverse items) 0 (next - takes o + puts o) = subst (IsSoundFrom room' (reverse items) 0) (sym same) (sound_more room room' (reverse items) 0 depth more t.sound) in
    subst (λ ops. IsTail room' next ops marks limits) (sym (front items items' o e))
    (put room room' depth next (reverse items) marks limits o t more deep fit (plain_ways o (λ n. IsSoundFrom room' (reverse items) n (next - takes o + puts o)) plain sound) within stores)

-- the mark of a number
pub mark_lands : (room : ℕ) (ops : List Op) (marks : List Mark) (n : ℕ) (none : Mark) → n < length marks → AllLand room ops marks → Lands room ops (get_or marks n none)
mark_lands room ops [] n none h l = absurd (omega arith)
mark_lands room ops (m ∷ more) zero none h l = l.0
mark_lands room ops (m ∷ more) (suc n) none h l = mark_lands room ops more n none (omega arith) l.1

-- a jump to a mark
pub put_skip : (room depth n : ℕ) (items items' : List Op) (marks : List Mark) (limits : Limits) (m : Mark)
    → IsTail room depth (reverse items) marks limits → items' ≡ items ++ op.Skip n ∷ [] → Lands room (reverse items) m → n ≡ length (reverse items) - m.left
    → IsTail room m.depth (reverse items') marks limits
put_skip room depth n items items' marks limits m t e lands is_n =
    let same : m.depth - 0 + 0 ≡ m.depth = omega arith in
    let fit : IsFit room (op.Skip n) m.depth = record { enough = omega arith; room = let d = lands.1 in omega arith; shaped = tt } in
    let sound : IsSoundFrom room (reverse items) n (m.depth - 0 + 0) = subst (λ k. IsSoundFrom room (reverse items) k (m.depth - 0 + 0)) (sym is_n) (subst (IsSoundFrom room (reverse items) (length (reverse items) - m.left)) (sym same) lands.2) in
    subst (λ ops. IsTail room m.depth ops marks limits) (sym (front items items' (op.Skip n) e))
    (put room room depth m.depth (reverse items) marks limits (op.Skip n) t (omega arith) lands.1 fit sound tt tt)

-- the mark of a number stands so far from the end of the list
named_mark : (items : List Mark) (n len : ℕ) (m : Mark) → n < length items → len ≡ length items → m ≡ get_or items (len - 1 - n) m → get_or (reverse items) n m ≡ m
named_mark items n len m h e is = get_or-reverse items n m h ∙ ap (λ k. get_or items (k - 1 - n) m) (sym e) ∙ sym is

pub named_lands : (room : ℕ) (ops : List Op) (items : List Mark) (n len : ℕ) (m : Mark) → n < length items → len ≡ length items → m ≡ get_or items (len - 1 - n) m → AllLand room ops (reverse items) → Lands room ops m
named_lands room ops items n len m h e is l =
    subst (Lands room ops) (named_mark items n len m h e is) (mark_lands room ops (reverse items) n m (let r = length-reverse items in omega (arith, r, h)) l)

pub named_depth : (items : List Mark) (n len : ℕ) (m : Mark) → n < length items → len ≡ length items → m ≡ get_or items (len - 1 - n) m → m.depth ≡ slice_index (map depth_at (reverse items)) n
named_depth items n len m h e is =
    sym (get_or-map depth_at (reverse items) n m 0 (let r = length-reverse items in omega (arith, r, h)) ∙ ap depth_at (named_mark items n len m h e is))

pub length_marks : (items : List Mark) → length (map depth_at (reverse items)) ≡ length items
length_marks items = length-map (reverse items) depth_at ∙ length-reverse items

-- a test with a jump to a mark
put_test : (room room' depth n : ℕ) (items items' : List Op) (marks : List Mark) (limits : Limits) (m : Mark) (o : Op)
    → (takes o ≡ 1) → (puts o ≡ 0) → IsShaped o → OpWithin limits.words limits.imports o → StoresIn limits o
    → ((Way : ℕ → Type 0) → Way 0 → Way n → AllWays o Way)
    → IsTail room depth (reverse items) marks limits → items' ≡ items ++ o ∷ [] → Lands room (reverse items) m → n ≡ length (reverse items) - m.left → m.depth ≡ depth
    → room ≤ room' → depth + 1 ≤ room' → IsTail room' (depth + 1) (reverse items') marks limits
put_test room room' depth n items items' marks limits m o one none shaped within stores ways t e lands is_n is_depth more deep =
    let same : depth + 1 - takes o + puts o ≡ depth = omega (arith, one, none) in
    let fit : IsFit room' o (depth + 1) = record { enough = omega (arith, one); room = omega (arith, same, deep); shaped = shaped } in
    let Way : ℕ → Type 0 = λ k. IsSoundFrom room' (reverse items) k (depth + 1 - takes o + puts o) in
    let near : Way 0 = subst (IsSoundFrom room' (reverse items) 0) (sym same) (sound_more room room' (reverse items) 0 depth more t.sound) in
    let there : IsSoundFrom room' (reverse items) n depth = subst (λ k. IsSoundFrom room' (reverse items) k depth) (sym is_n) (subst (IsSoundFrom room' (reverse items) (length (reverse items) - m.left)) is_depth (sound_more room room' (reverse items) (length (reverse items) - m.left) m.depth more lands.2)) in
    let far : Way n = subst (IsSoundFrom room' (reverse items) n) (sym same) there in
    subst (λ ops. IsTail room' (depth + 1) ops marks limits) (sym (front items items' o e))
    (put room room' depth (depth + 1) (reverse items) marks limits o t more deep fit (ways Way near far) within stores)

pub put_zero : (room room' depth next n : ℕ) (items items' : List Op) (marks : List Mark) (limits : Limits) (m : Mark)
    → IsTail room depth (reverse items) marks limits → items' ≡ items ++ op.SkipIfZero n ∷ [] → Lands room (reverse items) m → n ≡ length (reverse items) - m.left → m.depth ≡ depth
    → room ≤ room' → next ≡ depth + 1 → next ≤ room' → IsTail room' next (reverse items') marks limits
put_zero room room' depth next n items items' marks limits m t e lands is_n is_depth more is_next deep =
    subst (λ d. IsTail room' d (reverse items') marks limits) (sym is_next)
    (put_test room room' depth n items items' marks limits m (op.SkipIfZero n) refl refl tt tt tt (λ Way a b. (a, b)) t e lands is_n is_depth more (omega (arith, is_next, deep)))

pub put_true : (room room' depth next n : ℕ) (items items' : List Op) (marks : List Mark) (limits : Limits) (m : Mark)
    → IsTail room depth (reverse items) marks limits → items' ≡ items ++ op.SkipIfTrue n ∷ [] → Lands room (reverse items) m → n ≡ length (reverse items) - m.left → m.depth ≡ depth
    → room ≤ room' → next ≡ depth + 1 → next ≤ room' → IsTail room' next (reverse items') marks limits
put_true room room' depth next n items items' marks limits m t e lands is_n is_depth more is_next deep =
    subst (λ d. IsTail room' d (reverse items') marks limits) (sym is_next)
    (put_test room room' depth n items items' marks limits m (op.SkipIfTrue n) refl refl tt tt tt (λ Way a b. (a, b)) t e lands is_n is_depth more (omega (arith, is_next, deep)))
