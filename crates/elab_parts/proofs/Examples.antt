-- Paths, limits and connections of small designs.
use Rattle.std.specs.Prelude.{◌≡◌, [], ◌∷◌, Some, None, pos, neg_ℤ, codes, refl}
use Rattle.std.specs.Fmt.{digits}
use Rattle.sv_tree.specs.declared.token.Token.{Token}
use Rattle.sv_tree.specs.declared.tree.expr.Expr.{Expr}
use Rattle.sv_tree.specs.declared.tree.expr.Step.{Step}
use Rattle.vs_base.specs.declared.origin.Origin.{Origin}
use Rattle.elab_parts.specs.declared.stop.Counted.TheVariants as counted
use Rattle.elab_parts.specs.declared.stop.Stop.{Stop}
use Rattle.elab_parts.specs.declared.stop.Stop.TheVariants as stop
use Rattle.elab_parts.specs.Actuals.{Nothing, Value, Same, of_connection, in_order, place_of}
use Rattle.elab_parts.specs.Counting as counting
use Rattle.elab_parts.specs.Paths.{inner_path, turn_name, block_number}
use Rattle.elab_parts.specs.Stops.{◌or◌}

-- ---- paths

instance_in_the_top : inner_path (codes "top") (codes "u1") ≡ codes "top.u1"
instance_in_the_top = refl

third_turn : turn_name (codes "g") (pos 3) ≡ codes "g[3]"
unfolding digits
third_turn = refl

turn_below_0 : turn_name (codes "g") (neg_ℤ (pos 12)) ≡ codes "g[-12]"
unfolding digits
turn_below_0 = refl

first_block : block_number 0 1 ≡ codes "genblk1"
unfolding digits
first_block = refl

-- where `genblk1` and `genblk01` are taken
with_two_zeros : block_number 2 1 ≡ codes "genblk001"
unfolding digits
with_two_zeros = refl

-- ---- limits

instance_4_096 : counting.instance_fault (record counting.nothing_laid { instances = 4095 }) ≡ None
instance_4_096 = refl

instance_4_097 : counting.instance_fault (record counting.nothing_laid { instances = 4096 }) ≡ Some (stop.TooMany counted.Instances)
instance_4_097 = refl

-- a process with too many of both is told for its terms
terms_before_calls : counting.tally_fault counting.nothing_laid (counting.tally 1000001 1025) ≡ Some (stop.TooMany counted.Terms)
terms_before_calls = refl

calls_alone : counting.tally_fault counting.nothing_laid (counting.tally 1000000 1025) ≡ Some (stop.TooMany counted.Calls)
calls_alone = refl

both_at_the_limit : counting.tally_fault counting.nothing_laid (counting.tally 1000000 1024) ≡ None
both_at_the_limit = refl

turn_65_537 : (at : Origin) → counting.turn_fault (record counting.nothing_laid { turns = 65536 }) at ≡ Some (stop.LoopTurns at)
turn_65_537 at = refl

first_fault : (one other : Stop) → (Some one) or (Some other) ≡ Some one
first_fault one other = refl

-- ---- connections: `.p` is p, `.p()` nothing, `.p(e)` e

name_alone : (name dot : Token) → of_connection (record { dot = dot; name = name; value = None }) ≡ Same name
name_alone name dot = refl

empty_parentheses : (name dot opens closes : Token) → of_connection (record { dot = dot; name = name; value = Some (record { «open» = opens; value = None; close = closes }) }) ≡ Nothing
empty_parentheses name dot opens closes = refl

expression_in_parentheses : (name dot opens closes : Token) (e : Expr) → of_connection (record { dot = dot; name = name; value = Some (record { «open» = opens; value = Some e; close = closes }) }) ≡ Value e
expression_in_parentheses name dot opens closes e = refl

-- ---- in order: the first, the third, and none for a fourth port

first_of_three : (a : Expr) (b c : Step) → in_order a (b ∷ c ∷ []) 0 ≡ Value a
first_of_three a b c = refl

third_of_three : (a : Expr) (b c : Step) → in_order a (b ∷ c ∷ []) 2 ≡ Value c.operand
third_of_three a b c = refl

none_for_the_fourth : (a : Expr) (b c : Step) → in_order a (b ∷ c ∷ []) 3 ≡ Nothing
none_for_the_fourth a b c = refl

-- ---- by name: names 0 and 2 of the table are given, second and first

given_second : place_of (2 ∷ 0 ∷ 1 ∷ []) 0 ≡ 2
given_second = refl

not_given : place_of (2 ∷ 0 ∷ 1 ∷ []) 1 ≡ 0
not_given = refl

beyond_the_list : place_of (2 ∷ 0 ∷ 1 ∷ []) 7 ≡ 0
beyond_the_list = refl
