-- What an instance gives to a parameter or a port, in order or by name (IEEE 1800-2017 23.3.2, 23.10.2).
use Rattle.std.specs.Prelude.{◌≡◌, ℕ, zero, suc, ◌+◌, ◌-◌, ◌^◌, min, List, [], ◌∷◌, map, slice_get, slice_set, Option, Some, None, unwrap_or}
use Rattle.sv_tree.specs.declared.token.Token.{Token}
use Rattle.sv_tree.specs.declared.tree.expr.Args.TheVariants as args
use Rattle.sv_tree.specs.declared.tree.expr.Expr.{Expr}
use Rattle.sv_tree.specs.declared.tree.expr.Step.{Step}
use Rattle.sv_tree.specs.declared.tree.item.Connected.{Connected}
use Rattle.sv_tree.specs.declared.tree.item.Connection.{Connection}
use Rattle.sv_tree.specs.declared.tree.item.Connections.{Connections}
use Rattle.sv_tree.specs.declared.tree.item.Connections.TheVariants as connections
use Rattle.sv_tree.specs.declared.tree.list.CommaList.{CommaList}
use Rattle.elab_parts.specs.declared.given.Given.{Given}
use Rattle.elab_parts.specs.declared.given.Given.TheVariants as given
use Rattle.elab_parts.specs.declared.given.List.{List as Lent}
use Rattle.elab_parts.specs.declared.given.List.TheVariants as lent
use Rattle.elab_parts.specs.declared.given.Places.{Places}

-- nothing, an expression, or the name itself: `.p` means `.p(p)`
pub data Actual : Type 0 where
  Nothing : Actual
  Value : Expr → Actual
  Same : Token → Actual

abbrev pub actual : Given → Actual
actual given.Nothing = Nothing
actual (given.Value e) = Value e.now
actual (given.Same name) = Same name

-- ---- a list: none, in order, or by name

abbrev pub IsListOf : Connections → Lent → Type 0
IsListOf c lent.Empty = c ≡ connections.Ordered args.Empty
IsListOf c (lent.Ordered first more) = c ≡ connections.Ordered (args.Listed first.now more.now)
IsListOf c (lent.Named named) = c ≡ connections.Named named.now

-- ---- one connection: `.p(e)`, `.p()`, `.p`

abbrev pub in_parentheses : Option Expr → Actual
in_parentheses None = Nothing
in_parentheses (Some e) = Value e

abbrev pub after_name : Token → Option Connected → Actual
after_name name None = Same name
after_name name (Some c) = in_parentheses c.value

abbrev pub of_connection : Connection → Actual
of_connection c = after_name c.name c.value

-- ---- in order, counted from 0

abbrev pub of_step : Option Step → Actual
of_step None = Nothing
of_step (Some s) = Value s.operand

abbrev pub in_order : Expr → List Step → ℕ → Actual
in_order first more zero = Value first
in_order first more (suc k) = of_step (slice_get more k)

-- ---- by name: each name of the table has its place among the connections, counted from 1, where 0 is none

abbrev pub places_in : Places → List ℕ
places_in p = p.places.items

abbrev pub place_of : List ℕ → ℕ → ℕ
place_of places name = unwrap_or (slice_get places name) 0

abbrev pub connections_in : CommaList Connection → List Connection
connections_in list = list.first ∷ map (λ j. j.item) list.more

abbrev pub by_name : Lent → List Connection
by_name lent.Empty = []
by_name (lent.Ordered first more) = []
by_name (lent.Named list) = connections_in list.now

-- up to the greatest number of 32 bits
abbrev pub next_place : ℕ → ℕ
next_place k = min (k + 1) (2 ^ 32 - 1)

-- connections with their places from one on; of a name that stands twice the last counts
abbrev pub placed_from : ℕ → List Connection → List ℕ → List ℕ
placed_from k [] places = places
placed_from k (c ∷ more) places = placed_from (next_place k) more (slice_set places c.name.name.0 k)

abbrev pub filled : Lent → List ℕ → List ℕ
filled list places = placed_from 1 (by_name list) places

abbrev pub without : List Connection → List ℕ → List ℕ
without [] places = places
without (c ∷ more) places = without more (slice_set places c.name.name.0 0)

abbrev pub cleared : Lent → List ℕ → List ℕ
cleared list places = without (by_name list) places

abbrev pub at_place : List Connection → ℕ → Option Connection
at_place list zero = None
at_place list (suc k) = slice_get list k

-- the connection of a name
abbrev pub named : Lent → List ℕ → ℕ → Option Connection
named list places name = at_place (by_name list) (place_of places name)

-- ---- what a list gives to the parameter or port of a name and a number

abbrev pub of_connection_if : Option Connection → Actual
of_connection_if None = Nothing
of_connection_if (Some c) = of_connection c

abbrev pub given_in : Lent → List ℕ → ℕ → ℕ → Actual
given_in lent.Empty places name number = Nothing
given_in (lent.Ordered first more) places name number = in_order first.now more.now number
given_in (lent.Named list) places name number = of_connection_if (named (lent.Named list) places name)
