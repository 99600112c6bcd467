-- The definitions, worked out.
use Rattle.std.proofs.Common.{◌≡◌, ℕ, List, [], ◌∷◌, ◌++◌, Option, Some, None, Bool, true, false, refl, lit≤}
use Rattle.std.specs.Prelude.{codes}
use Rattle.std.specs.Fmt.{digits}
use Rattle.vs_base.specs.Number.{Number}
use Rattle.rtl_ir.specs.declared.design.Var.{Var}
use Rattle.rtl_ir.specs.declared.design.FlatScope.{FlatScope}
use Rattle.vcd_out.specs.declared.layout.Line.TheVariants.{Opens, Declares, Closes}
use Rattle.vcd_out.specs.Layout.{lines_of}
use Rattle.vcd_out.specs.Code.{code_of}
use Rattle.vcd_out.specs.Values.{value_line}
use Rattle.vcd_out.specs.Header.{segment, header_text}
use Rattle.vcd_out.specs.Changes.{order_of, change_text}

abbrev scope : List ℕ → Option ℕ → Bool → FlatScope
scope path parent block = record { path = path; parent = parent; block = block }

abbrev byte : ℕ → Number
byte value = record { width = 8; value = value }

abbrev bit : ℕ → Number
bit value = record { width = 1; value = value }

abbrev byte_var : List ℕ → ℕ → Var
byte_var name scope = record {
  path = [];
  name = name;
  width = 8;
  lsb = 0;
  signed = false;
  init = byte 0;
  scope = scope;
  some = lit≤ tt;
  most = lit≤ tt;
  init_width = refl;
}

abbrev bit_var : List ℕ → ℕ → Var
bit_var name scope = record {
  path = [];
  name = name;
  width = 1;
  lsb = 5;
  signed = false;
  init = bit 1;
  scope = scope;
  some = lit≤ tt;
  most = lit≤ tt;
  init_width = refl;
}

-- ---- codes

first_code : code_of 0 ≡ codes "!"
unfolding code_of
first_code = refl

last_code_of_one_character : code_of 93 ≡ codes "~"
unfolding code_of
last_code_of_one_character = refl

first_code_of_two_characters : code_of 94 ≡ codes "!!"
unfolding code_of
first_code_of_two_characters = refl

next_code : code_of 95 ≡ 34 ∷ codes "!"
unfolding code_of
next_code = refl

after_all_that_end_in_the_first : code_of 188 ≡ 33 ∷ 34 ∷ []
unfolding code_of
after_all_that_end_in_the_first = refl

-- ---- values

a_bit : value_line 0 (bit 1) ≡ codes "1!\n"
unfolding code_of
a_bit = refl

a_byte : value_line 1 (byte 165) ≡ codes "b10100101 " ++ 34 ∷ codes "\n"
unfolding code_of
a_byte = refl

-- ---- segments

segment_of_the_top : segment (codes "top") ≡ codes "top"
segment_of_the_top = refl

segment_of_a_block : segment (codes "top.u.g[10]") ≡ codes "g[10]"
segment_of_a_block = refl

-- ---- the text of a top with two variables

abbrev two_vars : List Var
two_vars = byte_var (codes "a") 0 ∷ byte_var (codes "y") 0 ∷ []

abbrev top : List FlatScope
top = scope (codes "top") None false ∷ []

header_of_two : header_text two_vars top
    ≡ codes "$timescale 1ns $end\n$scope module top $end\n$var wire 8 ! a [7:0] $end\n$var wire 8 "
    ++ (34 ∷ codes " y [7:0] $end\n$upscope $end\n$enddefinitions $end\n#0\n$dumpvars\nb00000000 !\nb00000000 "
    ++ (34 ∷ codes "\n$end\n"))
unfolding code_of digits
header_of_two = refl

one_changes : change_text two_vars top (byte 0 ∷ byte 0 ∷ []) (byte 255 ∷ byte 0 ∷ []) 1 ≡ codes "#1\nb11111111 !\n"
unfolding code_of digits
one_changes = refl

nothing_changes : change_text two_vars top (byte 255 ∷ byte 0 ∷ []) (byte 255 ∷ byte 0 ∷ []) 2 ≡ codes "#2\n"
unfolding digits
nothing_changes = refl

-- ---- a scope stands in a block, after the block's neighbour; the last variable is the second of the text

abbrev scopes : List FlatScope
scopes = scope (codes "t") None false ∷ scope (codes "t.g") (Some 0) true ∷ scope (codes "t.v") (Some 0) false ∷ scope (codes "t.g.u") (Some 1) false ∷ []

abbrev vars : List Var
vars = byte_var (codes "a") 0 ∷ bit_var (codes "p") 2 ∷ byte_var (codes "q") 3 ∷ []

lines_of_scopes : lines_of vars scopes
    ≡ Opens 0 ∷ Declares 0 ∷ Opens 1 ∷ Opens 3 ∷ Declares 2 ∷ Closes ∷ Closes ∷ Opens 2 ∷ Declares 1 ∷ Closes ∷ Closes ∷ []
lines_of_scopes = refl

order_of_scopes : order_of vars scopes ≡ 0 ∷ 2 ∷ 1 ∷ []
order_of_scopes = refl

changes_in_that_order : change_text vars scopes (byte 0 ∷ bit 0 ∷ byte 0 ∷ []) (byte 0 ∷ bit 1 ∷ byte 3 ∷ []) 12
    ≡ codes "#12\nb00000011 " ++ (34 ∷ codes "\n1#\n")
unfolding code_of digits
changes_in_that_order = refl

-- a block without variables has its lines, and one bit has no range
header_of_a_bit : header_text (bit_var (codes "p") 1 ∷ []) (scope (codes "t") None false ∷ scope (codes "t.genblk1") (Some 0) true ∷ scope (codes "t.genblk1.e") (Some 1) true ∷ [])
    ≡ codes "$timescale 1ns $end\n$scope module t $end\n$scope begin genblk1 $end\n$var wire 1 ! p $end\n$scope begin e $end\n$upscope $end\n$upscope $end\n$upscope $end\n$enddefinitions $end\n#0\n$dumpvars\n1!\n$end\n"
unfolding code_of digits
header_of_a_bit = refl
