-- The codes of a small design: `t[3:0] = a + 1`, and two clocked processes that write q[3:0] and q[7:4].
use Rattle.std.proofs.Common.{◌≡◌, ℕ, zero, suc, ◌+◌, ◌*◌, ◌<◌, Bool, true, false, List, [], ◌∷◌, None, pos, negsuc, refl, ap, arith}
use Rattle.std.specs.Prelude.{◌==◌}
use Rattle.std.proofs.lemmas.Bool.{false≢true, true≢false}
use Rattle.vs_base.specs.Number.{Number}
use Rattle.dpi_host.specs.HostMachine.{Answer, After}
use Rattle.rtl_ir.specs.declared.design.Proc.{Proc}
use Rattle.rtl_ir.specs.declared.design.ProcKind.{ProcKind}
use Rattle.rtl_ir.specs.declared.design.ProcKind.TheVariants.{Comb, Clocked}
use Rattle.rtl_pieces.specs.declared.layout.Word.{Word}
use Rattle.task_eval.specs.declared.op.Op.{Op}
use Rattle.task_eval.specs.declared.op.Op.TheVariants as op
use Rattle.task_eval.specs.declared.op.Two.TheVariants as two
use Rattle.task_eval.specs.declared.index.Elements.{Elements}
use Rattle.task_eval.specs.Codes.{Ops}
use Rattle.task_eval.specs.Course.{course_of}
use Rattle.task_eval.specs.Buses.{Outside, run}
use Rattle.task_code.specs.declared.here.Own.{Own}
use Rattle.task_code.specs.declared.sole.Sole.TheVariants as sole
use Rattle.task_code.specs.declared.stand.Part.TheVariants as part
use Rattle.task_code.specs.declared.stand.Stand.TheVariants as stand
use Rattle.task_code.specs.declared.tail.Limits.{Limits}
use Rattle.task_code.specs.declared.tail.Mark.{Mark}
use Rattle.task_code.specs.Reads.{IsRead}
use Rattle.task_code.specs.Soles.{IsSole}
use Rattle.task_code.specs.Tails.{StoresIn, Lands, IsTail}
use Rattle.task_code.specs.Compiled.{Each, is_shadow, clocked_from, IsBody, IsCommit}

-- ---- word 1 holds a, word 2 t, the words 3 and 4 the halves of q, and 5 and 6 are their shadows

abbrev word : ℕ → ℕ → ℕ → Bool → Word
word var bit len shadow = record { holds = record { mem = false; item = var; element = 0; bit = bit }; len = len; shadow = shadow }

abbrev words : List Word
words = word 0 0 0 false ∷ word 0 0 8 false ∷ word 1 0 8 false ∷ word 2 0 4 false ∷ word 2 4 4 false ∷ word 2 0 4 true ∷ word 2 4 4 true ∷ []

abbrev process : ProcKind → Proc
process kind = record { kind = kind; body = []; at = record { file = 0; line = 1; col = 1 } }

abbrev comb : Proc
comb = process Comb

abbrev clocked : Proc
clocked = process (Clocked (record { var = 3; rising = true } ∷ []))

abbrev bits : ℕ → ℕ → Number
bits width value = record { width = width; value = value }

abbrev code : ℕ → List Op → Ops
code stack ops = record { ops = ops; stack = stack }

abbrev outside : List ℕ → Outside
outside values = record { words = values; fixed = []; state = []; ids = []; widths = []; made = None }

-- ---- commits

-- the processes 0 and 2 have a commit, and these two codes stand behind those of the three processes
which_have_commits : clocked_from 0 (clocked ∷ comb ∷ clocked ∷ []) ≡ 0 ∷ 2 ∷ []
which_have_commits = refl

abbrev is_low : Word → Bool
is_low w = w.holds.bit == 0

-- the process that writes q[3:0] has the shadow of q[3:0] copied, and the other one not
one_half : IsCommit words is_low (code 1 (op.Load 5 4 ∷ op.Store 3 4 ∷ []))
one_half = (3, [], refl, refl, refl)

abbrev copies : Ops
copies = code 1 (op.Load 5 4 ∷ op.Store 3 4 ∷ op.Load 6 4 ∷ op.Store 4 4 ∷ [])

-- one that writes both has both copied, the one with the lower number first
both_halves : IsCommit words (λ w. true) copies
both_halves = (3, op.Load 6 4 ∷ op.Store 4 4 ∷ [], refl, refl, (4, [], refl, refl, refl))

abbrev loaded_first : List Op → ℕ
loaded_first (op.Load w width ∷ more) = w
loaded_first _ = 0

not_the_other_way_round : IsCommit words (λ w. true) (code 1 (op.Load 6 4 ∷ op.Store 4 4 ∷ op.Load 5 4 ∷ op.Store 3 4 ∷ [])) → ⊥
not_the_other_way_round c = (let e : 6 ≡ 5 = ap loaded_first c.3 in omega (arith, e))

nothing_is_written : IsCommit words (λ w. false) (code 0 [])
nothing_is_written = refl

-- run, a commit makes the words what their shadows are
committed : (answer : Answer) (after : After) → run answer after (course_of copies) (outside (0 ∷ 7 ∷ 8 ∷ 1 ∷ 2 ∷ 3 ∷ 4 ∷ [])) ≡ outside (0 ∷ 7 ∷ 8 ∷ 3 ∷ 4 ∷ 3 ∷ 4 ∷ [])
committed answer after = refl

-- ---- bodies

-- t[3:0] = a + 1
abbrev adds : Ops
adds = code 3 (op.Load 1 8 ∷ op.Push (bits 8 1) ∷ op.Two two.Add 8 false ∷ op.Load 2 8 ∷ op.Pick 1 ∷ op.Slice (pos 0) 4 ∷ op.Place (pos 0) ∷ op.Store 2 8 ∷ op.Drop ∷ [])

-- the carry of 0x2f + 1 is lost, and t[7:4] stays
added : (answer : Answer) (after : After) → run answer after (course_of adds) (outside (0 ∷ 0x2f ∷ 0xa5 ∷ [])) ≡ outside (0 ∷ 0x2f ∷ 0xa0 ∷ [])
added answer after = refl

stores_a_word : IsBody words comb adds
stores_a_word = (tt, (tt, (tt, (tt, (tt, (tt, (tt, (refl, (tt, tt)))))))))

-- q[3:0] <= a, in the word and in its shadow
abbrev keeps_in : ℕ → Ops
keeps_in w = code 1 (op.Load 1 8 ∷ op.Extend 4 false ∷ op.Store w 4 ∷ [])

stores_a_shadow : IsBody words clocked (keeps_in 5)
stores_a_shadow = (tt, (tt, (refl, tt)))

-- a clocked process may not store the word before the commits, and another one no shadow
no_word_when_clocked : IsBody words clocked (keeps_in 3) → ⊥
no_word_when_clocked b = false≢true b.1.1.0

no_shadow_else : IsBody words comb (keeps_in 5) → ⊥
no_shadow_else b = true≢false b.1.1.0

-- no process goes without a code
one_code_each : Each (IsBody words) (comb ∷ clocked ∷ []) (adds ∷ keeps_in 5 ∷ [])
one_code_each = (stores_a_word, (stores_a_shadow, tt))

none_is_left_out : Each (IsBody words) (comb ∷ clocked ∷ []) (adds ∷ []) → ⊥
none_is_left_out e = e.1

-- ---- m[i] <= 7, where the words 1 and 2 are those of two elements, and 3 and 4 their shadows

abbrev element : ℕ → Bool → Word
element k shadow = record { holds = record { mem = true; item = 0; element = k; bit = 0 }; len = 8; shadow = shadow }

abbrev memory : List Word
memory = word 0 0 0 false ∷ element 0 false ∷ element 1 false ∷ element 0 true ∷ element 1 true ∷ []

abbrev shadows : ℕ → Elements
shadows count = record { base = 3; stride = 1; count = count; address = record { signed = false; low = pos 0 } }

abbrev stores_at : ℕ → Ops
stores_at count = code 2 (op.Push (bits 8 7) ∷ op.Push (bits 1 1) ∷ op.StoreAt (shadows count) 8 ∷ [])

-- whatever the address, it is a shadow that is stored
all_are_shadows : (k : ℕ) → k < 2 → is_shadow memory (3 + k * 1) ≡ true
all_are_shadows zero h = refl
all_are_shadows (suc zero) h = refl
all_are_shadows (suc (suc k)) h = absurd (omega (arith, h))

stores_an_element : IsBody memory clocked (stores_at 2)
stores_an_element = (tt, (tt, (all_are_shadows, tt)))

-- a third element would have no shadow
no_third_element : IsBody memory clocked (stores_at 3) → ⊥
no_third_element b = false≢true (b.1.1.0 2 (omega arith))

-- ---- what may be stored: shadows by a clocked process, and by what is not one the other words but the table's

abbrev limits : ℕ → ℕ → Limits
limits from to = record { words = 7; imports = 0; from = from; to = to }

the_last_shadow : StoresIn (limits 5 7) (op.Store 6 4)
the_last_shadow = (omega arith, omega arith)

not_the_table : StoresIn (limits 1 5) (op.Store 0 8) → ⊥
not_the_table s = (let h = s.0 in omega (arith, h))

-- ---- the end of a code: `if (c) t = a`, once c is on the stack

abbrev guarded : List Op
guarded = op.SkipIfZero 2 ∷ op.Load 1 8 ∷ op.Store 2 8 ∷ []

abbrev mark : ℕ → ℕ → Mark
mark left depth = record { left = left; depth = depth }

lands_behind : Lands 1 guarded (mark 0 0)
lands_behind = (omega arith, omega arith, refl)

-- no jump may go to the store, which would find no value
lands_on_no_store : Lands 1 guarded (mark 1 0) → ⊥
lands_on_no_store l = (let h = l.2.0.enough in omega (arith, h))

is_sound_at_both : IsTail 1 1 guarded (mark 0 0 ∷ []) (limits 1 5)
is_sound_at_both = record {
  deep = omega arith;
  sound = (
    record { enough = omega arith; room = omega arith; shaped = tt },
    (
      (
        record { enough = omega arith; room = omega arith; shaped = (omega arith, omega arith) },
        (record { enough = omega arith; room = omega arith; shaped = (omega arith, omega arith) }, refl),
      ),
      refl,
    ),
  );
  lands = (lands_behind, tt);
  within = (tt, (omega arith, (omega arith, tt)));
  stores = (tt, (tt, ((omega arith, omega arith), tt)));
}

-- ---- what one store writes: from 1 to 64 bits

a_whole_word : IsSole (sole.Word 4 64)
a_whole_word = (omega arith, omega arith)

no_word_of_no_bits : IsSole (sole.Word 0 0) → ⊥
no_word_of_no_bits s = (let h = s.0 in omega (arith, h))

no_word_of_more_than_64_bits : IsSole (sole.Word 4 65) → ⊥
no_word_of_more_than_64_bits s = (let h = s.1 in omega (arith, h))

-- ---- y = a at 128 bits: the words 1 and 2 hold a, and 3 and 4 hold y, the low bits first

abbrev copies_all : Ops
copies_all = code 2 (op.Load 2 64 ∷ op.Load 1 64 ∷ op.Join 64 64 ∷ op.Pick 0 ∷ op.Slice (pos 64) 64 ∷ op.Store 4 64 ∷ op.Pick 0 ∷ op.Store 3 64 ∷ op.Drop ∷ [])

-- both words are stored
copied_all : (answer : Answer) (after : After) → run answer after (course_of copies_all) (outside (0 ∷ 0x0123456789abcdef ∷ 0xfedcba9876543210 ∷ 5 ∷ 6 ∷ [])) ≡ outside (0 ∷ 0x0123456789abcdef ∷ 0xfedcba9876543210 ∷ 0x0123456789abcdef ∷ 0xfedcba9876543210 ∷ [])
copied_all answer after = refl

-- y[100:30] = 0 keeps the low 30 bits of word 3, and the high 27 of word 4
abbrev clears_a_part : Ops
clears_a_part = code 3 (op.Push (bits 71 0) ∷ op.Load 4 64 ∷ op.Pick 1 ∷ op.Slice (pos 0) 71 ∷ op.Place (negsuc 33) ∷ op.Store 4 64 ∷ op.Load 3 64 ∷ op.Pick 1 ∷ op.Slice (pos 0) 71 ∷ op.Place (pos 30) ∷ op.Store 3 64 ∷ op.Drop ∷ [])

cleared_a_part : (answer : Answer) (after : After) → run answer after (course_of clears_a_part) (outside (0 ∷ 1 ∷ 2 ∷ 0xffffffffffffffff ∷ 0xffffffffffffffff ∷ [])) ≡ outside (0 ∷ 1 ∷ 2 ∷ 0x3fffffff ∷ 0xffffffe000000000 ∷ [])
cleared_a_part answer after = refl

-- ---- y = m[a] at 128 bits: the words 1 and 2 hold a, 3 to 6 two elements, and 7 and 8 hold y

abbrev column : ℕ → Elements
column base = record { base = base; stride = 2; count = 2; address = record { signed = false; low = pos 0 } }

abbrev reads_an_element : Ops
reads_an_element = code 3 (op.Load 2 64 ∷ op.Load 1 64 ∷ op.Join 64 64 ∷ op.Extend 128 false ∷ op.Pick 0 ∷ op.LoadAt (column 4) 64 ∷ op.Pick 1 ∷ op.LoadAt (column 3) 64 ∷ op.Join 64 64 ∷ op.Place (pos 0) ∷ op.Pick 0 ∷ op.Slice (pos 64) 64 ∷ op.Store 8 64 ∷ op.Pick 0 ∷ op.Store 7 64 ∷ op.Drop ∷ [])

-- the element of address 1, of which no bit of the address is left
read_an_element : (answer : Answer) (after : After) → run answer after (course_of reads_an_element) (outside (0 ∷ 1 ∷ 0 ∷ 3 ∷ 4 ∷ 0xffffffffffffffff ∷ 0xfffffffffffffffe ∷ 7 ∷ 8 ∷ [])) ≡ outside (0 ∷ 1 ∷ 0 ∷ 3 ∷ 4 ∷ 0xffffffffffffffff ∷ 0xfffffffffffffffe ∷ 0xffffffffffffffff ∷ 0xfffffffffffffffe ∷ [])
read_an_element answer after = refl

-- 2 ^ 64 names none
read_no_element : (answer : Answer) (after : After) → run answer after (course_of reads_an_element) (outside (0 ∷ 0 ∷ 1 ∷ 3 ∷ 4 ∷ 5 ∷ 6 ∷ 7 ∷ 8 ∷ [])) ≡ outside (0 ∷ 0 ∷ 1 ∷ 3 ∷ 4 ∷ 5 ∷ 6 ∷ 0 ∷ 0 ∷ [])
read_no_element answer after = refl

-- ---- q <= a at 128 bits: the words 1 and 2 hold q, and 3 and 4 are their shadows

abbrev register : List Word
register = word 0 0 0 false ∷ word 0 0 64 false ∷ word 0 64 64 false ∷ word 0 0 64 true ∷ word 0 64 64 true ∷ []

both_words : IsCommit register (λ w. true) (code 1 (op.Load 3 64 ∷ op.Store 1 64 ∷ op.Load 4 64 ∷ op.Store 2 64 ∷ []))
both_words = (1, op.Load 4 64 ∷ op.Store 2 64 ∷ [], refl, refl, (2, [], refl, refl, refl))

abbrev ops_left : List Op → ℕ
ops_left [] = 0
ops_left (o ∷ more) = suc (ops_left more)

not_the_first_alone : IsCommit register (λ w. true) (code 1 (op.Load 3 64 ∷ op.Store 1 64 ∷ [])) → ⊥
not_the_first_alone (k, rest, is, same, (n, last, was, next, end)) = (let e : 2 ≡ suc (suc (ops_left rest)) = ap ops_left same in let f : ops_left rest ≡ suc (suc (ops_left last)) = ap ops_left next in omega (arith, e, f))

-- ---- n[5][7:0] of `logic [3:0] n [0:3]`

abbrev nibble : Own
nibble = record { width = 4; signed = false; lsb = 0; low = pos 0 }

-- eight bits are read, though the element would have four
all_bits_of_the_select : IsRead stand.Nowhere nibble (part.At (pos 0) 8) [] (op.Push (bits 8 0) ∷ [])
all_bits_of_the_select = refl

abbrev first_width : List Op → ℕ
first_width (op.Push n ∷ more) = n.width
first_width _ = 0

not_those_of_the_element : IsRead stand.Nowhere nibble (part.At (pos 0) 8) [] (op.Push (bits 4 0) ∷ []) → ⊥
not_those_of_the_element r = (let e : 4 ≡ 8 = ap first_width r in omega (arith, e))

-- n[5] has those of the element
no_select : IsRead stand.Nowhere nibble part.All [] (op.Push (bits 4 0) ∷ [])
no_select = refl
