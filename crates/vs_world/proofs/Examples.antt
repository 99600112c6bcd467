-- The definitions at small values.
use Rattle.std.proofs.Common.{◌≡◌, ◌-◌, ◌^◌, lit≤, true, false, [], ◌∷◌, Some, refl, inl}
use Rattle.std.specs.Prelude.{codes}
use Rattle.vs_world.specs.declared.world.Stream.TheVariants.{Out, Errors, Vcd}
use Rattle.vs_world.specs.declared.memory.Op.TheVariants.{Read, Create, Write}
use Rattle.vs_world.specs.Outside.{appended, stream_bytes, IsCreatable, Rose}
use Rattle.vs_world.specs.Memory.{Memory, fresh, is_planned, called, read_size, after_read, is_write_failing, after_write, is_create_failing, after_create}

-- no files; calls move two bytes, streams hold three, and the second read and the first creation are to fail
small : Memory
small = fresh [] 2 3 (record { op = Read; nth = 2 } ∷ record { op = Create; nth = 1 } ∷ [])

one_byte : stream_bytes Errors (appended Errors (codes "b") (appended Errors (codes "a") small.written)) ≡ codes "ab"
unfolding small
one_byte = refl

other_stream : stream_bytes Out (appended Errors (codes "b") small.written) ≡ []
unfolding small
other_stream = refl

first_read : is_planned Read small ≡ false
unfolding small
first_read = refl

second_read : is_planned Read (called Read small) ≡ true
unfolding small
second_read = refl

third_read : is_planned Read (called Read (called Read small)) ≡ false
unfolding small
third_read = refl

-- writes are counted apart
read_after_write : is_planned Read (called (Write Out) small) ≡ false
unfolding small
read_after_write = refl

-- a missing file raises `absent` alone, unless the read was planned to fail
missing : (after_read (codes "a") small).absent ≡ 1
unfolding small
missing = refl

no_fault : (after_read (codes "a") small).faults ≡ 0
unfolding small
no_fault = refl

planned : (after_read (codes "a") (called Read small)).faults ≡ 1
unfolding small
planned = refl

none_missing : (after_read (codes "a") (called Read small)).absent ≡ 0
unfolding small
none_missing = refl

-- two bytes go out, and then the one that there is room for
two_bytes : (after_write Out (codes "xyz") small).written.out ≡ codes "xy"
unfolding small
two_bytes = refl

last_byte : (after_write Out (codes "zw") (after_write Out (codes "xyz") small)).written.out ≡ codes "xyz"
unfolding small
last_byte = refl

no_room : is_write_failing Out (after_write Out (codes "zw") (after_write Out (codes "xyz") small)) ≡ true
unfolding small
no_room = refl

-- a read of five bytes into a buffer of ten, two at a time
some_bytes : read_size (codes "hello") 1 10 small ≡ 2
unfolding small
some_bytes = refl

last_bytes : read_size (codes "hello") 4 10 small ≡ 1
unfolding small
last_bytes = refl

past_end : read_size (codes "hello") 5 10 small ≡ 0
unfolding small
past_end = refl

long_name : is_create_failing (codes "wave") (called Create small) ≡ true
unfolding small
long_name = refl

created : (after_create Vcd (codes "vcd") (called Create small)).made ≡ (Vcd, codes "vcd") ∷ []
unfolding small
created = refl

once : IsCreatable (Some ((Vcd, codes "vcd") ∷ [])) Vcd → ⊥
once h = h (inl refl)

stands_still : Rose (2 ^ 64 - 1) (2 ^ 64 - 1)
stands_still = lit≤ tt

rises : Rose 3 4
rises = lit≤ tt
