-- The first process from a number on with a range that has a bit, as a walk over the ranges finds it.
use Rattle.std.proofs.Common.{◌≡◌, ℕ, ◌<◌, ◌≤◌, min, Bool, true, false, ◌||◌, ◌&&◌, leb, eqb, List, [], ◌∷◌, length, Option, Some, None, refl, sym, ap, ◌∙◌, subst, arith, inl, inr}
use Rattle.std.specs.Prelude.{if◌then◌else◌}
use Rattle.std.proofs.lemmas.Bool.{cases_lt, and_left, and_parts, and_from, ne_eqb, eqb-true, le-leb, leb-true, or_from, or_left, or_right, both_ways, false_from_ne_true}
use Rattle.rtl_pieces.specs.declared.owned.OwnedRange.{OwnedRange}
use Rattle.rtl_pieces.specs.declared.fault.DriverFault.{DriverFault}
use Rattle.rtl_pieces.specs.declared.fault.DriverFault.TheVariants.{NoMemory, MultipleDrivers}
use Rattle.rtl_pieces.specs.Line.{Line, inside, place_of}
use Rattle.rtl_pieces.specs.Owned.{owns, owned_by, lesser, with_owned, least_of, IsLeast}
use Rattle.rtl_pieces.specs.Drivers.{IsFault}

-- the tests that agree have the same least
least_same : (f g : ℕ → Bool) (least : ℕ) (found : Option ℕ) → ((p : ℕ) → f p ≡ g p) → IsLeast f least found → IsLeast g least found
least_same f g least None same h = λ p k. sym (same p) ∙ h p k
least_same f g least (Some n) same h = (h.0, sym (same n) ∙ h.1, λ q k l. sym (same q) ∙ h.2 q k l)

other : (q b : ℕ) (o : OwnedRange) → (o.proc ≡ q → ⊥) → owns q b o ≡ false
other q b o h = and_left (eqb o.proc q) (inside b o.range) (ne_eqb o.proc q h)

-- where the range does not count, no process from the number on has the bit by it
not_by : (least q b : ℕ) (o : OwnedRange) → (leb least o.proc && owns o.proc b o) ≡ false → least ≤ q → owns q b o ≡ false
not_by least q b o e h = false_from_ne_true (owns q b o) (λ k.
    let same : o.proc ≡ q = eqb-true o.proc q (and_parts (eqb o.proc q) (inside b o.range) k).0 in
    both_ways (leb least o.proc && owns o.proc b o) e
    (and_from (leb least o.proc) (owns o.proc b o) (le-leb least o.proc (omega arith)) (ap (λ (p : ℕ). owns p b o) same ∙ k)))

step_lesser : (done : ℕ → Bool) (least b : ℕ) (o : OwnedRange) (found : Option ℕ) → IsLeast done least found → least ≤ o.proc → owns o.proc b o ≡ true
    → IsLeast (λ p. done p || owns p b o) least (Some (lesser found o.proc))
step_lesser done least b o None h k w =
    (k, or_right (done o.proc) (owns o.proc b o) w, λ q l m. or_from (done q) (owns q b o) (h q l) (other q b o (λ e. omega arith)))
step_lesser done least b o (Some n) h k w = elim (cases_lt n o.proc) [
  | inl below ↦
      (let e : min n o.proc ≡ n = omega arith in
      subst (λ (m : ℕ). IsLeast (λ p. done p || owns p b o) least (Some m)) (sym e)
      (h.0, or_left (done n) (owns n b o) h.1, λ q l m. or_from (done q) (owns q b o) (h.2 q l m) (other q b o (λ same. omega arith))))
  | inr above ↦
      (let e : min n o.proc ≡ o.proc = omega arith in
      subst (λ (m : ℕ). IsLeast (λ p. done p || owns p b o) least (Some m)) (sym e)
      (k, or_right (done o.proc) (owns o.proc b o) w, λ q l m. or_from (done q) (owns q b o) (h.2 q l (omega arith)) (other q b o (λ same. omega arith))))
]

step_kept : (done : ℕ → Bool) (least b : ℕ) (o : OwnedRange) (found : Option ℕ) → IsLeast done least found → (leb least o.proc && owns o.proc b o) ≡ false
    → IsLeast (λ p. done p || owns p b o) least found
step_kept done least b o None h e = λ p k. or_from (done p) (owns p b o) (h p k) (not_by least p b o e k)
step_kept done least b o (Some n) h e = (h.0, or_left (done n) (owns n b o) h.1, λ q l m. or_from (done q) (owns q b o) (h.2 q l m) (not_by least q b o e l))

step_if : (done : ℕ → Bool) (least b : ℕ) (o : OwnedRange) (found : Option ℕ) (t : Bool) → t ≡ (leb least o.proc && owns o.proc b o) → IsLeast done least found
    → IsLeast (λ p. done p || owns p b o) least (if t then Some (lesser found o.proc) else found)
step_if done least b o found true e h =
    let parts = and_parts (leb least o.proc) (owns o.proc b o) (sym e) in
    step_lesser done least b o found h (leb-true least o.proc parts.0) parts.1
step_if done least b o found false e h = step_kept done least b o found h (sym e)

assoc : (x y z : Bool) → ((x || y) || z) ≡ (x || (y || z))
assoc true y z = refl
assoc false y z = refl

or_none : (x : Bool) → x ≡ (x || false)
or_none true = refl
or_none false = refl

least_found : (done : ℕ → Bool) (least b : ℕ) (found : Option ℕ) (all : List OwnedRange) → IsLeast done least found → IsLeast (λ p. done p || owned_by p b all) least (least_of least b found all)
least_found done least b found [] h = least_same done (λ p. done p || false) least found (λ p. or_none (done p)) h
least_found done least b found (o ∷ more) h =
    least_same (λ p. (done p || owns p b o) || owned_by p b more) (λ p. done p || owned_by p b (o ∷ more)) least (least_of least b found (o ∷ more))
    (λ p. assoc (done p) (owns p b o) (owned_by p b more))
    (least_found (λ p. done p || owns p b o) least b (with_owned least b found o) more (step_if done least b o found (leb least o.proc && owns o.proc b o) refl h))

pub least_all : (least b : ℕ) (all : List OwnedRange) (found : Option ℕ) → found ≡ least_of least b None all → IsLeast (λ p. owned_by p b all) least found
least_all least b all found e =
    subst (λ (o : Option ℕ). IsLeast (λ p. owned_by p b all) least o) (sym e)
    (least_found (λ p. false) least b None all (λ p k. refl))

pub least_end : (least b : ℕ) (found : Option ℕ) (rest : List OwnedRange) (all : Option ℕ) → length rest < 1 → least_of least b found rest ≡ all → found ≡ all
least_end least b found [] all h e = e
least_end least b found (o ∷ more) all h e = absurd (omega arith)

-- a fault of tests that agree
pub fault_same : (line : Line) (f g : ℕ → ℕ → Bool) → ((p b : ℕ) → f p b ≡ g p b) → (fault : DriverFault) → IsFault line f fault → IsFault line g fault
fault_same line f g same (NoMemory error) h = tt
fault_same line f g same (MultipleDrivers bit first second) h = record {
  is_bit = h.is_bit;
  first_writes = sym (same first (place_of line bit)) ∙ h.first_writes;
  second_writes = sym (same second (place_of line bit)) ∙ h.second_writes;
  in_order = h.in_order;
  first_two = λ p k w. h.first_two p k (same p (place_of line bit) ∙ w);
  least = λ b k p q u v. h.least b k p q (same p b ∙ u) (same q b ∙ v);
}
