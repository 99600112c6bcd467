-- The sweep finds the least bit with two writers, where there is one.
use Rattle.std.proofs.Common.{◌≡◌, ℕ, suc, ◌<◌, ◌≤◌, Bool, true, false, not, ◌||◌, ◌&&◌, ltb, leb, eqb, List, [], ◌∷◌, Option, Some, None, refl, sym, ◌∙◌, arith, inl, inr}
use Rattle.std.specs.Prelude.{if◌then◌else◌}
use Rattle.std.specs.List.Sorted.{IsNonDecreasingBy}
use Rattle.std.proofs.lemmas.Bool.{ltb-true, ltb-false, leb-true, eqb-true, lt-ltb, le-leb, eq-eqb, and_parts, and_cases, and_from, or_cases, or_left, or_right, not-true, not-false, false≢true}
use Rattle.rtl_pieces.specs.declared.owned.OwnedRange.{OwnedRange}
use Rattle.rtl_pieces.specs.Line.{inside}
use Rattle.rtl_pieces.specs.Owned.{first_place, owns, owned_by, Sorted, Single, LeastShared, sweep}

-- what a sort by the first places gives
sorted_after : (o : OwnedRange) (rest : List OwnedRange) → IsNonDecreasingBy first_place (o ∷ rest) → Sorted o.range.from rest
sorted_after o [] h = tt
sorted_after o (next ∷ more) h = (h 0 1 o (omega arith) (omega arith), sorted_after next more (λ i j d p q. h (suc i) (suc j) d (omega arith) (omega arith)))

pub sorted_from : (all : List OwnedRange) → IsNonDecreasingBy first_place all → Sorted 0 all
sorted_from [] h = tt
sorted_from (o ∷ more) h = (omega arith, sorted_after o more h)

-- what is written by those before, and by these
abbrev with_these : (ℕ → ℕ → Bool) → List OwnedRange → ℕ → ℕ → Bool
with_these done rest p b = done p b || owned_by p b rest

abbrev with_one : (ℕ → ℕ → Bool) → OwnedRange → ℕ → ℕ → Bool
with_one done o p b = done p b || owns p b o

-- what is known of those before: no bit has two of them, none reaches past a place, and one has all from a place up to there
pub record Swept (done : ℕ → ℕ → Bool) (low reach proc : ℕ) : Type 0 where
  pub single : (b p q : ℕ) → done p b ≡ true → done q b ≡ true → p ≡ q
  pub reaches : (b p : ℕ) → done p b ≡ true → b < reach
  pub owner : (b : ℕ) → low ≤ b → b < reach → done proc b ≡ true

abbrev pub Outcome : (ℕ → ℕ → Bool) → Option ℕ → Type 0
Outcome writes None = (b : ℕ) → Single writes b
Outcome writes (Some b) = LeastShared writes b

owns_parts : (p b : ℕ) (o : OwnedRange) → owns p b o ≡ true → (o.proc ≡ p) × (o.range.from ≤ b) × (b < o.range.to)
owns_parts p b o h =
    let e = and_parts (eqb o.proc p) (inside b o.range) h in
    let i = and_parts (leb o.range.from b) (ltb b o.range.to) e.1 in
    (eqb-true o.proc p e.0, leb-true o.range.from b i.0, ltb-true b o.range.to i.1)

owns_from : (b : ℕ) (o : OwnedRange) → o.range.from ≤ b → b < o.range.to → owns o.proc b o ≡ true
owns_from b o h k = and_from (eqb o.proc o.proc) (inside b o.range) (eq-eqb o.proc o.proc refl) (and_from (leb o.range.from b) (ltb b o.range.to) (le-leb o.range.from b h) (lt-ltb b o.range.to k))

-- none of them has a bit below the first place
none_below : (p b low : ℕ) (rest : List OwnedRange) → Sorted low rest → b < low → owned_by p b rest ≡ true → ⊥
none_below p b low [] s h e = false≢true e
none_below p b low (o ∷ more) s h e = elim (or_cases (owns p b o) (owned_by p b more) e) [
  | inl k ↦ (let parts = owns_parts p b o k in absurd (omega (arith, s.0, parts.1)))
  | inr k ↦ none_below p b o.range.from more s.1 (omega (arith, s.0)) k
]

shift : (done : ℕ → ℕ → Bool) (o : OwnedRange) (more : List OwnedRange) (p b : ℕ) → with_these (with_one done o) more p b ≡ with_these done (o ∷ more) p b
shift done o more p b = elim (done p b) as (λ d. ((d || owns p b o) || owned_by p b more) ≡ (d || (owns p b o || owned_by p b more))) [ true ↦ refl | false ↦ refl ]

-- the same of two tests that agree
move : (f g : ℕ → ℕ → Bool) → ((p b : ℕ) → f p b ≡ g p b) → (found : Option ℕ) → Outcome f found → Outcome g found
move f g same None h = λ b p q u v. h b p q (same p b ∙ u) (same q b ∙ v)
move f g same (Some b) h = record {
  first = h.first;
  second = h.second;
  apart = h.apart;
  first_writes = sym (same h.first b) ∙ h.first_writes;
  second_writes = sym (same h.second b) ∙ h.second_writes;
  least = λ c k p q u v. h.least c k p q (same p c ∙ u) (same q c ∙ v);
}

-- a range without bits adds nothing
empty_none : (p b : ℕ) (o : OwnedRange) → o.range.to ≤ o.range.from → owns p b o ≡ true → ⊥
empty_none p b o h e = let parts = owns_parts p b o e in omega (arith, parts.1, parts.2)

module _ (done : ℕ → ℕ → Bool) (low reach proc : ℕ) (swept : Swept done low reach proc) (o : OwnedRange) (above : low ≤ o.range.from) where
  old_of : o.range.to ≤ o.range.from → (p b : ℕ) → with_one done o p b ≡ true → done p b ≡ true
  old_of h p b u = elim (or_cases (done p b) (owns p b o) u) [ inl k ↦ k | inr k ↦ absurd (empty_none p b o h k) ]

  -- where it has no bit
  swept_empty : o.range.to ≤ o.range.from → Swept (with_one done o) o.range.from reach proc
  swept_empty h = record {
    single = λ b p q u v. swept.single b p q (old_of h p b u) (old_of h q b v);
    reaches = λ b p u. swept.reaches b p (old_of h p b u);
    owner = λ b k l. or_left (done proc b) (owns proc b o) (swept.owner b (omega arith) l);
  }

  -- who has a bit of it before is its process
  Agrees : Type 0
  Agrees = (b p : ℕ) → o.range.from ≤ b → done p b ≡ true → p ≡ o.proc

  single_one : Agrees → (b p q : ℕ) → with_one done o p b ≡ true → with_one done o q b ≡ true → p ≡ q
  unfolding Agrees
  single_one agrees b p q u v = elim (or_cases (done p b) (owns p b o) u) [
    | inl k ↦ (elim (or_cases (done q b) (owns q b o) v) [
      | inl l ↦ swept.single b p q k l
      | inr l ↦ (let parts = owns_parts q b o l in agrees b p parts.1 k ∙ parts.0)
    ])
    | inr k ↦ (let mine = owns_parts p b o k in elim (or_cases (done q b) (owns q b o) v) [
      | inl l ↦ sym mine.0 ∙ sym (agrees b q mine.1 l)
      | inr l ↦ (let parts = owns_parts q b o l in sym mine.0 ∙ parts.0)
    ])
  ]

  reach_one : (high b p : ℕ) → reach ≤ high → o.range.to ≤ high → with_one done o p b ≡ true → b < high
  reach_one high b p h k u = elim (or_cases (done p b) (owns p b o) u) [
    | inl l ↦ (let r = swept.reaches b p l in omega (arith, r))
    | inr l ↦ (let parts = owns_parts p b o l in omega (arith, parts.2))
  ]

  -- where it reaches further than those before
  swept_further : Agrees → reach ≤ o.range.to → Swept (with_one done o) o.range.from o.range.to o.proc
  swept_further agrees h = record {
    single = single_one agrees;
    reaches = λ b p u. reach_one o.range.to b p h (omega arith) u;
    owner = λ b k l. or_right (done o.proc b) (owns o.proc b o) (owns_from b o k l);
  }

  -- where it does not
  swept_within : Agrees → o.range.to ≤ reach → Swept (with_one done o) o.range.from reach proc
  swept_within agrees h = record {
    single = single_one agrees;
    reaches = λ b p u. reach_one reach b p (omega arith) h u;
    owner = λ b k l. or_left (done proc b) (owns proc b o) (swept.owner b (omega arith) l);
  }

  -- no other process reaches it
  agrees_from : (ltb o.range.from reach && not (eqb o.proc proc)) ≡ false → Agrees
  unfolding Agrees
  agrees_from e b p k u =
      let l : b < reach = swept.reaches b p u in
      elim (and_cases (ltb o.range.from reach) (not (eqb o.proc proc)) e) [
        | inl f ↦ (let far : reach ≤ o.range.from = ltb-false o.range.from reach f in absurd (omega arith))
        | inr f ↦ swept.single b p proc u (swept.owner b (omega arith) l) ∙ sym (eqb-true o.proc proc (not-false (eqb o.proc proc) f))
      ]

  -- another one reaches it
  shared_here : (more : List OwnedRange) → Sorted o.range.from more → o.range.from < o.range.to → (ltb o.range.from reach && not (eqb o.proc proc)) ≡ true → LeastShared (with_these done (o ∷ more)) o.range.from
  shared_here more s some e =
      let parts = and_parts (ltb o.range.from reach) (not (eqb o.proc proc)) e in
      let only : (p c : ℕ) → c < o.range.from → with_these done (o ∷ more) p c ≡ true → done p c ≡ true =
      λ p c k u. elim (or_cases (done p c) (owned_by p c (o ∷ more)) u) [ inl l ↦ l | inr l ↦ absurd (none_below p c o.range.from (o ∷ more) (omega arith, s) k l) ] in
      record {
        first = proc;
        second = o.proc;
        apart = λ same. false≢true (sym (not-true (eqb o.proc proc) parts.1) ∙ eq-eqb o.proc proc (sym same));
        first_writes = or_left (done proc o.range.from) (owned_by proc o.range.from (o ∷ more)) (swept.owner o.range.from above (ltb-true o.range.from reach parts.0));
        second_writes = or_right (done o.proc o.range.from) (owned_by o.proc o.range.from (o ∷ more)) (or_left (owns o.proc o.range.from o) (owned_by o.proc o.range.from more) (owns_from o.range.from o (omega arith) some));
        least = λ c k p q u v. swept.single c p q (only p c k u) (only q c k v);
      }

step : (done : ℕ → ℕ → Bool) (reach proc : ℕ) (o : OwnedRange) (more : List OwnedRange) (t u v : Bool)
    → t ≡ ltb o.range.from o.range.to → u ≡ (ltb o.range.from reach && not (eqb o.proc proc)) → v ≡ ltb reach o.range.to
    → (o.range.to ≤ o.range.from → Outcome (with_these done (o ∷ more)) (sweep reach proc more))
    → (o.range.from < o.range.to → (ltb o.range.from reach && not (eqb o.proc proc)) ≡ true → LeastShared (with_these done (o ∷ more)) o.range.from)
    → ((ltb o.range.from reach && not (eqb o.proc proc)) ≡ false → reach ≤ o.range.to → Outcome (with_these done (o ∷ more)) (sweep o.range.to o.proc more))
    → ((ltb o.range.from reach && not (eqb o.proc proc)) ≡ false → o.range.to ≤ reach → Outcome (with_these done (o ∷ more)) (sweep reach proc more))
    → Outcome (with_these done (o ∷ more)) (if t then (if u then Some o.range.from else (if v then sweep o.range.to o.proc more else sweep reach proc more)) else sweep reach proc more)
step done reach proc o more false u v e f g none shared further within = none (ltb-false o.range.from o.range.to (sym e))
step done reach proc o more true true v e f g none shared further within = shared (ltb-true o.range.from o.range.to (sym e)) (sym f)
step done reach proc o more true false true e f g none shared further within = let h : reach < o.range.to = ltb-true reach o.range.to (sym g) in further (sym f) (omega arith)
step done reach proc o more true false false e f g none shared further within = within (sym f) (ltb-false reach o.range.to (sym g))

pub sweep_finds : (done : ℕ → ℕ → Bool) (low reach proc : ℕ) → Swept done low reach proc → (rest : List OwnedRange) → Sorted low rest → Outcome (with_these done rest) (sweep reach proc rest)
sweep_finds done low reach proc swept [] s = λ b p q u v.
    let strip : (p : ℕ) → (done p b || false) ≡ true → done p b ≡ true = λ p e. elim (or_cases (done p b) false e) [ inl k ↦ k | inr k ↦ absurd (false≢true k) ] in
    swept.single b p q (strip p u) (strip q v)
sweep_finds done low reach proc swept (o ∷ more) s =
    step done reach proc o more (ltb o.range.from o.range.to) (ltb o.range.from reach && not (eqb o.proc proc)) (ltb reach o.range.to) refl refl refl
    (λ h. move (with_these (with_one done o) more) (with_these done (o ∷ more)) (shift done o more) (sweep reach proc more) (sweep_finds (with_one done o) o.range.from reach proc (swept_empty done low reach proc swept o s.0 h) more s.1))
    (λ some e. shared_here done low reach proc swept o s.0 more s.1 some e)
    (λ e h. move (with_these (with_one done o) more) (with_these done (o ∷ more)) (shift done o more) (sweep o.range.to o.proc more) (sweep_finds (with_one done o) o.range.from o.range.to o.proc (swept_further done low reach proc swept o s.0 (agrees_from done low reach proc swept o s.0 e) h) more s.1))
    (λ e h. move (with_these (with_one done o) more) (with_these done (o ∷ more)) (shift done o more) (sweep reach proc more) (sweep_finds (with_one done o) o.range.from reach proc (swept_within done low reach proc swept o s.0 (agrees_from done low reach proc swept o s.0 e) h) more s.1))

pub swept_all : (all : List OwnedRange) → Sorted 0 all → Outcome (λ p b. owned_by p b all) (sweep 0 0 all)
swept_all all s = sweep_finds (λ p b. false) 0 0 0 (record { single = λ b p q u v. absurd (false≢true u); reaches = λ b p u. absurd (false≢true u); owner = λ b h k. absurd (omega arith) }) all s
