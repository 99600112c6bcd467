-- Lists of codes, and what bodies store.
use Rattle.std.proofs.Common.{◌≡◌, ℕ, zero, suc, ◌+◌, ◌*◌, ◌<◌, ◌≤◌, Bool, true, false, nat_le, List, [], ◌∷◌, ◌++◌, length, take, drop, get_or, refl, sym, ap, arith, ◌∙◌, IfOk, Result, Ok, Err}
use Rattle.std.specs.List.{All}
use Rattle.std.proofs.lemmas.Bool.{le-leb, lt-leb}
use Rattle.std.proofs.lemmas.List.{take_more, length-take, append-nil}
use Rattle.std.proofs.lemmas.List.Elements.{All-append}
use Rattle.task_eval.specs.declared.op.Op.{Op}
use Rattle.task_eval.specs.declared.op.Op.TheVariants as op
use Rattle.rtl_ir.specs.declared.design.Proc.{Proc}
use Rattle.task_code.specs.declared.tail.Limits.{Limits}
use Rattle.task_code.specs.Tails.{StoresIn, AllStoreIn}
use Rattle.rtl_pieces.specs.declared.layout.Word.{Word}
use Rattle.task_eval.specs.Codes.{Ops}
use Rattle.rtl_pieces.specs.Words.{is_clocked_kind}
use Rattle.task_code.specs.Compiled.{Each, IsBody, is_shadow, OpStores, Stores, with_number, clocked_from}

op_stores : (limits : Limits) (Such : ℕ → Type 0) (o : Op) → ((k : ℕ) → limits.from ≤ k → k < limits.to → Such k) → StoresIn limits o → OpStores Such o
op_stores limits Such (op.Push n) f s = tt
op_stores limits Such (op.Load word width) f s = tt
op_stores limits Such (op.LoadAt x width) f s = tt
op_stores limits Such (op.Store word width) f s = f word s.0 s.1
op_stores limits Such (op.StoreAt x width) f s = λ k h. f (x.base + k * x.stride) (s k h).0 (s k h).1
op_stores limits Such (op.Slice at width) f s = tt
op_stores limits Such (op.SliceAt i width) f s = tt
op_stores limits Such (op.Place at) f s = tt
op_stores limits Such (op.PlaceAt i) f s = tt
op_stores limits Such (op.Extend width signed) f s = tt
op_stores limits Such (op.One o) f s = tt
op_stores limits Such (op.Two o width signed) f s = tt
op_stores limits Such (op.Join high low) f s = tt
op_stores limits Such (op.Repeat times width) f s = tt
op_stores limits Such (op.Pick below) f s = tt
op_stores limits Such op.Drop f s = tt
op_stores limits Such (op.Skip n) f s = tt
op_stores limits Such (op.SkipIfZero n) f s = tt
op_stores limits Such (op.SkipIfTrue n) f s = tt
op_stores limits Such (op.Call import count width) f s = tt

-- what may be stored is such a word
pub all_stores : (limits : Limits) (Such : ℕ → Type 0) (ops : List Op) → ((k : ℕ) → limits.from ≤ k → k < limits.to → Such k) → AllStoreIn limits ops → Stores Such ops
all_stores limits Such [] f s = tt
all_stores limits Such (o ∷ more) f s = (op_stores limits Such o f s.0, all_stores limits Such more f s.1)

module _ {A B : Type 0} (R : A → B → Type 0) where
  -- one more of both
  pub each_more : (xs : List A) (bs : List B) (a : A) (b : B) → Each R xs bs → R a b → Each R (xs ++ a ∷ []) (bs ++ b ∷ [])
  each_more [] [] a b e r = (r, tt)
  each_more [] (y ∷ bs) a b e r = absurd e
  each_more (x ∷ xs) [] a b e r = absurd e
  each_more (x ∷ xs) (y ∷ bs) a b e r = (e.0, each_more xs bs a b e.1 r)

  pub each_length : (xs : List A) (bs : List B) → Each R xs bs → length bs ≡ length xs
  each_length [] [] e = refl
  each_length [] (y ∷ bs) e = absurd e
  each_length (x ∷ xs) [] e = absurd e
  each_length (x ∷ xs) (y ∷ bs) e = ap suc (each_length xs bs e.1)

-- one more that is such
pub all_more : {A : Type 0} (P : A → Type 0) (xs : List A) (x : A) → All P xs → P x → All P (xs ++ x ∷ [])
all_more {A = A} P xs x all is = All-append P xs (x ∷ []) all (λ k d h. only k d h)
  where
    only : (k : ℕ) (d : A) → k < 1 → P (get_or (x ∷ []) k d)
    only zero d h = is
    only (suc k) d h = absurd (omega (arith, h))

-- the number of one process more
pub clocked_more : (n : ℕ) (procs : List Proc) (p : Proc) → clocked_from n (procs ++ p ∷ []) ≡ clocked_from n procs ++ with_number (is_clocked_kind p.kind) (n + length procs) []
clocked_more n [] p = ap (λ k. with_number (is_clocked_kind p.kind) k []) (omega arith)
clocked_more n (x ∷ procs) p = ap (with_number (is_clocked_kind x.kind) n) (clocked_more (suc n) procs p ∙ ap (λ k. clocked_from (suc n) procs ++ with_number (is_clocked_kind p.kind) k []) (omega arith)) ∙ front (is_clocked_kind x.kind)
  where
    front : (b : Bool) → with_number b n (clocked_from (suc n) procs ++ with_number (is_clocked_kind p.kind) (n + length (x ∷ procs)) []) ≡ with_number b n (clocked_from (suc n) procs) ++ with_number (is_clocked_kind p.kind) (n + length (x ∷ procs)) []
    front true = refl
    front false = refl

pub take_on : {A : Type 0} (xs : List A) (n : ℕ) (x : A) → n < length xs → x ≡ get_or xs n x → take (n + 1) xs ≡ take n xs ++ x ∷ []
take_on xs n x h e = take_more xs n x h ∙ ap (λ v. take n xs ++ v ∷ []) (sym e)

-- the clocked ones of one process more
pub clocked_on : (procs : List Proc) (n : ℕ) (p : Proc) → n < length procs → p ≡ get_or procs n p → clocked_from 0 (take (n + 1) procs) ≡ clocked_from 0 (take n procs) ++ with_number (is_clocked_kind p.kind) n []
clocked_on procs n p h e = ap (clocked_from 0) (take_on procs n p h e) ∙ clocked_more 0 (take n procs) p ∙ ap (λ k. clocked_from 0 (take n procs) ++ with_number (is_clocked_kind p.kind) k []) (let l = length-take n procs in omega (arith, l, h))

-- with one process more that is clocked, and with one that is not
pub clocked_with : (procs : List Proc) (n : ℕ) (p : Proc) → n < length procs → p ≡ get_or procs n p → is_clocked_kind p.kind ≡ true → clocked_from 0 (take (n + 1) procs) ≡ clocked_from 0 (take n procs) ++ n ∷ []
clocked_with procs n p h e is = clocked_on procs n p h e ∙ ap (λ b. clocked_from 0 (take n procs) ++ with_number b n []) is

pub clocked_without : (procs : List Proc) (n : ℕ) (p : Proc) → n < length procs → p ≡ get_or procs n p → is_clocked_kind p.kind ≡ false → clocked_from 0 (take (n + 1) procs) ≡ clocked_from 0 (take n procs)
clocked_without procs n p h e is = clocked_on procs n p h e ∙ ap (λ b. clocked_from 0 (take n procs) ++ with_number b n []) is ∙ append-nil (clocked_from 0 (take n procs))

module _ {A : Type 0} where
  pub take_front : (xs ys : List A) (n : ℕ) → length xs ≡ n → take n (xs ++ ys) ≡ xs
  take_front [] [] zero e = refl
  take_front [] (y ∷ ys) zero e = refl
  take_front [] ys (suc n) e = absurd (omega (arith, e))
  take_front (x ∷ xs) ys zero e = absurd (omega (arith, e))
  take_front (x ∷ xs) ys (suc n) e = ap (λ l. x ∷ l) (take_front xs ys n (omega (arith, e)))

  pub drop_front : (xs ys : List A) (n : ℕ) → length xs ≡ n → drop n (xs ++ ys) ≡ ys
  drop_front [] ys zero e = refl
  drop_front [] ys (suc n) e = absurd (omega (arith, e))
  drop_front (x ∷ xs) ys zero e = absurd (omega (arith, e))
  drop_front (x ∷ xs) ys (suc n) e = drop_front xs ys n (omega (arith, e))

-- what a clocked process may store are shadows
pub body_kept : (words : List Word) (first count : ℕ) (process : Proc) (limits : Limits) {E : Type 0} (made : Result Ops E) {imports : ℕ}
    → count ≡ length words → ((k : ℕ) → k < length words → is_shadow words k ≡ nat_le first k) → is_clocked_kind process.kind ≡ true
    → limits ≡ record { words = count; imports = imports; from = first; to = count } → IfOk made (λ code. AllStoreIn limits code.ops) → IfOk made (IsBody words process)
body_kept words first count process limits (Ok code) {imports} is_count shadows clocked is s =
    all_stores limits (λ k. is_shadow words k ≡ is_clocked_kind process.kind) code.ops
    (λ k low high.
    let from = ap (λ (l : Limits). l.from) is in let to = ap (λ (l : Limits). l.to) is in
    shadows k (omega (arith, high, to, is_count)) ∙ le-leb first k (omega (arith, low, from)) ∙ sym clocked)
    s
body_kept words first count process limits (Err e) is_count shadows clocked is s = tt

-- what another one may store are none
pub body_direct : (words : List Word) (first count : ℕ) (process : Proc) (limits : Limits) {E : Type 0} (made : Result Ops E) {imports : ℕ}
    → count ≡ length words → first ≤ count → ((k : ℕ) → k < length words → is_shadow words k ≡ nat_le first k) → is_clocked_kind process.kind ≡ false
    → limits ≡ record { words = count; imports = imports; from = 1; to = first } → IfOk made (λ code. AllStoreIn limits code.ops) → IfOk made (IsBody words process)
body_direct words first count process limits (Ok code) {imports} is_count most shadows clocked is s =
    all_stores limits (λ k. is_shadow words k ≡ is_clocked_kind process.kind) code.ops
    (λ k low high.
    let to = ap (λ (l : Limits). l.to) is in
    shadows k (omega (arith, high, to, is_count, most)) ∙ lt-leb first k (omega (arith, high, to)) ∙ sym clocked)
    s
body_direct words first count process limits (Err e) is_count most shadows clocked is s = tt
