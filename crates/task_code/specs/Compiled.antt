-- The codes of a design: one for each process, and then a commit for each clocked process.
use Rattle.std.specs.Prelude.{◌≡◌, ℕ, suc, ◌+◌, ◌*◌, ◌<◌, Bool, true, false, ◌&&◌, List, [], ◌∷◌, Option, Some, None, slice_get}
use Rattle.rtl_ir.specs.declared.design.Proc.{Proc}
use Rattle.rtl_pieces.specs.declared.layout.Word.{Word}
use Rattle.rtl_pieces.specs.Words.{is_clocked_kind}
use Rattle.task_eval.specs.declared.op.Op.{Op}
use Rattle.task_eval.specs.declared.op.Op.TheVariants as op
use Rattle.task_eval.specs.Codes.{Ops}

-- each of some things has what belongs to it, in order
abbrev pub Each : {A B : Type 0} → (A → B → Type 0) → List A → List B → Type 0
Each R [] [] = Unit {0}
Each R [] (b ∷ more) = ⊥
Each R (a ∷ rest) [] = ⊥
Each R (a ∷ rest) (b ∷ more) = R a b × Each R rest more

-- ---- bodies

abbrev pub flagged : Option Word → Bool
flagged (Some word) = word.shadow
flagged None = false

-- the word of a number is a shadow
abbrev pub is_shadow : List Word → ℕ → Bool
is_shadow words k = flagged (slice_get words k)

-- every word that an op may store is such a one
abbrev pub OpStores : (ℕ → Type 0) → Op → Type 0
OpStores Such (op.Store word width) = Such word
OpStores Such (op.StoreAt e width) = (k : ℕ) → k < e.count → Such (e.base + k * e.stride)
OpStores Such _ = Unit {0}

abbrev pub Stores : (ℕ → Type 0) → List Op → Type 0
Stores Such [] = Unit {0}
Stores Such (o ∷ more) = OpStores Such o × Stores Such more

-- the body of a clocked process stores shadows alone, and that of another one stores none
abbrev pub IsBody : List Word → Proc → Ops → Type 0
IsBody words process code = Stores (λ k. is_shadow words k ≡ is_clocked_kind process.kind) code.ops

-- ---- commits

-- the numbers of the clocked processes, of which the first has this number
abbrev pub with_number : Bool → ℕ → List ℕ → List ℕ
with_number true n more = n ∷ more
with_number false n more = more

abbrev pub clocked_from : ℕ → List Proc → List ℕ
clocked_from n [] = []
clocked_from n (process ∷ more) = with_number (is_clocked_kind process.kind) n (clocked_from (suc n) more)

-- the word of this number holds the bits of a shadow
abbrev pub IsWordOf : List Word → Word → ℕ → Type 0
IsWordOf words shadow k = slice_get words k ≡ Some (record { holds = shadow.holds; len = shadow.len; shadow = false })

-- a shadow is copied to its word first, and what follows is as wanted
abbrev pub Copied : List Word → ℕ → Word → (List Op → Type 0) → List Op → Type 0
Copied words number shadow Rest ops = (k : ℕ) × (rest : List Op) × IsWordOf words shadow k × (ops ≡ op.Load number shadow.len ∷ (op.Store k shadow.len ∷ rest)) × Rest rest

abbrev pub CopiedWhere : Bool → List Word → ℕ → Word → (List Op → Type 0) → List Op → Type 0
CopiedWhere true words number shadow Rest ops = Copied words number shadow Rest ops
CopiedWhere false words number shadow Rest ops = Rest ops

-- of the words from a number on each shadow whose bits are written is copied to its word, in order, and nothing else is done
abbrev pub CopiesFrom : List Word → (Word → Bool) → ℕ → List Word → List Op → Type 0
CopiesFrom words written number [] ops = ops ≡ []
CopiesFrom words written number (word ∷ more) ops = CopiedWhere (word.shadow && written word) words number word (CopiesFrom words written (suc number) more) ops

-- a code copies each shadow whose bits are written
abbrev pub IsCommit : List Word → (Word → Bool) → Ops → Type 0
IsCommit words written code = CopiesFrom words written 0 words code.ops
