-- From how far a command came, and its line, to what the status says.
use Rattle.std.proofs.Common.{◌≡◌, ◌⊎◌, ◌≤◌, ℕ, List, [], ◌++◌, Some, None, refl, sym, ap, ◌∙◌, subst, inl, inr, arith}
use Rattle.vs_world.specs.Outside.{Told, Rose, OnlyReads}
use Rattle.vs_world.specs.CountLaws.{rose_before, rose_between}
use Rattle.vs_world.specs.Entries.{Entry, Did, front}
use Rattle.vs_world.specs.EntryLaws.{did_none, did_then}
use Rattle.run_status.specs.declared.status.Status.{Status}
use Rattle.run_status.specs.declared.status.Status.TheVariants as status
use Rattle.run_status.specs.Written.{IsPrefix}
use Rattle.run_status.specs.WrittenLaws.{IsPrefix-whole}
use Rattle.run_status.specs.Lines.{Text, not_read, out_of_memory}
use Rattle.run_status.specs.Answer.{Answer, Refused, Unread, Texts, Stopped, entries_of, refusal_of, error_line, on_errors, Tells, Ending, Refusing, Failing, Wanting, EndsBy, Leaves, OfRefusal, OfRead, OfEntry, SaysWanting, Ends, Table}
use Rattle.run_status.specs.Stages.{RefusedBy, CameToRefusal, FailedAtRead, FailedAtEntry, Came, Finished, HasAnswer}

-- ---- what was done, in parts

pub leaves_did : (entries : List Entry) (a b : Told) → Did entries a b → Leaves entries a b
leaves_did entries a b d = record { written = d.written; made = d.made; files = d.files; faults = d.later; absent = let same = d.absent in omega (arith, same) }

pub leaves_read : (name : Text) (a b : Told) → OnlyReads name a b → Leaves [] a b
leaves_read name a b r = record {
  written = r.written_same ∙ (did_none a).written;
  made = r.made_same ∙ (did_none a).made;
  files = r.files_same;
  faults = r.faults_later;
  absent = r.absent_later;
}

pub leaves_none : (a : Told) → Leaves [] a a
leaves_none a = leaves_did [] a a (did_none a)

-- with the count of absent files set aside, entries were done
abbrev set_aside : ℕ → Told → Told
set_aside n t = record t { absent = n }

pub leaves_then : (xs ys : List Entry) (a b c : Told) → Leaves xs a b → Leaves ys b c → Leaves (xs ++ ys) a c
leaves_then xs ys a b c u v =
    let n = a.absent in
    let first : Did xs a (set_aside n b) = record { written = u.written; made = u.made; files = u.files; absent = refl; later = u.faults } in
    let second : Did ys (set_aside n b) (set_aside n c) = record { written = v.written; made = v.made; files = v.files; absent = refl; later = v.faults } in
    let both = did_then xs ys a (set_aside n b) (set_aside n c) first second in
    record { written = both.written; made = both.made; files = both.files; faults = both.later; absent = let x = u.absent in let y = v.absent in omega (arith, x, y) }

-- ---- from how far it came to the table

-- the line that was told, or the front of it
module _ (text : Text) (a b : Told) where
  abbrev told_bytes : Tells text a b → List ℕ
  told_bytes (inl whole) = error_line text
  told_bytes (inr cut) = cut.part

  told_front : (t : Tells text a b) → IsPrefix (told_bytes t) (error_line text)
  told_front (inl whole) = IsPrefix-whole (error_line text)
  told_front (inr cut) = cut.front

  told_did : (t : Tells text a b) → Did (on_errors (told_bytes t)) a b
  told_did (inl whole) = whole
  told_did (inr cut) = cut.did

  told_whole : (t : Tells text a b) → (told_bytes t ≡ error_line text) ⊎ Rose a.faults b.faults
  told_whole (inl whole) = inl refl
  told_whole (inr cut) = inr cut.rose

not_unread : (a : Answer) (line name : Text) → refusal_of a ≡ Some line → a ≡ Unread name → ⊥
not_unread a line name is unread = let both : None ≡ Some line = sym (ap refusal_of unread) ∙ is in cc both

module _ (Allowed : Answer → Type 0) (named : List Text) (s : Status) (t0 t1 : Told) where
  -- all was done
  pub finished_ends : s ≡ status.Done → Finished Allowed t0 t1 → Table Allowed s named t0 t1
  finished_ends is e = subst (λ (x : Status). Table Allowed x named t0 t1) (sym is) (record {
    answer = Texts e.entries;
    allowed = e.allowed;
    quiet = e.quiet;
    ends = record { entries = e.entries; answer = refl; left = e.left };
  })

  module _ (t2 : Told) where
    -- a refusal
    refusal_ends : (line : Text) → CameToRefusal Allowed line t0 t1 → EndsBy s (Refusing line) t1 t2 → Table Allowed s named t0 t2
    refusal_ends line e (inl whole) = subst (λ (x : Status). Table Allowed x named t0 t2) (sym whole.0) (record {
      answer = e.answer;
      allowed = e.allowed;
      quiet = e.quiet;
      ends = record { line = line; answer = e.refusal; left = leaves_then (entries_of e.answer) (on_errors (error_line line)) t0 t1 t2 e.left (leaves_did (on_errors (error_line line)) t1 t2 whole.1) };
    })
    refusal_ends line e (inr failed) = let cut = failed.1 in subst (λ (x : Status). Table Allowed x named t0 t2) (sym failed.0) (record {
      answer = e.answer;
      allowed = e.allowed;
      quiet = e.quiet;
      ends = record {
        cause = inl (rose_between t0.faults t1.faults t2.faults e.left.faults cut.rose);
        part = entries_of e.answer;
        text = line;
        line = OfRefusal e.refusal refl;
        errors = cut.part;
        said = cut.front;
        unread = λ name is. absurd (not_unread e.answer line name e.refusal is);
        left = leaves_then (entries_of e.answer) (on_errors cut.part) t0 t1 t2 e.left (leaves_did (on_errors cut.part) t1 t2 cut.did);
      };
    })

    -- a file that was not read, with an answer for which there is a cause
    module _ (line : Text) (e : FailedAtRead Allowed named line t0 t1) (told : Tells line t1 t2) where
      left_read : Leaves ([] ++ on_errors (told_bytes line t1 t2 told)) t0 t2
      left_read = leaves_then [] (on_errors (told_bytes line t1 t2 told)) t0 t1 t2 e.left (leaves_did (on_errors (told_bytes line t1 t2 told)) t1 t2 (told_did line t1 t2 told))

      rose_ends : s ≡ status.WorldFault → Rose t0.faults t1.faults → HasAnswer Allowed → t1.faults ≤ t2.faults → Table Allowed s named t0 t2
      rose_ends is rose some later =
          let risen = rose_before t0.faults t1.faults t2.faults rose later in
          subst (λ (x : Status). Table Allowed x named t0 t2) (sym is) (record {
            answer = some.answer;
            allowed = some.allowed;
            quiet = some.quiet;
            ends = record {
              cause = inl risen;
              part = [];
              text = line;
              line = OfRead e.name e.among e.text refl;
              errors = told_bytes line t1 t2 told;
              said = told_front line t1 t2 told;
              unread = λ name unread. inr risen;
              left = left_read;
            };
          })

      same_name : (a b : Text) → Unread a ≡ Unread b → a ≡ b
      same_name a b is = cc is

      missing_told : (name : Text) → Unread e.name ≡ Unread name → (told_bytes line t1 t2 told ≡ error_line line) ⊎ Rose t1.faults t2.faults → (told_bytes line t1 t2 told ≡ error_line (not_read name)) ⊎ Rose t0.faults t2.faults
      missing_told name is (inl whole) = inl (whole ∙ ap error_line e.text ∙ ap (λ (n : Text). error_line (not_read n)) (same_name e.name name is))
      missing_told name is (inr rose) = inr (rose_between t0.faults t1.faults t2.faults e.left.faults rose)

      missing_ends : s ≡ status.WorldFault → Rose t0.absent t1.absent → Allowed (Unread e.name) → t1.absent ≤ t2.absent → Table Allowed s named t0 t2
      missing_ends is rose allowed later = subst (λ (x : Status). Table Allowed x named t0 t2) (sym is) (record {
        answer = Unread e.name;
        allowed = allowed;
        quiet = refl;
        ends = record {
          cause = inr (e.name, refl, rose_before t0.absent t1.absent t2.absent rose later);
          part = [];
          text = line;
          line = OfRead e.name e.among e.text refl;
          errors = told_bytes line t1 t2 told;
          said = told_front line t1 t2 told;
          unread = λ name unread. missing_told name unread (told_whole line t1 t2 told);
          left = left_read;
        };
      })

      read_ends : s ≡ status.WorldFault → HasAnswer Allowed → Rose t0.faults t1.faults ⊎ (Rose t0.absent t1.absent × Allowed (Unread e.name)) → Table Allowed s named t0 t2
      read_ends is some (inl rose) = rose_ends is rose some (told_did line t1 t2 told).later
      read_ends is some (inr missing) = missing_ends is missing.0 missing.1 (let same = (told_did line t1 t2 told).absent in omega (arith, same))

    -- an entry at which the world failed
    entry_ends : (line : Text) → FailedAtEntry Allowed line t0 t1 → s ≡ status.WorldFault → Tells line t1 t2 → Table Allowed s named t0 t2
    entry_ends line e is told =
        let did = told_did line t1 t2 told in
        let errors = told_bytes line t1 t2 told in
        let part = e.done ++ front e.bytes e.entry in
        let risen = rose_before t0.faults t1.faults t2.faults e.rose did.later in
        subst (λ (x : Status). Table Allowed x named t0 t2) (sym is) (record {
          answer = e.answer;
          allowed = e.allowed;
          quiet = e.quiet;
          ends = record {
            cause = inl risen;
            part = part;
            text = line;
            line = OfEntry e.done e.entry e.rest e.bytes e.whole e.part e.text refl;
            errors = errors;
            said = told_front line t1 t2 told;
            unread = λ name unread. inr risen;
            left = leaves_then part (on_errors errors) t0 t1 t2 e.left (leaves_did (on_errors errors) t1 t2 did);
          };
        })

    -- want of memory
    wanting_said : (t : Tells out_of_memory t1 t2) → t0.faults ≤ t1.faults → SaysWanting (told_bytes out_of_memory t1 t2 t) t0 t2
    wanting_said (inl whole) later = inl refl
    wanting_said (inr cut) later = inr (cut.front, rose_between t0.faults t1.faults t2.faults later cut.rose)

    wanting_ends : HasAnswer Allowed → Leaves [] t0 t1 → s ≡ status.NoMemory → Tells out_of_memory t1 t2 → Table Allowed s named t0 t2
    wanting_ends some left is told =
        let errors = told_bytes out_of_memory t1 t2 told in
        subst (λ (x : Status). Table Allowed x named t0 t2) (sym is) (record {
          answer = some.answer;
          allowed = some.allowed;
          quiet = some.quiet;
          ends = record {
            errors = errors;
            said = wanting_said told left.faults;
            left = leaves_then [] (on_errors errors) t0 t1 t2 left (leaves_did (on_errors errors) t1 t2 (told_did out_of_memory t1 t2 told));
          };
        })

    -- it came so far, and then its line was told
    pub came_ends : (e : Ending) → HasAnswer Allowed → Came Allowed named e t0 t1 → EndsBy s e t1 t2 → Table Allowed s named t0 t2
    came_ends (Refusing line) some came ends = refusal_ends line came ends
    came_ends (Failing line) some (inl read) ends = read_ends line read ends.1 ends.0 some read.cause
    came_ends (Failing line) some (inr entry) ends = entry_ends line entry ends.0 ends.1
    came_ends Wanting some came ends = wanting_ends some came ends.0 ends.1

-- ---- from one stage to a later one

-- after a stage that only read files, with fewer answers allowed
module _ (P Q : Answer → Type 0) (named : List Text) (into : (a : Answer) → P a → Q a) (t0 t1 t2 : Told) (first : Leaves [] t0 t1) where
  later : (entries : List Entry) → Leaves entries t1 t2 → Leaves entries t0 t2
  later entries left = leaves_then [] entries t0 t1 t2 first left

  cause_later : (name : Text) → Rose t1.faults t2.faults ⊎ (Rose t1.absent t2.absent × P (Unread name)) → Rose t0.faults t2.faults ⊎ (Rose t0.absent t2.absent × Q (Unread name))
  cause_later name (inl rose) = inl (rose_between t0.faults t1.faults t2.faults first.faults rose)
  cause_later name (inr missing) = inr (rose_between t0.absent t1.absent t2.absent first.absent missing.0, into (Unread name) missing.1)

  pub came_later : (e : Ending) → Came P named e t1 t2 → Came Q named e t0 t2
  came_later (Refusing line) c = record { answer = c.answer; allowed = into c.answer c.allowed; quiet = c.quiet; refusal = c.refusal; left = later (entries_of c.answer) c.left }
  came_later (Failing line) (inl c) = inl (record { name = c.name; among = c.among; text = c.text; cause = cause_later c.name c.cause; left = later [] c.left })
  came_later (Failing line) (inr c) = inr (record {
    answer = c.answer;
    allowed = into c.answer c.allowed;
    quiet = c.quiet;
    done = c.done;
    entry = c.entry;
    rest = c.rest;
    bytes = c.bytes;
    whole = c.whole;
    part = c.part;
    text = c.text;
    rose = rose_between t0.faults t1.faults t2.faults first.faults c.rose;
    left = later (c.done ++ front c.bytes c.entry) c.left;
  })
  came_later Wanting c = later [] c

  pub finished_later : Finished P t1 t2 → Finished Q t0 t2
  finished_later f = record { entries = f.entries; allowed = into (Texts f.entries) f.allowed; quiet = f.quiet; left = later f.entries f.left }

-- a stage that does nothing to the world was refused
pub refused_came : (P : Answer → Type 0) (named : List Text) (Cause : Text → Type 0) (a b : Told) → ((line : Text) → Cause line → P (Refused line)) → Leaves [] a b → (e : Ending) → RefusedBy e Cause → Came P named e a b
refused_came P named Cause a b into left (Refusing line) cause = record { answer = Refused line; allowed = into line cause; quiet = refl; refusal = refl; left = left }
refused_came P named Cause a b into left (Failing line) cause = absurd cause
refused_came P named Cause a b into left Wanting cause = left

pub refused_weaker : (Cause Other : Text → Type 0) → ((line : Text) → Cause line → Other line) → (e : Ending) → RefusedBy e Cause → RefusedBy e Other
refused_weaker Cause Other into (Refusing line) cause = into line cause
refused_weaker Cause Other into (Failing line) cause = cause
refused_weaker Cause Other into Wanting cause = cause

pub table_weaker : (P Q : Answer → Type 0) (s : Status) (named : List Text) (a b : Told) → ((x : Answer) → P x → Q x) → Table P s named a b → Table Q s named a b
table_weaker P Q s named a b into t = record { answer = t.answer; allowed = into t.answer t.allowed; quiet = t.quiet; ends = t.ends }

-- ---- completeness: where one answer is allowed and it has no refusal but a stop, and faults did not rise, it was given, or memory ran out

-- the entries were done, and the line of a stop was written
abbrev pub IsGiven : Status → Answer → Told → Told → Type 0
IsGiven s (Refused line) before now = (s ≡ status.Refused) × Leaves (on_errors (error_line line)) before now
IsGiven s (Unread name) before now = s ≡ status.WorldFault
IsGiven s (Texts entries) before now = (s ≡ status.Done) × Leaves entries before now
IsGiven s (Stopped entries line) before now = (s ≡ status.Refused) × Leaves (entries ++ on_errors (error_line line)) before now

abbrev pub IsComplete : Status → Answer → Told → Told → Type 0
IsComplete s a before now = IsGiven s a before now ⊎ ((s ≡ status.NoMemory) ⊎ Rose before.faults now.faults)

refused_given : (a : Answer) (line : Text) (b c : Told) → refusal_of a ≡ Some line → Leaves (entries_of a ++ on_errors (error_line line)) b c → IsGiven status.Refused a b c
refused_given (Refused own) line b c is left = let same : line ≡ own = (let both : Some own ≡ Some line = is in cc both) in (refl, subst (λ (l : Text). Leaves (on_errors (error_line l)) b c) same left)
refused_given (Unread name) line b c is left = absurd (cc is)
refused_given (Texts entries) line b c is left = absurd (cc is)
refused_given (Stopped entries own) line b c is left = let same : line ≡ own = (let both : Some own ≡ Some line = is in cc both) in (refl, subst (λ (l : Text). Leaves (entries ++ on_errors (error_line l)) b c) same left)

complete_by : (s : Status) (named : List Text) (a : Answer) (b c : Told) → Ends s named a b c → IsComplete s a b c
complete_by status.Done named a b c e = inl (subst (λ (x : Answer). IsGiven status.Done x b c) (sym e.answer) (refl, e.left))
complete_by status.Refused named a b c e = inl (refused_given a e.line b c e.answer e.left)
complete_by status.NoMemory named a b c e = inr (inl refl)
complete_by status.WorldFault named a b c e = elim e.cause [
  | inl rose ↦ inr (inr rose)
  | inr missing ↦ inl (subst (λ (x : Answer). IsGiven status.WorldFault x b c) (sym missing.1) refl)
]

pub table_complete : (P : Answer → Type 0) (s : Status) (named : List Text) (a : Answer) (b c : Told) → ((x : Answer) → P x → x ≡ a) → Table P s named b c → IsComplete s a b c
table_complete P s named a b c one t = subst (λ (x : Answer). IsComplete s x b c) (one t.answer t.allowed) (complete_by s named t.answer b c t.ends)
