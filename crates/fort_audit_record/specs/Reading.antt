-- Chapter "The text of a record" of docs/RECORDS.md: what the next byte makes of what was read of a
-- record so far. No contract of a public call speaks of this; `Text` is what they speak of.
use Rattle.std.specs.Prelude.{ℕ, ◌+◌, ◌-◌, ◌*◌, ◌^◌, Bool, true, false, cond, not, ◌&&◌, ◌||◌, nat_eq, nat_le, List, [], ◌∷◌, ◌++◌, length, take, get_or, slice_get, codes, Option, Some, None, option_map}
use Rattle.fort_core.specs.declared.journal.Ending.TheVariants.{NotRun, Completed, Uncaught, OutOfFuel}
use Rattle.fort_core.specs.declared.pick.Pick.{Pick, Step, Attempt}
use Rattle.fort_core.specs.declared.value.Value.{Object}
use Rattle.fort_audit_record.specs.declared.reader.Word.{Word}
use Rattle.fort_audit_record.specs.declared.reader.Word.TheVariants as word
use Rattle.fort_audit_record.specs.declared.reader.Field.{Field}
use Rattle.fort_audit_record.specs.declared.reader.Field.TheVariants as field
use Rattle.fort_audit_record.specs.declared.reader.Way.{Way}
use Rattle.fort_audit_record.specs.declared.reader.Way.TheVariants as way
use Rattle.fort_audit_record.specs.declared.reader.Stage.{Stage}
use Rattle.fort_audit_record.specs.declared.reader.Stage.TheVariants as stage
use Rattle.fort_audit_record.specs.declared.reader.Open.{Open}
use Rattle.fort_audit_record.specs.declared.reader.Reader.{Reader}

abbrev pub word_text : Word → List ℕ
word_text word.Head = codes "fortress record 1" ++ (10 ∷ codes "fuel ")
word_text word.Step = codes "s "
word_text word.Attempt = codes "a "
word_text word.End = codes "z" ++ 10 ∷ []
word_text word.Completed = codes "completed" ++ 10 ∷ []
word_text word.Uncaught = codes "uncaught "
word_text word.Out = codes "out" ++ 10 ∷ []
word_text word.Output = codes "output "

-- the byte that ends a path
abbrev pub way_end : Way → ℕ
way_end way.Step = 32
way_end way.Attempt = 10

abbrev pub way_word : Way → Word
way_word way.Step = word.Step
way_word way.Attempt = word.Attempt

abbrev pub is_digit : ℕ → Bool
is_digit b = nat_le 48 b && nat_le b 57

-- a number with a digit more, if it doesn't begin with 0 and stays below a limit
abbrev pub grown : ℕ → Option ℕ → ℕ → Option ℕ
grown limit None b = Some (b - 48)
grown limit (Some n) b =
    cond (nat_eq n 0 || nat_le limit (n * 10 + (b - 48))) None (Some (n * 10 + (b - 48)))

abbrev pub is_empty : {A : Type 0} → List A → Bool
is_empty [] = true
is_empty (x ∷ xs) = false

-- nothing is read
abbrev pub begun : Reader
begun = record {
  stage = stage.Word word.Head 0;
  fuel = 0;
  is_last = false;
  main = [];
  attempts = [];
  picks = [];
  path = [];
  part = None;
  number = None;
  ty = 0;
  ending = NotRun;
  output = [];
}

-- a pick was read: of an attempt or of the run; or the one behind `out`
unfoldable pub put_pick : Reader → Pick → Reader
put_pick r p =
    cond (r.is_last
    && is_empty r.attempts)
    (record r {
      ending = OutOfFuel p;
      picks = r.main;
      is_last = false;
      main = [];
      stage = stage.Word word.Output 0;
    })
    (record r { picks = r.picks ++ p ∷ []; stage = stage.Line })

-- the innermost attempt was read
abbrev pub closed : Reader → Option Open → Reader
closed r None = r
closed r (Some o) =
    put_pick (record r { attempts = take (length r.attempts - 1) r.attempts; picks = o.before })
    (Attempt o.path r.picks)

abbrev pub after_word : Reader → Word → Reader
after_word r word.Head = record r { stage = stage.Number field.Fuel; number = None }
after_word r word.Step = record r { stage = stage.Path way.Step; path = []; part = None }
after_word r word.Attempt = record r { stage = stage.Path way.Attempt; path = []; part = None }
after_word r word.End = closed r (slice_get r.attempts (length r.attempts - 1))
after_word r word.Completed = record r { ending = Completed; stage = stage.Word word.Output 0 }
after_word r word.Uncaught = record r { stage = stage.Type; part = None }
after_word r word.Out = record r { is_last = true; main = r.picks; picks = []; stage = stage.Line }
after_word r word.Output = record r { stage = stage.Number field.Size; number = None }

abbrev pub after_number : Reader → Field → ℕ → Reader
after_number r field.Fuel n = record r { fuel = n; stage = stage.Line }
after_number r field.Location n =
    put_pick (record r { path = [] }) (Step (record { 0 = r.path }) (record { 0 = n }))
after_number r field.Base n =
    record r {
      ending = Uncaught (Object (record { 0 = r.ty }) (record { 0 = n }));
      stage = stage.Word word.Output 0;
    }
after_number r field.Size n = record r { stage = stage.Output n }

abbrev pub after_path : Reader → Way → List ℕ → Reader
after_path r way.Step path =
    record r { path = path; stage = stage.Number field.Location; number = None }
after_path r way.Attempt path =
    record r {
      path = [];
      attempts = r.attempts ++ record { path = record { 0 = path }; before = r.picks } ∷ [];
      picks = [];
      stage = stage.Line;
    }

-- ---- the next byte, by what is being read

abbrev pub next_in_word : Reader → Word → ℕ → ℕ → Option Reader
next_in_word r w k b =
    cond (nat_eq (get_or (word_text w) k 256) b)
    (Some (cond (nat_eq (k + 1) (length (word_text w))) (after_word r w)
    (record r { stage = stage.Word w (k + 1) }))) None

abbrev pub next_in_number : Reader → Field → ℕ → Option Reader
next_in_number r f b =
    cond (is_digit b) (option_map (λ n. record r { number = Some n }) (grown (2 ^ 64) r.number b))
    (cond (nat_eq b 10) (option_map (after_number r f) r.number) None)

abbrev pub next_in_type : Reader → ℕ → Option Reader
next_in_type r b =
    cond (is_digit b) (option_map (λ n. record r { part = Some n }) (grown (2 ^ 32) r.part b))
    (cond (nat_eq b 32)
    (option_map (λ n. record r { ty = n; stage = stage.Number field.Base; number = None })
    r.part) None)

-- a byte of a path that is no digit, behind a number or none
abbrev pub behind_part : Reader → Way → ℕ → Option ℕ → Option Reader
behind_part r w b None =
    cond (nat_eq b 45 && is_empty r.path) (Some (record r { stage = stage.Dash w })) None
behind_part r w b (Some n) =
    cond (nat_eq b 46) (Some (record r { path = r.path ++ n ∷ []; part = None }))
    (cond (nat_eq b (way_end w)) (Some (after_path r w (r.path ++ n ∷ []))) None)

abbrev pub next_in_path : Reader → Way → ℕ → Option Reader
next_in_path r w b =
    cond (is_digit b) (option_map (λ n. record r { part = Some n }) (grown (2 ^ 32) r.part b))
    (behind_part r w b r.part)

abbrev pub next_after_dash : Reader → Way → ℕ → Option Reader
next_after_dash r w b = cond (nat_eq b (way_end w)) (Some (after_path r w [])) None

-- a word begins, if it may stand here
abbrev pub if_may : Bool → Reader → Word → Option Reader
if_may may r w = cond may (Some (record r { stage = stage.Word w 1 })) None

-- the run's own picks are being read, and no attempt is open
abbrev pub may_end : Reader → Bool
may_end r = is_empty r.attempts && not r.is_last

abbrev pub next_in_line : Reader → ℕ → Option Reader
next_in_line r b =
    cond (nat_eq b 115) (if_may true r word.Step)
    (cond (nat_eq b 97) (if_may true r word.Attempt)
    (cond (nat_eq b 122) (if_may (not (is_empty r.attempts)) r word.End)
    (cond (nat_eq b 99) (if_may (may_end r) r word.Completed)
    (cond (nat_eq b 117) (if_may (may_end r) r word.Uncaught)
    (cond (nat_eq b 111) (if_may (may_end r) r word.Out) None)))))

abbrev pub next_in_output : Reader → ℕ → ℕ → Option Reader
next_in_output r left b =
    cond (nat_eq left 0) None
    (Some (record r { output = r.output ++ b ∷ []; stage = stage.Output (left - 1) }))

abbrev pub next_at : Reader → ℕ → Stage → Option Reader
next_at r b (stage.Word w k) = next_in_word r w k b
next_at r b (stage.Number f) = next_in_number r f b
next_at r b stage.Type = next_in_type r b
next_at r b (stage.Path w) = next_in_path r w b
next_at r b (stage.Dash w) = next_after_dash r w b
next_at r b stage.Line = next_in_line r b
next_at r b (stage.Output left) = next_in_output r left b

-- what the next byte makes of a reader, if a record may have it there
abbrev pub next : Reader → ℕ → Option Reader
next r b = next_at r b r.stage

-- what bytes make of it
abbrev pub read_on : Option Reader → List ℕ → Option Reader
read_on r [] = r
read_on None (b ∷ bs) = None
read_on (Some r) (b ∷ bs) = read_on (next r b) bs

-- all of the output was read
abbrev pub is_whole : Stage → Bool
is_whole (stage.Output left) = nat_eq left 0
is_whole st = false
