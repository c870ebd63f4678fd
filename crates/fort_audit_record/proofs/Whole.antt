-- What bytes are, by what they make of a reader.
use Rattle.std.proofs.Common.{◌≡◌, ◌≢◌, ℕ, ◌+◌, List, [], ◌∷◌, ◌++◌, length, take, decimal, Option, Some, None, refl, ap, sym, ◌∙◌, subst, append_assoc, append-nil, arith, length-append, take_all, unwrap_or, suc-ne-zero, eqb-true, true, false}
use Rattle.std.proofs.lemmas.List.{take_at}
use Rattle.fort_core.specs.declared.journal.Journal.{Journal}
use Rattle.fort_audit_record.specs.declared.reader.Word.TheVariants as word
use Rattle.fort_audit_record.specs.declared.reader.Stage.{Stage}
use Rattle.fort_audit_record.specs.declared.reader.Stage.TheVariants as stage
use Rattle.fort_audit_record.specs.declared.reader.Reader.{Reader}
use Rattle.fort_audit_record.specs.Text.{picks_text, ending_text, fit_none, IsRecordText, BeginsRecord, IsFormFault, OneRecord}
use Rattle.fort_audit_record.specs.Reading.{word_text, next, read_on, begun, is_whole}
use Rattle.fort_audit_record.proofs.SoFar.{top, top_more, ended, so_far_at, so_far, MayStage, Good}
use Rattle.fort_audit_record.proofs.Steps.{bytes_read}
use Rattle.fort_audit_record.proofs.Again.{text_again}
use Rattle.fort_audit_record.proofs.Finish.{read_append, finishes}

-- the journal that was read
abbrev pub journal_of : Reader → Journal
journal_of r = record { fuel = r.fuel; picks = r.picks; ending = r.ending }

good_begun : Good begun
good_begun = record {
  fuel = omega arith;
  main = fit_none;
  attempts = tt;
  picks = fit_none;
  path = tt;
  part = tt;
  number = tt;
  ty = omega arith;
  one_last = λ e. refl;
  silent = refl;
  may = (omega arith, record { none_open = refl; no_last = refl; no_picks = refl });
}

-- what was read, all of it
pub read_is : (front : List ℕ) (r : Reader) → read_on (Some begun) front ≡ Some r
    → Good r × (so_far r ≡ front)
read_is front r e = bytes_read begun front r good_begun e

-- where all was read, the bytes are a record's text
is_text : (r : Reader) (bytes : List ℕ) → Good r → r.stage ≡ stage.Output 0 → so_far r ≡ bytes
    → IsRecordText bytes (journal_of r) r.output
is_text r bytes g e t =
    let may = subst (MayStage r) e g.may in
    let size : length r.output + 0 ≡ length r.output = omega arith in
    record {
      fits = record { fuel = g.fuel; picks = g.picks; ending = may.0; size = omega (arith, may.1) };
      is_text =
          sym t ∙ ap (so_far_at r) e
          ∙ ap (λ n. ended r ++ (word_text word.Output ++ (decimal n ++ (10 ∷ r.output)))) size
          ∙ sym (top_more r.fuel (picks_text r.picks ++ ending_text r.ending)
          (word_text word.Output ++ (decimal (length r.output) ++ (10 ∷ r.output))))
          ∙ ap (top r.fuel)
          (append_assoc (picks_text r.picks) (ending_text r.ending)
          (word_text word.Output ++ (decimal (length r.output) ++ (10 ∷ r.output))));
    }

pub all_read : (bytes : List ℕ) (r : Reader) → read_on (Some begun) bytes ≡ Some r
    → r.stage ≡ stage.Output 0 → IsRecordText bytes (journal_of r) r.output
all_read bytes r e s = let k = read_is bytes r e in is_text r bytes k.0 s k.1

-- bytes that are read begin a record
pub begins : (front : List ℕ) (r : Reader) → read_on (Some begun) front ≡ Some r
    → BeginsRecord front
begins front r e =
    let k = read_is front r e in
    let f = finishes r k.0 in
    let s = f.1.0 in
    let rest = bytes_read r f.0 s k.0 f.1.1.0 in
    record {
      more = f.0;
      journal = journal_of s;
      output = s.output;
      whole = is_text s (front ++ f.0) rest.0 f.1.1.1 (rest.1 ∙ ap (λ x. x ++ f.0) k.1);
    }

none_reads : (bs : List ℕ) → read_on None bs ≡ None
none_reads [] = refl
none_reads (b ∷ bs) = refl

-- with a byte that isn't read they begin none
pub stops : (front : List ℕ) (r : Reader) (b : ℕ) (more : List ℕ) (j : Journal) (output : List ℕ)
    → read_on (Some begun) front ≡ Some r → next r b ≡ None
    → IsRecordText (front ++ b ∷ more) j output → ⊥
stops front r b more j output e n t =
    let again = text_again j output t.fits in
    let none : read_on (Some begun) (front ++ b ∷ more) ≡ None =
    read_append (Some begun) front (b ∷ more) ∙ ap (λ o. read_on o (b ∷ more)) e
    ∙ ap (λ o. read_on o more) n ∙ none_reads more in
    let both : None ≡ Some _ = sym none ∙ ap (read_on (Some begun)) t.is_text ∙ again.1 in
    cc

-- where not all was read they are no record's text
pub no_end : (bytes : List ℕ) (r : Reader) (j : Journal) (output : List ℕ)
    → read_on (Some begun) bytes ≡ Some r → r.stage ≢ stage.Output 0 → IsRecordText bytes j output
    → ⊥
no_end bytes r j output e n t =
    let again = text_again j output t.fits in
    n (ap (λ (o : Option Reader). (unwrap_or o r).stage) (sym e
    ∙ ap (read_on (Some begun)) t.is_text ∙ again.1))

pub form_fault : (bytes front : List ℕ) (r : Reader) (b : ℕ) (more : List ℕ) (at : ℕ)
    → bytes ≡ front ++ b ∷ more → at ≡ length front → read_on (Some begun) front ≡ Some r
    → next r b ≡ None → IsFormFault bytes at
form_fault bytes front r b more at is len e n =
    let first : take at bytes ≡ front = ap (take at) is ∙ take_at front (b ∷ more) at (sym len) in
    let with_it : take (at + 1) bytes ≡ front ++ b ∷ [] =
    ap (take (at + 1)) (is ∙ sym (append_assoc front (b ∷ []) more))
    ∙ take_at (front ++ b ∷ []) more (at + 1) (omega (arith, len, length-append front (b ∷ [])))
    in
    record {
      within = omega (arith, len, ap length is, length-append front (b ∷ more));
      begins = subst BeginsRecord (sym first) (begins front r e);
      stops = λ l k. let q = subst BeginsRecord with_it k
          in stops front r b q.more q.journal q.output e n
          (subst (λ t. IsRecordText t q.journal q.output) (append_assoc front (b ∷ []) q.more)
          q.whole);
      no_record =
          λ j output t. stops front r b more j output e n
          (subst (λ x. IsRecordText x j output) is t);
    }

pub end_fault : (bytes : List ℕ) (r : Reader) → read_on (Some begun) bytes ≡ Some r
    → r.stage ≢ stage.Output 0 → IsFormFault bytes (length bytes)
end_fault bytes r e n = record {
  within = omega arith;
  begins = subst BeginsRecord (sym (take_all (length bytes) bytes (omega arith)))
      (begins bytes r e);
  stops = λ l. absurd (omega (arith, l));
  no_record = λ j output t. no_end bytes r j output e n t;
}

-- a byte more is read
pub one_more : (front : List ℕ) (r s : Reader) (b : ℕ) → read_on (Some begun) front ≡ Some r
    → next r b ≡ Some s → read_on (Some begun) (front ++ b ∷ []) ≡ Some s
one_more front r s b e n =
    read_append (Some begun) front (b ∷ []) ∙ ap (λ o. read_on o (b ∷ [])) e ∙ n

pub nothing : (bs : List ℕ) → length bs ≡ 0 → bs ≡ []
nothing [] e = refl
nothing (b ∷ bs) e = absurd (suc-ne-zero (length bs) e)

-- nothing is left
pub at_end : (bytes front rest : List ℕ) (r : Reader) → bytes ≡ front ++ rest → length rest ≡ 0
    → read_on (Some begun) front ≡ Some r → read_on (Some begun) bytes ≡ Some r
at_end bytes front rest r is none e =
    ap (read_on (Some begun)) (is ∙ ap (λ x. front ++ x) (nothing rest none) ∙ append-nil front) ∙ e

pub whole_is : (st : Stage) → is_whole st ≡ true → st ≡ stage.Output 0
whole_is (stage.Word w k) e = let q = e in cc
whole_is (stage.Number f) e = let q = e in cc
whole_is stage.Type e = let q = e in cc
whole_is (stage.Path w) e = let q = e in cc
whole_is (stage.Dash w) e = let q = e in cc
whole_is stage.Line e = let q = e in cc
whole_is (stage.Output n) e = ap stage.Output (eqb-true n 0 e)

pub whole_not : (st : Stage) → is_whole st ≡ false → st ≢ stage.Output 0
whole_not st e q = let t : false ≡ true = sym e ∙ ap is_whole q in cc

pub one_record : OneRecord
one_record bytes j k output other t u =
    let a = text_again j output t.fits in
    let b = text_again k other u.fits in
    let same =
    ap (λ (o : Option Reader). unwrap_or o begun) (sym a.1
    ∙ sym (ap (read_on (Some begun)) t.is_text) ∙ ap (read_on (Some begun)) u.is_text ∙ b.1)
    in
    (ap journal_of same, ap (λ r. r.output) same)
