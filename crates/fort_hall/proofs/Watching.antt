-- The first pass watches the book while others add to it, and the output that it has seen grows.
use Rattle.std.proofs.Common.{◌≡◌, ℕ, ◌≤◌, ◌+◌, Bool, true, false, List, [], ◌++◌, length, take, drop, Option, Some, refl, sym, ap, ◌∙◌, subst, arith, append_assoc}
use Rattle.std.proofs.lemmas.List.{take-append-drop, length-append, append-nil}
use mathlib.Core.List.{IsPrefix}
use Rattle.fort_turn.specs.declared.held.Pass.{Pass}
use Rattle.fort_turn.specs.declared.held.Turn.{Turn}
use Rattle.fort_turn.specs.Book.{has, entries_by, log_of, Follows}
use Rattle.fort_turn.specs.Passes.{IsIdle, IsSame, numbers_of, seen_by}
use Rattle.fort_port_output.specs.Written.{Change, ComesNext, HasWritten, Writes}
use Rattle.fort_port_output.specs.declared.progress.Progress.{Progress}
use Rattle.fort_port_output.proofs.Growing.{more_written, none_written}
use Rattle.fort_port_output.proofs.Next.{within_text}
use Rattle.fort_hall.specs.Output.{SeesMore, Watches, WritesOn}

pub prefix_trans : {A : Type 0} (a b c : List A) → IsPrefix a b → IsPrefix b c → IsPrefix a c
prefix_trans a b c p q =
    (p.0 ++ q.0, sym (append_assoc a p.0 q.0) ∙ (ap (λ l. l ++ q.0) p.1 ∙ q.1))

pub prefix_long : {A : Type 0} (a b : List A) → IsPrefix a b → length a ≤ length b
prefix_long a b p = let e : length a + length p.0 ≡ length b = sym (length-append a p.0) ∙ ap length p.1 in
    omega (arith, e)

-- the bytes that were copied come next
pub copied : (text into : List ℕ) (from n : ℕ) → take n into ≡ take n (drop from text)
    → ComesNext text from (take n into)
copied text into from n same =
    (drop n (drop from text), sym (take-append-drop n (drop from text)) ∙ ap (λ l. l ++ drop n (drop from text)) (sym same))

module _ {B E O : Type 0} (keeps : B → Type 0) (history : B → List E) (origin : B → O)
    (by : E → ℕ) where
  -- the pass took a book and gave it back as it was
  pub watches_on : (t : Turn B) (start : O) (p q o : Pass B) (b : B)
      → Watches keeps history origin by t start p
      → keeps b → Follows history origin by (seen_by p) (numbers_of p) b
      → IsSame p q → IsSame q o → IsIdle t o → seen_by o ≡ Some b
      → Watches keeps history origin by t start o
  watches_on t start p q o b w kept f one two idle seen = record {
    idle = idle;
    first = two.3 ∙ (one.3 ∙ w.first);
    numbers = two.2 ∙ (one.2 ∙ w.numbers);
    book = b;
    seen = seen;
    kept = kept;
    origin_is = f.origin_is w.book w.seen ∙ w.origin_is;
    none =
        f.own 0 (ap (has 0) w.numbers)
        ∙ (ap (λ s. entries_by by 0 (log_of history s)) w.seen ∙ w.none);
  }

  module _ (output : B → List ℕ)
      (grows : (a b : B) → keeps a → keeps b → origin b ≡ origin a
      → IsPrefix (history a) (history b) → IsPrefix (output a) (output b)) where
    -- what the pass had seen printed begins what the later book has printed
    pub output_on : (t : Turn B) (start : O) (p : Pass B) (b : B)
        → Watches keeps history origin by t start p
        → keeps b → Follows history origin by (seen_by p) (numbers_of p) b
        → IsPrefix (log_of output (seen_by p)) (output b)
    output_on t start p b w kept f =
        subst (λ (s : Option B). IsPrefix (log_of output s) (output b)) (sym w.seen)
        (grows w.book b w.kept kept (f.origin_is w.book w.seen)
        (subst (λ (s : Option B). IsPrefix (log_of history s) (history b)) w.seen f.begins))

    -- and so it is where the pass has come to see more, and the book that is handed out follows that
    pub output_in_the_end : (t : Turn B) (start : O) (p q : Pass B) (b : B)
        → Watches keeps history origin by t start p
        → SeesMore history origin p q
        → keeps b → Follows history origin by (seen_by q) (numbers_of q) b
        → IsPrefix (log_of output (seen_by p)) (output b)
    output_in_the_end t start p q b w more kept f =
        let m = more w.book w.seen in
        subst (λ (s : Option B). IsPrefix (log_of output s) (output b)) (sym w.seen)
        (grows w.book b w.kept kept (f.origin_is m.0 m.1 ∙ m.2)
        (prefix_trans (history w.book) (history m.0) (history b) m.3
        (subst (λ (s : Option B). IsPrefix (log_of history s) (history b)) m.1 f.begins)))

module _ {B E O : Type 0} (history : B → List E) (origin : B → O) (by : E → ℕ) where
  pub sees_itself : (p : Pass B) → SeesMore history origin p p
  sees_itself p b seen = (b, seen, refl, ([], append-nil (history b)))

  pub sees_further : (p q o : Pass B) (b : B) → SeesMore history origin p q
      → seen_by o ≡ Some b → Follows history origin by (seen_by q) (numbers_of q) b
      → SeesMore history origin p o
  sees_further p q o b more seen f a first =
      let m = more a first in (
        b,
        seen,
        f.origin_is m.0 m.1 ∙ m.2,
        prefix_trans (history a) (history m.0) (history b) m.3
            (subst (λ (s : Option B). IsPrefix (log_of history s) (history b)) m.1 f.begins),
      )

-- the same text with more behind it
pub written_longer : {ready : Type 0} (sink : Change) (text longer : List ℕ) (p : Progress)
    → IsPrefix text longer → HasWritten ready sink text p → HasWritten ready sink longer p
written_longer {ready} sink text longer p more h =
    subst (λ (l : List ℕ). HasWritten ready sink l p) more.1 (more_written sink text more.0 p h)

-- where nothing comes next, or it isn't written
pub only_longer : (ready : Type 0) (is : Option (List ℕ)) (faults : ℕ) (text longer : List ℕ)
    (p : Progress) → IsPrefix text longer
    → WritesOn ready ready (record {
      was = is;
      is = is;
      faults_were = faults;
      faults_are = faults;
    }) text longer p p
only_longer ready is faults text longer p more = record {
  written = λ was faults_were h. written_longer _ text longer p more h;
  failed = λ f. (f, refl, refl);
}

-- where what comes next was written
pub writes_next : (ready now : Type 0) (sink : Change) (text longer piece : List ℕ)
    (p q : Progress) → IsPrefix text longer → ComesNext longer p.bytes piece → p.failed ≡ false
    → ((was : Option (List ℕ)) → (faults_were : ℕ) → (l : List ℕ) → ComesNext l p.bytes piece
    → HasWritten ready (record {
      was = was;
      is = sink.was;
      faults_were = faults_were;
      faults_are = sink.faults_were;
    }) l p
    → HasWritten now (record {
      was = was;
      is = sink.is;
      faults_were = faults_were;
      faults_are = sink.faults_are;
    }) l q)
    → WritesOn ready now sink text longer p q
writes_next ready now sink text longer piece p q more next calm step = record {
  written = λ was faults_were h. step was faults_were longer next (written_longer _ text longer p more h);
  failed = λ f. absurd (let z : true ≡ false = sym f ∙ calm in cc);
}

-- no more was written than there is
pub within_longer : (text longer piece : List ℕ) (at bytes : ℕ) → IsPrefix text longer
    → ComesNext longer at piece → at ≤ length text → bytes ≡ at + length piece
    → bytes ≤ length longer
within_longer text longer piece at bytes more next within is =
    let w = within_text longer piece at next (omega (arith, prefix_long text longer more, within)) in
    omega (arith, w, is)

-- all that was written from the beginning on, of the output at the end
pub writes_all : (failed : Bool) (ready now : Type 0) (sink : Change) (text longer all : List ℕ)
    (p q : Progress) → (failed ≡ false → ready) → p.bytes ≡ 0 → p.failed ≡ failed
    → WritesOn ready now sink text longer p q → IsPrefix longer all
    → Writes failed now sink all q
writes_all true ready now sink text longer all p q can none is on more = on.failed is
writes_all false ready now sink text longer all p q can none is on more =
    written_longer sink longer all q more
    (on.written sink.was sink.faults_were (none_written sink.was sink.faults_were text p (can refl) is none))

-- the same of the output as it is handed back
pub writes_given : {S : Type 0} (can : S → Type 0) (written : S → Option (List ℕ)) (faults : S → ℕ)
    (before after given : S) (failed : Bool) (text longer all : List ℕ) (p q : Progress)
    → given ≡ after → (failed ≡ false → can before) → p.bytes ≡ 0 → p.failed ≡ failed
    → WritesOn (can before) (can after) (record {
      was = written before;
      is = written after;
      faults_were = faults before;
      faults_are = faults after;
    }) text longer p q
    → IsPrefix longer all
    → Writes failed (can given) (record {
      was = written before;
      is = written given;
      faults_were = faults before;
      faults_are = faults given;
    }) all q
writes_given {S} can written faults before after given failed text longer all p q same ready none is on more =
    subst (λ (s : S). Writes failed (can s) (record {
      was = written before;
      is = written s;
      faults_were = faults before;
      faults_are = faults s;
    }) all q) (sym same)
    (writes_all failed (can before) (can after) (record {
      was = written before;
      is = written after;
      faults_were = faults before;
      faults_are = faults after;
    }) text longer all p q ready none is on more)
