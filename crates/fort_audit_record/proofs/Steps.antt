-- Each byte that is read stands at the end of what was read.
use Rattle.std.proofs.Common.{◌≡◌, ◌≢◌, ℕ, ◌+◌, ◌-◌, ◌<◌, ◌^◌, Bool, true, false, cond, ◌&&◌, not, nat_eq, List, [], ◌∷◌, ◌++◌, length, length-append, take, get_or, decimal, Option, Some, None, IfSome, option_map, refl, ap, ap₂, sym, ◌∙◌, subst, append_assoc, append-nil, arith, take_all, unwrap_or, eqb-true, false-eqb}
use Rattle.std.proofs.lemmas.List.{take_more}
use Rattle.fort_core.specs.declared.journal.Ending.{Ending}
use Rattle.fort_core.specs.declared.journal.Ending.TheVariants.{Completed, Uncaught, OutOfFuel}
use Rattle.fort_core.specs.declared.pick.Pick.{Pick, Step, Attempt}
use Rattle.fort_audit_record.specs.declared.reader.Word.{Word}
use Rattle.fort_audit_record.specs.declared.reader.Word.TheVariants as word
use Rattle.fort_audit_record.specs.declared.reader.Field.{Field}
use Rattle.fort_audit_record.specs.declared.reader.Field.TheVariants as field
use Rattle.fort_audit_record.specs.declared.reader.Way.{Way}
use Rattle.fort_audit_record.specs.declared.reader.Way.TheVariants as way
use Rattle.fort_audit_record.specs.declared.reader.Stage.{Stage}
use Rattle.fort_audit_record.specs.declared.reader.Stage.TheVariants as stage
use Rattle.fort_audit_record.specs.declared.reader.Open.{Open}
use Rattle.fort_audit_record.specs.declared.reader.Reader.{Reader}
use Rattle.fort_core.specs.declared.value.Value.{Object}
use Rattle.fort_core.specs.declared.value.Value.TheVariants.{outs-Object}
use Rattle.fort_audit_record.specs.Text.{thrown_text, further, path_text, pick_text, picks_text, ending_text, FitPath, FitPicks, FitPick, fit_none, fit_more, fit_step, fit_attempt, FitEnding}
use Rattle.fort_audit_record.specs.Reading.{word_text, way_end, way_word, is_digit, grown, is_empty, put_pick, after_word, after_number, after_path, next_in_word, next_in_number, next_in_type, behind_part, next_in_path, next_after_dash, if_may, may_end, next_in_line, next_in_output, next_at, next, read_on}
use Rattle.fort_audit_record.proofs.Texts.{head_text, step_text, attempt_parts, further_last}
use Rattle.fort_audit_record.proofs.Lasts.{closed_is}
use Rattle.fort_audit_record.proofs.Digits.{both_true, grown_tells}
use Rattle.fort_audit_record.proofs.SoFar.{lines, lines_last, lines_more, body, top, top_more, before, ended, digits, parts_text, word_front, field_front, so_far_at, so_far, outermost, Silent, FitOpen, MayEnd, MayWord, MayField, MayStage, Good}

-- a reader that stands so
pub record Stands (r : Reader) (st : Stage) : Type 0 where
  pub fuel : r.fuel < 2 ^ 64
  pub main : FitPicks r.main
  pub attempts : FitOpen r.attempts
  pub picks : FitPicks r.picks
  pub path : FitPath r.path
  pub part : IfSome r.part (λ n. n < 2 ^ 32)
  pub number : IfSome r.number (λ n. n < 2 ^ 64)
  pub ty : r.ty < 2 ^ 32
  pub one_last : r.is_last ≡ true → outermost r.attempts r.picks ≡ []
  pub silent : Silent r st
  pub may : MayStage r st

pub stands_good : (r : Reader) → Stands r r.stage → Good r
stands_good r k =
    record {
      fuel = k.fuel;
      main = k.main;
      attempts = k.attempts;
      picks = k.picks;
      path = k.path;
      part = k.part;
      number = k.number;
      ty = k.ty;
      one_last = k.one_last;
      silent = k.silent;
      may = k.may;
    }

pub good_stands : (r : Reader) → Good r → Stands r r.stage
good_stands r k =
    record {
      fuel = k.fuel;
      main = k.main;
      attempts = k.attempts;
      picks = k.picks;
      path = k.path;
      part = k.part;
      number = k.number;
      ty = k.ty;
      one_last = k.one_last;
      silent = k.silent;
      may = k.may;
    }

-- what a byte makes of a reader that stands so
abbrev pub Reads : Reader → Stage → ℕ → Reader → Type 0
Reads r st b s = Good s × (so_far s ≡ so_far_at r st ++ b ∷ [])

-- what a text makes of it
abbrev pub Comes : List ℕ → Reader → Type 0
Comes text s = Good s × (so_far s ≡ text)

-- ---- parts

pub fit_path_last : (ns : List ℕ) (n : ℕ) → FitPath ns → n < 2 ^ 32 → FitPath (ns ++ n ∷ [])
fit_path_last [] n f k = (k, tt)
fit_path_last (m ∷ ms) n f k = (f.0, fit_path_last ms n f.1 k)

pub fit_picks_last : (ps : List Pick) (p : Pick) → FitPicks ps → FitPick p → FitPicks (ps ++ p ∷ [])
fit_picks_last [] p f k = fit_more k fit_none
fit_picks_last (q ∷ ps) p (fit_more f g) k = fit_more f (fit_picks_last ps p g k)

pub fit_open_last : (os : List Open) (o : Open) → FitOpen os → FitPath o.path.0 → FitPicks o.before
    → FitOpen (os ++ o ∷ [])
fit_open_last [] o f a b = (a, b, tt)
fit_open_last (q ∷ os) o f a b = (f.0, f.1, fit_open_last os o f.2 a b)

pub fit_open_parts : (os : List Open) (o : Open) → FitOpen (os ++ o ∷ [])
    → FitOpen os × FitPath o.path.0 × FitPicks o.before
fit_open_parts [] o f = (tt, f.0, f.1)
fit_open_parts (q ∷ os) o f = let g = fit_open_parts os o f.2 in ((f.0, f.1, g.0), g.1, g.2)

pub path_last : (ns : List ℕ) (n : ℕ) → path_text (ns ++ n ∷ []) ≡ parts_text ns (Some n)
path_last [] n = append-nil (decimal n)
path_last (m ∷ ms) n =
    ap (λ x. decimal m ++ x) (further_last ms n)
    ∙ sym (append_assoc (decimal m) (further ms) (46 ∷ decimal n))

pub parts_digit : (ns : List ℕ) (o p : Option ℕ) (b : ℕ) → digits p ≡ digits o ++ b ∷ []
    → parts_text ns p ≡ parts_text ns o ++ b ∷ []
parts_digit [] o p b e = e
parts_digit (m ∷ ms) o p b e =
    ap (λ x. path_text (m ∷ ms) ++ (46 ∷ x)) e
    ∙ sym (append_assoc (path_text (m ∷ ms)) (46 ∷ digits o) (b ∷ []))

none_or : {A : Type 0} (xs : List A) → is_empty xs ≡ true → xs ≡ []
none_or [] e = refl
none_or (x ∷ xs) e = let q = e in cc

some_or : {A : Type 0} (xs : List A) → is_empty xs ≡ false → xs ≢ []
some_or [] e q = let p = e in cc
some_or (x ∷ xs) e q =
    let p = q in let t : is_empty (x ∷ xs) ≡ true = ap is_empty p in let u : false ≡ true = t in cc

-- ---- a pick was read

module _ (r : Reader) (p : Pick) (fit : FitPick p) (fuel : r.fuel < 2 ^ 64) (main : FitPicks r.main)
    (attempts : FitOpen r.attempts) (picks : FitPicks r.picks) (path : FitPath r.path)
    (part : IfSome r.part (λ n. n < 2 ^ 32)) (number : IfSome r.number (λ n. n < 2 ^ 64))
    (ty : r.ty < 2 ^ 32) (one : r.is_last ≡ true → outermost r.attempts r.picks ≡ [])
    (silent : r.output ≡ []) where
  pub more_picks : (e : (r.is_last && is_empty r.attempts) ≡ false)
      → Comes (before r ++ pick_text p) (record r { picks = r.picks ++ p ∷ []; stage = stage.Line })
  more_picks e = (
    record {
      fuel = fuel;
      main = main;
      attempts = attempts;
      picks = fit_picks_last r.picks p picks fit;
      path = path;
      part = part;
      number = number;
      ty = ty;
      one_last = λ l. still r.attempts (sym (ap (λ x. x && is_empty r.attempts) l) ∙ e) ∙ one l;
      silent = silent;
      may = tt;
    },
    by_last r.is_last,
  )
    where
      still : (os : List Open) → is_empty os ≡ false
          → outermost os (r.picks ++ p ∷ []) ≡ outermost os r.picks
      still [] f = let q = f in cc
      still (o ∷ os) f = refl

      by_last : (l : Bool)
          → top r.fuel (body l r.main r.attempts (r.picks ++ p ∷ []))
          ≡ top r.fuel (body l r.main r.attempts r.picks) ++ pick_text p
      by_last true =
          ap (λ x. top r.fuel (picks_text r.main ++ (word_text word.Out ++ x)))
          (lines_more r.attempts r.picks p)
          ∙ ap (λ x. top r.fuel (picks_text r.main ++ x))
          (sym (append_assoc (word_text word.Out) (lines r.attempts r.picks) (pick_text p)))
          ∙ ap (top r.fuel)
          (sym (append_assoc (picks_text r.main) (word_text word.Out ++ lines r.attempts r.picks)
          (pick_text p)))
          ∙ top_more r.fuel (picks_text r.main ++ (word_text word.Out ++ lines r.attempts r.picks))
          (pick_text p)
      by_last false =
          ap (top r.fuel) (lines_more r.attempts r.picks p)
          ∙ top_more r.fuel (lines r.attempts r.picks) (pick_text p)

  pub last_pick : r.is_last ≡ true → r.attempts ≡ [] → r.picks ≡ []
      → Comes (before r ++ pick_text p)
      (record r {
        ending = OutOfFuel p;
        picks = r.main;
        is_last = false;
        main = [];
        stage = stage.Word word.Output 0;
      })
  last_pick l n k = (
    record {
      fuel = fuel;
      main = fit_none;
      attempts = attempts;
      picks = main;
      path = path;
      part = part;
      number = number;
      ty = ty;
      one_last = λ q. let s = q in cc;
      silent = silent;
      may = (omega arith, fit);
    },
    append-nil (top r.fuel (picks_text r.main ++ (word_text word.Out ++ pick_text p)))
        ∙ ap (top r.fuel)
        (ap (λ x. picks_text r.main ++ (x ++ pick_text p)) (sym (append-nil (word_text word.Out)))
        ∙ ap (λ x. picks_text r.main ++ ((word_text word.Out ++ x) ++ pick_text p))
        (sym (ap₂ lines n k))
        ∙ sym (append_assoc (picks_text r.main) (word_text word.Out ++ lines r.attempts r.picks)
        (pick_text p)))
        ∙ top_more r.fuel (picks_text r.main ++ (word_text word.Out ++ lines r.attempts r.picks))
        (pick_text p)
        ∙ ap (λ x. top r.fuel (body x r.main r.attempts r.picks) ++ pick_text p) (sym l),
  )

  pub pick_comes : Comes (before r ++ pick_text p) (put_pick r p)
  unfolding put_pick
  pick_comes = by_tests r.is_last (is_empty r.attempts) refl refl
    where
      by_tests : (l m : Bool) → r.is_last ≡ l → is_empty r.attempts ≡ m
          → Comes (before r ++ pick_text p) (put_pick r p)
      by_tests true true e f =
          let n = none_or r.attempts f in
          subst (λ x. Comes (before r ++ pick_text p)
          (cond x (record r {
            ending = OutOfFuel p;
            picks = r.main;
            is_last = false;
            main = [];
            stage = stage.Word word.Output 0;
          })
          (record r { picks = r.picks ++ p ∷ []; stage = stage.Line })))
          (sym (ap₂ (λ x y. x && y) e f))
          (last_pick e n (sym (ap (λ os. outermost os r.picks) n) ∙ one e))
      by_tests true false e f =
          subst (λ x. Comes (before r ++ pick_text p)
          (cond x (record r {
            ending = OutOfFuel p;
            picks = r.main;
            is_last = false;
            main = [];
            stage = stage.Word word.Output 0;
          })
          (record r { picks = r.picks ++ p ∷ []; stage = stage.Line })))
          (sym (ap₂ (λ x y. x && y) e f)) (more_picks (ap₂ (λ x y. x && y) e f))
      by_tests false m e f =
          subst (λ x. Comes (before r ++ pick_text p)
          (cond x (record r {
            ending = OutOfFuel p;
            picks = r.main;
            is_last = false;
            main = [];
            stage = stage.Word word.Output 0;
          })
          (record r { picks = r.picks ++ p ∷ []; stage = stage.Line })))
          (sym (ap (λ x. x && is_empty r.attempts) e))
          (more_picks (ap (λ x. x && is_empty r.attempts) e))

-- ---- a word was read

-- the innermost attempt's end
end_comes : (r : Reader) (st : Stage) → Stands r st → r.output ≡ [] → r.attempts ≢ []
    → Comes (before r ++ word_text word.End) (after_word r word.End)
end_comes r st k silent some = by_last (parted r.attempts some)
  where
    parted : (os : List Open) → os ≢ []
        → (front : List Open) × ((o : Open) × (os ≡ front ++ o ∷ []))
    parted [] n = absurd (n refl)
    parted (o ∷ []) n = ([], (o, refl))
    parted (o ∷ q ∷ os) n =
        let p = parted (q ∷ os) (λ e. let f = e in cc) in (o ∷ p.0, (p.1.0, ap (λ x. o ∷ x) p.1.1))

    outer : (front : List Open) (o : Open) (ps : List Pick)
        → outermost front o.before ≡ outermost (front ++ o ∷ []) ps
    outer [] o ps = refl
    outer (q ∷ os) o ps = refl

    within : (front : List Open) (o : Open) (l : Bool)
        → top r.fuel (body l r.main front o.before) ++ (head_text o.path.0 ++ picks_text r.picks)
        ≡ top r.fuel (body l r.main (front ++ o ∷ []) r.picks)
    within front o true =
        sym (top_more r.fuel (picks_text r.main ++ (word_text word.Out ++ lines front o.before))
        (head_text o.path.0 ++ picks_text r.picks))
        ∙ ap (top r.fuel)
        (append_assoc (picks_text r.main) (word_text word.Out ++ lines front o.before)
        (head_text o.path.0 ++ picks_text r.picks)
        ∙ ap (λ x. picks_text r.main ++ x)
        (append_assoc (word_text word.Out) (lines front o.before)
        (head_text o.path.0 ++ picks_text r.picks)
        ∙ ap (λ x. word_text word.Out ++ x) (sym (lines_last front o r.picks))))
    within front o false =
        sym (top_more r.fuel (lines front o.before) (head_text o.path.0 ++ picks_text r.picks))
        ∙ ap (top r.fuel) (sym (lines_last front o r.picks))

    texts : (front : List Open) (o : Open) → r.attempts ≡ front ++ o ∷ [] → (l : Bool)
        → top r.fuel (body l r.main front o.before) ++ pick_text (Attempt o.path r.picks)
        ≡ top r.fuel (body l r.main r.attempts r.picks) ++ word_text word.End
    texts front o is l =
        ap (λ x. top r.fuel (body l r.main front o.before) ++ x) (attempt_parts o.path r.picks
        ∙ sym (append_assoc (head_text o.path.0) (picks_text r.picks) (122 ∷ 10 ∷ [])))
        ∙ sym (append_assoc (top r.fuel (body l r.main front o.before))
        (head_text o.path.0 ++ picks_text r.picks) (122 ∷ 10 ∷ []))
        ∙ ap (λ x. x ++ (122 ∷ 10 ∷ [])) (within front o l
        ∙ ap (λ os. top r.fuel (body l r.main os r.picks)) (sym is))

    by_last : ((front : List Open) × ((o : Open) × (r.attempts ≡ front ++ o ∷ [])))
        → Comes (before r ++ word_text word.End) (after_word r word.End)
    by_last q =
        let front = q.0 in
        let o = q.1.0 in
        let is = q.1.1 in
        let parts = fit_open_parts front o (subst FitOpen is k.attempts) in
        let inner = record r { attempts = front; picks = o.before } in
        let come : Comes (before inner ++ pick_text (Attempt o.path r.picks))
        (put_pick inner (Attempt o.path r.picks)) =
        pick_comes inner (Attempt o.path r.picks) (fit_attempt o.path r.picks refl parts.1 k.picks)
        k.fuel k.main parts.0 parts.2 k.path k.part k.number k.ty (λ l. outer front o r.picks
        ∙ sym (ap (λ os. outermost os r.picks) is) ∙ k.one_last l) silent in
        let text : before inner ++ pick_text (Attempt o.path r.picks)
        ≡ before r ++ word_text word.End = texts front o is r.is_last in
        let same : put_pick inner (Attempt o.path r.picks) ≡ after_word r word.End =
        sym (closed_is r front o is) in
        subst (λ s. Comes (before r ++ word_text word.End) s) same
        (subst (λ t. Comes t (put_pick inner (Attempt o.path r.picks))) text come)

-- what was read before the run's end
ending_front : (r : Reader) → MayEnd r → before r ≡ top r.fuel (picks_text r.picks)
ending_front r m = ap₂ (λ l os. top r.fuel (body l r.main os r.picks)) m.no_last m.none_open

-- the end of the run was read
ending_comes : (r : Reader) (st : Stage) (w : Ending) (text : List ℕ) → Stands r st → r.output ≡ []
    → MayEnd r → FitEnding w → ending_text w ≡ text
    → Comes (before r ++ text) (record r { ending = w; stage = stage.Word word.Output 0 })
ending_comes r st w text k silent m f e = (
  record {
    fuel = k.fuel;
    main = k.main;
    attempts = k.attempts;
    picks = k.picks;
    path = k.path;
    part = k.part;
    number = k.number;
    ty = k.ty;
    one_last = k.one_last;
    silent = silent;
    may = (omega arith, f);
  },
  append-nil (top r.fuel (picks_text r.picks ++ ending_text w))
      ∙ top_more r.fuel (picks_text r.picks) (ending_text w)
      ∙ ap₂ (λ x y. x ++ y) (sym (ending_front r m)) e,
)

pub word_comes : (r : Reader) (w : Word) (n : ℕ) → Stands r (stage.Word w n)
    → Comes (word_front r w ++ word_text w) (after_word r w)
word_comes r word.Head n k = (
  record {
    fuel = k.fuel;
    main = k.main;
    attempts = k.attempts;
    picks = k.picks;
    path = k.path;
    part = k.part;
    number = tt;
    ty = k.ty;
    one_last = k.one_last;
    silent = k.silent;
    may = record {
      none_open = k.may.1.none_open;
      no_last = k.may.1.no_last;
      no_picks = k.may.1.no_picks;
    };
  },
  append-nil (word_text word.Head),
)
word_comes r word.Step n k = (
  record {
    fuel = k.fuel;
    main = k.main;
    attempts = k.attempts;
    picks = k.picks;
    path = tt;
    part = tt;
    number = k.number;
    ty = k.ty;
    one_last = k.one_last;
    silent = k.silent;
    may = tt;
  },
  refl,
)
word_comes r word.Attempt n k = (
  record {
    fuel = k.fuel;
    main = k.main;
    attempts = k.attempts;
    picks = k.picks;
    path = tt;
    part = tt;
    number = k.number;
    ty = k.ty;
    one_last = k.one_last;
    silent = k.silent;
    may = tt;
  },
  refl,
)
word_comes r word.End n k = end_comes r (stage.Word word.End n) k k.silent k.may.1
word_comes r word.Completed n k =
    ending_comes r (stage.Word word.Completed n) Completed (word_text word.Completed) k k.silent
    k.may.1 tt refl
word_comes r word.Uncaught n k = (
  record {
    fuel = k.fuel;
    main = k.main;
    attempts = k.attempts;
    picks = k.picks;
    path = k.path;
    part = tt;
    number = k.number;
    ty = k.ty;
    one_last = k.one_last;
    silent = k.silent;
    may = record { none_open = k.may.1.none_open; no_last = k.may.1.no_last };
  },
  refl,
)
word_comes r word.Out n k = (
  record {
    fuel = k.fuel;
    main = k.picks;
    attempts = k.attempts;
    picks = fit_none;
    path = k.path;
    part = k.part;
    number = k.number;
    ty = k.ty;
    one_last = λ l. ap (λ os. outermost os []) k.may.1.none_open;
    silent = k.silent;
    may = tt;
  },
  ap (λ os. top r.fuel (picks_text r.picks ++ (word_text word.Out ++ lines os [])))
      k.may.1.none_open
      ∙ ap (λ x. top r.fuel (picks_text r.picks ++ x)) (append-nil (word_text word.Out))
      ∙ top_more r.fuel (picks_text r.picks) (word_text word.Out)
      ∙ ap (λ x. x ++ word_text word.Out) (sym (ending_front r k.may.1)),
)
word_comes r word.Output n k = (
  record {
    fuel = k.fuel;
    main = k.main;
    attempts = k.attempts;
    picks = k.picks;
    path = k.path;
    part = k.part;
    number = tt;
    ty = k.ty;
    one_last = k.one_last;
    silent = k.silent;
    may = k.may.1;
  },
  append-nil (ended r ++ word_text word.Output),
)

-- ---- numbers and paths

-- a number with a digit more
grown_field : (r : Reader) (f : Field) (b : ℕ) (s : Reader) → Stands r (stage.Number f)
    → is_digit b ≡ true
    → option_map (λ n. record r { number = Some n; stage = stage.Number f })
    (grown (2 ^ 64) r.number b) ≡ Some s → Reads r (stage.Number f) b s
grown_field r f b s k e g = by_grown (grown (2 ^ 64) r.number b) refl g
  where
    by_grown : (o : Option ℕ) → grown (2 ^ 64) r.number b ≡ o
        → option_map (λ n. record r { number = Some n; stage = stage.Number f }) o ≡ Some s
        → Reads r (stage.Number f) b s
    by_grown None h g = let q = g in cc
    by_grown (Some n) h g =
        let t = grown_tells (2 ^ 64) r.number b n (omega arith) (omega arith) e h in
        subst (λ x. Reads r (stage.Number f) b x) (ap (λ o. unwrap_or o r) g) (
          record {
            fuel = k.fuel;
            main = k.main;
            attempts = k.attempts;
            picks = k.picks;
            path = k.path;
            part = k.part;
            number = t.0;
            ty = k.ty;
            one_last = k.one_last;
            silent = k.silent;
            may = may_same f k.may;
          },
          ap (λ x. x ++ digits (Some n)) (front_same f) ∙ ap (λ x. field_front r f ++ x) t.1
              ∙ sym (append_assoc (field_front r f) (digits r.number) (b ∷ [])),
        )
      where
        may_same : (f : Field) → MayField r f
            → MayField (record r { number = Some n; stage = stage.Number f }) f
        may_same field.Fuel m =
            record { none_open = m.none_open; no_last = m.no_last; no_picks = m.no_picks }
        may_same field.Location m = m
        may_same field.Base m = record { none_open = m.none_open; no_last = m.no_last }
        may_same field.Size m = m

        front_same : (f : Field)
            → field_front (record r { number = Some n; stage = stage.Number f }) f ≡ field_front r f
        front_same field.Fuel = refl
        front_same field.Location = refl
        front_same field.Base = refl
        front_same field.Size = refl

-- a path's or a type's
grown_part : (r : Reader) (st : Stage) (b : ℕ) (s : Reader) → Stands r st → is_digit b ≡ true
    → MayStage r st
    → ((n : ℕ)
    → MayStage (record r { part = Some n; stage = st }) st
    × ((decimal n ≡ digits r.part ++ b ∷ [])
    → so_far_at (record r { part = Some n; stage = st }) st ≡ so_far_at r st ++ b ∷ []))
    → option_map (λ n. record r { part = Some n; stage = st }) (grown (2 ^ 32) r.part b) ≡ Some s
    → Reads r st b s
grown_part r st b s k e may ends g = by_grown (grown (2 ^ 32) r.part b) refl g
  where
    by_grown : (o : Option ℕ) → grown (2 ^ 32) r.part b ≡ o
        → option_map (λ n. record r { part = Some n; stage = st }) o ≡ Some s → Reads r st b s
    by_grown None h g = let q = g in cc
    by_grown (Some n) h g =
        let t = grown_tells (2 ^ 32) r.part b n (omega arith) (omega arith) e h in
        subst (λ x. Reads r st b x) (ap (λ o. unwrap_or o r) g) (
          record {
            fuel = k.fuel;
            main = k.main;
            attempts = k.attempts;
            picks = k.picks;
            path = k.path;
            part = t.0;
            number = k.number;
            ty = k.ty;
            one_last = k.one_last;
            silent = k.silent;
            may = (ends n).0;
          },
          (ends n).1 t.1,
        )

-- a number was read
number_comes : (r : Reader) (f : Field) (n : ℕ) → Stands r (stage.Number f) → n < 2 ^ 64
    → Comes (field_front r f ++ (decimal n ++ 10 ∷ [])) (after_number r f n)
number_comes r field.Fuel n k l = (
  record {
    fuel = l;
    main = k.main;
    attempts = k.attempts;
    picks = k.picks;
    path = k.path;
    part = k.part;
    number = k.number;
    ty = k.ty;
    one_last = k.one_last;
    silent = k.silent;
    may = tt;
  },
  ap₂ (λ x os. top n (body x r.main os r.picks)) k.may.no_last k.may.none_open
      ∙ ap (λ ps. top n (picks_text ps)) k.may.no_picks,
)
number_comes r field.Location n k l =
    let read = record r { path = [] } in
    let come : Comes (before read ++ pick_text (Step (record { 0 = r.path }) (record { 0 = n })))
    (put_pick read (Step (record { 0 = r.path }) (record { 0 = n }))) =
    pick_comes read (Step (record { 0 = r.path }) (record { 0 = n }))
    (fit_step (record { 0 = r.path }) (record { 0 = n }) refl k.path l) k.fuel k.main k.attempts
    k.picks tt k.part k.number k.ty k.one_last k.silent in
    subst (λ t. Comes t (put_pick read (Step (record { 0 = r.path }) (record { 0 = n }))))
    (ap (λ x. before r ++ x) (step_text (record { 0 = r.path }) (record { 0 = n })
    ∙ ap (λ x. word_text word.Step ++ x)
    (sym (append_assoc (path_text r.path) (32 ∷ []) (decimal n ++ 10 ∷ [])))
    ∙ sym (append_assoc (word_text word.Step) (path_text r.path ++ 32 ∷ []) (decimal n ++ 10 ∷ [])))
    ∙ sym (append_assoc (before r) (word_text word.Step ++ (path_text r.path ++ 32 ∷ []))
    (decimal n ++ 10 ∷ [])))
    come
number_comes r field.Base n k l =
    let thrown = Object (record { 0 = r.ty }) (record { 0 = n }) in
    subst (λ t. Comes t (after_number r field.Base n))
    (ap (λ x. before r ++ x)
    (ap (λ x. word_text word.Uncaught ++ x)
    (sym (append_assoc (decimal r.ty) (32 ∷ []) (decimal n ++ 10 ∷ [])))
    ∙ sym (append_assoc (word_text word.Uncaught) (decimal r.ty ++ 32 ∷ [])
    (decimal n ++ 10 ∷ [])))
    ∙ sym (append_assoc (before r) (word_text word.Uncaught ++ (decimal r.ty ++ 32 ∷ []))
    (decimal n ++ 10 ∷ [])))
    (ending_comes r (stage.Number field.Base) (Uncaught thrown)
    (word_text word.Uncaught ++ (decimal r.ty ++ (32 ∷ (decimal n ++ 10 ∷ [])))) k k.silent
    k.may
    (record {
      id = record { 0 = r.ty };
      loc = record { 0 = n };
      is_object = refl;
      id_fits = k.ty;
      loc_fits = l;
    }) (ap thrown_text (outs-Object (record { 0 = r.ty }) (record { 0 = n }))))
number_comes r field.Size n k l = (
  record {
    fuel = k.fuel;
    main = k.main;
    attempts = k.attempts;
    picks = k.picks;
    path = k.path;
    part = k.part;
    number = k.number;
    ty = k.ty;
    one_last = k.one_last;
    silent = tt;
    may = (k.may, subst (λ o. length o + n < 2 ^ 64) (sym k.silent) (omega (arith, l)));
  },
  ap (λ o. ended r ++ (word_text word.Output ++ (decimal (length o + n) ++ (10 ∷ o)))) k.silent
      ∙ ap (λ m. ended r ++ (word_text word.Output ++ (decimal m ++ 10 ∷ [])))
      (let z : length {A = ℕ} [] + n ≡ n = omega arith in z)
      ∙ sym (append_assoc (ended r) (word_text word.Output) (decimal n ++ 10 ∷ [])),
)

-- a path was read
path_comes : (r : Reader) (w : Way) (path : List ℕ) → Stands r (stage.Path w) → FitPath path
    → Comes (before r ++ (word_text (way_word w) ++ (path_text path ++ way_end w ∷ [])))
    (after_path r w path)
path_comes r way.Step path k f = (
  record {
    fuel = k.fuel;
    main = k.main;
    attempts = k.attempts;
    picks = k.picks;
    path = f;
    part = k.part;
    number = tt;
    ty = k.ty;
    one_last = k.one_last;
    silent = k.silent;
    may = tt;
  },
  append-nil (before r ++ (word_text word.Step ++ (path_text path ++ 32 ∷ []))),
)
path_comes r way.Attempt path k f = (
  record {
    fuel = k.fuel;
    main = k.main;
    attempts =
        fit_open_last r.attempts (record { path = record { 0 = path }; before = r.picks })
        k.attempts f k.picks;
    picks = fit_none;
    path = tt;
    part = k.part;
    number = k.number;
    ty = k.ty;
    one_last = λ l. outer r.attempts ∙ k.one_last l;
    silent = k.silent;
    may = tt;
  },
  by_last r.is_last,
)
  where
    o : Open
    o = record { path = record { 0 = path }; before = r.picks }

    outer : (os : List Open) → outermost (os ++ o ∷ []) [] ≡ outermost os r.picks
    outer [] = refl
    outer (q ∷ os) = refl

    line : lines (r.attempts ++ o ∷ []) [] ≡ lines r.attempts r.picks ++ head_text path
    line = lines_last r.attempts o []
        ∙ ap (λ x. lines r.attempts r.picks ++ x) (append-nil (head_text path))

    by_last : (l : Bool)
        → top r.fuel (body l r.main (r.attempts ++ o ∷ []) [])
        ≡ top r.fuel (body l r.main r.attempts r.picks) ++ head_text path
    by_last true =
        ap (λ x. top r.fuel (picks_text r.main ++ (word_text word.Out ++ x))) line
        ∙ ap (λ x. top r.fuel (picks_text r.main ++ x))
        (sym (append_assoc (word_text word.Out) (lines r.attempts r.picks) (head_text path)))
        ∙ ap (top r.fuel)
        (sym (append_assoc (picks_text r.main) (word_text word.Out ++ lines r.attempts r.picks)
        (head_text path)))
        ∙ top_more r.fuel (picks_text r.main ++ (word_text word.Out ++ lines r.attempts r.picks))
        (head_text path)
    by_last false =
        ap (top r.fuel) line ∙ top_more r.fuel (lines r.attempts r.picks) (head_text path)

-- ---- a byte is read, by what was being read

if_some : {A : Type 0} (x : Bool) (a s : A) → cond x (Some a) None ≡ Some s → (x ≡ true) × (a ≡ s)
if_some true a s e = (refl, ap (λ o. unwrap_or o a) e)
if_some false a s e = let q = e in cc

same_number : (a b : ℕ) → nat_eq a b ≡ true → a ≡ b
same_number a b e = eqb-true a b e

word_front_same : (r : Reader) (st : Stage) (w : Word)
    → word_front (record r { stage = st }) w ≡ word_front r w
word_front_same r st word.Head = refl
word_front_same r st word.Step = refl
word_front_same r st word.Attempt = refl
word_front_same r st word.End = refl
word_front_same r st word.Completed = refl
word_front_same r st word.Uncaught = refl
word_front_same r st word.Out = refl
word_front_same r st word.Output = refl

may_word_same : (r : Reader) (st : Stage) (w : Word) → MayWord r w
    → MayWord (record r { stage = st }) w
may_word_same r st word.Head m =
    record { none_open = m.none_open; no_last = m.no_last; no_picks = m.no_picks }
may_word_same r st word.Step m = m
may_word_same r st word.Attempt m = m
may_word_same r st word.End m = m
may_word_same r st word.Completed m = record { none_open = m.none_open; no_last = m.no_last }
may_word_same r st word.Uncaught m = record { none_open = m.none_open; no_last = m.no_last }
may_word_same r st word.Out m = record { none_open = m.none_open; no_last = m.no_last }
may_word_same r st word.Output m = m

-- another stage of the same
at_word : (r : Reader) (st : Stage) (w : Word) (n : ℕ) → Stands r st → r.output ≡ []
    → n < length (word_text w) → MayWord r w → Good (record r { stage = stage.Word w n })
at_word r st w n k silent l m = record {
  fuel = k.fuel;
  main = k.main;
  attempts = k.attempts;
  picks = k.picks;
  path = k.path;
  part = k.part;
  number = k.number;
  ty = k.ty;
  one_last = k.one_last;
  silent = silent;
  may = (l, may_word_same r (stage.Word w n) w m);
}

in_word : (r : Reader) (w : Word) (n b : ℕ) (s : Reader) → Stands r (stage.Word w n)
    → next_in_word r w n b ≡ Some s → Reads r (stage.Word w n) b s
in_word r w n b s k e =
    let q = if_some (nat_eq (get_or (word_text w) n 256) b)
    (cond (nat_eq (n + 1) (length (word_text w))) (after_word r w)
    (record r { stage = stage.Word w (n + 1) })) s e in
    let byte : get_or (word_text w) n 256 ≡ b = same_number (get_or (word_text w) n 256) b q.0 in
    let more : take (n + 1) (word_text w) ≡ take n (word_text w) ++ b ∷ [] =
    take_more (word_text w) n 256 k.may.0 ∙ ap (λ x. take n (word_text w) ++ x ∷ []) byte in
    by_end (nat_eq (n + 1) (length (word_text w))) refl q.1 (ap (λ x. word_front r w ++ x) more
    ∙ sym (append_assoc (word_front r w) (take n (word_text w)) (b ∷ [])))
  where
    by_end : (x : Bool) → nat_eq (n + 1) (length (word_text w)) ≡ x
        → cond (nat_eq (n + 1) (length (word_text w))) (after_word r w)
        (record r { stage = stage.Word w (n + 1) }) ≡ s
        → word_front r w ++ take (n + 1) (word_text w) ≡ so_far_at r (stage.Word w n) ++ b ∷ []
        → Reads r (stage.Word w n) b s
    by_end true f g text =
        let whole : take (n + 1) (word_text w) ≡ word_text w =
        take_all (n + 1) (word_text w)
        (omega (arith, eqb-true (n + 1) (length (word_text w)) f)) in
        let come = word_comes r w n k in
        subst (λ x. Reads r (stage.Word w n) b x)
        (sym (ap (λ x. cond x (after_word r w) (record r { stage = stage.Word w (n + 1) })) f)
        ∙ g)
        (come.0, come.1 ∙ sym (ap (λ x. word_front r w ++ x) whole) ∙ text)
    by_end false f g text =
        subst (λ x. Reads r (stage.Word w n) b x)
        (sym (ap (λ x. cond x (after_word r w) (record r { stage = stage.Word w (n + 1) })) f)
        ∙ g) (
          at_word r (stage.Word w n) w (n + 1) k k.silent
              (omega (arith, k.may.0, false-eqb (n + 1) (length (word_text w)) (sym f))) k.may.1,
          ap (λ x. x ++ take (n + 1) (word_text w))
              (word_front_same r (stage.Word w (n + 1)) w) ∙ text,
        )

from_some : {A : Type 0} (f : A → Reader) (o : Option A) (s : Reader) → option_map f o ≡ Some s
    → (a : A) × ((o ≡ Some a) × (f a ≡ s))
from_some f None s e = let q = e in cc
from_some f (Some a) s e = (a, (refl, ap (λ o. unwrap_or o (f a)) e))

in_number : (r : Reader) (f : Field) (b : ℕ) (s : Reader) → r.stage ≡ stage.Number f
    → Stands r (stage.Number f) → next_in_number r f b ≡ Some s → Reads r (stage.Number f) b s
in_number r f b s st k e = by_digit (is_digit b) refl e
  where
    by_digit : (x : Bool) → is_digit b ≡ x
        → cond x (option_map (λ n. record r { number = Some n }) (grown (2 ^ 64) r.number b))
        (cond (nat_eq b 10) (option_map (after_number r f) r.number) None) ≡ Some s
        → Reads r (stage.Number f) b s
    by_digit true d g =
        grown_field r f b s k d
        (ap (λ z. option_map (λ n. record r { number = Some n; stage = z })
        (grown (2 ^ 64) r.number b)) (sym st) ∙ g)
    by_digit false d g = by_end (nat_eq b 10) refl g
      where
        by_end : (x : Bool) → nat_eq b 10 ≡ x
            → cond x (option_map (after_number r f) r.number) None ≡ Some s
            → Reads r (stage.Number f) b s
        by_end false h g = let q = g in cc
        by_end true h g =
            let q = from_some (after_number r f) r.number s g in
            let come =
            number_comes r f q.0 k (subst (λ o. IfSome o (λ n. n < 2 ^ 64)) q.1.0 k.number) in
            subst (λ x. Reads r (stage.Number f) b x) q.1.1 (
              come.0,
              come.1
                  ∙ ap (λ x. field_front r f ++ (decimal q.0 ++ x ∷ []))
                  (sym (same_number b 10 h))
                  ∙ sym (append_assoc (field_front r f) (decimal q.0) (b ∷ []))
                  ∙ ap (λ o. (field_front r f ++ digits o) ++ b ∷ []) (sym q.1.0),
            )

in_type : (r : Reader) (b : ℕ) (s : Reader) → r.stage ≡ stage.Type → Stands r stage.Type
    → next_in_type r b ≡ Some s → Reads r stage.Type b s
in_type r b s st k e = by_digit (is_digit b) refl e
  where
    by_digit : (x : Bool) → is_digit b ≡ x
        → cond x (option_map (λ n. record r { part = Some n }) (grown (2 ^ 32) r.part b))
        (cond (nat_eq b 32)
        (option_map (λ n. record r { ty = n; stage = stage.Number field.Base; number = None })
        r.part) None) ≡ Some s → Reads r stage.Type b s
    by_digit true d g =
        grown_part r stage.Type b s k d k.may
        (λ n. (
          record { none_open = k.may.none_open; no_last = k.may.no_last },
          λ t. ap (λ x. before r ++ (word_text word.Uncaught ++ x)) t
              ∙ ap (λ x. before r ++ x)
              (sym (append_assoc (word_text word.Uncaught) (digits r.part) (b ∷ [])))
              ∙ sym (append_assoc (before r) (word_text word.Uncaught ++ digits r.part) (b ∷ [])),
        ))
        (ap (λ z. option_map (λ n. record r { part = Some n; stage = z }) (grown (2 ^ 32) r.part b))
        (sym st) ∙ g)
    by_digit false d g = by_end (nat_eq b 32) refl g
      where
        by_end : (x : Bool) → nat_eq b 32 ≡ x
            → cond x (option_map
            (λ n. record r { ty = n; stage = stage.Number field.Base; number = None }) r.part)
            None ≡ Some s → Reads r stage.Type b s
        by_end false h g = let q = g in cc
        by_end true h g =
            let q = from_some
            (λ n. record r { ty = n; stage = stage.Number field.Base; number = None }) r.part s
            g in
            subst (λ x. Reads r stage.Type b x) q.1.1 (
              record {
                fuel = k.fuel;
                main = k.main;
                attempts = k.attempts;
                picks = k.picks;
                path = k.path;
                part = k.part;
                number = tt;
                ty = subst (λ o. IfSome o (λ n. n < 2 ^ 32)) q.1.0 k.part;
                one_last = k.one_last;
                silent = k.silent;
                may = record { none_open = k.may.none_open; no_last = k.may.no_last };
              },
              append-nil (before r ++ (word_text word.Uncaught ++ (decimal q.0 ++ 32 ∷ [])))
                  ∙ ap (λ x. before r ++ (word_text word.Uncaught ++ (decimal q.0 ++ x ∷ [])))
                  (sym (same_number b 32 h))
                  ∙ ap (λ x. before r ++ x)
                  (sym (append_assoc (word_text word.Uncaught) (decimal q.0) (b ∷ [])))
                  ∙ sym (append_assoc (before r) (word_text word.Uncaught ++ decimal q.0) (b ∷ []))
                  ∙ ap (λ o. (before r ++ (word_text word.Uncaught ++ digits o)) ++ b ∷ [])
                  (sym q.1.0),
            )

-- a byte behind what was read of a path
behind : (r : Reader) (w : Way) (x y z : List ℕ) → x ≡ y ++ z
    → before r ++ (word_text (way_word w) ++ x) ≡ (before r ++ (word_text (way_word w) ++ y)) ++ z
behind r w x y z e =
    ap (λ x. before r ++ (word_text (way_word w) ++ x)) e
    ∙ ap (λ x. before r ++ x) (sym (append_assoc (word_text (way_word w)) y z))
    ∙ sym (append_assoc (before r) (word_text (way_word w) ++ y) z)

in_path : (r : Reader) (w : Way) (b : ℕ) (s : Reader) → r.stage ≡ stage.Path w
    → Stands r (stage.Path w) → next_in_path r w b ≡ Some s → Reads r (stage.Path w) b s
in_path r w b s st k e = by_digit (is_digit b) refl e
  where
    first : (b : ℕ) → r.part ≡ None → (nat_eq b 45 && is_empty r.path) ≡ true
        → parts_text r.path r.part ++ b ∷ [] ≡ 45 ∷ []
    first b h t =
        let q = both_true (nat_eq b 45) (is_empty r.path) t in
        ap₂ (λ ns o. parts_text ns o ++ b ∷ []) (none_or r.path q.1) h
        ∙ ap (λ x. x ∷ []) (same_number b 45 q.0)

    by_part : (o : Option ℕ) → r.part ≡ o → behind_part r w b o ≡ Some s
        → Reads r (stage.Path w) b s
    by_part None h g =
        let q = if_some (nat_eq b 45 && is_empty r.path) (record r { stage = stage.Dash w }) s g in
        subst (λ x. Reads r (stage.Path w) b x) q.1 (
          record {
            fuel = k.fuel;
            main = k.main;
            attempts = k.attempts;
            picks = k.picks;
            path = k.path;
            part = k.part;
            number = k.number;
            ty = k.ty;
            one_last = k.one_last;
            silent = k.silent;
            may = tt;
          },
          behind r w (45 ∷ []) (parts_text r.path r.part) (b ∷ []) (sym (first b h q.0)),
        )
    by_part (Some n) h g = by_point (nat_eq b 46) refl g
      where
        fits : FitPath (r.path ++ n ∷ [])
        fits = fit_path_last r.path n k.path (subst (λ o. IfSome o (λ n. n < 2 ^ 32)) h k.part)

        by_end : (x : Bool) → nat_eq b (way_end w) ≡ x
            → cond x (Some (after_path r w (r.path ++ n ∷ []))) None ≡ Some s
            → Reads r (stage.Path w) b s
        by_end false i g = let q = g in cc
        by_end true i g =
            let come = path_comes r w (r.path ++ n ∷ []) k fits in
            subst (λ x. Reads r (stage.Path w) b x) (ap (λ o. unwrap_or o s) g) (
              come.0,
              come.1 ∙ behind r w (path_text (r.path ++ n ∷ []) ++ way_end w ∷ [])
                  (parts_text r.path r.part) (b ∷ [])
                  (ap₂ (λ x y. x ++ y ∷ []) (path_last r.path n
                  ∙ ap (parts_text r.path) (sym h)) (sym (same_number b (way_end w) i))),
            )

        by_point : (x : Bool) → nat_eq b 46 ≡ x
            → cond x (Some (record r { path = r.path ++ n ∷ []; part = None }))
            (cond (nat_eq b (way_end w)) (Some (after_path r w (r.path ++ n ∷ []))) None) ≡ Some s
            → Reads r (stage.Path w) b s
        by_point false i g = by_end (nat_eq b (way_end w)) refl g
        by_point true i g =
            subst (λ x. Reads r (stage.Path w) b x)
            (ap (λ z. record r { path = r.path ++ n ∷ []; part = None; stage = z }) (sym st)
            ∙ ap (λ o. unwrap_or o s) g) (
              record {
                fuel = k.fuel;
                main = k.main;
                attempts = k.attempts;
                picks = k.picks;
                path = fits;
                part = tt;
                number = k.number;
                ty = k.ty;
                one_last = k.one_last;
                silent = k.silent;
                may = tt;
              },
              behind r w (parts_text (r.path ++ n ∷ []) None) (parts_text r.path r.part) (b ∷ [])
                  (point r.path n
                  ∙ ap₂ (λ x y. x ++ y ∷ []) (path_last r.path n
                  ∙ ap (parts_text r.path) (sym h)) (sym (same_number b 46 i))),
            )
          where
            point : (ns : List ℕ) (n : ℕ)
                → parts_text (ns ++ n ∷ []) None ≡ path_text (ns ++ n ∷ []) ++ 46 ∷ []
            point [] n = refl
            point (m ∷ ms) n = refl

    by_digit : (x : Bool) → is_digit b ≡ x
        → cond x (option_map (λ n. record r { part = Some n }) (grown (2 ^ 32) r.part b))
        (behind_part r w b r.part) ≡ Some s → Reads r (stage.Path w) b s
    by_digit true d g =
        grown_part r (stage.Path w) b s k d tt
        (λ n. (
          tt,
          λ t. behind r w (parts_text r.path (Some n)) (parts_text r.path r.part) (b ∷ [])
              (parts_digit r.path r.part (Some n) b t),
        ))
        (ap (λ z. option_map (λ n. record r { part = Some n; stage = z }) (grown (2 ^ 32) r.part b))
        (sym st) ∙ g)
    by_digit false d g = by_part r.part refl g

after_dash : (r : Reader) (w : Way) (b : ℕ) (s : Reader) → Stands r (stage.Dash w)
    → next_after_dash r w b ≡ Some s → Reads r (stage.Dash w) b s
after_dash r w b s k e =
    let q = if_some (nat_eq b (way_end w)) (after_path r w []) s e in
    let come =
    path_comes r w []
    (record {
      fuel = k.fuel;
      main = k.main;
      attempts = k.attempts;
      picks = k.picks;
      path = k.path;
      part = k.part;
      number = k.number;
      ty = k.ty;
      one_last = k.one_last;
      silent = k.silent;
      may = tt;
    }) tt in
    subst (λ x. Reads r (stage.Dash w) b x) q.1 (
      come.0,
      come.1
          ∙ behind r w (45 ∷ way_end w ∷ []) (45 ∷ []) (b ∷ [])
          (ap (λ x. 45 ∷ x ∷ []) (sym (same_number b (way_end w) q.0))),
    )

-- a line begins with a word
begins_word : (r : Reader) (w : Word) (b : ℕ) (s : Reader) (may : Bool) → Stands r stage.Line
    → (may ≡ true → MayWord r w) → word_front r w ≡ before r → take 1 (word_text w) ≡ b ∷ []
    → 1 < length (word_text w) → if_may may r w ≡ Some s → Reads r stage.Line b s
begins_word r w b s may k m f t l e =
    let q = if_some may (record r { stage = stage.Word w 1 }) s e in
    subst (λ x. Reads r stage.Line b x) q.1 (
      at_word r stage.Line w 1 k k.silent l (m q.0),
      ap₂ (λ x y. x ++ y) (word_front_same r (stage.Word w 1) w ∙ f) t,
    )

may_end_tells : (r : Reader) → may_end r ≡ true → MayEnd r
may_end_tells r e =
    let q = both_true (is_empty r.attempts) (not r.is_last) e
    in record { none_open = none_or r.attempts q.0; no_last = not_true r.is_last q.1 }
  where
    not_true : (x : Bool) → not x ≡ true → x ≡ false
    not_true true e = let q = e in cc
    not_true false e = refl

in_line : (r : Reader) (b : ℕ) (s : Reader) → Stands r stage.Line → next_in_line r b ≡ Some s
    → Reads r stage.Line b s
in_line r b s k e = step_or (nat_eq b 115) refl e
  where
    out_or : (x : Bool) → nat_eq b 111 ≡ x → cond x (if_may (may_end r) r word.Out) None ≡ Some s
        → Reads r stage.Line b s
    out_or true h g =
        begins_word r word.Out b s (may_end r) k (may_end_tells r) refl
        (ap (λ x. x ∷ []) (sym (same_number b 111 h))) (omega arith) g
    out_or false h g = let q = g in cc

    uncaught_or : (x : Bool) → nat_eq b 117 ≡ x
        → cond x (if_may (may_end r) r word.Uncaught)
        (cond (nat_eq b 111) (if_may (may_end r) r word.Out) None) ≡ Some s → Reads r stage.Line b s
    uncaught_or true h g =
        begins_word r word.Uncaught b s (may_end r) k (may_end_tells r) refl
        (ap (λ x. x ∷ []) (sym (same_number b 117 h))) (omega arith) g
    uncaught_or false h g = out_or (nat_eq b 111) refl g

    completed_or : (x : Bool) → nat_eq b 99 ≡ x
        → cond x (if_may (may_end r) r word.Completed)
        (cond (nat_eq b 117) (if_may (may_end r) r word.Uncaught)
        (cond (nat_eq b 111) (if_may (may_end r) r word.Out) None)) ≡ Some s
        → Reads r stage.Line b s
    completed_or true h g =
        begins_word r word.Completed b s (may_end r) k (may_end_tells r) refl
        (ap (λ x. x ∷ []) (sym (same_number b 99 h))) (omega arith) g
    completed_or false h g = uncaught_or (nat_eq b 117) refl g

    end_or : (x : Bool) → nat_eq b 122 ≡ x
        → cond x (if_may (not (is_empty r.attempts)) r word.End)
        (cond (nat_eq b 99) (if_may (may_end r) r word.Completed)
        (cond (nat_eq b 117) (if_may (may_end r) r word.Uncaught)
        (cond (nat_eq b 111) (if_may (may_end r) r word.Out) None))) ≡ Some s
        → Reads r stage.Line b s
    end_or true h g =
        begins_word r word.End b s (not (is_empty r.attempts)) k
        (λ t. some_or r.attempts (not_not (is_empty r.attempts) t)) refl
        (ap (λ x. x ∷ []) (sym (same_number b 122 h))) (omega arith) g
      where
        not_not : (x : Bool) → not x ≡ true → x ≡ false
        not_not true e = let q = e in cc
        not_not false e = refl
    end_or false h g = completed_or (nat_eq b 99) refl g

    attempt_or : (x : Bool) → nat_eq b 97 ≡ x
        → cond x (if_may true r word.Attempt)
        (cond (nat_eq b 122) (if_may (not (is_empty r.attempts)) r word.End)
        (cond (nat_eq b 99) (if_may (may_end r) r word.Completed)
        (cond (nat_eq b 117) (if_may (may_end r) r word.Uncaught)
        (cond (nat_eq b 111) (if_may (may_end r) r word.Out) None)))) ≡ Some s
        → Reads r stage.Line b s
    attempt_or true h g =
        begins_word r word.Attempt b s true k (λ t. tt) refl
        (ap (λ x. x ∷ []) (sym (same_number b 97 h))) (omega arith) g
    attempt_or false h g = end_or (nat_eq b 122) refl g

    step_or : (x : Bool) → nat_eq b 115 ≡ x
        → cond x (if_may true r word.Step)
        (cond (nat_eq b 97) (if_may true r word.Attempt)
        (cond (nat_eq b 122) (if_may (not (is_empty r.attempts)) r word.End)
        (cond (nat_eq b 99) (if_may (may_end r) r word.Completed)
        (cond (nat_eq b 117) (if_may (may_end r) r word.Uncaught)
        (cond (nat_eq b 111) (if_may (may_end r) r word.Out) None))))) ≡ Some s
        → Reads r stage.Line b s
    step_or true h g =
        begins_word r word.Step b s true k (λ t. tt) refl
        (ap (λ x. x ∷ []) (sym (same_number b 115 h))) (omega arith) g
    step_or false h g = attempt_or (nat_eq b 97) refl g

in_output : (r : Reader) (left b : ℕ) (s : Reader) → Stands r (stage.Output left)
    → next_in_output r left b ≡ Some s → Reads r (stage.Output left) b s
in_output r left b s k e = by_left (nat_eq left 0) refl e
  where
    by_left : (x : Bool) → nat_eq left 0 ≡ x
        → cond x None
        (Some (record r { output = r.output ++ b ∷ []; stage = stage.Output (left - 1) })) ≡ Some s
        → Reads r (stage.Output left) b s
    by_left true h g = let q = g in cc
    by_left false h g =
        let some : 0 < left = omega (arith, false-eqb left 0 (sym h)) in
        let sum : length (r.output ++ b ∷ []) + (left - 1) ≡ length r.output + left =
        omega (arith, some, length-append r.output (b ∷ [])) in
        subst (λ x. Reads r (stage.Output left) b x) (ap (λ o. unwrap_or o s) g) (
          record {
            fuel = k.fuel;
            main = k.main;
            attempts = k.attempts;
            picks = k.picks;
            path = k.path;
            part = k.part;
            number = k.number;
            ty = k.ty;
            one_last = k.one_last;
            silent = tt;
            may = (k.may.0, subst (λ n. n < 2 ^ 64) (sym sum) k.may.1);
          },
          ap (λ n. ended r ++ (word_text word.Output ++ (decimal n ++ (10 ∷ (r.output ++ b ∷ [])))))
              sum
              ∙ ap (λ x. ended r ++ (word_text word.Output ++ x))
              (sym (append_assoc (decimal (length r.output + left)) (10 ∷ r.output) (b ∷ [])))
              ∙ ap (λ x. ended r ++ x)
              (sym (append_assoc (word_text word.Output)
              (decimal (length r.output + left) ++ (10 ∷ r.output)) (b ∷ [])))
              ∙ sym (append_assoc (ended r)
              (word_text word.Output ++ (decimal (length r.output + left) ++ (10 ∷ r.output)))
              (b ∷ [])),
        )

reads_at : (r : Reader) (st : Stage) (b : ℕ) (s : Reader) → r.stage ≡ st → Stands r st
    → next_at r b st ≡ Some s → Reads r st b s
reads_at r (stage.Word w n) b s i k e = in_word r w n b s k e
reads_at r (stage.Number f) b s i k e = in_number r f b s i k e
reads_at r stage.Type b s i k e = in_type r b s i k e
reads_at r (stage.Path w) b s i k e = in_path r w b s i k e
reads_at r (stage.Dash w) b s i k e = after_dash r w b s k e
reads_at r stage.Line b s i k e = in_line r b s k e
reads_at r (stage.Output left) b s i k e = in_output r left b s k e

-- A byte that is read stands behind what was read.
pub next_reads : (r : Reader) (b : ℕ) (s : Reader) → Good r → next r b ≡ Some s
    → Good s × (so_far s ≡ so_far r ++ b ∷ [])
next_reads r b s k e = reads_at r r.stage b s refl (good_stands r k) e

-- So do several.
pub bytes_read : (r : Reader) (bs : List ℕ) (s : Reader) → Good r → read_on (Some r) bs ≡ Some s
    → Good s × (so_far s ≡ so_far r ++ bs)
bytes_read r [] s k e =
    let is : r ≡ s = ap (λ o. unwrap_or o r) e
    in (subst Good is k, ap so_far (sym is) ∙ sym (append-nil (so_far r)))
bytes_read r (b ∷ bs) s k e = by_next (λ t m h. bytes_read t bs s m h) (next r b) refl e
  where
    none_reads : (cs : List ℕ) → read_on None cs ≡ Some s → ⊥
    none_reads [] g = let q = g in cc
    none_reads (c ∷ cs) g = let q = g in cc

    by_next : ((t : Reader) → Good t → read_on (Some t) bs ≡ Some s
        → Good s × (so_far s ≡ so_far t ++ bs)) → (o : Option Reader) → next r b ≡ o
        → read_on o bs ≡ Some s → Good s × (so_far s ≡ so_far r ++ (b ∷ bs))
    by_next go None h g = absurd (none_reads bs g)
    by_next go (Some t) h g =
        let one = next_reads r b t k h in
        let rest = go t one.0 g in
        (rest.0, rest.1 ∙ ap (λ x. x ++ bs) one.1 ∙ append_assoc (so_far r) (b ∷ []) bs)
