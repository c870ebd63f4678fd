-- What was read so far begins a record: some bytes finish it.
use Rattle.std.proofs.Common.{◌≡◌, ◌≢◌, ℕ, ◌+◌, ◌-◌, ◌<◌, Bool, true, false, cond, not, ◌&&◌, List, [], ◌∷◌, ◌++◌, length, get_or, slice_get, codes, Option, Some, None, refl, ap, ap₂, sym, ◌∙◌, subst, arith, ne_eqb, eq-eqb, suc-ne-zero, zero, suc}
use Rattle.fort_core.specs.declared.journal.Ending.TheVariants.{Completed, Uncaught, OutOfFuel}
use Rattle.fort_core.specs.declared.pick.Pick.{Pick, Step, Attempt}
use Rattle.fort_core.specs.declared.value.Value.{Object}
use Rattle.fort_audit_record.specs.declared.reader.Word.{Word}
use Rattle.fort_audit_record.specs.declared.reader.Word.TheVariants as word
use Rattle.fort_audit_record.specs.declared.reader.Field.{Field}
use Rattle.fort_audit_record.specs.declared.reader.Field.TheVariants as field
use Rattle.fort_audit_record.specs.declared.reader.Way.{Way}
use Rattle.fort_audit_record.specs.declared.reader.Way.TheVariants as way
use Rattle.fort_audit_record.specs.declared.reader.Stage.{Stage}
use Rattle.fort_audit_record.specs.declared.reader.Stage.TheVariants as stage
use Rattle.fort_audit_record.specs.declared.reader.Open.{Open}
use Rattle.fort_audit_record.specs.declared.reader.Reader.{Reader}
use Rattle.fort_audit_record.specs.Reading.{word_text, is_empty, put_pick, closed, after_word, after_number, after_path, next, read_on}
use Rattle.fort_audit_record.proofs.Lasts.{closed_is}
use Rattle.fort_audit_record.proofs.SoFar.{MayWord, MayStage, Good}
use Rattle.fort_audit_record.proofs.Again.{Core, Rest, whole}

-- some bytes lead to where all of a record is read
abbrev pub Finishes : Reader → Type 0
Finishes r = (more : List ℕ)
    × ((s : Reader) × ((read_on (Some r) more ≡ Some s) × (s.stage ≡ stage.Output 0)))

pub read_append : (r : Option Reader) (xs ys : List ℕ)
    → read_on r (xs ++ ys) ≡ read_on (read_on r xs) ys
read_append r [] ys = refl
read_append None (x ∷ xs) ys = sym (none_reads ys)
  where
    none_reads : (ys : List ℕ) → read_on None ys ≡ None
    none_reads [] = refl
    none_reads (y ∷ ys) = refl
read_append (Some r) (x ∷ xs) ys = read_append (next r x) xs ys

go_on : (r t : Reader) (bs : List ℕ) → read_on (Some r) bs ≡ Some t → Finishes t → Finishes r
go_on r t bs e f = (
  bs ++ f.0,
  (f.1.0, (read_append (Some r) bs f.0 ∙ ap (λ o. read_on o f.0) e ∙ f.1.1.0, f.1.1.1)),
)

finish_output : (c : Core) (x : Rest) → Finishes (whole c (stage.Word word.Output 0) x)
finish_output c x = (
  codes "output 0" ++ 10 ∷ [],
  (whole c (stage.Output 0) (record x { number = Some 0 }), (refl, refl)),
)

finish_bytes : (n : ℕ) (c : Core) (x : Rest) → Finishes (whole c (stage.Output n) x)
finish_bytes zero c x = ([], (whole c (stage.Output 0) x, (refl, refl)))
finish_bytes (suc n) c x =
    let d : Core = record c { output = c.output ++ 0 ∷ [] } in
    go_on (whole c (stage.Output (suc n)) x) (whole d (stage.Output n) x) (0 ∷ [])
    (ap (λ t. cond t None (Some (whole d (stage.Output (suc n - 1)) x)))
    (ne_eqb (suc n) 0 (suc-ne-zero n)) ∙ ap (λ m. Some (whole d (stage.Output m) x))
    (let q : suc n - 1 ≡ n = omega arith in q)) (finish_bytes n d x)

-- a pick was read
finish_put : (c : Core) (x : Rest) (p : Pick)
    → Finishes (whole (record c { picks = c.picks ++ p ∷ [] }) stage.Line x)
    → Finishes (put_pick (whole c stage.Line x) p)
unfolding put_pick
finish_put c x p f = by_last (c.is_last && is_empty c.attempts)
  where
    by_last : (t : Bool)
        → Finishes
        (cond t (whole
        (record c { ending = OutOfFuel p; picks = c.main; is_last = false; main = [] })
        (stage.Word word.Output 0) x)
        (whole (record c { picks = c.picks ++ p ∷ [] }) stage.Line x))
    by_last true =
        finish_output
        (record c { ending = OutOfFuel p; picks = c.main; is_last = false; main = [] }) x
    by_last false = f

parted : (os : List Open) (n : ℕ) → length os ≡ suc n
    → (front : List Open) × ((o : Open) × ((os ≡ front ++ o ∷ []) × (length front ≡ n)))
parted [] n e = absurd (suc-ne-zero n (sym e))
parted (o ∷ []) n e = ([], (o, (refl, omega (arith, e))))
parted (o ∷ q ∷ os) n e =
    let p = parted (q ∷ os) (length os) refl in
    (o ∷ p.0, (p.1.0, (ap (λ x. o ∷ x) p.1.1.0, omega (arith, e, p.1.1.1))))

-- the step behind `out`
last_step : (c : Core) (x : Rest)
    → let d : Core = record c { is_last = true; attempts = [] }
    in read_on (Some (whole d stage.Line x)) (codes "s - 0" ++ 10 ∷ [])
    ≡ Some (whole
    (record d {
      ending = OutOfFuel (Step (record { 0 = [] }) (record { 0 = 0 }));
      picks = d.main;
      is_last = false;
      main = [];
    }) (stage.Word word.Output 0)
    (record x { path = []; part = None; number = Some 0 }))
unfolding put_pick
last_step c x = refl

-- an attempt's end
ends_attempt : (c : Core) (x : Rest) (front : List Open) (o : Open) → c.attempts ≡ front ++ o ∷ []
    → read_on (Some (whole c stage.Line x)) (122 ∷ 10 ∷ [])
    ≡ Some (put_pick (whole (record c { attempts = front; picks = o.before }) stage.Line x)
    (Attempt o.path c.picks))
unfolding put_pick
ends_attempt c x front o e =
    ap (λ t. read_on (cond (not t) (Some (whole c (stage.Word word.End 1) x)) None) (10 ∷ []))
    (ap is_empty e ∙ not_empty front o)
    ∙ ap Some (closed_is (whole c (stage.Word word.End 1) x) front o e)
  where
    not_empty : (os : List Open) (o : Open) → is_empty (os ++ o ∷ []) ≡ false
    not_empty [] o = refl
    not_empty (q ∷ os) o = refl

-- a line, by how many attempts are open
finish_line : (n : ℕ) (c : Core) (x : Rest) → length c.attempts ≡ n
    → Finishes (whole c stage.Line x)
finish_line zero c x e = by_last c.is_last refl (none c.attempts e)
  where
    none : (os : List Open) → length os ≡ 0 → os ≡ []
    none [] e = refl
    none (o ∷ os) e = absurd (suc-ne-zero (length os) e)

    by_last : (l : Bool) → c.is_last ≡ l → c.attempts ≡ [] → Finishes (whole c stage.Line x)
    by_last l f n =
        subst (λ d. Finishes (whole d stage.Line x))
        (λ i. record c { is_last = sym f i; attempts = sym n i }) (closed_one l)
      where
        closed_one : (l : Bool)
            → Finishes (whole (record c { is_last = l; attempts = [] }) stage.Line x)
        closed_one true =
            let d : Core = record c { is_last = true; attempts = [] } in
            let p = Step (record { 0 = [] }) (record { 0 = 0 }) in
            go_on (whole d stage.Line x)
            (whole (record d {
              ending = OutOfFuel p;
              picks = d.main;
              is_last = false;
              main = [];
            }) (stage.Word word.Output 0)
            (record x { path = []; part = None; number = Some 0 }))
            (codes "s - 0" ++ 10 ∷ []) (last_step c x)
            (finish_output
            (record d { ending = OutOfFuel p; picks = d.main; is_last = false; main = [] })
            (record x { path = []; part = None; number = Some 0 }))
        closed_one false =
            let d : Core = record c { is_last = false; attempts = [] } in
            go_on (whole d stage.Line x)
            (whole (record d { ending = Completed }) (stage.Word word.Output 0) x)
            (codes "completed" ++ 10 ∷ []) refl
            (finish_output (record d { ending = Completed }) x)
finish_line (suc n) c x e =
    let p = parted c.attempts n e in
    let o = p.1.0 in
    let d : Core = record c { attempts = p.0; picks = o.before } in
    let pick = Attempt o.path c.picks in
    let rest : Finishes (put_pick (whole d stage.Line x) pick) =
    finish_put d x pick (finish_line n (record d { picks = d.picks ++ pick ∷ [] }) x p.1.1.1) in
    go_on (whole c stage.Line x) (put_pick (whole d stage.Line x) pick) (122 ∷ 10 ∷ [])
    (ends_attempt c x p.0 o p.1.1.0) rest

finish_any_line : (c : Core) (x : Rest) → Finishes (whole c stage.Line x)
finish_any_line c x = finish_line (length c.attempts) c x refl

finish_any_put : (c : Core) (x : Rest) (p : Pick) → Finishes (put_pick (whole c stage.Line x) p)
finish_any_put c x p = finish_put c x p (finish_any_line (record c { picks = c.picks ++ p ∷ [] }) x)

-- `put_pick` sets the stage
put_stage : (c : Core) (st : Stage) (x : Rest) (p : Pick)
    → put_pick (whole c st x) p ≡ put_pick (whole c stage.Line x) p
unfolding put_pick
put_stage c st x p = refl

after_field : (f : Field) (c : Core) (st : Stage) (x : Rest) (n : ℕ)
    → Finishes (after_number (whole c st x) f n)
after_field field.Fuel c st x n = finish_any_line (record c { fuel = n }) x
after_field field.Location c st x n =
    let p = Step (record { 0 = x.path }) (record { 0 = n }) in
    subst Finishes (sym (put_stage c st (record x { path = [] }) p))
    (finish_any_put c (record x { path = [] }) p)
after_field field.Base c st x n =
    let d : Core = record c { ending = Uncaught (Object (record { 0 = x.ty }) (record { 0 = n })) }
    in finish_output d x
after_field field.Size c st x n = finish_bytes n c x

finish_number : (f : Field) (c : Core) (x : Rest) (o : Option ℕ) → x.number ≡ o
    → Finishes (whole c (stage.Number f) x)
finish_number f c x None e =
    subst (λ m. Finishes (whole c (stage.Number f) (record x { number = m }))) (sym e)
    (go_on (whole c (stage.Number f) (record x { number = None }))
    (after_number (whole c (stage.Number f) (record x { number = Some 0 })) f 0)
    (48 ∷ 10 ∷ []) refl (after_field f c (stage.Number f) (record x { number = Some 0 }) 0))
finish_number f c x (Some n) e =
    subst (λ m. Finishes (whole c (stage.Number f) (record x { number = m }))) (sym e)
    (go_on (whole c (stage.Number f) (record x { number = Some n }))
    (after_number (whole c (stage.Number f) (record x { number = Some n })) f n) (10 ∷ [])
    refl (after_field f c (stage.Number f) (record x { number = Some n }) n))

finish_type : (c : Core) (x : Rest) (o : Option ℕ) → x.part ≡ o → Finishes (whole c stage.Type x)
finish_type c x None e =
    subst (λ m. Finishes (whole c stage.Type (record x { part = m }))) (sym e)
    (go_on (whole c stage.Type (record x { part = None }))
    (whole c (stage.Number field.Base) (record x { part = Some 0; ty = 0; number = None }))
    (48 ∷ 32 ∷ []) refl
    (finish_number field.Base c (record x { part = Some 0; ty = 0; number = None }) None
    refl))
finish_type c x (Some n) e =
    subst (λ m. Finishes (whole c stage.Type (record x { part = m }))) (sym e)
    (go_on (whole c stage.Type (record x { part = Some n }))
    (whole c (stage.Number field.Base) (record x { part = Some n; ty = n; number = None }))
    (32 ∷ []) refl
    (finish_number field.Base c (record x { part = Some n; ty = n; number = None }) None
    refl))

after_way : (w : Way) (c : Core) (st : Stage) (x : Rest) (path : List ℕ)
    → Finishes (after_path (whole c st x) w path)
after_way way.Step c st x path =
    finish_number field.Location c (record x { path = path; number = None }) None refl
after_way way.Attempt c st x path =
    let d : Core =
    record c {
      attempts =
          c.attempts ++ record { path = record { 0 = path }; before = c.picks } ∷ [];
      picks = [];
    }
    in finish_any_line d (record x { path = [] })

finish_path : (w : Way) (c : Core) (x : Rest) (o : Option ℕ) → x.part ≡ o
    → Finishes (whole c (stage.Path w) x)
finish_path w c x None e =
    subst (λ m. Finishes (whole c (stage.Path w) (record x { part = m }))) (sym e)
    (go_on (whole c (stage.Path w) (record x { part = None }))
    (whole c (stage.Path w) (record x { part = Some 0 })) (48 ∷ []) refl
    (finish_part w c x 0))
  where
    finish_part : (w : Way) (c : Core) (x : Rest) (n : ℕ)
        → Finishes (whole c (stage.Path w) (record x { part = Some n }))
    finish_part way.Step c x n =
        go_on (whole c (stage.Path way.Step) (record x { part = Some n }))
        (after_path (whole c (stage.Path way.Step) (record x { part = Some n })) way.Step
        (x.path ++ n ∷ [])) (32 ∷ []) refl
        (after_way way.Step c (stage.Path way.Step) (record x { part = Some n })
        (x.path ++ n ∷ []))
    finish_part way.Attempt c x n =
        go_on (whole c (stage.Path way.Attempt) (record x { part = Some n }))
        (after_path (whole c (stage.Path way.Attempt) (record x { part = Some n })) way.Attempt
        (x.path ++ n ∷ [])) (10 ∷ []) refl
        (after_way way.Attempt c (stage.Path way.Attempt) (record x { part = Some n })
        (x.path ++ n ∷ []))
finish_path way.Step c x (Some n) e =
    subst (λ m. Finishes (whole c (stage.Path way.Step) (record x { part = m }))) (sym e)
    (go_on (whole c (stage.Path way.Step) (record x { part = Some n }))
    (after_path (whole c (stage.Path way.Step) (record x { part = Some n })) way.Step
    (x.path ++ n ∷ [])) (32 ∷ []) refl
    (after_way way.Step c (stage.Path way.Step) (record x { part = Some n })
    (x.path ++ n ∷ [])))
finish_path way.Attempt c x (Some n) e =
    subst (λ m. Finishes (whole c (stage.Path way.Attempt) (record x { part = m }))) (sym e)
    (go_on (whole c (stage.Path way.Attempt) (record x { part = Some n }))
    (after_path (whole c (stage.Path way.Attempt) (record x { part = Some n })) way.Attempt
    (x.path ++ n ∷ [])) (10 ∷ []) refl
    (after_way way.Attempt c (stage.Path way.Attempt) (record x { part = Some n })
    (x.path ++ n ∷ [])))

finish_dash : (w : Way) (c : Core) (x : Rest) → Finishes (whole c (stage.Dash w) x)
finish_dash way.Step c x =
    go_on (whole c (stage.Dash way.Step) x)
    (after_path (whole c (stage.Dash way.Step) x) way.Step []) (32 ∷ []) refl
    (after_way way.Step c (stage.Dash way.Step) x [])
finish_dash way.Attempt c x =
    go_on (whole c (stage.Dash way.Attempt) x)
    (after_path (whole c (stage.Dash way.Attempt) x) way.Attempt []) (10 ∷ []) refl
    (after_way way.Attempt c (stage.Dash way.Attempt) x [])

-- ---- words

after_end : (c : Core) (st : Stage) (x : Rest) (n : ℕ) → length c.attempts ≡ n → 0 < n
    → Finishes (closed (whole c st x) (slice_get c.attempts (length c.attempts - 1)))
after_end c st x zero e l = absurd (omega (arith, l))
after_end c st x (suc n) e l =
    let p = parted c.attempts n e in
    let o = p.1.0 in
    let d : Core = record c { attempts = p.0; picks = o.before } in
    subst Finishes (sym (put_stage d st x (Attempt o.path c.picks))
    ∙ sym (closed_is (whole c st x) p.0 o p.1.1.0))
    (finish_any_put d x (Attempt o.path c.picks))

after_any_word : (w : Word) (c : Core) (st : Stage) (x : Rest)
    → (w ≡ word.End → 0 < length c.attempts) → Finishes (after_word (whole c st x) w)
after_any_word word.Head c st x h =
    finish_number field.Fuel c (record x { number = None }) None refl
after_any_word word.Step c st x h =
    finish_path way.Step c (record x { path = []; part = None }) None refl
after_any_word word.Attempt c st x h =
    finish_path way.Attempt c (record x { path = []; part = None }) None refl
after_any_word word.End c st x h = after_end c st x (length c.attempts) refl (h refl)
after_any_word word.Completed c st x h =
    let d : Core = record c { ending = Completed } in finish_output d x
after_any_word word.Uncaught c st x h = finish_type c (record x { part = None }) None refl
after_any_word word.Out c st x h =
    let d : Core = record c { is_last = true; main = c.picks; picks = [] } in finish_any_line d x
after_any_word word.Output c st x h =
    finish_number field.Size c (record x { number = None }) None refl

-- a word of which some bytes were read, by how many more there are behind the next one
finish_word : (m k : ℕ) (w : Word) (c : Core) (x : Rest) → k + (1 + m) ≡ length (word_text w)
    → (w ≡ word.End → 0 < length c.attempts) → Finishes (whole c (stage.Word w k) x)
finish_word zero k w c x e h =
    go_on (whole c (stage.Word w k) x) (after_word (whole c (stage.Word w k) x) w)
    (get_or (word_text w) k 256 ∷ [])
    (ap₂ (λ t u. cond t
    (Some (cond u (after_word (whole c (stage.Word w k) x) w)
    (whole c (stage.Word w (k + 1)) x))) None)
    (eq-eqb (get_or (word_text w) k 256) (get_or (word_text w) k 256) refl)
    (eq-eqb (k + 1) (length (word_text w)) (omega (arith, e))))
    (after_any_word w c (stage.Word w k) x h)
finish_word (suc m) k w c x e h =
    go_on (whole c (stage.Word w k) x) (whole c (stage.Word w (k + 1)) x)
    (get_or (word_text w) k 256 ∷ [])
    (ap₂ (λ t u. cond t
    (Some (cond u (after_word (whole c (stage.Word w k) x) w)
    (whole c (stage.Word w (k + 1)) x))) None)
    (eq-eqb (get_or (word_text w) k 256) (get_or (word_text w) k 256) refl)
    (ne_eqb (k + 1) (length (word_text w)) (omega (arith, e))))
    (finish_word m (k + 1) w c x (omega (arith, e)) h)

-- Each reader leads to a record.
pub finishes : (r : Reader) → Good r → Finishes r
finishes r g = by_stage r.stage refl g.may
  where
    c : Core
    c = record {
      fuel = r.fuel;
      is_last = r.is_last;
      main = r.main;
      attempts = r.attempts;
      picks = r.picks;
      ending = r.ending;
      output = r.output;
    }

    x : Rest
    x = record { path = r.path; part = r.part; number = r.number; ty = r.ty }

    some_open : (os : List Open) → os ≢ [] → 0 < length os
    some_open [] n = absurd (n refl)
    some_open (o ∷ os) n = omega arith

    may_end : (w : Word) → MayWord r w → w ≡ word.End → 0 < length r.attempts
    may_end w m e = some_open r.attempts (subst (MayWord r) e m)

    by_stage : (st : Stage) → r.stage ≡ st → MayStage r st → Finishes (whole c r.stage x)
    by_stage (stage.Word w k) e m =
        subst (λ st. Finishes (whole c st x)) (sym e)
        (finish_word (length (word_text w) - k - 1) k w c x (omega (arith, m.0)) (may_end w m.1))
    by_stage (stage.Number f) e m =
        subst (λ st. Finishes (whole c st x)) (sym e) (finish_number f c x r.number refl)
    by_stage stage.Type e m =
        subst (λ st. Finishes (whole c st x)) (sym e) (finish_type c x r.part refl)
    by_stage (stage.Path w) e m =
        subst (λ st. Finishes (whole c st x)) (sym e) (finish_path w c x r.part refl)
    by_stage (stage.Dash w) e m = subst (λ st. Finishes (whole c st x)) (sym e) (finish_dash w c x)
    by_stage stage.Line e m = subst (λ st. Finishes (whole c st x)) (sym e) (finish_any_line c x)
    by_stage (stage.Output left) e m =
        subst (λ st. Finishes (whole c st x)) (sym e) (finish_bytes left c x)
