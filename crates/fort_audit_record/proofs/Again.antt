-- A record's text is read, whatever follows it where something may.
use Rattle.std.proofs.Common.{◌≡◌, ℕ, ◌-◌, ◌<◌, ◌^◌, Bool, true, false, cond, not, ◌&&◌, nat_eq, List, [], ◌∷◌, ◌++◌, length, codes, decimal, Option, Some, None, option_map, refl, ap, ap₂, sym, ◌∙◌, subst, append_assoc, append-nil, arith, ne_eqb}
use Rattle.fort_base.specs.declared.ids.Loc.{Loc}
use Rattle.fort_core.specs.declared.journal.Ending.{Ending}
use Rattle.fort_core.specs.declared.journal.Ending.TheVariants.{NotRun, Completed, Uncaught, OutOfFuel}
use Rattle.fort_core.specs.declared.journal.Journal.{Journal}
use Rattle.fort_core.specs.declared.path.Path.{Path}
use Rattle.fort_core.specs.declared.pick.Pick.{Pick, Step, Attempt}
use Rattle.fort_core.specs.declared.value.Value.{out-Value}
use Rattle.fort_core.specs.declared.value.Value.TheVariants.{outs-Object}
use Rattle.fort_audit_record.specs.declared.reader.Word.TheVariants as word
use Rattle.fort_audit_record.specs.declared.reader.Field.{Field}
use Rattle.fort_audit_record.specs.declared.reader.Field.TheVariants as field
use Rattle.fort_audit_record.specs.declared.reader.Way.{Way}
use Rattle.fort_audit_record.specs.declared.reader.Way.TheVariants as way
use Rattle.fort_audit_record.specs.declared.reader.Stage.{Stage}
use Rattle.fort_audit_record.specs.declared.reader.Stage.TheVariants as stage
use Rattle.fort_audit_record.specs.declared.reader.Open.{Open}
use Rattle.fort_audit_record.specs.declared.reader.Reader.{Reader}
use Rattle.fort_audit_record.specs.Text.{further, path_text, pick_text, picks_text, thrown_text, ending_text, record_text, FitPath, FitPick, FitPicks, fit_more, fit_step, fit_attempt, FitEnding, IsRecord}
use Rattle.fort_audit_record.specs.Reading.{way_end, put_pick, after_number, after_path, behind_part, is_empty, read_on, begun}
use Rattle.fort_audit_record.proofs.Texts.{head_text, step_text, attempt_parts}
use Rattle.fort_audit_record.proofs.Lasts.{closed_is}
use Rattle.fort_audit_record.proofs.Digits.{read_digits}

-- what was read of a record, but for what is left over of a line
pub record Core : Type 0 where
  pub fuel : ℕ
  pub is_last : Bool
  pub main : List Pick
  pub attempts : List Open
  pub picks : List Pick
  pub ending : Ending
  pub output : List ℕ

-- that
pub record Rest : Type 0 where
  pub path : List ℕ
  pub part : Option ℕ
  pub number : Option ℕ
  pub ty : ℕ

abbrev pub whole : Core → Stage → Rest → Reader
whole c st x =
    record { stage = st; fuel = c.fuel; is_last = c.is_last; main = c.main; attempts = c.attempts; picks = c.picks; path = x.path; part = x.part; number = x.number; ty = x.ty; ending = c.ending; output = c.output }

-- bytes make this of a reader, whatever is left over
abbrev pub Leads : Core → Stage → List ℕ → Core → Stage → Type 0
Leads c st text d su = (x : Rest) (more : List ℕ) → (y : Rest) × (read_on (Some (whole c st x)) (text ++ more) ≡ read_on (Some (whole d su y)) more)

then : (c d e : Core) (st su sv : Stage) (a b : List ℕ) → Leads c st a d su → Leads d su b e sv → Leads c st (a ++ b) e sv
then c d e st su sv a b f g x more =
    let p = f x (b ++ more) in
    let q = g p.0 more in
    (q.0, ap (read_on (Some (whole c st x))) (append_assoc a b more) ∙ p.1 ∙ q.1)

-- ---- numbers

number_again : (c : Core) (f : Field) (n : ℕ) (x : Rest) (more : List ℕ) → n < 2 ^ 64
    → read_on (Some (whole c (stage.Number f) (record x { number = None }))) (decimal n ++ (10 ∷ more)) ≡ read_on (Some (after_number (whole c (stage.Number f) (record x { number = Some n })) f n)) more
number_again c f n x more l =
    read_digits (λ o. whole c (stage.Number f) (record x { number = o })) (2 ^ 64)
    (λ o b n e g. ap₂ (λ t y. cond t (option_map (λ m. whole c (stage.Number f) (record x { number = Some m })) y) (cond (nat_eq b 10) (option_map (after_number (whole c (stage.Number f) (record x { number = o })) f) o) None)) e g)
    (omega arith) n l (10 ∷ more)

type_again : (c : Core) (n : ℕ) (x : Rest) (more : List ℕ) → n < 2 ^ 32
    → read_on (Some (whole c stage.Type (record x { part = None }))) (decimal n ++ (32 ∷ more)) ≡ read_on (Some (whole c (stage.Number field.Base) (record x { part = Some n; ty = n; number = None }))) more
type_again c n x more l =
    read_digits (λ o. whole c stage.Type (record x { part = o })) (2 ^ 32)
    (λ o b n e g. ap₂ (λ t y. cond t (option_map (λ m. whole c stage.Type (record x { part = Some m })) y) (cond (nat_eq b 32) (option_map (λ m. whole c (stage.Number field.Base) (record x { part = o; ty = m; number = None })) o) None)) e g)
    (omega arith) n l (32 ∷ more)

part_again : (c : Core) (w : Way) (n : ℕ) (x : Rest) (more : List ℕ) → n < 2 ^ 32 → read_on (Some (whole c (stage.Path w) (record x { part = None }))) (decimal n ++ more) ≡ read_on (Some (whole c (stage.Path w) (record x { part = Some n }))) more
part_again c w n x more l =
    read_digits (λ o. whole c (stage.Path w) (record x { part = o })) (2 ^ 32)
    (λ o b n e g. ap₂ (λ t y. cond t (option_map (λ m. whole c (stage.Path w) (record x { part = Some m })) y) (behind_part (whole c (stage.Path w) (record x { part = o })) w b o)) e g)
    (omega arith) n l more

-- ---- paths

path_ends : (c : Core) (w : Way) (done : List ℕ) (n : ℕ) (x : Rest) (more : List ℕ)
    → read_on (Some (whole c (stage.Path w) (record x { path = done; part = Some n }))) (way_end w ∷ more) ≡ read_on (Some (after_path (whole c (stage.Path w) (record x { path = done; part = Some n })) w (done ++ n ∷ []))) more
path_ends c way.Step done n x more = refl
path_ends c way.Attempt done n x more = refl

further_again : (c : Core) (w : Way) (done : List ℕ) (n : ℕ) (ms : List ℕ) → FitPath ms → (x : Rest) (more : List ℕ)
    → (y : Rest) × (read_on (Some (whole c (stage.Path w) (record x { path = done; part = Some n }))) (further ms ++ (way_end w ∷ more)) ≡ read_on (Some (after_path (whole c (stage.Path w) y) w (done ++ n ∷ ms))) more)
further_again c w done n [] f x more = (record x { path = done; part = Some n }, path_ends c w done n x more)
further_again c w done n (m ∷ ms) f x more =
    let next = further_again c w (done ++ n ∷ []) m ms f.1 x more in (
      next.0,
      ap (λ t. read_on (Some (whole c (stage.Path w) (record x { path = done; part = Some n }))) (46 ∷ t)) (append_assoc (decimal m) (further ms) (way_end w ∷ more))
          ∙ part_again c w m (record x { path = done ++ n ∷ [] }) (further ms ++ (way_end w ∷ more)) f.0
          ∙ next.1
          ∙ ap (λ ns. read_on (Some (after_path (whole c (stage.Path w) next.0) w ns)) more) (append_assoc done (n ∷ []) (m ∷ ms)),
    )

path_again : (c : Core) (w : Way) (ns : List ℕ) → FitPath ns → (x : Rest) (more : List ℕ)
    → (y : Rest) × (read_on (Some (whole c (stage.Path w) (record x { path = []; part = None }))) (path_text ns ++ (way_end w ∷ more)) ≡ read_on (Some (after_path (whole c (stage.Path w) y) w ns)) more)
path_again c way.Step [] f x more = (record x { path = []; part = None }, refl)
path_again c way.Attempt [] f x more = (record x { path = []; part = None }, refl)
path_again c w (n ∷ ns) f x more =
    let next = further_again c w [] n ns f.1 x more in (
      next.0,
      ap (read_on (Some (whole c (stage.Path w) (record x { path = []; part = None })))) (append_assoc (decimal n) (further ns) (way_end w ∷ more))
          ∙ part_again c w n (record x { path = [] }) (further ns ++ (way_end w ∷ more)) f.0
          ∙ next.1,
    )

-- ---- picks

-- a pick is read, and put where it belongs
abbrev pub PickAgain : Pick → Type 0
PickAgain p = (c : Core) (x : Rest) (more : List ℕ) → (y : Rest) × (read_on (Some (whole c stage.Line x)) (pick_text p ++ more) ≡ read_on (Some (put_pick (whole c stage.Line y) p)) more)

step_again : (path : Path) (loc : Loc) → FitPath path.0 → loc.0 < 2 ^ 64 → PickAgain (Step path loc)
unfolding put_pick
step_again path loc f l c x more =
    let way = path_again c way.Step path.0 f x (decimal loc.0 ++ (10 ∷ more)) in (
      record way.0 { path = []; number = Some loc.0 },
      ap (λ t. read_on (Some (whole c stage.Line x)) (t ++ more)) (step_text path loc)
          ∙ ap (λ t. read_on (Some (whole c stage.Line x)) (115 ∷ 32 ∷ t)) (append_assoc (path_text path.0) (32 ∷ (decimal loc.0 ++ 10 ∷ [])) more ∙ ap (λ t. path_text path.0 ++ (32 ∷ t)) (append_assoc (decimal loc.0) (10 ∷ []) more))
          ∙ way.1
          ∙ number_again c field.Location loc.0 (record way.0 { path = path.0 }) more l,
    )

-- the picks of a machine are read, where the pick behind `out` isn't next
abbrev pub IsNormal : Core → Type 0
IsNormal c = (c.is_last && is_empty c.attempts) ≡ false

put_normal : (c : Core) (x : Rest) (p : Pick) → IsNormal c → put_pick (whole c stage.Line x) p ≡ whole (record c { picks = c.picks ++ p ∷ [] }) stage.Line x
unfolding put_pick
put_normal c x p n =
    ap (λ t. cond t (record (whole c stage.Line x) { ending = OutOfFuel p; picks = c.main; is_last = false; main = []; stage = stage.Word word.Output 0 }) (whole (record c { picks = c.picks ++ p ∷ [] }) stage.Line x)) n

abbrev pub opened : Core → Path → Core
opened c path = record c { attempts = c.attempts ++ record { path = path; before = c.picks } ∷ []; picks = [] }

head_again : (c : Core) (path : Path) → FitPath path.0 → Leads c stage.Line (head_text path.0) (opened c path) stage.Line
head_again c path f x more =
    let way = path_again c way.Attempt path.0 f x more in (
      record way.0 { path = [] },
      ap (λ t. read_on (Some (whole c stage.Line x)) (97 ∷ 32 ∷ t)) (append_assoc (path_text path.0) (10 ∷ []) more) ∙ way.1,
    )

not_empty : (os : List Open) (o : Open) → is_empty (os ++ o ∷ []) ≡ false
not_empty [] o = refl
not_empty (q ∷ os) o = refl

opened_normal : (c : Core) (path : Path) → IsNormal (opened c path)
opened_normal c path = ap (λ t. c.is_last && t) (not_empty c.attempts (record { path = path; before = c.picks })) ∙ and_false c.is_last
  where
    and_false : (x : Bool) → (x && false) ≡ false
    and_false true = refl
    and_false false = refl

put_same : (c : Core) (x : Rest) (p : Pick) → put_pick (whole c (stage.Word word.End 1) x) p ≡ put_pick (whole c stage.Line x) p
unfolding put_pick
put_same c x p = refl

-- an attempt's end
end_again : (c : Core) (path : Path) (inner : List Pick) (x : Rest) (more : List ℕ)
    → read_on (Some (whole (record (opened c path) { picks = inner }) stage.Line x)) (122 ∷ 10 ∷ more) ≡ read_on (Some (put_pick (whole c stage.Line x) (Attempt path inner))) more
end_again c path inner x more =
    let o : Open = record { path = path; before = c.picks } in
    let r = whole (record (opened c path) { picks = inner }) (stage.Word word.End 1) x in
    ap (λ t. read_on (cond t (Some (record (whole (record (opened c path) { picks = inner }) stage.Line x) { stage = stage.Word word.End 1 })) None) (10 ∷ more)) (ap not (not_empty c.attempts o))
    ∙ ap (λ s. read_on (Some s) more) (closed_is r c.attempts o refl ∙ put_same c x (Attempt path inner))

mutual
  pick_again : (p : Pick) → FitPick p → PickAgain p
  pick_again p (fit_step path loc e f l) = subst PickAgain (sym e) (step_again path loc f l)
  pick_again p (fit_attempt path inner e f fs) = subst PickAgain (sym e) (λ c x more.
      let head = head_again c path f x (picks_text inner ++ (122 ∷ 10 ∷ more)) in
      let picks = picks_again inner fs (opened c path) (opened_normal c path) head.0 (122 ∷ 10 ∷ more) in (
        picks.0,
        ap (λ t. read_on (Some (whole c stage.Line x)) (t ++ more)) (attempt_parts path inner)
            ∙ ap (read_on (Some (whole c stage.Line x))) (append_assoc (head_text path.0) (picks_text inner ++ (122 ∷ 10 ∷ [])) more ∙ ap (λ t. head_text path.0 ++ t) (append_assoc (picks_text inner) (122 ∷ 10 ∷ []) more))
            ∙ head.1
            ∙ picks.1
            ∙ end_again c path inner picks.0 more,
      ))

  picks_again : (ps : List Pick) → FitPicks ps → (c : Core) → IsNormal c → Leads c stage.Line (picks_text ps) (record c { picks = c.picks ++ ps }) stage.Line
  picks_again [] f c n x more = (x, ap (λ qs. read_on (Some (whole (record c { picks = qs }) stage.Line x)) more) (sym (append-nil c.picks)))
  picks_again (p ∷ ps) (fit_more f fs) c n x more =
      let one = pick_again p f c x (picks_text ps ++ more) in
      let rest = picks_again ps fs (record c { picks = c.picks ++ p ∷ [] }) n one.0 more in (
        rest.0,
        ap (read_on (Some (whole c stage.Line x))) (append_assoc (pick_text p) (picks_text ps) more)
            ∙ one.1
            ∙ ap (λ s. read_on (Some s) (picks_text ps ++ more)) (put_normal c one.0 p n)
            ∙ rest.1
            ∙ ap (λ qs. read_on (Some (whole (record c { picks = qs }) stage.Line rest.0)) more) (append_assoc c.picks (p ∷ []) ps),
      )

-- ---- the whole

-- the pick behind `out`
last_again : (c : Core) (p : Pick) → FitPick p → c.is_last ≡ true → c.attempts ≡ [] → (x : Rest) (more : List ℕ)
    → (y : Rest) × (read_on (Some (whole c stage.Line x)) (pick_text p ++ more) ≡ read_on (Some (whole (record c { ending = OutOfFuel p; picks = c.main; is_last = false; main = [] }) (stage.Word word.Output 0) y)) more)
unfolding put_pick
last_again c p f l n x more =
    let one = pick_again p f c x more in (
      one.0,
      one.1
          ∙ ap (λ t. read_on (Some (cond t (whole (record c { ending = OutOfFuel p; picks = c.main; is_last = false; main = [] }) (stage.Word word.Output 0) one.0) (whole (record c { picks = c.picks ++ p ∷ [] }) stage.Line one.0))) more)
          (ap₂ (λ y z. y && is_empty z) l n),
    )

-- a run's picks are read
abbrev pub run_core : ℕ → List Pick → Core
run_core fuel picks = record { fuel = fuel; is_last = false; main = []; attempts = []; picks = picks; ending = NotRun; output = [] }

-- its end too
abbrev pub ended_core : ℕ → List Pick → Ending → List ℕ → Core
ended_core fuel picks ending output = record { fuel = fuel; is_last = false; main = []; attempts = []; picks = picks; ending = ending; output = output }

ending_again : (fuel : ℕ) (picks : List Pick) (e : Ending) → FitEnding e → Leads (run_core fuel picks) stage.Line (ending_text e) (ended_core fuel picks e []) (stage.Word word.Output 0)
ending_again fuel picks NotRun f x more = absurd f
ending_again fuel picks Completed f x more = (x, refl)
ending_again fuel picks (Uncaught v) f x more =
    let c = run_core fuel picks in
    let id = f.id.0 in
    let loc = f.loc.0 in
    let text : ending_text (Uncaught v) ≡ codes "uncaught " ++ (decimal id ++ (32 ∷ (decimal loc ++ 10 ∷ []))) = ap (λ w. thrown_text (out-Value w)) f.is_object ∙ ap thrown_text (outs-Object f.id f.loc) in
    let y : Rest = record x { part = Some id; ty = id; number = Some loc } in (
      y,
      ap (λ t. read_on (Some (whole c stage.Line x)) (t ++ more)) text
          ∙ ap (λ t. read_on (Some (whole c stage.Line x)) (codes "uncaught " ++ t)) (append_assoc (decimal id) (32 ∷ (decimal loc ++ 10 ∷ [])) more ∙ ap (λ t. decimal id ++ (32 ∷ t)) (append_assoc (decimal loc) (10 ∷ []) more))
          ∙ type_again c id x (decimal loc ++ (10 ∷ more)) f.id_fits
          ∙ number_again c field.Base loc (record x { part = Some id; ty = id }) more f.loc_fits
          ∙ ap (λ w. read_on (Some (whole (ended_core fuel picks (Uncaught w) []) (stage.Word word.Output 0) y)) more) (sym f.is_object),
    )
ending_again fuel picks (OutOfFuel p) f x more =
    let last = last_again (record { fuel = fuel; is_last = true; main = picks; attempts = []; picks = []; ending = NotRun; output = [] }) p f refl refl x more in
    (last.0, last.1)

-- the output
bytes_again : (fuel : ℕ) (picks : List Pick) (e : Ending) (done output : List ℕ) (x : Rest)
    → read_on (Some (whole (ended_core fuel picks e done) (stage.Output (length output)) x)) output ≡ Some (whole (ended_core fuel picks e (done ++ output)) (stage.Output 0) x)
bytes_again fuel picks e done [] x = ap (λ bs. Some (whole (ended_core fuel picks e bs) (stage.Output 0) x)) (sym (append-nil done))
bytes_again fuel picks e done (b ∷ bs) x =
    let left : length (b ∷ bs) - 1 ≡ length bs = omega arith in
    ap (λ t. read_on (cond t None (Some (whole (ended_core fuel picks e (done ++ b ∷ [])) (stage.Output (length (b ∷ bs) - 1)) x))) bs) (ne_eqb (length (b ∷ bs)) 0 (omega arith))
    ∙ ap (λ n. read_on (Some (whole (ended_core fuel picks e (done ++ b ∷ [])) (stage.Output n) x)) bs) left
    ∙ bytes_again fuel picks e (done ++ b ∷ []) bs x
    ∙ ap (λ os. Some (whole (ended_core fuel picks e os) (stage.Output 0) x)) (append_assoc done (b ∷ []) bs)

-- A record's text is read, and gives what it is the text of.
pub text_again : (j : Journal) (output : List ℕ) → IsRecord j output → (x : Rest) × (read_on (Some begun) (record_text j output) ≡ Some (whole (ended_core j.fuel j.picks j.ending output) (stage.Output 0) x))
text_again j output f =
    let start : Rest = record { path = []; part = None; number = None; ty = 0 } in
    let size = length output in
    let behind : List ℕ = codes "output " ++ (decimal size ++ (10 ∷ output)) in
    let picks = picks_again j.picks f.picks (run_core j.fuel []) refl (record start { number = Some j.fuel }) (ending_text j.ending ++ behind) in
    let ending = ending_again j.fuel j.picks j.ending f.ending picks.0 behind in
    let last : Rest = record ending.0 { number = Some size } in (
      last,
      number_again (run_core 0 []) field.Fuel j.fuel start (picks_text j.picks ++ (ending_text j.ending ++ behind)) f.fuel
          ∙ picks.1
          ∙ ending.1
          ∙ number_again (ended_core j.fuel j.picks j.ending []) field.Size size ending.0 output f.size
          ∙ bytes_again j.fuel j.picks j.ending [] output last,
    )
