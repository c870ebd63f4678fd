-- The term of a form is fine: by the parts of each form.
use Rattle.std.proofs.Common.{◌≡◌, pos, List, [], ◌∷◌, map, Some, None, sym, ap, ◌∙◌, subst}
use Rattle.fort_types_builtin.specs.Objects.{location}
use Rattle.fort_core.specs.declared.form.Mode.TheVariants as mode
use Rattle.fort_core.specs.declared.form.Slot.TheVariants as slot
use Rattle.fort_core.specs.declared.term.Term.{Throw, Apply, Fill, ReadField, ReadElement, Size, While, Also, Atomic}
use Rattle.fort_machine.specs.Ends.{group}
use Rattle.fort_form_typed.specs.declared.typed_form.TypedForm.{TypedForm, out-TypedForm, roll-TypedForm, out-roll-TypedForm, ind-TypedForm, map-TypedForm, fold_out-TypedForm}
use Rattle.fort_form_typed.specs.declared.typed_form.TypedForm.TheOpen.{TypedForm-F}
use Rattle.fort_elab_meaning.specs.Making.{number_of, still}
use Rattle.fort_elab_meaning.specs.Parts.{Given, Part, maker_of}
use Rattle.fort_elab_meaning.specs.Values.{unit_term, neutral}
use Rattle.fort_elab_meaning.specs.Calls.{call, operation}
use Rattle.fort_elab_meaning.specs.Items.{parameter}
use Rattle.fort_elab_meaning.specs.Choices.{or_else}
use Rattle.fort_elab_meaning.specs.Translated.{made_at, role_at, part_at, part}
use Rattle.fort_elab_law_written.proofs.Makers.{Good, good_still, good_one, good_two, good_many}
use Rattle.fort_elab_law_written.proofs.Forms.{fine-Throw, fine-Variable, fine-Read, fine-Also, fine-Apply, fine-Fill, fine-ReadField, fine-ReadElement, fine-Size, fine-While, fine-Atomic}
use Rattle.fort_elab_law_written.proofs.Values.{plain_number, plain-Text, plain-Truth, plain-Object, still_value, still_unit, still_neutral}
use Rattle.fort_elab_law_written.proofs.Parts.{GoodRole, GoodPart, GoodParts, MayBeGood, good_makers, still_variable, good_local, good_bindings, good_block, good_loops, good_reduction, good_or_else, good_branches}
use Rattle.fort_elab_law_written.proofs.Groups.{fine_group, good_fn}
use Rattle.fort_elab_law_written.proofs.Clauses.{good_typecase, good_trying}
use Rattle.fort_elab_law_written.proofs.Calls.{fine_call, fine_operation, good_chain, good_cases, good_assigned, good_updated}

-- All parts of a layer are good.
abbrev PartsGood : TypedForm-F Part → Type 0
PartsGood (TypedForm-F.Tuple ty ps) = GoodParts ps
PartsGood (TypedForm-F.ReadField ty o f) = GoodPart o
PartsGood (TypedForm-F.ReadElement ty a i) = GoodPart a × GoodPart i
PartsGood (TypedForm-F.Size ty a) = GoodPart a
PartsGood (TypedForm-F.Fill ty elements n v) = GoodPart n × GoodPart v
PartsGood (TypedForm-F.Call ty c ps) = GoodParts ps
PartsGood (TypedForm-F.Operation ty c ps) = GoodParts ps
PartsGood (TypedForm-F.Chain ty set cs ps) = GoodParts ps
PartsGood (TypedForm-F.Apply ty f a) = GoodPart f × GoodPart a
PartsGood (TypedForm-F.Fn ty xs e) = GoodPart e
PartsGood (TypedForm-F.Block ty ps) = GoodParts ps
PartsGood (TypedForm-F.Bind ty name mutable written e) = GoodPart e
PartsGood (TypedForm-F.Binds ty xs e) = GoodPart e
PartsGood (TypedForm-F.Also ty ps) = GoodParts ps
PartsGood (TypedForm-F.If ty cs bs other) = GoodParts cs × GoodParts bs × MayBeGood other
PartsGood (TypedForm-F.While ty c b) = GoodPart c × GoodPart b
PartsGood (TypedForm-F.For ty xs ps b) = GoodParts ps × GoodPart b
PartsGood (TypedForm-F.Case ty subject cs ts vs other) = GoodPart subject × GoodParts ts
    × GoodParts vs × MayBeGood other
PartsGood (TypedForm-F.Typecase ty name subject types vs other) = GoodPart subject × GoodParts vs
    × MayBeGood other
PartsGood (TypedForm-F.Try ty b name types vs last) = GoodPart b × GoodParts vs × MayBeGood last
PartsGood (TypedForm-F.Atomic ty e) = GoodPart e
PartsGood (TypedForm-F.Tryatomic ty e) = GoodPart e
PartsGood (TypedForm-F.Throw ty e) = GoodPart e
PartsGood (TypedForm-F.Reduce ty r set name sequential p b) = GoodPart p × GoodPart b
PartsGood (TypedForm-F.Assign ty t e) = GoodPart t × GoodPart e
PartsGood (TypedForm-F.Update ty t c e) = GoodPart t × GoodPart e
PartsGood _ = Unit {0}

module _ (g : Given) where
  maker_at : (x : TypedForm-F Part) → PartsGood x → Good (made_at g x)
  maker_at (TypedForm-F.Number ty n) h = good_still _ (still_value _ (plain_number n (pos n)))
  maker_at (TypedForm-F.Text ty n) h = good_still _ (still_value _ (plain-Text _))
  maker_at (TypedForm-F.Truth ty b) h = good_still _ (still_value _ (plain-Truth b))
  maker_at (TypedForm-F.Tuple ty ps) h =
      good_many group (map maker_of ps) fine_group (good_makers ps h)
  maker_at (TypedForm-F.Local ty name mutable) h =
      λ s c. good_still _ (still_variable mutable (number_of s.names name)) s c
  maker_at (TypedForm-F.Top ty n) h = good_still _ (fine-Read (slot.Location (location n)))
  maker_at (TypedForm-F.Single ty t) h = good_still _ (still_value _ (plain-Object _ _))
  maker_at (TypedForm-F.Receiver ty) h = λ s c. good_still _ (fine-Variable s.receiver) s c
  maker_at (TypedForm-F.ReadField ty o f) h =
      good_one (λ t. ReadField t f) o.maker (fine-ReadField f) h.maker
  maker_at (TypedForm-F.ReadElement ty a i) h =
      let x = h.0 in let y = h.1
      in good_two ReadElement a.maker i.maker fine-ReadElement x.maker y.maker
  maker_at (TypedForm-F.Size ty a) h = good_one Size a.maker fine-Size h.maker
  maker_at (TypedForm-F.Fill ty elements n v) h =
      let x = h.0 in let y = h.1
      in good_two (Fill elements) n.maker v.maker (fine-Fill elements) x.maker y.maker
  maker_at (TypedForm-F.Call ty c ps) h =
      good_many (call g c) (map maker_of ps) (fine_call g c) (good_makers ps h)
  maker_at (TypedForm-F.Operation ty c ps) h =
      good_many (operation g c) (map maker_of ps) (fine_operation g c) (good_makers ps h)
  maker_at (TypedForm-F.Chain ty set cs ps) h = good_chain g set cs ps h
  maker_at (TypedForm-F.Apply ty f a) h =
      let x = h.0 in let y = h.1 in good_two Apply f.maker a.maker fine-Apply x.maker y.maker
  maker_at (TypedForm-F.Fn ty xs e) h = good_fn (map parameter xs) e.ty e.maker h.maker
  maker_at (TypedForm-F.Block ty ps) h = good_block ps h
  maker_at (TypedForm-F.Bind ty name mutable written e) h =
      good_local name mutable written e.maker h.maker
  maker_at (TypedForm-F.Binds ty xs e) h =
      good_bindings xs e.maker (still unit_term) h.maker (good_still unit_term still_unit)
  maker_at (TypedForm-F.Also ty ps) h =
      good_many Also (map maker_of ps) fine-Also (good_makers ps h)
  maker_at (TypedForm-F.If ty cs bs other) h =
      good_branches cs bs (or_else other unit_term) h.0 h.1
      (good_or_else other unit_term h.2 still_unit)
  maker_at (TypedForm-F.While ty c b) h =
      let x = h.0 in let y = h.1 in good_two While c.maker b.maker fine-While x.maker y.maker
  maker_at (TypedForm-F.For ty xs ps b) h = let y = h.1 in good_loops xs ps b.maker h.0 y.maker
  maker_at (TypedForm-F.Case ty subject cs ts vs other) h =
      good_cases g subject cs ts vs other h.0 h.1 h.2 h.3
  maker_at (TypedForm-F.Typecase ty name subject types vs other) h =
      good_typecase g name subject types vs other h.0 h.1 h.2
  maker_at (TypedForm-F.Try ty b name types vs last) h =
      good_trying b name types vs last h.0 h.1 h.2
  maker_at (TypedForm-F.Atomic ty e) h =
      good_one (Atomic mode.Atomic) e.maker (fine-Atomic mode.Atomic) h.maker
  maker_at (TypedForm-F.Tryatomic ty e) h =
      good_one (Atomic mode.Try) e.maker (fine-Atomic mode.Try) h.maker
  maker_at (TypedForm-F.Throw ty e) h = good_one Throw e.maker fine-Throw h.maker
  maker_at (TypedForm-F.Reduce ty r set name sequential p b) h =
      let x = h.0 in let y = h.1
      in good_reduction set (neutral g r ty) name sequential p.maker b.maker (still_neutral g r ty)
      x.maker y.maker
  maker_at (TypedForm-F.Assign ty t e) h =
      let x = h.0 in let y = h.1 in good_assigned t.role e.maker x.role y.maker
  maker_at (TypedForm-F.Update ty t c e) h =
      let x = h.0 in let y = h.1 in good_updated g c t.role e.maker x.role y.maker

  good_role : (x : TypedForm-F Part) → PartsGood x → GoodRole (role_at x)
  good_role (TypedForm-F.ReadField ty o f) h = h.maker
  good_role (TypedForm-F.ReadElement ty a i) h = let x = h.0 in let y = h.1 in (x.maker, y.maker)
  good_role (TypedForm-F.Bind ty name mutable written e) h = h.maker
  good_role (TypedForm-F.Binds ty xs e) h = h.maker
  good_role _ h = tt

  good_at : (x : TypedForm-F Part) → PartsGood x → GoodPart (part_at g x)
  good_at x h = record { maker = maker_at x h; role = good_role x h }

  -- one level of a form, its parts as parts
  abbrev level : TypedForm-F TypedForm → TypedForm-F Part
  level x = map-TypedForm TypedForm Part (part g) x

  part_is : (f : TypedForm) → part g f ≡ part_at g (level (out-TypedForm f))
  unfolding part
  part_is f = fold_out-TypedForm Part (part_at g) f

  abbrev GoodForm : TypedForm → Type 0
  GoodForm f = GoodPart (part g f)

  abbrev Forms : Type 0
  Forms = (f : TypedForm) × GoodForm f

  abbrev form_of : Forms → TypedForm
  form_of f = f.0

  every : (fs : List Forms) → GoodParts (map (part g) (map form_of fs))
  every [] = tt
  every (f ∷ fs) = (f.1, every fs)

  parts_good : (y : TypedForm-F Forms) → PartsGood (level (map-TypedForm Forms TypedForm form_of y))
  parts_good (TypedForm-F.Number ty n) = tt
  parts_good (TypedForm-F.Text ty n) = tt
  parts_good (TypedForm-F.Truth ty b) = tt
  parts_good (TypedForm-F.Tuple ty ps) = every ps
  parts_good (TypedForm-F.Local ty name mutable) = tt
  parts_good (TypedForm-F.Top ty n) = tt
  parts_good (TypedForm-F.Single ty t) = tt
  parts_good (TypedForm-F.Receiver ty) = tt
  parts_good (TypedForm-F.ReadField ty o f) = o.1
  parts_good (TypedForm-F.ReadElement ty a i) = (a.1, i.1)
  parts_good (TypedForm-F.Size ty a) = a.1
  parts_good (TypedForm-F.Fill ty elements n v) = (n.1, v.1)
  parts_good (TypedForm-F.Call ty c ps) = every ps
  parts_good (TypedForm-F.Operation ty c ps) = every ps
  parts_good (TypedForm-F.Chain ty set cs ps) = every ps
  parts_good (TypedForm-F.Apply ty f a) = (f.1, a.1)
  parts_good (TypedForm-F.Fn ty xs e) = e.1
  parts_good (TypedForm-F.Block ty ps) = every ps
  parts_good (TypedForm-F.Bind ty name mutable written e) = e.1
  parts_good (TypedForm-F.Binds ty xs e) = e.1
  parts_good (TypedForm-F.Also ty ps) = every ps
  parts_good (TypedForm-F.If ty cs bs None) = (every cs, every bs, tt)
  parts_good (TypedForm-F.If ty cs bs (Some d)) = (every cs, every bs, d.1)
  parts_good (TypedForm-F.While ty c b) = (c.1, b.1)
  parts_good (TypedForm-F.For ty xs ps b) = (every ps, b.1)
  parts_good (TypedForm-F.Case ty subject cs ts vs None) = (subject.1, every ts, every vs, tt)
  parts_good (TypedForm-F.Case ty subject cs ts vs (Some d)) = (subject.1, every ts, every vs, d.1)
  parts_good (TypedForm-F.Typecase ty name subject types vs None) = (subject.1, every vs, tt)
  parts_good (TypedForm-F.Typecase ty name subject types vs (Some d)) = (subject.1, every vs, d.1)
  parts_good (TypedForm-F.Try ty b name types vs None) = (b.1, every vs, tt)
  parts_good (TypedForm-F.Try ty b name types vs (Some d)) = (b.1, every vs, d.1)
  parts_good (TypedForm-F.Atomic ty e) = e.1
  parts_good (TypedForm-F.Tryatomic ty e) = e.1
  parts_good (TypedForm-F.Throw ty e) = e.1
  parts_good (TypedForm-F.Reduce ty r set name sequential p b) = (p.1, b.1)
  parts_good (TypedForm-F.Assign ty t e) = (t.1, e.1)
  parts_good (TypedForm-F.Update ty t c e) = (t.1, e.1)

  good_rolled : (x : TypedForm-F TypedForm) → PartsGood (level x) → GoodForm (roll-TypedForm x)
  good_rolled x h =
      subst GoodPart
      (sym (part_is (roll-TypedForm x) ∙ ap (λ y. part_at g (level y)) (out-roll-TypedForm x)))
      (good_at (level x) h)

  -- each form is a good part
  pub good_form : (f : TypedForm) → GoodPart (part g f)
  good_form =
      ind-TypedForm GoodForm
      (λ x y e. good_rolled x (subst (λ z. PartsGood (level z)) e (parts_good y)))
