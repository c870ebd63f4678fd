-- Each form that the translation writes is fine where its parts are; functions and tuples have
-- files of their own.
use Rattle.std.proofs.Common.{◌≤◌, ℕ, ◌+◌, List, [], ◌∷◌, arith, refl, sym, subst}
use Rattle.std.proofs.lemmas.List.{append-nil}
use Rattle.fort_base.specs.declared.ids.NameId.{NameId}
use Rattle.fort_base.specs.declared.ids.SetId.{SetId}
use Rattle.fort_base.specs.declared.ty.Ty.{Ty}
use Rattle.fort_core.specs.declared.form.Mode.{Mode}
use Rattle.fort_core.specs.declared.form.Order.{Order}
use Rattle.fort_core.specs.declared.form.Slot.{Slot}
use Rattle.fort_core.specs.declared.form.Span.TheVariants as span
use Rattle.fort_core.specs.declared.term.Term.{Term, Throw, Variable, Call, Operator, Apply, Fill, Let, Mutable, Read, Write, ReadField, WriteField, ReadElement, WriteElement, Size, Then, If, While, For, Reduce, Also, Atomic}
use Rattle.fort_core.specs.declared.term.Term.TheVariants.{outs-Throw, outs-Variable, outs-Call, outs-Operator, outs-Apply, outs-Fill, outs-Let, outs-Mutable, outs-Read, outs-Write, outs-ReadField, outs-WriteField, outs-ReadElement, outs-WriteElement, outs-Size, outs-Then, outs-If, outs-While, outs-For, outs-Reduce, outs-Also, outs-Atomic}
use Rattle.fort_machine.specs.Scopes.{variables}
use Rattle.fort_machine.specs.Written.{BindsOnce, StandOnce, end_of_terms, first_term, functions_in}
use Rattle.fort_elab_meaning.specs.Items.{typed_variables}
use Rattle.fort_elab_law_written.proofs.Numbers.{Between, no_number, number, widened, appended, apart, each_once}
use Rattle.fort_elab_law_written.proofs.Fine.{Fine, Fines, wide, none, first, fine_at, simple_at}
use Rattle.fort_elab_law_written.proofs.Makers.{Still, KeepsAll, Keeps, KeepsTwo, KeepsThree, Binds}

-- one term alone
pub alone : {lo hi flo fhi : ℕ} {t : Term} → Fine lo hi flo fhi t → Fines lo hi flo fhi (t ∷ [])
alone {lo} {hi} {flo} {fhi} {t} h = record {
  are_written = first_term h.is_written end_of_terms;
  binders = appended h.binders no_number;
  functions = appended h.functions no_number;
  once = subst StandOnce (sym (append-nil (functions_in t))) h.once;
}

pub fine-Throw : Keeps Throw
fine-Throw lo hi flo fhi a h = simple_at (Throw a) _ (outs-Throw a) tt tt tt refl refl (alone h)

pub fine-Variable : (n : ℕ) → Still (Variable n)
fine-Variable n lo hi flo fhi = simple_at (Variable n) _ (outs-Variable n) tt tt tt refl refl none

pub fine-Read : (x : Slot) → Still (Read x)
fine-Read x lo hi flo fhi = simple_at (Read x) _ (outs-Read x) tt tt tt refl refl none

pub fine-Call : (set : SetId) → KeepsAll (Call set)
fine-Call set lo hi flo fhi ts h = simple_at (Call set ts) _ (outs-Call set ts) tt tt tt refl refl h

pub fine-Operator : (set : SetId) → KeepsAll (Operator set)
fine-Operator set lo hi flo fhi ts h =
    simple_at (Operator set ts) _ (outs-Operator set ts) tt tt tt refl refl h

pub fine-Also : KeepsAll Also
fine-Also lo hi flo fhi ts h = simple_at (Also ts) _ (outs-Also ts) tt tt tt refl refl h

pub fine-Apply : KeepsTwo Apply
fine-Apply lo hi flo fhi a b h = simple_at (Apply a b) _ (outs-Apply a b) tt tt tt refl refl h

pub fine-Fill : (ty : Ty) → KeepsTwo (Fill ty)
fine-Fill ty lo hi flo fhi a b h = simple_at (Fill ty a b) _ (outs-Fill ty a b) tt tt tt refl refl h

pub fine-Write : (x : Slot) → Keeps (Write x)
fine-Write x lo hi flo fhi a h =
    simple_at (Write x a) _ (outs-Write x a) tt tt tt refl refl (alone h)

pub fine-ReadField : (f : NameId) → Keeps (λ a. ReadField a f)
fine-ReadField f lo hi flo fhi a h =
    simple_at (ReadField a f) _ (outs-ReadField a f) tt tt tt refl refl (alone h)

pub fine-WriteField : (f : NameId) → KeepsTwo (λ a. WriteField a f)
fine-WriteField f lo hi flo fhi a b h =
    simple_at (WriteField a f b) _ (outs-WriteField a f b) tt tt tt refl refl h

pub fine-ReadElement : KeepsTwo ReadElement
fine-ReadElement lo hi flo fhi a b h =
    simple_at (ReadElement a b) _ (outs-ReadElement a b) tt tt tt refl refl h

pub fine-WriteElement : KeepsThree WriteElement
fine-WriteElement lo hi flo fhi a b d h =
    simple_at (WriteElement a b d) _ (outs-WriteElement a b d) tt tt tt refl refl h

pub fine-Size : Keeps Size
fine-Size lo hi flo fhi a h = simple_at (Size a) _ (outs-Size a) tt tt tt refl refl (alone h)

pub fine-Then : KeepsTwo Then
fine-Then lo hi flo fhi a b h = simple_at (Then a b) _ (outs-Then a b) tt tt tt refl refl h

pub fine-If : KeepsThree If
fine-If lo hi flo fhi a b d h = simple_at (If a b d) _ (outs-If a b d) tt tt tt refl refl h

pub fine-While : KeepsTwo While
fine-While lo hi flo fhi a b h = simple_at (While a b) _ (outs-While a b) tt tt tt refl refl h

pub fine-Atomic : (m : Mode) → Keeps (Atomic m)
fine-Atomic m lo hi flo fhi a h =
    simple_at (Atomic m a) _ (outs-Atomic m a) tt tt tt refl refl (alone h)

-- ---- binders

-- variables in a row, bound in terms whose binders are behind them
pub bound_once : {lo mid hi flo fhi : ℕ} (xs : List ℕ) (ts : List Term) → StandOnce xs
    → Between lo mid xs → Fines mid hi flo fhi ts → BindsOnce xs ts
bound_once xs ts o b h = (o, apart xs _ b h.binders)

-- the two terms of a binder of k variables
pub both : {lo n hi flo fmid fhi : ℕ} (k : ℕ) (a b : Term) → lo ≤ n → n + k ≤ hi → flo ≤ fmid
    → fmid ≤ fhi → Fine lo n flo fmid a → Fine (n + k) hi fmid fhi b
    → Fines lo hi flo fhi (a ∷ b ∷ [])
both {lo} {n} {hi} {flo} {fmid} {fhi} k a b l m u v h i =
    first a (b ∷ []) u v (wide a (omega arith) (omega arith) (omega arith) (omega arith) h)
    (alone (wide b (omega arith) (omega arith) (omega arith) (omega arith) i))

one_between : {lo n hi : ℕ} → lo ≤ n → n + 1 ≤ hi → Between lo hi (n ∷ [])
one_between l m = number l (omega arith) no_number

pub one_at : (n : ℕ) → Between n (n + 1) (n ∷ [])
one_at n = number (omega arith) (omega arith) no_number

pub fine-Let : (ty : Ty) → Binds (λ n. Let ((n, ty) ∷ []))
fine-Let ty lo n hi flo fmid fhi a b l m u v h i =
    fine_at (Let ((n, ty) ∷ []) a b) _ (outs-Let ((n, ty) ∷ []) a b) tt tt tt
    (bound_once (n ∷ []) (b ∷ []) (refl, tt) (one_at n) (alone i)) (one_between l m)
    (both _ a b l m u v h i)

pub fine-Lets : (xs : List (NameId × Ty)) (lo n hi flo fmid fhi : ℕ) (a b : Term) (k : ℕ)
    → Between n (n + k) (variables (typed_variables n xs)) → lo ≤ n → n + k ≤ hi → flo ≤ fmid
    → fmid ≤ fhi
    → Fine lo n flo fmid a → Fine (n + k) hi fmid fhi b
    → Fine lo hi flo fhi (Let (typed_variables n xs) a b)
fine-Lets xs lo n hi flo fmid fhi a b k r l m u v h i =
    fine_at (Let (typed_variables n xs) a b) _ (outs-Let (typed_variables n xs) a b) tt tt tt
    (bound_once (variables (typed_variables n xs)) (b ∷ []) (each_once n xs) r (alone i))
    (widened l m r) (both _ a b l m u v h i)

pub fine-Mutable : (ty : Ty) → Binds (λ n. Mutable n ty)
fine-Mutable ty lo n hi flo fmid fhi a b l m u v h i =
    fine_at (Mutable n ty a b) _ (outs-Mutable n ty a b) tt tt tt
    (bound_once (n ∷ []) (b ∷ []) (refl, tt) (one_at n) (alone i)) (one_between l m)
    (both _ a b l m u v h i)

pub fine-For : (order : Order) → Binds (λ n. For order span.Whole n)
fine-For order lo n hi flo fmid fhi a b l m u v h i =
    fine_at (For order span.Whole n a b) _ (outs-For order span.Whole n a b) tt refl tt
    (bound_once (n ∷ []) (b ∷ []) (refl, tt) (one_at n) (alone i)) (one_between l m)
    (both _ a b l m u v h i)

pub fine-Reduce : (order : Order) (set : SetId) (empty : Term) → Still empty
    → Binds (λ n. Reduce order span.Whole set empty n)
fine-Reduce order set empty e lo n hi flo fmid fhi a b l m u v h i =
    fine_at (Reduce order span.Whole set empty n a b) _
    (outs-Reduce order span.Whole set empty n a b) tt refl tt
    (bound_once (n ∷ []) (b ∷ []) (refl, tt) (one_at n) (alone i)) (one_between l m)
    (first empty (a ∷ b ∷ []) (omega arith) (omega arith) (e lo hi flo flo)
    (both _ a b l m u v h i))
