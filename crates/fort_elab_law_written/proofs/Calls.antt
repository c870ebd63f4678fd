-- Calls with widened arguments, chains, `case`, and assignments.
use Rattle.std.proofs.Common.{◌≡◌, ℕ, Bool, true, false, List, [], ◌∷◌, ◌++◌, map, Option, arith, refl, sym, ap, ◌∙◌, subst}
use Rattle.std.proofs.lemmas.List.{append-nil}
use Rattle.fort_base.specs.declared.ids.NameId.{NameId}
use Rattle.fort_base.specs.declared.ids.SetId.{SetId}
use Rattle.fort_core.specs.declared.form.Slot.{Slot}
use Rattle.fort_core.specs.declared.form.Slot.TheVariants as slot
use Rattle.fort_core.specs.declared.term.Term.{Term, Variable, Call, If, Read, Write, ReadField, WriteField, ReadElement, WriteElement}
use Rattle.fort_core.specs.declared.term.Term.TheVariants.{outs-Call}
use Rattle.fort_machine.specs.Written.{all_binders, functions_in, StandOnce, Written, AllWritten, end_of_terms, first_term}
use Rattle.fort_form_typed.specs.declared.typed_form.Chosen.{Chosen}
use Rattle.fort_types_builtin.specs.Objects.{location}
use Rattle.fort_elab_meaning.specs.Making.{Maker, number_of, one, letting}
use Rattle.fort_elab_meaning.specs.Parts.{Given, Part, Role, expression, local, locals, variable, top, field, element, maker_of}
use Rattle.fort_elab_meaning.specs.Values.{unit_term, no_match}
use Rattle.fort_elab_meaning.specs.Calls.{argument, widened, call, operation, operated, comparisons, joined, sides, chain}
use Rattle.fort_elab_meaning.specs.Choices.{or_else, clauses, cases}
use Rattle.fort_elab_meaning.specs.Targets.{of_variable, assigned, raised, updated}
use Rattle.fort_elab_law_written.proofs.Numbers.{Between, no_number, number, appended}
use Rattle.fort_elab_law_written.proofs.Fine.{Fines, binders_in_all, functions_in_all, ordinary_binders, ordinary_functions, ordinary_written}
use Rattle.fort_elab_law_written.proofs.Makers.{Good, Still, KeepsAll, Keeps, good_still, good_one, good_two, good_three, good_many, good_letting}
use Rattle.fort_elab_law_written.proofs.Forms.{alone, fine-Variable, fine-Read, fine-Call, fine-Operator, fine-Write, fine-ReadField, fine-WriteField, fine-ReadElement, fine-WriteElement, fine-If, fine-Let}
use Rattle.fort_elab_law_written.proofs.Values.{still_unit, still_match}
use Rattle.fort_elab_law_written.proofs.Parts.{GoodRole, GoodPart, GoodParts, MayBeGood, good_makers, good_or_else, good_sides}

-- ---- arguments

argument_binders : (g : Given) (w : Bool) (t : Term) → all_binders (argument g w t) ≡ all_binders t
argument_binders g true t =
    ordinary_binders (Call g.widen (t ∷ [])) _ (outs-Call g.widen (t ∷ [])) tt
    ∙ append-nil (all_binders t)
argument_binders g false t = refl

argument_functions : (g : Given) (w : Bool) (t : Term)
    → functions_in (argument g w t) ≡ functions_in t
argument_functions g true t =
    ordinary_functions (Call g.widen (t ∷ [])) _ (outs-Call g.widen (t ∷ [])) tt
    ∙ append-nil (functions_in t)
argument_functions g false t = refl

argument_written : (g : Given) (w : Bool) (t : Term) → Written t → Written (argument g w t)
argument_written g true t h =
    ordinary_written (Call g.widen (t ∷ [])) _ (outs-Call g.widen (t ∷ [])) tt tt tt (tt, refl)
    (first_term h end_of_terms)
argument_written g false t h = h

all_binders_same : (g : Given) (ws : List Bool) (ts : List Term)
    → binders_in_all (widened g ws ts) ≡ binders_in_all ts
all_binders_same g [] ts = refl
all_binders_same g (w ∷ ws) [] = refl
all_binders_same g (w ∷ ws) (t ∷ ts) =
    ap (λ (ns : List ℕ). ns ++ binders_in_all (widened g ws ts)) (argument_binders g w t) ∙ ap (λ
    (ns : List ℕ). all_binders t ++ ns) (all_binders_same g ws ts)

all_functions_same : (g : Given) (ws : List Bool) (ts : List Term)
    → functions_in_all (widened g ws ts) ≡ functions_in_all ts
all_functions_same g [] ts = refl
all_functions_same g (w ∷ ws) [] = refl
all_functions_same g (w ∷ ws) (t ∷ ts) =
    ap (λ (ns : List ℕ). ns ++ functions_in_all (widened g ws ts)) (argument_functions g w t)
    ∙ ap (λ (ns : List ℕ). functions_in t ++ ns) (all_functions_same g ws ts)

all_written : (g : Given) (ws : List Bool) (ts : List Term) → AllWritten ts
    → AllWritten (widened g ws ts)
all_written g [] ts h = h
all_written g (w ∷ ws) [] h = end_of_terms
all_written g (w ∷ ws) (t ∷ ts) (first_term h hs) =
    first_term (argument_written g w t h) (all_written g ws ts hs)

arguments : {lo hi flo fhi : ℕ} (g : Given) (ws : List Bool) (ts : List Term)
    → Fines lo hi flo fhi ts → Fines lo hi flo fhi (widened g ws ts)
arguments {lo} {hi} {flo} {fhi} g ws ts h = record {
  are_written = all_written g ws ts h.are_written;
  binders = subst (Between lo hi) (sym (all_binders_same g ws ts)) h.binders;
  functions = subst (Between flo fhi) (sym (all_functions_same g ws ts)) h.functions;
  once = subst StandOnce (sym (all_functions_same g ws ts)) h.once;
}

pub fine_call : (g : Given) (c : Chosen) → KeepsAll (call g c)
fine_call g c lo hi flo fhi ts h =
    fine-Call c.set lo hi flo fhi (widened g c.widened ts) (arguments g c.widened ts h)

pub fine_operation : (g : Given) (c : Chosen) → KeepsAll (operation g c)
fine_operation g c lo hi flo fhi ts h =
    fine-Operator c.set lo hi flo fhi (widened g c.widened ts) (arguments g c.widened ts h)

-- ---- a term without numbers before others

none_between : {n : ℕ} (ns : List ℕ) → Between n n ns → ns ≡ []
none_between [] no_number = refl
none_between (n ∷ ns) (number l u h) = absurd (omega arith)

pub still_functions : (t : Term) → Still t → functions_in t ≡ []
still_functions t k = let h = k 0 0 0 0 in none_between (functions_in t) h.functions

still_first : {lo hi flo fhi : ℕ} (t : Term) (ts : List Term) → Still t → Fines lo hi flo fhi ts
    → Fines lo hi flo fhi (t ∷ ts)
still_first {lo} {hi} {flo} {fhi} t ts k h =
    let f = ap (λ (ns : List ℕ). ns ++ functions_in_all ts) (still_functions t k)
    in let i = k lo hi flo fhi in record {
      are_written = first_term i.is_written h.are_written;
      binders = appended i.binders h.binders;
      functions = subst (Between flo fhi) (sym f) h.functions;
      once = subst StandOnce (sym f) h.once;
    }

-- an operator call whose left operand has no numbers
fine_operated : (g : Given) (c : Chosen) (t : Term) → Still t → Keeps (operated g c t)
fine_operated g c t k lo hi flo fhi a h =
    fine_operation g c lo hi flo fhi (t ∷ a ∷ []) (still_first t (a ∷ []) k (alone h))

-- ---- chains

abbrev EachStill : List Term → Type 0
EachStill [] = Unit {0}
EachStill (t ∷ ts) = Still t × EachStill ts

still_comparisons : (g : Given) (cs : List Chosen) (ns : List ℕ) → EachStill (comparisons g cs ns)
still_comparisons g [] ns = tt
still_comparisons g (c ∷ cs) [] = tt
still_comparisons g (c ∷ cs) (m ∷ []) = tt
still_comparisons g (c ∷ cs) (m ∷ n ∷ ns) = (
  (λ lo hi flo fhi. fine_operated g c (Variable m) (fine-Variable m) lo hi flo fhi (Variable n)
      (fine-Variable n lo hi flo fhi)),
  still_comparisons g cs (n ∷ ns),
)

still_joined : (set : SetId) (ts : List Term) → EachStill ts → Still (joined set ts)
still_joined set [] h = still_unit
still_joined set (t ∷ []) h = h.0
still_joined set (t ∷ u ∷ ts) h =
    λ lo hi flo fhi. fine-Operator set lo hi flo fhi (t ∷ joined set (u ∷ ts) ∷ [])
    (still_first t (joined set (u ∷ ts) ∷ []) h.0
    (alone (still_joined set (u ∷ ts) h.1 lo hi flo fhi)))

all_sides : (g : Given) (set : SetId) (cs : List Chosen) (ps : List Part) → GoodParts ps
    → Good (sides g set cs ps [])
all_sides g set cs ps h =
    good_sides g set cs ps h []
    (λ ms. still_joined set (comparisons g cs ms) (still_comparisons g cs ms))

pub good_chain : (g : Given) (set : SetId) (cs : List Chosen) (ps : List Part) → GoodParts ps
    → Good (chain g set cs ps)
good_chain g set [] ps h = all_sides g set [] ps h
good_chain g set (c ∷ []) ps h =
    good_many (operation g c) (map maker_of ps) (fine_operation g c) (good_makers ps h)
good_chain g set (c ∷ d ∷ cs) ps h = all_sides g set (c ∷ d ∷ cs) ps h

-- ---- `case`

good_clauses : (g : Given) (cs : List Chosen) (ts vs : List Part) (other : Maker) (n : ℕ)
    → GoodParts ts → GoodParts vs → Good other → Good (clauses g cs ts vs other n)
good_clauses g [] ts vs other n h i k = k
good_clauses g (c ∷ cs) [] vs other n h i k = k
good_clauses g (c ∷ cs) (t ∷ ts) [] other n h i k = k
good_clauses g (c ∷ cs) (t ∷ ts) (v ∷ vs) other n h i k = let x = h.0 in let y = i.0 in
    good_three If (one (operated g c (Variable n)) t.maker) v.maker (clauses g cs ts vs other n)
    fine-If (good_one (operated g c (Variable n)) t.maker
    (fine_operated g c (Variable n) (fine-Variable n)) x.maker) y.maker
    (good_clauses g cs ts vs other n h.1 i.1 k)

pub good_cases : (g : Given) (subject : Part) (cs : List Chosen) (ts vs : List Part)
    (other : Option Part) → GoodPart subject → GoodParts ts → GoodParts vs → MayBeGood other
    → Good (cases g subject cs ts vs other)
good_cases g subject cs ts vs other h i k o =
    good_letting subject.ty subject.maker (clauses g cs ts vs (or_else other (no_match g)))
    (fine-Let subject.ty) h.maker
    (λ n. good_clauses g cs ts vs (or_else other (no_match g)) n i k
    (good_or_else other (no_match g) o (still_match g)))

-- ---- assignments

good_of_variable : (name : NameId) (f : Slot → Maker) → ((x : Slot) → Good (f x))
    → Good (of_variable name f)
good_of_variable name f k s c = k (slot.Variable (number_of s.names name)) s c

pub good_assigned : (r : Role) (e : Maker) → GoodRole r → Good e → Good (assigned r e)
good_assigned expression e h k = good_still unit_term still_unit
good_assigned (local name mutable ty initial) e h k = good_still unit_term still_unit
good_assigned (locals xs initial) e h k = good_still unit_term still_unit
good_assigned (variable name) e h k =
    good_of_variable name (λ x. one (Write x) e) (λ x. good_one (Write x) e (fine-Write x) k)
good_assigned (top n) e h k =
    good_one (Write (slot.Location (location n))) e (fine-Write (slot.Location (location n))) k
good_assigned (field ty o f) e h k = good_two (λ t. WriteField t f) o e (fine-WriteField f) h k
good_assigned (element ty a ty1 i) e h k = good_three WriteElement a i e fine-WriteElement h.0 h.1 k

fine_raised : (g : Given) (c : Chosen) (x : Slot) → Keeps (raised g c x)
fine_raised g c x lo hi flo fhi a h =
    fine-Write x lo hi flo fhi (operated g c (Read x) a)
    (fine_operated g c (Read x) (fine-Read x) lo hi flo fhi a h)

fine_field : (g : Given) (c : Chosen) (f : NameId) (n : ℕ)
    → Keeps (λ t. WriteField (Variable n) f (operated g c (ReadField (Variable n) f) t))
fine_field g c f n lo hi flo fhi a h =
    fine-WriteField f lo hi flo fhi (Variable n) (operated g c (ReadField (Variable n) f) a)
    (still_first (Variable n) (operated g c (ReadField (Variable n) f) a ∷ []) (fine-Variable n)
    (alone (fine_operated g c (ReadField (Variable n) f)
    (λ lo hi flo fhi. fine-ReadField f lo hi flo fhi (Variable n)
    (fine-Variable n lo hi flo fhi)) lo hi flo fhi a h)))

still_element : (n m : ℕ) → Still (ReadElement (Variable n) (Variable m))
still_element n m lo hi flo fhi =
    fine-ReadElement lo hi flo fhi (Variable n) (Variable m)
    (still_first (Variable n) (Variable m ∷ []) (fine-Variable n)
    (alone (fine-Variable m lo hi flo fhi)))

fine_element : (g : Given) (c : Chosen) (n m : ℕ)
    → Keeps (λ t. WriteElement (Variable n) (Variable m)
    (operated g c (ReadElement (Variable n) (Variable m)) t))
fine_element g c n m lo hi flo fhi a h =
    let t = operated g c (ReadElement (Variable n) (Variable m)) a
    in fine-WriteElement lo hi flo fhi (Variable n) (Variable m) t
    (still_first (Variable n) (Variable m ∷ t ∷ []) (fine-Variable n)
    (still_first (Variable m) (t ∷ []) (fine-Variable m)
    (alone (fine_operated g c (ReadElement (Variable n) (Variable m)) (still_element n m) lo hi flo
    fhi a h))))

pub good_updated : (g : Given) (c : Chosen) (r : Role) (e : Maker) → GoodRole r → Good e
    → Good (updated g c r e)
good_updated g c expression e h k = good_still unit_term still_unit
good_updated g c (local name mutable ty initial) e h k = good_still unit_term still_unit
good_updated g c (locals xs initial) e h k = good_still unit_term still_unit
good_updated g c (variable name) e h k =
    good_of_variable name (λ x. one (raised g c x) e)
    (λ x. good_one (raised g c x) e (fine_raised g c x) k)
good_updated g c (top n) e h k =
    good_one (raised g c (slot.Location (location n))) e
    (fine_raised g c (slot.Location (location n))) k
good_updated g c (field ty o f) e h k =
    good_letting ty o
    (λ n. one (λ t. WriteField (Variable n) f (operated g c (ReadField (Variable n) f) t)) e)
    (fine-Let ty) h
    (λ n. good_one (λ t. WriteField (Variable n) f (operated g c (ReadField (Variable n) f) t)) e
    (fine_field g c f n) k)
good_updated g c (element ty a ty1 i) e h k =
    good_letting ty a
    (λ n. letting ty1 i
    (λ m. one
    (λ t. WriteElement (Variable n) (Variable m)
    (operated g c (ReadElement (Variable n) (Variable m)) t)) e)) (fine-Let ty) h.0
    (λ n. good_letting ty1 i
    (λ m. one
    (λ t. WriteElement (Variable n) (Variable m)
    (operated g c (ReadElement (Variable n) (Variable m)) t)) e) (fine-Let ty1) h.1
    (λ m. good_one
    (λ t. WriteElement (Variable n) (Variable m)
    (operated g c (ReadElement (Variable n) (Variable m)) t)) e (fine_element g c n m) k))
