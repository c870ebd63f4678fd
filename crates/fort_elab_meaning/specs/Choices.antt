-- "Forms" of docs/TRANSLATION.md: `if`, `case`, `typecase`, `try`.
use Rattle.std.specs.Prelude.{ℕ, List, [], ◌∷◌, Option, Some, None, map}
use Rattle.fort_base.specs.declared.ids.NameId.{NameId}
use Rattle.fort_base.specs.declared.ty.Ty.{Ty}
use Rattle.fort_core.specs.declared.term.Term.{Term, Variable, If, Typecase, Try}
use Rattle.fort_form_typed.specs.declared.typed_form.Chosen.{Chosen}
use Rattle.fort_elab_meaning.specs.Making.{Scope, Maker, with_name, after, still, one, three, in_turn, letting}
use Rattle.fort_elab_meaning.specs.Parts.{Given, Part, maker_of}
use Rattle.fort_elab_meaning.specs.Values.{unit_term, no_match}
use Rattle.fort_elab_meaning.specs.Calls.{operated}

-- What stands behind `else`, or another term where nothing does.
abbrev pub or_else : Option Part → Term → Maker
or_else (Some p) t = p.maker
or_else None t = still t

-- Each condition with its block, the next one in the place of the `else`.
abbrev pub branches : List Part → List Part → Maker → Maker
branches (c ∷ cs) (b ∷ bs) other = three If c.maker b.maker (branches cs bs other)
branches _ _ other = other

-- Each clause of a `case` is an `if` on `=` of the subject and what it compares with.
abbrev pub clauses : Given → List Chosen → List Part → List Part → Maker → ℕ → Maker
clauses g (c ∷ cs) (t ∷ ts) (v ∷ vs) other n =
    three If (one (operated g c (Variable n)) t.maker) v.maker (clauses g cs ts vs other n)
clauses g _ _ _ other n = other

-- The subject of a `case` is a local without a name.
abbrev pub cases : Given → Part → List Chosen → List Part → List Part → Option Part → Maker
cases g subject cs ts vs other =
    letting subject.ty subject.maker (clauses g cs ts vs (or_else other (no_match g)))

-- What clauses give, each with its type.
abbrev pub with_types : List Term → List Ty → List (Term × Ty)
with_types (t ∷ ts) (ty ∷ tys) = (t, ty) ∷ with_types ts tys
with_types _ _ = []

-- A `typecase`: its name is one variable in all clauses and in the `else`.
abbrev pub typecase : Given → NameId → Part → List Ty → List Part → Option Part → Maker
typecase g name subject types vs other s c =
    let m = subject.maker s c in let n = m.counter.variable in let inner = with_name name n s in
    let ms = in_turn (map maker_of vs) inner (after 1 m.counter) in
    one (Typecase n m.term (with_types ms.terms types)) (or_else other (no_match g)) inner
    ms.counter

-- The name of a `catch` is in scope of its clauses.
abbrev pub catching : Option NameId → ℕ → Scope → Scope
catching (Some name) n s = with_name name n s
catching None n s = s

-- A `try`, with its clauses, and with a `finally` or without.
abbrev pub trying : Part → Option NameId → List Ty → List Part → Option Part → Maker
trying body name types vs last s c = let m = body.maker s c in let n = m.counter.variable in
    let ms = in_turn (map maker_of vs) (catching name n s) (after 1 m.counter) in
    finished (λ t. Try m.term n (with_types ms.terms types) t) last s ms.counter
  where
    finished : (Option Term → Term) → Option Part → Maker
    finished f None = still (f None)
    finished f (Some p) = one (λ t. f (Some t)) p.maker
