-- What the code says that a form does is what it does.
use Rattle.std.proofs.Common.{◌≡◌, ℕ, Bool, List, Option, Some, None, refl, ap, sym, ◌∙◌, subst, ◌⊎◌, inl, inr}
use Rattle.std.specs.Prelude.{slice_get}
use Rattle.fort_base.specs.declared.ids.DeclId.{DeclId}
use Rattle.fort_base.specs.declared.ids.SetId.{SetId}
use Rattle.fort_base.specs.declared.ids.TypeId.{TypeId}
use Rattle.fort_core.specs.declared.program.CoreBody.{CoreBody}
use Rattle.fort_core.specs.declared.program.CoreBody.TheVariants as body
use Rattle.fort_core.specs.declared.program.CoreDecl.{CoreDecl}
use Rattle.fort_core.specs.declared.program.CoreShape.{CoreShape}
use Rattle.fort_core.specs.declared.program.Program.{Program}
use Rattle.fort_core.specs.declared.term.Term.{Term}
use Rattle.fort_core.specs.declared.value.Value.{Value}
use Rattle.fort_machine.specs.Primitives.{Answer, answer_of, gives, makes_text, throws, prints, ends, nothing}
use Rattle.fort_machine.specs.Acts.{Act, stuck, calls, throwing, throws_object, single}
use Rattle.fort_machine.specs.Acts as acts
use Rattle.fort_machine.specs.Calls.{Dispatches, by_body, by_answer, constructing}
use Rattle.fort_machine.specs.Effects.{Effect}
use Rattle.fort_machine.specs.Forms.{act}
use Rattle.fort_machine.specs.Steps.{Acts, by_itself, by_call, Does, Local, steps}
use Rattle.fort_step_deal.specs.Deals.{act_of}
use Rattle.fort_step_deal.specs.declared.deal.Deal.{Deal}
use Rattle.fort_step_deal.specs.declared.deal.Deal.TheVariants as deal
use Rattle.fort_step_calls.specs.Called.{IsCalled}
use Rattle.fort_step_acting.specs.Only.{OnlyDoes, IsDealt}

-- what a form does by itself, and is no call
only_itself : (p : Program) (a : Term) (x : Act) → act p a ≡ x
    → ((set : SetId) (vs : List Value) → x ≡ calls set vs → ⊥) → OnlyDoes p a x
only_itself p a x e n y (by_itself q) = inl (sym q ∙ e)
only_itself p a x e n y (by_call q h k) = absurd (n _ _ (sym e ∙ q))

-- a set that runs nothing
only_uncalled : (p : Program) (a : Term) (set : SetId) (vs : List Value) → act p a ≡ calls set vs
    → ((d : DeclId) (decl : CoreDecl) → Dispatches p set vs d decl → ⊥) → OnlyDoes p a stuck
only_uncalled p a set vs e none y (by_itself q) = inr (set, vs, sym q ∙ e)
only_uncalled p a set vs e none y
    (by_call {set = set'} {values = vs'} {d = d} {decl = decl} q h k) =
    let z : calls set' vs' ≡ calls set vs = sym q ∙ e in
    let e1 : set' ≡ set = cc in
    let e2 : vs' ≡ vs = cc in
    absurd (none d decl
    (subst (λ s. Dispatches p s vs d decl) e1
    (subst (λ xs. Dispatches p set' xs d decl) e2 h)))

one_decl : (p : Program) (set : SetId) (vs : List Value) (d d' : DeclId) (decl decl' : CoreDecl)
    → Dispatches p set vs d decl → Dispatches p set vs d' decl' → decl' ≡ decl
one_decl p set vs d d' decl decl' h k =
    let same : d' ≡ d = h.no_other d' decl' k.most_specific in
    let z : Some decl' ≡ Some decl =
    sym k.most_specific.applicable.is_decl ∙ ap (λ
    (i : DeclId). slice_get p.decls i.0) same ∙ h.most_specific.applicable.is_decl in cc

-- one that runs a declaration
only_called : (p : Program) (a : Term) (set : SetId) (vs : List Value) (d : DeclId)
    (decl : CoreDecl) (x : Act) → act p a ≡ calls set vs → Dispatches p set vs d decl
    → by_body p decl.body vs ≡ x → OnlyDoes p a x
only_called p a set vs d decl x e h k y (by_itself q) = inr (set, vs, sym q ∙ e)
only_called p a set vs d decl x e h k y
    (by_call {set = set'} {values = vs'} {d = d'} {decl = decl'} q h' k') =
    let z : calls set' vs' ≡ calls set vs = sym q ∙ e in
    let e1 : set' ≡ set = cc in
    let e2 : vs' ≡ vs = cc in
    let there : Dispatches p set vs d' decl' =
    subst (λ s. Dispatches p s vs d' decl') e1
    (subst (λ xs. Dispatches p set' xs d' decl') e2 h') in
    let same : decl' ≡ decl = one_decl p set vs d d' decl decl' h there in
    inl (sym k' ∙ ap (λ
    (c : CoreDecl). by_body p c.body vs') same ∙ ap (by_body p decl.body) e2 ∙ k)

-- no declaration calls
throws_no_call : (o : Option Value) (set : SetId) (ws : List Value) → throws_object o ≡ calls set ws
    → ⊥
throws_no_call None set ws e = cc
throws_no_call (Some v) set ws e = cc

answer_no_call : (p : Program) (a : Answer) (set : SetId) (ws : List Value)
    → by_answer p a ≡ calls set ws → ⊥
answer_no_call p (gives v) set ws e = cc
answer_no_call p (makes_text s) set ws e = cc
answer_no_call p (throws id) set ws e = throws_no_call (single p id) set ws e
answer_no_call p (prints s) set ws e = cc
answer_no_call p ends set ws e = cc
answer_no_call p nothing set ws e = cc

new_no_call : (id : TypeId) (vs : List Value) (s : Option CoreShape) (set : SetId) (ws : List Value)
    → constructing id vs s ≡ calls set ws → ⊥
new_no_call id vs None set ws e = cc
new_no_call id vs (Some s) set ws e = cc

body_no_call : (p : Program) (b : CoreBody) (vs : List Value) (set : SetId) (ws : List Value)
    → by_body p b vs ≡ calls set ws → ⊥
body_no_call p (body.Plain t) vs set ws e = cc
body_no_call p (body.Primitive f) vs set ws e = answer_no_call p (answer_of p f vs) set ws e
body_no_call p body.Abstract vs set ws e = cc
body_no_call p (body.New id) vs set ws e = new_no_call id vs (slice_get p.shapes id.0) set ws e

-- what the code answers
dealt_by : (p : Program) (a : Term) (d : Deal)
    → ((set : SetId) (vs : List Value) → act_of d ≡ calls set vs → ⊥) → Acts p a (act_of d)
    → OnlyDoes p a (act_of d) → IsDealt p a d
dealt_by p a deal.Stuck n h o = o
dealt_by p a (deal.Turns t output cost) n h o = (h, o)
dealt_by p a (deal.Enters b t) n h o = (h, o)
dealt_by p a (deal.Asks l g) n h o = (h, o)
dealt_by p a (deal.Sets l v) n h o = (h, o)
dealt_by p a (deal.Makes m) n h o = (h, o)
dealt_by p a (deal.Calls set vs) n h o = n set vs refl
dealt_by p a deal.Ends n h o = (h, o)

pub dealt_itself : (p : Program) (a : Term) (d : Deal) → act_of d ≡ act p a
    → ((set : SetId) (vs : List Value) → act_of d ≡ calls set vs → ⊥) → IsDealt p a d
dealt_itself p a d e n = dealt_by p a d n (by_itself (sym e)) (only_itself p a (act_of d) (sym e) n)

-- a deal that is no call is no act of one
no_calls : (d : Deal) → ((set : SetId) (vs : List Value) → d ≡ deal.Calls set vs → ⊥)
    → (set : SetId) (vs : List Value) → act_of d ≡ calls set vs → ⊥
no_calls deal.Stuck n set vs e = cc
no_calls (deal.Turns t output cost) n set vs e = cc
no_calls (deal.Enters b t) n set vs e = cc
no_calls (deal.Asks l g) n set vs e = cc
no_calls (deal.Sets l v) n set vs e = cc
no_calls (deal.Makes m) n set vs e = cc
no_calls (deal.Calls s us) n set vs e = n s us refl
no_calls deal.Ends n set vs e = cc

pub dealt_other : (p : Program) (a : Term) (d : Deal) → act_of d ≡ act p a
    → ((set : SetId) (vs : List Value) → d ≡ deal.Calls set vs → ⊥) → IsDealt p a d
dealt_other p a d e n = dealt_itself p a d e (no_calls d n)

pub dealt_uncalled : (p : Program) (a : Term) (set : SetId) (vs : List Value)
    → calls set vs ≡ act p a → IsCalled p set vs None → IsDealt p a deal.Stuck
dealt_uncalled p a set vs e none = only_uncalled p a set vs (sym e) none

pub dealt_called : (p : Program) (a : Term) (set : SetId) (vs : List Value) (d : Deal)
    → calls set vs ≡ act p a → IsCalled p set vs (Some d) → IsDealt p a d
dealt_called p a set vs d e h =
    dealt_by p a d (λ other ws z. body_no_call p h.1.body vs other ws (h.3 ∙ z))
    (by_call (sym e) h.2 h.3) (only_called p a set vs h.0 h.1 (act_of d) (sym e) h.2 h.3)

-- ---- what a form that does one thing can't do

pub does_this : (p : Program) (inner : Bool) (loc : ℕ) (a b : Term) (x : Act) (d : Effect)
    → OnlyDoes p a x → Local p inner loc a b d → Does p inner loc x b d
does_this p inner loc a b x d o (steps y h k) = go (o y h)
  where
    go : (y ≡ x) ⊎ ((set : SetId) × (vs : List Value) × (y ≡ calls set vs)) → Does p inner loc x b d
    go (inl e) = subst (λ z. Does p inner loc z b d) e k
    go (inr c) = absurd (subst (λ z. Does p inner loc z b d) c.2 k)

pub ends_only : (p : Program) (a : Term) (x : Act) → OnlyDoes p a x → Acts p a acts.ends
    → acts.ends ≡ x
ends_only p a x o h = go (o acts.ends h)
  where
    go : (acts.ends ≡ x) ⊎ ((set : SetId) × (vs : List Value) × (acts.ends ≡ calls set vs))
        → acts.ends ≡ x
    go (inl e) = e
    go (inr c) = let z : acts.ends ≡ calls c.0 c.1 = c.2 in absurd cc
