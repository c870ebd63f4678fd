-- Of bindings with distinct names the one that has a name is the first one of that name.
use Rattle.std.proofs.Common.{◌≡◌, ℕ, zero, suc, ◌<◌, Bool, true, false, cond, List, [], ◌∷◌, length, get_or, Option, Some, None, IfSome, IfNone, Bor, Contains, nat_eq, refl, arith, ap, ◌∙◌, sym, subst}
use Rattle.std.proofs.lemmas.Bool.{eqb-true}
use Rattle.std.proofs.lemmas.List.{length-map}
use Rattle.std.specs.Option.{option_copied}
use Rattle.fort_base.specs.declared.ids.NameId.{NameId}
use Rattle.fort_scope.specs.declared.binding.Binding.{Binding}
use Rattle.fort_scope.specs.Scopes.{names, IsBound, AreDistinct}
use Rattle.fort_typing_known.specs.Names.{bound}

named_at : (bs : List Binding) (k : ℕ) (b : Binding) (d : ℕ) → k < length bs
    → get_or (names bs) k d ≡ (get_or bs k b).name.0
named_at [] k b d l = absurd (omega arith)
named_at (x ∷ bs) zero b d l = refl
named_at (x ∷ bs) (suc k) b d l = named_at bs k b d (omega arith)

distinct_behind : (x : Binding) (bs : List Binding) → AreDistinct (x ∷ bs) → AreDistinct bs
distinct_behind x bs h = λ i j d l e. h (suc i) (suc j) d (omega arith) (omega arith)

equal_itself : (n : ℕ) → nat_eq n n ≡ true
equal_itself n = grind arith

there : (bs : List Binding) (k : ℕ) (b : Binding) → AreDistinct bs → k < length bs
    → get_or bs k b ≡ b → bound bs b.name ≡ Some b
there [] k b h l e = absurd (omega arith)
there (x ∷ bs) zero b h l e =
    subst (λ (c : Binding). cond (nat_eq x.name.0 c.name.0) (Some x) (bound bs c.name)
    ≡ Some c) e (ap (λ q. cond q (Some x) (bound bs x.name)) (equal_itself x.name.0))
there (x ∷ bs) (suc k) b h l e =
    by (nat_eq x.name.0 b.name.0) refl (there bs k b (distinct_behind x bs h) (omega arith) e)
  where
    by : (q : Bool) → nat_eq x.name.0 b.name.0 ≡ q → bound bs b.name ≡ Some b
        → cond q (Some x) (bound bs b.name) ≡ Some b
    by false t r = r
    by true t r =
        absurd (h zero (suc k) zero (omega arith)
        (omega (arith, l, length-map bs (λ (c : Binding). c.name.0)))
        (eqb-true x.name.0 b.name.0 t
        ∙ sym (named_at bs k b zero (omega arith) ∙ ap (λ (c : Binding). c.name.0) e)))

absent : (bs : List Binding) (name : NameId) → (IsBound bs name → ⊥) → bound bs name ≡ None
absent [] name n = refl
absent (x ∷ bs) name n =
    by (nat_eq x.name.0 name.0) refl (absent bs name (λ c. n (suc c.0, omega (arith, c.1), c.2)))
  where
    by : (q : Bool) → nat_eq x.name.0 name.0 ≡ q → bound bs name ≡ None
        → cond q (Some x) (bound bs name) ≡ None
    by false t r = r
    by true t r = absurd (n (zero, omega arith, eqb-true x.name.0 name.0 t))

-- what `find` says is what `bound` computes
pub finds : (bs : List Binding) (name : NameId) (r : Option (Bor Binding)) → AreDistinct bs
    → IfSome r (λ b. Contains bs b.now) → IfSome r (λ b. b.now.name ≡ name)
    → IfNone r (IsBound bs name → ⊥)
    → option_copied r ≡ bound bs name
finds bs name None h within named none = sym (absent bs name none)
finds bs name (Some b) h within named none =
    sym (ap (bound bs) (sym named) ∙ there bs within.0 b.now h within.1 within.2)
