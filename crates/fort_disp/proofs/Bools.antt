-- What follows from the truth of a conjunction, and from what is asked of a declaration.
use Rattle.std.proofs.Common.{◌≡◌, Bool, true, false, ◌&&◌, Option, Some, None, refl, ap, ◌∙◌}
use Rattle.fort_core.specs.declared.program.CoreDecl.{CoreDecl}
use Rattle.fort_disp.specs.Fits.{asked}

pub left_true : (b c : Bool) → (b && c) ≡ true → b ≡ true
left_true true c e = refl
left_true false c e = e

pub right_true : (b c : Bool) → (b && c) ≡ true → c ≡ true
right_true true c e = e
right_true false c e = absurd cc

pub both_true : (b c : Bool) → b ≡ true → c ≡ true → (b && c) ≡ true
both_true b c p q = ap (λ x. x && c) p ∙ q

pub left_false : (b c : Bool) → b ≡ false → (b && c) ≡ false
left_false b c p = ap (λ x. x && c) p

-- false is what isn't true
pub untrue : (b : Bool) → (b ≡ true → ⊥) → b ≡ false
untrue true f = absurd (f refl)
untrue false f = refl

pub clash : (b : Bool) → b ≡ true → b ≡ false → ⊥
clash true e f = cc
clash false e f = cc

-- what holds of a declaration holds of one that is there
pub asked_is : (o : Option CoreDecl) (f : CoreDecl → Bool) → asked o f ≡ true
    → (decl : CoreDecl) × (o ≡ Some decl) × (f decl ≡ true)
asked_is None f e = absurd cc
asked_is (Some decl) f e = (decl, refl, e)

pub asked_there : (o : Option CoreDecl) (f : CoreDecl → Bool) (decl : CoreDecl) → o ≡ Some decl
    → asked o f ≡ f decl
asked_there o f decl e = ap (λ (x : Option CoreDecl). asked x f) e

-- where one thing fails at each declaration, so does what is asked
pub asked_fails : (o : Option CoreDecl) (f g : CoreDecl → Bool)
    → ((decl : CoreDecl) → f decl ≡ false → g decl ≡ false) → asked o f ≡ false → asked o g ≡ false
asked_fails None f g h e = refl
asked_fails (Some decl) f g h e = h decl e

pub asked_same : (o : Option CoreDecl) (f g : CoreDecl → Bool)
    → ((decl : CoreDecl) → f decl ≡ g decl) → asked o f ≡ asked o g
asked_same None f g h = refl
asked_same (Some decl) f g h = h decl

pub one_some : {A : Type 0} (x y : A) → Some x ≡ Some y → x ≡ y
one_some x y e = cc
