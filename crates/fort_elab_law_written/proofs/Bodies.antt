-- The terms of bodies: each is fine, and those at two places have other functions.
use Rattle.std.proofs.Common.{◌≡◌, ℕ, Bool, true, false, ◌||◌, ◌&&◌, cond, List, [], ◌∷◌, ◌++◌, length, Some, arith, refl, sym, ap, ◌∙◌, subst}
use Rattle.std.specs.Prelude.{nat_eq}
use Rattle.std.specs.List.{list_any}
use Rattle.std.proofs.lemmas.Bool.{eqb-true}
use Rattle.fort_base.specs.declared.refusal.Place.{Place}
use Rattle.fort_base.specs.declared.ty.Ty.{Ty}
use Rattle.fort_core.specs.declared.term.Term.{Term}
use Rattle.fort_machine.specs.Scopes.{is_among}
use Rattle.fort_machine.specs.Written.{AreApart, StandOnce, Written, all_binders, functions_in}
use Rattle.fort_form_typed.specs.declared.component.TypedBody.{TypedBody}
use Rattle.fort_elab_meaning.specs.Parts.{Given}
use Rattle.fort_elab_meaning.specs.Bodies.{scope_of, width, body_made, bodies, body_at, same_place}
use Rattle.fort_elab_law_written.specs.Matching.{CountsAll}
use Rattle.fort_elab_law_written.proofs.Numbers.{Between, no_number, number, widened, apart, above, in_neither}
use Rattle.fort_elab_law_written.proofs.Makers.{GoodMade}
use Rattle.fort_elab_law_written.proofs.Translated.{good_form}

-- ---- lists that stand apart

pub apart_behind : {lo mid hi : ℕ} (ns ms : List ℕ) → Between mid hi ns → Between lo mid ms
    → AreApart ns ms
apart_behind [] ms no_number k = refl
apart_behind (n ∷ ns) ms (number l u h) k =
    ap (λ b. b || list_any (λ n. is_among n ms) ns) (above ms k l) ∙ apart_behind ns ms h k

pub or_first : (b c : Bool) → (b || c) ≡ false → b ≡ false
or_first false c e = refl
or_first true c e = e

pub or_second : (b c : Bool) → (b || c) ≡ false → c ≡ false
or_second false c e = e
or_second true c e = absurd cc

pub once_apart : (ns ms : List ℕ) → AreApart ns ms → StandOnce ns → StandOnce ms
    → StandOnce (ns ++ ms)
once_apart [] ms h a b = b
once_apart (n ∷ ns) ms h a b =
    let r = list_any (λ n. is_among n ms) ns
    in (
      in_neither n ns ms a.0 (or_first (is_among n ms) r h),
      once_apart ns ms (or_second (is_among n ms) r h) a.1 b,
    )

pub apart_both : (ns ms ks : List ℕ) → AreApart ns ms → AreApart ns ks → AreApart ns (ms ++ ks)
apart_both [] ms ks h k = refl
apart_both (n ∷ ns) ms ks h k =
    let r = list_any (λ n. is_among n ms) ns in let q = list_any (λ n. is_among n ks) ns in
    ap (λ b. b
    || list_any (λ n. is_among n (ms ++ ks)) ns)
    (in_neither n ms ks (or_first (is_among n ms) r h) (or_first (is_among n ks) q k))
    ∙ apart_both ns ms ks (or_second (is_among n ms) r h) (or_second (is_among n ks) q k)

pub apart_none : (ns : List ℕ) → AreApart ns []
apart_none [] = refl
apart_none (n ∷ ns) = apart_none ns

-- ---- bodies

good_body : (g : Given) (next : ℕ) (b : TypedBody)
    → GoodMade (record { variable = width b; function = next }) (body_made g next b)
good_body g next b =
    let h = good_form g b.body
    in h.maker (scope_of b) (record { variable = width b; function = next })

-- What is found at a place.
pub record Body (next k : ℕ) (t : Term) : Type 0 where
  pub is_written : Written t
  pub end : ℕ
  pub past : ℕ
  pub binders : Between k end (all_binders t)
  pub functions : Between next past (functions_in t)
  pub once : StandOnce (functions_in t)

some_is : {t u : Term} → Some t ≡ Some u → t ≡ u
some_is e = cc

-- the rest of bodies, behind the first one
abbrev rest_from : Given → ℕ → TypedBody → List TypedBody → List (Place × Term)
rest_from g next b bs = let m = body_made g next b in bodies g m.counter.function bs

abbrev behind_of : Given → ℕ → TypedBody → ℕ
behind_of g next b = let m = body_made g next b in m.counter.function

abbrev term_of_body : Given → ℕ → TypedBody → Term
term_of_body g next b = let m = body_made g next b in m.term

here : (g : Given) (next : ℕ) (b : TypedBody) (bs : List TypedBody) (x : Place) (t : Term)
    → same_place b.place x ≡ true → body_at (bodies g next (b ∷ bs)) x ≡ Some t
    → term_of_body g next b ≡ t
here g next b bs x t s e =
    some_is (sym
    (ap (λ c. cond c (Some (term_of_body g next b)) (body_at (rest_from g next b bs) x)) s) ∙ e)

there : (g : Given) (next : ℕ) (b : TypedBody) (bs : List TypedBody) (x : Place) (t : Term)
    → same_place b.place x ≡ false → body_at (bodies g next (b ∷ bs)) x ≡ Some t
    → body_at (rest_from g next b bs) x ≡ Some t
there g next b bs x t s e =
    sym (ap (λ c. cond c (Some (term_of_body g next b)) (body_at (rest_from g next b bs) x)) s) ∙ e

found_by : (g : Given) (next k : ℕ) (b : TypedBody) (bs : List TypedBody) (x : Place)
    (tys : List Ty) (t : Term) → k ≡ length tys → CountsAll (b ∷ bs) x tys
    → body_at (bodies g next (b ∷ bs)) x ≡ Some t
    → (body_at (rest_from g next b bs) x ≡ Some t → Body (behind_of g next b) k t) → (c : Bool)
    → same_place b.place x ≡ c → Body next k t
found_by g next k b bs x tys t q h e r true s =
    let m = body_made g next b in let f = good_body g next b in let i = f.fine in let w = h.0 s
    in subst (Body next k) (here g next b bs x t s e) (record {
      is_written = i.is_written;
      end = m.counter.variable;
      past = m.counter.function;
      binders = widened (omega arith) (omega arith) i.binders;
      functions = i.functions;
      once = i.once;
    })
found_by g next k b bs x tys t q h e r false s =
    let f = good_body g next b in let l = f.functions in let z = r (there g next b bs x t s e)
    in record {
      is_written = z.is_written;
      end = z.end;
      past = z.past;
      binders = z.binders;
      functions = widened l (omega arith) z.functions;
      once = z.once;
    }

pub found : (g : Given) (next k : ℕ) (bs : List TypedBody) (x : Place) (tys : List Ty) (t : Term)
    → k ≡ length tys → CountsAll bs x tys → body_at (bodies g next bs) x ≡ Some t → Body next k t
found g next k [] x tys t q h e = absurd cc
found g next k (b ∷ bs) x tys t q h e =
    found_by g next k b bs x tys t q h e (λ i. found g (behind_of g next b) k bs x tys t q h.1 i)
    (same_place b.place x) refl

-- ---- two places

and_first : (b c : Bool) → (b && c) ≡ true → b ≡ true
and_first true c e = refl
and_first false c e = e

and_second : (b c : Bool) → (b && c) ≡ true → c ≡ true
and_second true c e = e
and_second false c e = absurd cc

equal : (n m : ℕ) → nat_eq n m ≡ true → n ≡ m
equal n m e = eqb-true n m e

-- two places that are a third one are one
pub one_place : (a x y : Place) → same_place a x ≡ true → same_place a y ≡ true
    → same_place x y ≡ true
one_place a x y h k =
    let l = equal a.line x.line (and_first (nat_eq a.line x.line) (nat_eq a.column x.column) h)
    in let c =
    equal a.column x.column (and_second (nat_eq a.line x.line) (nat_eq a.column x.column) h) in
    ap (λ n. nat_eq n y.line && nat_eq x.column y.column) (sym l)
    ∙ ap (λ n. nat_eq a.line y.line && nat_eq n y.column) (sym c) ∙ k

some_body : (g : Given) (next : ℕ) (bs : List TypedBody) (y : Place) (u : Term)
    → body_at (bodies g next bs) y ≡ Some u → Body next 0 u
some_body g next bs y u e = found g next 0 bs y [] u refl (counted bs) e
  where
    counted : (bs : List TypedBody) → CountsAll bs y []
    counted [] = tt
    counted (b ∷ bs) = ((λ s. omega arith), counted bs)

apart_by : (g : Given) (next : ℕ) (b : TypedBody) (bs : List TypedBody) (x y : Place) (t u : Term)
    → same_place x y ≡ false → body_at (bodies g next (b ∷ bs)) x ≡ Some t
    → body_at (bodies g next (b ∷ bs)) y ≡ Some u
    → (body_at (rest_from g next b bs) x ≡ Some t → body_at (rest_from g next b bs) y ≡ Some u
    → AreApart (functions_in t) (functions_in u))
    → (c d : Bool) → same_place b.place x ≡ c → same_place b.place y ≡ d
    → AreApart (functions_in t) (functions_in u)
apart_by g next b bs x y t u n e k r true true s z =
    let w : true ≡ false = sym (one_place b.place x y s z) ∙ n in absurd cc
apart_by g next b bs x y t u n e k r true false s z =
    let f = good_body g next b in let i = f.fine
    in let j = some_body g (behind_of g next b) bs y u (there g next b bs y u z k) in
    subst (λ v. AreApart (functions_in v) (functions_in u)) (here g next b bs x t s e)
    (apart (functions_in (term_of_body g next b)) (functions_in u) i.functions j.functions)
apart_by g next b bs x y t u n e k r false true s z =
    let f = good_body g next b in let i = f.fine
    in let j = some_body g (behind_of g next b) bs x t (there g next b bs x t s e) in
    subst (λ v. AreApart (functions_in t) (functions_in v)) (here g next b bs y u z k)
    (apart_behind (functions_in t) (functions_in (term_of_body g next b)) j.functions
    i.functions)
apart_by g next b bs x y t u n e k r false false s z =
    r (there g next b bs x t s e) (there g next b bs y u z k)

pub bodies_apart : (g : Given) (next : ℕ) (bs : List TypedBody) (x y : Place) (t u : Term)
    → same_place x y ≡ false → body_at (bodies g next bs) x ≡ Some t
    → body_at (bodies g next bs) y ≡ Some u → AreApart (functions_in t) (functions_in u)
bodies_apart g next [] x y t u n e k = absurd cc
bodies_apart g next (b ∷ bs) x y t u n e k =
    apart_by g next b bs x y t u n e k (λ i j. bodies_apart g (behind_of g next b) bs x y t u n i j)
    (same_place b.place x) (same_place b.place y) refl refl
