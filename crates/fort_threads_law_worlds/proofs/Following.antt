-- Worlds that follow one another.
use Rattle.std.proofs.Common.{◌≡◌, ℕ, ◌≤◌, true, List, [], ◌∷◌, ◌++◌, Option, Some, None, refl, ap, sym, ◌∙◌, subst, arith, append_assoc, ◌⊎◌, inl, inr}
use Rattle.fort_core.specs.declared.value.Value.{Value}
use Rattle.fort_threads_law_servers.specs.Stages.{End}
use Rattle.fort_threads_law_private.specs.Grounds.{Grows}
use Rattle.fort_threads_law_worlds.specs.Worlds.{Spot, IsAtOrIn, Use, unused, for_all, part_of, of_prelude, Stage, in_flight, given, Object, object, World, is_for_all, given_function, ground_of, IsGiven, HasCome, HasNothing, EndStays, FollowsAt}

-- ---- what a location is for

pub used_not : {u : Use} (v : Use) → u ≡ v → (v ≡ unused → ⊥) → u ≡ unused → ⊥
used_not v e f q = f (sym e ∙ q)

pub for_all_used : for_all ≡ unused → ⊥
for_all_used e = cc

pub part_used : (l place : ℕ) → part_of l place ≡ unused → ⊥
part_used l place e = cc

pub prelude_used : of_prelude ≡ unused → ⊥
prelude_used e = cc

-- whether a use is that of terms of the component
pub data ForAll (u : Use) : Type 0 where
  it_is : u ≡ for_all → ForAll u
  it_isnt : (u ≡ for_all → ⊥) → ForAll u

pub is_it : (u : Use) → ForAll u
is_it unused = it_isnt (λ e. let q : unused ≡ for_all = e in absurd cc)
is_it for_all = it_is refl
is_it (part_of l place) = it_isnt (λ e. let q : part_of l place ≡ for_all = e in absurd cc)
is_it of_prelude = it_isnt (λ e. let q : of_prelude ≡ for_all = e in absurd cc)

-- whether a location is used
pub data Used (u : Use) : Type 0 where
  it_is_not : u ≡ unused → Used u
  it_is_used : (u ≡ unused → ⊥) → Used u

pub is_used : (u : Use) → Used u
is_used unused = it_is_not refl
is_used for_all = it_is_used for_all_used
is_used (part_of l place) = it_is_used (part_used l place)
is_used of_prelude = it_is_used prelude_used

pub same_part : {k l i j : ℕ} → part_of k i ≡ part_of l j → (k ≡ l) × (i ≡ j)
same_part {k} {l} {i} {j} e = let a : k ≡ l = cc in let b : i ≡ j = cc in (a, b)

-- ---- ends

pub ends_stay : (end : Option End) → EndStays end end
ends_stay None = tt
ends_stay (Some end) = refl

pub stays_on : (a b c : Option End) → EndStays a b → EndStays b c → EndStays a c
stays_on None b c h k = tt
stays_on (Some end) b c h k = subst (λ x. EndStays x c) h k

-- ---- worlds

pub follows_self : (spot : Spot) (w : World) → FollowsAt spot w w
follows_self spot w = record {
  uses = λ l h. refl;
  functions = λ l f stage e. (stage, e);
  given = λ l f end e. (end, e, ends_stay end);
  flying = λ l f other e h. e;
  spawned = omega arith;
  lasting = λ l. refl;
}

pub follows_both : {spot : Spot} {w x y : World} → FollowsAt spot w x → FollowsAt spot x y
    → FollowsAt spot w y
follows_both {spot} {w} {x} {y} a b =
    let h : w.spawned ≤ x.spawned = a.spawned in let k : x.spawned ≤ y.spawned = b.spawned in
    record {
      uses = λ l h. let e = a.uses l h in b.uses l (λ q. h (sym e ∙ q)) ∙ e;
      functions = λ l f stage e. let q = a.functions l f stage e in b.functions l f q.0 q.1;
      given = λ l f end e.
          let q = a.given l f end e in let r = b.given l f q.0 q.1 in
          (r.0, r.1, stays_on end q.0 r.0 q.2 r.2);
      flying = λ l f other e h. b.flying l f other (a.flying l f other e h) h;
      spawned = omega arith;
      lasting = λ l. b.lasting l ∙ a.lasting l;
    }

-- a spot in one that is in another one is in that
pub further_in : {a b c : Spot} → IsAtOrIn a b → IsAtOrIn b c → IsAtOrIn a c
further_in {a} h k = (k.0 ++ h.0, k.1 ∙ ap (λ x. k.0 ++ x) h.1 ∙ sym (append_assoc k.0 h.0 a))

pub at_itself : (a : Spot) → IsAtOrIn a a
at_itself a = ([], refl)

pub one_in : (path : List ℕ) (a : Spot) → IsAtOrIn a (path ∷ a)
one_in path a = (path ∷ [], refl)

-- what follows at a spot follows at each spot round it
pub follows_outside : {inner outer : Spot} {w x : World} → FollowsAt inner w x
    → IsAtOrIn outer inner → FollowsAt outer w x
follows_outside a i = record {
  uses = a.uses;
  functions = a.functions;
  given = a.given;
  flying = λ l f other e h. a.flying l f other e (λ j. h (further_in i j));
  spawned = a.spawned;
  lasting = a.lasting;
}

-- ---- grounds

open_use : (u : Use) → is_for_all u ≡ true → u ≡ for_all
open_use unused e = absurd cc
open_use for_all e = refl
open_use (part_of l place) e = absurd cc
open_use of_prelude e = absurd cc

pub open_at : (w : World) (l : ℕ) → is_for_all (w.serves l) ≡ true → w.serves l ≡ for_all
open_at w l e = open_use (w.serves l) e

pub at_open : (w : World) (l : ℕ) → w.serves l ≡ for_all → is_for_all (w.serves l) ≡ true
at_open w l e = ap is_for_all e

-- an object with its function
pub data Standing (o : Option Object) : Type 0 where
  no_object : o ≡ None → Standing o
  in_the_air : (f : Value) (spot : Spot) → o ≡ Some (object f (in_flight spot)) → Standing o
  was_given : (f : Value) (end : Option End) → o ≡ Some (object f (given end)) → Standing o

pub stands : (o : Option Object) → Standing o
stands None = no_object refl
stands (Some o) = by_stage o.function o.stage refl
  where
    by_stage : (f : Value) (s : Stage) → Some (object f s) ≡ Some (object f s)
        → Standing (Some (object f s))
    by_stage f (in_flight spot) e = in_the_air f spot e
    by_stage f (given end) e = was_given f end e

same_object : {o : Option Object} {a b : Object} → o ≡ Some a → o ≡ Some b → a ≡ b
same_object {o} {a} {b} e q = let z : Some a ≡ Some b = sym e ∙ q in let y : a ≡ b = cc in y

-- no object is in flight and given
pub not_both : {o : Option Object} {f g : Value} {spot : Spot} {end : Option End}
    → o ≡ Some (object f (in_flight spot)) → o ≡ Some (object g (given end)) → ⊥
not_both {f = f} {spot = spot} {end = end} e q =
    let z : in_flight spot ≡ given end = ap (λ (x : Object). x.stage) (same_object e q) in
    absurd cc

pub same_given : {o : Option Object} {f g : Value} {end then : Option End}
    → o ≡ Some (object f (given end)) → o ≡ Some (object g (given then))
    → (f ≡ g) × (end ≡ then)
same_given {end = end} {then = then} e q =
    let y = same_object e q in
    let z : given end ≡ given then = ap (λ (x : Object). x.stage) y in
    let c : end ≡ then = cc in (ap (λ (x : Object). x.function) y, c)

pub same_flying : {o : Option Object} {f g : Value} {spot other : Spot}
    → o ≡ Some (object f (in_flight spot)) → o ≡ Some (object g (in_flight other))
    → (f ≡ g) × (spot ≡ other)
same_flying {spot = spot} {other = other} e q =
    let y = same_object e q in
    let z : in_flight spot ≡ in_flight other = ap (λ (x : Object). x.stage) y in
    let c : spot ≡ other = cc in (ap (λ (x : Object). x.function) y, c)

pub function_given : (w : World) (l : ℕ) (f : Value) → given_function (w.object l) ≡ Some f
    → (end : Option End) × (w.object l ≡ Some (object f (given end)))
function_given w l f e = go (stands (w.object l))
  where
    go : Standing (w.object l) → (end : Option End) × (w.object l ≡ Some (object f (given end)))
    go (no_object q) = let z : None ≡ Some f = sym (ap given_function q) ∙ e in absurd cc
    go (in_the_air g spot q) = let z : None ≡ Some f = sym (ap given_function q) ∙ e in absurd cc
    go (was_given g end q) =
        let z : Some g ≡ Some f = sym (ap given_function q) ∙ e in let y : g ≡ f = cc in
        (end, q ∙ ap (λ x. Some (object x (given end))) y)

pub grounds_grow : {spot : Spot} {w x : World} → FollowsAt spot w x
    → Grows (ground_of w) (ground_of x)
grounds_grow {w = w} {x = x} a = record {
  stay_open = λ l o.
      let e = open_at w l o in at_open x l (a.uses l (used_not for_all e for_all_used) ∙ e);
  stay = λ l f e.
      let q = function_given w l f e in let r = a.given l f q.0 q.1 in ap given_function r.1;
}

-- what is open later was open, or wasn't used
pub open_before : {spot : Spot} {w x : World} → FollowsAt spot w x → (l : ℕ)
    → x.serves l ≡ for_all → (w.serves l ≡ for_all) ⊎ (w.serves l ≡ unused)
open_before {w = w} a l e = go (is_used (w.serves l))
  where
    go : Used (w.serves l) → (w.serves l ≡ for_all) ⊎ (w.serves l ≡ unused)
    go (it_is_not q) = inr q
    go (it_is_used h) = inl (sym (a.uses l h) ∙ e)

-- what isn't used later wasn't used
pub unused_before : {spot : Spot} {w x : World} → FollowsAt spot w x → (l : ℕ)
    → x.serves l ≡ unused → w.serves l ≡ unused
unused_before {w = w} a l e = go (is_used (w.serves l))
  where
    go : Used (w.serves l) → w.serves l ≡ unused
    go (it_is_not q) = q
    go (it_is_used h) = absurd (h (sym (a.uses l h) ∙ e))

-- what was open is so later
pub open_later : {spot : Spot} {w x : World} → FollowsAt spot w x → (l : ℕ)
    → w.serves l ≡ for_all → x.serves l ≡ for_all
open_later a l e = a.uses l (used_not for_all e for_all_used) ∙ e

-- what was given is given later; of what isn't given later the machine with threads had nothing
pub given_later : {spot : Spot} {w x : World} → FollowsAt spot w x → (l : ℕ) → IsGiven w l
    → IsGiven x l
given_later a l g = let q = a.given l g.0 g.1 g.2 in (g.0, q.0, q.1)

pub nothing_before : {spot : Spot} {w x : World} → FollowsAt spot w x → (l : ℕ)
    → HasNothing x l → HasNothing w l
nothing_before a l (inl e) = inl (unused_before a l e)
nothing_before {w = w} a l (inr h) = go (is_used (w.serves l))
  where
    go : Used (w.serves l) → HasNothing w l
    go (it_is_not q) = inl q
    go (it_is_used u) = inr (h.0, h.1, sym (a.uses l u) ∙ h.2, λ g. h.3 (given_later a h.0 g))

pub come_later : {spot : Spot} {w x : World} → FollowsAt spot w x → (l : ℕ) (end : End)
    → HasCome w l end → HasCome x l end
come_later {x = x} a l end h =
    let q = a.given l h.0 (Some end) h.1 in
    (h.0, subst (λ y. x.object l ≡ Some (object h.0 (given y))) q.2 q.1)
