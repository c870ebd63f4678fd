-- Bindings and variables: what is bound next has the next number.
use Rattle.std.proofs.Common.{◌≡◌, ◌≤◌, ◌<◌, ℕ, suc, ◌+◌, ◌==◌, Bool, true, false, ◌||◌, cond, List, [], ◌∷◌, ◌++◌, length, map, Option, Some, None, refl, sym, ap, ◌∙◌, subst, arith}
use Rattle.std.specs.Prelude.{nat_eq}
use Rattle.std.specs.List.{AllByRecursion}
use Rattle.std.proofs.lemmas.Bool.{ne_eqb, eqb-true}
use Rattle.fort_base.specs.declared.ids.NameId.{NameId}
use Rattle.fort_base.specs.declared.refusal.Place.{Place}
use Rattle.fort_base.specs.declared.ty.Ty.{Ty}
use Rattle.fort_scope.specs.declared.binding.Binding.{Binding}
use Rattle.fort_typing_known.specs.Known.{Knows}
use Rattle.fort_typing_known.specs.Names.{bound, is_some_binding, is_some_field, own_field, variable, is_type, shows, is_visible}
use Rattle.fort_typing_known.specs.Sets.{spelled, any_set}
use Rattle.fort_sound_typed.specs.Envs.{Sort, fixed, Env, none, bind, binds, Distinct, Fresh, fixed_all}
use Rattle.fort_sound_typed.proofs.Bind.{bind_at, bind_other}
use Rattle.fort_sound_typed.proofs.Held.{binds_swap}
use Rattle.fort_typing_rules.specs.Typing as rule
use Rattle.fort_elab_meaning.specs.Making.{Scope, number_of, with_name}
use Rattle.fort_elab_meaning.specs.Items.{typed_variables, with_names}
use Rattle.fort_elab_meaning.specs.Choices.{catching}
use Rattle.fort_sound_forms.specs.Forms.{sort, Agrees}

-- ---- the binding of a name

abbrev pub either : Option Binding → Option Binding → Option Binding
either (Some b) o = Some b
either None o = o

-- the last one is found where no other one is
pub bound_behind : (bs : List Binding) (b : Binding) (name : NameId)
    → bound (bs ++ b ∷ []) name
    ≡ either (bound bs name) (cond (nat_eq b.name.0 name.0) (Some b) None)
bound_behind [] b name = refl
bound_behind (x ∷ bs) b name = go (bound_behind bs b name) (nat_eq x.name.0 name.0)
  where
    go : bound (bs ++ b ∷ []) name
        ≡ either (bound bs name) (cond (nat_eq b.name.0 name.0) (Some b) None) → (c : Bool)
        → cond c (Some x) (bound (bs ++ b ∷ []) name)
        ≡ either (cond c (Some x) (bound bs name)) (cond (nat_eq b.name.0 name.0) (Some b) None)
    go h true = refl
    go h false = h

pub either_none : (o : Option Binding) → either o None ≡ o
either_none (Some b) = refl
either_none None = refl

pub same_name : (a b : NameId) → a.0 ≡ b.0 → a ≡ b
same_name a b e = ap (λ (n : ℕ). let r : NameId = record { 0 = n } in r) e

-- a name that isn't visible isn't bound
pub not_bound : (k : Knows) (bs : List Binding) (name : NameId) → is_visible k.facts bs name ≡ false
    → bound bs name ≡ None
unfolding is_visible
not_bound k bs name e = go (bound bs name) refl
  where
    go : (o : Option Binding) → bound bs name ≡ o → bound bs name ≡ None
    go None q = q
    go (Some b) q =
        let z : true ≡ false =
        sym (ap (λ o. is_some_binding o || is_some_field (own_field k.facts name)
        || is_some_field (variable k.facts name)
        || is_type k.facts.types (spelled k.facts name)
        || any_set (shows (spelled k.facts name)) k.facts.members.sets) q) ∙ e in absurd cc

module _ (k : Knows) where
  -- ---- numbers further on

  pub later : {bs : List Binding} {s : Scope} {n : ℕ} {G : Env} (m : ℕ) → Agrees k bs s n G → n ≤ m
      → Agrees k bs s m G
  later {bs} {s} {n} {G} m a l =
      record {
        names = a.names;
        receiver = a.receiver;
        low = λ z B e. let h = a.low z B e
            in omega arith;
      }

  -- a number that isn't taken isn't that of a variable
  not_low : {bs : List Binding} {s : Scope} {n : ℕ} {G : Env} (m z : ℕ) (B : Sort)
      → Agrees k bs s n G → n ≤ m → G z ≡ Some B → (m == z) ≡ false
  not_low m z B a l e = let h = a.low z B e in ne_eqb m z (λ q. omega arith)

  pub fresh_next : {bs : List Binding} {s : Scope} {n : ℕ} {G : Env} (m : ℕ) (A : Sort)
      → Agrees k bs s n G → n ≤ m → Fresh ((m, A) ∷ []) G
  fresh_next {G = G} m A a l z B e = bind_other m A none z (not_low m z B a l e)

  -- what was there is there still
  pub kept : {bs : List Binding} {s : Scope} {n : ℕ} {G : Env} (m z : ℕ) (A B : Sort)
      → Agrees k bs s n G → n ≤ m → G z ≡ Some B → bind m A G z ≡ Some B
  kept {G = G} m z A B a l e = bind_other m A G z (not_low m z B a l e) ∙ e

  low_next : {bs : List Binding} {s : Scope} {n : ℕ} {G : Env} (m : ℕ) (A : Sort)
      → Agrees k bs s n G → n ≤ m → (z : ℕ) (B : Sort) → bind m A G z ≡ Some B → z < m + 1
  low_next {G = G} m A a l z B e = go (m == z) refl
    where
      go : (c : Bool) → (m == z) ≡ c → z < m + 1
      go true q = let h = eqb-true m z q in omega arith
      go false q = let h = a.low z B (sym (bind_other m A G z q) ∙ e) in omega arith

  -- a variable without a name
  pub unnamed_next : {bs : List Binding} {s : Scope} {n : ℕ} {G : Env} (m : ℕ) (A : Sort)
      → Agrees k bs s n G → n ≤ m → Agrees k bs s (m + 1) (bind m A G)
  unnamed_next {bs} {s} {n} {G} m A a l = record {
    names = λ name b e. kept m (number_of s.names name) A (sort b.mutable b.ty) a l
        (a.names name b e);
    receiver = λ o e. kept m s.receiver A _ a l (a.receiver o e);
    low = low_next m A a l;
  }

  -- a variable with a name
  pub named_next : {bs : List Binding} {s : Scope} {n : ℕ} {G : Env} (m : ℕ) (b : Binding)
      → Agrees k bs s n G → n ≤ m → bound bs b.name ≡ None
      → Agrees k (bs ++ b ∷ []) (with_name b.name m s) (m + 1) (bind m (sort b.mutable b.ty) G)
  named_next {bs} {s} {n} {G} m b a l free = record {
    names = λ name c e. go name c e (nat_eq b.name.0 name.0) refl;
    receiver = λ o e. kept m s.receiver (sort b.mutable b.ty) _ a l (a.receiver o e);
    low = low_next m (sort b.mutable b.ty) a l;
  }
    where
      go : (name : NameId) (c : Binding) → bound (bs ++ b ∷ []) name ≡ Some c → (x : Bool)
          → nat_eq b.name.0 name.0 ≡ x
          → bind m (sort b.mutable b.ty) G
          (cond (nat_eq b.name.0 name.0) m (number_of s.names name)) ≡ Some (sort c.mutable c.ty)
      go name c e true q =
          let i : bound bs name ≡ None =
          ap (bound bs) (sym (same_name b.name name (eqb-true b.name.0 name.0 q))) ∙ free in
          let f : Some b ≡ Some c =
          sym (bound_behind bs b name
          ∙ ap (λ o. either o (cond (nat_eq b.name.0 name.0) (Some b) None)) i
          ∙ ap (λ x. cond x (Some b) None) q) ∙ e in
          let r : b ≡ c = cc in
          ap (λ x. bind m (sort b.mutable b.ty) G (cond x m (number_of s.names name))) q
          ∙ bind_at m (sort b.mutable b.ty) G m refl ∙ ap (λ
          (x : Binding). Some (sort x.mutable x.ty)) r
      go name c e false q =
          let f : bound bs name ≡ Some c =
          sym (bound_behind bs b name
          ∙ ap (λ x. either (bound bs name) (cond x (Some b) None)) q
          ∙ either_none (bound bs name)) ∙ e in
          ap (λ x. bind m (sort b.mutable b.ty) G (cond x m (number_of s.names name))) q
          ∙ kept m (number_of s.names name) (sort b.mutable b.ty) (sort c.mutable c.ty) a l
          (a.names name c f)

-- ---- several variables

-- variables from a number on aren't one before
pub before_all : (xs : List (NameId × Ty)) (n m : ℕ) → n < m
    → binds (fixed_all (typed_variables m xs)) none n ≡ None
before_all [] n m l = refl
before_all (x ∷ xs) n m l =
    bind_other m (fixed x.1) (binds (fixed_all (typed_variables (m + 1) xs)) none) n
    (ne_eqb m n (λ q. omega arith)) ∙ before_all xs n (m + 1) (omega arith)

pub all_distinct : (xs : List (NameId × Ty)) (m : ℕ) → Distinct (fixed_all (typed_variables m xs))
all_distinct [] m = tt
all_distinct (x ∷ xs) m = (before_all xs m (m + 1) (omega arith), all_distinct xs (m + 1))

abbrev pub AllFixed : List Binding → Type 0
AllFixed bs = AllByRecursion (λ (b : Binding). b.mutable ≡ false) bs

module _ (k : Knows) where
  pub all_fresh : {bs : List Binding} {s : Scope} {n : ℕ} {G : Env} (m : ℕ)
      (xs : List (NameId × Ty)) → Agrees k bs s n G → n ≤ m
      → Fresh (fixed_all (typed_variables m xs)) G
  all_fresh m xs a l z B e = let h = a.low z B e in before_all xs z m (omega arith)

  pub names_next : {bs new all : List Binding} {s : Scope} {n : ℕ} {G : Env} (m : ℕ)
      → rule.Binds k bs new all → AllFixed new → Agrees k bs s n G → n ≤ m
      → Agrees k all (with_names m (map rule.name_and_type new) s)
      (m + length (map rule.name_and_type new))
      (binds (fixed_all (typed_variables m (map rule.name_and_type new))) G)
  names_next {bs} {new} {all} {s} {n} {G} m (rule.none e1 e2) f a l =
      subst (λ (xs : List Binding). Agrees k all (with_names m (map rule.name_and_type xs) s)
      (m + length (map rule.name_and_type xs))
      (binds (fixed_all (typed_variables m (map rule.name_and_type xs))) G)) (sym e1)
      (subst (λ
      (xs : List Binding). Agrees k xs s (m + 0) G) (sym e2)
      (later k (m + 0) a (omega arith)))
  names_next {bs} {new} {all} {s} {n} {G} m (rule.next b more e free rest) f a l =
      let F = subst AllFixed e f in
      let i = named_next k m b a l (not_bound k bs b.name free) in
      let j = subst
      (λ x. Agrees k (bs ++ b ∷ []) (with_name b.name m s) (m + 1) (bind m (sort x b.ty) G)) F.0
      i in
      let xs = map rule.name_and_type more in
      let h = names_next (m + 1) rest F.1 j (omega arith) in
      let v = subst
      (λ D. Agrees k all (with_names (m + 1) xs (with_name b.name m s)) (m + 1 + length xs) D)
      (binds_swap m (fixed b.ty) (fixed_all (typed_variables (m + 1) xs)) G
      (before_all xs m (m + 1) (omega arith))) h in
      subst (λ (ys : List Binding). Agrees k all (with_names m (map rule.name_and_type ys) s)
      (m + length (map rule.name_and_type ys))
      (binds (fixed_all (typed_variables m (map rule.name_and_type ys))) G)) (sym e)
      (later k (m + suc (length xs)) v (omega arith))

  -- a name in a clause, where there is one
  pub clause_next : {bs : List Binding} {s : Scope} {n : ℕ} {G : Env}
      (name : Option (Place × NameId)) (ty : Ty) (m : ℕ) → Agrees k bs s n G → n ≤ m
      → rule.is_fresh k bs name ≡ true
      → Agrees k (rule.with_clause bs name ty) (catching (rule.bound_name name) m s) (m + 1)
      (bind m (fixed ty) G)
  clause_next None ty m a l f = unnamed_next k m (fixed ty) a l
  clause_next {bs} (Some (place, name)) ty m a l f =
      named_next k m (rule.binding place name ty) a l
      (not_bound k bs name (unseen (is_visible k.facts bs name) f))
    where
      unseen : (c : Bool) → cond c false true ≡ true → c ≡ false
      unseen true e = sym e
      unseen false e = refl
