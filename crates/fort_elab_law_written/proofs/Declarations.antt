-- The declarations of a program, in the order of the members: their terms, their functions, and
-- what each is.
use Rattle.std.proofs.Common.{◌≡◌, ℕ, ◌+◌, false, List, [], ◌∷◌, ◌++◌, length, map, Option, Some, None, refl, sym, ap, subst, append_assoc}
use Rattle.std.specs.Prelude.{slice_get, option_map, option_and_then}
use Rattle.std.specs.List.{list_any, flat_map}
use Rattle.fort_base.specs.declared.refusal.Place.{Place}
use Rattle.fort_base.specs.declared.ty.Ty.{Ty}
use Rattle.fort_types_builtin.specs.Declarations.{primitives_of}
use Rattle.fort_core.specs.declared.primitive.Primitive.{Primitive}
use Rattle.fort_core.specs.declared.program.CoreBody.{CoreBody}
use Rattle.fort_core.specs.declared.program.CoreBody.TheVariants as body
use Rattle.fort_core.specs.declared.program.CoreDecl.{CoreDecl}
use Rattle.fort_core.specs.declared.term.Term.{Term}
use Rattle.fort_machine.specs.Written.{AreApart, StandOnce, AllWritten, end_of_terms, first_term, functions_in, term_of}
use Rattle.fort_types_sets.specs.declared.member.Member.{Member}
use Rattle.fort_types_sets.specs.declared.member.MemberKind.{MemberKind}
use Rattle.fort_types_sets.specs.declared.member.MemberKind.TheVariants as a_kind
use Rattle.fort_types_sets.specs.declared.member.MemberSet.{MemberSet}
use Rattle.fort_form_typed.specs.declared.component.TypedBody.{TypedBody}
use Rattle.fort_core.specs.declared.program.CoreShape.{CoreShape}
use Rattle.fort_elab_meaning.specs.Parts.{Given}
use Rattle.fort_elab_meaning.specs.Bodies.{bodies, body_at, same_place}
use Rattle.fort_elab_meaning.specs.Programs.{core_body, declarations_from, declarations_of_set}
use Rattle.fort_elab_law_written.specs.Matching.{body_place, place_of, places_of, PlacesOnce, Fills, CountsAll, MatchesBy, EachMatches, AllMatch}
use Rattle.fort_elab_law_written.proofs.Fine.{functions_in_all}
use Rattle.fort_elab_law_written.proofs.Bodies.{found, bodies_apart, once_apart, apart_both, apart_none, or_first, or_second}

-- What a declaration without a term has.
abbrev pub IsMade : List CoreShape → List Ty → CoreBody → Type 0
IsMade list parameters (body.New id) = Fills list id parameters
IsMade list parameters _ = Unit {0}

-- Declarations, with the places of those that have bodies, each of which is one of the places of
-- the members.
pub data Comes (list : List CoreShape) (bs : List TypedBody)
    (table : List (Place × Term)) : List Place → List CoreDecl → Type 0 where
  no_more : Comes list bs table [] []
  with_body : (x : Place) (xs : List Place) {ds : List CoreDecl} {d : CoreDecl} (t : Term)
      → d.body ≡ body.Plain t → body_at table x ≡ Some t → CountsAll bs x d.parameters
      → Comes list bs table xs ds → Comes list bs table (x ∷ xs) (d ∷ ds)
  without : {xs : List Place} {ds : List CoreDecl} {d : CoreDecl} → term_of d.body ≡ []
      → IsMade list d.parameters d.body → Comes list bs table xs ds
      → Comes list bs table xs (d ∷ ds)

module _ (list : List CoreShape) (bs : List TypedBody) (table : List (Place × Term)) where
  abbrev made_of : Member → CoreBody → CoreDecl
  made_of d b = record { parameters = d.parameters; result = d.result; body = b }

  same_decl : {d e : CoreDecl} → Some d ≡ Some e → e ≡ d
  same_decl e = cc

  primitive_by : (d : Member) (decl : CoreDecl) (ds : List CoreDecl) (xs : List Place)
      (o : Option CoreBody) → Some decl ≡ option_map (made_of d) o
      → ((b : CoreBody) → o ≡ Some b → (term_of b ≡ []) × IsMade list d.parameters b)
      → Comes list bs table xs ds → Comes list bs table xs (decl ∷ ds)
  primitive_by d decl ds xs None e k h = absurd cc
  primitive_by d decl ds xs (Some b) e k h =
      let i = k b refl
      in subst (λ c. Comes list bs table xs (c ∷ ds)) (same_decl e)
      (without {d = made_of d b} i.0 i.1 h)

  a_primitive : (d : Member) (o : Option Primitive) (b : CoreBody)
      → option_map body.Primitive o ≡ Some b → (term_of b ≡ []) × IsMade list d.parameters b
  a_primitive d None b e = absurd cc
  a_primitive d (Some f) b e =
      let z : body.Primitive f ≡ b = cc
      in subst (λ c. (term_of c ≡ []) × IsMade list d.parameters c) z (refl, tt)

  concrete_at : (d : Member) (decl : CoreDecl) (ds : List CoreDecl) (xs : List Place) (x : Place)
      (o : Option Term) → body_at table x ≡ o
      → Some decl ≡ option_map (made_of d) (option_map body.Plain o) → CountsAll bs x d.parameters
      → Comes list bs table xs ds → Comes list bs table (x ∷ xs) (decl ∷ ds)
  concrete_at d decl ds xs x None q e k h = absurd cc
  concrete_at d decl ds xs x (Some t) q e k h =
      subst (λ c. Comes list bs table (x ∷ xs) (c ∷ ds)) (same_decl e)
      (with_body x xs {d = made_of d (body.Plain t)} t refl q k h)

  concrete_by : (d : Member) (decl : CoreDecl) (ds : List CoreDecl) (xs : List Place)
      (place : Option Place)
      → Some decl
      ≡ option_map (made_of d) (option_map body.Plain (option_and_then (body_at table) place))
      → MatchesBy a_kind.Concrete place d.parameters list bs → Comes list bs table xs ds
      → Comes list bs table (body_place a_kind.Concrete place ++ xs) (decl ∷ ds)
  concrete_by d decl ds xs None e k h = absurd cc
  concrete_by d decl ds xs (Some x) e k h = concrete_at d decl ds xs x (body_at table x) refl e k h

  by_kind : (s : MemberSet) (at : ℕ) (d : Member) (decl : CoreDecl) (ds : List CoreDecl)
      (xs : List Place) (kind : MemberKind)
      → Some decl ≡ option_map (made_of d) (core_body table s at d kind)
      → MatchesBy kind d.place d.parameters list bs → Comes list bs table xs ds
      → Comes list bs table (body_place kind d.place ++ xs) (decl ∷ ds)
  by_kind s at d decl ds xs a_kind.BuiltIn e k h =
      let o = slice_get (primitives_of s.name (length d.parameters)) at
      in primitive_by d decl ds xs (option_map body.Primitive o) e (a_primitive d o) h
  by_kind s at d decl ds xs (a_kind.Constructor t) e k h =
      subst (λ c. Comes list bs table xs (c ∷ ds)) (same_decl e)
      (without {d = made_of d (body.New t)} refl k h)
  by_kind s at d decl ds xs a_kind.Concrete e k h = concrete_by d decl ds xs d.place e k h
  by_kind s at d decl ds xs a_kind.Abstract e k h =
      subst (λ c. Comes list bs table xs (c ∷ ds)) (same_decl e)
      (without {d = made_of d body.Abstract} refl tt h)

  head_is : {o : Option CoreDecl} {os : List (Option CoreDecl)} (d : CoreDecl) (ds : List CoreDecl)
      → map Some (d ∷ ds) ≡ o ∷ os → Some d ≡ o
  head_is d ds e = cc

  tail_is : {o : Option CoreDecl} {os : List (Option CoreDecl)} (d : CoreDecl) (ds : List CoreDecl)
      → map Some (d ∷ ds) ≡ o ∷ os → map Some ds ≡ os
  tail_is d ds e = cc

  from_members : (s : MemberSet) (at : ℕ) (ms : List Member) (ds : List CoreDecl)
      (tail : List (Option CoreDecl)) (xs : List Place)
      → map Some ds ≡ declarations_from table s at ms ++ tail → EachMatches list bs ms
      → ((es : List CoreDecl) → map Some es ≡ tail → Comes list bs table xs es)
      → Comes list bs table (flat_map place_of ms ++ xs) ds
  from_members s at [] ds tail xs e k h = h ds e
  from_members s at (d ∷ ms) [] tail xs e k h = absurd cc
  from_members s at (d ∷ ms) (decl ∷ ds) tail xs e k h =
      subst (λ ys. Comes list bs table ys (decl ∷ ds))
      (sym (append_assoc (place_of d) (flat_map place_of ms) xs))
      (by_kind s at d decl ds (flat_map place_of ms ++ xs) d.kind (head_is decl ds e) k.0
      (from_members s (at + 1) ms ds tail xs (tail_is decl ds e) k.1 h))

  pub from_sets : (ss : List MemberSet) (ds : List CoreDecl)
      → map Some ds ≡ flat_map (declarations_of_set table) ss → AllMatch list bs ss
      → Comes list bs table (places_of ss) ds
  from_sets [] [] e k = no_more
  from_sets [] (d ∷ ds) e k = absurd cc
  from_sets (s ∷ ss) ds e k =
      from_members s 0 s.members ds (flat_map (declarations_of_set table) ss) (places_of ss) e k.0
      (λ es q. from_sets ss es q k.1)

-- ---- what follows of their terms

abbrev pub terms_from : List CoreDecl → List Term
terms_from ds = flat_map (λ (d : CoreDecl). term_of d.body) ds

module _ (list : List CoreShape) (bs : List TypedBody) (g : Given) where
  abbrev table_of : List (Place × Term)
  table_of = bodies g 0 bs

  terms_with : (d : CoreDecl) (t : Term) (ds : List CoreDecl) → d.body ≡ body.Plain t
      → t ∷ terms_from ds ≡ terms_from (d ∷ ds)
  terms_with d t ds e = sym (ap (λ b. term_of b ++ terms_from ds) e)

  terms_without : (d : CoreDecl) (ds : List CoreDecl) → term_of d.body ≡ []
      → terms_from ds ≡ terms_from (d ∷ ds)
  terms_without d ds e = sym (ap (λ ts. ts ++ terms_from ds) e)

  pub are_written : {xs : List Place} (ds : List CoreDecl) → Comes list bs table_of xs ds
      → AllWritten (terms_from ds)
  are_written [] no_more = end_of_terms
  are_written (d ∷ ds) (with_body x ys t e q k h) =
      let b = found g 0 _ bs x d.parameters t refl k q
      in subst AllWritten (terms_with d t ds e) (first_term b.is_written (are_written ds h))
  are_written (d ∷ ds) (without e k h) = subst AllWritten (terms_without d ds e) (are_written ds h)

  all_apart : {xs : List Place} (x : Place) (t : Term) (ds : List CoreDecl)
      → body_at table_of x ≡ Some t → list_any (same_place x) xs ≡ false
      → Comes list bs table_of xs ds → AreApart (functions_in t) (functions_in_all (terms_from ds))
  all_apart x t [] q n no_more = apart_none (functions_in t)
  all_apart x t (d ∷ ds) q n (with_body y ys u e r k h) =
      subst (λ ts. AreApart (functions_in t) (functions_in_all ts)) (terms_with d u ds e)
      (apart_both (functions_in t) (functions_in u) (functions_in_all (terms_from ds))
      (bodies_apart g 0 bs x y t u
      (or_first (same_place x y) (list_any (same_place x) ys) n) q r)
      (all_apart x t ds q (or_second (same_place x y) (list_any (same_place x) ys) n) h))
  all_apart x t (d ∷ ds) q n (without e k h) =
      subst (λ ts. AreApart (functions_in t) (functions_in_all ts)) (terms_without d ds e)
      (all_apart x t ds q n h)

  pub stand_once : {xs : List Place} (ds : List CoreDecl) → PlacesOnce xs
      → Comes list bs table_of xs ds → StandOnce (functions_in_all (terms_from ds))
  stand_once [] o no_more = tt
  stand_once (d ∷ ds) o (with_body x ys t e q k h) =
      let b = found g 0 _ bs x d.parameters t refl k q
      in subst (λ ts. StandOnce (functions_in_all ts)) (terms_with d t ds e)
      (once_apart (functions_in t) (functions_in_all (terms_from ds)) (all_apart x t ds q o.0 h)
      b.once (stand_once ds o.1 h))
  stand_once (d ∷ ds) o (without e k h) =
      subst (λ ts. StandOnce (functions_in_all ts)) (terms_without d ds e) (stand_once ds o h)
