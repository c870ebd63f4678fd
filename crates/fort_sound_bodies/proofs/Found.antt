-- The body at a declaration's place is the declaration's.
use Rattle.std.proofs.Common.{◌≡◌, ◌≤◌, ◌<◌, ℕ, zero, suc, ◌+◌, Bool, true, false, cond, List, [], ◌∷◌, ◌++◌, length, Option, Some, None, refl, sym, ap, ◌∙◌, subst, arith}
use Rattle.std.specs.List.{slice_get, AllByRecursion}
use Rattle.fort_base.specs.declared.refusal.Place.{Place}
use Rattle.fort_base.specs.declared.ty.Ty.{Ty}
use Rattle.fort_form.specs.declared.component.BodyForm.{BodyForm}
use Rattle.fort_types_sets.specs.declared.member.MemberKind.{MemberKind}
use Rattle.fort_types_sets.specs.declared.member.MemberKind.TheVariants as a_kind
use Rattle.fort_member.specs.declared.entries.Entry.{Entry}
use Rattle.fort_core.specs.declared.term.Term.{Term}
use Rattle.fort_form_typed.specs.declared.component.TypedBody.{TypedBody}
use Rattle.fort_elab_meaning.specs.Parts.{Given}
use Rattle.fort_elab_meaning.specs.Bodies.{body_made, bodies, body_at, same_place}
use Rattle.fort_elab_law_matched.proofs.Places.{one, same_itself, same_turned}
use Rattle.fort_elab_law_matched.proofs.Counted.{counted_by, all_counted, counts, counts_append}
use Rattle.fort_sound_bodies.proofs.Signed.{Signature, signed_by, entry_signed, all_signed, IsBodyOf, AreBodies}

-- ---- the term at a place

-- It is that of a body there.
pub record Found (g : Given) (bs : List TypedBody) (x : Place) (t : Term) : Type 0 where
  pub at : ℕ
  pub found : TypedBody
  pub is : slice_get bs at ≡ Some found
  pub here : same_place found.place x ≡ true
  pub next : ℕ
  pub term : (let m = body_made g next found in m.term) ≡ t

some_is : {A : Type 0} {x y : A} → Some x ≡ Some y → x ≡ y
some_is e = cc

pub found_at : (g : Given) (next : ℕ) (bs : List TypedBody) (x : Place) (t : Term)
    → body_at (bodies g next bs) x ≡ Some t → Found g bs x t
found_at g next [] x t e = absurd cc
found_at g next (b ∷ bs) x t e =
    go (same_place b.place x) refl e
    (λ q. found_at g (let m = body_made g next b in m.counter.function) bs x t q)
  where
    go : (c : Bool) → same_place b.place x ≡ c
        → (let m = body_made g next b
        in cond c (Some m.term) (body_at (bodies g m.counter.function bs) x)) ≡ Some t
        → ((let m = body_made g next b in body_at (bodies g m.counter.function bs) x) ≡ Some t
        → Found g bs x t) → Found g (b ∷ bs) x t
    go true s q r = record { at = 0; found = b; is = refl; here = s; next = next; term = some_is q }
    go false s q r =
        let w = r q
        in record {
          at = suc w.at;
          found = w.found;
          is = w.is;
          here = w.here;
          next = w.next;
          term = w.term;
        }

-- an item of a list has one beside it in a list as long
pub beside : {X : Type 0} (xs : List X) (n : ℕ) → n < length xs
    → (x : X) × (slice_get xs n ≡ Some x)
beside [] n l = absurd (omega arith)
beside (x ∷ xs) zero l = (x, refl)
beside (x ∷ xs) (suc n) l = beside xs n (omega arith)

-- ---- signatures

-- each body is that of the signature beside it
pub body_of : (ss : List Signature) (bs : List BodyForm) → AreBodies ss bs → (n : ℕ) (b : BodyForm)
    → slice_get bs n ≡ Some b → (s : Signature) × (slice_get ss n ≡ Some s) × IsBodyOf s b
body_of [] [] h n b e = absurd cc
body_of [] (c ∷ bs) h n b e = absurd h
body_of (s ∷ ss) [] h n b e = absurd h
body_of (s ∷ ss) (c ∷ bs) h zero b e = let q : c ≡ b = cc in (s, refl, subst (IsBodyOf s) q h.0)
body_of (s ∷ ss) (c ∷ bs) h (suc n) b e = body_of ss bs h.1 n b e

-- each declaration with a body has its signature
pub later_one : {X : Type 0} (xs ys : List X) (n : ℕ) (y : X) → slice_get ys n ≡ Some y
    → (j : ℕ) × (slice_get (xs ++ ys) j ≡ Some y)
later_one [] ys n y e = (n, e)
later_one (x ∷ xs) ys n y e = let w = later_one xs ys n y e in (suc w.0, w.1)

abbrev pub IsSigned : List Signature → MemberKind → Option Place → List Ty → Ty → Type 0
IsSigned ss kind place parameters result = kind ≡ a_kind.Concrete → (x : Place) → place ≡ Some x
    → (j : ℕ)
    × (slice_get ss j ≡ Some (record { place = x; parameters = parameters; result = result }))

first_signed : (kind : MemberKind) (place : Option Place) (parameters : List Ty) (result : Ty)
    (ss : List Signature)
    → IsSigned (signed_by kind place parameters result ++ ss) kind place parameters result
first_signed a_kind.Concrete (Some y) parameters result ss q x e =
    let s : y ≡ x = cc
    in (
      0,
      ap (λ
          (z : Place). let r : Signature =
          record { place = z; parameters = parameters; result = result } in Some r) s,
    )
first_signed a_kind.Concrete None parameters result ss q x e = absurd cc
first_signed a_kind.BuiltIn place parameters result ss q x e = absurd cc
first_signed (a_kind.Constructor t) place parameters result ss q x e = absurd cc
first_signed a_kind.Abstract place parameters result ss q x e = absurd cc

abbrev pub EntrySigned : List Signature → Entry → Type 0
EntrySigned ss e = IsSigned ss e.member.kind e.member.place e.member.parameters e.member.result

more_signed : (us ss : List Signature) (es : List Entry) → AllByRecursion (EntrySigned ss) es
    → AllByRecursion (EntrySigned (us ++ ss)) es
more_signed us ss [] h = tt
more_signed us ss (e ∷ es) h =
    ((λ q x p. let w = h.0 q x p in later_one us ss w.0 _ w.1), more_signed us ss es h.1)

pub entries_signed : (es : List Entry) → AllByRecursion (EntrySigned (all_signed es)) es
entries_signed [] = tt
entries_signed (e ∷ es) = (
  first_signed e.member.kind e.member.place e.member.parameters e.member.result (all_signed es),
  more_signed (entry_signed e) (all_signed es) es (entries_signed es),
)

-- ---- one signature at a place

abbrev often : Place → List Signature → ℕ
often p [] = 0
often p (s ∷ ss) = one (same_place p s.place) + often p ss

often_append : (p : Place) (ss us : List Signature) → often p (ss ++ us) ≡ often p ss + often p us
often_append p [] us = omega arith
often_append p (s ∷ ss) us = let e = often_append p ss us in omega arith

by_kind : (p : Place) (kind : MemberKind) (place : Option Place) (parameters : List Ty)
    (result : Ty)
    → often p (signed_by kind place parameters result)
    ≡ counts p (counted_by kind place (length parameters))
by_kind p a_kind.BuiltIn place parameters result = refl
by_kind p (a_kind.Constructor t) place parameters result = refl
by_kind p a_kind.Concrete None parameters result = refl
by_kind p a_kind.Concrete (Some q) parameters result = refl
by_kind p a_kind.Abstract place parameters result = refl

pub often_counted : (p : Place) (es : List Entry)
    → often p (all_signed es) ≡ counts p (all_counted es)
often_counted p [] = refl
often_counted p (e ∷ es) =
    let a = often_append p (entry_signed e) (all_signed es) in
    let b = counts_append p (counted_by e.member.kind e.member.place (length e.member.parameters))
    (all_counted es) in
    let c = by_kind p e.member.kind e.member.place e.member.parameters e.member.result in
    let r = often_counted p es in omega arith

is_there : (ss : List Signature) (n : ℕ) (s : Signature) (p : Place) → slice_get ss n ≡ Some s
    → same_place p s.place ≡ true → 1 ≤ often p ss
is_there [] n s p e h = absurd cc
is_there (u ∷ ss) zero s p e h =
    let q : u ≡ s = cc in let t = ap one (ap (λ (z : Signature). same_place p z.place) q ∙ h)
    in omega arith
is_there (u ∷ ss) (suc n) s p e h = let r = is_there ss n s p e h in omega arith

pub one_signature : (ss : List Signature) (i j : ℕ) (s u : Signature) → slice_get ss i ≡ Some s
    → slice_get ss j ≡ Some u → same_place s.place u.place ≡ true → ((p : Place) → often p ss ≤ 1)
    → s ≡ u
one_signature [] i j s u e f h few = absurd cc
one_signature (x ∷ ss) zero zero s u e f h few = some_is (sym e ∙ f)
one_signature (x ∷ ss) zero (suc j) s u e f h few =
    let q : x ≡ s = some_is e
    in let t =
    ap one (ap (λ (z : Signature). same_place s.place z.place) q ∙ same_itself s.place) in
    let r = is_there ss j u s.place f h in let w = few s.place in absurd (omega arith)
one_signature (x ∷ ss) (suc i) zero s u e f h few =
    let q : x ≡ u = some_is f
    in let t =
    ap one (ap (λ (z : Signature). same_place u.place z.place) q ∙ same_itself u.place) in
    let r = is_there ss i s u.place e (same_turned s.place u.place h) in let w = few u.place
    in absurd (omega arith)
one_signature (x ∷ ss) (suc i) (suc j) s u e f h few =
    one_signature ss i j s u e f h (λ p. let w = few p in omega arith)
