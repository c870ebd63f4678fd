-- The types that are written in the parts of a form.
use Rattle.std.proofs.Common.{◌≡◌, List, [], ◌∷◌, ◌++◌, map, Option, Some, None, rules, subst}
use Rattle.std.specs.Prelude.{option_map}
use Rattle.std.specs.List.{AllByRecursion}
use Rattle.fort_base.specs.declared.ty.Ty.{Ty}
use Rattle.fort_form.specs.declared.form.Form.{Form, out-Form, map-Form, fold_out-Form, the_lemmas}
use Rattle.fort_form.specs.declared.form.Form.TheOpen.{Form-F, Item-F}
use Rattle.fort_form.specs.declared.form.Item.{Item, out-Item, map-Item, fold_out-Item}
use Rattle.fort_form.specs.declared.form.Branch.{Branch}
use Rattle.fort_form.specs.declared.form.Generator.{Generator, out-Generator}
use Rattle.fort_form.specs.declared.form.TypeBranch.{TypeBranch, out-TypeBranch}
use Rattle.fort_form.specs.declared.form.Parameter.{Parameter}
use Rattle.fort_typing_known.specs.Known.{Knows}
use Rattle.fort_typing_rules.specs.Types.{parameter_type}
use Rattle.fort_typing_rules.specs.Typing.{test_of, value_of, clause_type}
use Rattle.fort_typing_law_rules.specs.Deciding.{IsType, AreTypes}
use Rattle.fort_typing_law_rules.specs.Written.{together, if_there, written_form, written_part, written_arm, written_source, written_case, written, written_item, written_branch, written_generator, written_clause, IsWritten}
use Rattle.fort_typing_law_rules.proofs.Types.{all_left, all_right}

branch-is : (b : Branch) → written_branch b ≡ written (test_of b) ++ written (value_of b)
unfolding written written_item written_branch written_generator written_clause
branch-is b = search (rules, the_lemmas)

generator-is : (g : Generator) → written_generator g ≡ written (out-Generator g).source
unfolding written written_item written_branch written_generator written_clause
generator-is g = search (rules, the_lemmas)

clause-is : (b : TypeBranch) → written_clause b ≡ clause_type b ∷ written (out-TypeBranch b).value
unfolding written written_item written_branch written_generator written_clause
clause-is b = search (rules, the_lemmas)

module _ (k : Knows) where
  abbrev pub AllWritten : List Form → Type 0
  AllWritten es = AllByRecursion (IsWritten k) es

  abbrev pub BranchWritten : Branch → Type 0
  BranchWritten b = IsWritten k (test_of b) × IsWritten k (value_of b)

  abbrev pub GeneratorWritten : Generator → Type 0
  GeneratorWritten g = IsWritten k (out-Generator g).source

  abbrev pub ClauseWritten : TypeBranch → Type 0
  ClauseWritten b = IsType k (clause_type b) × IsWritten k (out-TypeBranch b).value

  abbrev pub MayBeWritten : Option Form → Type 0
  MayBeWritten None = Unit {0}
  MayBeWritten (Some e) = IsWritten k e

  abbrev pub ItemLayer : Item-F Form Item Branch Generator TypeBranch → Type 0
  ItemLayer (Item-F.Local p name mutable ty e) = IsType k ty × IsWritten k e
  ItemLayer (Item-F.Locals p names ty e) = IsType k ty × IsWritten k e
  ItemLayer (Item-F.Expression e) = IsWritten k e

  abbrev pub ItemWritten : Item → Type 0
  ItemWritten i = AreTypes k (written_item i)

  -- the parts of a layer
  abbrev pub Layer : Form-F Form Item Branch Generator TypeBranch → Type 0
  Layer (Form-F.Parens p e) = IsWritten k e
  Layer (Form-F.Tuple p es) = AllWritten es
  Layer (Form-F.Operator p op es) = AllWritten es
  Layer (Form-F.Chain p ops es) = AllWritten es
  Layer (Form-F.Beside p es) = AllWritten es
  Layer (Form-F.Run p es) = AllWritten es
  Layer (Form-F.Subscript p e) = IsWritten k e
  Layer (Form-F.Power p e) = IsWritten k e
  Layer (Form-F.Method p at name es) = AllWritten es
  Layer (Form-F.Fill p ty n v) = IsType k ty × IsWritten k n × IsWritten k v
  Layer (Form-F.Block p is) = AllByRecursion ItemWritten is
  Layer (Form-F.Do p blocks) = AllWritten blocks
  Layer (Form-F.If p branches other) = AllByRecursion BranchWritten branches × MayBeWritten other
  Layer (Form-F.While p c b) = IsWritten k c × IsWritten k b
  Layer (Form-F.For p gs b) = AllByRecursion GeneratorWritten gs × IsWritten k b
  Layer (Form-F.Case p s branches other) = IsWritten k s × AllByRecursion BranchWritten branches
      × MayBeWritten other
  Layer (Form-F.Typecase p at name s branches other) = IsWritten k s
      × AllByRecursion ClauseWritten branches × MayBeWritten other
  Layer (Form-F.Try p b name branches last) = IsWritten k b × AllByRecursion ClauseWritten branches
      × MayBeWritten last
  Layer (Form-F.Atomic p e) = IsWritten k e
  Layer (Form-F.Tryatomic p e) = IsWritten k e
  Layer (Form-F.Throw p e) = IsWritten k e
  Layer (Form-F.Fn p ps e) = AllByRecursion (λ (q : Parameter). IsType k q.ty) ps × IsWritten k e
  Layer (Form-F.Reduce p r g e) = GeneratorWritten g × IsWritten k e
  Layer (Form-F.Assign p t sign e) = IsWritten k t × IsWritten k e
  Layer _ = Unit {0}

  front : (xs ys : List Ty) → AreTypes k (xs ++ ys) → AreTypes k xs
  front xs ys h = all_left (IsType k) xs ys h

  back : (xs ys : List Ty) → AreTypes k (xs ++ ys) → AreTypes k ys
  back xs ys h = all_right (IsType k) xs ys h

  all-forms : (es : List Form) → AreTypes k (together (map written es)) → AllWritten es
  all-forms [] h = tt
  all-forms (e ∷ es) h = (
    front (written e) (together (map written es)) h,
    all-forms es (back (written e) (together (map written es)) h),
  )

  all-items : (is : List Item) → AreTypes k (together (map written_item is))
      → AllByRecursion ItemWritten is
  all-items [] h = tt
  all-items (i ∷ is) h = (
    front (written_item i) (together (map written_item is)) h,
    all-items is (back (written_item i) (together (map written_item is)) h),
  )

  one-branch : (b : Branch) → AreTypes k (written_branch b) → BranchWritten b
  one-branch b h =
      let i = subst (AreTypes k) (branch-is b) h
      in (
        front (written (test_of b)) (written (value_of b)) i,
        back (written (test_of b)) (written (value_of b)) i,
      )

  all-branches : (bs : List Branch) → AreTypes k (together (map written_branch bs))
      → AllByRecursion BranchWritten bs
  all-branches [] h = tt
  all-branches (b ∷ bs) h = (
    one-branch b (front (written_branch b) (together (map written_branch bs)) h),
    all-branches bs (back (written_branch b) (together (map written_branch bs)) h),
  )

  one-generator : (g : Generator) → AreTypes k (written_generator g) → GeneratorWritten g
  one-generator g h = subst (AreTypes k) (generator-is g) h

  all-generators : (gs : List Generator) → AreTypes k (together (map written_generator gs))
      → AllByRecursion GeneratorWritten gs
  all-generators [] h = tt
  all-generators (g ∷ gs) h = (
    one-generator g (front (written_generator g) (together (map written_generator gs)) h),
    all-generators gs (back (written_generator g) (together (map written_generator gs)) h),
  )

  one-clause : (b : TypeBranch) → AreTypes k (written_clause b) → ClauseWritten b
  one-clause b h = subst (AreTypes k) (clause-is b) h

  all-clauses : (bs : List TypeBranch) → AreTypes k (together (map written_clause bs))
      → AllByRecursion ClauseWritten bs
  all-clauses [] h = tt
  all-clauses (b ∷ bs) h = (
    one-clause b (front (written_clause b) (together (map written_clause bs)) h),
    all-clauses bs (back (written_clause b) (together (map written_clause bs)) h),
  )

  may-be : (o : Option Form) → AreTypes k (if_there (option_map written o)) → MayBeWritten o
  may-be None h = tt
  may-be (Some e) h = h

  all-parameters : (ps : List Parameter) → AreTypes k (map parameter_type ps)
      → AllByRecursion (λ (q : Parameter). IsType k q.ty) ps
  all-parameters [] h = tt
  all-parameters (p ∷ ps) h = (h.0, all-parameters ps h.1)

  abbrev mapped : Form-F Form Item Branch Generator TypeBranch
      → Form-F (List Ty) (List Ty) (List Ty) (List Ty) (List Ty)
  mapped x =
      map-Form Form Item Branch Generator TypeBranch (List Ty) (List Ty) (List Ty) (List Ty)
      (List Ty) written written_item written_branch written_generator written_clause x

  layer : (x : Form-F Form Item Branch Generator TypeBranch) → AreTypes k (written_form (mapped x))
      → Layer x
  layer (Form-F.Number p n) h = tt
  layer (Form-F.Text p n) h = tt
  layer (Form-F.Truth p b) h = tt
  layer (Form-F.Receiver p) h = tt
  layer (Form-F.Name p name) h = tt
  layer (Form-F.Field p at name) h = tt
  layer (Form-F.Parens p e) h = h
  layer (Form-F.Tuple p es) h = all-forms es h
  layer (Form-F.Operator p op es) h = all-forms es h
  layer (Form-F.Chain p ops es) h = all-forms es h
  layer (Form-F.Beside p es) h = all-forms es h
  layer (Form-F.Run p es) h = all-forms es h
  layer (Form-F.Subscript p e) h = h
  layer (Form-F.Power p e) h = h
  layer (Form-F.Method p at name es) h = all-forms es h
  layer (Form-F.Fill p ty n v) h =
      (h.0, front (written n) (written v) h.1, back (written n) (written v) h.1)
  layer (Form-F.Block p is) h = all-items is h
  layer (Form-F.Do p blocks) h = all-forms blocks h
  layer (Form-F.If p branches None) h =
      (all-branches branches (front (together (map written_branch branches)) [] h), tt)
  layer (Form-F.If p branches (Some d)) h = (
    all-branches branches (front (together (map written_branch branches)) (written d) h),
    back (together (map written_branch branches)) (written d) h,
  )
  layer (Form-F.While p c b) h = (front (written c) (written b) h, back (written c) (written b) h)
  layer (Form-F.For p gs b) h = (
    all-generators gs (front (together (map written_generator gs)) (written b) h),
    back (together (map written_generator gs)) (written b) h,
  )
  layer (Form-F.Case p s branches None) h =
      let r = front (written s ++ together (map written_branch branches)) [] h in (
        front (written s) (together (map written_branch branches)) r,
        all-branches branches (back (written s) (together (map written_branch branches)) r),
        tt,
      )
  layer (Form-F.Case p s branches (Some d)) h =
      let r = front (written s ++ together (map written_branch branches)) (written d) h in (
        front (written s) (together (map written_branch branches)) r,
        all-branches branches (back (written s) (together (map written_branch branches)) r),
        back (written s ++ together (map written_branch branches)) (written d) h,
      )
  layer (Form-F.Typecase p at name s branches None) h =
      let r = front (written s ++ together (map written_clause branches)) [] h in (
        front (written s) (together (map written_clause branches)) r,
        all-clauses branches (back (written s) (together (map written_clause branches)) r),
        tt,
      )
  layer (Form-F.Typecase p at name s branches (Some d)) h =
      let r = front (written s ++ together (map written_clause branches)) (written d) h in (
        front (written s) (together (map written_clause branches)) r,
        all-clauses branches (back (written s) (together (map written_clause branches)) r),
        back (written s ++ together (map written_clause branches)) (written d) h,
      )
  layer (Form-F.Try p s name branches None) h =
      let r = front (written s ++ together (map written_clause branches)) [] h in (
        front (written s) (together (map written_clause branches)) r,
        all-clauses branches (back (written s) (together (map written_clause branches)) r),
        tt,
      )
  layer (Form-F.Try p s name branches (Some d)) h =
      let r = front (written s ++ together (map written_clause branches)) (written d) h in (
        front (written s) (together (map written_clause branches)) r,
        all-clauses branches (back (written s) (together (map written_clause branches)) r),
        back (written s ++ together (map written_clause branches)) (written d) h,
      )
  layer (Form-F.Atomic p e) h = h
  layer (Form-F.Tryatomic p e) h = h
  layer (Form-F.Throw p e) h = h
  layer (Form-F.Fn p ps e) h = (
    all-parameters ps (front (map parameter_type ps) (written e) h),
    back (map parameter_type ps) (written e) h,
  )
  layer (Form-F.Reduce p r g e) h = (
    one-generator g (front (written_generator g) (written e) h),
    back (written_generator g) (written e) h,
  )
  layer (Form-F.Assign p t sign e) h =
      (front (written t) (written e) h, back (written t) (written e) h)

  written-out : (e : Form) → written e ≡ written_form (mapped (out-Form e))
  unfolding written written_item written_branch written_generator written_clause
  written-out e =
      fold_out-Form (List Ty) (List Ty) (List Ty) (List Ty) (List Ty) written_form written_part
      written_arm written_source written_case e

  -- what is written in a form is written in its parts
  pub of-parts : (e : Form) {x : Form-F Form Item Branch Generator TypeBranch} → out-Form e ≡ x
      → IsWritten k e → Layer x
  of-parts e {x = x} is h =
      layer x (subst (λ y. AreTypes k (written_form (mapped y))) is
      (subst (AreTypes k) (written-out e) h))

  item-layer : (x : Item-F Form Item Branch Generator TypeBranch)
      → AreTypes k
      (written_part
      (map-Item Form Item Branch Generator TypeBranch (List Ty) (List Ty) (List Ty) (List Ty)
      (List Ty) written written_item written_branch written_generator written_clause x))
      → ItemLayer x
  item-layer (Item-F.Local p name mutable ty e) h = h
  item-layer (Item-F.Locals p names ty e) h = h
  item-layer (Item-F.Expression e) h = h

  item-out : (i : Item)
      → written_item i
      ≡ written_part
      (map-Item Form Item Branch Generator TypeBranch (List Ty) (List Ty) (List Ty) (List Ty)
      (List Ty) written written_item written_branch written_generator written_clause
      (out-Item i))
  unfolding written written_item written_branch written_generator written_clause
  item-out i =
      fold_out-Item (List Ty) (List Ty) (List Ty) (List Ty) (List Ty) written_form written_part
      written_arm written_source written_case i

  pub of-item : (i : Item) {x : Item-F Form Item Branch Generator TypeBranch} → out-Item i ≡ x
      → ItemWritten i → ItemLayer x
  of-item i {x = x} is h =
      item-layer x
      (subst (λ y. AreTypes k
      (written_part
      (map-Item Form Item Branch Generator TypeBranch (List Ty) (List Ty) (List Ty) (List Ty)
      (List Ty) written written_item written_branch written_generator written_clause y))) is
      (subst (AreTypes k) (item-out i) h))

  pub tests-of : (bs : List Branch) → AllByRecursion BranchWritten bs → AllWritten (map test_of bs)
  tests-of [] h = tt
  tests-of (b ∷ bs) h = (h.0.0, tests-of bs h.1)

  pub values-of : (bs : List Branch) → AllByRecursion BranchWritten bs
      → AllWritten (map value_of bs)
  values-of [] h = tt
  values-of (b ∷ bs) h = (h.0.1, values-of bs h.1)
