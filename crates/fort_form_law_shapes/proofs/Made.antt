-- What is made of good parts is good: of a shape that the grammar gives, with only such types
-- written in it.
use Rattle.std.proofs.Common.{◌≡◌, ℕ, Bool, true, false, ◌&&◌, List, [], ◌∷◌, ◌++◌, map, Option, Some, None, refl, rules, ap, ◌∙◌, sym, subst}
use Rattle.std.specs.List.{AllByRecursion}
use Rattle.fort_base.specs.declared.ids.NameId.{NameId}
use Rattle.fort_base.specs.declared.refusal.Place.{Place}
use Rattle.fort_base.specs.declared.ty.Ty.{Ty}
use Rattle.fort_ops.specs.declared.op.Op.{Op}
use Rattle.fort_form.specs.declared.form.Form.{Form, out-Form, map-Form, fold_out-Form, the_lemmas}
use Rattle.fort_form.specs.declared.form.Form.TheVariants as a_form
use Rattle.fort_form.specs.declared.form.Form.TheOpen.{Form-F, Item-F}
use Rattle.fort_form.specs.declared.form.Item.{Item, out-Item, map-Item, fold_out-Item}
use Rattle.fort_form.specs.declared.form.Item.TheVariants as an_item
use Rattle.fort_form.specs.declared.form.Branch.{Branch, roll-Branch, fold-roll-Branch}
use Rattle.fort_form.specs.declared.form.Generator.{Generator, roll-Generator, fold-roll-Generator}
use Rattle.fort_form.specs.declared.form.TypeBranch.{TypeBranch, roll-TypeBranch, fold-roll-TypeBranch}
use Rattle.fort_form.specs.declared.form.Parameter.{Parameter}
use Rattle.fort_form.specs.declared.form.Reduction.{Reduction}
use Rattle.fort_form.specs.declared.form.Update.{Update}
use Rattle.fort_form.specs.Shapes.{Shape, an_expression, a_postfix, no_shape, is_expression, is_element, expression_if, postfix_if, are_expressions, are_elements, are_shaped, are_sides, shape_form, shape_item, shape_branch, shape_generator, shape_clause, shape, is_item, is_branch, is_generator, is_clause}
use Rattle.fort_form.proofs.Layers.{shapes, item_shapes, shape-is, item-is}
use Rattle.fort_form_meaning.specs.Forming.{spawned}
use Rattle.fort_typing_rules.specs.Types.{parameter_type}
use Rattle.fort_typing_law_rules.specs.Written.{together, if_there, written_form, written_part, written_arm, written_source, written_case, written, written_item, written_branch, written_generator, written_clause}
use Rattle.fort_form_law_shapes.proofs.Lists.{all_join, both}

abbrev writes : Form-F Form Item Branch Generator TypeBranch
    → Form-F (List Ty) (List Ty) (List Ty) (List Ty) (List Ty)
writes x =
    map-Form Form Item Branch Generator TypeBranch (List Ty) (List Ty) (List Ty) (List Ty) (List Ty)
    written written_item written_branch written_generator written_clause x

abbrev item_writes : Item-F Form Item Branch Generator TypeBranch
    → Item-F (List Ty) (List Ty) (List Ty) (List Ty) (List Ty)
item_writes x =
    map-Item Form Item Branch Generator TypeBranch (List Ty) (List Ty) (List Ty) (List Ty) (List Ty)
    written written_item written_branch written_generator written_clause x

written-out : (e : Form) → written e ≡ written_form (writes (out-Form e))
unfolding written written_item written_branch written_generator written_clause
written-out e =
    fold_out-Form (List Ty) (List Ty) (List Ty) (List Ty) (List Ty) written_form written_part
    written_arm written_source written_case e

item-out : (i : Item) → written_item i ≡ written_part (item_writes (out-Item i))
unfolding written written_item written_branch written_generator written_clause
item-out i =
    fold_out-Item (List Ty) (List Ty) (List Ty) (List Ty) (List Ty) written_form written_part
    written_arm written_source written_case i

branch-shape : (t v : Form)
    → is_branch (roll-Branch (record { test = t; value = v })) ≡ is_expression (shape t)
    && is_expression (shape v)
unfolding shape is_item is_branch is_generator is_clause
branch-shape t v =
    fold-roll-Branch Shape Bool Bool Bool Bool shape_form shape_item shape_branch shape_generator
    shape_clause (record { test = t; value = v })

branch-writes : (t v : Form)
    → written_branch (roll-Branch (record { test = t; value = v })) ≡ written t ++ written v
unfolding written written_item written_branch written_generator written_clause
branch-writes t v =
    fold-roll-Branch (List Ty) (List Ty) (List Ty) (List Ty) (List Ty) written_form written_part
    written_arm written_source written_case (record { test = t; value = v })

generator-shape : (p : Place) (name : NameId) (b : Bool) (s : Form)
    → is_generator (roll-Generator (record { place = p; name = name; sequential = b; source = s }))
    ≡ is_expression (shape s)
unfolding shape is_item is_branch is_generator is_clause
generator-shape p name b s =
    fold-roll-Generator Shape Bool Bool Bool Bool shape_form shape_item shape_branch shape_generator
    shape_clause (record { place = p; name = name; sequential = b; source = s })

generator-writes : (p : Place) (name : NameId) (b : Bool) (s : Form)
    → written_generator
    (roll-Generator (record { place = p; name = name; sequential = b; source = s })) ≡ written s
unfolding written written_item written_branch written_generator written_clause
generator-writes p name b s =
    fold-roll-Generator (List Ty) (List Ty) (List Ty) (List Ty) (List Ty) written_form written_part
    written_arm written_source written_case
    (record { place = p; name = name; sequential = b; source = s })

clause-shape : (p : Place) (ty : Ty) (v : Form)
    → is_clause (roll-TypeBranch (record { place = p; ty = ty; value = v }))
    ≡ is_expression (shape v)
unfolding shape is_item is_branch is_generator is_clause
clause-shape p ty v =
    fold-roll-TypeBranch Shape Bool Bool Bool Bool shape_form shape_item shape_branch
    shape_generator shape_clause (record { place = p; ty = ty; value = v })

clause-writes : (p : Place) (ty : Ty) (v : Form)
    → written_clause (roll-TypeBranch (record { place = p; ty = ty; value = v })) ≡ ty ∷ written v
unfolding written written_item written_branch written_generator written_clause
clause-writes p ty v =
    fold-roll-TypeBranch (List Ty) (List Ty) (List Ty) (List Ty) (List Ty) written_form written_part
    written_arm written_source written_case (record { place = p; ty = ty; value = v })

so : {c : Bool} → c ≡ true → expression_if c ≡ an_expression
so e = ap expression_if e

postfix-so : {c : Bool} → c ≡ true → is_element (postfix_if c) ≡ true
postfix-so e = ap (λ c. is_element (postfix_if c)) e

module _ (P : Ty → Type 0) where
  abbrev pub IsGood : Form → Type 0
  IsGood f = (shape f ≡ an_expression) × AllByRecursion P (written f)

  -- an element of a run behind its first one
  abbrev pub GoodElement : Form → Type 0
  GoodElement f = (is_element (shape f) ≡ true) × AllByRecursion P (written f)

  abbrev pub GoodItem : Item → Type 0
  GoodItem i = (is_item i ≡ true) × AllByRecursion P (written_item i)

  abbrev pub GoodBranch : Branch → Type 0
  GoodBranch b = (is_branch b ≡ true) × AllByRecursion P (written_branch b)

  abbrev pub GoodGenerator : Generator → Type 0
  GoodGenerator g = (is_generator g ≡ true) × AllByRecursion P (written_generator g)

  abbrev pub GoodClause : TypeBranch → Type 0
  GoodClause b = (is_clause b ≡ true) × AllByRecursion P (written_clause b)

  abbrev pub GoodMaybe : Option Form → Type 0
  GoodMaybe None = Unit {0}
  GoodMaybe (Some f) = IsGood f

  pub as-element : (f : Form) → IsGood f → GoodElement f
  as-element f g = (ap is_element g.0, g.1)

  made : (f : Form) (x : Form-F Form Item Branch Generator TypeBranch) → out-Form f ≡ x
      → shape_form (shapes x) ≡ an_expression → AllByRecursion P (written_form (writes x))
      → IsGood f
  made f x is s w = (
    shape-is f is
        ∙ s,
    subst (AllByRecursion P) (sym (written-out f ∙ ap (λ y. written_form (writes y)) is))
        w,
  )

  made-element : (f : Form) (x : Form-F Form Item Branch Generator TypeBranch) → out-Form f ≡ x
      → is_element (shape_form (shapes x)) ≡ true → AllByRecursion P (written_form (writes x))
      → GoodElement f
  made-element f x is s w = (
    ap is_element (shape-is f is)
        ∙ s,
    subst (AllByRecursion P) (sym (written-out f ∙ ap (λ y. written_form (writes y)) is))
        w,
  )

  made-item : (i : Item) (x : Item-F Form Item Branch Generator TypeBranch) → out-Item i ≡ x
      → shape_item (item_shapes x) ≡ true → AllByRecursion P (written_part (item_writes x))
      → GoodItem i
  made-item i x is s w = (
    item-is i ∙ ap (λ y. shape_item (item_shapes y)) is
        ∙ s,
    subst (AllByRecursion P)
        (sym (item-out i ∙ ap (λ y. written_part (item_writes y)) is)) w,
  )

  is : (f : Form) → IsGood f → is_expression (shape f) ≡ true
  is f g = ap is_expression g.0

  pub all-expressions : (fs : List Form) → AllByRecursion IsGood fs
      → are_expressions (map shape fs) ≡ true
  all-expressions [] g = refl
  all-expressions (f ∷ fs) g = both (is f g.0) (all-expressions fs g.1)

  all-written : (fs : List Form) → AllByRecursion IsGood fs
      → AllByRecursion P (together (map written fs))
  all-written [] g = tt
  all-written (f ∷ fs) g =
      all_join P (written f) (together (map written fs)) g.0.1 (all-written fs g.1)

  all-elements : (fs : List Form) → AllByRecursion GoodElement fs
      → are_elements (map shape fs) ≡ true
  all-elements [] g = refl
  all-elements (f ∷ fs) g = both g.0.0 (all-elements fs g.1)

  elements-written : (fs : List Form) → AllByRecursion GoodElement fs
      → AllByRecursion P (together (map written fs))
  elements-written [] g = tt
  elements-written (f ∷ fs) g =
      all_join P (written f) (together (map written fs)) g.0.1 (elements-written fs g.1)

  all-shaped : {X : Type 0} (test : X → Bool) (w : X → List Ty) (xs : List X)
      → AllByRecursion (λ (x : X). (test x ≡ true) × AllByRecursion P (w x)) xs
      → (are_shaped (map test xs) ≡ true) × AllByRecursion P (together (map w xs))
  all-shaped test w [] g = (refl, tt)
  all-shaped test w (x ∷ xs) g =
      let r = all-shaped test w xs g.1
      in (both g.0.0 r.0, all_join P (w x) (together (map w xs)) g.0.1 r.1)

  -- ---- forms

  pub good-Number : (p : Place) (n : ℕ) → IsGood (a_form.Number p n)
  good-Number p n =
      let e : out-Form (a_form.Number p n) ≡ Form-F.Number p n = search (rules, the_lemmas)
      in made (a_form.Number p n) (Form-F.Number p n) e refl tt

  pub good-Text : (p : Place) (n : ℕ) → IsGood (a_form.Text p n)
  good-Text p n =
      let e : out-Form (a_form.Text p n) ≡ Form-F.Text p n = search (rules, the_lemmas)
      in made (a_form.Text p n) (Form-F.Text p n) e refl tt

  pub good-Truth : (p : Place) (b : Bool) → IsGood (a_form.Truth p b)
  good-Truth p b =
      let e : out-Form (a_form.Truth p b) ≡ Form-F.Truth p b = search (rules, the_lemmas)
      in made (a_form.Truth p b) (Form-F.Truth p b) e refl tt

  pub good-Receiver : (p : Place) → IsGood (a_form.Receiver p)
  good-Receiver p =
      let e : out-Form (a_form.Receiver p) ≡ Form-F.Receiver p = search (rules, the_lemmas)
      in made (a_form.Receiver p) (Form-F.Receiver p) e refl tt

  pub good-Name : (p : Place) (name : NameId) → IsGood (a_form.Name p name)
  good-Name p name =
      let e : out-Form (a_form.Name p name) ≡ Form-F.Name p name = search (rules, the_lemmas)
      in made (a_form.Name p name) (Form-F.Name p name) e refl tt

  pub good-Parens : (p : Place) (f : Form) → IsGood f → IsGood (a_form.Parens p f)
  good-Parens p f g =
      let e : out-Form (a_form.Parens p f) ≡ Form-F.Parens p f = search (rules, the_lemmas)
      in made (a_form.Parens p f) (Form-F.Parens p f) e (so (is f g)) g.1

  pub good-Tuple : (p : Place) (fs : List Form) → AllByRecursion IsGood fs
      → IsGood (a_form.Tuple p fs)
  good-Tuple p fs g =
      let e : out-Form (a_form.Tuple p fs) ≡ Form-F.Tuple p fs = search (rules, the_lemmas)
      in made (a_form.Tuple p fs) (Form-F.Tuple p fs) e (so (all-expressions fs g))
      (all-written fs g)

  pub good-Operator : (p : Place) (op : Op) (fs : List Form) → AllByRecursion IsGood fs
      → IsGood (a_form.Operator p op fs)
  good-Operator p op fs g =
      let e : out-Form (a_form.Operator p op fs) ≡ Form-F.Operator p op fs =
      search (rules, the_lemmas)
      in made (a_form.Operator p op fs) (Form-F.Operator p op fs) e (so (all-expressions fs g))
      (all-written fs g)

  pub good-Chain : (p : Place) (ops : List Op) (fs : List Form)
      → are_sides ops (map shape fs) ≡ true → AllByRecursion IsGood fs
      → IsGood (a_form.Chain p ops fs)
  good-Chain p ops fs s g =
      let e : out-Form (a_form.Chain p ops fs) ≡ Form-F.Chain p ops fs = search (rules, the_lemmas)
      in made (a_form.Chain p ops fs) (Form-F.Chain p ops fs) e (so s) (all-written fs g)

  pub good-Beside : (p : Place) (f d : Form) (fs : List Form) → AllByRecursion IsGood (f ∷ d ∷ fs)
      → IsGood (a_form.Beside p (f ∷ d ∷ fs))
  good-Beside p f d fs g =
      let e : out-Form (a_form.Beside p (f ∷ d ∷ fs)) ≡ Form-F.Beside p (f ∷ d ∷ fs) =
      search (rules, the_lemmas) in
      made (a_form.Beside p (f ∷ d ∷ fs)) (Form-F.Beside p (f ∷ d ∷ fs)) e
      (so (all-expressions (f ∷ d ∷ fs) g)) (all-written (f ∷ d ∷ fs) g)

  pub good-Run : (p : Place) (f d : Form) (fs : List Form) → IsGood f
      → AllByRecursion GoodElement (d ∷ fs) → IsGood (a_form.Run p (f ∷ d ∷ fs))
  good-Run p f d fs g h =
      let e : out-Form (a_form.Run p (f ∷ d ∷ fs)) ≡ Form-F.Run p (f ∷ d ∷ fs) =
      search (rules, the_lemmas) in
      made (a_form.Run p (f ∷ d ∷ fs)) (Form-F.Run p (f ∷ d ∷ fs)) e
      (so (both (is f g) (all-elements (d ∷ fs) h)))
      (all_join P (written f) (together (map written (d ∷ fs))) g.1 (elements-written (d ∷ fs) h))

  pub element-Subscript : (p : Place) (f : Form) → IsGood f → GoodElement (a_form.Subscript p f)
  element-Subscript p f g =
      let e : out-Form (a_form.Subscript p f) ≡ Form-F.Subscript p f = search (rules, the_lemmas)
      in made-element (a_form.Subscript p f) (Form-F.Subscript p f) e (postfix-so (is f g)) g.1

  pub element-Power : (p : Place) (f : Form) → IsGood f → GoodElement (a_form.Power p f)
  element-Power p f g =
      let e : out-Form (a_form.Power p f) ≡ Form-F.Power p f = search (rules, the_lemmas)
      in made-element (a_form.Power p f) (Form-F.Power p f) e (postfix-so (is f g)) g.1

  pub element-Field : (p spot : Place) (name : NameId) → GoodElement (a_form.Field p spot name)
  element-Field p spot name =
      let e : out-Form (a_form.Field p spot name) ≡ Form-F.Field p spot name =
      search (rules, the_lemmas)
      in made-element (a_form.Field p spot name) (Form-F.Field p spot name) e refl tt

  pub element-Method : (p spot : Place) (name : NameId) (fs : List Form) → AllByRecursion IsGood fs
      → GoodElement (a_form.Method p spot name fs)
  element-Method p spot name fs g =
      let e : out-Form (a_form.Method p spot name fs) ≡ Form-F.Method p spot name fs =
      search (rules, the_lemmas) in
      made-element (a_form.Method p spot name fs) (Form-F.Method p spot name fs) e
      (postfix-so (all-expressions fs g)) (all-written fs g)

  pub good-Fill : (p : Place) (ty : Ty) (n v : Form) → P ty → IsGood n → IsGood v
      → IsGood (a_form.Fill p ty n v)
  good-Fill p ty n v t g h =
      let e : out-Form (a_form.Fill p ty n v) ≡ Form-F.Fill p ty n v = search (rules, the_lemmas) in
      made (a_form.Fill p ty n v) (Form-F.Fill p ty n v) e (so (both (is n g) (is v h))) (
        t,
        all_join P (written n) (written v) g.1 h.1,
      )

  pub good-Block : (p : Place) (is : List Item) → AllByRecursion GoodItem is
      → IsGood (a_form.Block p is)
  good-Block p items g =
      let e : out-Form (a_form.Block p items) ≡ Form-F.Block p items = search (rules, the_lemmas)
      in let r = all-shaped is_item written_item items g
      in made (a_form.Block p items) (Form-F.Block p items) e (so r.0) r.1

  pub good-Do : (p : Place) (b : Form) (bs : List Form) → AllByRecursion IsGood (b ∷ bs)
      → IsGood (a_form.Do p (b ∷ bs))
  good-Do p b bs g =
      let e : out-Form (a_form.Do p (b ∷ bs)) ≡ Form-F.Do p (b ∷ bs) = search (rules, the_lemmas)
      in made (a_form.Do p (b ∷ bs)) (Form-F.Do p (b ∷ bs)) e (so (all-expressions (b ∷ bs) g))
      (all-written (b ∷ bs) g)

  pub good-If : (p : Place) (bs : List Branch) (o : Option Form) → AllByRecursion GoodBranch bs
      → GoodMaybe o → IsGood (a_form.If p bs o)
  good-If p bs None g h =
      let e : out-Form (a_form.If p bs None) ≡ Form-F.If p bs None = search (rules, the_lemmas)
      in let r = all-shaped is_branch written_branch bs g in
      made (a_form.If p bs None) (Form-F.If p bs None) e (so (both r.0 refl))
      (all_join P (together (map written_branch bs)) [] r.1 tt)
  good-If p bs (Some f) g h =
      let e : out-Form (a_form.If p bs (Some f)) ≡ Form-F.If p bs (Some f) =
      search (rules, the_lemmas) in let r = all-shaped is_branch written_branch bs g in
      made (a_form.If p bs (Some f)) (Form-F.If p bs (Some f)) e (so (both r.0 (is f h)))
      (all_join P (together (map written_branch bs)) (written f) r.1 h.1)

  pub good-While : (p : Place) (c b : Form) → IsGood c → IsGood b → IsGood (a_form.While p c b)
  good-While p c b g h =
      let e : out-Form (a_form.While p c b) ≡ Form-F.While p c b = search (rules, the_lemmas)
      in made (a_form.While p c b) (Form-F.While p c b) e (so (both (is c g) (is b h)))
      (all_join P (written c) (written b) g.1 h.1)

  pub good-For : (p : Place) (gs : List Generator) (b : Form) → AllByRecursion GoodGenerator gs
      → IsGood b → IsGood (a_form.For p gs b)
  good-For p gs b g h =
      let e : out-Form (a_form.For p gs b) ≡ Form-F.For p gs b = search (rules, the_lemmas)
      in let r = all-shaped is_generator written_generator gs g in
      made (a_form.For p gs b) (Form-F.For p gs b) e (so (both r.0 (is b h)))
      (all_join P (together (map written_generator gs)) (written b) r.1 h.1)

  pub good-Case : (p : Place) (s : Form) (bs : List Branch) (o : Option Form) → IsGood s
      → AllByRecursion GoodBranch bs → GoodMaybe o → IsGood (a_form.Case p s bs o)
  good-Case p s bs None k g h =
      let e : out-Form (a_form.Case p s bs None) ≡ Form-F.Case p s bs None =
      search (rules, the_lemmas) in let r = all-shaped is_branch written_branch bs g in
      made (a_form.Case p s bs None) (Form-F.Case p s bs None) e
      (so (both (is s k) (both r.0 refl)))
      (all_join P (written s ++ together (map written_branch bs)) []
      (all_join P (written s) (together (map written_branch bs)) k.1 r.1) tt)
  good-Case p s bs (Some f) k g h =
      let e : out-Form (a_form.Case p s bs (Some f)) ≡ Form-F.Case p s bs (Some f) =
      search (rules, the_lemmas) in let r = all-shaped is_branch written_branch bs g in
      made (a_form.Case p s bs (Some f)) (Form-F.Case p s bs (Some f)) e
      (so (both (is s k) (both r.0 (is f h))))
      (all_join P (written s ++ together (map written_branch bs)) (written f)
      (all_join P (written s) (together (map written_branch bs)) k.1 r.1) h.1)

  pub good-Typecase : (p spot : Place) (name : NameId) (s : Form) (bs : List TypeBranch)
      (o : Option Form) → IsGood s → AllByRecursion GoodClause bs → GoodMaybe o
      → IsGood (a_form.Typecase p spot name s bs o)
  good-Typecase p spot name s bs None k g h =
      let e : out-Form (a_form.Typecase p spot name s bs None)
      ≡ Form-F.Typecase p spot name s bs None = search (rules, the_lemmas) in
      let r = all-shaped is_clause written_clause bs g in
      made (a_form.Typecase p spot name s bs None) (Form-F.Typecase p spot name s bs None) e
      (so (both (is s k) (both r.0 refl)))
      (all_join P (written s ++ together (map written_clause bs)) []
      (all_join P (written s) (together (map written_clause bs)) k.1 r.1) tt)
  good-Typecase p spot name s bs (Some f) k g h =
      let e : out-Form (a_form.Typecase p spot name s bs (Some f))
      ≡ Form-F.Typecase p spot name s bs (Some f) = search (rules, the_lemmas) in
      let r = all-shaped is_clause written_clause bs g in
      made (a_form.Typecase p spot name s bs (Some f)) (Form-F.Typecase p spot name s bs (Some f)) e
      (so (both (is s k) (both r.0 (is f h))))
      (all_join P (written s ++ together (map written_clause bs)) (written f)
      (all_join P (written s) (together (map written_clause bs)) k.1 r.1) h.1)

  pub good-Try : (p : Place) (s : Form) (name : Option (Place × NameId)) (bs : List TypeBranch)
      (o : Option Form) → IsGood s → AllByRecursion GoodClause bs → GoodMaybe o
      → IsGood (a_form.Try p s name bs o)
  good-Try p s name bs None k g h =
      let e : out-Form (a_form.Try p s name bs None) ≡ Form-F.Try p s name bs None =
      search (rules, the_lemmas) in let r = all-shaped is_clause written_clause bs g in
      made (a_form.Try p s name bs None) (Form-F.Try p s name bs None) e
      (so (both (is s k) (both r.0 refl)))
      (all_join P (written s ++ together (map written_clause bs)) []
      (all_join P (written s) (together (map written_clause bs)) k.1 r.1) tt)
  good-Try p s name bs (Some f) k g h =
      let e : out-Form (a_form.Try p s name bs (Some f)) ≡ Form-F.Try p s name bs (Some f) =
      search (rules, the_lemmas) in let r = all-shaped is_clause written_clause bs g in
      made (a_form.Try p s name bs (Some f)) (Form-F.Try p s name bs (Some f)) e
      (so (both (is s k) (both r.0 (is f h))))
      (all_join P (written s ++ together (map written_clause bs)) (written f)
      (all_join P (written s) (together (map written_clause bs)) k.1 r.1) h.1)

  pub good-Atomic : (p : Place) (f : Form) → IsGood f → IsGood (a_form.Atomic p f)
  good-Atomic p f g =
      let e : out-Form (a_form.Atomic p f) ≡ Form-F.Atomic p f = search (rules, the_lemmas)
      in made (a_form.Atomic p f) (Form-F.Atomic p f) e (so (is f g)) g.1

  pub good-Tryatomic : (p : Place) (f : Form) → IsGood f → IsGood (a_form.Tryatomic p f)
  good-Tryatomic p f g =
      let e : out-Form (a_form.Tryatomic p f) ≡ Form-F.Tryatomic p f = search (rules, the_lemmas)
      in made (a_form.Tryatomic p f) (Form-F.Tryatomic p f) e (so (is f g)) g.1

  pub good-Throw : (p : Place) (f : Form) → IsGood f → IsGood (a_form.Throw p f)
  good-Throw p f g =
      let e : out-Form (a_form.Throw p f) ≡ Form-F.Throw p f = search (rules, the_lemmas)
      in made (a_form.Throw p f) (Form-F.Throw p f) e (so (is f g)) g.1

  parameter-types : (ps : List Parameter) → AllByRecursion (λ (q : Parameter). P q.ty) ps
      → AllByRecursion P (map parameter_type ps)
  parameter-types [] h = tt
  parameter-types (p ∷ ps) h = (h.0, parameter-types ps h.1)

  pub good-Fn : (p : Place) (ps : List Parameter) (f : Form)
      → AllByRecursion (λ (q : Parameter). P q.ty) ps → IsGood f → IsGood (a_form.Fn p ps f)
  good-Fn p ps f h g =
      let e : out-Form (a_form.Fn p ps f) ≡ Form-F.Fn p ps f = search (rules, the_lemmas)
      in made (a_form.Fn p ps f) (Form-F.Fn p ps f) e (so (is f g))
      (all_join P (map parameter_type ps) (written f) (parameter-types ps h) g.1)

  pub good-Spawn : (spawning : NameId) (p : Place) (f : Form) → IsGood f
      → IsGood (spawned spawning p f)
  good-Spawn spawning p f g =
      let call = a_form.Parens p (a_form.Fn p [] f) in
      good-Run p (a_form.Name p spawning) call [] (good-Name p spawning)
      (as-element call (good-Parens p (a_form.Fn p [] f) (good-Fn p [] f tt g)), tt)

  pub good-Reduce : (p : Place) (r : Reduction) (s : Generator) (f : Form) → GoodGenerator s
      → IsGood f → IsGood (a_form.Reduce p r s f)
  good-Reduce p r s f h g =
      let e : out-Form (a_form.Reduce p r s f) ≡ Form-F.Reduce p r s f = search (rules, the_lemmas)
      in
      made (a_form.Reduce p r s f) (Form-F.Reduce p r s f) e (so (both h.0 (is f g)))
      (all_join P (written_generator s) (written f) h.1 g.1)

  pub good-Assign : (p : Place) (t : Form) (sign : Update) (f : Form) → IsGood t → IsGood f
      → IsGood (a_form.Assign p t sign f)
  good-Assign p t sign f h g =
      let e : out-Form (a_form.Assign p t sign f) ≡ Form-F.Assign p t sign f =
      search (rules, the_lemmas) in
      made (a_form.Assign p t sign f) (Form-F.Assign p t sign f) e (so (both (is t h) (is f g)))
      (all_join P (written t) (written f) h.1 g.1)

  -- ---- items, clauses, generators

  pub item-Local : (p : Place) (name : NameId) (m : Bool) (ty : Ty) (f : Form) → P ty → IsGood f
      → GoodItem (an_item.Local p name m ty f)
  item-Local p name m ty f t g =
      let e : out-Item (an_item.Local p name m ty f) ≡ Item-F.Local p name m ty f =
      search (rules, the_lemmas)
      in made-item (an_item.Local p name m ty f) (Item-F.Local p name m ty f) e (is f g) (t, g.1)

  pub item-Locals : (p : Place) (names : List (Place × NameId)) (ty : Ty) (f : Form) → P ty
      → IsGood f → GoodItem (an_item.Locals p names ty f)
  item-Locals p names ty f t g =
      let e : out-Item (an_item.Locals p names ty f) ≡ Item-F.Locals p names ty f =
      search (rules, the_lemmas)
      in made-item (an_item.Locals p names ty f) (Item-F.Locals p names ty f) e (is f g) (t, g.1)

  pub item-Expression : (f : Form) → IsGood f → GoodItem (an_item.Expression f)
  item-Expression f g =
      let e : out-Item (an_item.Expression f) ≡ Item-F.Expression f = search (rules, the_lemmas)
      in made-item (an_item.Expression f) (Item-F.Expression f) e (is f g) g.1

  pub good-branch : (t v : Form) → IsGood t → IsGood v
      → GoodBranch (roll-Branch (record { test = t; value = v }))
  good-branch t v g h = (
    branch-shape t v
        ∙ both (is t g) (is v h),
    subst (AllByRecursion P) (sym (branch-writes t v))
        (all_join P (written t) (written v) g.1 h.1),
  )

  pub good-generator : (p : Place) (name : NameId) (b : Bool) (s : Form) → IsGood s
      → GoodGenerator
      (roll-Generator (record { place = p; name = name; sequential = b; source = s }))
  good-generator p name b s g = (
    generator-shape p name b s
        ∙ is s g,
    subst (AllByRecursion P) (sym (generator-writes p name b s)) g.1,
  )

  pub good-clause : (p : Place) (ty : Ty) (v : Form) → P ty → IsGood v
      → GoodClause (roll-TypeBranch (record { place = p; ty = ty; value = v }))
  good-clause p ty v t g =
      (clause-shape p ty v ∙ is v g, subst (AllByRecursion P) (sym (clause-writes p ty v)) (t, g.1))
