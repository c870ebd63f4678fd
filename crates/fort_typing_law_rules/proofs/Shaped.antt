-- Each expression of a shape that the grammar gives answers exactly.
use Rattle.std.proofs.Common.{◌≡◌, suc, Bool, true, false, ◌&&◌, List, [], ◌∷◌, length, map, Option, Some, None, refl, ap, ◌∙◌, sym}
use Rattle.std.specs.List.{AllByRecursion}
use Rattle.fort_base.specs.declared.refusal.Place.{Place}
use Rattle.fort_ops.specs.declared.op.Op.{Op}
use Rattle.fort_form.specs.declared.form.Form.{Form, out-Form}
use Rattle.fort_form.specs.declared.form.Form.TheOpen.{Form-F, Item-F}
use Rattle.fort_form.specs.declared.form.Item.{Item, out-Item}
use Rattle.fort_form.specs.declared.form.Branch.{Branch}
use Rattle.fort_form.specs.declared.form.Generator.{Generator, out-Generator}
use Rattle.fort_form.specs.declared.form.TypeBranch.{TypeBranch, out-TypeBranch}
use Rattle.fort_form.specs.Shapes.{Shape, an_expression, a_postfix, no_shape, is_expression, is_element, expression_if, postfix_if, are_expressions, are_elements, are_shaped, are_as_many, are_sides, are_units, are_of_run, are_blocks, shape_form, shape_item, shape, is_item, is_branch, is_generator, is_clause}
use Rattle.fort_form.proofs.ByParts.{MayBe, InItem, OfItem, OfBranch, OfGenerator, OfClause, Parts, by_parts}
use Rattle.fort_form.proofs.Layers.{shapes, item_shapes, shape-is, item-is, branch-is, generator-is, clause-is}
use Rattle.fort_typing_known.specs.Known.{Knows}
use Rattle.fort_typing_rules.specs.Typing.{postfix_at, test_of, value_of}
use Rattle.fort_typing_law_rules.specs.Deciding.{IsAccepted}
use Rattle.fort_typing_law_rules.specs.Written.{IsWritten}
use Rattle.fort_typing_law_rules.specs.Exact.{IsExact, IsExactExpression, AreExact, MayBeExact, ItemAtExact, ItemExact, SourceExact, ClauseExact, PartsExact}
use Rattle.fort_typing_law_rules.specs.Shaped.{ShapedAreExact}
use Rattle.fort_typing_law_rules.proofs.Written.{AllWritten, BranchWritten, GeneratorWritten, ClauseWritten, MayBeWritten, ItemLayer, ItemWritten, Layer, of-parts, of-item}
use Rattle.fort_typing_law_rules.proofs.Exactly.{forms_are_exact}

left : (a b : Bool) → a && b ≡ true → a ≡ true
left true b e = refl
left false b e = e

right : (a b : Bool) → a && b ≡ true → b ≡ true
right true b e = e
right false b e = absurd (let z : false ≡ true = e in cc)

-- an expression if its parts are
expression-of : (c : Bool) → is_element (expression_if c) ≡ true → c ≡ true
expression-of true e = refl
expression-of false e = e

postfix-of : (c : Bool) → is_element (postfix_if c) ≡ true → c ≡ true
postfix-of true e = refl
postfix-of false e = e

no-postfix : (c : Bool) → is_expression (postfix_if c) ≡ true → ⊥
no-postfix true e = absurd (let z : false ≡ true = e in cc)
no-postfix false e = absurd (let z : false ≡ true = e in cc)

element-of : (s : Shape) → is_expression s ≡ true → is_element s ≡ true
element-of an_expression e = refl
element-of a_postfix e = refl
element-of no_shape e = e

plain-at : (x : Form-F Form Item Branch Generator TypeBranch)
    → is_expression (shape_form (shapes x)) ≡ true → postfix_at x ≡ false
plain-at (Form-F.Subscript p d) e = absurd (no-postfix (is_expression (shape d)) e)
plain-at (Form-F.Power p d) e = absurd (no-postfix (is_expression (shape d)) e)
plain-at (Form-F.Field p at name) e = absurd (let z : false ≡ true = e in cc)
plain-at (Form-F.Method p at name es) e = absurd (no-postfix (are_expressions (map shape es)) e)
plain-at _ e = refl

plain-form : (e : Form) → is_expression (shape e) ≡ true → postfix_at (out-Form e) ≡ false
plain-form e s = plain-at (out-Form e) (ap is_expression (sym (shape-is e refl)) ∙ s)

as-many : (ops : List Op) (es : List Form) → are_as_many ops (map shape es) ≡ true
    → length es ≡ length ops
as-many [] [] h = refl
as-many [] (e ∷ es) h = absurd (let z : false ≡ true = h in cc)
as-many (op ∷ ops) [] h = absurd (let z : false ≡ true = h in cc)
as-many (op ∷ ops) (e ∷ es) h = ap suc (as-many ops es h)

-- an expression where it is there
abbrev there : Option Form → Bool
there None = true
there (Some e) = is_expression (shape e)

module _ (k : Knows) (A : IsAccepted k) where
  -- what is shown of each form
  abbrev Shown : Form → Type 0
  Shown e = IsWritten k e → is_element (shape e) ≡ true → IsExact k e

  expression : (e : Form) → Shown e → IsWritten k e → is_expression (shape e) ≡ true
      → IsExactExpression k e
  expression e p w s = (plain-form e s, p w (element-of (shape e) s))

  expressions : (es : List Form) → AllByRecursion Shown es → AllWritten k es
      → are_expressions (map shape es) ≡ true → AreExact k es
  expressions [] p w s = tt
  expressions (e ∷ es) p w s = (
    expression e p.0 w.0 (left (is_expression (shape e)) (are_expressions (map shape es)) s),
    expressions es p.1 w.1
        (right (is_expression (shape e)) (are_expressions (map shape es)) s),
  )

  elements : (es : List Form) → AllByRecursion Shown es → AllWritten k es
      → are_elements (map shape es) ≡ true → AllByRecursion (IsExact k) es
  elements [] p w s = tt
  elements (e ∷ es) p w s = (
    p.0 w.0 (left (is_element (shape e)) (are_elements (map shape es)) s),
    elements es p.1 w.1 (right (is_element (shape e)) (are_elements (map shape es)) s),
  )

  other : (o : Option Form) → MayBe Shown o → MayBeWritten k o → there o ≡ true → MayBeExact k o
  other None p w s = tt
  other (Some e) p w s = expression e p w s

  at-item : (x : Item-F Form Item Branch Generator TypeBranch) → InItem Shown x → ItemLayer k x
      → shape_item (item_shapes x) ≡ true → ItemAtExact k x
  at-item (Item-F.Local p name mutable ty e) h w s = expression e h w.1 s
  at-item (Item-F.Locals p names ty e) h w s = expression e h w.1 s
  at-item (Item-F.Expression e) h w s = expression e h w s

  items : (is : List Item) → AllByRecursion (OfItem Shown) is → AllByRecursion (ItemWritten k) is
      → are_shaped (map is_item is) ≡ true → AllByRecursion (ItemExact k) is
  items [] p w s = tt
  items (i ∷ is) p w s = (
    at-item (out-Item i) p.0 (of-item k i refl w.0) (sym (item-is i)
        ∙ left (is_item i) (are_shaped (map is_item is)) s),
    items is p.1 w.1 (right (is_item i) (are_shaped (map is_item is)) s),
  )

  branch : (b : Branch) → OfBranch Shown b → BranchWritten k b → is_branch b ≡ true
      → IsExactExpression k (test_of b) × IsExactExpression k (value_of b)
  branch b p w s =
      let z = sym (branch-is b) ∙ s in (
        expression (test_of b) p.0 w.0
            (left (is_expression (shape (test_of b))) (is_expression (shape (value_of b))) z),
        expression (value_of b) p.1 w.1
            (right (is_expression (shape (test_of b))) (is_expression (shape (value_of b))) z),
      )

  tests : (bs : List Branch) → AllByRecursion (OfBranch Shown) bs
      → AllByRecursion (BranchWritten k) bs → are_shaped (map is_branch bs) ≡ true
      → AreExact k (map test_of bs)
  tests [] p w s = tt
  tests (b ∷ bs) p w s = (
    (branch b p.0 w.0 (left (is_branch b) (are_shaped (map is_branch bs)) s)).0,
    tests bs p.1 w.1 (right (is_branch b) (are_shaped (map is_branch bs)) s),
  )

  values : (bs : List Branch) → AllByRecursion (OfBranch Shown) bs
      → AllByRecursion (BranchWritten k) bs → are_shaped (map is_branch bs) ≡ true
      → AreExact k (map value_of bs)
  values [] p w s = tt
  values (b ∷ bs) p w s = (
    (branch b p.0 w.0 (left (is_branch b) (are_shaped (map is_branch bs)) s)).1,
    values bs p.1 w.1 (right (is_branch b) (are_shaped (map is_branch bs)) s),
  )

  source : (g : Generator) → OfGenerator Shown g → GeneratorWritten k g → is_generator g ≡ true
      → SourceExact k g
  source g p w s = expression (out-Generator g).source p w (sym (generator-is g) ∙ s)

  sources : (gs : List Generator) → AllByRecursion (OfGenerator Shown) gs
      → AllByRecursion (GeneratorWritten k) gs → are_shaped (map is_generator gs) ≡ true
      → AllByRecursion (SourceExact k) gs
  sources [] p w s = tt
  sources (g ∷ gs) p w s = (
    source g p.0 w.0 (left (is_generator g) (are_shaped (map is_generator gs)) s),
    sources gs p.1 w.1 (right (is_generator g) (are_shaped (map is_generator gs)) s),
  )

  clauses : (bs : List TypeBranch) → AllByRecursion (OfClause Shown) bs
      → AllByRecursion (ClauseWritten k) bs → are_shaped (map is_clause bs) ≡ true
      → AllByRecursion (ClauseExact k) bs
  clauses [] p w s = tt
  clauses (b ∷ bs) p w s = (
    expression (out-TypeBranch b).value p.0 w.0.1 (sym (clause-is b)
        ∙ left (is_clause b) (are_shaped (map is_clause bs)) s),
    clauses bs p.1 w.1 (right (is_clause b) (are_shaped (map is_clause bs)) s),
  )

  chain : (ops : List Op) (es : List Form) (p : Place) → AllByRecursion Shown es → AllWritten k es
      → are_sides ops (map shape es) ≡ true → PartsExact k (Form-F.Chain p ops es)
  chain ops [] q p w s = absurd (let z : false ≡ true = s in cc)
  chain ops (d ∷ []) q p w s = absurd (let z : false ≡ true = s in cc)
  chain ops (d ∷ e ∷ es) q p w s =
      let more =
      expressions (d ∷ e ∷ es) p w
      (right (are_as_many ops (map shape (e ∷ es))) (are_expressions (map shape (d ∷ e ∷ es)))
      s) in (
        as-many ops (e ∷ es)
            (left (are_as_many ops (map shape (e ∷ es)))
            (are_expressions (map shape (d ∷ e ∷ es))) s),
        more.0,
        more.1,
      )

  beside : (es : List Form) (p : Place) → AllByRecursion Shown es → AllWritten k es
      → are_units (map shape es) ≡ true → PartsExact k (Form-F.Beside p es)
  beside [] q p w s = absurd (let z : false ≡ true = s in cc)
  beside (d ∷ []) q p w s = absurd (let z : false ≡ true = s in cc)
  beside (d ∷ e ∷ es) q p w s = expressions (d ∷ e ∷ es) p w s

  run : (es : List Form) (p : Place) → AllByRecursion Shown es → AllWritten k es
      → are_of_run (map shape es) ≡ true → PartsExact k (Form-F.Run p es)
  run [] q p w s = absurd (let z : false ≡ true = s in cc)
  run (d ∷ []) q p w s = absurd (let z : false ≡ true = s in cc)
  run (d ∷ e ∷ es) q p w s = (
    expression d p.0 w.0 (left (is_expression (shape d)) (are_elements (map shape (e ∷ es))) s),
    elements (e ∷ es) p.1 w.1
        (right (is_expression (shape d)) (are_elements (map shape (e ∷ es))) s),
  )

  blocks : (es : List Form) (p : Place) → AllByRecursion Shown es → AllWritten k es
      → are_blocks (map shape es) ≡ true → PartsExact k (Form-F.Do p es)
  blocks [] q p w s = absurd (let z : false ≡ true = s in cc)
  blocks (d ∷ es) q p w s = expressions (d ∷ es) p w s

  if_then : (p : Place) (bs : List Branch) (o : Option Form)
      → AllByRecursion (OfBranch Shown) bs × MayBe Shown o
      → AllByRecursion (BranchWritten k) bs × MayBeWritten k o
      → are_shaped (map is_branch bs) && there o ≡ true → PartsExact k (Form-F.If p bs o)
  if_then p bs o h w z =
      let y = left (are_shaped (map is_branch bs)) (there o) z in (
        tests bs h.0 w.0 y,
        values bs h.0 w.0 y,
        other o h.1 w.1 (right (are_shaped (map is_branch bs)) (there o) z),
      )

  case : (p : Place) (d : Form) (bs : List Branch) (o : Option Form)
      → Shown d × AllByRecursion (OfBranch Shown) bs × MayBe Shown o
      → IsWritten k d × AllByRecursion (BranchWritten k) bs × MayBeWritten k o
      → is_expression (shape d) && (are_shaped (map is_branch bs) && there o) ≡ true
      → PartsExact k (Form-F.Case p d bs o)
  case p d bs o h w z =
      let y = right (is_expression (shape d)) (are_shaped (map is_branch bs) && there o) z in
      let x = left (are_shaped (map is_branch bs)) (there o) y in (
        expression d h.0 w.0
            (left (is_expression (shape d)) (are_shaped (map is_branch bs) && there o) z),
        tests bs h.1 w.1 x,
        values bs h.1 w.1 x,
        other o h.2 w.2 (right (are_shaped (map is_branch bs)) (there o) y),
      )

  typed_clauses : (d : Form) (bs : List TypeBranch) (o : Option Form)
      → Shown d × AllByRecursion (OfClause Shown) bs × MayBe Shown o
      → IsWritten k d × AllByRecursion (ClauseWritten k) bs × MayBeWritten k o
      → is_expression (shape d) && (are_shaped (map is_clause bs) && there o) ≡ true
      → IsExactExpression k d × AllByRecursion (ClauseExact k) bs × MayBeExact k o
  typed_clauses d bs o h w z =
      let y = right (is_expression (shape d)) (are_shaped (map is_clause bs) && there o) z in (
        expression d h.0 w.0
            (left (is_expression (shape d)) (are_shaped (map is_clause bs) && there o) z),
        clauses bs h.1 w.1 (left (are_shaped (map is_clause bs)) (there o) y),
        other o h.2 w.2 (right (are_shaped (map is_clause bs)) (there o) y),
      )

  -- the parts of a form are exact
  parts : (x : Form-F Form Item Branch Generator TypeBranch) → Parts Shown x → Layer k x
      → is_element (shape_form (shapes x)) ≡ true → PartsExact k x
  parts (Form-F.Number p n) h w s = tt
  parts (Form-F.Text p n) h w s = tt
  parts (Form-F.Truth p b) h w s = tt
  parts (Form-F.Receiver p) h w s = tt
  parts (Form-F.Name p name) h w s = tt
  parts (Form-F.Field p at name) h w s = tt
  parts (Form-F.Parens p e) h w s = expression e h w (expression-of (is_expression (shape e)) s)
  parts (Form-F.Tuple p es) h w s =
      expressions es h w (expression-of (are_expressions (map shape es)) s)
  parts (Form-F.Operator p op es) h w s =
      expressions es h w (expression-of (are_expressions (map shape es)) s)
  parts (Form-F.Chain p ops es) h w s =
      chain ops es p h w (expression-of (are_sides ops (map shape es)) s)
  parts (Form-F.Beside p es) h w s = beside es p h w (expression-of (are_units (map shape es)) s)
  parts (Form-F.Run p es) h w s = run es p h w (expression-of (are_of_run (map shape es)) s)
  parts (Form-F.Subscript p e) h w s = expression e h w (postfix-of (is_expression (shape e)) s)
  parts (Form-F.Power p e) h w s = expression e h w (postfix-of (is_expression (shape e)) s)
  parts (Form-F.Method p at name es) h w s =
      expressions es h w (postfix-of (are_expressions (map shape es)) s)
  parts (Form-F.Fill p ty n v) h w s =
      let z = expression-of (is_expression (shape n) && is_expression (shape v)) s in (
        expression n h.0 w.1 (left (is_expression (shape n)) (is_expression (shape v)) z),
        expression v h.1 w.2 (right (is_expression (shape n)) (is_expression (shape v)) z),
      )
  parts (Form-F.Block p is) h w s = items is h w (expression-of (are_shaped (map is_item is)) s)
  parts (Form-F.Do p es) h w s = blocks es p h w (expression-of (are_blocks (map shape es)) s)
  parts (Form-F.If p bs None) h w s =
      if_then p bs None h w (expression-of (are_shaped (map is_branch bs) && there None) s)
  parts (Form-F.If p bs (Some e)) h w s =
      if_then p bs (Some e) h w (expression-of (are_shaped (map is_branch bs) && there (Some e)) s)
  parts (Form-F.While p c b) h w s =
      let z = expression-of (is_expression (shape c) && is_expression (shape b)) s in (
        expression c h.0 w.0 (left (is_expression (shape c)) (is_expression (shape b)) z),
        expression b h.1 w.1 (right (is_expression (shape c)) (is_expression (shape b)) z),
      )
  parts (Form-F.For p gs b) h w s =
      let z = expression-of (are_shaped (map is_generator gs) && is_expression (shape b)) s in (
        sources gs h.0 w.0 (left (are_shaped (map is_generator gs)) (is_expression (shape b)) z),
        expression b h.1 w.1
            (right (are_shaped (map is_generator gs)) (is_expression (shape b)) z),
      )
  parts (Form-F.Case p d bs None) h w s =
      case p d bs None h w
      (expression-of (is_expression (shape d) && (are_shaped (map is_branch bs) && there None)) s)
  parts (Form-F.Case p d bs (Some e)) h w s =
      case p d bs (Some e) h w
      (expression-of (is_expression (shape d)
      && (are_shaped (map is_branch bs) && there (Some e))) s)
  parts (Form-F.Typecase p at name d bs None) h w s =
      typed_clauses d bs None h w
      (expression-of (is_expression (shape d) && (are_shaped (map is_clause bs) && there None)) s)
  parts (Form-F.Typecase p at name d bs (Some e)) h w s =
      typed_clauses d bs (Some e) h w
      (expression-of (is_expression (shape d)
      && (are_shaped (map is_clause bs) && there (Some e))) s)
  parts (Form-F.Try p d name bs None) h w s =
      typed_clauses d bs None h w
      (expression-of (is_expression (shape d) && (are_shaped (map is_clause bs) && there None)) s)
  parts (Form-F.Try p d name bs (Some e)) h w s =
      typed_clauses d bs (Some e) h w
      (expression-of (is_expression (shape d)
      && (are_shaped (map is_clause bs) && there (Some e))) s)
  parts (Form-F.Atomic p e) h w s = expression e h w (expression-of (is_expression (shape e)) s)
  parts (Form-F.Tryatomic p e) h w s = expression e h w (expression-of (is_expression (shape e)) s)
  parts (Form-F.Throw p e) h w s = expression e h w (expression-of (is_expression (shape e)) s)
  parts (Form-F.Fn p ps e) h w s = expression e h w.1 (expression-of (is_expression (shape e)) s)
  parts (Form-F.Reduce p r g e) h w s =
      let z = expression-of (is_generator g && is_expression (shape e)) s in (
        source g h.0 w.0 (left (is_generator g) (is_expression (shape e)) z),
        expression e h.1 w.1 (right (is_generator g) (is_expression (shape e)) z),
      )
  parts (Form-F.Assign p t sign e) h w s =
      let z = expression-of (is_expression (shape t) && is_expression (shape e)) s in (
        expression t h.0 w.0 (left (is_expression (shape t)) (is_expression (shape e)) z),
        expression e h.1 w.1 (right (is_expression (shape t)) (is_expression (shape e)) z),
      )

  shown : (e : Form) → Parts Shown (out-Form e) → Shown e
  shown e h W s =
      forms_are_exact k A e W
      (parts (out-Form e) h (of-parts k e refl W) (ap is_element (sym (shape-is e refl)) ∙ s))

pub shaped_are_exact : ShapedAreExact
shaped_are_exact k A e W S =
    expression k A e (by_parts (Shown k A) (shown k A) e) W (ap is_expression S)
