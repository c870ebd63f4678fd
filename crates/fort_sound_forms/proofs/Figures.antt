-- The figures of the parts of a form.
use Rattle.std.proofs.Common.{◌≡◌, ◌≤◌, List, [], ◌∷◌, ◌++◌, length, map, Option, Some, None, rules, subst}
use Rattle.std.specs.Prelude.{option_map}
use Rattle.std.specs.List.{AllByRecursion}
use Rattle.fort_form.specs.declared.form.Form.{Form, out-Form, map-Form, fold_out-Form, the_lemmas}
use Rattle.fort_form.specs.declared.form.Form.TheOpen.{Form-F, Item-F}
use Rattle.fort_form.specs.declared.form.Item.{Item, out-Item, map-Item, fold_out-Item}
use Rattle.fort_form.specs.declared.form.Branch.{Branch}
use Rattle.fort_form.specs.declared.form.Generator.{Generator, out-Generator}
use Rattle.fort_form.specs.declared.form.TypeBranch.{TypeBranch, out-TypeBranch}
use Rattle.fort_typing_rules.specs.Typing.{test_of, value_of}
use Rattle.fort_typing_law_rules.proofs.Types.{all_left, all_right}
use Rattle.fort_sound_forms.specs.Figures.{Figure, IsRight, together, if_there, figures_form, figures_part, figures_arm, figures_source, figures_case, figures, figures_item, figures_branch, figures_generator, figures_clause, HasFigures}

branch-is : (b : Branch) → figures_branch b ≡ figures (test_of b) ++ figures (value_of b)
unfolding figures figures_item figures_branch figures_generator figures_clause
branch-is b = search (rules, the_lemmas)

generator-is : (g : Generator) → figures_generator g ≡ figures (out-Generator g).source
unfolding figures figures_item figures_branch figures_generator figures_clause
generator-is g = search (rules, the_lemmas)

clause-is : (b : TypeBranch) → figures_clause b ≡ figures (out-TypeBranch b).value
unfolding figures figures_item figures_branch figures_generator figures_clause
clause-is b = search (rules, the_lemmas)

abbrev pub AllFigured : List Form → Type 0
AllFigured es = AllByRecursion (HasFigures) es

abbrev pub BranchFigured : Branch → Type 0
BranchFigured b = HasFigures (test_of b) × HasFigures (value_of b)

abbrev pub GeneratorFigured : Generator → Type 0
GeneratorFigured g = HasFigures (out-Generator g).source

abbrev pub ClauseFigured : TypeBranch → Type 0
ClauseFigured b = HasFigures (out-TypeBranch b).value

abbrev pub MayBeFigured : Option Form → Type 0
MayBeFigured None = Unit {0}
MayBeFigured (Some e) = HasFigures e

abbrev pub ItemLayer : Item-F Form Item Branch Generator TypeBranch → Type 0
ItemLayer (Item-F.Local p name mutable ty e) = HasFigures e
ItemLayer (Item-F.Locals p xs ty e) = (2 ≤ length xs) × HasFigures e
ItemLayer (Item-F.Expression e) = HasFigures e

abbrev pub ItemFigured : Item → Type 0
ItemFigured i = AllByRecursion IsRight (figures_item i)

-- the parts of a layer
abbrev pub Layer : Form-F Form Item Branch Generator TypeBranch → Type 0
Layer (Form-F.Number p n) = n ≤ 9223372036854775807
Layer (Form-F.Parens p e) = HasFigures e
Layer (Form-F.Tuple p es) = AllFigured es
Layer (Form-F.Operator p op es) = AllFigured es
Layer (Form-F.Chain p ops es) = (1 ≤ length ops) × AllFigured es
Layer (Form-F.Beside p es) = AllFigured es
Layer (Form-F.Run p es) = AllFigured es
Layer (Form-F.Subscript p e) = HasFigures e
Layer (Form-F.Power p e) = HasFigures e
Layer (Form-F.Method p at name es) = AllFigured es
Layer (Form-F.Fill p ty n v) = HasFigures n × HasFigures v
Layer (Form-F.Block p is) = AllByRecursion ItemFigured is
Layer (Form-F.Do p blocks) = AllFigured blocks
Layer (Form-F.If p branches other) = AllByRecursion BranchFigured branches × MayBeFigured other
Layer (Form-F.While p c b) = HasFigures c × HasFigures b
Layer (Form-F.For p gs b) = AllByRecursion GeneratorFigured gs × HasFigures b
Layer (Form-F.Case p s branches other) = HasFigures s × AllByRecursion BranchFigured branches
    × MayBeFigured other
Layer (Form-F.Typecase p at name s branches other) = HasFigures s
    × AllByRecursion ClauseFigured branches × MayBeFigured other
Layer (Form-F.Try p b name branches last) = HasFigures b × AllByRecursion ClauseFigured branches
    × MayBeFigured last
Layer (Form-F.Atomic p e) = HasFigures e
Layer (Form-F.Tryatomic p e) = HasFigures e
Layer (Form-F.Throw p e) = HasFigures e
Layer (Form-F.Fn p ps e) = HasFigures e
Layer (Form-F.Reduce p r g e) = GeneratorFigured g × HasFigures e
Layer (Form-F.Assign p t sign e) = HasFigures t × HasFigures e
Layer _ = Unit {0}

front : (xs ys : List Figure) → AllByRecursion IsRight (xs ++ ys) → AllByRecursion IsRight xs
front xs ys h = all_left IsRight xs ys h

back : (xs ys : List Figure) → AllByRecursion IsRight (xs ++ ys) → AllByRecursion IsRight ys
back xs ys h = all_right IsRight xs ys h

all-forms : (es : List Form) → AllByRecursion IsRight (together (map figures es)) → AllFigured es
all-forms [] h = tt
all-forms (e ∷ es) h = (
  front (figures e) (together (map figures es)) h,
  all-forms es (back (figures e) (together (map figures es)) h),
)

all-items : (is : List Item) → AllByRecursion IsRight (together (map figures_item is))
    → AllByRecursion ItemFigured is
all-items [] h = tt
all-items (i ∷ is) h = (
  front (figures_item i) (together (map figures_item is)) h,
  all-items is (back (figures_item i) (together (map figures_item is)) h),
)

one-branch : (b : Branch) → AllByRecursion IsRight (figures_branch b) → BranchFigured b
one-branch b h =
    let i = subst (AllByRecursion IsRight) (branch-is b) h
    in (
      front (figures (test_of b)) (figures (value_of b)) i,
      back (figures (test_of b)) (figures (value_of b)) i,
    )

all-branches : (bs : List Branch) → AllByRecursion IsRight (together (map figures_branch bs))
    → AllByRecursion BranchFigured bs
all-branches [] h = tt
all-branches (b ∷ bs) h = (
  one-branch b (front (figures_branch b) (together (map figures_branch bs)) h),
  all-branches bs (back (figures_branch b) (together (map figures_branch bs)) h),
)

one-generator : (g : Generator) → AllByRecursion IsRight (figures_generator g) → GeneratorFigured g
one-generator g h = subst (AllByRecursion IsRight) (generator-is g) h

all-generators : (gs : List Generator)
    → AllByRecursion IsRight (together (map figures_generator gs))
    → AllByRecursion GeneratorFigured gs
all-generators [] h = tt
all-generators (g ∷ gs) h = (
  one-generator g (front (figures_generator g) (together (map figures_generator gs)) h),
  all-generators gs (back (figures_generator g) (together (map figures_generator gs)) h),
)

one-clause : (b : TypeBranch) → AllByRecursion IsRight (figures_clause b) → ClauseFigured b
one-clause b h = subst (AllByRecursion IsRight) (clause-is b) h

all-clauses : (bs : List TypeBranch) → AllByRecursion IsRight (together (map figures_clause bs))
    → AllByRecursion ClauseFigured bs
all-clauses [] h = tt
all-clauses (b ∷ bs) h = (
  one-clause b (front (figures_clause b) (together (map figures_clause bs)) h),
  all-clauses bs (back (figures_clause b) (together (map figures_clause bs)) h),
)

may-be : (o : Option Form) → AllByRecursion IsRight (if_there (option_map figures o))
    → MayBeFigured o
may-be None h = tt
may-be (Some e) h = h

abbrev mapped : Form-F Form Item Branch Generator TypeBranch
    → Form-F (List Figure) (List Figure) (List Figure) (List Figure) (List Figure)
mapped x =
    map-Form Form Item Branch Generator TypeBranch (List Figure) (List Figure) (List Figure)
    (List Figure) (List Figure) figures figures_item figures_branch figures_generator figures_clause
    x

layer : (x : Form-F Form Item Branch Generator TypeBranch)
    → AllByRecursion IsRight (figures_form (mapped x)) → Layer x
layer (Form-F.Number p n) h = h.0
layer (Form-F.Text p n) h = tt
layer (Form-F.Truth p b) h = tt
layer (Form-F.Receiver p) h = tt
layer (Form-F.Name p name) h = tt
layer (Form-F.Field p at name) h = tt
layer (Form-F.Parens p e) h = h
layer (Form-F.Tuple p es) h = all-forms es h
layer (Form-F.Operator p op es) h = all-forms es h
layer (Form-F.Chain p ops es) h = (h.0, all-forms es h.1)
layer (Form-F.Beside p es) h = all-forms es h
layer (Form-F.Run p es) h = all-forms es h
layer (Form-F.Subscript p e) h = h
layer (Form-F.Power p e) h = h
layer (Form-F.Method p at name es) h = all-forms es h
layer (Form-F.Fill p ty n v) h = (front (figures n) (figures v) h, back (figures n) (figures v) h)
layer (Form-F.Block p is) h = all-items is h
layer (Form-F.Do p blocks) h = all-forms blocks h
layer (Form-F.If p branches None) h =
    (all-branches branches (front (together (map figures_branch branches)) [] h), tt)
layer (Form-F.If p branches (Some d)) h = (
  all-branches branches (front (together (map figures_branch branches)) (figures d) h),
  back (together (map figures_branch branches)) (figures d) h,
)
layer (Form-F.While p c b) h = (front (figures c) (figures b) h, back (figures c) (figures b) h)
layer (Form-F.For p gs b) h = (
  all-generators gs (front (together (map figures_generator gs)) (figures b) h),
  back (together (map figures_generator gs)) (figures b) h,
)
layer (Form-F.Case p s branches None) h =
    let r = front (figures s ++ together (map figures_branch branches)) [] h in (
      front (figures s) (together (map figures_branch branches)) r,
      all-branches branches (back (figures s) (together (map figures_branch branches)) r),
      tt,
    )
layer (Form-F.Case p s branches (Some d)) h =
    let r = front (figures s ++ together (map figures_branch branches)) (figures d) h in (
      front (figures s) (together (map figures_branch branches)) r,
      all-branches branches (back (figures s) (together (map figures_branch branches)) r),
      back (figures s ++ together (map figures_branch branches)) (figures d) h,
    )
layer (Form-F.Typecase p at name s branches None) h =
    let r = front (figures s ++ together (map figures_clause branches)) [] h in (
      front (figures s) (together (map figures_clause branches)) r,
      all-clauses branches (back (figures s) (together (map figures_clause branches)) r),
      tt,
    )
layer (Form-F.Typecase p at name s branches (Some d)) h =
    let r = front (figures s ++ together (map figures_clause branches)) (figures d) h in (
      front (figures s) (together (map figures_clause branches)) r,
      all-clauses branches (back (figures s) (together (map figures_clause branches)) r),
      back (figures s ++ together (map figures_clause branches)) (figures d) h,
    )
layer (Form-F.Try p s name branches None) h =
    let r = front (figures s ++ together (map figures_clause branches)) [] h in (
      front (figures s) (together (map figures_clause branches)) r,
      all-clauses branches (back (figures s) (together (map figures_clause branches)) r),
      tt,
    )
layer (Form-F.Try p s name branches (Some d)) h =
    let r = front (figures s ++ together (map figures_clause branches)) (figures d) h in (
      front (figures s) (together (map figures_clause branches)) r,
      all-clauses branches (back (figures s) (together (map figures_clause branches)) r),
      back (figures s ++ together (map figures_clause branches)) (figures d) h,
    )
layer (Form-F.Atomic p e) h = h
layer (Form-F.Tryatomic p e) h = h
layer (Form-F.Throw p e) h = h
layer (Form-F.Fn p ps e) h = h
layer (Form-F.Reduce p r g e) h = (
  one-generator g (front (figures_generator g) (figures e) h),
  back (figures_generator g) (figures e) h,
)
layer (Form-F.Assign p t sign e) h =
    (front (figures t) (figures e) h, back (figures t) (figures e) h)

figures-out : (e : Form) → figures e ≡ figures_form (mapped (out-Form e))
unfolding figures figures_item figures_branch figures_generator figures_clause
figures-out e =
    fold_out-Form (List Figure) (List Figure) (List Figure) (List Figure) (List Figure) figures_form
    figures_part figures_arm figures_source figures_case e

-- what is figures in a form is figures in its parts
pub of-parts : (e : Form) {x : Form-F Form Item Branch Generator TypeBranch} → out-Form e ≡ x
    → HasFigures e → Layer x
of-parts e {x = x} is h =
    layer x (subst (λ y. AllByRecursion IsRight (figures_form (mapped y))) is
    (subst (AllByRecursion IsRight) (figures-out e) h))

item-layer : (x : Item-F Form Item Branch Generator TypeBranch)
    → AllByRecursion IsRight
    (figures_part
    (map-Item Form Item Branch Generator TypeBranch (List Figure) (List Figure) (List Figure)
    (List Figure) (List Figure) figures figures_item figures_branch figures_generator
    figures_clause x)) → ItemLayer x
item-layer (Item-F.Local p name mutable ty e) h = h
item-layer (Item-F.Locals p xs ty e) h = h
item-layer (Item-F.Expression e) h = h

item-out : (i : Item)
    → figures_item i
    ≡ figures_part
    (map-Item Form Item Branch Generator TypeBranch (List Figure) (List Figure) (List Figure)
    (List Figure) (List Figure) figures figures_item figures_branch figures_generator
    figures_clause (out-Item i))
unfolding figures figures_item figures_branch figures_generator figures_clause
item-out i =
    fold_out-Item (List Figure) (List Figure) (List Figure) (List Figure) (List Figure) figures_form
    figures_part figures_arm figures_source figures_case i

pub of-item : (i : Item) {x : Item-F Form Item Branch Generator TypeBranch} → out-Item i ≡ x
    → ItemFigured i → ItemLayer x
of-item i {x = x} is h =
    item-layer x
    (subst (λ y. AllByRecursion IsRight
    (figures_part
    (map-Item Form Item Branch Generator TypeBranch (List Figure) (List Figure) (List Figure)
    (List Figure) (List Figure) figures figures_item figures_branch figures_generator
    figures_clause y))) is
    (subst (AllByRecursion IsRight) (item-out i) h))

pub tests-of : (bs : List Branch) → AllByRecursion BranchFigured bs → AllFigured (map test_of bs)
tests-of [] h = tt
tests-of (b ∷ bs) h = (h.0.0, tests-of bs h.1)

pub values-of : (bs : List Branch) → AllByRecursion BranchFigured bs → AllFigured (map value_of bs)
values-of [] h = tt
values-of (b ∷ bs) h = (h.0.1, values-of bs h.1)
