-- What is made of parts that have their figures has its own.
use Rattle.std.proofs.Common.{◌≡◌, ◌≤◌, ℕ, Bool, List, [], ◌∷◌, ◌++◌, length, map, Option, Some, None, rules, ap, ◌∙◌, sym, subst}
use Rattle.std.specs.List.{AllByRecursion}
use Rattle.fort_base.specs.declared.ids.NameId.{NameId}
use Rattle.fort_base.specs.declared.refusal.Place.{Place}
use Rattle.fort_base.specs.declared.ty.Ty.{Ty}
use Rattle.fort_ops.specs.declared.op.Op.{Op}
use Rattle.fort_form.specs.declared.form.Form.{Form, out-Form, map-Form, fold_out-Form, the_lemmas}
use Rattle.fort_form.specs.declared.form.Form.TheVariants as a_form
use Rattle.fort_form.specs.declared.form.Form.TheOpen.{Form-F, Item-F}
use Rattle.fort_form.specs.declared.form.Item.{Item, out-Item, map-Item, fold_out-Item}
use Rattle.fort_form.specs.declared.form.Item.TheVariants as an_item
use Rattle.fort_form.specs.declared.form.Branch.{Branch, roll-Branch, fold-roll-Branch}
use Rattle.fort_form.specs.declared.form.Generator.{Generator, roll-Generator, fold-roll-Generator}
use Rattle.fort_form.specs.declared.form.TypeBranch.{TypeBranch, roll-TypeBranch, fold-roll-TypeBranch}
use Rattle.fort_form.specs.declared.form.Parameter.{Parameter}
use Rattle.fort_form.specs.declared.form.Reduction.{Reduction}
use Rattle.fort_form.specs.declared.form.Update.{Update}
use Rattle.fort_sound_forms.specs.Figures.{Figure, IsRight, together, figures_form, figures_part, figures_arm, figures_source, figures_case, figures, figures_item, figures_branch, figures_generator, figures_clause, HasFigures}
use Rattle.fort_form_meaning.specs.Forming.{spawned}
use Rattle.fort_form_law_figures.proofs.Lists.{all_join}

abbrev Right : List Figure → Type 0
Right ns = AllByRecursion IsRight ns

abbrev pub GoodItem : Item → Type 0
GoodItem i = AllByRecursion IsRight (figures_item i)

abbrev pub GoodBranch : Branch → Type 0
GoodBranch b = AllByRecursion IsRight (figures_branch b)

abbrev pub GoodGenerator : Generator → Type 0
GoodGenerator g = AllByRecursion IsRight (figures_generator g)

abbrev pub GoodClause : TypeBranch → Type 0
GoodClause b = AllByRecursion IsRight (figures_clause b)

abbrev pub AllGood : List Form → Type 0
AllGood fs = AllByRecursion HasFigures fs

abbrev pub GoodMaybe : Option Form → Type 0
GoodMaybe None = Unit {0}
GoodMaybe (Some f) = HasFigures f

abbrev mapped : Form-F Form Item Branch Generator TypeBranch
    → Form-F (List Figure) (List Figure) (List Figure) (List Figure) (List Figure)
mapped x =
    map-Form Form Item Branch Generator TypeBranch (List Figure) (List Figure) (List Figure)
    (List Figure) (List Figure) figures figures_item
    figures_branch figures_generator figures_clause x

abbrev item_mapped : Item-F Form Item Branch Generator TypeBranch
    → Item-F (List Figure) (List Figure) (List Figure) (List Figure) (List Figure)
item_mapped x =
    map-Item Form Item Branch Generator TypeBranch (List Figure) (List Figure) (List Figure)
    (List Figure) (List Figure) figures figures_item
    figures_branch figures_generator figures_clause x

figures-out : (e : Form) → figures e ≡ figures_form (mapped (out-Form e))
unfolding figures figures_item figures_branch figures_generator figures_clause
figures-out e =
    fold_out-Form (List Figure) (List Figure) (List Figure) (List Figure) (List Figure) figures_form
    figures_part figures_arm figures_source
    figures_case e

item-out : (i : Item) → figures_item i ≡ figures_part (item_mapped (out-Item i))
unfolding figures figures_item figures_branch figures_generator figures_clause
item-out i =
    fold_out-Item (List Figure) (List Figure) (List Figure) (List Figure) (List Figure) figures_form
    figures_part figures_arm figures_source
    figures_case i

branch-figures : (t v : Form)
    → figures_branch (roll-Branch (record { test = t; value = v })) ≡ figures t ++ figures v
unfolding figures figures_item figures_branch figures_generator figures_clause
branch-figures t v =
    fold-roll-Branch (List Figure) (List Figure) (List Figure) (List Figure) (List Figure)
    figures_form figures_part figures_arm
    figures_source figures_case (record { test = t; value = v })

generator-figures : (p : Place) (name : NameId) (b : Bool) (s : Form)
    → figures_generator
    (roll-Generator (record { place = p; name = name; sequential = b; source = s })) ≡ figures s
unfolding figures figures_item figures_branch figures_generator figures_clause
generator-figures p name b s =
    fold-roll-Generator (List Figure) (List Figure) (List Figure) (List Figure) (List Figure)
    figures_form figures_part
    figures_arm figures_source figures_case
    (record { place = p; name = name; sequential = b; source = s })

clause-figures : (p : Place) (ty : Ty) (v : Form)
    → figures_clause (roll-TypeBranch (record { place = p; ty = ty; value = v })) ≡ figures v
unfolding figures figures_item figures_branch figures_generator figures_clause
clause-figures p ty v =
    fold-roll-TypeBranch (List Figure) (List Figure) (List Figure) (List Figure) (List Figure)
    figures_form figures_part figures_arm
    figures_source figures_case (record { place = p; ty = ty; value = v })

made : (f : Form) (x : Form-F Form Item Branch Generator TypeBranch) → out-Form f ≡ x
    → Right (figures_form (mapped x)) → HasFigures f
made f x is w = subst Right (sym (figures-out f ∙ ap (λ y. figures_form (mapped y)) is)) w

made-item : (i : Item) (x : Item-F Form Item Branch Generator TypeBranch) → out-Item i ≡ x
    → Right (figures_part (item_mapped x)) → GoodItem i
made-item i x is w = subst Right (sym (item-out i ∙ ap (λ y. figures_part (item_mapped y)) is)) w

joined : (xs ys : List Figure) → Right xs → Right ys → Right (xs ++ ys)
joined xs ys g h = all_join IsRight xs ys g h

all : {X : Type 0} (w : X → List Figure) (xs : List X) → AllByRecursion (λ (x : X). Right (w x)) xs
    → Right (together (map w xs))
all w [] g = tt
all w (x ∷ xs) g = joined (w x) (together (map w xs)) g.0 (all w xs g.1)

-- ---- forms

pub good-Number : (p : Place) (n : ℕ) → n ≤ 9223372036854775807 → HasFigures (a_form.Number p n)
good-Number p n g =
    let e : out-Form (a_form.Number p n) ≡ Form-F.Number p n = search (rules, the_lemmas) in
    made (a_form.Number p n) (Form-F.Number p n) e (g, tt)

pub good-Text : (p : Place) (n : ℕ) → HasFigures (a_form.Text p n)
good-Text p n =
    let e : out-Form (a_form.Text p n) ≡ Form-F.Text p n = search (rules, the_lemmas)
    in made (a_form.Text p n) (Form-F.Text p n) e tt

pub good-Truth : (p : Place) (b : Bool) → HasFigures (a_form.Truth p b)
good-Truth p b =
    let e : out-Form (a_form.Truth p b) ≡ Form-F.Truth p b = search (rules, the_lemmas)
    in made (a_form.Truth p b) (Form-F.Truth p b) e tt

pub good-Receiver : (p : Place) → HasFigures (a_form.Receiver p)
good-Receiver p =
    let e : out-Form (a_form.Receiver p) ≡ Form-F.Receiver p = search (rules, the_lemmas)
    in made (a_form.Receiver p) (Form-F.Receiver p) e tt

pub good-Name : (p : Place) (name : NameId) → HasFigures (a_form.Name p name)
good-Name p name =
    let e : out-Form (a_form.Name p name) ≡ Form-F.Name p name = search (rules, the_lemmas) in
    made (a_form.Name p name) (Form-F.Name p name) e tt

pub good-Parens : (p : Place) (f : Form) → HasFigures f → HasFigures (a_form.Parens p f)
good-Parens p f g =
    let e : out-Form (a_form.Parens p f) ≡ Form-F.Parens p f = search (rules, the_lemmas)
    in made (a_form.Parens p f) (Form-F.Parens p f) e g

pub good-Tuple : (p : Place) (fs : List Form) → AllGood fs → HasFigures (a_form.Tuple p fs)
good-Tuple p fs g =
    let e : out-Form (a_form.Tuple p fs) ≡ Form-F.Tuple p fs = search (rules, the_lemmas) in
    made (a_form.Tuple p fs) (Form-F.Tuple p fs) e (all figures fs g)

pub good-Operator : (p : Place) (op : Op) (fs : List Form) → AllGood fs
    → HasFigures (a_form.Operator p op fs)
good-Operator p op fs g =
    let e : out-Form (a_form.Operator p op fs) ≡ Form-F.Operator p op fs =
    search (rules, the_lemmas) in
    made (a_form.Operator p op fs) (Form-F.Operator p op fs) e (all figures fs g)

pub good-Chain : (p : Place) (ops : List Op) (fs : List Form) → 1 ≤ length ops → AllGood fs
    → HasFigures (a_form.Chain p ops fs)
good-Chain p ops fs g h =
    let e : out-Form (a_form.Chain p ops fs) ≡ Form-F.Chain p ops fs = search (rules, the_lemmas) in
    made (a_form.Chain p ops fs) (Form-F.Chain p ops fs) e (g, all figures fs h)

pub good-Beside : (p : Place) (fs : List Form) → AllGood fs → HasFigures (a_form.Beside p fs)
good-Beside p fs g =
    let e : out-Form (a_form.Beside p fs) ≡ Form-F.Beside p fs = search (rules, the_lemmas) in
    made (a_form.Beside p fs) (Form-F.Beside p fs) e (all figures fs g)

pub good-Run : (p : Place) (fs : List Form) → AllGood fs → HasFigures (a_form.Run p fs)
good-Run p fs g =
    let e : out-Form (a_form.Run p fs) ≡ Form-F.Run p fs = search (rules, the_lemmas) in
    made (a_form.Run p fs) (Form-F.Run p fs) e (all figures fs g)

pub good-Subscript : (p : Place) (f : Form) → HasFigures f → HasFigures (a_form.Subscript p f)
good-Subscript p f g =
    let e : out-Form (a_form.Subscript p f) ≡ Form-F.Subscript p f = search (rules, the_lemmas) in
    made (a_form.Subscript p f) (Form-F.Subscript p f) e g

pub good-Power : (p : Place) (f : Form) → HasFigures f → HasFigures (a_form.Power p f)
good-Power p f g =
    let e : out-Form (a_form.Power p f) ≡ Form-F.Power p f = search (rules, the_lemmas)
    in made (a_form.Power p f) (Form-F.Power p f) e g

pub good-Field : (p spot : Place) (name : NameId) → HasFigures (a_form.Field p spot name)
good-Field p spot name =
    let e : out-Form (a_form.Field p spot name) ≡ Form-F.Field p spot name =
    search (rules, the_lemmas) in
    made (a_form.Field p spot name) (Form-F.Field p spot name) e tt

pub good-Method : (p spot : Place) (name : NameId) (fs : List Form) → AllGood fs
    → HasFigures (a_form.Method p spot name fs)
good-Method p spot name fs g =
    let e : out-Form (a_form.Method p spot name fs) ≡ Form-F.Method p spot name fs =
    search (rules, the_lemmas) in
    made (a_form.Method p spot name fs) (Form-F.Method p spot name fs) e (all figures fs g)

pub good-Fill : (p : Place) (ty : Ty) (n v : Form) → HasFigures n → HasFigures v
    → HasFigures (a_form.Fill p ty n v)
good-Fill p ty n v g h =
    let e : out-Form (a_form.Fill p ty n v) ≡ Form-F.Fill p ty n v = search (rules, the_lemmas) in
    made (a_form.Fill p ty n v) (Form-F.Fill p ty n v) e (joined (figures n) (figures v) g h)

pub good-Block : (p : Place) (is : List Item) → AllByRecursion GoodItem is
    → HasFigures (a_form.Block p is)
good-Block p is g =
    let e : out-Form (a_form.Block p is) ≡ Form-F.Block p is = search (rules, the_lemmas) in
    made (a_form.Block p is) (Form-F.Block p is) e (all figures_item is g)

pub good-Do : (p : Place) (bs : List Form) → AllGood bs → HasFigures (a_form.Do p bs)
good-Do p bs g =
    let e : out-Form (a_form.Do p bs) ≡ Form-F.Do p bs = search (rules, the_lemmas)
    in made (a_form.Do p bs) (Form-F.Do p bs) e
    (all figures bs g)

pub good-If : (p : Place) (bs : List Branch) (o : Option Form) → AllByRecursion GoodBranch bs
    → GoodMaybe o → HasFigures (a_form.If p bs o)
good-If p bs None g h =
    let e : out-Form (a_form.If p bs None) ≡ Form-F.If p bs None = search (rules, the_lemmas) in
    made (a_form.If p bs None) (Form-F.If p bs None) e
    (joined (together (map figures_branch bs)) [] (all figures_branch bs g) tt)
good-If p bs (Some f) g h =
    let e : out-Form (a_form.If p bs (Some f)) ≡ Form-F.If p bs (Some f) =
    search (rules, the_lemmas) in
    made (a_form.If p bs (Some f)) (Form-F.If p bs (Some f)) e
    (joined (together (map figures_branch bs)) (figures f) (all figures_branch bs g) h)

pub good-While : (p : Place) (c b : Form) → HasFigures c → HasFigures b
    → HasFigures (a_form.While p c b)
good-While p c b g h =
    let e : out-Form (a_form.While p c b) ≡ Form-F.While p c b = search (rules, the_lemmas) in
    made (a_form.While p c b) (Form-F.While p c b) e (joined (figures c) (figures b) g h)

pub good-For : (p : Place) (gs : List Generator) (b : Form) → AllByRecursion GoodGenerator gs
    → HasFigures b → HasFigures (a_form.For p gs b)
good-For p gs b g h =
    let e : out-Form (a_form.For p gs b) ≡ Form-F.For p gs b = search (rules, the_lemmas) in
    made (a_form.For p gs b) (Form-F.For p gs b) e
    (joined (together (map figures_generator gs)) (figures b) (all figures_generator gs g) h)

pub good-Case : (p : Place) (s : Form) (bs : List Branch) (o : Option Form) → HasFigures s
    → AllByRecursion GoodBranch bs → GoodMaybe o
    → HasFigures (a_form.Case p s bs o)
good-Case p s bs None g h k =
    let e : out-Form (a_form.Case p s bs None) ≡ Form-F.Case p s bs None =
    search (rules, the_lemmas) in
    made (a_form.Case p s bs None) (Form-F.Case p s bs None) e
    (joined (figures s ++ together (map figures_branch bs)) []
    (joined (figures s) (together (map figures_branch bs)) g (all figures_branch bs h)) tt)
good-Case p s bs (Some f) g h k =
    let e : out-Form (a_form.Case p s bs (Some f)) ≡ Form-F.Case p s bs (Some f) =
    search (rules, the_lemmas) in
    made (a_form.Case p s bs (Some f)) (Form-F.Case p s bs (Some f)) e
    (joined (figures s ++ together (map figures_branch bs)) (figures f)
    (joined (figures s) (together (map figures_branch bs)) g (all figures_branch bs h)) k)

pub good-Typecase : (p spot : Place) (name : NameId) (s : Form) (bs : List TypeBranch)
    (o : Option Form) → HasFigures s → AllByRecursion GoodClause bs
    → GoodMaybe o → HasFigures (a_form.Typecase p spot name s bs o)
good-Typecase p spot name s bs None g h k =
    let e : out-Form (a_form.Typecase p spot name s bs None)
    ≡ Form-F.Typecase p spot name s bs None = search
    (rules, the_lemmas) in
    made (a_form.Typecase p spot name s bs None) (Form-F.Typecase p spot name s bs None) e
    (joined (figures s ++ together (map figures_clause bs)) []
    (joined (figures s) (together (map figures_clause bs)) g (all figures_clause bs h)) tt)
good-Typecase p spot name s bs (Some f) g h k =
    let e : out-Form (a_form.Typecase p spot name s bs (Some f))
    ≡ Form-F.Typecase p spot name s bs (Some f) =
    search (rules, the_lemmas) in
    made (a_form.Typecase p spot name s bs (Some f)) (Form-F.Typecase p spot name s bs (Some f)) e
    (joined (figures s ++ together (map figures_clause bs)) (figures f)
    (joined (figures s) (together (map figures_clause bs)) g (all figures_clause bs h)) k)

pub good-Try : (p : Place) (s : Form) (name : Option (Place × NameId)) (bs : List TypeBranch)
    (o : Option Form) → HasFigures s
    → AllByRecursion GoodClause bs → GoodMaybe o → HasFigures (a_form.Try p s name bs o)
good-Try p s name bs None g h k =
    let e : out-Form (a_form.Try p s name bs None) ≡ Form-F.Try p s name bs None =
    search (rules, the_lemmas) in
    made (a_form.Try p s name bs None) (Form-F.Try p s name bs None) e
    (joined (figures s ++ together (map figures_clause bs)) []
    (joined (figures s) (together (map figures_clause bs)) g (all figures_clause bs h)) tt)
good-Try p s name bs (Some f) g h k =
    let e : out-Form (a_form.Try p s name bs (Some f)) ≡ Form-F.Try p s name bs (Some f) =
    search (rules, the_lemmas) in
    made (a_form.Try p s name bs (Some f)) (Form-F.Try p s name bs (Some f)) e
    (joined (figures s ++ together (map figures_clause bs)) (figures f)
    (joined (figures s) (together (map figures_clause bs)) g (all figures_clause bs h)) k)

pub good-Atomic : (p : Place) (f : Form) → HasFigures f → HasFigures (a_form.Atomic p f)
good-Atomic p f g =
    let e : out-Form (a_form.Atomic p f) ≡ Form-F.Atomic p f = search (rules, the_lemmas)
    in made (a_form.Atomic p f) (Form-F.Atomic p f) e g

pub good-Tryatomic : (p : Place) (f : Form) → HasFigures f → HasFigures (a_form.Tryatomic p f)
good-Tryatomic p f g =
    let e : out-Form (a_form.Tryatomic p f) ≡ Form-F.Tryatomic p f = search (rules, the_lemmas) in
    made (a_form.Tryatomic p f) (Form-F.Tryatomic p f) e g

pub good-Throw : (p : Place) (f : Form) → HasFigures f → HasFigures (a_form.Throw p f)
good-Throw p f g =
    let e : out-Form (a_form.Throw p f) ≡ Form-F.Throw p f = search (rules, the_lemmas)
    in made (a_form.Throw p f) (Form-F.Throw p f) e g

pub good-Fn : (p : Place) (ps : List Parameter) (f : Form) → HasFigures f
    → HasFigures (a_form.Fn p ps f)
good-Fn p ps f g =
    let e : out-Form (a_form.Fn p ps f) ≡ Form-F.Fn p ps f = search (rules, the_lemmas)
    in made (a_form.Fn p ps f) (Form-F.Fn p ps f) e g

pub good-Spawn : (spawning : NameId) (p : Place) (f : Form) → HasFigures f
    → HasFigures (spawned spawning p f)
good-Spawn spawning p f g =
    good-Run p (a_form.Name p spawning ∷ a_form.Parens p (a_form.Fn p [] f) ∷ [])
    (good-Name p spawning, (good-Parens p (a_form.Fn p [] f) (good-Fn p [] f g), tt))

pub good-Reduce : (p : Place) (r : Reduction) (s : Generator) (f : Form) → GoodGenerator s
    → HasFigures f → HasFigures (a_form.Reduce p r s f)
good-Reduce p r s f g h =
    let e : out-Form (a_form.Reduce p r s f) ≡ Form-F.Reduce p r s f = search (rules, the_lemmas) in
    made (a_form.Reduce p r s f) (Form-F.Reduce p r s f) e
    (joined (figures_generator s) (figures f) g h)

pub good-Assign : (p : Place) (t : Form) (sign : Update) (f : Form) → HasFigures t → HasFigures f
    → HasFigures (a_form.Assign p t sign f)
good-Assign p t sign f g h =
    let e : out-Form (a_form.Assign p t sign f) ≡ Form-F.Assign p t sign f =
    search (rules, the_lemmas) in
    made (a_form.Assign p t sign f) (Form-F.Assign p t sign f) e
    (joined (figures t) (figures f) g h)

-- ---- items, clauses, generators

pub item-Local : (p : Place) (name : NameId) (m : Bool) (ty : Ty) (f : Form) → HasFigures f
    → GoodItem (an_item.Local p name m ty f)
item-Local p name m ty f g =
    let e : out-Item (an_item.Local p name m ty f) ≡ Item-F.Local p name m ty f =
    search (rules, the_lemmas) in
    made-item (an_item.Local p name m ty f) (Item-F.Local p name m ty f) e g

pub item-Locals : (p : Place) (names : List (Place × NameId)) (ty : Ty) (f : Form)
    → 2 ≤ length names → HasFigures f → GoodItem (an_item.Locals p names ty f)
item-Locals p names ty f n g =
    let e : out-Item (an_item.Locals p names ty f) ≡ Item-F.Locals p names ty f =
    search (rules, the_lemmas) in
    made-item (an_item.Locals p names ty f) (Item-F.Locals p names ty f) e (n, g)

pub item-Expression : (f : Form) → HasFigures f → GoodItem (an_item.Expression f)
item-Expression f g =
    let e : out-Item (an_item.Expression f) ≡ Item-F.Expression f = search (rules, the_lemmas) in
    made-item (an_item.Expression f) (Item-F.Expression f) e g

pub good-branch : (t v : Form) → HasFigures t → HasFigures v
    → GoodBranch (roll-Branch (record { test = t; value = v }))
good-branch t v g h = subst Right (sym (branch-figures t v)) (joined (figures t) (figures v) g h)

pub good-generator : (p : Place) (name : NameId) (b : Bool) (s : Form) → HasFigures s
    → GoodGenerator (roll-Generator (record { place = p; name = name; sequential = b; source = s }))
good-generator p name b s g = subst Right (sym (generator-figures p name b s)) g

pub good-clause : (p : Place) (ty : Ty) (v : Form) → HasFigures v
    → GoodClause (roll-TypeBranch (record { place = p; ty = ty; value = v }))
good-clause p ty v g = subst Right (sym (clause-figures p ty v)) g
