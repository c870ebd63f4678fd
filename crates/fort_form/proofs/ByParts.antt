-- Induction over forms: from the parts to the whole.
use Rattle.std.proofs.Common.{◌≡◌, List, [], ◌∷◌, map, Option, Some, None, sym, subst}
use Rattle.std.specs.List.{AllByRecursion}
use Rattle.fort_form.specs.declared.form.Form.{Form, out-Form, roll-Form, out-roll-Form, ind-Form, map-Form}
use Rattle.fort_form.specs.declared.form.Form.TheOpen.{Form-F, Item-F, Branch-F, Generator-F, TypeBranch-F}
use Rattle.fort_form.specs.declared.form.Item.{Item, out-Item, roll-Item, out-roll-Item, map-Item}
use Rattle.fort_form.specs.declared.form.Branch.{Branch, out-Branch, roll-Branch, out-roll-Branch, map-Branch}
use Rattle.fort_form.specs.declared.form.Generator.{Generator, out-Generator, roll-Generator, out-roll-Generator, map-Generator}
use Rattle.fort_form.specs.declared.form.TypeBranch.{TypeBranch, out-TypeBranch, roll-TypeBranch, out-roll-TypeBranch, map-TypeBranch}

-- of what may be lacking
abbrev pub MayBe : (Form → Type 0) → Option Form → Type 0
MayBe P None = Unit {0}
MayBe P (Some e) = P e

-- of the form in an item
abbrev pub InItem : (Form → Type 0) → Item-F Form Item Branch Generator TypeBranch → Type 0
InItem P (Item-F.Local p name mutable ty e) = P e
InItem P (Item-F.Locals p names ty e) = P e
InItem P (Item-F.Expression e) = P e

abbrev pub OfItem : (Form → Type 0) → Item → Type 0
OfItem P i = InItem P (out-Item i)

-- of the forms in a clause
abbrev pub InBranch : (Form → Type 0) → Branch-F Form Item Branch Generator TypeBranch → Type 0
InBranch P b = P b.test × P b.value

abbrev pub OfBranch : (Form → Type 0) → Branch → Type 0
OfBranch P b = InBranch P (out-Branch b)

-- of the form in a generator
abbrev pub InGenerator : (Form → Type 0) → Generator-F Form Item Branch Generator TypeBranch
    → Type 0
InGenerator P g = P g.source

abbrev pub OfGenerator : (Form → Type 0) → Generator → Type 0
OfGenerator P g = InGenerator P (out-Generator g)

-- of the form in a clause of a `typecase` or of a `catch`
abbrev pub InClause : (Form → Type 0) → TypeBranch-F Form Item Branch Generator TypeBranch → Type 0
InClause P b = P b.value

abbrev pub OfClause : (Form → Type 0) → TypeBranch → Type 0
OfClause P b = InClause P (out-TypeBranch b)

-- of the parts of a layer
abbrev pub Parts : (Form → Type 0) → Form-F Form Item Branch Generator TypeBranch → Type 0
Parts P (Form-F.Parens p e) = P e
Parts P (Form-F.Tuple p es) = AllByRecursion P es
Parts P (Form-F.Operator p op es) = AllByRecursion P es
Parts P (Form-F.Chain p ops es) = AllByRecursion P es
Parts P (Form-F.Beside p es) = AllByRecursion P es
Parts P (Form-F.Run p es) = AllByRecursion P es
Parts P (Form-F.Subscript p e) = P e
Parts P (Form-F.Power p e) = P e
Parts P (Form-F.Method p at name es) = AllByRecursion P es
Parts P (Form-F.Fill p ty n v) = P n × P v
Parts P (Form-F.Block p is) = AllByRecursion (OfItem P) is
Parts P (Form-F.Do p blocks) = AllByRecursion P blocks
Parts P (Form-F.If p branches other) = AllByRecursion (OfBranch P) branches × MayBe P other
Parts P (Form-F.While p c b) = P c × P b
Parts P (Form-F.For p gs b) = AllByRecursion (OfGenerator P) gs × P b
Parts P (Form-F.Case p s branches other) = P s × AllByRecursion (OfBranch P) branches
    × MayBe P other
Parts P (Form-F.Typecase p at name s branches other) = P s × AllByRecursion (OfClause P) branches
    × MayBe P other
Parts P (Form-F.Try p b name branches last) = P b × AllByRecursion (OfClause P) branches
    × MayBe P last
Parts P (Form-F.Atomic p e) = P e
Parts P (Form-F.Tryatomic p e) = P e
Parts P (Form-F.Throw p e) = P e
Parts P (Form-F.Fn p ps e) = P e
Parts P (Form-F.Reduce p r g e) = OfGenerator P g × P e
Parts P (Form-F.Assign p t sign e) = P t × P e
Parts P _ = Unit {0}

module _ (P : Form → Type 0) where
  abbrev Forms : Type 0
  Forms = (e : Form) × P e

  abbrev Items : Type 0
  Items = (i : Item) × OfItem P i

  abbrev Branches : Type 0
  Branches = (b : Branch) × OfBranch P b

  abbrev Generators : Type 0
  Generators = (g : Generator) × OfGenerator P g

  abbrev Clauses : Type 0
  Clauses = (b : TypeBranch) × OfClause P b

  every : {X : Type 0} (Q : X → Type 0) (xs : List ((x : X) × Q x))
      → AllByRecursion Q (map (λ (e : (x : X) × Q x). e.0) xs)
  every Q [] = tt
  every Q (x ∷ xs) = (x.1, every Q xs)

  parts : (y : Form-F Forms Items Branches Generators Clauses)
      → Parts P
      (map-Form Forms Items Branches Generators Clauses Form Item Branch Generator TypeBranch
      (λ e. e.0) (λ e. e.0) (λ e. e.0) (λ e. e.0) (λ e. e.0) y)
  parts (Form-F.Number p n) = tt
  parts (Form-F.Text p n) = tt
  parts (Form-F.Truth p b) = tt
  parts (Form-F.Receiver p) = tt
  parts (Form-F.Name p name) = tt
  parts (Form-F.Field p at name) = tt
  parts (Form-F.Parens p e) = e.1
  parts (Form-F.Tuple p es) = every P es
  parts (Form-F.Operator p op es) = every P es
  parts (Form-F.Chain p ops es) = every P es
  parts (Form-F.Beside p es) = every P es
  parts (Form-F.Run p es) = every P es
  parts (Form-F.Subscript p e) = e.1
  parts (Form-F.Power p e) = e.1
  parts (Form-F.Method p at name es) = every P es
  parts (Form-F.Fill p ty n v) = (n.1, v.1)
  parts (Form-F.Block p is) = every (OfItem P) is
  parts (Form-F.Do p blocks) = every P blocks
  parts (Form-F.If p branches None) = (every (OfBranch P) branches, tt)
  parts (Form-F.If p branches (Some d)) = (every (OfBranch P) branches, d.1)
  parts (Form-F.While p c b) = (c.1, b.1)
  parts (Form-F.For p gs b) = (every (OfGenerator P) gs, b.1)
  parts (Form-F.Case p s branches None) = (s.1, every (OfBranch P) branches, tt)
  parts (Form-F.Case p s branches (Some d)) = (s.1, every (OfBranch P) branches, d.1)
  parts (Form-F.Typecase p at name s branches None) = (s.1, every (OfClause P) branches, tt)
  parts (Form-F.Typecase p at name s branches (Some d)) = (s.1, every (OfClause P) branches, d.1)
  parts (Form-F.Try p b name branches None) = (b.1, every (OfClause P) branches, tt)
  parts (Form-F.Try p b name branches (Some d)) = (b.1, every (OfClause P) branches, d.1)
  parts (Form-F.Atomic p e) = e.1
  parts (Form-F.Tryatomic p e) = e.1
  parts (Form-F.Throw p e) = e.1
  parts (Form-F.Fn p ps e) = e.1
  parts (Form-F.Reduce p r g e) = (g.1, e.1)
  parts (Form-F.Assign p t sign e) = (t.1, e.1)

  in-item : (y : Item-F Forms Items Branches Generators Clauses)
      → InItem P
      (map-Item Forms Items Branches Generators Clauses Form Item Branch Generator TypeBranch
      (λ e. e.0) (λ e. e.0) (λ e. e.0) (λ e. e.0) (λ e. e.0) y)
  in-item (Item-F.Local p name mutable ty e) = e.1
  in-item (Item-F.Locals p names ty e) = e.1
  in-item (Item-F.Expression e) = e.1

  -- From the parts of each form to the form: then it is so of each.
  pub by_parts : ((e : Form) → Parts P (out-Form e) → P e) → (e : Form) → P e
  by_parts k = ind-Form P (OfItem P) (OfBranch P) (OfGenerator P) (OfClause P)
      (λ x y e. k (roll-Form x)
      (subst (Parts P) (sym (out-roll-Form x)) (subst (Parts P) e (parts y))))
      (λ x y e. subst (InItem P) (sym (out-roll-Item x)) (subst (InItem P) e (in-item y)))
      (λ x y e. subst (InBranch P) (sym (out-roll-Branch x))
      (subst (InBranch P) e (y.test.1, y.value.1)))
      (λ x y e. subst (InGenerator P) (sym (out-roll-Generator x))
      (subst (InGenerator P) e y.source.1))
      (λ x y e. subst (InClause P) (sym (out-roll-TypeBranch x)) (subst (InClause P) e y.value.1))
