-- The chapter "Typing", which refusal comes: what a form answers is what it is by the rules, and
-- what it finds is the first of the rules that it breaks.
use Rattle.std.specs.Prelude.{◌≡◌, ◌⊎◌, true, false, List, [], ◌∷◌, length, map, Option, Some, None}
use Rattle.std.specs.List.{AllByRecursion}
use Rattle.fort_base.specs.declared.ids.NameId.{NameId}
use Rattle.fort_scope.specs.declared.binding.Binding.{Binding}
use Rattle.fort_form.specs.declared.form.Form.{Form, out-Form}
use Rattle.fort_form.specs.declared.form.Form.TheOpen.{Form-F, Item-F}
use Rattle.fort_form.specs.declared.form.Item.{Item, out-Item}
use Rattle.fort_form.specs.declared.form.Branch.{Branch}
use Rattle.fort_form.specs.declared.form.Generator.{Generator, out-Generator}
use Rattle.fort_form.specs.declared.form.TypeBranch.{TypeBranch, out-TypeBranch}
use Rattle.fort_form_typed.specs.declared.typed_form.TypedForm.{TypedForm}
use Rattle.fort_typing_known.specs.declared.fault.Fault.{Fault}
use Rattle.fort_typing_known.specs.Known.{Knows}
use Rattle.fort_typing_rules.specs.declared.part.Meaning.{Meaning}
use Rattle.fort_typing_rules.specs.declared.part.Meaning.TheVariants as a_meaning
use Rattle.fort_typing_rules.specs.Types.{zz32}
use Rattle.fort_typing_rules.specs.Calls.{Calls}
use Rattle.fort_typing_rules.specs.Typing.{Has, Names, Means, below, an_operand, postfix_at, test_of, value_of}
use Rattle.fort_typing_rules.specs.Breaking.{Breaks, BreaksAs, BreaksSome}
use Rattle.fort_typing_meaning.specs.declared.frame.Outcome.{Outcome}
use Rattle.fort_typing_meaning.specs.Faults.{goes_first}
use Rattle.fort_typing_meaning.specs.Judging.{judged}
use Rattle.fort_typing_law_rules.specs.Deciding.{IsAccepted}
use Rattle.fort_typing_law_rules.specs.Written.{IsWritten, AreBound}

-- Of what was found before and some broken rules, this is found now: one of them, which none of
-- them goes before; or nothing where there is none.
pub record IsFirst (found : Option Fault) (P : Fault → Type 0) (new : Option Fault) : Type 0 where
  pub some : (f : Fault) → new ≡ Some f → (found ≡ Some f) ⊎ P f
  pub none : new ≡ None → (found ≡ None) × ((f : Fault) → P f → ⊥)
  pub first : (f g : Fault) → new ≡ Some f → (found ≡ Some g) ⊎ P g → goes_first g f ≡ false

-- A postfix breaks a rule in its parts.
abbrev pub PostfixBreaks : Knows → List Binding → Form-F Form Item Branch Generator TypeBranch
    → Fault → Type 0
PostfixBreaks k bs (Form-F.Subscript p i) x = BreaksAs k bs (below zz32) i x
PostfixBreaks k bs (Form-F.Power p d) x = BreaksAs k bs an_operand d x
PostfixBreaks k bs (Form-F.Method p at name es) x = BreaksSome k bs an_operand es x
PostfixBreaks k bs _ x = ⊥

-- A form breaks a rule, as an expression or as a postfix.
abbrev pub FormBreaks : Knows → List Binding → Form → Fault → Type 0
FormBreaks k bs e x = Breaks k bs e x ⊎ PostfixBreaks k bs (out-Form e) x

-- What a form is in these bindings: of a type, a function set's name, a postfix, or nothing since a
-- rule is broken.
pub data IsSeen (k : Knows) (bs : List Binding) (e : Form) (m : Meaning) : Type 0 where
  a_type : (t : TypedForm) → m ≡ a_meaning.Value t → Has k (Calls k) bs e t → IsSeen k bs e m
  a_name : (name : NameId) → m ≡ a_meaning.Functions name → Names k bs e name → IsSeen k bs e m
  a_postfix : postfix_at (out-Form e) ≡ true → Means k (Calls k) bs e m → IsSeen k bs e m
  a_fault : (x : Fault) → m ≡ a_meaning.Unknown → FormBreaks k bs e x → IsSeen k bs e m

-- What a form answers is exact.
pub record Answers (k : Knows) (bs : List Binding) (e : Form) (found : Option Fault)
    (o : Outcome) : Type 0 where
  pub seen : IsSeen k bs e o.seen
  pub first : IsFirst found (FormBreaks k bs e) o.found

-- It is so in all bindings whose types are the component's, whatever was found before.
abbrev pub IsExact : Knows → Form → Type 0
IsExact k e = (bs : List Binding) → AreBound k bs → (found : Option Fault)
    → Answers k bs e found ((judged k.facts e).answer bs found)

-- An expression is exact, and is no postfix.
abbrev pub IsExactExpression : Knows → Form → Type 0
IsExactExpression k e = (postfix_at (out-Form e) ≡ false) × IsExact k e

abbrev pub AreExact : Knows → List Form → Type 0
AreExact k es = AllByRecursion (IsExactExpression k) es

abbrev pub MayBeExact : Knows → Option Form → Type 0
MayBeExact k None = Unit {0}
MayBeExact k (Some e) = IsExactExpression k e

abbrev pub ItemAtExact : Knows → Item-F Form Item Branch Generator TypeBranch → Type 0
ItemAtExact k (Item-F.Local p name mutable ty e) = IsExactExpression k e
ItemAtExact k (Item-F.Locals p names ty e) = IsExactExpression k e
ItemAtExact k (Item-F.Expression e) = IsExactExpression k e

abbrev pub ItemExact : Knows → Item → Type 0
ItemExact k i = ItemAtExact k (out-Item i)

abbrev pub SourceExact : Knows → Generator → Type 0
SourceExact k g = IsExactExpression k (out-Generator g).source

abbrev pub ClauseExact : Knows → TypeBranch → Type 0
ClauseExact k b = IsExactExpression k (out-TypeBranch b).value

-- A form's parts are exact expressions, and there are as many as the grammar gives it: a `do` has a
-- block, a juxtaposition an element, a chain one side more than relations, and a run two elements
-- or more, of which all but the first may be postfixes.
abbrev pub PartsExact : Knows → Form-F Form Item Branch Generator TypeBranch → Type 0
PartsExact k (Form-F.Number p n) = Unit {0}
PartsExact k (Form-F.Text p n) = Unit {0}
PartsExact k (Form-F.Truth p b) = Unit {0}
PartsExact k (Form-F.Receiver p) = Unit {0}
PartsExact k (Form-F.Name p name) = Unit {0}
PartsExact k (Form-F.Parens p e) = IsExactExpression k e
PartsExact k (Form-F.Tuple p es) = AreExact k es
PartsExact k (Form-F.Operator p op es) = AreExact k es
PartsExact k (Form-F.Chain p ops []) = ⊥
PartsExact k (Form-F.Chain p ops (e ∷ es)) = (length es ≡ length ops) × IsExactExpression k e
    × AreExact k es
PartsExact k (Form-F.Beside p []) = ⊥
PartsExact k (Form-F.Beside p (d ∷ ds)) = AreExact k (d ∷ ds)
PartsExact k (Form-F.Run p []) = ⊥
PartsExact k (Form-F.Run p (d ∷ [])) = ⊥
PartsExact k (Form-F.Run p (d ∷ e ∷ es)) = IsExactExpression k d
    × AllByRecursion (IsExact k) (e ∷ es)
PartsExact k (Form-F.Subscript p e) = IsExactExpression k e
PartsExact k (Form-F.Power p e) = IsExactExpression k e
PartsExact k (Form-F.Field p at name) = Unit {0}
PartsExact k (Form-F.Method p at name es) = AreExact k es
PartsExact k (Form-F.Fill p ty n v) = IsExactExpression k n × IsExactExpression k v
PartsExact k (Form-F.Block p is) = AllByRecursion (ItemExact k) is
PartsExact k (Form-F.Do p []) = ⊥
PartsExact k (Form-F.Do p (b ∷ blocks)) = AreExact k (b ∷ blocks)
PartsExact k (Form-F.If p branches other) = AreExact k (map test_of branches)
    × AreExact k (map value_of branches) × MayBeExact k other
PartsExact k (Form-F.While p c b) = IsExactExpression k c × IsExactExpression k b
PartsExact k (Form-F.For p gs b) = AllByRecursion (SourceExact k) gs × IsExactExpression k b
PartsExact k (Form-F.Case p s branches other) = IsExactExpression k s
    × AreExact k (map test_of branches) × AreExact k (map value_of branches) × MayBeExact k other
PartsExact k (Form-F.Typecase p at name s branches other) = IsExactExpression k s
    × AllByRecursion (ClauseExact k) branches × MayBeExact k other
PartsExact k (Form-F.Try p b name branches last) = IsExactExpression k b
    × AllByRecursion (ClauseExact k) branches × MayBeExact k last
PartsExact k (Form-F.Atomic p e) = IsExactExpression k e
PartsExact k (Form-F.Tryatomic p e) = IsExactExpression k e
PartsExact k (Form-F.Throw p e) = IsExactExpression k e
PartsExact k (Form-F.Fn p ps e) = IsExactExpression k e
PartsExact k (Form-F.Reduce p r g e) = SourceExact k g × IsExactExpression k e
PartsExact k (Form-F.Assign p t sign e) = IsExactExpression k t × IsExactExpression k e

-- Of an accepted component: a form answers exactly where its parts do.
abbrev pub FormsAreExact : Type 0
FormsAreExact = (k : Knows) → IsAccepted k → (e : Form) → IsWritten k e → PartsExact k (out-Form e)
    → IsExact k e

-- A form has a type, is a function set's name, or breaks a rule.
pub data IsOne (k : Knows) (bs : List Binding) (e : Form) : Type 0 where
  has_type : (t : TypedForm) → Has k (Calls k) bs e t → IsOne k bs e
  is_name : (name : NameId) → Names k bs e name → IsOne k bs e
  breaks_rule : (x : Fault) → Breaks k bs e x → IsOne k bs e

-- An exact expression is one of these, and what has a type breaks no rule.
pub record ExactIsOne : Type 0 where
  pub one : (k : Knows) → IsAccepted k → (e : Form) → IsExactExpression k e → (bs : List Binding)
      → AreBound k bs → IsOne k bs e
  pub never_both : (k : Knows) → IsAccepted k → (e : Form) → IsWritten k e → IsExactExpression k e
      → (bs : List Binding) → AreBound k bs → (t : TypedForm) → Has k (Calls k) bs e t → (x : Fault)
      → Breaks k bs e x → ⊥
