-- A form answers exactly where its parts do.
use Rattle.std.proofs.Common.{◌≡◌, inl, inr, true, false, List, [], ◌∷◌, Option, Some, None, refl, ◌∙◌, sym}
use Rattle.fort_scope.specs.declared.binding.Binding.{Binding}
use Rattle.fort_form.specs.declared.form.Form.{Form, out-Form}
use Rattle.fort_form.specs.declared.form.Form.TheOpen.{Form-F}
use Rattle.fort_form.specs.declared.form.Item.{Item}
use Rattle.fort_form.specs.declared.form.Branch.{Branch}
use Rattle.fort_form.specs.declared.form.Generator.{Generator}
use Rattle.fort_form.specs.declared.form.TypeBranch.{TypeBranch}
use Rattle.fort_typing_known.specs.declared.fault.Fault.{Fault}
use Rattle.fort_typing_known.specs.Known.{Knows}
use Rattle.fort_typing_rules.specs.Typing.{update_operator}
use Rattle.fort_typing_rules.specs.Breaking.{Breaks}
use Rattle.fort_typing_meaning.specs.Judging.{judged}
use Rattle.fort_typing_law_rules.specs.Deciding.{IsAccepted}
use Rattle.fort_typing_law_rules.specs.Written.{IsWritten, AreBound}
use Rattle.fort_typing_law_rules.specs.Exact.{FormBreaks, IsSeen, a_type, a_name, a_postfix, a_fault, Answers, IsExactExpression, PartsExact, FormsAreExact, IsOne, has_type, is_name, breaks_rule, ExactIsOne}
use Rattle.fort_typing_law_rules.proofs.Written.{of-parts}
use Rattle.fort_typing_law_rules.proofs.Asking.{no-postfix, never}
use Rattle.fort_typing_law_rules.proofs.Steps as step
use Rattle.fort_typing_law_rules.proofs.Branching.{if-alone-exact, if-else-exact}
use Rattle.fort_typing_law_rules.proofs.Scopes.{function-exact, for-exact}
use Rattle.fort_typing_law_rules.proofs.Sequences.{reduce-exact, block-exact}
use Rattle.fort_typing_law_rules.proofs.Trying.{try-exact}
use Rattle.fort_typing_law_rules.proofs.Typecases.{typecase-exact}
use Rattle.fort_typing_law_rules.proofs.Comparing.{case-exact}
use Rattle.fort_typing_law_rules.proofs.Chaining.{chain-exact}
use Rattle.fort_typing_law_rules.proofs.Assigning.{assign-exact}
use Rattle.fort_typing_law_rules.proofs.Tight.{run-exact}
use Rattle.fort_typing_law_rules.proofs.Loose.{beside-exact}

module _ (k : Knows) (A : IsAccepted k) (e : Form) (W : IsWritten k e) (bs : List Binding)
    (B : AreBound k bs) (found : Option Fault) where
  abbrev Goal : Type 0
  Goal = Answers k bs e found ((judged k.facts e).answer bs found)

  form-exact : (x : Form-F Form Item Branch Generator TypeBranch) → out-Form e ≡ x → PartsExact k x
      → Goal
  form-exact (Form-F.Number p n) is X = step.number-exact k A bs e found p n is
  form-exact (Form-F.Text p n) is X = step.text-exact k A bs e found p n is
  form-exact (Form-F.Truth p b) is X = step.truth-exact k A bs e found p b is
  form-exact (Form-F.Receiver p) is X = step.receiver-exact k A bs e found p is
  form-exact (Form-F.Name p name) is X = step.name-exact k A bs e found p name is
  form-exact (Form-F.Parens p d) is X =
      step.parens-exact k A bs B e found d (of-parts k e is W) X p is
  form-exact (Form-F.Tuple p es) is X =
      step.tuple-exact k A bs B e found es (of-parts k e is W) X p is
  form-exact (Form-F.Operator p op es) is X =
      step.operator-exact k A bs B e found es (of-parts k e is W) X p op is
  form-exact (Form-F.Chain p ops []) is X = absurd X
  form-exact (Form-F.Chain p ops (c ∷ ds)) is X =
      let F = of-parts k e is W in chain-exact k A bs B e found p ops c ds X.0 F.0 F.1 X.1 X.2 is
  form-exact (Form-F.Beside p []) is X = absurd X
  form-exact (Form-F.Beside p (c ∷ ds)) is X =
      beside-exact k A bs B e found p c ds is (of-parts k e is W) X
  form-exact (Form-F.Run p []) is X = absurd X
  form-exact (Form-F.Run p (c ∷ [])) is X = absurd X
  form-exact (Form-F.Run p (c ∷ d ∷ ds)) is X =
      run-exact k A bs B e found p c d ds is (of-parts k e is W) (X.0.1, X.1) X.0.0
  form-exact (Form-F.Subscript p d) is X =
      step.subscript-exact k A bs B e found d (of-parts k e is W) X p is
  form-exact (Form-F.Power p d) is X =
      step.power-exact k A bs B e found d (of-parts k e is W) X p is
  form-exact (Form-F.Field p spot name) is X = step.field-exact k A bs e found p spot name is
  form-exact (Form-F.Method p spot name es) is X =
      step.method-exact k A bs B e found es (of-parts k e is W) X p spot name is
  form-exact (Form-F.Fill p ty n v) is X =
      let F = of-parts k e is W in step.fill-exact k A bs B e found n v F.1 F.2 X.0 X.1 p ty F.0 is
  form-exact (Form-F.Block p items) is X =
      block-exact k A bs B e found p items (of-parts k e is W) X is
  form-exact (Form-F.Do p []) is X = absurd X
  form-exact (Form-F.Do p (b ∷ [])) is X = let F = of-parts k e is W in step.do-exact k A bs B e found b F.0 X.0 p is
  form-exact (Form-F.Do p (a ∷ b ∷ others)) is X =
      step.also-exact k A bs B e found p a b others (of-parts k e is W) X is
  form-exact (Form-F.If p branches None) is X =
      let F = of-parts k e is W in if-alone-exact k A bs B e found p branches F.0 X.0 X.1 is
  form-exact (Form-F.If p branches (Some d)) is X =
      let F = of-parts k e is W
      in if-else-exact k A bs B e found p branches F.0 X.0 X.1 d F.1 X.2 is
  form-exact (Form-F.While p c b) is X =
      let F = of-parts k e is W in step.while-exact k A bs B e found c b F.0 F.1 X.0 X.1 p is
  form-exact (Form-F.For p gs b) is X =
      let F = of-parts k e is W in for-exact k A bs B e found gs b F.0 X.0 F.1 X.1 p is
  form-exact (Form-F.Case p s branches other) is X =
      let F = of-parts k e is W
      in case-exact k A bs B s F.0 X.0 e found p branches other F.1 F.2 X.1 X.2 X.3 is
  form-exact (Form-F.Typecase p spot name s branches other) is X =
      let F = of-parts k e is W
      in typecase-exact k A bs B e found p spot name s branches other F.0 F.1 F.2 X.0 X.1 X.2 is
  form-exact (Form-F.Try p b name branches last) is X =
      let F = of-parts k e is W
      in try-exact k A bs B e found p b name branches last F.0 F.1 F.2 X.0 X.1 X.2 is
  form-exact (Form-F.Atomic p d) is X =
      step.atomic-exact k A bs B e found d (of-parts k e is W) X p is
  form-exact (Form-F.Tryatomic p d) is X =
      step.tryatomic-exact k A bs B e found d (of-parts k e is W) X p is
  form-exact (Form-F.Throw p d) is X =
      step.throw-exact k A bs B e found d (of-parts k e is W) X p is
  form-exact (Form-F.Fn p ps d) is X =
      let F = of-parts k e is W in function-exact k A bs B e found p ps d F.0 F.1 X is
  form-exact (Form-F.Reduce p r g d) is X =
      let F = of-parts k e is W in reduce-exact k A bs B e found p r g d F.0 X.0 F.1 X.1 is
  form-exact (Form-F.Assign p d sign v) is X =
      let F = of-parts k e is W
      in assign-exact k A bs B d v F.0 F.1 X.0 X.1 e found p sign is (update_operator sign) refl

pub forms_are_exact : FormsAreExact
forms_are_exact k A e W X bs B found = form-exact k A e W bs B found (out-Form e) refl X

one-by : (k : Knows) (A : IsAccepted k) (e : Form) (X : IsExactExpression k e) (bs : List Binding)
    (B : AreBound k bs) → Answers k bs e None ((judged k.facts e).answer bs None) → IsOne k bs e
one-by k A e X bs B o = by o.seen
  where
    by : IsSeen k bs e ((judged k.facts e).answer bs None).seen → IsOne k bs e
    by (a_type t q h) = has_type t h
    by (a_name name q h) = is_name name h
    by (a_postfix p h) = absurd (let z : true ≡ false = sym p ∙ X.0 in cc)
    by (a_fault x q b) = breaks_rule x (told b)
      where
        told : FormBreaks k bs e x → Breaks k bs e x
        told (inl c) = c
        told (inr c) = absurd (no-postfix k bs (out-Form e) x X.0 c)

pub exact_is_one : ExactIsOne
exact_is_one = record {
  one = λ k A e X bs B. one-by k A e X bs B (X.1 bs B None);
  never_both = λ k A e W X bs B t h x b. never k A bs B e W X t h x b;
}
