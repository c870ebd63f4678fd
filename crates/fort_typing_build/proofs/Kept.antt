-- What the judge's levels keep of a form's parts, and lists of one part.
use Rattle.std.proofs.Common.{◌≡◌, ◌≢◌, List, [], ◌∷◌, ◌++◌, length, map, Option, None, refl, arith, ap, ◌∙◌}
use Rattle.fort_form.specs.declared.form.Form.{Form, out-Form, map-Form}
use Rattle.fort_form.specs.declared.form.Form.TheOpen.{Form-F}
use Rattle.fort_form.specs.declared.form.Item.{Item}
use Rattle.fort_form.specs.declared.form.Branch.{Branch}
use Rattle.fort_form.specs.declared.form.Generator.{Generator, out-Generator}
use Rattle.fort_form.specs.declared.form.TypeBranch.{TypeBranch}
use Rattle.fort_form.specs.declared.form.Reduction.{Reduction}
use Rattle.fort_form_typed.specs.declared.typed_form.TypedForm.{TypedForm}
use Rattle.fort_typing_known.specs.declared.fault.Fault.{Fault}
use Rattle.fort_typing_known.specs.Known.{Facts}
use Rattle.fort_typing_rules.specs.Types.{place_at, place_of}
use Rattle.fort_typing_rules.specs.Typing.{generator_name, clause_type as type_of_clause}
use Rattle.fort_typing_meaning.specs.Tests.{untyped}
use Rattle.fort_typing_meaning.specs.Parts.{Judge, Piece, Arm, Clause, Giving}
use Rattle.fort_typing_meaning.specs.Closing.{giving_name, clause_type, reduced}
use Rattle.fort_typing_meaning.specs.Judging.{judged, judged_item, judged_branch, judged_generator, judged_clause, level}
use Rattle.fort_typing_meaning.proofs.Levels.{judged_level, giving-is, clause-is}
use Rattle.fort_typing_build.specs.One.{one}

-- ---- lists of one part

pub one_there : (front : List TypedForm) (t : TypedForm) (ts : List TypedForm)
    → ts ≡ front ++ t ∷ [] → length ts ≡ 1 → ts ≡ t ∷ []
one_there [] t ts e l = e
one_there (x ∷ []) t ts e l = absurd (let h = ap length e in omega (arith, h, l))
one_there (x ∷ y ∷ front) t ts e l = absurd (let h = ap length e in omega (arith, h, l))

pub one_other : (ts : List TypedForm) → length ts ≢ 1 → one ts ≡ None
one_other [] n = refl
one_other (x ∷ []) n = absurd (n refl)
one_other (x ∷ y ∷ ts) n = refl

pub reduced_other : (k : Facts) (r : Reduction) (g : Giving) (ts : List TypedForm) (u : TypedForm)
    (found : Option Fault) → one ts ≡ None → reduced k r g ts u found ≡ untyped found
reduced_other k r g [] u found n = refl
reduced_other k r g (t ∷ []) u found n = absurd cc
reduced_other k r g (t ∷ s ∷ ts) u found n = refl

-- ---- names, types and places

module _ (k : Facts) where
  pub generator_is : (g : Generator)
      → judged_generator k g
      ≡ record {
        place = (out-Generator g).place;
        name = (out-Generator g).name;
        sequential = (out-Generator g).sequential;
        source = judged k (out-Generator g).source;
      }
  generator_is g = giving-is k g

  pub names_are : (gs : List Generator)
      → map giving_name (map (judged_generator k) gs) ≡ map generator_name gs
  names_are [] = refl
  names_are (g ∷ gs) =
      ap (λ j. giving_name j ∷ map giving_name (map (judged_generator k) gs)) (giving-is k g)
      ∙ ap (λ ns. generator_name g ∷ ns) (names_are gs)

  pub types_are : (bs : List TypeBranch)
      → map clause_type (map (judged_clause k) bs) ≡ map type_of_clause bs
  types_are [] = refl
  types_are (b ∷ bs) =
      ap (λ j. clause_type j ∷ map clause_type (map (judged_clause k) bs)) (clause-is k b)
      ∙ ap (λ ts. type_of_clause b ∷ ts) (types_are bs)

  place_kept : (x : Form-F Form Item Branch Generator TypeBranch)
      → place_at
      (map-Form Form Item Branch Generator TypeBranch Judge Piece Arm Giving Clause (judged k)
      (judged_item k) (judged_branch k) (judged_generator k) (judged_clause k) x) ≡ place_at x
  place_kept (Form-F.Number p a) = refl
  place_kept (Form-F.Text p a) = refl
  place_kept (Form-F.Truth p a) = refl
  place_kept (Form-F.Receiver p) = refl
  place_kept (Form-F.Name p a) = refl
  place_kept (Form-F.Parens p a) = refl
  place_kept (Form-F.Tuple p a) = refl
  place_kept (Form-F.Operator p a b) = refl
  place_kept (Form-F.Chain p a b) = refl
  place_kept (Form-F.Beside p a) = refl
  place_kept (Form-F.Run p a) = refl
  place_kept (Form-F.Subscript p a) = refl
  place_kept (Form-F.Power p a) = refl
  place_kept (Form-F.Field p a b) = refl
  place_kept (Form-F.Method p a b c) = refl
  place_kept (Form-F.Fill p a b c) = refl
  place_kept (Form-F.Block p a) = refl
  place_kept (Form-F.Do p a) = refl
  place_kept (Form-F.If p a b) = refl
  place_kept (Form-F.While p a b) = refl
  place_kept (Form-F.For p a b) = refl
  place_kept (Form-F.Case p a b c) = refl
  place_kept (Form-F.Typecase p a b c d e) = refl
  place_kept (Form-F.Try p a b c d) = refl
  place_kept (Form-F.Atomic p a) = refl
  place_kept (Form-F.Tryatomic p a) = refl
  place_kept (Form-F.Throw p a) = refl
  place_kept (Form-F.Fn p a b) = refl
  place_kept (Form-F.Reduce p a b c) = refl
  place_kept (Form-F.Assign p a b c) = refl

  pub place_is : (f : Form) → (judged k f).place ≡ place_of f
  unfolding place_of level
  place_is f = ap (λ (j : Judge). j.place) (judged_level k f) ∙ place_kept (out-Form f)
