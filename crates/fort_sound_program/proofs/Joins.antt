-- The operators of reductions join two of each type that a reduction may have.
use Rattle.std.proofs.Common.{◌≡◌, ◌⊎◌, inl, inr, ℕ, false, List, [], ◌∷◌, length, Option, sym, subst}
use Rattle.std.specs.Prelude.{codes}
use Rattle.fort_base.specs.declared.ids.TypeId.{TypeId}
use Rattle.fort_base.specs.declared.ty.Ty.{Ty}
use Rattle.fort_types.specs.Types.{IsNumbered}
use Rattle.fort_core.specs.declared.program.Program.{Program}
use Rattle.fort_form.specs.declared.form.Reduction.{Reduction}
use Rattle.fort_form.specs.declared.form.Reduction.TheVariants as a_reduction
use Rattle.fort_lex_token.specs.declared.token.Tokens.{Tokens}
use Rattle.fort_tree.specs.declared.declarations.Component.{Component}
use Rattle.fort_tree.specs.declared.grouped.Groups.{Groups}
use Rattle.fort_hier.specs.declared.accepted.Hierarchy.{Hierarchy}
use Rattle.fort_hier.specs.Hierarchies.{declares}
use Rattle.fort_types_sets.specs.declared.member.Members.{Members}
use Rattle.fort_typing_known.specs.Known.{Knows, within}
use Rattle.fort_typing_known.specs.Sets.{set_of, operator_set}
use Rattle.fort_typing_law_ready.specs.Fit.{known_of}
use Rattle.fort_typing_rules.specs.Types.{zz32, zz64, boolean}
use Rattle.fort_typing_rules.specs.Typing as rule
use Rattle.fort_form_typed.specs.declared.component.Typed.{Typed}
use Rattle.fort_sound_typed.specs.Typing.{Called}
use Rattle.fort_sound_program.specs.Checked.{Checked}
use Rattle.fort_sound_program.proofs.BuiltInSets.{BuiltIn, plus_small, plus_large, times_small, times_large, max_small, max_large, min_small, min_large, and_truth, or_truth}
use Rattle.fort_sound_program.proofs.Calls.{called_built_in, small_numbered, large_numbered, truth_numbered}

module _ (tokens : Tokens) (c : Component) (h : Hierarchy) (m : Members) (groups : Groups)
    (typed : Typed) (p : Program) (ok : Checked tokens c h m groups typed p)
    (owner : Option TypeId) where
  abbrev k : Knows
  k = within (known_of c h m) owner

  abbrev Joins : Reduction → Ty → Type 0
  Joins r ty = Called p (operator_set k.facts (rule.reduction_operator r) 2) (ty ∷ ty ∷ []) ty

  two : (name : List ℕ) (ty : Ty) → BuiltIn name (ty ∷ ty ∷ []) ty
      → IsNumbered (length (declares c)) ty
      → Called p (set_of k.facts name false 2) (ty ∷ ty ∷ []) ty
  unfolding set_of
  two name ty b n =
      called_built_in tokens c h m groups typed p ok name ty (ty ∷ []) ty b (n, (n, tt))

  of_numbers : (name : List ℕ) → BuiltIn name (zz32 ∷ zz32 ∷ []) zz32
      → BuiltIn name (zz64 ∷ zz64 ∷ []) zz64 → (ty : Ty) → (ty ≡ zz32) ⊎ (ty ≡ zz64)
      → Called p (set_of k.facts name false 2) (ty ∷ ty ∷ []) ty
  of_numbers name s l ty (inl e) =
      subst (λ t. Called p (set_of k.facts name false 2) (t ∷ t ∷ []) t) (sym e)
      (two name zz32 s (small_numbered tokens c h m groups typed p ok))
  of_numbers name s l ty (inr e) =
      subst (λ t. Called p (set_of k.facts name false 2) (t ∷ t ∷ []) t) (sym e)
      (two name zz64 l (large_numbered tokens c h m groups typed p ok))

  of_truths : (name : List ℕ) → BuiltIn name (boolean ∷ boolean ∷ []) boolean → (ty : Ty)
      → ty ≡ boolean → Called p (set_of k.facts name false 2) (ty ∷ ty ∷ []) ty
  of_truths name b ty e =
      subst (λ t. Called p (set_of k.facts name false 2) (t ∷ t ∷ []) t) (sym e)
      (two name boolean b (truth_numbered tokens c h m groups typed p ok))

  pub joins : (r : Reduction) (ty : Ty) → rule.Suits k (rule.reduction_want r) ty → Joins r ty
  joins a_reduction.Sum ty w = of_numbers (codes "+") plus_small plus_large ty w
  joins a_reduction.Product ty w = of_numbers (codes "TIMES") times_small times_large ty w
  joins a_reduction.Maximum ty w = of_numbers (codes "MAX") max_small max_large ty w
  joins a_reduction.Minimum ty w = of_numbers (codes "MIN") min_small min_large ty w
  joins a_reduction.Conjunction ty w = of_truths (codes "AND") and_truth ty w
  joins a_reduction.Disjunction ty w = of_truths (codes "OR") or_truth ty w
