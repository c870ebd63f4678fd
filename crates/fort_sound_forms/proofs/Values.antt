-- The values that the translation writes have their types.
use Rattle.std.proofs.Common.{◌≡◌, ◌≤◌, ℕ, Bool, true, false, cond, List, [], inl, inr, ◌⊎◌, pos, refl, sym, subst, arith}
use Rattle.std.specs.Prelude.{nat_le}
use Rattle.std.specs.Int.{w32, w64}
use Rattle.std.proofs.lemmas.Bool.{leb-true, lt-ltb}
use Rattle.fort_base.specs.declared.ty.Ty.{Ty}
use Rattle.fort_base.specs.declared.ty.Ty.TheVariants.{outs-Named}
use Rattle.fort_types_builtin.specs.declared.types.TheConstants.{MATCH_FAILURE, EMPTY_REDUCTION}
use Rattle.fort_form.specs.declared.form.Reduction.{Reduction}
use Rattle.fort_form.specs.declared.form.Reduction.TheVariants as a_reduction
use Rattle.fort_core.specs.declared.program.Program.{Program}
use Rattle.fort_core.specs.declared.term.Term as term
use Rattle.fort_core.specs.declared.value.Value.{Value, Small, Large, Truth, Text}
use Rattle.fort_core.specs.declared.value.Value.TheVariants.{outs-Small, outs-Large, outs-Truth, outs-Text, outs-Tuple}
use Rattle.fort_typing_known.specs.Known.{Knows}
use Rattle.fort_sound_typed.specs.Envs.{Env}
use Rattle.fort_sound_typed.specs.Typing.{is_same, unit_type, IsNumber, Has, parts0, HasV, vs0}
use Rattle.fort_sound_typed.specs.Sound.{opening}
use Rattle.fort_sound_typed.proofs.Order.{itself}
use Rattle.fort_sound_typed.proofs.Rules.{has_v_at, has_value, has_thrown}
use Rattle.fort_typing_rules.specs.Types.{zz32, zz64, string, boolean, number_type}
use Rattle.fort_typing_rules.specs.Typing as rule
use Rattle.fort_elab_meaning.specs.Parts.{Given}
use Rattle.fort_elab_meaning.specs.Values.{unit_term, number, single, no_match, no_item, is_large_at, number_as, neutral}
use Rattle.fort_sound_forms.specs.Suits.{Suits}

small_within : (n : ℕ) → n ≤ 2147483647 → IsNumber w32 (pos n)
small_within n l = lt-ltb n 2147483648 (omega arith)

large_within : (n : ℕ) → n ≤ 9223372036854775807 → IsNumber w64 (pos n)
large_within n l = lt-ltb n 9223372036854775808 (omega arith)

module _ (k : Knows) (g : Given) (p : Program) (U : Suits k g p) where
  pub has_unit : (G : Env) → Has p (opening p) G unit_term unit_type
  has_unit G =
      has_value p (opening p) (itself p)
      (has_v_at p (opening p) (outs-Tuple [])
      (record {
        own = unit_type;
        qs = [];
        ws = [];
        fits = refl;
        parts = parts0;
        values = vs0;
        below = is_same refl;
      }))

  pub has_small : (n : ℕ) → n ≤ 2147483647 → HasV p (opening p) (Small (pos n)) zz32
  has_small n l =
      has_v_at p (opening p) (outs-Small (pos n))
      (record {
        own = zz32;
        qs = [];
        ws = [];
        fits = (sym U.small, small_within n l);
        parts = parts0;
        values = vs0;
        below = is_same refl;
      })

  pub has_large : (n : ℕ) → n ≤ 9223372036854775807 → HasV p (opening p) (Large (pos n)) zz64
  has_large n l =
      has_v_at p (opening p) (outs-Large (pos n))
      (record {
        own = zz64;
        qs = [];
        ws = [];
        fits = (sym U.large, large_within n l);
        parts = parts0;
        values = vs0;
        below = is_same refl;
      })

  pub has_truth : (b : Bool) → HasV p (opening p) (Truth b) boolean
  has_truth b =
      has_v_at p (opening p) (outs-Truth b)
      (record {
        own = boolean;
        qs = [];
        ws = [];
        fits = sym U.truth;
        parts = parts0;
        values = vs0;
        below = is_same refl;
      })

  pub has_text : (s : List ℕ) → HasV p (opening p) (Text s) string
  has_text s =
      has_v_at p (opening p) (outs-Text s)
      (record {
        own = string;
        qs = [];
        ws = [];
        fits = sym U.text;
        parts = parts0;
        values = vs0;
        below = is_same refl;
      })

  pub has_number : (n : ℕ) → n ≤ 9223372036854775807
      → HasV p (opening p) (number n (pos n)) (number_type n)
  has_number n l = go (nat_le n 2147483647) refl
    where
      go : (c : Bool) → nat_le n 2147483647 ≡ c
          → HasV p (opening p) (cond c (Small (pos n)) (Large (pos n))) (cond c zz32 zz64)
      go true e = has_small n (leb-true n 2147483647 e)
      go false e = has_large n l

  pub as_term : (G : Env) {v : Value} {T : Ty} → HasV p (opening p) v T
      → Has p (opening p) G (term.Value v) T
  as_term G h = has_value p (opening p) (itself p) h

  -- the throws have each type
  pub has_no_match : (G : Env) (T : Ty) → Has p (opening p) G (no_match g) T
  has_no_match G T =
      has_thrown p (opening p) (itself p)
      (subst (λ X. HasV p (opening p) (single g MATCH_FAILURE) X) (sym U.thrown) U.no_match)

  pub has_no_item : (G : Env) (T : Ty) → Has p (opening p) G (no_item g) T
  has_no_item G T =
      has_thrown p (opening p) (itself p)
      (subst (λ X. HasV p (opening p) (single g EMPTY_REDUCTION) X) (sym U.thrown) U.no_item)

  number_at : (G : Env) (ty : Ty) (n : ℕ) → n ≤ 2147483647 → (ty ≡ zz32) ⊎ (ty ≡ zz64)
      → Has p (opening p) G (number_as ty n) ty
  number_at G ty n l (inl e) = subst (λ X. Has p (opening p) G (number_as X n) X) (sym e)
      (subst (λ x. Has p (opening p) G
      (term.Value (cond (is_large_at x) (Large (pos n)) (Small (pos n)))) zz32)
      (sym (outs-Named _)) (as_term G (has_small n l)))
  number_at G ty n l (inr e) = subst (λ X. Has p (opening p) G (number_as X n) X) (sym e)
      (subst (λ x. Has p (opening p) G
      (term.Value (cond (is_large_at x) (Large (pos n)) (Small (pos n)))) zz64)
      (sym (outs-Named _)) (as_term G (has_large n (omega arith))))

  -- what a reduction gives over no item
  pub has_neutral : (G : Env) (r : Reduction) (ty : Ty) → rule.Suits k (rule.reduction_want r) ty
      → Has p (opening p) G (neutral g r ty) ty
  has_neutral G a_reduction.Sum ty w = number_at G ty 0 (omega arith) w
  has_neutral G a_reduction.Product ty w = number_at G ty 1 (omega arith) w
  has_neutral G a_reduction.Maximum ty w = has_no_item G ty
  has_neutral G a_reduction.Minimum ty w = has_no_item G ty
  has_neutral G a_reduction.Conjunction ty w =
      subst (λ X. Has p (opening p) G (term.Value (Truth true)) X) (sym w)
      (as_term G (has_truth true))
  has_neutral G a_reduction.Disjunction ty w =
      subst (λ X. Has p (opening p) G (term.Value (Truth false)) X) (sym w)
      (as_term G (has_truth false))
