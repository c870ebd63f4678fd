-- What parallel forms do, by their heads.
use Rattle.std.proofs.Common.{◌≡◌, ◌≢◌, Bool, true, false, if◌then◌else◌, List, [], ◌∷◌, length, get_or, Option, Some, None, arith, refl, ap, sym, ◌∙◌}
use Rattle.std.specs.Prelude.{nat_le, option_map, option_and_then, slice_set}
use Rattle.fort_core.specs.declared.program.Program.{Program}
use Rattle.fort_core.specs.declared.term.Term.{Term, Group, Apply, ForHalves, ReduceHalves}
use Rattle.fort_core.specs.declared.term.Term as term
use Rattle.fort_core.specs.declared.term.Term.TheVariants.{outs-Value}
use Rattle.fort_core.specs.declared.value.Value.{Value, Tuple}
use Rattle.fort_machine.specs.Texts.{depth, deepest}
use Rattle.fort_machine.specs.Ends.{Standing, at_value, at_throw, open_yet, standing, has_stepped, value_at, values_of, tuple_of, group}
use Rattle.fort_machine.specs.Acts.{Act, stuck, becomes, calls, unit, throwing, Together, at_values, with_first, standing_together, by_together, once_all}
use Rattle.fort_machine.specs.Forms.{act, act_at, applying, too_deep}
use Rattle.fort_machine.specs.Frames.{on}
use Rattle.fort_base.specs.declared.ids.SetId.{SetId}
use Rattle.fort_machine.proofs.Standing.{group_open}
use Rattle.fort_step_table.proofs.AtParts.{group_form, call_acts, also_acts, apply_acts, for_halves_acts, reduce_halves_acts}
use Rattle.fort_frames.specs.Heads.{of_two, form_of}
use Rattle.fort_frames.specs.Frames.{frame_of_node}
use Rattle.fort_frames.specs.declared.node.Node.{Node}
use Rattle.fort_frames.proofs.Heads.{put_back}
use Rattle.fort_frames.proofs.Same.{node_is_form}

-- parts that all are values stand so
first_too : (s : Standing) (m : Bool) (g : Together) (o : Option (List Value)) (vs : List Value)
    → ((us : List Value) → o ≡ Some us → g ≡ at_values us)
    → option_and_then (λ v. option_map (λ us. v ∷ us) o) (value_at s) ≡ Some vs
    → with_first s m g ≡ at_values vs
first_too (at_value v) m g None vs h e = absurd cc
first_too (at_value v) m g (Some us) vs h e =
    ap (with_first (at_value v) m) (h us refl) ∙ ap at_values (some_same e)
  where
    some_same : Some (v ∷ us) ≡ Some vs → v ∷ us ≡ vs
    some_same q = cc
first_too (at_throw v) m g o vs h e = absurd cc
first_too open_yet m g o vs h e = absurd cc

all_values : (ts : List Term) (vs : List Value) → values_of ts ≡ Some vs
    → standing_together ts ≡ at_values vs
all_values [] vs e = ap at_values (none_same e)
  where
    none_same : Some [] ≡ Some vs → [] ≡ vs
    none_same q = cc
all_values (t ∷ ts) vs e =
    first_too (standing t) (has_stepped t) (standing_together ts) (values_of ts) vs
    (λ us q. all_values ts us q) e

-- a tuple that stands has no step, as its form hasn't
pub group_acts : (p : Program) (ts : List Term)
    → act p (group ts) ≡ once_all ts (λ vs. too_deep p (depth (Tuple vs)))
group_acts p ts = go (values_of ts) refl
  where
    deep : List Value → Act
    deep vs = too_deep p (depth (Tuple vs))

    stands : (vs : List Value) (b : Bool) → nat_le (depth (Tuple vs)) deepest ≡ b
        → group ts ≡ (if b then term.Value (Tuple vs) else Group ts)
        → standing_together ts ≡ at_values vs → act p (group ts) ≡ once_all ts deep
    stands vs true e q s =
        ap (act p) q ∙ ap (act_at p) (outs-Value (Tuple vs))
        ∙ sym (ap (λ g. by_together g deep) s ∙ ap (λ
        (c : Bool). if c then stuck else throwing p p.built_in.depth_exceeded) e)
    stands vs false e q s = ap (act p) q ∙ group_form p ts

    go : (o : Option (List Value)) → values_of ts ≡ o → act p (group ts) ≡ once_all ts deep
    go None e = ap (act p) (group_open ts e) ∙ group_form p ts
    go (Some vs) e =
        stands vs (nat_le (depth (Tuple vs)) deepest) refl (ap (tuple_of ts) e) (all_values ts vs e)

-- two parts or not
is_two : (c : Term → Term → Term) (ts : List Term) (a b : Term) → length ts ≡ 2 → a ≡ get_or ts 0 a
    → b ≡ get_or ts 1 b → of_two c ts ≡ c a b
is_two c [] a b e p q = absurd (omega (arith, e))
is_two c (x ∷ []) a b e p q = absurd (omega (arith, e))
is_two c (x ∷ y ∷ []) a b e p q = ap (λ z. c z y) (sym p) ∙ ap (λ z. c a z) (sym q)
is_two c (x ∷ y ∷ z ∷ zs) a b e p q = absurd (omega (arith, e))

not_two : (c : Term → Term → Term) (ts : List Term) → length ts ≢ 2 → of_two c ts ≡ Group ts
not_two c [] n = refl
not_two c (x ∷ []) n = refl
not_two c (x ∷ y ∷ []) n = absurd (n refl)
not_two c (x ∷ y ∷ z ∷ zs) n = refl

module _ (p : Program) (ts : List Term) where
  else_group : (c : Term → Term → Term) → length ts ≢ 2
      → act p (of_two c ts) ≡ once_all ts (λ vs. too_deep p (depth (Tuple vs)))
  else_group c n = ap (act p) (not_two c ts n) ∙ group_form p ts

  pub apply_two : (a b : Term) → length ts ≡ 2 → a ≡ get_or ts 0 a → b ≡ get_or ts 1 b
      → act p (of_two Apply ts) ≡ once_all (a ∷ b ∷ []) applying
  apply_two a b e q r = ap (act p) (is_two Apply ts a b e q r) ∙ apply_acts p a b

  pub apply_else : length ts ≢ 2
      → act p (of_two Apply ts) ≡ once_all ts (λ vs. too_deep p (depth (Tuple vs)))
  apply_else n = else_group Apply n

  pub for_two : (a b : Term) → length ts ≡ 2 → a ≡ get_or ts 0 a → b ≡ get_or ts 1 b
      → act p (of_two ForHalves ts) ≡ once_all (a ∷ b ∷ []) (λ vs. becomes (term.Value unit))
  for_two a b e q r = ap (act p) (is_two ForHalves ts a b e q r) ∙ for_halves_acts p a b

  pub for_else : length ts ≢ 2
      → act p (of_two ForHalves ts) ≡ once_all ts (λ vs. too_deep p (depth (Tuple vs)))
  for_else n = else_group ForHalves n

  pub reduce_two : (set : SetId) (a b : Term) → length ts ≡ 2 → a ≡ get_or ts 0 a
      → b ≡ get_or ts 1 b
      → act p (of_two (ReduceHalves set) ts) ≡ once_all (a ∷ b ∷ []) (calls set)
  reduce_two set a b e q r =
      ap (act p) (is_two (ReduceHalves set) ts a b e q r) ∙ reduce_halves_acts p set a b

  pub reduce_else : (set : SetId) → length ts ≢ 2
      → act p (of_two (ReduceHalves set) ts) ≡ once_all ts (λ vs. too_deep p (depth (Tuple vs)))
  reduce_else set n = else_group (ReduceHalves set) n

pub ruleset applies = (apply_two, apply_else)

pub ruleset fors = (for_two, for_else)

pub ruleset reductions = (reduce_two, reduce_else)

pub ruleset acts = (group_acts, call_acts, also_acts)

-- a part back in its node
pub put_part : (n : Node) (x : Term)
    → form_of n.head (slice_set n.parts n.«at» x) ≡ on (frame_of_node n) x
put_part n x =
    ap (form_of n.head) (sym (put_back n.parts n.«at» x n.within)) ∙ sym (node_is_form n x)
