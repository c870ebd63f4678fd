-- A program whose tables say so keeps the prelude's own names to the prelude.
use Rattle.std.proofs.Common.{◌≡◌, ℕ, ◌+◌, ◌==◌, Bool, true, false, if◌then◌else◌, List, [], ◌∷◌, Option, Some, None, refl, ap, sym, ◌∙◌, subst, inl, inr}
use Rattle.std.specs.Prelude.{slice_get, option_map, option_and_then}
use Rattle.std.specs.List.{AllByRecursion}
use Rattle.std.proofs.lemmas.Option.{option_and_then_some}
use Rattle.fort_base.specs.declared.ids.Loc.{Loc}
use Rattle.fort_base.specs.declared.ids.NameId.{NameId}
use Rattle.fort_base.specs.declared.ids.SetId.{SetId}
use Rattle.fort_core.specs.declared.program.CoreField.{CoreField}
use Rattle.fort_core.specs.declared.program.CoreShape.{CoreShape}
use Rattle.fort_core.specs.declared.program.Program.{Program}
use Rattle.fort_core.specs.declared.term.Term.TheOpen.{Value-F}
use Rattle.fort_core.specs.declared.value.Value.{Value}
use Rattle.fort_machine.specs.Acts.{object_of}
use Rattle.fort_machine.specs.Forms.{place_of, field_of}
use Rattle.fort_machine.specs.Journals.{value_in}
use Rattle.fort_machine.specs.Scopes.{is_among}
use Rattle.fort_threads_law_servers.specs.Prelude.{Names}
use Rattle.fort_threads_law_private.specs.Apart.{KeepsApart}
use Rattle.fort_threads_law_private.specs.Private.{secret_sets, IsSecretSet, IsSecretField}
use Rattle.fort_threads_law_tables.specs.Tabled.{HasFields}
use Rattle.fort_sound_tables.specs.declared.numbers.Numbers.{Numbers}
use Rattle.fort_sound_tables.specs.Numbers.{names, start, known}
use Rattle.fort_sound_tables.specs.Leaves.{ground_of, own_sets, LeavesValue}
use Rattle.fort_sound_tables.specs.Threads.{LeavesPair, AllStandsApart}
use Rattle.fort_sound_tables.proofs.Lists.{at_item, equal_is, some_is, one_of}

-- an object of a thread has no other field
module _ (p : Program) (n : Names) (h : HasFields p n) (f : NameId)
    (spares : IsSecretField n f → ⊥) where
  same_name : (a b : NameId) → a.0 ≡ b.0 → a ≡ b
  same_name a b e = ap (λ (k : ℕ). number k) e
    where
      number : ℕ → NameId
      number k = record { 0 = k }

  other_name : (g : NameId) → (f ≡ g → IsSecretField n f) → (c : CoreField) → c.name ≡ g
      → (c.name.0 == f.0) ≡ false
  other_name g k c e = go (c.name.0 == f.0) refl
    where
      go : (b : Bool) → (c.name.0 == f.0) ≡ b → (c.name.0 == f.0) ≡ false
      go true q = absurd (spares (k (sym (same_name c.name f (equal_is c.name.0 f.0 q)) ∙ e)))
      go false q = q

  passes : (c : CoreField) (cs : List CoreField) → (c.name.0 == f.0) ≡ false
      → place_of f cs ≡ None → place_of f (c ∷ cs) ≡ None
  passes c cs e q =
      ap (λ (b : Bool). if b then Some 0 else option_map (λ (k : ℕ). k + 1) (place_of f cs)) e
      ∙ ap (option_map (λ (k : ℕ). k + 1)) q

  nowhere : place_of f h.shape.fields ≡ None
  nowhere =
      ap (place_of f) h.are_fields
      ∙ passes h.body (h.state ∷ h.value ∷ h.next ∷ []) (other_name n.body (λ e. inl e) h.body
      h.is_body.0)
      (passes h.state (h.value ∷ h.next ∷ []) (other_name n.state (λ e. inr (inl e)) h.state
      h.is_state.0)
      (passes h.value (h.next ∷ []) (other_name n.value (λ e. inr (inr (inl e))) h.value
      h.is_value.0)
      (passes h.next [] (other_name n.next (λ e. inr (inr (inr (inl e)))) h.next h.is_next.0)
      refl)))

  pub no_other : (base : Loc) → field_of p f (Value-F.Object n.thread base) ≡ None
  no_other base =
      ap (λ (o : Option CoreShape). option_and_then (λ (s : CoreShape).
      option_map (λ (k : ℕ). base.0 + k) (place_of f s.fields)) o) h.is_shape
      ∙ ap (option_map (λ (k : ℕ). base.0 + k)) nowhere

-- what stands at a location of the opening store leaves the names alone
stands : (p : Program) (x : Numbers) (es : List (Loc × Value)) → AllByRecursion (LeavesPair p x) es
    → (l : ℕ) (v : Value) → value_in es l ≡ Some v → LeavesValue p x v
stands p x [] h l v e = absurd cc
stands p x (d ∷ es) h l v e = go (d.0.0 == l) e (λ q. stands p x es h.1 l v q)
  where
    go : (b : Bool) → (if b then Some d.1 else value_in es l) ≡ Some v
        → (value_in es l ≡ Some v → LeavesValue p x v) → LeavesValue p x v
    go true q r = subst (λ z. LeavesValue p x z) (some_is d.1 v q) h.0
    go false q r = r q

-- a set that isn't the prelude's own, by its number
spared : (p : Program) (x : Numbers) (set : SetId) → (IsSecretSet (names x) (start x) set → ⊥)
    → is_among set.0 (own_sets x) ≡ false
spared p x set spares = go (is_among set.0 (own_sets x)) refl
  where
    same : (a b : SetId) → a.0 ≡ b.0 → a ≡ b
    same a b e = ap (λ (k : ℕ). number k) e
      where
        number : ℕ → SetId
        number k = record { 0 = k }

    go : (b : Bool) → is_among set.0 (own_sets x) ≡ b → is_among set.0 (own_sets x) ≡ false
    go true q =
        absurd (spares (one_of (λ (s : SetId). s.0) same set (secret_sets (names x) (start x)) q))
    go false q = q

pub keeps_apart : (p : Program) (x : Numbers) → HasFields p (names x) → AllStandsApart p x
    → KeepsApart p (names x) (start x) (known x) (ground_of p x)
keeps_apart p x h a = record {
  bodies = λ set values c d spares r.
      let i = r.most_specific.applicable in
      at_item _ i.members.decls c
      (a.sets set.0 (spared p x set spares) i.members i.is_set) i.is_member d i.is_decl;
  fields = λ id s e. (a.shapes id.0 s e).0;
  singles = λ id v e.
      option_and_then_some (object_of id) (slice_get p.shapes id.0) v e
      (λ s q r. (a.shapes id.0 s q).1 v r);
  opening = λ l v o e. stands p x p.opening a.opening l v e;
  no_other_field = λ f base spares. no_other p (names x) h f spares base;
}
