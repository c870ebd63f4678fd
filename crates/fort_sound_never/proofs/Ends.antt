-- Where the root machine of a sound program is finished, it is at its end: its term is of type
-- `()`.
use Rattle.std.proofs.Common.{◌≡◌, Bool, true, false, List, [], ◌∷◌, refl, ap, sym, ◌∙◌, subst, inl, inr}
use Rattle.fort_core.specs.declared.program.Program.{Program}
use Rattle.fort_core.specs.declared.term.Term.{Term}
use Rattle.fort_core.specs.declared.term.Term as term
use Rattle.fort_core.specs.declared.value.Value.{Value, Tuple, roll-Value, roll-out-Value}
use Rattle.fort_core.specs.declared.value.Value.TheVariants.{rolls-Tuple}
use Rattle.fort_machine.specs.Acts.{unit}
use Rattle.fort_machine.specs.Effects.{Store}
use Rattle.fort_machine.specs.Ends.{Finished, value, throw}
use Rattle.fort_machine.specs.Proper.{Reached, at_first, by_run, in_attempt}
use Rattle.fort_sound_typed.specs.Envs.{Sig, none}
use Rattle.fort_sound_typed.specs.Typing.{unit_type, Has, HasV, HasVs}
use Rattle.fort_sound_typed.specs.Sound.{Up, opening, StoreOk, Sound, Typed, StaysTyped}
use Rattle.fort_sound_typed.specs.Goes.{Complete}
use Rattle.fort_sound_typed.proofs.Accepted.{facts}
use Rattle.fort_sound_typed.proofs.Canonical.{tuple_is}
use Rattle.fort_sound_typed.proofs.Rules.{value_has}
use Rattle.fort_walk_turns.specs.Stops.{IsAtEnd}

module _ (stays : StaysTyped) (p : Program) (sound : Sound p) (complete : Complete p) where
  -- the root's term keeps the type of the first one
  root_typed : {inner : Bool} {s : Store} {t : Term} → Reached p inner s t → inner ≡ false
      → Typed p t s unit_type
  root_typed (at_first a b c) e = record {
    types = opening p;
    store = subst (StoreOk p (opening p)) (sym b) sound.opened;
    term = subst (λ u. Has p (opening p) none u unit_type) (sym c) sound.first;
  }
  root_typed {inner} {t = t'} (by_run {s = s} {t = t} {picks = picks} {d = d} r w q) e =
      subst (λ x. Typed p t' x unit_type) (sym q)
      (stays p sound inner true s picks t t' d unit_type (root_typed r e) w)
  root_typed (in_attempt fs r c form n) e = let z : true ≡ false = sym n ∙ e in absurd cc

  no_values : (S : Sig) (vs : List Value) → HasVs p S vs [] → vs ≡ []
  no_values S [] h = refl
  no_values S (v ∷ vs) h = elim h [ ]

  -- a value of type `()` is `()`
  is_unit : (S : Sig) → Up (opening p) S → (v : Value) → HasV p S v unit_type → v ≡ unit
  is_unit S opens v h =
      let t = tuple_is p (facts p sound) complete S opens v [] h in
      sym (roll-out-Value v) ∙ ap roll-Value t.1 ∙ rolls-Tuple t.0 ∙ ap Tuple (no_values S t.0 t.2)

  at_end : (s : Store) (t : Term) → Reached p false s t → Finished t → IsAtEnd false t
  at_end s t r (value v e) =
      let y = root_typed r refl in
      let h = value_has p y.types ((facts p sound).transitive)
      (subst (λ u. Has p y.types none u unit_type) e y.term) in
      inl (e ∙ ap term.Value (is_unit y.types (y.store).opened v h))
  at_end s t r (throw v e) = inr (v, e)

  pub is_at_end : (inner : Bool) (s : Store) (t : Term) → Reached p inner s t → Finished t
      → IsAtEnd inner t
  is_at_end true s t r f = f
  is_at_end false s t r f = at_end s t r f
