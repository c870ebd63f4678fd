-- No form of the prelude's own leaves the prelude's own names alone.
use Rattle.std.proofs.Common.{ℕ, [], ◌∷◌, refl, inl, inr}
use Rattle.fort_core.specs.declared.form.Mode.TheVariants as mode
use Rattle.fort_core.specs.declared.program.Program.{Program}
use Rattle.fort_core.specs.declared.term.Term.{Term, Call, Operator, If, Atomic}
use Rattle.fort_core.specs.declared.term.Term as term
use Rattle.fort_core.specs.declared.term.Term.TheVariants.{outs-Call, outs-Operator, outs-Let, outs-ReadField, outs-Then, outs-If, outs-Atomic}
use Rattle.fort_core.specs.declared.value.Value.{Value}
use Rattle.fort_threads_law_servers.specs.Prelude.{Names, object_of, waiting}
use Rattle.fort_threads_law_servers.specs.Roots.{Start}
use Rattle.fort_threads_law_servers.specs.Calls.{spawning, mark_at, getting, asking}
use Rattle.fort_threads_law_private.specs.Grounds.{Ground}
use Rattle.fort_threads_law_private.specs.Private.{Private}
use Rattle.fort_threads_law_private.proofs.Values.{privates_as, first_of, rest_of}

module _ {p : Program} {n : Names} {m : Start} {g : Ground} where
  -- a mark is read
  not_mark : (l : ℕ) → Private p n m g (mark_at n l) → ⊥
  not_mark l h =
      (privates_as _ (outs-ReadField (term.Value (object_of n l)) n.state) h).keeps (inr (inl refl))

  -- a call of `spawn'`, with what it makes
  pub not_spawning : (f : Value)
      → Private p n m g (spawning n (Call n.make (term.Value f ∷ []))) → ⊥
  not_spawning f h =
      let make = first_of (privates_as _ (outs-Let _ _ _) h).terms in
      (privates_as _ (outs-Call n.make (term.Value f ∷ [])) make).keeps (inr (inr (inr (inl refl))))

  -- one of `wait`
  pub not_waiting : (l : ℕ) → Private p n m g (Atomic mode.Atomic (waiting n l)) → ⊥
  not_waiting l h =
      let body = first_of (privates_as _ (outs-Atomic mode.Atomic (waiting n l)) h).terms in
      let test = first_of (privates_as _ (outs-If _ _ _) body).terms in
      not_mark l (first_of (privates_as _ (outs-Operator n.equal _) test).terms)

  -- one of `val`
  pub not_getting : (l : ℕ)
      → Private p n m g (getting n l (Call n.wait (term.Value (object_of n l) ∷ []))) → ⊥
  not_getting l h =
      let told = first_of (rest_of (privates_as _ (outs-Then _ _) h).terms) in
      let test = first_of (privates_as _ (outs-If _ _ _) told).terms in
      not_mark l (first_of (privates_as _ (outs-Operator n.equal _) test).terms)

  -- one of `ready`
  pub not_asking : (l : ℕ) → Private p n m g (asking n (mark_at n l)) → ⊥
  not_asking l h = not_mark l (first_of (privates_as _ (outs-Operator n.differs _) h).terms)
