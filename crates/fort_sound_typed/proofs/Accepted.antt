-- What the proofs stand on, of each accepted program.
use Rattle.std.proofs.Common.{sym, subst}
use Rattle.fort_core.specs.declared.program.Program.{Program}
use Rattle.fort_sound_typed.specs.Typing.{HasVs}
use Rattle.fort_sound_typed.specs.Sound.{Sound}
use Rattle.fort_sound_typed.proofs.Computed.{through}
use Rattle.fort_sound_typed.proofs.Order.{itself, tuples, absorbs, transitive, under_of, shape}
use Rattle.fort_sound_typed.proofs.Answered.{answers_fit}
use Rattle.fort_sound_typed.proofs.Facts.{AnswerFits, Facts}

pub facts : (k : Program) → Sound k → Facts k
facts k o = let t = through k.types.below o.through in record {
  reflexive = itself k;
  transitive = λ A B C x y. transitive k t x y;
  shape = shape k;
  absorbs = λ A B C x y. absorbs k t C x y;
  tuples = tuples k;
  leaf = λ i j s e m h. o.leaf i j s e m (under_of k h);
  fields = λ i j f A s x e m h. o.fields i j f A s x e m (under_of k h);
  results = o.results;
  bodies = o.bodies;
  signatures = o.primitives;
  primitives = λ S d decl f vs e q h.
      let i = o.primitives d decl f e q in
      subst (λ R. AnswerFits k S f vs R) (sym i.1)
      (answers_fit k S f vs (subst (HasVs k S vs) i.0 h));
  constructors = o.constructors;
  opened = o.opened;
  first = o.first;
  failures = o.failures;
}
