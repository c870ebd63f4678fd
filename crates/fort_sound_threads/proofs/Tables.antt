-- The tables of the law on what is thrown.
use Rattle.std.proofs.Common.{◌≡◌, ◌≢◌, ℕ, zero, suc, ◌==◌, true, false, List, [], ◌∷◌, ap, sym, ◌∙◌, subst, arith}
use Rattle.std.specs.Prelude.{Contains, slice_get}
use Rattle.fort_base.specs.declared.ids.DeclId.{DeclId}
use Rattle.fort_base.specs.declared.ids.SetId.{SetId}
use Rattle.fort_base.specs.declared.ids.TypeId.{TypeId}
use Rattle.fort_core.specs.declared.program.CoreDecl.{CoreDecl}
use Rattle.fort_core.specs.declared.program.CoreSet.{CoreSet}
use Rattle.fort_core.specs.declared.program.Program.{Program}
use Rattle.fort_sound_typed.specs.Typing.{unit_type}
use Rattle.fort_threads_law_thrown.specs.Tables.{Gives, Tables}
use Rattle.fort_sound_tables.specs.Threads.{HasThreads, GivesNothing}
use Rattle.fort_sound_threads.proofs.Lookups.{some_is, self_equal}

gives : (p : Program) (set : SetId) → GivesNothing p set → Gives p set unit_type
gives p set h members e d i y q =
    let z = some_is (record { decls = h.number ∷ [] }) members (sym h.has_one.is_set ∙ e) in
    let w : h.number ≡ d = only (subst (λ (s : CoreSet). Contains s.decls d) (sym z) i) in
    ap (λ (c : CoreDecl). c.result)
    (some_is y h.declared
    (sym q ∙ ap (λ (c : DeclId). slice_get p.decls c.0) (sym w) ∙ h.has_one.is_decl))
    ∙ h.gives
  where
    only : Contains (h.number ∷ []) d → h.number ≡ d
    only (zero, l, q) = q
    only (suc n, l, q) = absurd (omega (arith, l))

differ : (a b : TypeId) → (a.0 == b.0) ≡ false → a ≢ b
differ a b h e =
    let z : (b.0 == b.0) ≡ false = ap (λ (x : TypeId). x.0 == b.0) (sym e) ∙ h in
    let w : true ≡ false = sym (self_equal b.0) ∙ z in cc

pub tables : (p : Program) (h : HasThreads p) → Tables p h.called h.begun h.owned
tables p h = record {
  exception = h.exception.exception;
  itself = h.exception.itself;
  other = differ h.called.thread p.built_in.exception h.exception.other;
  apart = h.exception.apart;
  differs = record {
    number = h.differs.runs.number;
    declared = h.differs.runs.declared;
    applies = record {
      members = h.differs.runs.runs.members;
      is_set = h.differs.runs.runs.is_set;
      is_member = h.differs.runs.runs.is_member;
      is_decl = h.differs.runs.runs.is_decl;
      applies = h.differs.runs.runs.applies;
    };
    takes = h.differs.takes;
    gives = h.differs.gives;
  };
  main = gives p h.begun.main h.main;
  own = gives p h.owned.set h.own_run;
  function = h.function.function;
  is_function = h.function.is_function;
  gives_unit = h.function.gives;
}
