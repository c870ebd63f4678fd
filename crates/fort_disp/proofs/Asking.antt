-- More specific goes through, and what it is to be asked.
use Rattle.std.proofs.Common.{◌≡◌, true, List, [], ◌∷◌, Some, refl, ◌∙◌}
use Rattle.std.specs.Prelude.{slice_get}
use Rattle.fort_base.specs.declared.ids.DeclId.{DeclId}
use Rattle.fort_base.specs.declared.ty.Ty.{Ty}
use Rattle.fort_core.specs.declared.program.CoreDecl.{CoreDecl}
use Rattle.fort_core.specs.declared.program.Program.{Program}
use Rattle.fort_machine.specs.Types.{below, all_below}
use Rattle.fort_machine.specs.Calls.{IsMoreSpecific}
use Rattle.fort_disp.specs.Rows.{GoesThrough}
use Rattle.fort_disp.specs.Fits.{asked, goes_before}
use Rattle.fort_disp.proofs.Bools.{left_true, right_true, both_true, asked_is, asked_there}

-- lists of types go through a third one
pub each_through : (p : Program) → GoesThrough p → (us vs ws : List Ty) → all_below p us vs ≡ true
    → all_below p vs ws ≡ true → all_below p us ws ≡ true
each_through p t [] [] [] e f = refl
each_through p t [] [] (c ∷ ws) e f = f
each_through p t [] (b ∷ vs) ws e f = absurd cc
each_through p t (a ∷ us) [] ws e f = absurd cc
each_through p t (a ∷ us) (b ∷ vs) [] e f = absurd cc
each_through p t (a ∷ us) (b ∷ vs) (c ∷ ws) e f =
    both_true (below p a c) (all_below p us ws)
    (t a b c (left_true (below p a b) (all_below p us vs) e)
    (left_true (below p b c) (all_below p vs ws) f))
    (each_through p t us vs ws (right_true (below p a b) (all_below p us vs) e)
    (right_true (below p b c) (all_below p vs ws) f))

-- what goes before another one is there, as that one is, and is more specific
pub before_is : (p : Program) (d e : DeclId) → goes_before p d e ≡ true
    → (decl : CoreDecl) × (slice_get p.decls d.0 ≡ Some decl) × (other : CoreDecl)
    × (slice_get p.decls e.0 ≡ Some other) × IsMoreSpecific p decl other
before_is p d e g =
    let a = asked_is (slice_get p.decls d.0)
    (λ decl. asked (slice_get p.decls e.0)
    (λ other. all_below p decl.parameters other.parameters)) g in
    let b = asked_is (slice_get p.decls e.0) (λ other. all_below p a.0.parameters other.parameters)
    a.2 in
    (a.0, a.1, b.0, b.1, b.2)

pub specific_before : (p : Program) (d e : DeclId) (decl other : CoreDecl)
    → slice_get p.decls d.0 ≡ Some decl → slice_get p.decls e.0 ≡ Some other
    → IsMoreSpecific p decl other
    → goes_before p d e ≡ true
specific_before p d e decl other a b s =
    asked_there (slice_get p.decls d.0)
    (λ decl. asked (slice_get p.decls e.0)
    (λ other. all_below p decl.parameters other.parameters)) decl a
    ∙ asked_there (slice_get p.decls e.0) (λ other. all_below p decl.parameters other.parameters)
    other b ∙ s
