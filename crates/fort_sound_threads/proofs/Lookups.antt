-- What single lookups say.
use Rattle.std.proofs.Common.{◌≡◌, ◌≢◌, ℕ, zero, suc, ◌==◌, Bool, true, false, List, [], ◌∷◌, ◌++◌, Option, Some, refl, ap, sym, ◌∙◌, subst, rules}
use Rattle.std.specs.Prelude.{slice_get, flat_map}
use Rattle.fort_core.specs.declared.program.CoreBody.{CoreBody}
use Rattle.fort_core.specs.declared.program.CoreBody.TheVariants as body
use Rattle.fort_core.specs.declared.program.CoreDecl.{CoreDecl}
use Rattle.fort_core.specs.declared.program.Program.{Program}
use Rattle.fort_core.specs.declared.term.Term.{Term}
use Rattle.fort_base.specs.declared.ids.DeclId.{DeclId}
use Rattle.fort_machine.specs.Written.{Written, AllWritten, first_term, term_of, WrittenProgram}

pub some_is : {A : Type 0} (x y : A) → Some x ≡ Some y → x ≡ y
some_is x y e = cc

pub equal_is : (n m : ℕ) → (n == m) ≡ true → n ≡ m
equal_is n m e = search (rules, e)

pub self_equal : (n : ℕ) → (n == n) ≡ true
self_equal n = search rules

-- a body of a program as it is written is written
front : (xs ys : List Term) → AllWritten (xs ++ ys) → (t : Term) → xs ≡ t ∷ [] → Written t
front xs ys h t e = first (subst (λ zs. AllWritten (zs ++ ys)) e h)
  where
    first : AllWritten (t ∷ ys) → Written t
    first (first_term w rest) = w

back : (xs ys : List Term) → AllWritten (xs ++ ys) → AllWritten ys
back [] ys h = h
back (x ∷ xs) ys (first_term w rest) = back xs ys rest

abbrev bodies : List CoreDecl → List Term
bodies ds = flat_map (λ (d : CoreDecl). term_of d.body) ds

body_in : (ds : List CoreDecl) (n : ℕ) (d : CoreDecl) (t : Term) → AllWritten (bodies ds)
    → slice_get ds n ≡ Some d → d.body ≡ body.Plain t → Written t
body_in [] n d t h e q = absurd cc
body_in (x ∷ ds) zero d t h e q =
    front (term_of x.body) (bodies ds) h t
    (ap (λ (y : CoreDecl). term_of y.body) (some_is x d e) ∙ ap term_of q)
body_in (x ∷ ds) (suc n) d t h e q = body_in ds n d t (back (term_of x.body) (bodies ds) h) e q

pub body_written : (p : Program) → WrittenProgram p → (c : DeclId) (d : CoreDecl) (t : Term)
    → slice_get p.decls c.0 ≡ Some d → d.body ≡ body.Plain t → Written t
body_written p w c d t e q = body_in p.decls c.0 d t (rest w.terms) e q
  where
    rest : AllWritten (p.first ∷ bodies p.decls) → AllWritten (bodies p.decls)
    rest (first_term a more) = more
