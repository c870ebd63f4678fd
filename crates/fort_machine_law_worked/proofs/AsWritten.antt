-- The programs of the worked runs are as they are written.
use Rattle.std.proofs.Common.{◌≡◌, ℕ, false, List, [], ◌∷◌, ◌++◌, map, refl, ap, sym, ◌∙◌, subst}
use Rattle.std.specs.List.{list_any, concat}
use Rattle.std.specs.Prelude.{nat_lt}
use Rattle.fort_core.specs.declared.form.Mode.TheVariants as mode
use Rattle.fort_core.specs.declared.form.Slot.{Slot}
use Rattle.fort_core.specs.declared.program.Program.{Program}
use Rattle.fort_core.specs.declared.term.Term.{Term, Call}
use Rattle.fort_core.specs.declared.term.Term as term
use Rattle.fort_machine.specs.Acts.{unit}
use Rattle.fort_machine.specs.Ends.{throw_of}
use Rattle.fort_machine.specs.Written.{StandOnce, terms_of, constants_of, functions_in_value, AllWrittenValues, end_of_values, first_value, all_binders, WrittenProgram}
use Rattle.fort_machine.specs.Worked.{set, letter, printing, hello}
use Rattle.fort_machine_law_worked.specs.Pieces.{written, number, number_type}
use Rattle.fort_machine_law_worked.specs.Overflow.{printing_sum, overflowing}
use Rattle.fort_machine_law_worked.specs.TwoThreads.{two_blocks, two_threads}
use Rattle.fort_machine_law_worked.specs.TwoThreads as two
use Rattle.fort_machine_law_worked.specs.Failing.{exception, inner, catching, outer, failing_body, failing}
use Rattle.fort_machine_law_worked.specs.Sleeping.{blocks, sleeping_body, sleeping}
use Rattle.fort_machine_law_worked.specs.Passing.{passing_body, passing}
use Rattle.fort_machine_law_worked.specs.AsWritten.{WorkedAreWritten}
use Rattle.fort_machine_law_worked.proofs.WrittenForms.{Plain, Plains, none, next, plain_unit, plain_object, plain_text, plain_number, plain-Value, plain-Throw, plain-Call, plain-Operator, plain-Mutable, plain-Read, plain-Write, plain-Then, plain-If, plain-Also, plain-Try, plain-Atomic, EachDeclared, declared}

-- a body of a declaration without parameters binds past them
past : {xs : List ℕ} (t : Term) → Plain t xs → list_any (λ n. nat_lt n 0) xs ≡ false
    → list_any (λ n. nat_lt n 0) (all_binders t) ≡ false
past t h e = ap (list_any (λ n. nat_lt n 0)) h.binders ∙ e

program_at : (p : Program) (xss : List (List ℕ)) → Plains (terms_of p) xss
    → AllWrittenValues (constants_of p) → concat (map functions_in_value (constants_of p)) ≡ []
    → EachDeclared p p.decls → WrittenProgram p
program_at p xss ps vs e ds = record {
  terms = ps.are_written;
  values = vs;
  numbers =
      subst StandOnce
      (sym (ap (λ z. z ++ concat (map functions_in_value (constants_of p))) ps.functions ∙ e)) tt;
  declarations = λ d decl q. declared p p.decls ds d.0 decl q;
}

-- the first term of each
begins : Plain (Call (set 0) []) []
begins = plain-Call (set 0) [] none

print_is : (s : List ℕ) → Plain (two.printing s) []
print_is s = plain-Call (set 1) _ (next (plain-Value _ (plain_text s)) none)

hello_is : WrittenProgram hello
hello_is = let b = plain-Call (set 1) _ (next (plain-Value letter (plain_text _)) none) in
    program_at hello _ (next begins (next b none)) end_of_values refl (
      past printing b refl,
      (tt, tt),
    )

sum_is : Plain printing_sum []
sum_is = plain-Call (set 1) _
    (next (plain-Operator (set 2) _
    (next (plain-Value _ (plain_number _)) (next (plain-Value _ (plain_number _)) none))) none)

overflowing_is : WrittenProgram overflowing
overflowing_is =
    let u = plain_unit
    in program_at overflowing _ (next begins (next sum_is none))
    (first_value u.is_written end_of_values) (ap (λ z. z ++ []) u.functions)
    (past printing_sum sum_is refl, (tt, (tt, tt)))

two_are : Plain two_blocks []
two_are = plain-Also _ (next (print_is _) (next (print_is _) none))

two_threads_is : WrittenProgram two_threads
two_threads_is =
    program_at two_threads _ (next begins (next two_are none)) end_of_values refl
    (past two_blocks two_are refl, (tt, tt))

thrown_is : Plain (throw_of exception) []
thrown_is = plain-Throw _ (plain-Value exception (plain_object _ _))

put_is : (x : Slot) (n : ℕ) → Plain (term.Write x (term.Value (number n))) []
put_is x n = plain-Write x _ (plain-Value _ (plain_number _))

inner_is : (x : Slot) → Plain (inner x) []
inner_is x = plain-Atomic mode.Atomic _ (plain-Then _ _ (put_is x 5) thrown_is)

catching_is : (x : Slot) → Plain (catching x) (1 ∷ [])
catching_is x = plain-Try _ 1 _ _ (inner_is x) (plain-Value unit plain_unit) refl

outer_is : (x : Slot) → Plain (outer x) (1 ∷ [])
outer_is x = plain-Atomic mode.Atomic _ (plain-Then _ _ (put_is x 1) (catching_is x))

failing_are : Plain failing_body (0 ∷ 1 ∷ [])
failing_are =
    plain-Mutable 0 number_type _ _ (plain-Value _ (plain_number _)) (outer_is written) refl

failing_is : WrittenProgram failing
failing_is =
    let u = plain_unit
    in program_at failing _ (next begins (next failing_are none))
    (first_value u.is_written end_of_values) (ap (λ z. z ++ []) u.functions)
    (past failing_body failing_are refl, tt)

blocks_are : (x : Slot) → Plain (blocks x) []
blocks_are x =
    plain-Also _
    (next (plain-Atomic mode.Atomic _
    (plain-If _ _ _
    (plain-Operator (set 1) _
    (next (plain-Read x) (next (plain-Value _ (plain_number _)) none)))
    (plain-Call (set 2) [] none) (plain-Value unit plain_unit)))
    (next (plain-Atomic mode.Atomic _ (put_is x 1)) none))

sleeping_are : Plain sleeping_body (0 ∷ [])
sleeping_are =
    plain-Mutable 0 number_type _ _ (plain-Value _ (plain_number _)) (blocks_are written) refl

sleeping_is : WrittenProgram sleeping
sleeping_is =
    program_at sleeping _ (next begins (next sleeping_are none)) end_of_values refl
    (past sleeping_body sleeping_are refl, (tt, (tt, tt)))

passing_are : Plain passing_body []
passing_are = plain-Also _ (next thrown_is (next (print_is _) none))

passing_is : WrittenProgram passing
passing_is =
    let u = plain_unit
    in program_at passing _ (next begins (next passing_are none))
    (first_value u.is_written end_of_values) (ap (λ z. z ++ []) u.functions)
    (past passing_body passing_are refl, (tt, tt))

pub worked_are_written : WorkedAreWritten
worked_are_written = (hello_is, overflowing_is, two_threads_is, failing_is, sleeping_is, passing_is)
