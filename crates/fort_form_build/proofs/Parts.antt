-- What of a form is made of lists and of parts that may be left out.
use Rattle.std.proofs.Common.{◌≡◌, ℕ, ◌+◌, Bool, true, false, List, [], ◌∷◌, ◌++◌, Option, Some, None, length, refl, sym, ap, ◌∙◌, arith}
use Rattle.std.specs.Prelude.{map, option_map, is_some}
use Rattle.std.specs.List.{flat_map}
use Rattle.fort_base.specs.declared.refusal.Place.{Place}
use Rattle.fort_form.specs.declared.form.Form.{Form}
use Rattle.fort_form.specs.declared.form.Form.TheVariants as a_form
use Rattle.fort_form.specs.declared.form.Form.TheViews.{roll-Branch}
use Rattle.fort_form.specs.declared.form.Branch.{Branch}
use Rattle.fort_tree.specs.declared.delimited.BlockItem.{BlockItem}
use Rattle.fort_tree.specs.declared.delimited.CaseClause.{CaseClause, out-CaseClause}
use Rattle.fort_tree.specs.declared.delimited.Elif.{Elif, out-Elif}
use Rattle.fort_tree.specs.declared.delimited.ElseBlock.{ElseBlock}
use Rattle.fort_tree.specs.declared.delimited.ElseClause.{ElseClause, out-ElseClause}
use Rattle.fort_tree.specs.declared.delimited.Finally.{Finally}
use Rattle.fort_form_meaning.specs.Source.{Source}
use Rattle.fort_form_meaning.specs.Levels.{Placed}
use Rattle.fort_form_meaning.specs.Formed.{formed_block_item, formed_case_clause, formed_elif, formed_else_block, formed_else_clause, formed_finally}
use Rattle.fort_form_meaning.specs.Forming.{between, run_of}
use Rattle.fort_form_meaning.specs.Places.{place_of}
use Rattle.fort_form_meaning.proofs.FormsBlocks.{case_clause_forms, elif_forms, else_clause_forms}
use Rattle.fort_form_tasks.specs.Tasks.{inside_case_clause, inside_elif, inside_else_block, inside_else_clause, inside_finally}
use Rattle.fort_form_build.specs.Taking.{Gives, branch_forms, entry_item, maybe_form}
use Rattle.fort_form_build.proofs.Giving.{nothing, of_one, one}
use Rattle.fort_form_build.proofs.Splitting.{forms_of_branch}

-- ---- branches

pub forms_of_elif : (k : Source) (e : Elif) → branch_forms (formed_elif k e) ≡ inside_elif k e
forms_of_elif k e = ap branch_forms (elif_forms k e) ∙ forms_of_branch _ _

pub forms_of_case_clause : (k : Source) (c : CaseClause)
    → branch_forms (formed_case_clause k c) ≡ inside_case_clause k c
forms_of_case_clause k c = ap branch_forms (case_clause_forms k c) ∙ forms_of_branch _ _

-- the forms of branches, one after another
pub forms_of_branches : {A : Type 0} (f : A → Branch) (v : A → List Form)
    (each : (x : A) → branch_forms (f x) ≡ v x) (xs : List A)
    → flat_map branch_forms (map f xs) ≡ flat_map v xs
forms_of_branches f v each [] = refl
forms_of_branches f v each (x ∷ xs) =
    ap (λ zs. zs ++ flat_map branch_forms (map f xs)) (each x)
    ∙ ap (λ zs. v x ++ zs) (forms_of_branches f v each xs)

-- ---- what may be left out

pub has_form : {A : Type 0} (f : A → Form) (o : Option A) (b : Bool) → b ≡ is_some o
    → is_some (option_map f o) ≡ b
has_form f None b e = sym e
has_form f (Some x) b e = sym e

pub forms_of_else_block : (k : Source) (o : Option ElseBlock)
    → maybe_form (option_map (formed_else_block k) o) ≡ inside_else_block k o
forms_of_else_block k None = refl
forms_of_else_block k (Some e) = refl

pub forms_of_else_clause : (k : Source) (o : Option ElseClause)
    → maybe_form (option_map (formed_else_clause k) o) ≡ inside_else_clause k o
forms_of_else_clause k None = refl
forms_of_else_clause k (Some e) = ap (λ x. x ∷ []) (else_clause_forms k e)

pub forms_of_finally : (k : Source) (o : Option Finally)
    → maybe_form (option_map (formed_finally k) o) ≡ inside_finally k o
forms_of_finally k None = refl
forms_of_finally k (Some f) = refl

-- ---- what stands in a form that ends with `end`

pub if_forms : (k : Source) (test value : Form) (elifs : List Elif) (o : Option ElseBlock)
    → test ∷ value ∷ (flat_map (inside_elif k) elifs ++ inside_else_block k o)
    ≡ flat_map branch_forms
    (roll-Branch (record { test = test; value = value }) ∷ map (formed_elif k) elifs)
    ++ maybe_form (option_map (formed_else_block k) o)
if_forms k test value elifs o =
    sym (ap (λ zs. (zs ++ flat_map branch_forms (map (formed_elif k) elifs))
    ++ maybe_form (option_map (formed_else_block k) o)) (forms_of_branch test value)
    ∙ ap (λ zs. test ∷ value ∷ (zs ++ maybe_form (option_map (formed_else_block k) o)))
    (forms_of_branches (formed_elif k) (inside_elif k) (forms_of_elif k) elifs)
    ∙ ap (λ zs. test ∷ value ∷ (flat_map (inside_elif k) elifs ++ zs)) (forms_of_else_block k o))

pub case_forms : (k : Source) (subject : Form) (clauses : List CaseClause) (o : Option ElseClause)
    → subject ∷ (flat_map (inside_case_clause k) clauses ++ inside_else_clause k o)
    ≡ (subject ∷ [])
    ++ (flat_map branch_forms (map (formed_case_clause k) clauses)
    ++ maybe_form (option_map (formed_else_clause k) o))
case_forms k subject clauses o =
    sym (ap (λ zs. subject ∷ (zs ++ maybe_form (option_map (formed_else_clause k) o)))
    (forms_of_branches (formed_case_clause k) (inside_case_clause k) (forms_of_case_clause k)
    clauses)
    ∙ ap (λ zs. subject ∷ (flat_map (inside_case_clause k) clauses ++ zs))
    (forms_of_else_clause k o))

-- ---- lists of one or more

pub between_many : {A : Type 0} (place : Place) (x : Form) (f : A → Form) (xs : List A)
    → (xs ≡ [] → ⊥) → between place (Some (x ∷ map f xs)) ≡ a_form.Tuple place (x ∷ map f xs)
between_many place x f [] some = absurd (some refl)
between_many place x f (y ∷ ys) some = refl

pub run_of_many : {A : Type 0} (x : Form) (f : A → Form) (xs : List A) → (xs ≡ [] → ⊥)
    → run_of x (map f xs) ≡ a_form.Run (place_of x) (x ∷ map f xs)
run_of_many x f [] some = absurd (some refl)
run_of_many x f (y ∷ ys) some = refl

-- ---- the top where there is to be one

pub maybe_taken : (last : Option Form) {old new : List Form} {made : Form} → is_some last ≡ true
    → old ≡ made ∷ new → Gives (maybe_form last) last old new (Some made)
maybe_taken None is e = absurd cc
maybe_taken (Some x) is e = of_one Some (one x e) refl refl

pub maybe_none : (last : Option Form) {s : List Form} → is_some last ≡ false
    → Gives (maybe_form last) last s s None
maybe_none None is = nothing refl
maybe_none (Some x) is = absurd cc

pub no_items : {A : Type 0} (xs : List A) → length xs ≡ 0 → xs ≡ []
no_items [] e = refl
no_items (x ∷ xs) e = absurd (omega arith)

-- the items of a block without their places
pub items_of : (k : Source) (entries : List BlockItem)
    → map (λ (i : Placed). i.item) (map (formed_block_item k) entries) ≡ map (entry_item k) entries
items_of k [] = refl
items_of k (x ∷ xs) = ap (λ zs. (formed_block_item k x).item ∷ zs) (items_of k xs)
