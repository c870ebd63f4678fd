-- Forms on the top of a stack that are as many are the same.
use Rattle.std.proofs.Common.{◌≡◌, ℕ, List, [], ◌∷◌, ◌++◌, length, refl, sym, ap, ◌∙◌, append_assoc, ◌+◌, length-append, arith, rules}
use Rattle.std.specs.Prelude.{map}
use Rattle.std.specs.List.{flat_map}
use Rattle.fort_form.specs.declared.form.Form.{Form, the_lemmas}
use Rattle.fort_form.specs.declared.form.Form.TheViews.{roll-Branch}
use Rattle.fort_form.specs.declared.form.Branch.{Branch, out-Branch}
use Rattle.std.proofs.lemmas.Grind.{flat_map-append}
use Rattle.fort_form_build.specs.Taking.{Gives, branch_forms}

split : {A : Type 0} (xs ys us vs : List A) → length xs ≡ length ys → xs ++ us ≡ ys ++ vs
    → (xs ≡ ys) × (us ≡ vs)
split [] [] us vs n e = (refl, e)
split [] (y ∷ ys) us vs n e = absurd (omega arith)
split (x ∷ xs) [] us vs n e = absurd (omega arith)
split (x ∷ xs) (y ∷ ys) us vs n e =
    let first : x ≡ y = cc in
    let long : length xs ≡ length ys = omega arith in
    let more : xs ++ us ≡ ys ++ vs = cc in
    let r = split xs ys us vs long more in
    (ap (λ z. z ∷ xs) first ∙ ap (λ zs. y ∷ zs) r.0, r.1)

-- so many forms
pub as_many : (forms : List Form) {old new made : List Form} → old ≡ made ++ new
    → length made ≡ length forms → Gives forms forms old new made
as_many forms {old = old} {new = new} {made = made} taken many = record {
  gives = λ rest e. split made forms new rest many (sym taken ∙ e);
}

-- the forms of a branch of two forms
pub forms_of_branch : (t v : Form)
    → branch_forms (roll-Branch (record { test = t; value = v })) ≡ t ∷ v ∷ []
forms_of_branch t v = search (rules, the_lemmas)

-- a branch by its two forms
branch_of : (b : Branch)
    → b ≡ roll-Branch (record { test = (out-Branch b).test; value = (out-Branch b).value })
branch_of b = search (rules, the_lemmas)

split_branches : (bs cs : List Branch) (us vs : List Form) → length bs ≡ length cs
    → flat_map branch_forms bs ++ us ≡ flat_map branch_forms cs ++ vs → (bs ≡ cs) × (us ≡ vs)
split_branches [] [] us vs n e = (refl, e)
split_branches [] (c ∷ cs) us vs n e = absurd (omega arith)
split_branches (b ∷ bs) [] us vs n e = absurd (omega arith)
split_branches (b ∷ bs) (c ∷ cs) us vs n e =
    let test : (out-Branch b).test ≡ (out-Branch c).test = cc in
    let value : (out-Branch b).value ≡ (out-Branch c).value = cc in
    let first : b ≡ c =
    branch_of b ∙ ap (λ t. roll-Branch (record { test = t; value = (out-Branch b).value })) test
    ∙ ap (λ v. roll-Branch (record { test = (out-Branch c).test; value = v })) value
    ∙ sym (branch_of c) in
    let long : length bs ≡ length cs = omega arith in
    let more : flat_map branch_forms bs ++ us ≡ flat_map branch_forms cs ++ vs = cc in
    let r = split_branches bs cs us vs long more in
    (ap (λ z. z ∷ bs) first ∙ ap (λ zs. c ∷ zs) r.0, r.1)

-- so many branches
pub branches_as_many : (branches : List Branch) {old new : List Form} {made : List Branch}
    → old ≡ flat_map branch_forms made ++ new → length made ≡ length branches
    → Gives (flat_map branch_forms branches) branches old new made
branches_as_many branches {old = old} {new = new} {made = made} taken many = record {
  gives = λ rest e. split_branches made branches new rest many (sym taken ∙ e);
}

-- a branch from its two forms
pub branch_taken : {old mid new : List Form} {t v : Form} → old ≡ t ∷ mid → mid ≡ v ∷ new
    → old ≡ branch_forms (roll-Branch (record { test = t; value = v })) ++ new
branch_taken {new = new} {t = t} {v = v} e f =
    e ∙ ap (λ xs. t ∷ xs) f ∙ sym (ap (λ xs. xs ++ new) (forms_of_branch t v))

-- one form more
pub form_more : (made : List Form) {old mid new all : List Form} {x : Form} {n : ℕ}
    → old ≡ made ++ mid → length made ≡ n → mid ≡ x ∷ new → all ≡ made ++ x ∷ []
    → (old ≡ all ++ new) × (length all ≡ n + 1)
form_more made {new = new} {x = x} e l f g = (
  e ∙ ap (λ xs. made ++ xs) f ∙ sym (append_assoc made (x ∷ []) new)
      ∙ sym (ap (λ xs. xs ++ new) g),
  ap length g ∙ length-append made (x ∷ [])
      ∙ ap (λ m. m + 1) l,
)

-- one branch more
pub branch_more : (made : List Branch) (x : Branch) {old mid new : List Form} {all : List Branch}
    {n : ℕ} → old ≡ flat_map branch_forms made ++ mid → length made ≡ n
    → mid ≡ branch_forms x ++ new → all ≡ made ++ x ∷ []
    → (old ≡ flat_map branch_forms all ++ new) × (length all ≡ n + 1)
branch_more made x {new = new} e l f g = (
  e ∙ ap (λ xs. flat_map branch_forms made ++ xs) f
      ∙ sym (append_assoc (flat_map branch_forms made) (branch_forms x) new)
      ∙ sym (ap (λ xs. xs ++ new) (ap (flat_map branch_forms) g
      ∙ flat_map-append branch_forms made (x ∷ []))),
  ap length g ∙ length-append made (x ∷ []) ∙ ap (λ m. m + 1) l,
)
