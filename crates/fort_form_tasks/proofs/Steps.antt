-- Tasks that put forms on the stack, of one part after another.
use Rattle.std.proofs.Common.{◌≡◌, ℕ, ◌+◌, ◌<◌, List, [], ◌∷◌, ◌++◌, get_or, take, length, refl, sym, ap, ◌∙◌, subst, append_assoc, zero, suc, arith}
use Rattle.std.specs.Prelude.{map}
use Rattle.std.specs.List.{flat_map}
use Rattle.std.proofs.lemmas.List.{take_more, append-nil, map-append}
use Rattle.std.proofs.lemmas.Grind.{flat_map-append}
use Rattle.fort_form.specs.declared.form.Form.{Form}
use Rattle.fort_form_meaning.specs.Source.{Source}
use Rattle.fort_form_tasks.specs.declared.task.Part.{Part}
use Rattle.fort_form_tasks.specs.declared.task.Task.{Task}
use Rattle.fort_form_tasks.specs.declared.task.Task.TheVariants as a_task
use Rattle.fort_form_tasks.specs.Tasks.{Leads, Sees, formed_part, inside}

-- the same forms by another name
pub by : {A : Type 0} (k : Source) (f : A → List Form) {x y : A} {old new : List Task} → x ≡ y
    → Sees k (f x) old new → Sees k (f y) old new
by k f {old = old} {new = new} e s = subst (λ z. Sees k (f z) old new) e s

pub none_seen : (k : Source) {all : List Form} {old : List Task} → all ≡ [] → Sees k all old old
none_seen k {old = old} e =
    record { sees = λ done goal h. subst (λ xs. Leads k old (xs ++ done) goal) e h }

pub one_seen : (k : Source) {xs all : List Form} {old new : List Task} → Sees k xs old new
    → all ≡ xs → Sees k all old new
one_seen k {old = old} {new = new} s e = subst (λ ys. Sees k ys old new) (sym e) s

both : (k : Source) (xs ys : List Form) {old mid new : List Task} → Sees k xs old mid
    → Sees k ys mid new → Sees k (xs ++ ys) old new
both k xs ys {old = old} p q =
    record {
      sees =
          λ done goal h. q.sees done goal
          (p.sees (ys ++ done) goal (subst (λ zs. Leads k old zs goal) (append_assoc xs ys done) h));
    }

pub two_seen : (k : Source) (xs ys : List Form) {all : List Form} {old mid new : List Task}
    → Sees k xs old mid → Sees k ys mid new → all ≡ xs ++ ys → Sees k all old new
two_seen k xs ys p q e = one_seen k (both k xs ys p q) e

pub three_seen : (k : Source) (xs ys zs : List Form) {all : List Form}
    {old mid mid' new : List Task} → Sees k xs old mid → Sees k ys mid mid' → Sees k zs mid' new
    → all ≡ xs ++ (ys ++ zs) → Sees k all old new
three_seen k xs ys zs p q r e = one_seen k (both k xs (ys ++ zs) p (both k ys zs q r)) e

pub four_seen : (k : Source) (xs ys zs us : List Form) {all : List Form}
    {old mid mid' mid'' new : List Task} → Sees k xs old mid → Sees k ys mid mid'
    → Sees k zs mid' mid'' → Sees k us mid'' new → all ≡ xs ++ (ys ++ (zs ++ us))
    → Sees k all old new
four_seen k xs ys zs us p q r s e =
    one_seen k (both k xs (ys ++ (zs ++ us)) p (both k ys (zs ++ us) q (both k zs us r s))) e

-- what stands at a place of a list, whatever else would be read
read : (xs : List ℕ) (i d e : ℕ) → i < length xs → get_or xs i d ≡ get_or xs i e
read [] i d e lt = absurd (omega arith)
read (x ∷ xs) zero d e lt = refl
read (x ∷ xs) (suc i) d e lt = read xs i d e (omega arith)

-- a step over the parts of a list, each of which has one form
pub one_more : {A : Type 0} (k : Source) (f : A → Form) (xs : List A) (i : ℕ) (x : A)
    {old at new : List Task} → i < length xs → x ≡ get_or xs i x
    → Sees k (map f (take i xs)) old at → Sees k (f x ∷ []) at new
    → Sees k (map f (take (i + 1) xs)) old new
one_more k f xs i x lt is so_far step =
    let more : map f (take (i + 1) xs) ≡ map f (take i xs) ++ f x ∷ [] =
    ap (map f) (take_more xs i x lt ∙ ap (λ y. take i xs ++ y ∷ []) (sym is))
    ∙ map-append f (take i xs) (x ∷ []) in
    two_seen k (map f (take i xs)) (f x ∷ []) so_far step more

-- the same for parts that are numbers
pub one_number : (k : Source) (f : ℕ → Form) (xs : List ℕ) (i d : ℕ) {old at new : List Task}
    → i < length xs
    → Sees k (map f (take i xs)) old at → Sees k (f (get_or xs i d) ∷ []) at new
    → Sees k (map f (take (i + 1) xs)) old new
one_number k f xs i d lt so_far step =
    one_more k f xs i (get_or xs i d) lt (read xs i d (get_or xs i d) lt) so_far step

-- the same where each part has some forms
pub some_more : {A : Type 0} (k : Source) (f : A → List Form) (xs : List A) (i : ℕ) (x : A)
    {old at new : List Task} → i < length xs → x ≡ get_or xs i x
    → Sees k (flat_map f (take i xs)) old at → Sees k (f x) at new
    → Sees k (flat_map f (take (i + 1) xs)) old new
some_more k f xs i x lt is so_far step =
    let more : flat_map f (take (i + 1) xs) ≡ flat_map f (take i xs) ++ f x =
    ap (flat_map f) (take_more xs i x lt ∙ ap (λ y. take i xs ++ y ∷ []) (sym is))
    ∙ flat_map-append f (take i xs) (x ∷ [])
    ∙ ap (λ (u : List Form). flat_map f (take i xs) ++ u) (append-nil (f x)) in
    two_seen k (flat_map f (take i xs)) (f x) so_far step more

-- a part is built once what stands in it was seen
pub built : (k : Source) (part : Part) {old new : List Task}
    → Sees k (inside k part) (a_task.Build part ∷ old) new
    → Sees k (formed_part k part ∷ []) old new
built k part {old = old} s = record { sees = λ done goal h. s.sees done goal (done, refl, h) }

-- the task that sees a part
pub part_seen : (k : Source) (part : Part) {old new : List Task} → new ≡ a_task.See part ∷ old
    → Sees k (formed_part k part ∷ []) old new
part_seen k part {old = old} {new = new} e =
    record {
      sees =
          λ done goal h. subst (λ (tasks : List Task). Leads k tasks done goal) (sym e) h;
    }
