-- "Forms" of docs/TRANSLATION.md: blocks, functions, generators.
use Rattle.std.specs.Prelude.{ℕ, suc, ◌+◌, Bool, true, false, cond, List, [], ◌∷◌, length, map}
use Rattle.fort_base.specs.declared.ids.NameId.{NameId}
use Rattle.fort_base.specs.declared.ids.SetId.{SetId}
use Rattle.fort_base.specs.declared.ty.Ty.{Ty}
use Rattle.fort_form.specs.declared.form.Parameter.{Parameter}
use Rattle.fort_core.specs.declared.form.Order.{Order}
use Rattle.fort_core.specs.declared.form.Order.TheVariants as order
use Rattle.fort_core.specs.declared.form.Span.TheVariants as span
use Rattle.fort_core.specs.declared.term.Term.{Term, Let, Mutable, Then, For, Reduce}
use Rattle.fort_machine.specs.Scopes.{function}
use Rattle.fort_elab_meaning.specs.declared.counter.Counter.{Counter}
use Rattle.fort_elab_meaning.specs.Making.{Scope, Maker, with_name, after, still, one, two, naming}
use Rattle.fort_elab_meaning.specs.Parts.{Part, Role, expression, local, locals, variable, top, field, element}
use Rattle.fort_elab_meaning.specs.Values.{unit_term}

-- ---- several names at once

-- Names with their types get numbers one after another: their variables with the types, and the
-- scope with them.
abbrev pub typed_variables : ℕ → List (NameId × Ty) → List (ℕ × Ty)
typed_variables n [] = []
typed_variables n (x ∷ xs) = (n, x.1) ∷ typed_variables (n + 1) xs

abbrev pub with_names : ℕ → List (NameId × Ty) → Scope → Scope
with_names n [] s = s
with_names n (x ∷ xs) s = with_names (n + 1) xs (with_name x.0 n s)

-- ---- blocks

-- A local variable, and the rest of the block; a mutable one is a location.
abbrev pub binding : NameId → Bool → Ty → Maker → Maker → Maker
binding name false ty initial rest = naming name initial (λ n. Let ((n, ty) ∷ [])) rest
binding name true ty initial rest = naming name initial (λ n. Mutable n ty) rest

-- Variables for the parts of a tuple, and the rest of the block.
abbrev pub bindings : List (NameId × Ty) → Maker → Maker → Maker
bindings xs initial rest s c = let m = initial s c in let n = m.counter.variable in
    one (Let (typed_variables n xs) m.term) rest (with_names n xs s) (after (length xs) m.counter)

-- An item and the rest of the block.
abbrev pub before : Role → Maker → Maker → Maker
before (local name mutable ty initial) own rest = binding name mutable ty initial rest
before (locals xs initial) own rest = bindings xs initial rest
before _ own rest = two Then own rest

-- The items of a block: the last one is its value, and `()` where there is none.
abbrev pub block : List Part → Maker
block [] = still unit_term
block (p ∷ []) = p.maker
block (p ∷ q ∷ ps) = before p.role p.maker (block (q ∷ ps))

-- ---- functions

abbrev pub parameter : Parameter → NameId × Ty
parameter p = (p.name, p.ty)

-- The next number of a function is taken.
abbrev pub within_function : Counter → Counter
within_function c = record { variable = c.variable; function = c.function + 1 }

-- A function: it has the next number of a function, its parameters have the next ones of variables.
-- It is a value where it holds nothing.
abbrev pub fn : List (NameId × Ty) → Ty → Maker → Maker
fn xs result body s c = let n = c.variable in
    one (λ t. function
    (record {
      number = c.function;
      parameters = typed_variables n xs;
      result = result;
      body = t;
      held = [];
    })) body (with_names n xs s) (after (length xs) (within_function c))

-- ---- generators

abbrev pub order_of : Bool → Order
order_of false = order.Parallel
order_of true = order.Seq

-- Generators stand in one another, the first one outermost; each name is in scope of the later
-- sources and of the body.
abbrev pub loops : List (NameId × Bool) → List Part → Maker → Maker
loops (x ∷ xs) (p ∷ ps) body =
    naming x.0 p.maker (λ n. For (order_of x.1) span.Whole n) (loops xs ps body)
loops _ _ body = body

-- A reduction, with what it gives over no item.
abbrev pub reduction : SetId → Term → NameId → Bool → Maker → Maker → Maker
reduction set empty name sequential source body =
    naming name source (λ n. Reduce (order_of sequential) span.Whole set empty n) body
