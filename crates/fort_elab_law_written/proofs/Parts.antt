-- The makers of forms are good where those of their parts are, one case each.
use Rattle.std.proofs.Common.{ℕ, Bool, true, false, List, [], ◌∷◌, ◌++◌, length, map, Option, Some, None, arith}
use Rattle.fort_base.specs.declared.ids.NameId.{NameId}
use Rattle.fort_base.specs.declared.ids.SetId.{SetId}
use Rattle.fort_base.specs.declared.ty.Ty.{Ty}
use Rattle.fort_core.specs.declared.form.Slot.TheVariants as slot
use Rattle.fort_core.specs.declared.form.Span.TheVariants as span
use Rattle.fort_core.specs.declared.term.Term.{Term, Let, Mutable, Then, If, For, Reduce}
use Rattle.fort_form_typed.specs.declared.typed_form.Chosen.{Chosen}
use Rattle.fort_elab_meaning.specs.Making.{Maker, after, still}
use Rattle.fort_elab_meaning.specs.Parts.{Given, Part, Role, expression, local, locals, variable, top, field, element, maker_of}
use Rattle.fort_elab_meaning.specs.Values.{unit_term}
use Rattle.fort_elab_meaning.specs.Calls.{argument, comparisons, joined, sides}
use Rattle.fort_elab_meaning.specs.Items.{with_names, binding, bindings, before, block, order_of, loops, reduction}
use Rattle.fort_elab_meaning.specs.Choices.{or_else, branches}
use Rattle.fort_elab_meaning.specs.Targets.{variable_term}
use Rattle.fort_elab_law_written.proofs.Numbers.{in_a_row}
use Rattle.fort_elab_law_written.proofs.Makers.{Good, AllGood, Still, Keeps, good_still, good_two, good_three, good_naming, good_letting}
use Rattle.fort_elab_law_written.proofs.Forms.{alone, fine-Variable, fine-Read, fine-Call, fine-Then, fine-If, fine-Let, fine-Lets, fine-Mutable, fine-For, fine-Reduce}
use Rattle.fort_elab_law_written.proofs.Values.{still_unit}

-- What a form is to the one in which it stands has good makers.
abbrev pub GoodRole : Role → Type 0
GoodRole (local name mutable ty initial) = Good initial
GoodRole (locals xs initial) = Good initial
GoodRole (field ty o f) = Good o
GoodRole (element ty a ty1 i) = Good a × Good i
GoodRole _ = Unit {0}

pub record GoodPart (p : Part) : Type 0 where
  pub maker : Good p.maker
  pub role : GoodRole p.role

abbrev pub GoodParts : List Part → Type 0
GoodParts [] = Unit {0}
GoodParts (p ∷ ps) = GoodPart p × GoodParts ps

abbrev pub MayBeGood : Option Part → Type 0
MayBeGood None = Unit {0}
MayBeGood (Some p) = GoodPart p

pub good_makers : (ps : List Part) → GoodParts ps → AllGood (map maker_of ps)
good_makers [] h = tt
good_makers (p ∷ ps) h = let k = h.0 in (k.maker, good_makers ps h.1)

-- ---- names

pub still_variable : (mutable : Bool) (n : ℕ) → Still (variable_term mutable n)
still_variable false n = fine-Variable n
still_variable true n = fine-Read (slot.Variable n)

-- ---- calls

pub fine_argument : (g : Given) (w : Bool) → Keeps (argument g w)
fine_argument g true lo hi flo fhi a h = fine-Call g.widen lo hi flo fhi (a ∷ []) (alone h)
fine_argument g false lo hi flo fhi a h = h

pub good_sides : (g : Given) (set : SetId) (cs : List Chosen) (ps : List Part) → GoodParts ps
    → (ns : List ℕ) → ((ms : List ℕ) → Still (joined set (comparisons g cs ms)))
    → Good (sides g set cs ps ns)
good_sides g set cs [] h ns k = good_still (joined set (comparisons g cs ns)) (k ns)
good_sides g set cs (p ∷ ps) h ns k =
    let m = h.0
    in good_letting p.ty p.maker (λ n. sides g set cs ps (ns ++ n ∷ [])) (fine-Let p.ty) m.maker
    (λ n. good_sides g set cs ps h.1 (ns ++ n ∷ []) k)

-- ---- blocks

good_binding : (name : NameId) (mutable : Bool) (ty : Ty) (initial rest : Maker) → Good initial
    → Good rest → Good (binding name mutable ty initial rest)
good_binding name false ty initial rest h k =
    good_naming name initial (λ n. Let ((n, ty) ∷ [])) rest (fine-Let ty) h k
good_binding name true ty initial rest h k =
    good_naming name initial (λ n. Mutable n ty) rest (fine-Mutable ty) h k

pub good_local : (name : NameId) (mutable : Bool) (ty : Ty) (initial : Maker) → Good initial
    → Good (binding name mutable ty initial (still unit_term))
good_local name mutable ty initial h =
    good_binding name mutable ty initial (still unit_term) h (good_still unit_term still_unit)

pub good_bindings : (xs : List (NameId × Ty)) (initial rest : Maker) → Good initial → Good rest
    → Good (bindings xs initial rest)
good_bindings xs initial rest h k s c =
    let m = initial s c in let n = m.counter.variable in let d = after (length xs) m.counter
    in let r = rest (with_names n xs s) d in
    let a = h s c in let b = k (with_names n xs s) d in let x = a.variables in let y = b.variables
    in let u = a.functions in let v = b.functions in record {
      variables = omega arith;
      functions = omega arith;
      fine = fine-Lets xs c.variable n r.counter.variable c.function m.counter.function
          r.counter.function m.term r.term (length xs) (in_a_row n xs) x y u v a.fine b.fine;
    }

good_before : (r : Role) (own rest : Maker) → GoodRole r → Good own → Good rest
    → Good (before r own rest)
good_before (local name mutable ty initial) own rest h i k =
    good_binding name mutable ty initial rest h k
good_before (locals xs initial) own rest h i k = good_bindings xs initial rest h k
good_before expression own rest h i k = good_two Then own rest fine-Then i k
good_before (variable name) own rest h i k = good_two Then own rest fine-Then i k
good_before (top n) own rest h i k = good_two Then own rest fine-Then i k
good_before (field ty o f) own rest h i k = good_two Then own rest fine-Then i k
good_before (element ty a ty1 j) own rest h i k = good_two Then own rest fine-Then i k

pub good_block : (ps : List Part) → GoodParts ps → Good (block ps)
good_block [] h = good_still unit_term still_unit
good_block (p ∷ []) h = let k = h.0 in k.maker
good_block (p ∷ q ∷ ps) h =
    let k = h.0
    in good_before p.role p.maker (block (q ∷ ps)) k.role k.maker (good_block (q ∷ ps) h.1)

-- ---- generators

pub good_loops : (xs : List (NameId × Bool)) (ps : List Part) (body : Maker) → GoodParts ps
    → Good body → Good (loops xs ps body)
good_loops [] ps body h k = k
good_loops (x ∷ xs) [] body h k = k
good_loops (x ∷ xs) (p ∷ ps) body h k =
    let m = h.0
    in good_naming x.0 p.maker (λ n. For (order_of x.1) span.Whole n) (loops xs ps body)
    (fine-For (order_of x.1)) m.maker (good_loops xs ps body h.1 k)

pub good_reduction : (set : SetId) (empty : Term) (name : NameId) (sequential : Bool)
    (source body : Maker) → Still empty → Good source → Good body
    → Good (reduction set empty name sequential source body)
good_reduction set empty name sequential source body e h k =
    good_naming name source (λ n. Reduce (order_of sequential) span.Whole set empty n) body
    (fine-Reduce (order_of sequential) set empty e) h k

-- ---- choices

pub good_or_else : (o : Option Part) (t : Term) → MayBeGood o → Still t → Good (or_else o t)
good_or_else None t h k = good_still t k
good_or_else (Some p) t h k = h.maker

pub good_branches : (cs bs : List Part) (other : Maker) → GoodParts cs → GoodParts bs → Good other
    → Good (branches cs bs other)
good_branches [] bs other h i k = k
good_branches (c ∷ cs) [] other h i k = k
good_branches (c ∷ cs) (b ∷ bs) other h i k =
    let x = h.0 in let y = i.0
    in good_three If c.maker b.maker (branches cs bs other) fine-If x.maker y.maker
    (good_branches cs bs other h.1 i.1 k)
