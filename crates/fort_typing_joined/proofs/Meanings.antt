-- What comes of two elements, by what each has become.
use Rattle.std.proofs.Common.{◌≡◌, length, Some, None, refl, ap, ◌∙◌}
use Rattle.fort_base.specs.declared.ids.NameId.{NameId}
use Rattle.fort_base.specs.declared.refusal.Place.{Place}
use Rattle.fort_base.specs.declared.ty.Ty.{out-Ty}
use Rattle.fort_form_typed.specs.declared.typed_form.TypedForm.{TypedForm}
use Rattle.fort_typing_known.specs.Known.{Facts}
use Rattle.fort_typing_known.specs.Sets.{function_set}
use Rattle.fort_typing_rules.specs.Types.{type_of}
use Rattle.fort_typing_rules.specs.Elements.{arguments}
use Rattle.fort_typing_rules.specs.declared.part.Part.{Part}
use Rattle.fort_typing_rules.specs.declared.part.Meaning.{Meaning}
use Rattle.fort_typing_rules.specs.declared.part.Meaning.TheVariants as a_meaning
use Rattle.fort_typing_meaning.specs.declared.frame.Made.TheVariants as a_made
use Rattle.fort_typing_meaning.specs.Joining.{call, applied, applied_to, value_applied, followed, followed_by, joined, joined_by}
use Rattle.fort_typing_joined.specs.Values.{arguments_by, arguments_in, name_in, value_in}

pub is_value : (m : Meaning) (t : TypedForm) → value_in m ≡ Some t → m ≡ a_meaning.Value t
is_value (a_meaning.Value u) t e = cc
is_value a_meaning.Unknown t e = absurd cc
is_value (a_meaning.Functions n) t e = absurd cc
is_value (a_meaning.Index u) t e = absurd cc
is_value (a_meaning.Exponent u) t e = absurd cc
is_value (a_meaning.Field a n) t e = absurd cc
is_value (a_meaning.Method a n us) t e = absurd cc

pub is_name : (m : Meaning) (n : NameId) → name_in m ≡ Some n → m ≡ a_meaning.Functions n
is_name (a_meaning.Functions x) n e = cc
is_name a_meaning.Unknown n e = absurd cc
is_name (a_meaning.Value u) n e = absurd cc
is_name (a_meaning.Index u) n e = absurd cc
is_name (a_meaning.Exponent u) n e = absurd cc
is_name (a_meaning.Field a x) n e = absurd cc
is_name (a_meaning.Method a x us) n e = absurd cc

pub arguments_are : (p : Part) (t : TypedForm) → value_in p.meaning ≡ Some t
    → arguments_in p ≡ Some (arguments p t)
arguments_are p t e = ap (arguments_by p) e

pub no_arguments : (p : Part) → value_in p.meaning ≡ None → arguments_in p ≡ None
no_arguments p e = ap (arguments_by p) e

-- ---- two elements joined

pub both_joined : (k : Facts) (a b : Part) (u v : TypedForm) → value_in a.meaning ≡ Some u
    → value_in b.meaning ≡ Some v
    → joined k a b ≡ joined_by k a.place (a_meaning.Value u) (a_meaning.Value v)
unfolding joined
both_joined k a b u v e f =
    ap (λ (m : Meaning). joined_by k a.place m b.meaning) (is_value a.meaning u e)
    ∙ ap (joined_by k a.place (a_meaning.Value u)) (is_value b.meaning v f)

first_lacks : (k : Facts) (place : Place) (m n : Meaning) → value_in m ≡ None
    → joined_by k place m n ≡ a_made.Stops
first_lacks k place (a_meaning.Value u) n e = absurd cc
first_lacks k place a_meaning.Unknown n e = refl
first_lacks k place (a_meaning.Functions x) n e = refl
first_lacks k place (a_meaning.Index u) n e = refl
first_lacks k place (a_meaning.Exponent u) n e = refl
first_lacks k place (a_meaning.Field a x) n e = refl
first_lacks k place (a_meaning.Method a x us) n e = refl

second_lacks : (k : Facts) (place : Place) (u : TypedForm) (n : Meaning) → value_in n ≡ None
    → joined_by k place (a_meaning.Value u) n ≡ a_made.Stops
second_lacks k place u (a_meaning.Value v) e = absurd cc
second_lacks k place u a_meaning.Unknown e = refl
second_lacks k place u (a_meaning.Functions x) e = refl
second_lacks k place u (a_meaning.Index v) e = refl
second_lacks k place u (a_meaning.Exponent v) e = refl
second_lacks k place u (a_meaning.Field a x) e = refl
second_lacks k place u (a_meaning.Method a x us) e = refl

pub unjoined : (k : Facts) (a b : Part) → value_in a.meaning ≡ None → joined k a b ≡ a_made.Stops
unfolding joined
unjoined k a b e = first_lacks k a.place a.meaning b.meaning e

pub half_joined : (k : Facts) (a b : Part) (u : TypedForm) → value_in a.meaning ≡ Some u
    → value_in b.meaning ≡ None → joined k a b ≡ a_made.Stops
unfolding joined
half_joined k a b u e f =
    ap (λ (m : Meaning). joined_by k a.place m b.meaning) (is_value a.meaning u e)
    ∙ second_lacks k a.place u b.meaning f

-- ---- a postfix

pub value_followed : (k : Facts) (a p : Part) (u : TypedForm) → value_in a.meaning ≡ Some u
    → followed k a p ≡ followed_by k a.place (a_meaning.Value u) p.meaning
unfolding followed
value_followed k a p u e =
    ap (λ (m : Meaning). followed_by k a.place m p.meaning) (is_value a.meaning u e)

lacks_followed : (k : Facts) (place : Place) (m n : Meaning) → value_in m ≡ None
    → followed_by k place m n ≡ a_made.Stops
lacks_followed k place (a_meaning.Value u) n e = absurd cc
lacks_followed k place a_meaning.Unknown n e = refl
lacks_followed k place (a_meaning.Functions x) n e = refl
lacks_followed k place (a_meaning.Index u) n e = refl
lacks_followed k place (a_meaning.Exponent u) n e = refl
lacks_followed k place (a_meaning.Field a x) n e = refl
lacks_followed k place (a_meaning.Method a x us) n e = refl

pub unfollowed : (k : Facts) (a p : Part) → value_in a.meaning ≡ None
    → followed k a p ≡ a_made.Stops
unfolding followed
unfollowed k a p e = lacks_followed k a.place a.meaning p.meaning e

-- ---- a function applied

pub name_applied : (k : Facts) (f a : Part) (name : NameId) (u : TypedForm)
    → name_in f.meaning ≡ Some name → value_in a.meaning ≡ Some u
    → applied k f a ≡ call k (function_set k name (length (arguments a u))) (arguments a u) f.place
unfolding applied
name_applied k f a name u e g =
    ap (λ (m : Meaning). applied_to k f a m a.meaning) (is_name f.meaning name e)
    ∙ ap (applied_to k f a (a_meaning.Functions name)) (is_value a.meaning u g)

name_lacks : (k : Facts) (f a : Part) (name : NameId) (n : Meaning) → value_in n ≡ None
    → applied_to k f a (a_meaning.Functions name) n ≡ a_made.Stops
name_lacks k f a name (a_meaning.Value v) e = absurd cc
name_lacks k f a name a_meaning.Unknown e = refl
name_lacks k f a name (a_meaning.Functions x) e = refl
name_lacks k f a name (a_meaning.Index v) e = refl
name_lacks k f a name (a_meaning.Exponent v) e = refl
name_lacks k f a name (a_meaning.Field b x) e = refl
name_lacks k f a name (a_meaning.Method b x us) e = refl

pub name_unapplied : (k : Facts) (f a : Part) (name : NameId) → name_in f.meaning ≡ Some name
    → value_in a.meaning ≡ None → applied k f a ≡ a_made.Stops
unfolding applied
name_unapplied k f a name e g =
    ap (λ (m : Meaning). applied_to k f a m a.meaning) (is_name f.meaning name e)
    ∙ name_lacks k f a name a.meaning g

pub both_applied : (k : Facts) (f a : Part) (g u : TypedForm) → value_in f.meaning ≡ Some g
    → value_in a.meaning ≡ Some u → applied k f a ≡ value_applied k a.place g u (out-Ty (type_of g))
unfolding applied
both_applied k f a g u e h =
    ap (λ (m : Meaning). applied_to k f a m a.meaning) (is_value f.meaning g e)
    ∙ ap (applied_to k f a (a_meaning.Value g)) (is_value a.meaning u h)

value_lacks : (k : Facts) (f a : Part) (g : TypedForm) (n : Meaning) → value_in n ≡ None
    → applied_to k f a (a_meaning.Value g) n ≡ a_made.Stops
value_lacks k f a g (a_meaning.Value v) e = absurd cc
value_lacks k f a g a_meaning.Unknown e = refl
value_lacks k f a g (a_meaning.Functions x) e = refl
value_lacks k f a g (a_meaning.Index v) e = refl
value_lacks k f a g (a_meaning.Exponent v) e = refl
value_lacks k f a g (a_meaning.Field b x) e = refl
value_lacks k f a g (a_meaning.Method b x us) e = refl

pub half_applied : (k : Facts) (f a : Part) (g : TypedForm) → value_in f.meaning ≡ Some g
    → value_in a.meaning ≡ None → applied k f a ≡ a_made.Stops
unfolding applied
half_applied k f a g e h =
    ap (λ (m : Meaning). applied_to k f a m a.meaning) (is_value f.meaning g e)
    ∙ value_lacks k f a g a.meaning h

neither : (k : Facts) (f a : Part) (m n : Meaning) → name_in m ≡ None → value_in m ≡ None
    → applied_to k f a m n ≡ a_made.Stops
neither k f a (a_meaning.Value u) n d e = absurd cc
neither k f a (a_meaning.Functions x) n d e = absurd cc
neither k f a a_meaning.Unknown n d e = refl
neither k f a (a_meaning.Index u) n d e = refl
neither k f a (a_meaning.Exponent u) n d e = refl
neither k f a (a_meaning.Field b x) n d e = refl
neither k f a (a_meaning.Method b x us) n d e = refl

pub unapplied : (k : Facts) (f a : Part) → name_in f.meaning ≡ None → value_in f.meaning ≡ None
    → applied k f a ≡ a_made.Stops
unfolding applied
unapplied k f a d e = neither k f a f.meaning a.meaning d e
