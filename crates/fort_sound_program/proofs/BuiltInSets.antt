-- Built-in declarations in the sets of a component, by their names.
use Rattle.std.proofs.Common.{◌≡◌, ℕ, zero, suc, Bool, true, false, ◌&&◌, cond, List, [], ◌∷◌, length, Some, refl, sym, ap, ◌∙◌, subst, eqb-true, eq-eqb}
use Rattle.std.specs.Prelude.{nat_eq, codes, filter}
use Rattle.std.specs.Bool.{beq}
use Rattle.std.specs.List.{slice_get}
use Rattle.std.specs.Str.{bytes_eq}
use Rattle.std.specs.Cmp.Lexicographic.{bytes_decides}
use Rattle.fort_base.specs.declared.ty.Ty.{Ty}
use Rattle.fort_tree.specs.declared.declarations.Component.{Component}
use Rattle.fort_types_builtin.specs.declared.table.BuiltInDeclaration.{BuiltInDeclaration}
use Rattle.fort_types_builtin.specs.Declarations.{declarations}
use Rattle.fort_types_sets.specs.declared.member.Member.{Member}
use Rattle.fort_types_sets.specs.declared.member.MemberSet.{MemberSet}
use Rattle.fort_types_sets.specs.declared.member.Members.{Members}
use Rattle.fort_types_sets.specs.Rules.{StandsAt}
use Rattle.fort_member_fields.specs.Own.{types_of}
use Rattle.fort_member_fields.proofs.Items.{get_left}
use Rattle.fort_member.specs.declared.entries.Entry.{Entry}
use Rattle.fort_member.specs.Answers.{AreMembers}
use Rattle.fort_member.specs.BuiltIn.{built_in_entry, built_in_entries}
use Rattle.fort_member.specs.Declarations.{declared_entries, entries_of}
use Rattle.fort_member.specs.Sets.{Key, key_of, belongs, member_of, keys_of, set_of, sets_of}
use Rattle.fort_member.proofs.SetLaws.{key_same, get_mapped, get_of_mapped}
use Rattle.fort_member.proofs.WellMadeLaws.{comes_from, width_is}
use Rattle.fort_typing_known.specs.Sets.{width_of, is_set_of, first_set}
use Rattle.fort_typing_rules.specs.Types.{zz32, zz64, boolean}
use Rattle.fort_sound_program.proofs.Entries.{filtered, has_key}
use Rattle.std.specs.List.{flat_map}

-- ---- the first set that meets a test

first_step : (test : MemberSet → Bool) (s : MemberSet) (ss : List MemberSet) (b : Bool) → test s ≡ b
    → ((t : MemberSet) × (slice_get ss (first_set test ss) ≡ Some t) × (test t ≡ true))
    → (t : MemberSet) × (slice_get (s ∷ ss) (cond b 0 (suc (first_set test ss))) ≡ Some t)
    × (test t ≡ true)
first_step test s ss true e w = (s, refl, e)
first_step test s ss false e w = w

pub first_there : (test : MemberSet → Bool) (ss : List MemberSet) (k : ℕ) (s : MemberSet)
    → slice_get ss k ≡ Some s → test s ≡ true
    → (t : MemberSet) × (slice_get ss (first_set test ss) ≡ Some t) × (test t ≡ true)
first_there test [] k s e q = absurd cc
first_there test (x ∷ ss) zero s e q =
    let same : x ≡ s = cc
    in (
      x,
      ap (λ b. slice_get (x ∷ ss) (cond b 0 (suc (first_set test ss)))) (ap test same ∙ q),
      ap test same ∙ q,
    )
first_there test (x ∷ ss) (suc k) s e q =
    first_step test x ss (test x) refl (first_there test ss k s e q)

pub and_both : (a b : Bool) → (a && b) ≡ true → (a ≡ true) × (b ≡ true)
and_both true b e = (refl, e)
and_both false b e = absurd cc

both_and : (a b : Bool) → a ≡ true → b ≡ true → (a && b) ≡ true
both_and true b e f = f
both_and false b e f = absurd cc

pub beq_told : (a b : Bool) → beq a b ≡ true → a ≡ b
beq_told true true e = refl
beq_told true false e = absurd cc
beq_told false true e = absurd cc
beq_told false false e = refl

beq_same : (a : Bool) → beq a a ≡ true
beq_same true = refl
beq_same false = refl

-- ---- a set that has a declaration

module _ (es : List Entry) where
  -- a set of members that isn't empty tells their number of parameters
  wide : (k : Key) (ms : List Member) → (i : ℕ) (d : Member) → slice_get ms i ≡ Some d
      → ((i : ℕ) (d : Member) → slice_get ms i ≡ Some d → length d.parameters ≡ k.width)
      → width_of ms ≡ k.width
  wide k [] i d e all = absurd cc
  wide k (x ∷ ms) i d e all = all 0 x refl

  members_wide : (k : Key) (i : ℕ) (d : Member) → slice_get (set_of es k).members i ≡ Some d
      → length d.parameters ≡ k.width
  members_wide k i d e = width_is k es d (comes_from k es d i e)

  -- the declaration stands in the set of its key
  in_own : (j : ℕ) (e : Entry) → slice_get es j ≡ Some e
      → (i : ℕ) × (slice_get (set_of es (key_of e)).members i ≡ Some e.member)
  in_own j e g =
      let f = filtered (belongs (key_of e)) es j e g (key_same (key_of e))
      in (f.0, get_of_mapped member_of (filter (belongs (key_of e)) es) f.0 e f.1)

  -- its set is of its name and number of parameters
  own_test : (j : ℕ) (e : Entry) → slice_get es j ≡ Some e → e.dotted ≡ false
      → is_set_of e.name false (length e.member.parameters) (set_of es (key_of e)) ≡ true
  own_test j e g plain =
      let at = in_own j e g in
      both_and (bytes_eq e.name e.name
      && beq e.dotted false)
      (nat_eq (width_of (set_of es (key_of e)).members) (length e.member.parameters))
      (both_and (bytes_eq e.name e.name) (beq e.dotted false) ((bytes_decides e.name e.name).1 refl)
      (ap (λ b. beq b false) plain))
      (eq-eqb (width_of (set_of es (key_of e)).members) (length e.member.parameters)
      (wide (key_of e) (set_of es (key_of e)).members at.0 e.member at.1
      (members_wide (key_of e))))

  -- a set of the same name, kind and number of parameters has the declaration
  same_set : (k : Key) (e : Entry) (j w : ℕ) → slice_get es j ≡ Some e → e.dotted ≡ false
      → length e.member.parameters ≡ suc w
      → is_set_of e.name false (length e.member.parameters) (set_of es k) ≡ true
      → (i : ℕ) × (slice_get (set_of es k).members i ≡ Some e.member)
  same_set k e j w g plain width test =
      let a = and_both (bytes_eq k.name e.name
      && beq k.dotted false)
      (nat_eq (width_of (set_of es k).members) (length e.member.parameters)) test in
      let b = and_both (bytes_eq k.name e.name) (beq k.dotted false) a.0 in
      let n = eqb-true (width_of (set_of es k).members) (length e.member.parameters) a.1 in
      go (set_of es k).members refl n ((bytes_decides k.name e.name).0 b.0)
      (beq_told k.dotted false b.1)
    where
      key_by : (l : Key) → k.name ≡ l.name → k.dotted ≡ l.dotted → k.width ≡ l.width → k ≡ l
      key_by l p q r =
          ap (λ z. let y : Key = record { name = z; dotted = k.dotted; width = k.width } in y) p
          ∙ ap (λ z. let y : Key = record { name = l.name; dotted = z; width = k.width } in y) q
          ∙ ap (λ z. let y : Key = record { name = l.name; dotted = l.dotted; width = z } in y) r

      go : (ms : List Member) → (set_of es k).members ≡ ms
          → width_of (set_of es k).members ≡ length e.member.parameters → k.name ≡ e.name
          → k.dotted ≡ false → (i : ℕ) × (slice_get (set_of es k).members i ≡ Some e.member)
      go [] q n name dotted = let z : 0 ≡ suc w = ap width_of (sym q) ∙ n ∙ width in absurd cc
      go (x ∷ ms) q n name dotted =
          let first : length x.parameters ≡ k.width = members_wide k 0 x (ap (λ z. slice_get z 0) q)
          in
          let same : k ≡ key_of e =
          key_by (key_of e) name (dotted ∙ sym plain) (sym first ∙ ap width_of (sym q) ∙ n) in
          subst (λ z.
          (i : ℕ) × (slice_get (set_of es z).members i ≡ Some e.member)) (sym same)
          (in_own j e g)

  pub in_first : (j : ℕ) (e : Entry) (w : ℕ) → slice_get es j ≡ Some e → e.dotted ≡ false
      → length e.member.parameters ≡ suc w
      → (s : MemberSet) × (i : ℕ)
      × (slice_get (sets_of es)
      (first_set (is_set_of e.name false (length e.member.parameters)) (sets_of es)) ≡ Some s)
      × StandsAt s i e.member
  in_first j e w g plain width =
      let k = has_key es j e g in
      let test = is_set_of e.name false (length e.member.parameters) in
      let t = first_there test (sets_of es) k.0 (set_of es (key_of e))
      (get_of_mapped (set_of es) (keys_of es) k.0 (key_of e) k.1) (own_test j e g plain) in
      let l = get_mapped (set_of es) (keys_of es) (first_set test (sets_of es)) t.0 t.1 in
      let i = same_set l.0 e j w g plain width (ap test l.2 ∙ t.2) in
      (set_of es l.0, i.0, t.1 ∙ ap Some (sym l.2), i.1)

-- ---- built-in ones

-- a built-in declaration of a name, that takes these types and gives this one
pub record BuiltIn (name : List ℕ) (parameters : List Ty) (result : Ty) : Type 0 where
  pub at : ℕ
  pub it : BuiltInDeclaration
  pub stands : slice_get declarations at ≡ Some it
  pub name_is : it.name ≡ name
  pub parameters_are : it.parameters ≡ parameters
  pub result_is : it.result ≡ result

pub plus_small : BuiltIn (codes "+") (zz32 ∷ zz32 ∷ []) zz32
unfolding declarations
plus_small =
    record {
      at = 0;
      it = _;
      stands = refl;
      name_is = refl;
      parameters_are = refl;
      result_is = refl;
    }

pub plus_large : BuiltIn (codes "+") (zz64 ∷ zz64 ∷ []) zz64
unfolding declarations
plus_large =
    record {
      at = 1;
      it = _;
      stands = refl;
      name_is = refl;
      parameters_are = refl;
      result_is = refl;
    }

pub times_small : BuiltIn (codes "TIMES") (zz32 ∷ zz32 ∷ []) zz32
unfolding declarations
times_small =
    record {
      at = 4;
      it = _;
      stands = refl;
      name_is = refl;
      parameters_are = refl;
      result_is = refl;
    }

pub times_large : BuiltIn (codes "TIMES") (zz64 ∷ zz64 ∷ []) zz64
unfolding declarations
times_large =
    record {
      at = 5;
      it = _;
      stands = refl;
      name_is = refl;
      parameters_are = refl;
      result_is = refl;
    }

pub max_small : BuiltIn (codes "MAX") (zz32 ∷ zz32 ∷ []) zz32
unfolding declarations
max_small =
    record {
      at = 10;
      it = _;
      stands = refl;
      name_is = refl;
      parameters_are = refl;
      result_is = refl;
    }

pub max_large : BuiltIn (codes "MAX") (zz64 ∷ zz64 ∷ []) zz64
unfolding declarations
max_large =
    record {
      at = 11;
      it = _;
      stands = refl;
      name_is = refl;
      parameters_are = refl;
      result_is = refl;
    }

pub min_small : BuiltIn (codes "MIN") (zz32 ∷ zz32 ∷ []) zz32
unfolding declarations
min_small =
    record {
      at = 12;
      it = _;
      stands = refl;
      name_is = refl;
      parameters_are = refl;
      result_is = refl;
    }

pub min_large : BuiltIn (codes "MIN") (zz64 ∷ zz64 ∷ []) zz64
unfolding declarations
min_large =
    record {
      at = 13;
      it = _;
      stands = refl;
      name_is = refl;
      parameters_are = refl;
      result_is = refl;
    }

pub and_truth : BuiltIn (codes "AND") (boolean ∷ boolean ∷ []) boolean
unfolding declarations
and_truth =
    record {
      at = 55;
      it = _;
      stands = refl;
      name_is = refl;
      parameters_are = refl;
      result_is = refl;
    }

pub or_truth : BuiltIn (codes "OR") (boolean ∷ boolean ∷ []) boolean
unfolding declarations
or_truth =
    record {
      at = 56;
      it = _;
      stands = refl;
      name_is = refl;
      parameters_are = refl;
      result_is = refl;
    }

pub widening : BuiltIn (codes "widen") (zz32 ∷ []) zz64
unfolding declarations
widening =
    record {
      at = 66;
      it = _;
      stands = refl;
      name_is = refl;
      parameters_are = refl;
      result_is = refl;
    }

-- it stands in the first set of its name
pub built_in_first : (c : Component) (m : Members) → AreMembers c m
    → (name : List ℕ) (t : Ty) (ts : List Ty) (result : Ty) → BuiltIn name (t ∷ ts) result
    → (s : MemberSet) × (i : ℕ) × (d : Member)
    × (slice_get m.sets (first_set (is_set_of name false (length (t ∷ ts))) m.sets) ≡ Some s)
    × StandsAt s i d × (d.parameters ≡ t ∷ ts) × (d.result ≡ result)
built_in_first c m has name t ts result b =
    let es = entries_of c in
    let e = built_in_entry b.it in
    let at = get_left built_in_entries
    (flat_map (declared_entries (types_of c) c.names) c.declarations) b.at e
    (get_of_mapped built_in_entry declarations b.at b.it b.stands) in
    let width : length e.member.parameters ≡ length (t ∷ ts) = ap length b.parameters_are in
    let w = in_first es b.at e (length ts) at refl width in
    let test_is : first_set (is_set_of e.name false (length e.member.parameters)) (sets_of es)
    ≡ first_set (is_set_of name false (length (t ∷ ts))) m.sets =
    ap (λ z. first_set (is_set_of z false (length e.member.parameters)) (sets_of es)) b.name_is
    ∙ ap (λ z. first_set (is_set_of name false z) (sets_of es)) width
    ∙ ap (λ z. first_set (is_set_of name false (length (t ∷ ts))) z) (sym has.sets) in (
      w.0,
      w.1,
      e.member,
      ap (λ z. slice_get z (first_set (is_set_of name false (length (t ∷ ts))) m.sets))
          has.sets ∙ ap (slice_get (sets_of es)) (sym test_is)
          ∙ w.2,
      w.3,
      b.parameters_are,
      b.result_is,
    )
