-- Signatures that are tied to those before them of their names.
use Rattle.std.proofs.Common.{ℕ, zero, suc, ◌≡◌, ◌≤◌, ◌<◌, ◌+◌, ◌++◌, [], ◌∷◌, ◌⊎◌, inl, inr, List, Some, Contains, length, get_or, refl, sym, ap, ◌∙◌, subst, arith}
use Rattle.std.specs.Prelude.{if◌then◌else◌}
use Rattle.std.specs.List.{slice_get}
use Rattle.std.proofs.lemmas.Bool.{cases_eq, eq-eqb, ne_eqb}
use Rattle.std.proofs.lemmas.List.{length_push}
use Rattle.std.proofs.lemmas.List.Elements.{Contains-get_or}
use Rattle.std.proofs.lemmas.Option.{same_Some, slice_get-get_or, slice_get_within}
use Rattle.fort_base.specs.declared.ids.NameId.{NameId}
use Rattle.fort_link_rules.specs.declared.catalogue.Catalogue.{Catalogue}
use Rattle.fort_link_rules.specs.declared.signatures.Signature.{Signature}
use Rattle.fort_link_rules.specs.Catalogue.{NameAt, StandUpTo, IsTied}
use Rattle.fort_link_rules.specs.Marks.{mark_of, Sets}

name_same : (a b : NameId) → a.0 ≡ b.0 → a ≡ b
name_same a b e = ap (λ (n : ℕ). let z : NameId = record { 0 = n } in z) e

split : (k n : ℕ) → k < n + 1 → (k < n) ⊎ (k ≡ n)
split k n l = grind arith

-- ---- one more item

at_left : {A : Type 0} (xs : List A) (y : A) (k : ℕ) → k < length xs
    → slice_get (xs ++ y ∷ []) k ≡ slice_get xs k
at_left [] y k l = absurd (omega arith)
at_left (x ∷ xs) y zero l = refl
at_left (x ∷ xs) y (suc k) l = at_left xs y k (omega arith)

at_end : {A : Type 0} (xs : List A) (y : A) → slice_get (xs ++ y ∷ []) (length xs) ≡ Some y
at_end [] y = refl
at_end (x ∷ xs) y = at_end xs y

read_left : (xs : List ℕ) (y k : ℕ) → k < length xs → get_or (xs ++ y ∷ []) k 0 ≡ get_or xs k 0
read_left [] y k l = absurd (omega arith)
read_left (x ∷ xs) y zero l = refl
read_left (x ∷ xs) y (suc k) l = read_left xs y k (omega arith)

read_end : (xs : List ℕ) (y : ℕ) → get_or (xs ++ y ∷ []) (length xs) 0 ≡ y
read_end [] y = refl
read_end (x ∷ xs) y = read_end xs y

up : (xs : List Signature) (s : Signature) (k : ℕ) (id : NameId) → NameAt xs k id
    → NameAt (xs ++ s ∷ []) k id
up xs s k id w = (w.0, at_left xs s k (slice_get_within xs k w.0 w.1) ∙ w.1, w.2)

down : (xs : List Signature) (s : Signature) (k : ℕ) (id : NameId) → k < length xs
    → NameAt (xs ++ s ∷ []) k id → NameAt xs k id
down xs s k id l w = (w.0, sym (at_left xs s k l) ∙ w.1, w.2)

-- the name at the end is that of the last item
at_last : (xs : List Signature) (s : Signature) (id : NameId)
    → NameAt (xs ++ s ∷ []) (length xs) id → s.name ≡ id
at_last xs s id w =
    let e : w.0 ≡ s = (let a = at_end xs s in let b = w.1 in cc) in ap (λ (x : Signature). x.name) (sym e) ∙ w.2

-- what stood among fewer stands there still
lift : (xs : List Signature) (s : Signature) (first : ℕ) (id : NameId) (count : ℕ)
    → first ≤ length xs → StandUpTo xs first id count → StandUpTo (xs ++ s ∷ []) first id count
lift xs s first id count le o = record {
  within = o.within;
  last = λ k e. up xs s k id (o.last k e);
  behind = λ k a b w. o.behind k a b (down xs s k id (omega arith) w);
}

-- among one more, another name has what it had
other_name : (xs : List Signature) (s : Signature) (id : NameId) (count : ℕ) → ¬ (s.name ≡ id)
    → StandUpTo xs (length xs) id count
    → StandUpTo (xs ++ s ∷ []) (length xs + 1) id count
other_name xs s id count n o = record {
  within = let l = o.within in omega arith;
  last = λ k e. up xs s k id (o.last k e);
  behind = λ k a b w. elim (split k (length xs) b) as (λ _. ⊥) [
    | inl l ↦ o.behind k a l (down xs s k id l w)
    | inr e ↦ n (at_last xs s id (subst (λ j. NameAt (xs ++ s ∷ []) j id) e w))
  ];
}

-- among one more, its name has all
its_name : (xs : List Signature) (s : Signature) (id : NameId) → s.name ≡ id
    → StandUpTo (xs ++ s ∷ []) (length xs + 1) id (length xs + 1)
its_name xs s id e = record {
  within = omega arith;
  last = λ k q. subst (λ j. NameAt (xs ++ s ∷ []) j id) (same k q) (s, at_end xs s, e);
  behind = λ k a b w. absurd (omega arith);
}
  where
    same : (k : ℕ) → length xs + 1 ≡ k + 1 → length xs ≡ k
    same k q = omega arith

-- ---- a catalogue

pub tied_none : (c : Catalogue) → c.signatures ≡ [] → c.before ≡ [] → c.last.marks ≡ [] → IsTied c
tied_none c s b m = record {
  whole = ap length b ∙ sym (ap length s);
  last = λ id. let e : mark_of c.last id ≡ 0 = ap (λ (xs : List ℕ). get_or xs id.0 0) m in
      rw e (record {
        within = omega arith;
        last = λ k q. absurd (omega arith);
        behind = λ k a l w. (let n : length c.signatures ≡ 0 = ap length s in omega arith);
      });
  before = λ k id w. (let n : length c.signatures ≡ 0 = ap length s in
      let l = slice_get_within c.signatures k w.0 w.1 in absurd (omega arith));
}

pub tied_more : (c new : Catalogue) (s : Signature) (count : ℕ) → IsTied c
    → new.signatures ≡ c.signatures ++ s ∷ [] → new.before ≡ c.before ++ mark_of c.last s.name ∷ []
    → count ≡ length new.signatures → Sets s.name count c.last new.last → IsTied new
tied_more c new s count t es eb el sets = record {
  whole = ap length eb ∙ length_push c.before (mark_of c.last s.name)
      ∙ ap (λ n. n + 1) t.whole ∙ sym longer;
  last = λ id. subst (λ xs. StandUpTo xs (length xs) id (mark_of new.last id)) (sym es)
      (subst (λ n. StandUpTo (c.signatures ++ s ∷ []) n id (mark_of new.last id))
      (sym (length_push c.signatures s)) (last_of id));
  before = λ k id w. subst (λ xs. StandUpTo xs k id (get_or new.before k 0)) (sym es)
      (subst (λ xs. StandUpTo (c.signatures ++ s ∷ []) k id (get_or xs k 0)) (sym eb)
      (before_of k id (subst (λ xs. NameAt xs k id) es w)));
}
  where
    longer : length new.signatures ≡ length c.signatures + 1
    longer = ap length es ∙ length_push c.signatures s

    all : count ≡ length c.signatures + 1
    all = el ∙ longer

    last_of : (id : NameId)
        → StandUpTo (c.signatures ++ s ∷ []) (length c.signatures + 1) id (mark_of new.last id)
    last_of id = elim (cases_eq s.name.0 id.0) as (λ _. StandUpTo (c.signatures ++ s ∷ [])
        (length c.signatures + 1) id (mark_of new.last id)) [
          | inl e ↦ (let q : mark_of new.last id ≡ length c.signatures + 1 = sets id
              ∙ ap (λ b. if b then count else mark_of c.last id) (eq-eqb s.name.0 id.0 e) ∙ all
              in rw q (its_name c.signatures s id (name_same s.name id e)))
          | inr n ↦ (let q : mark_of new.last id ≡ mark_of c.last id = sets id
              ∙ ap (λ b. if b then count else mark_of c.last id) (ne_eqb s.name.0 id.0 n)
              in rw q (other_name c.signatures s id (mark_of c.last id)
              (λ e. n (ap (λ (x : NameId). x.0) e)) (t.last id)))
        ]

    inside : (k : ℕ) (id : NameId) → NameAt (c.signatures ++ s ∷ []) k id
        → k < length c.signatures + 1
    inside k id w =
        let l = slice_get_within (c.signatures ++ s ∷ []) k w.0 w.1 in
        let n = length_push c.signatures s in omega arith

    at_new : (id : NameId) → NameAt (c.signatures ++ s ∷ []) (length c.signatures) id
        → StandUpTo (c.signatures ++ s ∷ []) (length c.signatures) id
        (get_or (c.before ++ mark_of c.last s.name ∷ []) (length c.signatures) 0)
    at_new id w =
        let e = at_last c.signatures s id w in
        let q : get_or (c.before ++ mark_of c.last s.name ∷ []) (length c.signatures) 0
        ≡ mark_of c.last s.name = ap (λ n. get_or (c.before ++ mark_of c.last s.name ∷ []) n 0)
        (sym t.whole) ∙ read_end c.before (mark_of c.last s.name) in
        rw q (subst (λ i. StandUpTo (c.signatures ++ s ∷ []) (length c.signatures) i
        (mark_of c.last s.name)) e (lift c.signatures s (length c.signatures) s.name
        (mark_of c.last s.name) (omega arith) (t.last s.name)))

    before_of : (k : ℕ) (id : NameId) → NameAt (c.signatures ++ s ∷ []) k id
        → StandUpTo (c.signatures ++ s ∷ []) k id
        (get_or (c.before ++ mark_of c.last s.name ∷ []) k 0)
    before_of k id w = elim (split k (length c.signatures) (inside k id w)) as (λ _. StandUpTo
        (c.signatures ++ s ∷ []) k id (get_or (c.before ++ mark_of c.last s.name ∷ []) k 0)) [
          | inl l ↦ (let q : get_or (c.before ++ mark_of c.last s.name ∷ []) k 0 ≡ get_or c.before k 0 =
              read_left c.before (mark_of c.last s.name) k (let b = t.whole in omega arith)
              in rw q (lift c.signatures s k id (get_or c.before k 0) (omega arith)
              (t.before k id (down c.signatures s k id l w))))
          | inr e ↦ subst (λ j. StandUpTo (c.signatures ++ s ∷ []) j id
              (get_or (c.before ++ mark_of c.last s.name ∷ []) j 0)) (sym e)
              (at_new id (subst (λ j. NameAt (c.signatures ++ s ∷ []) j id) e w))
        ]

-- ---- the way from the last one of a name to the first

-- From a number on the wanted signature doesn't stand, and before it stands one of its name.
pub record Passed (signatures : List Signature) (wanted : Signature) (at : ℕ) : Type 0 where
  pub within : at ≤ length signatures
  pub last : (k : ℕ) → at ≡ k + 1 → NameAt signatures k wanted.name
  pub none : (k : ℕ) → at ≤ k → ¬ (slice_get signatures k ≡ Some wanted)

pub passed_first : (c : Catalogue) (wanted : Signature) → IsTied c
    → Passed c.signatures wanted (mark_of c.last wanted.name)
passed_first c wanted t = let o = t.last wanted.name in record {
  within = o.within;
  last = o.last;
  none = λ k a e. o.behind k a (slice_get_within c.signatures k wanted e) (wanted, e, refl);
}

pub passed_more : (c : Catalogue) (wanted : Signature) (at m next : ℕ) → IsTied c
    → Passed c.signatures wanted at → at ≡ m + 1 → next ≡ get_or c.before m 0
    → ¬ (slice_get c.signatures m ≡ Some wanted) → Passed c.signatures wanted next
passed_more c wanted at m next t p e q n =
    let o = t.before m wanted.name (p.last m e) in
    subst (Passed c.signatures wanted) (sym q) (record {
      within = let a = o.within in let b = p.within in omega arith;
      last = o.last;
      none = λ k a w. elim (split_at k m) as (λ _. ⊥) [
        | inl l ↦ o.behind k a l (wanted, w, refl)
        | inr r ↦ elim r as (λ _. ⊥) [
          | inl s ↦ n (subst (λ j. slice_get c.signatures j ≡ Some wanted) s w)
          | inr g ↦ p.none k (omega arith) w
        ]
      ];
    })
  where
    split_at : (k m : ℕ) → (k < m) ⊎ ((k ≡ m) ⊎ (m + 1 ≤ k))
    split_at k m = grind arith

-- the way goes on to a smaller number
pub passed_smaller : (c : Catalogue) (wanted : Signature) (at m next : ℕ) → IsTied c
    → Passed c.signatures wanted at → at ≡ m + 1 → next ≡ get_or c.before m 0 → next < at
passed_smaller c wanted at m next t p e q =
    let l = (t.before m wanted.name (p.last m e)).within in omega arith

pub passed_all : (signatures : List Signature) (wanted : Signature) (at : ℕ) → at ≤ 0
    → Passed signatures wanted at → ¬ (Contains signatures wanted)
passed_all signatures wanted at z p w =
    p.none w.0 (omega arith) (slice_get-get_or signatures w.0 wanted w.1 ∙ ap (λ x. Some x) w.2)

-- ---- the signature at a number

pub found_at : (signatures slice : List Signature) (wanted read : Signature) (m : ℕ)
    → slice ≡ signatures → m < length slice → read ≡ get_or slice m read → read ≡ wanted
    → Contains signatures wanted
found_at signatures slice wanted read m s lt is e =
    subst (λ xs. Contains xs wanted) s
    (subst (Contains slice) (sym is ∙ e) (Contains-get_or slice m read lt))

pub not_found_at : (signatures slice : List Signature) (wanted read : Signature) (m : ℕ)
    → slice ≡ signatures → m < length slice → read ≡ get_or slice m read → ¬ (read ≡ wanted)
    → ¬ (slice_get signatures m ≡ Some wanted)
not_found_at signatures slice wanted read m s lt is n e =
    n (is ∙ same_Some (get_or slice m read) wanted (sym (slice_get-get_or slice m read lt)
    ∙ (ap (λ xs. slice_get xs m) s ∙ e)))
