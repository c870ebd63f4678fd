-- Closing the bits: what a round adds, and that nothing is missing once it adds nothing.
use Rattle.std.proofs.Common.{◌≡◌, ◌<◌, ◌≤◌, ◌+◌, ◌⊎◌, inl, inr, ℕ, Bool, true, false, ◌||◌, length, refl, sym, ◌∙◌, subst, arith}
use Rattle.std.specs.Bool.{OnFalse}
use Rattle.std.proofs.lemmas.Option.{slice_get_within}
use Rattle.fort_types.specs.Hierarchy.{DeclaredTypes, Path, stop, along, DeclaredApart, excluded, leaf, lower, flip, comprised}
use Rattle.fort_types.specs.Table.{IsExact}
use Rattle.fort_types.specs.Square.{Bits, Bit, bit, IsBlank, unset, Adds}
use Rattle.fort_types.specs.Rounds.{Within, Holds, Parts, by_turn, by_exclusion, by_leaf, by_above, by_list, ClosedAt, ClosedIn, ClosedTo, Progress}
use Rattle.fort_types.proofs.Paths.{both_inside}
use Rattle.fort_types.proofs.Bits.{exact}

or-false : (g k : Bool) → (g || k) ≡ false → (g ≡ false) × (k ≡ false)
or-false true k e = absurd cc
or-false false k e = (refl, e)

or-true : (g k : Bool) → (g || k) ≡ true → (g ≡ true) ⊎ (k ≡ true)
or-true true k e = inl refl
or-true false k e = inr e

-- two steps of progress
both : (a b c : Bits) (g k : Bool) (P Q R : Type 0) → Progress a b g P → Progress b c k Q
    → (P → b ≡ a → Q → R) → Progress a c (g || k) R
both a b c g k P Q R x y w = record {
  still = λ e. let f = or-false g k e in let p = x.still f.0 in let q = y.still f.1
      in (q.0 ∙ p.0, w p.1 p.0 q.1);
  fewer = λ e. let m = x.no_more in let n = y.no_more
      in elim (or-true g k e) as (λ _. unset c < unset a)
      [ inl f ↦ (let l = x.fewer f in omega arith) | inr f ↦ (let l = y.fewer f in omega arith) ];
  no_more = let m = x.no_more in let n = y.no_more in omega arith;
}

near : (j n : ℕ) → j < n + 1 → (j < n) ⊎ (j ≡ n)
near j n b = grind arith

pub row_step : (h : DeclaredTypes) (x y z : Bits) (i b : ℕ) (g k : Bool)
    → Progress x y g (ClosedIn h x i b) → Progress y z k (ClosedAt h y i b)
    → Progress x z (g || k) (ClosedIn h x i (b + 1))
row_step h x y z i b g k p q =
    both x y z g k (ClosedIn h x i b) (ClosedAt h y i b) (ClosedIn h x i (b + 1)) p q
    (λ u e v j l. elim (near j b l) as (λ _. ClosedAt h x i j) [
      | inl m ↦ u j m
      | inr m ↦ subst (λ n. ClosedAt h x i n) (sym m) (subst (λ t. ClosedAt h t i b) e v)
    ])

pub round_step : (h : DeclaredTypes) (x y z : Bits) (a : ℕ) (g k : Bool)
    → Progress x y g (ClosedTo h x a) → Progress y z k (ClosedIn h y a (length h))
    → Progress x z (g || k) (ClosedTo h x (a + 1))
round_step h x y z a g k p q =
    both x y z g k (ClosedTo h x a) (ClosedIn h y a (length h)) (ClosedTo h x (a + 1)) p q
    (λ u e v j l. elim (near j a l) as (λ _. ClosedIn h x j (length h)) [
      | inl m ↦ u j m
      | inr m ↦
          subst (λ n. ClosedIn h x n (length h)) (sym m)
          (subst (λ t. ClosedIn h t a (length h)) e v)
    ])

pub no_step : (x : Bits) (P : Type 0) → P → Progress x x false P
no_step x P p = record { still = λ e. (refl, p); fewer = λ e. absurd cc; no_more = omega arith }

pub one_step : (x y : Bits) (a b : ℕ) (P : Type 0) → Adds x y a b → bit x a b ≡ false
    → Progress x y true P
one_step x y a b P s e =
    let l = s.fewer e in record { still = λ f. absurd cc; fewer = λ f. l; no_more = omega arith }

weaken : (x y : Bits) (g : Bool) (P Q : Type 0) → (P → Q) → Progress x y g P → Progress x y g Q
weaken x y g P Q f p =
    record { still = λ e. let s = p.still e in (s.0, f s.1); fewer = p.fewer; no_more = p.no_more }

pub row_done : (h : DeclaredTypes) (x y : Bits) (a b n : ℕ) (g : Bool) → n ≤ b
    → Progress x y g (ClosedIn h x a b) → Progress x y g (ClosedIn h x a n)
row_done h x y a b n g l p =
    weaken x y g (ClosedIn h x a b) (ClosedIn h x a n) (λ f j k. f j (omega arith)) p

pub round_done : (h : DeclaredTypes) (x y : Bits) (a n : ℕ) (g : Bool) → n ≤ a
    → Progress x y g (ClosedTo h x a) → Progress x y g (ClosedTo h x n)
round_done h x y a n g l p =
    weaken x y g (ClosedTo h x a) (ClosedTo h x n) (λ f j k. f j (omega arith)) p

-- a round that adds nothing leaves closed bits
pub closed_unless : (h : DeclaredTypes) (x y : Bits) (n : ℕ) (g : Bool)
    → Progress x y g (ClosedTo h x n) → OnFalse g (ClosedTo h y n)
closed_unless h x y n true p = tt
closed_unless h x y n false p = let e = p.still refl in subst (λ z. ClosedTo h z n) (sym e.0) e.1

-- one use of the rules stays within the relation
part_sound : (h : DeclaredTypes) (x : Bits) (a b : ℕ) → b < length h → Within h x → Parts h x a b
    → DeclaredApart h a b
part_sound h x a b l w (by_turn e) = flip (w.sound b a e)
part_sound h x a b l w (by_exclusion s t e) = excluded s t e
part_sound h x a b l w (by_leaf s m n) = leaf s l m n
part_sound h x a b l w (by_above c e f) = lower (along e stop) (w.sound c b f)
part_sound h x a b l w (by_list u t m f) = comprised u t m (λ v n. w.sound v b (f v n))

as_bool : (t : Bool) → (t ≡ true) ⊎ (t ≡ false)
as_bool true = inl refl
as_bool false = inr refl

pub adds_holds : (h : DeclaredTypes) (x y : Bits) (a b : ℕ) → b < length h → Adds x y a b
    → Holds h x → Parts h x a b → Holds h y
adds_holds h x y a b l s w p = record {
  sized = record { high = s.high ∙ w.sized.high; wide = λ i k. s.wide i ∙ w.sized.wide i k };
  within = record {
    sound = λ i j e. elim (as_bool (bit x i j)) as (λ _. DeclaredApart h i j) [
      | inl f ↦ w.within.sound i j f
      | inr f ↦ (let q = s.bits i j e (λ g. absurd (let r : true ≡ false = sym g ∙ f in cc)) in
          subst (λ n. DeclaredApart h n j) (sym q.0)
          (subst (λ n. DeclaredApart h a n) (sym q.1) (part_sound h x a b l w.within p)))
    ];
  };
}

pub blank_holds : (h : DeclaredTypes) (x : Bits) → IsBlank (length h) x → Holds h x
blank_holds h x b =
    record {
      sized = b.sized;
      within = record {
        sound =
            λ i j e. absurd (let f = b.unmarked i j in let g : false ≡ true = sym f ∙ e in cc);
      };
    }

-- down a path
down : (h : DeclaredTypes) (rows : Bits) → ClosedTo h rows (length h) → (a c b : ℕ) → b < length h
    → Path h a c → Bit rows c b → Bit rows a b
down h rows k a c b m stop e = e
down h rows k a c b m (along {b = d} x p) e =
    k a (slice_get_within h a x.0 x.1) b m (by_above d x (down h rows k d c b m p e))

-- what is apart has its bit, once nothing more is found
complete : (h : DeclaredTypes) (rows : Bits) → ClosedTo h rows (length h) → (a b : ℕ)
    → DeclaredApart h a b → Bit rows a b
complete h rows k a b (excluded s t e) =
    k a (slice_get_within h a s.0 s.1) b (slice_get_within h b t.0 t.1) (by_exclusion s t e)
complete h rows k a b (leaf s l x y) = k a (slice_get_within h a s.0 s.1) b l (by_leaf s x y)
complete h rows k a b (lower {c = c} p q) =
    down h rows k a c b (both_inside h c b q).1 p (complete h rows k c b q)
complete h rows k a b (flip q) =
    let r = both_inside h b a q in k a r.1 b r.0 (by_turn (complete h rows k b a q))
complete h rows k a b (comprised u t l f) =
    k a (slice_get_within h a t.0 t.1) b (both_inside h u b (f u l)).1
    (by_list u t l (λ v w. complete h rows k v b (f v w)))

pub closed_exact : (h : DeclaredTypes) (rows : Bits) → Holds h rows → ClosedTo h rows (length h)
    → IsExact (DeclaredApart h) (length h) rows
closed_exact h rows w c =
    exact (DeclaredApart h) (length h) rows w.sized
    (λ i j k l. (λ e. w.within.sound i j e, λ p. complete h rows c i j p))
