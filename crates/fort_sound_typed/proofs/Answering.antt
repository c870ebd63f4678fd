-- A built-in declaration answers to typed values: they are of the kinds that it computes with.
use Rattle.std.proofs.Common.{◌≢◌, ℕ, Bool, true, false, if◌then◌else◌, List, [], ◌∷◌, map, sym, subst}
use Rattle.std.specs.Prelude.{not, ◌&&◌, ◌||◌, ◌++◌, length, chars, bytes_eq, ℤ, pos, neg_ℤ, ◌+ℤ◌, ◌-ℤ◌, ◌*ℤ◌, unsigned_abs, int_lt, int_le}
use Rattle.std.specs.Int.{w32, w64, int_min, int_max, int_bit_and, int_bit_or, int_bit_xor}
use Rattle.std.specs.Ordering.{int_eq}
use Rattle.fort_base.specs.declared.ty.Ty.{Ty}
use Rattle.fort_core.specs.declared.primitive.Primitive.{Primitive}
use Rattle.fort_core.specs.declared.primitive.Primitive.TheVariants as primitive
use Rattle.fort_core.specs.declared.program.Program.{Program}
use Rattle.fort_core.specs.declared.value.Value.{Value, Small, Large, Truth, Range, out-Value}
use Rattle.fort_core.specs.declared.term.Term.TheOpen.{Value-F}
use Rattle.fort_machine.specs.Numbers.{Figure, number, too_large, by_zero, below_zero, within, is_within, quotient, remainder, modulus, greatest_divisor, least_multiple, shifted_left, shifted_right, power, last_of}
use Rattle.fort_machine.specs.Texts.{text, same}
use Rattle.fort_machine.specs.Primitives.{Answer, gives, throws, prints, nothing, as_value, two_small, two_large, one_small, one_large, two_texts, two_truths, one_truth, one_text, two_values, one_value, equal_truths, count_to, counted, joined_texts, answer_of}
use Rattle.fort_sound_typed.specs.Envs.{Sig}
use Rattle.fort_sound_typed.specs.Typing.{small_type, truth_type, HasVs, vs1}
use Rattle.fort_sound_typed.specs.Signatures.{parameters_of, large_type, text_type}
use Rattle.fort_sound_typed.specs.Sound.{Up, opening}
use Rattle.fort_sound_typed.specs.Goes.{Complete}
use Rattle.fort_sound_typed.proofs.Facts.{Facts}
use Rattle.fort_sound_typed.proofs.Canonical.{small_is, large_is, text_is, truth_is}

abbrev Answers : Answer → Type 0
Answers nothing = ⊥
Answers _ = Unit {0}

module _ (k : Program) (o : Facts k) (all : Complete k) (S : Sig) (opens : Up (opening k) S) where
  figure_there : (make : ℤ → Value) (f : Figure) → Answers (as_value k make f)
  figure_there make (number n) = tt
  figure_there make too_large = tt
  figure_there make by_zero = tt
  figure_there make below_zero = tt

  counted_there : (a n : ℤ) → Answers (counted k a n)
  counted_there a n = go (int_lt n (pos 1)) (is_within w32 (last_of a (unsigned_abs n)))
    where
      go : (b c : Bool)
          → Answers (if b then gives (Range a 0)
          else (if c then gives (Range a (unsigned_abs n))
          else throws k.built_in.integer_overflow))
      go true c = tt
      go false true = tt
      go false false = tt

  two_smalls : (f : ℤ → ℤ → Answer) → ((a b : ℤ) → Answers (f a b)) → (vs : List Value)
      → HasVs k S vs (small_type k ∷ small_type k ∷ []) → Answers (two_small f (map out-Value vs))
  two_smalls f g [] h = elim h [ ]
  two_smalls f g (v ∷ []) (vs1 h i) = elim i [ ]
  two_smalls f g (v ∷ w ∷ u ∷ vs) (vs1 h (vs1 i j)) = elim j [ ]
  two_smalls f g (v ∷ w ∷ []) (vs1 h (vs1 i j)) =
      let x = small_is k o all S opens v h in let y = small_is k o all S opens w i in
      subst (λ z. Answers (two_small f (z ∷ out-Value w ∷ []))) (sym x.1)
      (subst (λ z. Answers (two_small f (Value-F.Small x.0 ∷ z ∷ []))) (sym y.1) (g x.0 y.0))

  two_larges : (f : ℤ → ℤ → Answer) → ((a b : ℤ) → Answers (f a b)) → (vs : List Value)
      → HasVs k S vs (large_type k ∷ large_type k ∷ []) → Answers (two_large f (map out-Value vs))
  two_larges f g [] h = elim h [ ]
  two_larges f g (v ∷ []) (vs1 h i) = elim i [ ]
  two_larges f g (v ∷ w ∷ u ∷ vs) (vs1 h (vs1 i j)) = elim j [ ]
  two_larges f g (v ∷ w ∷ []) (vs1 h (vs1 i j)) =
      let x = large_is k o all S opens v h in let y = large_is k o all S opens w i in
      subst (λ z. Answers (two_large f (z ∷ out-Value w ∷ []))) (sym x.1)
      (subst (λ z. Answers (two_large f (Value-F.Large x.0 ∷ z ∷ []))) (sym y.1) (g x.0 y.0))

  two_text_values : (f : List ℕ → List ℕ → Answer) → ((a b : List ℕ) → Answers (f a b))
      → (vs : List Value) → HasVs k S vs (text_type k ∷ text_type k ∷ [])
      → Answers (two_texts f (map out-Value vs))
  two_text_values f g [] h = elim h [ ]
  two_text_values f g (v ∷ []) (vs1 h i) = elim i [ ]
  two_text_values f g (v ∷ w ∷ u ∷ vs) (vs1 h (vs1 i j)) = elim j [ ]
  two_text_values f g (v ∷ w ∷ []) (vs1 h (vs1 i j)) =
      let x = text_is k o all S opens v h in let y = text_is k o all S opens w i in
      subst (λ z. Answers (two_texts f (z ∷ out-Value w ∷ []))) (sym x.1)
      (subst (λ z. Answers (two_texts f (Value-F.Text x.0 ∷ z ∷ []))) (sym y.1) (g x.0 y.0))

  two_truth_values : (f : Bool → Bool → Bool) (vs : List Value)
      → HasVs k S vs (truth_type k ∷ truth_type k ∷ []) → Answers (two_truths f (map out-Value vs))
  two_truth_values f [] h = elim h [ ]
  two_truth_values f (v ∷ []) (vs1 h i) = elim i [ ]
  two_truth_values f (v ∷ w ∷ u ∷ vs) (vs1 h (vs1 i j)) = elim j [ ]
  two_truth_values f (v ∷ w ∷ []) (vs1 h (vs1 i j)) =
      let x = truth_is k o all S opens v h in let y = truth_is k o all S opens w i in
      subst (λ z. Answers (two_truths f (z ∷ out-Value w ∷ []))) (sym x.1)
      (subst (λ z. Answers (two_truths f (Value-F.Truth x.0 ∷ z ∷ []))) (sym y.1) tt)

  one_smalls : (f : ℤ → Answer) → ((a : ℤ) → Answers (f a)) → (vs : List Value)
      → HasVs k S vs (small_type k ∷ []) → Answers (one_small f (map out-Value vs))
  one_smalls f g [] h = elim h [ ]
  one_smalls f g (v ∷ w ∷ vs) (vs1 h i) = elim i [ ]
  one_smalls f g (v ∷ []) (vs1 h i) =
      let x = small_is k o all S opens v h
      in subst (λ z. Answers (one_small f (z ∷ []))) (sym x.1) (g x.0)

  one_larges : (f : ℤ → Answer) → ((a : ℤ) → Answers (f a)) → (vs : List Value)
      → HasVs k S vs (large_type k ∷ []) → Answers (one_large f (map out-Value vs))
  one_larges f g [] h = elim h [ ]
  one_larges f g (v ∷ w ∷ vs) (vs1 h i) = elim i [ ]
  one_larges f g (v ∷ []) (vs1 h i) =
      let x = large_is k o all S opens v h
      in subst (λ z. Answers (one_large f (z ∷ []))) (sym x.1) (g x.0)

  one_texts : (f : List ℕ → Answer) → ((a : List ℕ) → Answers (f a)) → (vs : List Value)
      → HasVs k S vs (text_type k ∷ []) → Answers (one_text f (map out-Value vs))
  one_texts f g [] h = elim h [ ]
  one_texts f g (v ∷ w ∷ vs) (vs1 h i) = elim i [ ]
  one_texts f g (v ∷ []) (vs1 h i) =
      let x = text_is k o all S opens v h
      in subst (λ z. Answers (one_text f (z ∷ []))) (sym x.1) (g x.0)

  one_truth_value : (f : Bool → Bool) (vs : List Value) → HasVs k S vs (truth_type k ∷ [])
      → Answers (one_truth f (map out-Value vs))
  one_truth_value f [] h = elim h [ ]
  one_truth_value f (v ∷ w ∷ vs) (vs1 h i) = elim i [ ]
  one_truth_value f (v ∷ []) (vs1 h i) =
      let x = truth_is k o all S opens v h
      in subst (λ z. Answers (one_truth f (z ∷ []))) (sym x.1) tt

  two_any : {A B : Ty} (f : Value → Value → Answer) → ((a b : Value) → Answers (f a b))
      → (vs : List Value) → HasVs k S vs (A ∷ B ∷ []) → Answers (two_values f vs)
  two_any f g [] h = elim h [ ]
  two_any f g (v ∷ []) (vs1 h i) = elim i [ ]
  two_any f g (v ∷ w ∷ u ∷ vs) (vs1 h (vs1 i j)) = elim j [ ]
  two_any f g (v ∷ w ∷ []) h = g v w

  one_any : {A : Ty} (f : Value → Answer) → ((a : Value) → Answers (f a)) → (vs : List Value)
      → HasVs k S vs (A ∷ []) → Answers (one_value f vs)
  one_any f g [] h = elim h [ ]
  one_any f g (v ∷ w ∷ vs) (vs1 h i) = elim i [ ]
  one_any f g (v ∷ []) h = g v

  there : (f : Primitive) (vs : List Value) → HasVs k S vs (parameters_of k f)
      → Answers (answer_of k f vs)
  there primitive.AddSmall vs h =
      two_smalls (λ a b. as_value k Small (within w32 ((number (a +ℤ b)))))
      (λ a b. figure_there Small (within w32 ((number (a +ℤ b))))) vs h
  there primitive.AddLarge vs h =
      two_larges (λ a b. as_value k Large (within w64 ((number (a +ℤ b)))))
      (λ a b. figure_there Large (within w64 ((number (a +ℤ b))))) vs h
  there primitive.SubtractSmall vs h =
      two_smalls (λ a b. as_value k Small (within w32 ((number (a -ℤ b)))))
      (λ a b. figure_there Small (within w32 ((number (a -ℤ b))))) vs h
  there primitive.SubtractLarge vs h =
      two_larges (λ a b. as_value k Large (within w64 ((number (a -ℤ b)))))
      (λ a b. figure_there Large (within w64 ((number (a -ℤ b))))) vs h
  there primitive.TimesSmall vs h =
      two_smalls (λ a b. as_value k Small (within w32 ((number (a *ℤ b)))))
      (λ a b. figure_there Small (within w32 ((number (a *ℤ b))))) vs h
  there primitive.TimesLarge vs h =
      two_larges (λ a b. as_value k Large (within w64 ((number (a *ℤ b)))))
      (λ a b. figure_there Large (within w64 ((number (a *ℤ b))))) vs h
  there primitive.DotSmall vs h =
      two_smalls (λ a b. as_value k Small (within w32 ((number (a *ℤ b)))))
      (λ a b. figure_there Small (within w32 ((number (a *ℤ b))))) vs h
  there primitive.DotLarge vs h =
      two_larges (λ a b. as_value k Large (within w64 ((number (a *ℤ b)))))
      (λ a b. figure_there Large (within w64 ((number (a *ℤ b))))) vs h
  there primitive.JuxtaposeSmall vs h =
      two_smalls (λ a b. as_value k Small (within w32 ((number (a *ℤ b)))))
      (λ a b. figure_there Small (within w32 ((number (a *ℤ b))))) vs h
  there primitive.JuxtaposeLarge vs h =
      two_larges (λ a b. as_value k Large (within w64 ((number (a *ℤ b)))))
      (λ a b. figure_there Large (within w64 ((number (a *ℤ b))))) vs h
  there primitive.MaxSmall vs h =
      two_smalls (λ a b. as_value k Small (within w32 ((number (int_max a b)))))
      (λ a b. figure_there Small (within w32 ((number (int_max a b))))) vs h
  there primitive.MaxLarge vs h =
      two_larges (λ a b. as_value k Large (within w64 ((number (int_max a b)))))
      (λ a b. figure_there Large (within w64 ((number (int_max a b))))) vs h
  there primitive.MinSmall vs h =
      two_smalls (λ a b. as_value k Small (within w32 ((number (int_min a b)))))
      (λ a b. figure_there Small (within w32 ((number (int_min a b))))) vs h
  there primitive.MinLarge vs h =
      two_larges (λ a b. as_value k Large (within w64 ((number (int_min a b)))))
      (λ a b. figure_there Large (within w64 ((number (int_min a b))))) vs h
  there primitive.NegateSmall vs h =
      one_smalls (λ a. as_value k Small (within w32 (number (neg_ℤ a))))
      (λ a. figure_there Small (within w32 (number (neg_ℤ a)))) vs h
  there primitive.NegateLarge vs h =
      one_larges (λ a. as_value k Large (within w64 (number (neg_ℤ a))))
      (λ a. figure_there Large (within w64 (number (neg_ℤ a)))) vs h
  there primitive.DivideSmall vs h =
      two_smalls (λ a b. as_value k Small (within w32 (quotient a b)))
      (λ a b. figure_there Small (within w32 (quotient a b))) vs h
  there primitive.DivideLarge vs h =
      two_larges (λ a b. as_value k Large (within w64 (quotient a b)))
      (λ a b. figure_there Large (within w64 (quotient a b))) vs h
  there primitive.RemainderSmall vs h =
      two_smalls (λ a b. as_value k Small (within w32 (remainder a b)))
      (λ a b. figure_there Small (within w32 (remainder a b))) vs h
  there primitive.RemainderLarge vs h =
      two_larges (λ a b. as_value k Large (within w64 (remainder a b)))
      (λ a b. figure_there Large (within w64 (remainder a b))) vs h
  there primitive.ModuloSmall vs h =
      two_smalls (λ a b. as_value k Small (within w32 (modulus a b)))
      (λ a b. figure_there Small (within w32 (modulus a b))) vs h
  there primitive.ModuloLarge vs h =
      two_larges (λ a b. as_value k Large (within w64 (modulus a b)))
      (λ a b. figure_there Large (within w64 (modulus a b))) vs h
  there primitive.GcdSmall vs h =
      two_smalls (λ a b. as_value k Small (within w32 (greatest_divisor a b)))
      (λ a b. figure_there Small (within w32 (greatest_divisor a b))) vs h
  there primitive.GcdLarge vs h =
      two_larges (λ a b. as_value k Large (within w64 (greatest_divisor a b)))
      (λ a b. figure_there Large (within w64 (greatest_divisor a b))) vs h
  there primitive.LcmSmall vs h =
      two_smalls (λ a b. as_value k Small (within w32 (least_multiple a b)))
      (λ a b. figure_there Small (within w32 (least_multiple a b))) vs h
  there primitive.LcmLarge vs h =
      two_larges (λ a b. as_value k Large (within w64 (least_multiple a b)))
      (λ a b. figure_there Large (within w64 (least_multiple a b))) vs h
  there primitive.BitAndSmall vs h =
      two_smalls (λ a b. as_value k Small (within w32 ((number (int_bit_and w32 a b)))))
      (λ a b. figure_there Small (within w32 ((number (int_bit_and w32 a b))))) vs h
  there primitive.BitAndLarge vs h =
      two_larges (λ a b. as_value k Large (within w64 ((number (int_bit_and w64 a b)))))
      (λ a b. figure_there Large (within w64 ((number (int_bit_and w64 a b))))) vs h
  there primitive.BitOrSmall vs h =
      two_smalls (λ a b. as_value k Small (within w32 ((number (int_bit_or w32 a b)))))
      (λ a b. figure_there Small (within w32 ((number (int_bit_or w32 a b))))) vs h
  there primitive.BitOrLarge vs h =
      two_larges (λ a b. as_value k Large (within w64 ((number (int_bit_or w64 a b)))))
      (λ a b. figure_there Large (within w64 ((number (int_bit_or w64 a b))))) vs h
  there primitive.BitXorSmall vs h =
      two_smalls (λ a b. as_value k Small (within w32 ((number (int_bit_xor w32 a b)))))
      (λ a b. figure_there Small (within w32 ((number (int_bit_xor w32 a b))))) vs h
  there primitive.BitXorLarge vs h =
      two_larges (λ a b. as_value k Large (within w64 ((number (int_bit_xor w64 a b)))))
      (λ a b. figure_there Large (within w64 ((number (int_bit_xor w64 a b))))) vs h
  there primitive.ShiftLeftSmall vs h =
      two_smalls (λ a b. as_value k Small (within w32 ((shifted_left w32) a b)))
      (λ a b. figure_there Small (within w32 ((shifted_left w32) a b))) vs h
  there primitive.ShiftLeftLarge vs h =
      two_larges (λ a b. as_value k Large (within w64 ((shifted_left w64) a b)))
      (λ a b. figure_there Large (within w64 ((shifted_left w64) a b))) vs h
  there primitive.ShiftRightSmall vs h =
      two_smalls (λ a b. as_value k Small (within w32 ((shifted_right w32) a b)))
      (λ a b. figure_there Small (within w32 ((shifted_right w32) a b))) vs h
  there primitive.ShiftRightLarge vs h =
      two_larges (λ a b. as_value k Large (within w64 ((shifted_right w64) a b)))
      (λ a b. figure_there Large (within w64 ((shifted_right w64) a b))) vs h
  there primitive.PowerSmall vs h =
      two_smalls (λ a b. as_value k Small (within w32 (power a b)))
      (λ a b. figure_there Small (within w32 (power a b))) vs h
  there primitive.PowerLarge vs h =
      two_larges (λ a b. as_value k Large (within w64 (power a b)))
      (λ a b. figure_there Large (within w64 (power a b))) vs h
  there primitive.EqualSmall vs h = two_smalls (λ a b. gives (Truth (int_eq a b))) (λ a b. tt) vs h
  there primitive.EqualLarge vs h = two_larges (λ a b. gives (Truth (int_eq a b))) (λ a b. tt) vs h
  there primitive.UnequalSmall vs h =
      two_smalls (λ a b. gives (Truth ((not (int_eq a b))))) (λ a b. tt) vs h
  there primitive.UnequalLarge vs h =
      two_larges (λ a b. gives (Truth ((not (int_eq a b))))) (λ a b. tt) vs h
  there primitive.LessSmall vs h = two_smalls (λ a b. gives (Truth (int_lt a b))) (λ a b. tt) vs h
  there primitive.LessLarge vs h = two_larges (λ a b. gives (Truth (int_lt a b))) (λ a b. tt) vs h
  there primitive.AtMostSmall vs h = two_smalls (λ a b. gives (Truth (int_le a b))) (λ a b. tt) vs h
  there primitive.AtMostLarge vs h = two_larges (λ a b. gives (Truth (int_le a b))) (λ a b. tt) vs h
  there primitive.GreaterSmall vs h =
      two_smalls (λ a b. gives (Truth ((int_lt b a)))) (λ a b. tt) vs h
  there primitive.GreaterLarge vs h =
      two_larges (λ a b. gives (Truth ((int_lt b a)))) (λ a b. tt) vs h
  there primitive.AtLeastSmall vs h =
      two_smalls (λ a b. gives (Truth ((int_le b a)))) (λ a b. tt) vs h
  there primitive.AtLeastLarge vs h =
      two_larges (λ a b. gives (Truth ((int_le b a)))) (λ a b. tt) vs h
  there primitive.EqualTexts vs h =
      two_text_values (λ s r. gives (Truth (bytes_eq s r))) (λ a b. tt) vs h
  there primitive.UnequalTexts vs h =
      two_text_values (λ s r. gives (Truth (not (bytes_eq s r)))) (λ a b. tt) vs h
  there primitive.EqualTruths vs h = two_truth_values equal_truths vs h
  there primitive.UnequalTruths vs h = two_truth_values (λ a b. not (equal_truths a b)) vs h
  there primitive.Same vs h = two_any (λ a b. gives (Truth (same a b))) (λ a b. tt) vs h
  there primitive.And vs h = two_truth_values (λ a b. a && b) vs h
  there primitive.Or vs h = two_truth_values (λ a b. a || b) vs h
  there primitive.Not vs h = one_truth_value not vs h
  there primitive.RangeTo vs h = two_smalls (λ a b. gives (Range a (count_to a b))) (λ a b. tt) vs h
  there primitive.RangeCount vs h = two_smalls (counted k) counted_there vs h
  there primitive.JoinTextAny vs h = two_any (joined_texts k) (λ a b. tt) vs h
  there primitive.JoinAnyText vs h = two_any (joined_texts k) (λ a b. tt) vs h
  there primitive.JoinTexts vs h = two_any (joined_texts k) (λ a b. tt) vs h
  there primitive.Println vs h = one_any (λ a. prints (text k a ++ 10 ∷ [])) (λ a. tt) vs h
  there primitive.Print vs h = one_any (λ a. prints (text k a)) (λ a. tt) vs h
  there primitive.Abort [] h = tt
  there primitive.Abort (v ∷ vs) h = elim h [ ]
  there primitive.Widen vs h = one_smalls (λ a. gives (Large a)) (λ a. tt) vs h
  there primitive.Narrow vs h =
      one_larges (λ a. as_value k Small (within w32 (number a)))
      (λ a. figure_there Small (within w32 (number a))) vs h
  there primitive.Length vs h =
      one_texts (λ s. as_value k Small (within w32 (number (pos (length (chars s))))))
      (λ s. figure_there Small (within w32 (number (pos (length (chars s)))))) vs h

  pub answers_there : (f : Primitive) (vs : List Value) → HasVs k S vs (parameters_of k f)
      → answer_of k f vs ≢ nothing
  answers_there f vs h e = subst Answers e (there f vs h)
