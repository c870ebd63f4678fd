-- What a word means, from what the tables say.
use Rattle.std.proofs.Common.{◌≡◌, ℕ, zero, suc, ◌&&◌, not, Bool, true, false, cond, List, [], ◌∷◌, get_or, Option, None, Some, refl, sym, ap, subst, ◌∙◌, arith, ◌↔◌}
use Rattle.std.specs.Prelude.{Contains}
use Rattle.fort_ops.specs.declared.op.Op.{Op}
use Rattle.fort_ops.specs.Spellings.{Spells, spellings}
use Rattle.std.proofs.lemmas.Bool.Decides.{nat_tests}
use Rattle.fort_lex_scan.specs.Lists.{every, same}
use Rattle.fort_lex_scan.proofs.Symbols.{same_is, same_refl}
use Rattle.fort_lex_token.specs.declared.reserved.Reserved.{Reserved}
use Rattle.fort_lex_token.specs.declared.marks.Mark.{Mark}
use Rattle.fort_lex.specs.declared.meaning.Meaning.TheVariants as a_meaning
use Rattle.fort_lex.specs.declared.marks.TheConstants.{MARKS}
use Rattle.fort_lex.specs.Spellings.{reserved_named, mark_ascii, mark_sign, is_sign, mark_in, mark_named, operator_in, operator_named, is_small, is_capital, is_capital_or_bar, has_operator_form}
use Rattle.fort_lex.specs.Meanings.{meaning_of}

-- ---- operators by the table of `fort_ops`

found_by : (p : Op × List ℕ) (ps : List (Op × List ℕ)) (w : List ℕ) (op : Op) (b : Bool)
    → same p.1 w ≡ b → cond b (Some p.0) (operator_in ps w) ≡ Some op
    → (operator_in ps w ≡ Some op → Contains ps (op, w)) → Contains (p ∷ ps) (op, w)
found_by p ps w op true e h ih =
    let first : p.0 ≡ op = cc in
    let second = same_is p.1 w e in (
      0,
      omega arith,
      ap (λ (q : Op × List ℕ). (q.0, p.1)) (ap (λ (o : Op). (o, w)) first) ∙ ap (λ
          (v : List ℕ). (op, v)) second,
    )
found_by p ps w op false e h ih = let k = ih h in let l = k.1 in (suc k.0, omega arith, k.2)

found : (ps : List (Op × List ℕ)) (w : List ℕ) (op : Op) → operator_in ps w ≡ Some op
    → Contains ps (op, w)
found [] w op h = absurd cc
found (p ∷ ps) w op h = found_by p ps w op (same p.1 w) refl h (found ps w op)

missing_by : (p : Op × List ℕ) (ps : List (Op × List ℕ)) (w : List ℕ) (op : Op) (b : Bool)
    → same p.1 w ≡ b → cond b (Some p.0) (operator_in ps w) ≡ None
    → (operator_in ps w ≡ None → Contains ps (op, w) → ⊥) → Contains (p ∷ ps) (op, w) → ⊥
missing_by p ps w op true e h ih k = absurd cc
missing_by p ps w op false e h ih (zero, l, is) =
    let second : p.1 ≡ w = ap (λ (q : Op × List ℕ). q.1) is in
    let yes_same : same p.1 w ≡ true = subst (λ v. same v w ≡ true) (sym second) (same_refl w)
    in absurd cc
missing_by p ps w op false e h ih (suc k, l, is) = ih h (k, omega arith, is)

missing : (ps : List (Op × List ℕ)) (w : List ℕ) (op : Op) → operator_in ps w ≡ None
    → Contains ps (op, w) → ⊥
missing [] w op h k = let l = k.1 in absurd (omega arith)
missing (p ∷ ps) w op h k = missing_by p ps w op (same p.1 w) refl h (missing ps w op) k

-- an answer that has just the operators that the characters spell is the one of the table
operator_by : (w : List ℕ) (r o : Option Op) → operator_in spellings w ≡ o
    → ((op : Op) → (r ≡ Some op) ↔ Spells op w) → r ≡ o
operator_by w r (Some op) e h = (h op).1 (found spellings w op e)
operator_by w None None e h = refl
operator_by w (Some op) None e h = absurd (missing spellings w op e ((h op).0 refl))

pub operator_is : (w : List ℕ) (r : Option Op) → ((op : Op) → (r ≡ Some op) ↔ Spells op w)
    → r ≡ operator_named w
unfolding operator_named
operator_is w r h = operator_by w r (operator_in spellings w) refl h

-- ---- meanings

pub by_reserved : (w : List ℕ) (r : Reserved) → reserved_named w ≡ Some r
    → a_meaning.Word r ≡ meaning_of w
unfolding meaning_of
by_reserved w r e = rw e refl

pub by_mark : (w : List ℕ) (m : Mark) → reserved_named w ≡ None → mark_named w ≡ Some m
    → a_meaning.Mark m ≡ meaning_of w
unfolding meaning_of
by_mark w m e f = rw e (rw f refl)

pub by_operator : (w : List ℕ) (op : Op) → reserved_named w ≡ None → mark_named w ≡ None
    → operator_named w ≡ Some op → a_meaning.Op op ≡ meaning_of w
unfolding meaning_of
by_operator w op e f g = rw e (rw f (rw g refl))

pub by_form : (w : List ℕ) → reserved_named w ≡ None → mark_named w ≡ None → operator_named w ≡ None
    → has_operator_form w ≡ true → a_meaning.OperatorWord ≡ meaning_of w
unfolding meaning_of
by_form w e f g h = rw e (rw f (rw g (rw h refl)))

pub by_name : (w : List ℕ) → reserved_named w ≡ None → mark_named w ≡ None → operator_named w ≡ None
    → has_operator_form w ≡ false → a_meaning.Name ≡ meaning_of w
unfolding meaning_of
by_name w e f g h = rw e (rw f (rw g (rw h refl)))

-- ---- a word that begins with a small letter is a reserved word or a name

never : (b : Bool) → b ≡ true → not b ≡ true → ⊥
never true h k = absurd cc
never false h k = absurd cc

and_both : (p q : Bool) → (p && q) ≡ true → (p ≡ true) × (q ≡ true)
and_both true q h = (refl, h)
and_both false q h = absurd cc

-- no row's spelling begins with a small letter
abbrev no_small_rows : List (Op × List ℕ) → Bool
no_small_rows [] = true
no_small_rows (p ∷ ps) = not (is_small (get_or p.1 0 0)) && no_small_rows ps

small_operator : (ps : List (Op × List ℕ)) (w : List ℕ) → no_small_rows ps ≡ true
    → is_small (get_or w 0 0) ≡ true → operator_in ps w ≡ None
small_operator [] w n h = refl
small_operator (p ∷ ps) w n h =
    let both = and_both (not (is_small (get_or p.1 0 0))) (no_small_rows ps) n
    in by (same p.1 w) refl both.0 (small_operator ps w both.1 h)
  where
    by : (b : Bool) → same p.1 w ≡ b → not (is_small (get_or p.1 0 0)) ≡ true
        → operator_in ps w ≡ None → cond b (Some p.0) (operator_in ps w) ≡ None
    by true e m ih =
        absurd (never (is_small (get_or w 0 0)) h
        (subst (λ v. not (is_small (get_or v 0 0)) ≡ true) (same_is p.1 w e) m))
    by false e m ih = ih

spellings_no_small : no_small_rows spellings ≡ true
spellings_no_small = refl

abbrev no_small_sign : Option ℕ → Bool
no_small_sign None = true
no_small_sign (Some c) = not (is_small c)

abbrev no_small_marks : List Mark → Bool
no_small_marks [] = true
no_small_marks (m ∷ ms) =
    (not (is_small (get_or (mark_ascii m) 0 0)) && no_small_sign (mark_sign m)) && no_small_marks ms

small_sign : (s : Option ℕ) (w : List ℕ) → no_small_sign s ≡ true → is_small (get_or w 0 0) ≡ true
    → is_sign s w ≡ false
small_sign None w n h = refl
small_sign (Some c) w n h = by (same (c ∷ []) w) refl
  where
    by : (b : Bool) → same (c ∷ []) w ≡ b → b ≡ false
    by true e =
        absurd (never (is_small (get_or w 0 0)) h
        (subst (λ v. not (is_small (get_or v 0 0)) ≡ true) (same_is (c ∷ []) w e) n))
    by false e = refl

small_ascii : (v w : List ℕ) → not (is_small (get_or v 0 0)) ≡ true → is_small (get_or w 0 0) ≡ true
    → same v w ≡ false
small_ascii v w n h = by (same v w) refl
  where
    by : (b : Bool) → same v w ≡ b → b ≡ false
    by true e =
        absurd (never (is_small (get_or w 0 0)) h
        (subst (λ v. not (is_small (get_or v 0 0)) ≡ true) (same_is v w e) n))
    by false e = refl

small_mark : (ms : List Mark) (w : List ℕ) → no_small_marks ms ≡ true
    → is_small (get_or w 0 0) ≡ true → mark_in ms w ≡ None
small_mark [] w n h = refl
small_mark (m ∷ ms) w n h =
    let both =
    and_both (not (is_small (get_or (mark_ascii m) 0 0))
    && no_small_sign (mark_sign m)) (no_small_marks ms) n in
    let first =
    and_both (not (is_small (get_or (mark_ascii m) 0 0))) (no_small_sign (mark_sign m)) both.0
    in
    let a = small_ascii (mark_ascii m) w first.0 h in
    let b = small_sign (mark_sign m) w first.1 h in
    rw a (rw b (small_mark ms w both.1 h))

marks_no_small : no_small_marks MARKS ≡ true
marks_no_small = refl

no_mark : (w : List ℕ) → is_small (get_or w 0 0) ≡ true → mark_named w ≡ None
unfolding mark_named
no_mark w h = small_mark MARKS w marks_no_small h

no_operator : (w : List ℕ) → is_small (get_or w 0 0) ≡ true → operator_named w ≡ None
unfolding operator_named
no_operator w h = small_operator spellings w spellings_no_small h

small_capital : (c : ℕ) → is_small c ≡ true → is_capital c ≡ false
small_capital c h = grind (arith, nat_tests)

and_false : (b : Bool) → (b && false) ≡ false
and_false true = refl
and_false false = refl

no_form : (w : List ℕ) → is_small (get_or w 0 0) ≡ true → has_operator_form w ≡ false
no_form w h = rw (small_capital (get_or w 0 0) h) (and_false (every is_capital_or_bar w))

pub by_small : (w : List ℕ) → reserved_named w ≡ None → is_small (get_or w 0 0) ≡ true
    → a_meaning.Name ≡ meaning_of w
by_small w e h = by_name w e (no_mark w h) (no_operator w h) (no_form w h)
