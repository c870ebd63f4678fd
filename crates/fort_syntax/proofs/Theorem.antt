-- Whole token lists: each is read as the one component that has them, or has none, and the fault
-- stands no earlier than it must.
use Rattle.std.proofs.Common.{◌≡◌, ℕ, ◌+◌, false, List, [], ◌∷◌, ◌++◌, length, Some, None, refl, sym, ap, subst, ◌∙◌, append_assoc, arith, inl, inr}
use Rattle.std.proofs.lemmas.List.{append-nil}
use Rattle.fort_lex_token.specs.declared.token.Token.{Token}
use Rattle.fort_lex_token.specs.declared.token.Tokens.{Tokens}
use Rattle.fort_tree.specs.declared.declarations.Component.{Component}
use Rattle.fort_tree.specs.Tokens.{Spellings}
use Rattle.fort_tree.specs.Component.{HasTree, yield}
use Rattle.fort_parse_reading.specs.declared.fault.Fault.TheVariants.{Syntax, TooDeep}
use Rattle.fort_parse_reading.specs.Parser.{Row, Outcome, Read, Failed, next_of, Locally}
use Rattle.fort_parse_reading.proofs.Laws.{Only, only_then, only_read, only_failed, Gets, reads, ends, gets_then}
use Rattle.fort_parse.proofs.AllRuns.{sound_expr_at, complete_expr_at, sound_variable_at, complete_variable_at}
use Rattle.fort_parse_declarations.specs.Declarations.{component, nothing_after, whole}
use Rattle.fort_syntax.proofs.Stops.{all_in, stops_over}
use Rattle.fort_syntax.specs.Answer.{HasNone, StopsAt, IsFault, AtMostOne, last_token, place_or_first, fault_place}
use Rattle.fort_parse_declarations.proofs.Parts.{PartLaws}
use Rattle.fort_parse_declarations.proofs.DeclarationsSound.{YieldsComponent, sound_component}
use Rattle.fort_parse_declarations.proofs.DeclarationsComplete.{complete_component}

part_laws : (names : Spellings) (n : ℕ) → PartLaws names n
part_laws names n = record {
  sound_expr = sound_expr_at names n false;
  sound_variable = sound_variable_at names n;
  complete_expr = complete_expr_at names n false;
  complete_variable = complete_variable_at names n;
}

-- these tokens, with these names and texts
abbrev of_row : Spellings → List (List ℕ) → Row → Tokens
of_row names texts ts = record { list = ts; names = names; texts = texts }

after_is : (names : Spellings) (n : ℕ) (texts : List (List ℕ)) (ts : Row) (c : Component)
    (mid : Row) → YieldsComponent names n (part_laws names n) texts c ts mid
    → Only Component ((nothing_after names n c (next_of mid)).run mid)
    (λ x rest. HasTree (of_row names texts ts) x)
after_is names n texts ts c [] h =
    only_read _ c []
    (record {
      yields = sym (append-nil (yield c)) ∙ sym h.tokens;
      names = h.spellings;
      texts = h.texts_are;
      obeys = h.obeys;
    })
after_is names n texts ts c (t ∷ mid) h = only_failed _ _ (t ∷ mid)

pub whole_sound : (names : Spellings) (n : ℕ) (texts : List (List ℕ)) (ts : Row)
    → Only Component ((whole names n texts).run ts) (λ c rest. HasTree (of_row names texts ts) c)
unfolding whole
whole_sound names n texts ts =
    only_then _ _ _ _ (sound_component names n (part_laws names n) texts ts)
    (λ c mid h. after_is names n texts ts c mid h)

pub whole_gets : (names : Spellings) (n : ℕ) (texts : List (List ℕ)) (ts : Row) (c : Component)
    → HasTree (of_row names texts ts) c → Gets Component ((whole names n texts).run ts) c []
unfolding whole
whole_gets names n texts ts c h =
    let one : Gets Component ((component names n c.texts).run (yield c ++ [])) c [] =
    complete_component names n (part_laws names n) c [] h.names h.obeys in
    let two =
    subst (λ (u : List (List ℕ)). Gets Component ((component names n u).run (yield c ++ [])) c
    []) h.texts one in
    let three =
    subst (λ (u : Row). Gets Component ((component names n texts).run u) c [])
    (append-nil (yield c) ∙ h.yields) two in
    gets_then _ three reads

read_is : {o : Outcome Component} {c : Component} {rest : Row} (x : Component) (left : Row)
    → Gets Component o c rest → o ≡ Read x left → c ≡ x
read_is x left reads h = cc
read_is x left ends h = absurd cc

not_wrong : {o : Outcome Component} {c : Component} {rest : Row} (left : Row)
    → Gets Component o c rest → o ≡ Failed Syntax left → ⊥
not_wrong left reads h = absurd cc
not_wrong left ends h = absurd cc

-- the budget of one more than the tokens suffices
pub not_deep : (names : Spellings) (texts : List (List ℕ)) (ts new : Row)
    → (whole names (length ts + 1) texts).run ts ≡ Failed TooDeep new → ⊥
not_deep names texts ts new h =
    let le = (whole names (length ts + 1) texts).deep ts new h in omega arith

-- ---- what was read

-- what is read is the one tree
pub found : (names : Spellings) (n : ℕ) (texts : List (List ℕ)) (ts : Row) (x : Component)
    (new : Row) → (whole names n texts).run ts ≡ Read x new
    → HasTree (of_row names texts ts) x
    × ((other : Component) → HasTree (of_row names texts ts) other → other ≡ x)
found names n texts ts x new h = (
  (whole_sound names n texts ts).holds x new h,
  λ c has. read_is x new (whole_gets names n texts ts c has) h,
)

-- ---- where it failed

pub has_none : (names : Spellings) (n : ℕ) (texts : List (List ℕ)) (ts new : Row)
    → (whole names n texts).run ts ≡ Failed Syntax new → HasNone (of_row names texts ts)
has_none names n texts ts new h = λ c has. not_wrong new (whole_gets names n texts ts c has) h

-- where tokens are left at the fault, it stands at the first of them
pub stops_at : (names : Spellings) (n : ℕ) (texts : List (List ℕ)) (ts : Row) (t : Token) (m : Row)
    → (whole names n texts).run ts ≡ Failed Syntax (t ∷ m) → StopsAt (of_row names texts ts) t.place
stops_at names n texts ts t m h =
    let s = subst (λ o. Locally (whole names n texts).run ts o) h ((whole names n texts).local ts)
    in
    record {
      front = s.front;
      token = t;
      rest = m;
      whole = s.whole;
      place = refl;
      none = λ numbered more other_texts others c has.
          let same : (s.front ++ t ∷ []) ++ others ≡ s.front ++ (t ∷ others) =
          append_assoc s.front (t ∷ []) others in
          let fails =
          stops_over names more n texts other_texts s.front others t
          (all_in names texts (s.front ++ t ∷ []) numbered) (λ rest. s.same t m rest refl) in
          not_wrong (t ∷ others)
          (whole_gets (names ++ more) n other_texts (s.front ++ (t ∷ others)) c (subst (λ
          (u : Row). HasTree (of_row (names ++ more) other_texts u) c) same has)) fails;
    }

-- ---- at most one

by_first : (d : Component) {o : Outcome Component} {c : Component} {rest : Row}
    → Gets Component o c rest → ((x : Component) → o ≡ Read x rest → d ≡ x)
    → ((left : Row) → o ≡ Failed TooDeep left → ⊥) → c ≡ d
by_first d (reads {x = c}) same deep = sym (same c refl)
by_first d (ends {left = left}) same deep = absurd (deep left refl)

pub at_most_one : AtMostOne
at_most_one tokens c d h k =
    let n = length tokens.list + 1 in
    by_first d (whole_gets tokens.names n tokens.texts tokens.list c h)
    (λ x e. read_is x [] (whole_gets tokens.names n tokens.texts tokens.list d k) e)
    (not_deep tokens.names tokens.texts tokens.list)

-- ---- where no token is left

-- the last of some tokens ends them
ends_with : (t : Token) (ts : Row)
    → (front : Row) × (last : Token) × (t ∷ ts ≡ front ++ last ∷ [])
    × (last_token (t ∷ ts) ≡ Some last)
ends_with t [] = ([], t, refl, refl)
ends_with t (u ∷ us) = let h = ends_with u us in (t ∷ h.0, h.1, ap (λ (x : Row). t ∷ x) h.2, h.3)

ends_early : (names : Spellings) (texts : List (List ℕ)) (ts : Row)
    → IsFault (of_row names texts ts) (fault_place ts None)
ends_early names texts [] = inr (inr (record { none = refl; place = refl }))
ends_early names texts (t ∷ ts) =
    let h = ends_with t ts in
    inr (inl (record {
      front = h.0;
      token = h.1;
      whole = h.2;
      place = ap place_or_first (sym h.3);
    }))

pub fault_at : (names : Spellings) (n : ℕ) (texts : List (List ℕ)) (ts new : Row)
    → (whole names n texts).run ts ≡ Failed Syntax new
    → IsFault (of_row names texts ts) (fault_place ts (next_of new))
fault_at names n texts ts [] h = ends_early names texts ts
fault_at names n texts ts (t ∷ m) h = inl (stops_at names n texts ts t m h)
