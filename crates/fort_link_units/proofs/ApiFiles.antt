-- Files that begin with `api`: each is read as the one API that has its tokens, or has none, and
-- the fault stands no earlier than it must.
use Rattle.std.proofs.Common.{◌≡◌, ℕ, ◌+◌, true, [], ◌∷◌, ◌++◌, length, Option, inl, refl, sym, ap, subst, ◌∙◌, append_assoc, arith}
use Rattle.std.specs.Prelude.{◌≢◌}
use Rattle.std.proofs.lemmas.List.{append-nil, append_cancel_right, get_or_append_left}
use Rattle.fort_base.specs.declared.rules.TheConstants.{SYNTAX, TOO_MANY}
use Rattle.fort_base.specs.declared.refusal.Place.{Place}
use Rattle.fort_lex_token.specs.declared.token.Token.{Token}
use Rattle.fort_lex_token.specs.declared.token.Tokens.{Tokens}
use Rattle.fort_tree.specs.Tokens.{Spellings}
use Rattle.fort_tree.specs.Openers.{AllShallow}
use Rattle.fort_parse_reading.specs.declared.fault.Fault.TheVariants.{Syntax as Because, TooDeep, Memory}
use Rattle.fort_parse_reading.specs.Parser.{Row, Outcome, Read, Failed, Locally, next_of}
use Rattle.fort_parse_reading.proofs.Laws.{Gets, reads, ends}
use Rattle.fort_syntax.specs.Answer.{fault_place}
use Rattle.fort_syntax.proofs.Agreeing.{AllIn}
use Rattle.fort_syntax.proofs.Stops.{all_in}
use Rattle.fort_link_units.specs.declared.unit.Api.{Api}
use Rattle.fort_link_units.specs.declared.unit.ComponentUnit.{ComponentUnit}
use Rattle.fort_link_units.specs.declared.unit.Unit.{Unit}
use Rattle.fort_link_units.specs.declared.unit.Unit.TheVariants as a_unit
use Rattle.fort_link_units.specs.Said.{component_tokens, api_tokens, HasApi, HasUnit}
use Rattle.fort_link_units.specs.Limits.{BreaksUnitLimit, KeepsUnitLimits}
use Rattle.fort_link_units.specs.Apis.{whole}
use Rattle.fort_link_units.specs.Answer as unit_answer
use Rattle.fort_link_units.specs.Answer.{begins_api, opened, HasNoUnit, StopsUnitAt, IsUnitFault, IsUnit, BreaksUnit}
use Rattle.fort_link_units.proofs.ApisSound.{sound_whole}
use Rattle.fort_link_units.proofs.ApisComplete.{complete_whole}
use Rattle.fort_link_units.proofs.ApisAgree.{same_whole}
use Rattle.fort_link_units.proofs.ComponentFiles.{ends_early, same_begin}

-- no component begins with `api`
component_begins : (u : ComponentUnit) (ts : Row) → component_tokens u ≡ ts → begins_api ts ≡ true
    → ⊥
component_begins u ts e f = let g = ap begins_api e in absurd cc

-- the tokens of an API are read
api_gets : (tokens : Tokens) (n : ℕ) (a : Api) → HasApi tokens a
    → Gets Api ((whole tokens.names n).run tokens.list) a []
api_gets tokens n a has =
    subst (λ (u : Row). Gets Api ((whole tokens.names n).run u) a [])
    (append-nil (api_tokens a) ∙ has.yields) (complete_whole tokens.names n a has.obeys)

gets_failed : {o : Outcome Api} {a : Api} {rest : Row} (left : Row) → Gets Api o a rest
    → o ≡ Failed Because left → ⊥
gets_failed left reads e = absurd cc
gets_failed left ends e = absurd cc

gets_read : {o : Outcome Api} {a : Api} {rest : Row} (x : Api) (left : Row) → Gets Api o a rest
    → o ≡ Read x left → a ≡ x
gets_read x left reads e = cc
gets_read x left ends e = absurd cc

-- the budget of one more than the tokens suffices
pub not_deep : (names : Spellings) (ts new : Row)
    → (whole names (length ts + 1)).run ts ≡ Failed TooDeep new → ⊥
not_deep names ts new h = let le = (whole names (length ts + 1)).deep ts new h in omega arith

by_first : (b : Api) {o : Outcome Api} {a : Api} {rest : Row} → Gets Api o a rest
    → ((x : Api) → o ≡ Read x rest → b ≡ x) → ((left : Row) → o ≡ Failed TooDeep left → ⊥) → a ≡ b
by_first b (reads {x = a}) same deep = sym (same a refl)
by_first b (ends {left = left}) same deep = absurd (deep left refl)

-- a token list has one API at most
pub one_api : (tokens : Tokens) (a b : Api) → HasApi tokens a → HasApi tokens b → a ≡ b
one_api tokens a b h k =
    let n = length tokens.list + 1 in
    by_first b (api_gets tokens n a h) (λ x e. gets_read x [] (api_gets tokens n b k) e)
    (not_deep tokens.names tokens.list)

-- ---- where none is read

no_api : (tokens : Tokens) (n : ℕ) (left : Row) → begins_api tokens.list ≡ true
    → (whole tokens.names n).run tokens.list ≡ Failed Because left → HasNoUnit tokens
no_api tokens n left own e (a_unit.Component u) has = component_begins u tokens.list has.yields own
no_api tokens n left own e (a_unit.Api a) has = gets_failed left (api_gets tokens n a has) e

-- where reading stops at a token, it stops there over each table that goes on
stops_over : (names more : Spellings) (n : ℕ) (front others : Row) (t : Token)
    → AllIn (length names) (front ++ t ∷ [])
    → ((rest : Row) → (whole names n).run (front ++ t ∷ rest) ≡ Failed Because (t ∷ rest))
    → (whole (names ++ more) n).run (front ++ t ∷ others) ≡ Failed Because (t ∷ others)
stops_over names more n front others t all stops =
    let same =
    same_whole names (names ++ more) (λ id l. sym (get_or_append_left names more [] id l)) n
    (front ++ t ∷ []) all in
    seen (sym same.same ∙ stops [])
  where
    seen : (whole (names ++ more) n).run (front ++ t ∷ []) ≡ Failed Because (t ∷ [])
        → (whole (names ++ more) n).run (front ++ t ∷ others) ≡ Failed Because (t ∷ others)
    seen h =
        let s = subst (λ o. Locally (whole (names ++ more) n).run (front ++ t ∷ []) o) h
        ((whole (names ++ more) n).local (front ++ t ∷ [])) in
        let one : front ≡ s.front = append_cancel_right front s.front (t ∷ []) s.whole in
        subst (λ (f : Row). (whole (names ++ more) n).run (f ++ t ∷ others)
        ≡ Failed Because (t ∷ others)) (sym one) (s.same t [] others refl)

api_stops : (tokens : Tokens) (n : ℕ) (t : Token) (m : Row) → begins_api tokens.list ≡ true
    → (whole tokens.names n).run tokens.list ≡ Failed Because (t ∷ m) → StopsUnitAt tokens t.place
api_stops tokens n t m own e =
    let s = subst (λ o. Locally (whole tokens.names n).run tokens.list o) e
    ((whole tokens.names n).local tokens.list) in
    record {
      front = s.front;
      token = t;
      rest = m;
      whole = s.whole;
      place = refl;
      none = λ numbered more texts others. no_api
          (record {
            list = (s.front ++ t ∷ []) ++ others;
            names = tokens.names ++ more;
            texts = texts;
          }) n (t ∷ others)
          (same_begin s.front t m others ∙ ap begins_api (sym s.whole) ∙ own)
          (ap (λ (u : Row). (whole (tokens.names ++ more) n).run u)
          (append_assoc s.front (t ∷ []) others)
          ∙ stops_over tokens.names more n s.front others t
          (all_in tokens.names tokens.texts (s.front ++ t ∷ []) numbered)
          (λ rest. s.same t m rest refl));
    }

api_fault : (tokens : Tokens) (n : ℕ) (left : Row) → begins_api tokens.list ≡ true
    → (whole tokens.names n).run tokens.list ≡ Failed Because left
    → IsUnitFault tokens (fault_place tokens.list (next_of left))
api_fault tokens n [] own e = ends_early tokens
api_fault tokens n (t ∷ m) own e = inl (api_stops tokens n t m own e)

pub api_fails : (tokens : Tokens) (n : ℕ) (left : Row) → begins_api tokens.list ≡ true
    → AllShallow (opened tokens.list)
    → (whole tokens.names n).run tokens.list ≡ Failed Because left
    → BreaksUnit tokens SYNTAX.0 (fault_place tokens.list (next_of left))
api_fails tokens n left own shallow e =
    unit_answer.Syntax shallow (no_api tokens n left own e) (api_fault tokens n left own e)

-- ---- what is read

pub api_has : (tokens : Tokens) (n : ℕ) (a : Api) (left : Row)
    → (whole tokens.names n).run tokens.list ≡ Read a left → HasApi tokens a
api_has tokens n a left e =
    let h = (sound_whole tokens.names n tokens.list).holds a left e in
    record { yields = sym (append-nil (api_tokens a)) ∙ sym h.tokens; obeys = h.obeys }

only_api : (tokens : Tokens) (n : ℕ) (a : Api) (left : Row) → begins_api tokens.list ≡ true
    → (whole tokens.names n).run tokens.list ≡ Read a left → (other : Unit) → HasUnit tokens other
    → other ≡ a_unit.Api a
only_api tokens n a left own e (a_unit.Component u) has =
    absurd (component_begins u tokens.list has.yields own)
only_api tokens n a left own e (a_unit.Api b) has =
    ap a_unit.Api (gets_read a left (api_gets tokens n b has) e)

pub api_is : (tokens : Tokens) (n : ℕ) (a : Api) (left : Row) → begins_api tokens.list ≡ true
    → AllShallow (opened tokens.list)
    → (whole tokens.names n).run tokens.list ≡ Read a left → KeepsUnitLimits (a_unit.Api a)
    → IsUnit tokens (a_unit.Api a)
api_is tokens n a left own shallow e small = record {
  shallow = shallow;
  tree = api_has tokens n a left e;
  only = only_api tokens n a left own e;
  small = small;
}

-- ---- what was read of the tokens with their names

of_tokens : (tokens : Tokens) (names : Spellings) (cursor : Row) (n : ℕ) (o : Outcome Api)
    → names ≡ tokens.names → cursor ≡ tokens.list → (whole names n).run cursor ≡ o
    → (whole tokens.names n).run tokens.list ≡ o
of_tokens tokens names cursor n o e f h =
    let one = subst (λ (ts : Row). (whole names n).run ts ≡ o) f h in
    subst (λ (m : Spellings). (whole m n).run tokens.list ≡ o) e one

pub read_api_is : (tokens : Tokens) (names : Spellings) (cursor : Row) (n : ℕ) (a : Api)
    (left : Row) → begins_api tokens.list ≡ true → AllShallow (opened tokens.list)
    → names ≡ tokens.names → cursor ≡ tokens.list → (whole names n).run cursor ≡ Read a left
    → KeepsUnitLimits (a_unit.Api a) → IsUnit tokens (a_unit.Api a)
read_api_is tokens names cursor n a left own shallow e f h small =
    api_is tokens n a left own shallow (of_tokens tokens names cursor n (Read a left) e f h) small

pub crowded_api : (tokens : Tokens) (names : Spellings) (cursor : Row) (n : ℕ) (a : Api)
    (left : Row) (at : Place) → AllShallow (opened tokens.list)
    → names ≡ tokens.names → cursor ≡ tokens.list → (whole names n).run cursor ≡ Read a left
    → BreaksUnitLimit (a_unit.Api a) at → BreaksUnit tokens TOO_MANY.0 at
crowded_api tokens names cursor n a left at shallow e f h limit =
    unit_answer.TooMany shallow (a_unit.Api a)
    (api_has tokens n a left (of_tokens tokens names cursor n (Read a left) e f h)) limit

pub failed_api : (tokens : Tokens) (names : Spellings) (cursor : Row) (n : ℕ) (new list : Row)
    (next : Option Token) (place : Place) → begins_api tokens.list ≡ true
    → AllShallow (opened tokens.list) → names ≡ tokens.names → cursor ≡ tokens.list
    → list ≡ tokens.list → next ≡ next_of new → place ≡ fault_place list next
    → (whole names n).run cursor ≡ Failed Because new → BreaksUnit tokens SYNTAX.0 place
failed_api tokens names cursor n new list next place own shallow e f l m p h =
    let at : place ≡ fault_place tokens.list (next_of new) =
    p ∙ (ap (λ (x : Row). fault_place x next) l ∙ ap (fault_place tokens.list) m) in
    subst (BreaksUnit tokens SYNTAX.0) (sym at)
    (api_fails tokens n new own shallow
    (of_tokens tokens names cursor n (Failed Because new) e f h))

pub not_memory : ◌≢◌ Because Memory
not_memory e = absurd cc
