-- Tokens that begin as a declaration of a local does, and the unit that is read from them.
use Rattle.std.proofs.Common.{◌≡◌, ℕ, Bool, true, false, List, [], ◌∷◌, ◌++◌, append_assoc, Some, None, refl, sym, ap, subst, ◌∙◌}
use Rattle.std.specs.Prelude.{◌||◌}
use Rattle.fort_ops.specs.declared.op.Op.TheVariants as op
use Rattle.fort_lex_token.specs.declared.token.Kind.{Kind}
use Rattle.fort_lex_token.specs.declared.token.Kind.TheVariants as kind
use Rattle.fort_lex_token.specs.declared.token.Token.{Token}
use Rattle.fort_lex_token.specs.declared.marks.Mark.TheVariants as mark
use Rattle.fort_tree.specs.declared.spot.Spot.{Spot}
use Rattle.fort_tree.specs.declared.spot.Name.{Name}
use Rattle.fort_tree.specs.declared.spot.NextName.{NextName}
use Rattle.fort_tree.specs.declared.expr.Atom.TheVariants as an_atom
use Rattle.fort_tree.specs.declared.expr.Operand.{Operand}
use Rattle.fort_tree.specs.declared.expr.Run.{Run}
use Rattle.fort_tree.specs.Tokens.{Spellings, token, named, marked, colon, is_name, is_colon, is_comma, is_open_paren, is_close_paren, begins_with_name, closes_names, goes_on_with_names, begins_with_names, begins_declaration}
use Rattle.fort_tree.specs.Blocks.{next_names_tokens, has_next_name}
use Rattle.fort_parse_reading.specs.Parser.{Row, Outcome, Read, next_of, Eater}
use Rattle.fort_parse_reading.specs.Words.{is_range, sees, spot_of}
use Rattle.fort_parse_reading.proofs.Laws.{Gets, reads, ends}
use Rattle.fort_parse_reading.proofs.Taking.{is_range_is, is_range_at}
use Rattle.fort_parse_reading.proofs.Yields.{left_true, right_true}
use Rattle.fort_parse_first.specs.declared.plain.PlainNames.{PlainNames}
use Rattle.fort_parse_first.specs.Beginnings.{begins_head}
use Rattle.fort_parse.specs.Flats.{operand}
use Rattle.fort_parse_first.specs.Plain.{plain_name, plain_names}
use Rattle.fort_parse.proofs.FormFirsts.{colon_parts}
use Rattle.fort_parse.proofs.FormPlain.{unit_of, parens_of, names_tokens, name_unit_says, name_unit_is, parens_unit_says, parens_unit_obeys, names_unit_is}
use Rattle.fort_parse.proofs.Statements.{FlatLaws}

-- ---- kinds

name_kind : (k : Kind) (s : Spot) → is_name k ≡ true → (n : Name) × (token k s ≡ named n)
name_kind (kind.Name v) s e = (record { id = v; spot = s }, refl)
name_kind (kind.Word v) s e = absurd cc
name_kind (kind.Number v) s e = absurd cc
name_kind (kind.Text v) s e = absurd cc
name_kind (kind.Op v) s e = absurd cc
name_kind (kind.Mark v) s e = absurd cc

name_token : (t : Token) → is_name t.kind ≡ true → (n : Name) × (t ≡ named n)
name_token t e = name_kind t.kind (spot_of t) e

is_colon_is : (k : Kind) → is_colon k ≡ true → k ≡ kind.Op op.Range
is_colon_is (kind.Op op.Range) e = refl
is_colon_is _ e = absurd cc

is_comma_is : (k : Kind) → is_comma k ≡ true → k ≡ kind.Mark mark.Comma
is_comma_is (kind.Mark mark.Comma) e = refl
is_comma_is _ e = absurd cc

is_open_is : (k : Kind) → is_open_paren k ≡ true → k ≡ kind.Mark mark.OpenParen
is_open_is (kind.Mark mark.OpenParen) e = refl
is_open_is _ e = absurd cc

is_close_is : (k : Kind) → is_close_paren k ≡ true → k ≡ kind.Mark mark.CloseParen
is_close_is (kind.Mark mark.CloseParen) e = refl
is_close_is _ e = absurd cc

-- a token of a kind, where it stands
at_kind : (t : Token) (k : Kind) → t.kind ≡ k → t ≡ token k (spot_of t)
at_kind t k e = ap (λ (u : Kind). token u (spot_of t)) e

either : (a b : Bool) (P : Type 0) → (a || b) ≡ true → (a ≡ true → P) → (b ≡ true → P) → P
either true b P e f g = f refl
either false b P e f g = g e

-- ---- what begins as a declaration

-- a name and `:`
pub record NameAhead (ts : List Token) : Type 0 where
  pub name : Name
  pub at_colon : Spot
  pub others : List Token
  pub is : ts ≡ named name ∷ colon at_colon ∷ others

-- a comma and a name, once or more, then `)` and `:`
pub record NamesGoOn (ts : List Token) : Type 0 where
  pub next : NextName
  pub further : List NextName
  pub right : Spot
  pub at_colon : Spot
  pub others : List Token
  pub is : ts
      ≡ next_names_tokens (next ∷ further) ++ marked mark.CloseParen right ∷ colon at_colon ∷ others

-- two or more names in parentheses and `:`
pub record NamesAhead (ts : List Token) : Type 0 where
  pub left : Spot
  pub first : Name
  pub next : NextName
  pub further : List NextName
  pub right : Spot
  pub at_colon : Spot
  pub others : List Token
  pub is : ts
      ≡ marked mark.OpenParen left ∷ named first
      ∷ (next_names_tokens (next ∷ further) ++ marked mark.CloseParen right ∷ colon at_colon
      ∷ others)

name_ahead : (ts : List Token) → begins_with_name ts ≡ true → NameAhead ts
name_ahead [] e = absurd cc
name_ahead (t ∷ []) e = absurd cc
name_ahead (t ∷ u ∷ ts) e =
    let n = name_token t (left_true _ _ e) in
    let c = at_kind u _ (is_colon_is u.kind (right_true _ _ e)) in
    record {
      name = n.0;
      at_colon = spot_of u;
      others = ts;
      is = ap (λ (x : Token). x ∷ u ∷ ts) n.1 ∙ ap (λ (x : Token). named n.0 ∷ x ∷ ts) c;
    }

goes_closed : (comma : Spot) (name : Name) (ts : List Token) → closes_names ts ≡ true
    → NamesGoOn (marked mark.Comma comma ∷ named name ∷ ts)
goes_closed comma name [] e = absurd cc
goes_closed comma name (t ∷ []) e = absurd cc
goes_closed comma name (t ∷ u ∷ ts) e =
    let r = at_kind t _ (is_close_is t.kind (left_true _ _ e)) in
    let c = at_kind u _ (is_colon_is u.kind (right_true _ _ e)) in
    record {
      next = record { comma = comma; name = name };
      further = [];
      right = spot_of t;
      at_colon = spot_of u;
      others = ts;
      is = ap (λ (x : Token). marked mark.Comma comma ∷ named name ∷ x ∷ u ∷ ts) r ∙ ap (λ
          (x : Token). marked mark.Comma comma ∷ named name ∷ marked mark.CloseParen (spot_of t)
          ∷ x ∷ ts) c;
    }

goes_further : (comma : Spot) (name : Name) (ts : List Token) → NamesGoOn ts
    → NamesGoOn (marked mark.Comma comma ∷ named name ∷ ts)
goes_further comma name ts h = record {
  next = record { comma = comma; name = name };
  further = h.next ∷ h.further;
  right = h.right;
  at_colon = h.at_colon;
  others = h.others;
  is = ap (λ (u : List Token). marked mark.Comma comma ∷ named name ∷ u) h.is;
}

names_go_on : (ts : List Token) → goes_on_with_names ts ≡ true → NamesGoOn ts
names_go_on [] e = absurd cc
names_go_on (t ∷ []) e = absurd cc
names_go_on (t ∷ u ∷ ts) e =
    let c = at_kind t _ (is_comma_is t.kind (left_true _ _ e)) in
    let n = name_token u (left_true _ _ (right_true _ _ e)) in
    let whole : marked mark.Comma (spot_of t) ∷ named n.0 ∷ ts ≡ t ∷ u ∷ ts =
    sym (ap (λ (x : Token). x ∷ u ∷ ts) c ∙ ap (λ
    (x : Token). marked mark.Comma (spot_of t) ∷ x ∷ ts) n.1) in
    subst NamesGoOn whole
    (either (closes_names ts) (goes_on_with_names ts) _ (right_true _ _ (right_true _ _ e))
    (goes_closed (spot_of t) n.0 ts)
    (λ h. goes_further (spot_of t) n.0 ts (names_go_on ts h)))

names_ahead : (ts : List Token) → begins_with_names ts ≡ true → NamesAhead ts
names_ahead [] e = absurd cc
names_ahead (t ∷ []) e = absurd cc
names_ahead (t ∷ u ∷ ts) e =
    let l = at_kind t _ (is_open_is t.kind (left_true _ _ e)) in
    let n = name_token u (left_true _ _ (right_true _ _ e)) in
    let h = names_go_on ts (right_true _ _ (right_true _ _ e)) in
    record {
      left = spot_of t;
      first = n.0;
      next = h.next;
      further = h.further;
      right = h.right;
      at_colon = h.at_colon;
      others = h.others;
      is = ap (λ (x : Token). x ∷ u ∷ ts) l ∙ ap (λ
          (x : Token). marked mark.OpenParen (spot_of t) ∷ x ∷ ts) n.1 ∙ ap (λ
          (v : List Token). marked mark.OpenParen (spot_of t) ∷ named n.0 ∷ v) h.is;
    }

-- what begins as a declaration, in a longer list too
pub data Ahead (ts : List Token) : Type 0 where
  a_name : NameAhead ts → Ahead ts
  some_names : NamesAhead ts → Ahead ts

pub ahead_of : (ts : List Token) → begins_declaration ts ≡ true → Ahead ts
ahead_of ts e =
    either (begins_with_name ts) (begins_with_names ts) _ e (λ h. a_name (name_ahead ts h))
    (λ h. some_names (names_ahead ts h))

pub ahead_more : (ts rest : List Token) → Ahead ts → Ahead (ts ++ rest)
ahead_more ts rest (a_name h) =
    a_name (record {
      name = h.name;
      at_colon = h.at_colon;
      others = h.others ++ rest;
      is = ap (λ (u : List Token). u ++ rest) h.is;
    })
ahead_more ts rest (some_names h) = some_names (record {
  left = h.left;
  first = h.first;
  next = h.next;
  further = h.further;
  right = h.right;
  at_colon = h.at_colon;
  others = h.others ++ rest;
  is = ap (λ (u : List Token). u ++ rest) h.is
      ∙ ap (λ (u : List Token). marked mark.OpenParen h.left ∷ named h.first ∷ u)
      (append_assoc (next_names_tokens (h.next ∷ h.further))
      (marked mark.CloseParen h.right ∷ colon h.at_colon ∷ h.others) rest);
})

-- what begins with a head doesn't begin so
head_kind_not : (k : Kind) → begins_head k ≡ true → (is_name k ≡ false) × (is_open_paren k ≡ false)
unfolding begins_head
head_kind_not (kind.Word v) e = (refl, refl)
head_kind_not (kind.Name v) e = absurd cc
head_kind_not (kind.Number v) e = absurd cc
head_kind_not (kind.Text v) e = absurd cc
head_kind_not (kind.Op v) e = absurd cc
head_kind_not (kind.Mark v) e = absurd cc

pub head_declares_not : (t : Token) (ts : List Token) → begins_head t.kind ≡ true
    → begins_declaration (t ∷ ts) ≡ false
head_declares_not t [] e = refl
head_declares_not t (u ∷ us) e = let h = head_kind_not t.kind e in rw (h.0, h.1) refl

-- ---- the unit before a `:`

range_colon : (k : Kind) → is_range k ≡ true → is_colon k ≡ true
range_colon k e = rw (is_range_is k e) refl

names_go : (ns : List NextName) (right : Spot) (t : Token) (ts : List Token)
    → has_next_name ns ≡ true → is_colon t.kind ≡ true
    → goes_on_with_names (next_names_tokens ns ++ marked mark.CloseParen right ∷ t ∷ ts) ≡ true
names_go [] right t ts e c = absurd cc
names_go (n ∷ []) right t ts e c = rw c refl
names_go (n ∷ m ∷ ns) right t ts e c = names_go (m ∷ ns) right t ts refl c

-- a name before a `:` begins as a declaration
pub name_declares : (name : Name) (ts : List Token) → sees is_range (next_of ts) ≡ true
    → begins_declaration (named name ∷ ts) ≡ true
unfolding sees
name_declares name [] e = absurd cc
name_declares name (t ∷ ts) e = rw (range_colon t.kind e) refl

-- so do names in parentheses
pub names_declare : (p : PlainNames) (ts : List Token) → has_next_name p.others ≡ true
    → sees is_range (next_of ts) ≡ true → begins_declaration (names_tokens p ++ ts) ≡ true
unfolding sees
names_declare p [] h e = absurd cc
names_declare p (t ∷ ts) h e =
    rw (
      append_assoc (next_names_tokens p.others) (marked mark.CloseParen p.right ∷ []) (t ∷ ts),
      names_go p.others p.right t ts h (range_colon t.kind e),
    ) refl

-- ---- the unit that is read

pub got : {A : Type 0} {o : Outcome A} {x : A} {rest : Row} → Gets A o x rest → (y : A) (mid : Row)
    → o ≡ Read y mid → (x ≡ y) × (rest ≡ mid)
got reads y mid e = (cc, cc)
got ends y mid e = absurd cc

-- The unit that is read from tokens that begin as a declaration is plain, and a `:` follows it.
pub record Declares (o : Operand) (mid : Row) : Type 0 where
  pub colon_next : sees is_range (next_of mid) ≡ true
  pub plain : plain_name o ≡ None → plain_names o ≡ None → ⊥

module _ (names : Spellings) {n : ℕ} (run : Bool → Eater Run n) (laws : FlatLaws names run) where
  -- a name before a `:` is read as the unit of it
  pub gets_name_unit : (name : Name) (at_colon : Spot) (ts : Row)
      → Gets Operand ((operand names run true).parser.run (named name ∷ colon at_colon ∷ ts))
      (unit_of (an_atom.Name name)) (colon at_colon ∷ ts)
  gets_name_unit name at_colon ts =
      let is = name_unit_says name in
      (rw is at
      (laws.complete_operand false true (unit_of (an_atom.Name name))
      (colon at_colon ∷ ts))) refl (colon_parts at_colon)

  -- so are names in parentheses
  pub gets_names_unit : (p : PlainNames) (at_colon : Spot) (ts : Row)
      → Gets Operand ((operand names run true).parser.run (names_tokens p ++ colon at_colon ∷ ts))
      (parens_of p) (colon at_colon ∷ ts)
  gets_names_unit p at_colon ts =
      subst (λ (u : Row). Gets Operand
      ((operand names run true).parser.run (u ++ colon at_colon ∷ ts)) (parens_of p)
      (colon at_colon ∷ ts)) (parens_unit_says p)
      (laws.complete_operand false true (parens_of p) (colon at_colon ∷ ts)
      (parens_unit_obeys names _ p) (colon_parts at_colon))

  declares_name : (name : Name) (at_colon : Spot) (others : Row) (o : Operand) (mid : Row)
      → unit_of (an_atom.Name name) ≡ o → colon at_colon ∷ others ≡ mid → Declares o mid
  unfolding sees
  declares_name name at_colon others o mid is to = record {
    colon_next = subst (λ (u : Row). sees is_range (next_of u) ≡ true) to is_range_at;
    plain = λ none no. let h : plain_name o ≡ Some name =
        subst (λ (u : Operand). plain_name u ≡ Some name) is (name_unit_is name) in absurd cc;
  }

  declares_names : (p : PlainNames) (at_colon : Spot) (others : Row) (o : Operand) (mid : Row)
      → plain_names (parens_of p) ≡ Some p → parens_of p ≡ o → colon at_colon ∷ others ≡ mid
      → Declares o mid
  unfolding sees
  declares_names p at_colon others o mid plain is to = record {
    colon_next = subst (λ (u : Row). sees is_range (next_of u) ≡ true) to is_range_at;
    plain = λ none no. let h : plain_names o ≡ Some p =
        subst (λ (u : Operand). plain_names u ≡ Some p) is plain in absurd cc;
  }

  pub declares : (ts : Row) → Ahead ts → (o : Operand) (mid : Row)
      → (operand names run true).parser.run ts ≡ Read o mid → Declares o mid
  declares ts (a_name h) o mid e =
      let k = got (gets_name_unit h.name h.at_colon h.others) o mid (rw h.is at e) in
      declares_name h.name h.at_colon h.others o mid k.0 k.1
  declares ts (some_names h) o mid e =
      let p : PlainNames =
      record { left = h.left; first = h.first; others = h.next ∷ h.further; right = h.right } in
      let whole : ts ≡ names_tokens p ++ colon h.at_colon ∷ h.others =
      h.is ∙ ap (λ
      (u : Row). marked mark.OpenParen h.left ∷ named h.first ∷ u)
      (sym (append_assoc (next_names_tokens (h.next ∷ h.further))
      (marked mark.CloseParen h.right ∷ []) (colon h.at_colon ∷ h.others))) in
      let k = got (gets_names_unit p h.at_colon h.others) o mid (rw whole at e) in
      declares_names p h.at_colon h.others o mid
      (names_unit_is h.left h.first h.next h.further h.right) k.0 k.1
