-- The chapter "Grammar", trees apart from places: what moving does to what a tree says, and to
-- lists of it.
use Rattle.std.proofs.Common.{◌≡◌, ◌&&◌, ◌||◌, not, List, [], ◌∷◌, ◌++◌, Option, Some, None, map, refl, sym, ap, ◌∙◌}
use Rattle.std.proofs.lemmas.List.{map-append}
use Rattle.std.specs.Prelude.{option_map}
use Rattle.fort_base.specs.declared.refusal.Place.{Place}
use Rattle.fort_lex_token.specs.declared.token.Token.{Token}
use Rattle.fort_tree.specs.declared.spot.Spot.{Spot}
use Rattle.fort_tree.specs.declared.spot.NextName.{NextName}
use Rattle.fort_tree.specs.declared.declarations.InitialSign.{InitialSign}
use Rattle.fort_tree.specs.declared.declarations.InitialSign.TheVariants as initial_sign
use Rattle.fort_tree.specs.declared.expr.AssignSign.{AssignSign}
use Rattle.fort_tree.specs.declared.expr.AssignSign.TheVariants as assign_sign
use Rattle.fort_tree.specs.declared.expr.Big.{Big}
use Rattle.fort_tree.specs.declared.expr.Big.TheVariants as big_word
use Rattle.fort_tree.specs.declared.expr.Prefix.{Prefix}
use Rattle.fort_tree.specs.declared.expr.Prefix.TheVariants as a_prefix
use Rattle.fort_tree.specs.Tokens.{Spellings, closes_names, goes_on_with_names, begins_declaration, is_comma, is_name, is_colon, is_open_paren, is_dot}
use Rattle.fort_tree.specs.Said.{Allowed, Said, SaidEntry, SaidElse, elsewhere, tokens_of, all_tokens, all_obey, maybe_tokens, maybe_obeys, is_there, semicolon_tokens, entries_tokens, begins_apart, entries_obey, has_entry, last_semicolon, else_tokens, else_apart, else_obeys, gap_of}
use Rattle.fort_tree.specs.Blocks.{initial_token, after_var, next_names_tokens, has_next_name}
use Rattle.fort_tree.specs.Flats.{assign_token, big_first, big_more, prefixed, is_one, begins_with_paren, calls_are_whole}
use Rattle.fort_tree_law_moved.specs.Spots.{moved_token, moved_spot, moved_next_name, moved_initial, moved_assign, moved_big, moved_prefix}

-- Two trees say the same where their tokens are the same, and the rules hold in both or in neither.
pub same_said : {x y : Said} → x.first ≡ y.first → x.more ≡ y.more
    → ((names : Spellings) (allowed : Allowed) → x.obeys names allowed ≡ y.obeys names allowed)
    → x ≡ y
same_said p q r =
    λ i. record { first = p i; more = q i; obeys = λ names allowed. r names allowed i }

-- the same behind a token
pub under : {u : Token} {xs ys : List Token} → xs ≡ ys → (u ∷ xs) ≡ (u ∷ ys)
under {u = u} q = λ i. u ∷ q i

-- the same behind tokens that are the same
pub cons : {u v : Token} {xs ys : List Token} → u ≡ v → xs ≡ ys → (u ∷ xs) ≡ (v ∷ ys)
cons p q = λ i. p i ∷ q i

module _ (g : Place → Place) where
  -- what a tree says, moved
  abbrev pub moved_said : Said → Said
  moved_said x =
      record { first = moved_token g x.first; more = map (moved_token g) x.more; obeys = x.obeys }

  -- the same with its `;`
  abbrev pub moved_entry : SaidEntry → SaidEntry
  moved_entry e =
      record { item = moved_said e.item; semicolon = option_map (moved_spot g) e.semicolon }

  -- the same of an `else`
  abbrev pub moved_else : SaidElse → SaidElse
  moved_else e =
      record { semicolon = option_map (moved_spot g) e.semicolon; clause = moved_said e.clause }

  -- tokens behind tokens
  pub piece : (ys ws : List Token) {xs zs : List Token} → xs ≡ map (moved_token g) ys
      → zs ≡ map (moved_token g) ws → xs ++ zs ≡ map (moved_token g) (ys ++ ws)
  piece ys ws p q = (λ i. p i ++ q i) ∙ sym (map-append (moved_token g) ys ws)

  -- tokens behind those of a tree
  pub whole : (x : Said) (ws : List Token) {zs : List Token} → zs ≡ map (moved_token g) ws
      → tokens_of (moved_said x) ++ zs ≡ map (moved_token g) (tokens_of x ++ ws)
  whole x ws q = piece (tokens_of x) ws refl q

  -- tokens behind those of a tree but its first
  pub behind : (x : Said) (ws : List Token) {zs : List Token} → zs ≡ map (moved_token g) ws
      → map (moved_token g) x.more ++ zs ≡ map (moved_token g) (x.more ++ ws)
  behind x ws q = piece x.more ws refl q

  -- the same where a tree says what another says, moved
  pub by_tree : (x y : Said) → x ≡ moved_said y → (ws : List Token) {zs : List Token}
      → zs ≡ map (moved_token g) ws → tokens_of x ++ zs ≡ map (moved_token g) (tokens_of y ++ ws)
  by_tree x y e ws {zs = zs} q = ap (λ (z : Said). tokens_of z ++ zs) e ∙ whole y ws q

  -- the same of its tokens but the first
  pub behind_by : (x y : Said) → x ≡ moved_said y → (ws : List Token) {zs : List Token}
      → zs ≡ map (moved_token g) ws → x.more ++ zs ≡ map (moved_token g) (y.more ++ ws)
  behind_by x y e ws {zs = zs} q = ap (λ (z : Said). z.more ++ zs) e ∙ behind y ws q

  -- ---- tokens of lists

  -- the tokens of several trees
  pub all_move : (xs : List Said)
      → all_tokens (map moved_said xs) ≡ map (moved_token g) (all_tokens xs)
  all_move [] = refl
  all_move (x ∷ xs) = whole x _ (all_move xs)

  -- the tokens of what may be left out
  pub maybe_move : (o : Option Said)
      → maybe_tokens (option_map moved_said o) ≡ map (moved_token g) (maybe_tokens o)
  maybe_move None = refl
  maybe_move (Some x) = refl

  -- a `;`
  semicolon_move : (o : Option Spot)
      → semicolon_tokens (option_map (moved_spot g) o) ≡ map (moved_token g) (semicolon_tokens o)
  semicolon_move None = refl
  semicolon_move (Some s) = refl

  -- the tokens of a list of items
  pub entries_move : (es : List SaidEntry)
      → entries_tokens (map moved_entry es) ≡ map (moved_token g) (entries_tokens es)
  entries_move [] = refl
  entries_move (e ∷ es) = whole e.item _ (piece _ _ (semicolon_move e.semicolon) (entries_move es))

  -- the tokens of the `else` of a clause list
  pub else_move : (o : Option SaidElse)
      → else_tokens (option_map moved_else o) ≡ map (moved_token g) (else_tokens o)
  else_move None = refl
  else_move (Some e) = piece _ _ (semicolon_move e.semicolon) refl

  -- the tokens of further names
  pub names_move : (ns : List NextName)
      → next_names_tokens (map (moved_next_name g) ns) ≡ map (moved_token g) (next_names_tokens ns)
  names_move [] = refl
  names_move (n ∷ ns) = under (under (names_move ns))

  -- the sign before an initial
  pub initial_move : (s : InitialSign)
      → initial_token (moved_initial g s) ≡ moved_token g (initial_token s)
  initial_move (initial_sign.Equals s) = refl
  initial_move (initial_sign.Becomes s) = refl

  -- the sign of an assignment
  pub assign_move : (s : AssignSign)
      → assign_token (moved_assign g s) ≡ moved_token g (assign_token s)
  assign_move (assign_sign.Becomes s) = refl
  assign_move (assign_sign.AddBecomes s) = refl
  assign_move (assign_sign.SubtractBecomes s) = refl

  -- the first word of a reduction
  pub big_first_move : (b : Big) → big_first (moved_big g b) ≡ moved_token g (big_first b)
  big_first_move (big_word.Sum s) = refl
  big_first_move (big_word.Prod s) = refl
  big_first_move (big_word.Max s t) = refl
  big_first_move (big_word.Min s t) = refl
  big_first_move (big_word.And s t) = refl
  big_first_move (big_word.Or s t) = refl

  -- the operator behind `BIG`
  pub big_more_move : (b : Big) → big_more (moved_big g b) ≡ map (moved_token g) (big_more b)
  big_more_move (big_word.Sum s) = refl
  big_more_move (big_word.Prod s) = refl
  big_more_move (big_word.Max s t) = refl
  big_more_move (big_word.Min s t) = refl
  big_more_move (big_word.And s t) = refl
  big_more_move (big_word.Or s t) = refl

  -- ---- what stands before a tree

  -- `var` before a declaration
  pub var_move : (var : Option Spot) (x y : Said) → x ≡ moved_said y
      → after_var (option_map (moved_spot g) var) x ≡ moved_said (after_var var y)
  var_move None x y p = p
  var_move (Some s) x y p = ap (after_var (Some (moved_spot g s))) p

  -- a prefix operator before a run
  pub prefix_move : (o : Option Prefix) (x : Said)
      → prefixed (option_map (moved_prefix g) o) (moved_said x) ≡ moved_said (prefixed o x)
  prefix_move None x = refl
  prefix_move (Some (a_prefix.Minus s)) x = refl
  prefix_move (Some (a_prefix.Not s)) x = refl

  -- ---- rules

  -- the rules in several trees
  pub all_hold : (names : Spellings) (allowed : Allowed) (xs : List Said)
      → all_obey names allowed (map moved_said xs) ≡ all_obey names allowed xs
  all_hold names allowed [] = refl
  all_hold names allowed (x ∷ xs) = λ i. x.obeys names allowed && all_hold names allowed xs i

  -- the rules in what may be left out
  pub maybe_hold : (names : Spellings) (allowed : Allowed) (o : Option Said)
      → maybe_obeys names allowed (option_map moved_said o) ≡ maybe_obeys names allowed o
  maybe_hold names allowed None = refl
  maybe_hold names allowed (Some x) = refl

  -- A moved item begins apart where the item does.
  apart_hold : (o : Option Spot) (es : List SaidEntry)
      → begins_apart (option_map (moved_spot g) o) (map moved_entry es) ≡ begins_apart o es
  apart_hold o [] = refl
  apart_hold None (e ∷ es) = refl
  apart_hold (Some s) (e ∷ es) = refl

  -- the rules in a list of items
  pub entries_hold : (names : Spellings) (es : List SaidEntry)
      → entries_obey names (map moved_entry es) ≡ entries_obey names es
  entries_hold names [] = refl
  entries_hold names (e ∷ es) =
      λ i. e.item.obeys names elsewhere && (apart_hold e.semicolon es i && entries_hold names es i)

  -- Moving leaves nothing out, and puts nothing in.
  pub there_hold : {A B : Type 0} (f : A → B) (o : Option A)
      → is_there (option_map f o) ≡ is_there o
  there_hold f None = refl
  there_hold f (Some x) = refl

  -- A moved list has an item where the list does.
  pub has_hold : (es : List SaidEntry) → has_entry (map moved_entry es) ≡ has_entry es
  has_hold [] = refl
  has_hold (e ∷ es) = refl

  -- further names stand there as before
  pub next_name_hold : (ns : List NextName)
      → has_next_name (map (moved_next_name g) ns) ≡ has_next_name ns
  next_name_hold [] = refl
  next_name_hold (n ∷ ns) = refl

  -- the `;` after the last item
  last_move : (es : List SaidEntry)
      → last_semicolon (map moved_entry es) ≡ option_map (moved_spot g) (last_semicolon es)
  last_move [] = refl
  last_move (e ∷ []) = refl
  last_move (e ∷ f ∷ es) = last_move (f ∷ es)

  -- A moved `else` stands apart where the `else` does.
  else_apart_hold : (o p : Option Spot) (x : Said)
      → else_apart (option_map (moved_spot g) o) (option_map (moved_spot g) p) (gap_of x)
      ≡ else_apart o p (gap_of x)
  else_apart_hold (Some s) p x = refl
  else_apart_hold None (Some t) x = refl
  else_apart_hold None None x = refl

  -- the rules in an `else` behind clauses
  pub else_hold : (names : Spellings) (es : List SaidEntry) (o : Option SaidElse)
      → else_obeys names (map moved_entry es) (option_map moved_else o) ≡ else_obeys names es o
  else_hold names es None = refl
  else_hold names es (Some e) =
      ap (λ s. else_apart s (option_map (moved_spot g) e.semicolon) (gap_of e.clause)
      && e.clause.obeys names elsewhere) (last_move es)
      ∙ ap (λ b. b
      && e.clause.obeys names elsewhere)
      (else_apart_hold (last_semicolon es) e.semicolon e.clause)

  -- Moved trees begin with `(` where the trees do.
  paren_hold : (xs : List Said) → begins_with_paren (map moved_said xs) ≡ begins_with_paren xs
  paren_hold [] = refl
  paren_hold (x ∷ xs) = refl

  -- as many tokens as before
  one_hold : (ts : List Token) → is_one (map (moved_token g) ts) ≡ is_one ts
  one_hold [] = refl
  one_hold (t ∷ []) = refl
  one_hold (t ∷ u ∷ ts) = refl

  -- method calls are whole as before
  pub calls_hold : (xs : List Said) → calls_are_whole (map moved_said xs) ≡ calls_are_whole xs
  calls_hold [] = refl
  calls_hold (x ∷ xs) =
      λ i. not ((is_dot x.first.kind && one_hold x.more i) && paren_hold xs i) && calls_hold xs i

  -- `)` and `:` as before
  closes_hold : (ts : List Token) → closes_names (map (moved_token g) ts) ≡ closes_names ts
  closes_hold [] = refl
  closes_hold (t ∷ []) = refl
  closes_hold (t ∷ u ∷ ts) = refl

  -- names up to `)` and `:` as before
  goes_on_hold : (ts : List Token)
      → goes_on_with_names (map (moved_token g) ts) ≡ goes_on_with_names ts
  goes_on_hold [] = refl
  goes_on_hold (t ∷ []) = refl
  goes_on_hold (t ∷ u ∷ ts) =
      λ i. is_comma t.kind && (is_name u.kind && (closes_hold ts i || goes_on_hold ts i))

  -- Moved tokens begin as a declaration does where the tokens do.
  pub begins_hold : (ts : List Token)
      → begins_declaration (map (moved_token g) ts) ≡ begins_declaration ts
  begins_hold [] = refl
  begins_hold (t ∷ []) = refl
  begins_hold (t ∷ u ∷ ts) =
      λ i. (is_name t.kind && is_colon u.kind)
      || (is_open_paren t.kind && (is_name u.kind && goes_on_hold ts i))
