-- A unit that is one name says that name, and one that is names in parentheses says those; and the
-- tokens of a name, and of names in parentheses, are those of such a unit.
use Rattle.std.proofs.Common.{◌≡◌, true, List, [], ◌∷◌, ◌++◌, Option, Some, None, refl, sym, ap, ◌∙◌, rules}
use Rattle.std.specs.Prelude.{map, ◌&&◌}
use Rattle.std.proofs.lemmas.List.{append-nil}
use Rattle.fort_lex_token.specs.declared.token.Token.{Token}
use Rattle.fort_lex_token.specs.declared.marks.Mark.TheVariants as mark
use Rattle.fort_tree.specs.declared.spot.Spot.{Spot}
use Rattle.fort_tree.specs.declared.spot.Name.{Name}
use Rattle.fort_tree.specs.declared.spot.NextName.{NextName}
use Rattle.fort_tree.specs.declared.delimited.Delimited.{the_lemmas}
use Rattle.fort_tree.specs.declared.delimited.Delimited.TheViews as views
use Rattle.fort_tree.specs.declared.expr.Atom.{Atom, out-Atom}
use Rattle.fort_tree.specs.declared.expr.Atom.TheVariants as an_atom
use Rattle.fort_tree.specs.declared.expr.Expr.{Expr}
use Rattle.fort_tree.specs.declared.expr.Expr.TheVariants as an_expr
use Rattle.fort_tree.specs.declared.expr.ExprList.{ExprList, out-ExprList, roll-ExprList}
use Rattle.fort_tree.specs.declared.expr.Flat.{Flat, out-Flat, roll-Flat}
use Rattle.fort_tree.specs.declared.expr.FlatPart.{FlatPart}
use Rattle.fort_tree.specs.declared.expr.NextExpr.{NextExpr, out-NextExpr, roll-NextExpr}
use Rattle.fort_tree.specs.declared.expr.Operand.{Operand, out-Operand, roll-Operand}
use Rattle.fort_tree.specs.declared.expr.Prefix.{Prefix}
use Rattle.fort_tree.specs.declared.expr.Run.{Run, out-Run, roll-Run}
use Rattle.fort_tree.specs.declared.expr.RunPart.{RunPart}
use Rattle.fort_tree.specs.Tokens.{Spellings, named, marked}
use Rattle.fort_tree.specs.Said.{Allowed, in_brackets, tokens_of, all_tokens, all_obey}
use Rattle.fort_tree.specs.Blocks.{next_names_tokens, has_next_name}
use Rattle.fort_tree.specs.Flats.{alone}
use Rattle.fort_tree.specs.Yield.{said_run, said_operand, said_flat, said_expr, said_atom, said_expr_list, said_next_expr}
use Rattle.fort_tree.proofs.SaysFlats.{says-Flat, flat_says, says_flat, operand_says, says_operand, run_says, says_run, says-Name, says-Parens, says_expr_list, expr_list_says, says_next_expr, next_expr_says}
use Rattle.fort_tree.proofs.CasesFlats.{cases_atom, cases_expr}
use Rattle.fort_parse_first.specs.declared.plain.PlainNames.{PlainNames}
use Rattle.fort_parse_first.specs.Plain.{lone_run, lone_unit, lone_atom, atom_name, maybe_name, plain_name, flat_name, expr_name, join_names, next_names, names_between, atom_names, maybe_names, plain_names}

-- ---- what is plain says its names

run_alone : (r : Run) (parts : List RunPart) (a : Atom) → (out-Run r).rest ≡ parts
    → lone_run (out-Run r).first parts ≡ Some a → tokens_of (said_run r) ≡ tokens_of (said_atom a)
run_alone r [] a is h =
    let same : (out-Run r).first ≡ a = cc in
    rw (run_says r, is, same) (ap (λ
    (u : List Token). (said_atom a).first ∷ u) (append-nil (said_atom a).more))
run_alone r (p ∷ ps) a is h = absurd cc

unit_alone : (o : Operand) (p : Option Prefix) (a : Atom) → (out-Operand o).prefix ≡ p
    → lone_unit p (out-Operand o).run ≡ Some a
    → tokens_of (said_operand o) ≡ tokens_of (said_atom a)
unit_alone o None a is h =
    rw (operand_says o, is)
    (run_alone (out-Operand o).run (out-Run (out-Operand o).run).rest a refl h)
unit_alone o (Some p) a is h = absurd cc

lone_says : (o : Operand) (a : Atom) → lone_atom o ≡ Some a
    → tokens_of (said_operand o) ≡ tokens_of (said_atom a)
unfolding lone_atom
lone_says o a h = unit_alone o (out-Operand o).prefix a refl h

atom_name_says : (a : Atom) (name : Name) → atom_name (out-Atom a) ≡ Some name
    → tokens_of (said_atom a) ≡ named name ∷ []
atom_name_says a name = cases_atom (λ a. atom_name (out-Atom a) ≡ Some name
    → tokens_of (said_atom a) ≡ named name ∷ [])
    (λ v h. let e = rw (views.outs-Name v) at h in rw (says-Name v) cc)
    (λ v s h. let e = rw (views.outs-Number v s) at h in absurd cc)
    (λ v s h. let e = rw (views.outs-Text v s) at h in absurd cc)
    (λ s h. let e = rw (views.outs-True s) at h in absurd cc)
    (λ s h. let e = rw (views.outs-False s) at h in absurd cc)
    (λ s h. let e = rw (views.outs-Self_ s) at h in absurd cc)
    (λ a b c h. let e = rw (views.outs-Parens a b c) at h in absurd cc)
    (λ d h. let e = rw (views.outs-Delimited d) at h in absurd cc)
    (λ a b c d h. let is = rw (views.outs-ArrayFill a b c d) at h in absurd cc) a

maybe_name_says : (o : Operand) (a : Option Atom) (name : Name) → lone_atom o ≡ a
    → maybe_name a ≡ Some name → tokens_of (said_operand o) ≡ named name ∷ []
maybe_name_says o None name is h = absurd cc
maybe_name_says o (Some a) name is h = lone_says o a is ∙ atom_name_says a name h

-- a unit that is a name says it
pub plain_name_says : (o : Operand) (name : Name) → plain_name o ≡ Some name
    → tokens_of (said_operand o) ≡ named name ∷ []
unfolding plain_name
plain_name_says o name h = maybe_name_says o (lone_atom o) name refl h

flat_name_says : (f : Flat) (parts : List FlatPart) (name : Name) → (out-Flat f).rest ≡ parts
    → flat_name (out-Flat f).first parts ≡ Some name → tokens_of (said_flat f) ≡ named name ∷ []
flat_name_says f [] name is h =
    rw (flat_says f, is) (ap (λ
    (u : List Token). (said_operand (out-Flat f).first).first ∷ u)
    (append-nil (said_operand (out-Flat f).first).more)
    ∙ plain_name_says (out-Flat f).first name h)
flat_name_says f (p ∷ ps) name is h = absurd cc

-- so does an expression
expr_name_says : (e : Expr) (name : Name) → expr_name e ≡ Some name
    → tokens_of (said_expr e) ≡ named name ∷ []
unfolding expr_name
expr_name_says e name = cases_expr (λ e. expr_name e ≡ Some name
    → tokens_of (said_expr e) ≡ named name ∷ [])
    (λ f h. let is = rw (views.outs-Flat f) at h
    in rw (says-Flat f) (flat_name_says f (out-Flat f).rest name refl is))
    (λ a b c d h. let is = rw (views.outs-Assign a b c d) at h in absurd cc)
    (λ a b h. let is = rw (views.outs-Open a b) at h in absurd cc)
    (λ a b c d h. let is = rw (views.outs-OpenAssign a b c d) at h in absurd cc) e

join_says : (comma : Spot) (e : Expr) (x : Option Name) (xs : Option (List NextName))
    (more : List Token) (found : List NextName)
    → expr_name e ≡ x → ((ns : List NextName) → xs ≡ Some ns → more ≡ next_names_tokens ns)
    → join_names comma x xs ≡ Some found
    → marked mark.Comma comma ∷ (tokens_of (said_expr e) ++ more) ≡ next_names_tokens found
join_says comma e None xs more found is each h = absurd cc
join_says comma e (Some name) None more found is each h = absurd cc
join_says comma e (Some name) (Some ns) more found is each h =
    let same : record { comma = comma; name = name } ∷ ns ≡ found = cc in
    ap (λ (u : List Token). marked mark.Comma comma ∷ (u ++ more)) (expr_name_says e name is)
    ∙ ap (λ (u : List Token). marked mark.Comma comma ∷ named name ∷ u) (each ns refl)
    ∙ ap next_names_tokens same

next_names_says : (es : List NextExpr) (found : List NextName) → next_names es ≡ Some found
    → all_tokens (map said_next_expr es) ≡ next_names_tokens found
unfolding next_names
next_names_says [] found h = let same : [] ≡ found = cc in ap next_names_tokens same
next_names_says (e ∷ es) found h =
    rw (next_expr_says e)
    (join_says (out-NextExpr e).comma (out-NextExpr e).expr (expr_name (out-NextExpr e).expr)
    (next_names es) (all_tokens (map said_next_expr es)) found refl (next_names_says es) h)

-- the tokens of names in parentheses
abbrev pub names_tokens : PlainNames → List Token
names_tokens p =
    marked mark.OpenParen p.left ∷ named p.first
    ∷ (next_names_tokens p.others ++ marked mark.CloseParen p.right ∷ [])

between_says : (left right : Spot) (e : Expr) (es : List NextExpr) (x : Option Name)
    (xs : Option (List NextName)) (p : PlainNames) → expr_name e ≡ x → next_names es ≡ xs
    → names_between left right x xs ≡ Some p
    → (marked mark.OpenParen left
    ∷ ((tokens_of (said_expr e) ++ all_tokens (map said_next_expr es))
    ++ marked mark.CloseParen right ∷ []) ≡ names_tokens p) × (has_next_name p.others ≡ true)
between_says left right e es None xs p is are h = absurd cc
between_says left right e es (Some name) None p is are h = absurd cc
between_says left right e es (Some name) (Some []) p is are h = absurd cc
between_says left right e es (Some name) (Some (n ∷ ns)) p is are h =
    let same : record { left = left; first = name; others = n ∷ ns; right = right } ≡ p = cc in (
      ap (λ (u : List Token). marked mark.OpenParen left
          ∷ ((u ++ all_tokens (map said_next_expr es)) ++ marked mark.CloseParen right ∷ []))
          (expr_name_says e name is)
          ∙ ap (λ (u : List Token). marked mark.OpenParen left ∷ named name
          ∷ (u ++ marked mark.CloseParen right ∷ [])) (next_names_says es (n ∷ ns) are)
          ∙ ap names_tokens same,
      ap (λ (q : PlainNames). has_next_name q.others) (sym same),
    )

parens_say : (left : Spot) (contents : Option ExprList) (right : Spot) (p : PlainNames)
    → atom_names (out-Atom (an_atom.Parens left contents right)) ≡ Some p
    → (tokens_of (said_atom (an_atom.Parens left contents right)) ≡ names_tokens p)
    × (has_next_name p.others ≡ true)
parens_say left None right p h = let e = rw (views.outs-Parens left None right) at h in absurd cc
parens_say left (Some list) right p h =
    let e = rw (views.outs-Parens left (Some list) right) at h in
    rw (says-Parens left (Some list) right, expr_list_says list)
    (between_says left right (out-ExprList list).first (out-ExprList list).others
    (expr_name (out-ExprList list).first) (next_names (out-ExprList list).others) p refl
    refl e)

atom_names_say : (a : Atom) (p : PlainNames) → atom_names (out-Atom a) ≡ Some p
    → (tokens_of (said_atom a) ≡ names_tokens p) × (has_next_name p.others ≡ true)
atom_names_say a p = cases_atom (λ a. atom_names (out-Atom a) ≡ Some p
    → (tokens_of (said_atom a) ≡ names_tokens p) × (has_next_name p.others ≡ true))
    (λ v h. let e = rw (views.outs-Name v) at h in absurd cc)
    (λ v s h. let e = rw (views.outs-Number v s) at h in absurd cc)
    (λ v s h. let e = rw (views.outs-Text v s) at h in absurd cc)
    (λ s h. let e = rw (views.outs-True s) at h in absurd cc)
    (λ s h. let e = rw (views.outs-False s) at h in absurd cc)
    (λ s h. let e = rw (views.outs-Self_ s) at h in absurd cc)
    (λ a b c h. parens_say a b c p h)
    (λ d h. let e = rw (views.outs-Delimited d) at h in absurd cc)
    (λ a b c d h. let is = rw (views.outs-ArrayFill a b c d) at h in absurd cc) a

maybe_names_say : (o : Operand) (a : Option Atom) (p : PlainNames) → lone_atom o ≡ a
    → maybe_names a ≡ Some p
    → (tokens_of (said_operand o) ≡ names_tokens p) × (has_next_name p.others ≡ true)
maybe_names_say o None p is h = absurd cc
maybe_names_say o (Some a) p is h = let k = atom_names_say a p h in (lone_says o a is ∙ k.0, k.1)

-- a unit that is names in parentheses says them, and they are two at least
pub plain_names_say : (o : Operand) (p : PlainNames) → plain_names o ≡ Some p
    → (tokens_of (said_operand o) ≡ names_tokens p) × (has_next_name p.others ≡ true)
unfolding plain_names
plain_names_say o p h = maybe_names_say o (lone_atom o) p refl h

-- ---- what says names is plain

-- the unit of an atom alone
abbrev pub unit_of : Atom → Operand
unit_of a =
    roll-Operand (record { prefix = None; run = roll-Run (record { first = a; rest = [] }) })

-- the expression of a name alone
abbrev pub expr_of : Name → Expr
expr_of name = an_expr.Flat (roll-Flat (record { first = unit_of (an_atom.Name name); rest = [] }))

-- a further expression of a list, of a name alone
abbrev pub next_of_name : NextName → NextExpr
next_of_name n = roll-NextExpr (record { comma = n.comma; expr = expr_of n.name })

-- the unit of names in parentheses
abbrev pub parens_of : PlainNames → Operand
parens_of p =
    unit_of (an_atom.Parens p.left
    (Some (roll-ExprList
    (record { first = expr_of p.first; others = map next_of_name p.others }))) p.right)

pub unit_says : (a : Atom)
    → said_operand (unit_of a)
    ≡ record {
      first = (said_atom a).first;
      more = (said_atom a).more;
      obeys = λ names allowed. (said_atom a).obeys names allowed && true;
    }
unit_says a =
    rw (
      says_operand None (roll-Run (record { first = a; rest = [] })),
      says_run a [],
      append-nil (said_atom a).more,
    ) refl

pub name_unit_says : (name : Name) → said_operand (unit_of (an_atom.Name name)) ≡ alone (named name)
name_unit_says name = rw (unit_says (an_atom.Name name), says-Name name) refl

name_expr_says : (name : Name) → said_expr (expr_of name) ≡ alone (named name)
name_expr_says name =
    rw (
      says-Flat (roll-Flat (record { first = unit_of (an_atom.Name name); rest = [] })),
      says_flat (unit_of (an_atom.Name name)) [],
      name_unit_says name,
    ) refl

pub name_unit_is : (name : Name) → plain_name (unit_of (an_atom.Name name)) ≡ Some name
unfolding plain_name lone_atom
name_unit_is name = search (rules, the_lemmas)

name_expr_is : (name : Name) → expr_name (expr_of name) ≡ Some name
unfolding expr_name plain_name lone_atom
name_expr_is name = search (rules, the_lemmas)

next_expr_is : (n : NextName) (es : List NextExpr)
    → next_names (next_of_name n ∷ es)
    ≡ join_names n.comma (expr_name (expr_of n.name)) (next_names es)
unfolding next_names
next_expr_is n es = search (rules, the_lemmas)

next_names_are : (ns : List NextName) → next_names (map next_of_name ns) ≡ Some ns
unfolding next_names
next_names_are [] = refl
next_names_are (n ∷ ns) =
    rw (next_expr_is n (map next_of_name ns), name_expr_is n.name, next_names_are ns) refl

next_names_tokens_are : (ns : List NextName)
    → all_tokens (map said_next_expr (map next_of_name ns)) ≡ next_names_tokens ns
next_names_tokens_are [] = refl
next_names_tokens_are (n ∷ ns) =
    rw (says_next_expr n.comma (expr_of n.name), name_expr_says n.name, next_names_tokens_are ns)
    refl

next_names_obey : (names : Spellings) (allowed : Allowed) (ns : List NextName)
    → all_obey names allowed (map said_next_expr (map next_of_name ns)) ≡ true
next_names_obey names allowed [] = refl
next_names_obey names allowed (n ∷ ns) =
    rw (
      says_next_expr n.comma (expr_of n.name),
      name_expr_says n.name,
      next_names_obey names allowed ns,
    ) refl

abbrev list_of : PlainNames → ExprList
list_of p = roll-ExprList (record { first = expr_of p.first; others = map next_of_name p.others })

list_says : (p : PlainNames)
    → tokens_of (said_expr_list (list_of p)) ≡ named p.first ∷ next_names_tokens p.others
list_says p =
    rw (says_expr_list (expr_of p.first) (map next_of_name p.others), name_expr_says p.first) (ap (λ
    (u : List Token). named p.first ∷ u) (next_names_tokens_are p.others))

list_obeys : (names : Spellings) (allowed : Allowed) (p : PlainNames)
    → (said_expr_list (list_of p)).obeys names allowed ≡ true
list_obeys names allowed p =
    rw (
      says_expr_list (expr_of p.first) (map next_of_name p.others),
      name_expr_says p.first,
      next_names_obey names allowed p.others,
    ) refl

-- the unit of names in parentheses says them
pub parens_unit_says : (p : PlainNames) → tokens_of (said_operand (parens_of p)) ≡ names_tokens p
parens_unit_says p =
    rw (
      unit_says (an_atom.Parens p.left (Some (list_of p)) p.right),
      says-Parens p.left (Some (list_of p)) p.right,
    ) (ap (λ
    (u : List Token). marked mark.OpenParen p.left ∷ (u ++ marked mark.CloseParen p.right ∷ []))
    (list_says p))

-- the rules hold in it
pub parens_unit_obeys : (names : Spellings) (allowed : Allowed) (p : PlainNames)
    → (said_operand (parens_of p)).obeys names allowed ≡ true
parens_unit_obeys names allowed p =
    rw (
      unit_says (an_atom.Parens p.left (Some (list_of p)) p.right),
      says-Parens p.left (Some (list_of p)) p.right,
      list_obeys names in_brackets p,
    ) refl

-- it is those names, where they are two at least
names_unit_at : (left : Spot) (first : Name) (others : List NextName) (right : Spot)
    → plain_names
    (parens_of (record { left = left; first = first; others = others; right = right }))
    ≡ names_between left right (expr_name (expr_of first)) (next_names (map next_of_name others))
unfolding plain_names lone_atom
names_unit_at left first others right = search (rules, the_lemmas)

pub names_unit_is : (left : Spot) (first : Name) (n : NextName) (ns : List NextName) (right : Spot)
    → plain_names
    (parens_of (record { left = left; first = first; others = n ∷ ns; right = right }))
    ≡ Some (record { left = left; first = first; others = n ∷ ns; right = right })
names_unit_is left first n ns right =
    rw (names_unit_at left first (n ∷ ns) right, name_expr_is first, next_names_are (n ∷ ns)) refl

-- it is no name
pub parens_no_name : (p : PlainNames) → plain_name (parens_of p) ≡ None
unfolding plain_name lone_atom
parens_no_name p = search (rules, the_lemmas)
