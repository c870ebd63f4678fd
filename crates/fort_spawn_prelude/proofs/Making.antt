-- Trees made beside what they say, so that what a whole tree says is computed.
use Rattle.std.proofs.Common.{◌≡◌, ℕ, Bool, true, ◌&&◌, List, [], ◌∷◌, ◌++◌, Option, Some, None, map, refl, ap, ap₂, ◌∙◌}
use Rattle.std.specs.Prelude.{option_map}
use Rattle.fort_base.specs.declared.refusal.Gap.TheVariants as gap
use Rattle.fort_ops.specs.declared.op.Op.{Op}
use Rattle.fort_lex_token.specs.declared.token.Token.{Token}
use Rattle.fort_lex_token.specs.declared.marks.Mark.TheVariants as mark
use Rattle.fort_lex_token.specs.declared.reserved.Reserved.TheVariants as reserved
use Rattle.fort_tree.specs.declared.spot.Spot.{Spot}
use Rattle.fort_tree.specs.declared.spot.Name.{Name}
use Rattle.fort_tree.specs.declared.declarations.Declaration.TheVariants as declaration
use Rattle.fort_tree.specs.declared.declarations.Extends.{Extends}
use Rattle.fort_tree.specs.declared.declarations.FunctionName.TheVariants as function_name
use Rattle.fort_tree.specs.declared.declarations.InitialSign.{InitialSign}
use Rattle.fort_tree.specs.declared.declarations.InitialSign.TheVariants as initial_sign
use Rattle.fort_tree.specs.declared.declarations.Names.{Names}
use Rattle.fort_tree.specs.declared.declarations.Names.TheVariants as names_of
use Rattle.fort_tree.specs.declared.declarations.ObjectMember.TheVariants as object_member
use Rattle.fort_tree.specs.declared.declarations.TraitMember.TheVariants as trait_member
use Rattle.fort_tree.specs.declared.declarations.Variable.{roll-Variable}
use Rattle.fort_tree.specs.declared.delimited.Also.{roll-Also}
use Rattle.fort_tree.specs.declared.delimited.BlockItem.{roll-BlockItem}
use Rattle.fort_tree.specs.declared.delimited.Catch.{roll-Catch}
use Rattle.fort_tree.specs.declared.delimited.Delimited.TheOpen.{Atom-F, Delimited-F, Expr-F, FlatPart-F, Generator-F, Head-F, Item-F, Postfix-F, RunPart-F}
use Rattle.fort_tree.specs.declared.delimited.Delimited.TheVariants as a_delimited
use Rattle.fort_tree.specs.declared.delimited.ElseBlock.{roll-ElseBlock}
use Rattle.fort_tree.specs.declared.delimited.ElseClause.{roll-ElseClause}
use Rattle.fort_tree.specs.declared.delimited.Item.TheVariants as an_item
use Rattle.fort_tree.specs.declared.delimited.TypeClause.{roll-TypeClause}
use Rattle.fort_tree.specs.declared.expr.AssignSign.{AssignSign}
use Rattle.fort_tree.specs.declared.expr.Atom.TheVariants as an_atom
use Rattle.fort_tree.specs.declared.expr.Expr.TheVariants as an_expr
use Rattle.fort_tree.specs.declared.expr.ExprList.{roll-ExprList}
use Rattle.fort_tree.specs.declared.expr.Flat.{roll-Flat}
use Rattle.fort_tree.specs.declared.expr.FlatPart.TheVariants as a_flat_part
use Rattle.fort_tree.specs.declared.expr.Generator.TheVariants as a_generator
use Rattle.fort_tree.specs.declared.expr.Head.TheVariants as a_head
use Rattle.fort_tree.specs.declared.expr.Operand.{roll-Operand}
use Rattle.fort_tree.specs.declared.expr.Postfix.TheVariants as a_postfix
use Rattle.fort_tree.specs.declared.expr.Run.{roll-Run}
use Rattle.fort_tree.specs.declared.expr.RunPart.TheVariants as a_run_part
use Rattle.fort_tree.specs.declared.types.SimpleType.TheOpen.{SimpleType-F, TypeTree-F}
use Rattle.fort_tree.specs.declared.types.SimpleType.TheVariants as a_simple_type
use Rattle.fort_tree.specs.declared.types.TypeTree.TheVariants as a_type_tree
use Rattle.fort_tree.specs.Tokens.{Spellings, named, marked, word, colon, equals}
use Rattle.fort_tree.specs.Said.{Said, SaidEntry, elsewhere, tokens_of, maybe_tokens, maybe_obeys, entries_tokens, entries_obey}
use Rattle.fort_tree.specs.Types.{said_type, said_simple_type, said_parameters, simple_type_step, type_tree_step}
use Rattle.fort_tree.specs.Blocks.{after_var, initial_token, delimited_step, item_step, block_item_step, also_step, else_block_step, else_clause_step, catch_step}
use Rattle.fort_tree.specs.Blocks as said_blocks
use Rattle.fort_tree.specs.Flats.{expr_step, head_step, generator_step, flat_step, flat_part_step, operand_step, run_step, run_part_step, postfix_step, atom_step, expr_list_step}
use Rattle.fort_tree.specs.Yield.{said_delimited, said_item, said_atom, said_expr, said_flat_part, said_head, said_postfix, said_run_part, said_variable, said_also, said_block_item, said_catch, said_else_block, said_else_clause, said_type_clause, said_expr_list, said_flat, said_operand}
use Rattle.fort_tree.specs.Declarations.{said_declared, said_trait_entry, said_object_entry, said_object_parameters, extends_tokens, comprises_tokens}
use Rattle.fort_tree.proofs.SaysTypes as types
use Rattle.fort_tree.proofs.SaysFlats as flats
use Rattle.fort_tree.proofs.SaysBlocks as blocks

-- a tree, and what it says
pub record Made {A B : Type 0} (said : A → B) : Type 0 where
  pub tree : A
  pub says : B
  pub is : said tree ≡ says

-- ---- several trees, and what may be left out

abbrev pub trees : {A B : Type 0} {said : A → B} → List (Made said) → List A
trees [] = []
trees (m ∷ ms) = m.tree ∷ trees ms

abbrev pub say : {A B : Type 0} {said : A → B} → List (Made said) → List B
say [] = []
say (m ∷ ms) = m.says ∷ say ms

pub all_is : {A B : Type 0} {said : A → B} (ms : List (Made said)) → map said (trees ms) ≡ say ms
all_is [] = refl
all_is (m ∷ ms) = ap₂ (λ x xs. x ∷ xs) m.is (all_is ms)

abbrev pub maybe_tree : {A B : Type 0} {said : A → B} → Option (Made said) → Option A
maybe_tree None = None
maybe_tree (Some m) = Some m.tree

abbrev pub maybe_says : {A B : Type 0} {said : A → B} → Option (Made said) → Option B
maybe_says None = None
maybe_says (Some m) = Some m.says

pub maybe_is : {A B : Type 0} {said : A → B} (m : Option (Made said))
    → option_map said (maybe_tree m) ≡ maybe_says m
maybe_is None = refl
maybe_is (Some m) = ap Some m.is

-- what an item of a list says, with its `;`
abbrev pub said_entry : Option Spot → Said → SaidEntry
said_entry s x = record { item = x; semicolon = s }

-- ---- where a token of the prelude stands

abbrev pub tight : ℕ → Spot
tight n = record { gap = gap.Empty; place = record { line = 0; column = n } }

abbrev pub spaced : ℕ → Spot
spaced n = record { gap = gap.Space; place = record { line = 0; column = n } }

abbrev pub lined : ℕ → Spot
lined n = record { gap = gap.Line; place = record { line = 0; column = n } }

-- ---- types

abbrev pub type_named : Name → Made said_simple_type
type_named name =
    record {
      tree = a_simple_type.Named name;
      says = simple_type_step (SimpleType-F.Named name);
      is = types.says-Named name;
    }

abbrev pub no_type : Spot → Spot → Made said_simple_type
no_type left right =
    record {
      tree = a_simple_type.Parts left None right;
      says = simple_type_step (SimpleType-F.Parts left None right);
      is = types.says-Parts left None right;
    }

abbrev pub simple : Made said_simple_type → Made said_type
simple m = record {
  tree = a_type_tree.Simple m.tree;
  says = type_tree_step (TypeTree-F.Simple m.says);
  is = types.says-Simple m.tree ∙ ap (λ x. type_tree_step (TypeTree-F.Simple x)) m.is;
}

abbrev pub arrow : Made said_simple_type → Spot → Made said_simple_type → Made said_type
arrow m s k = record {
  tree = a_type_tree.Arrow m.tree s k.tree;
  says = type_tree_step (TypeTree-F.Arrow m.says s k.says);
  is = types.says-Arrow m.tree s k.tree
      ∙ ap₂ (λ x y. type_tree_step (TypeTree-F.Arrow x s y)) m.is k.is;
}

-- a name as a type
abbrev pub type_of : Name → Made said_type
type_of name = simple (type_named name)

-- the type `()`
abbrev pub no_result : Spot → Spot → Made said_type
no_result left right = simple (no_type left right)

-- ---- atoms

abbrev pub name_atom : Name → Made said_atom
name_atom name =
    record {
      tree = an_atom.Name name;
      says = atom_step (Atom-F.Name name);
      is = flats.says-Name name;
    }

abbrev pub number : ℕ → Spot → Made said_atom
number n s =
    record {
      tree = an_atom.Number n s;
      says = atom_step (Atom-F.Number n s);
      is = flats.says-Number n s;
    }

abbrev pub yes : Spot → Made said_atom
yes s =
    record { tree = an_atom.True s; says = atom_step (Atom-F.True s); is = flats.says-True s }

abbrev pub no : Spot → Made said_atom
no s =
    record { tree = an_atom.False s; says = atom_step (Atom-F.False s); is = flats.says-False s }

abbrev pub oneself : Spot → Made said_atom
oneself s =
    record { tree = an_atom.Self_ s; says = atom_step (Atom-F.Self_ s); is = flats.says-Self_ s }

abbrev pub unit_atom : Spot → Spot → Made said_atom
unit_atom left right =
    record {
      tree = an_atom.Parens left None right;
      says = atom_step (Atom-F.Parens left None right);
      is = flats.says-Parens left None right;
    }

-- an expression as a list of one
abbrev pub one : Made said_expr → Made said_expr_list
one m = record {
  tree = roll-ExprList (record { first = m.tree; others = [] });
  says = expr_list_step (record { first = m.says; others = [] });
  is = flats.says_expr_list m.tree []
      ∙ ap (λ x. expr_list_step (record { first = x; others = [] })) m.is;
}

abbrev pub parens : Spot → Made said_expr → Spot → Made said_atom
parens left m right = let list = one m in record {
  tree = an_atom.Parens left (Some list.tree) right;
  says = atom_step (Atom-F.Parens left (Some list.says) right);
  is = flats.says-Parens left (Some list.tree) right
      ∙ ap (λ x. atom_step (Atom-F.Parens left (Some x) right)) list.is;
}

abbrev pub form : Made said_delimited → Made said_atom
form m = record {
  tree = an_atom.Delimited m.tree;
  says = atom_step (Atom-F.Delimited m.says);
  is = flats.says-Delimited m.tree ∙ ap (λ x. atom_step (Atom-F.Delimited x)) m.is;
}

-- ---- runs and flat expressions

abbrev pub postfix : Made said_postfix → Made said_run_part
postfix m = record {
  tree = a_run_part.Postfix m.tree;
  says = run_part_step (RunPart-F.Postfix m.says);
  is = flats.says-Postfix m.tree ∙ ap (λ x. run_part_step (RunPart-F.Postfix x)) m.is;
}

abbrev pub field : Spot → Name → Made said_run_part
field dot name =
    postfix (record {
      tree = a_postfix.Field dot name;
      says = postfix_step (Postfix-F.Field dot name);
      is = flats.says-Field dot name;
    })

-- a method call without arguments
abbrev pub method_call : Spot → Name → Spot → Spot → Made said_run_part
method_call dot name left right =
    postfix (record {
      tree = a_postfix.Call dot name left None right;
      says = postfix_step (Postfix-F.Call dot name left None right);
      is = flats.says-Call dot name left None right;
    })

abbrev pub beside : Made said_atom → Made said_run_part
beside m = record {
  tree = a_run_part.Atom m.tree;
  says = run_part_step (RunPart-F.Atom m.says);
  is = flats.says-Atom m.tree ∙ ap (λ x. run_part_step (RunPart-F.Atom x)) m.is;
}

-- a unit without a prefix operator
abbrev pub run : Made said_atom → List (Made said_run_part) → Made said_operand
run m ms = record {
  tree = roll-Operand
      (record { prefix = None; run = roll-Run (record { first = m.tree; rest = trees ms }) });
  says = operand_step
      (record { prefix = None; run = run_step (record { first = m.says; rest = say ms }) });
  is = flats.says_operand None (roll-Run (record { first = m.tree; rest = trees ms }))
      ∙ ap (λ x. operand_step (record { prefix = None; run = x }))
      (flats.says_run m.tree (trees ms)
      ∙ ap₂ (λ x xs. run_step (record { first = x; rest = xs })) m.is (all_is ms));
}

abbrev pub operate : Op → Spot → Made said_operand → Made said_flat_part
operate o s m = record {
  tree = a_flat_part.Infix (record { op = o; spot = s }) m.tree;
  says = flat_part_step (FlatPart-F.Infix (record { op = o; spot = s }) m.says);
  is = flats.says-Infix (record { op = o; spot = s }) m.tree
      ∙ ap (λ x. flat_part_step (FlatPart-F.Infix (record { op = o; spot = s }) x)) m.is;
}

abbrev pub flat : Made said_operand → List (Made said_flat_part) → Made said_flat
flat m ms = record {
  tree = roll-Flat (record { first = m.tree; rest = trees ms });
  says = flat_step (record { first = m.says; rest = say ms });
  is = flats.says_flat m.tree (trees ms)
      ∙ ap₂ (λ x xs. flat_step (record { first = x; rest = xs })) m.is (all_is ms);
}

-- a flat expression that is an atom
abbrev pub just : Made said_atom → Made said_flat
just m = flat (run m []) []

-- ---- expressions

abbrev pub value : Made said_flat → Made said_expr
value m = record {
  tree = an_expr.Flat m.tree;
  says = expr_step (Expr-F.Flat m.says);
  is = flats.says-Flat m.tree ∙ ap (λ x. expr_step (Expr-F.Flat x)) m.is;
}

-- an expression that is an atom
abbrev pub only : Made said_atom → Made said_expr
only m = value (just m)

abbrev pub assign : Made said_flat → AssignSign → Made said_flat → Made said_expr
assign m sign k = record {
  tree = an_expr.Assign m.tree sign None k.tree;
  says = expr_step (Expr-F.Assign m.says sign None k.says);
  is = flats.says-Assign m.tree sign None k.tree
      ∙ ap₂ (λ x y. expr_step (Expr-F.Assign x sign None y)) m.is k.is;
}

abbrev pub open_ : Made said_head → Made said_flat → Made said_expr
open_ m k = record {
  tree = an_expr.Open m.tree k.tree;
  says = expr_step (Expr-F.Open m.says k.says);
  is = flats.says-Open m.tree k.tree ∙ ap₂ (λ x y. expr_step (Expr-F.Open x y)) m.is k.is;
}

abbrev pub open_assign : Made said_head → Made said_flat → AssignSign → Made said_flat
    → Made said_expr
open_assign m k sign j = record {
  tree = an_expr.OpenAssign m.tree k.tree sign j.tree;
  says = expr_step (Expr-F.OpenAssign m.says k.says sign j.says);
  is = flats.says-OpenAssign m.tree k.tree sign j.tree
      ∙ (ap₂ (λ x y. expr_step (Expr-F.OpenAssign x y sign (said_flat j.tree))) m.is k.is
      ∙ ap (λ z. expr_step (Expr-F.OpenAssign m.says k.says sign z)) j.is);
}

abbrev pub atomic : Spot → Made said_head
atomic s =
    record { tree = a_head.Atomic s; says = head_step (Head-F.Atomic s); is = flats.says-Atomic s }

abbrev pub throw : Spot → Made said_head
throw s =
    record { tree = a_head.Throw s; says = head_step (Head-F.Throw s); is = flats.says-Throw s }

-- `fn` without parameters
abbrev pub fn_head : Spot → Spot → Spot → Spot → Made said_head
fn_head at_fn left right arrow =
    record {
      tree = a_head.Fn at_fn left None right arrow;
      says = head_step (Head-F.Fn at_fn left None right arrow);
      is = flats.says-Fn at_fn left None right arrow;
    }

-- ---- blocks

abbrev pub entry : Made said_item → Option Spot → Made said_block_item
entry m s = record {
  tree = roll-BlockItem (record { item = m.tree; semicolon = s });
  says = block_item_step (record { item = m.says; semicolon = s });
  is = blocks.says_block_item m.tree s
      ∙ ap (λ x. block_item_step (record { item = x; semicolon = s })) m.is;
}

abbrev pub item : Made said_expr → Made said_item
item m = record {
  tree = an_item.Expr m.tree;
  says = item_step (Item-F.Expr m.says);
  is = blocks.says-Expr m.tree ∙ ap (λ x. item_step (Item-F.Expr x)) m.is;
}

-- an expression as an item of a block, without a `;`
abbrev pub step : Made said_expr → Made said_block_item
step m = entry (item m) None

-- what a declaration of a variable says
abbrev pub variable_says : Option Spot → Name → Spot → Said → InitialSign → Said → Said
variable_says var name at_colon ty sign v = after_var var (record {
  first = named name;
  more = colon at_colon ∷ (tokens_of ty ++ initial_token sign ∷ tokens_of v);
  obeys = λ names allowed. ty.obeys names elsewhere && v.obeys names elsewhere;
})

-- a declaration of a variable
abbrev pub variable_by : Option Spot → Name → Spot → Made said_type → InitialSign
    → Made said_expr → Made said_variable
variable_by var name at_colon ty sign m = record {
  tree = roll-Variable (record {
    var = var;
    name = name;
    colon = at_colon;
    ty = ty.tree;
    sign = sign;
    value = m.tree;
  });
  says = variable_says var name at_colon ty.says sign m.says;
  is = blocks.says_variable var name at_colon ty.tree sign m.tree
      ∙ ap₂ (λ x y. variable_says var name at_colon x sign y) ty.is m.is;
}

abbrev pub local : Name → Spot → Made said_type → Spot → Made said_expr → Made said_item
local name at_colon ty at_equals m =
    let v = variable_by None name at_colon ty (initial_sign.Equals at_equals) m in record {
      tree = an_item.Variable v.tree;
      says = item_step (Item-F.Variable v.says);
      is = blocks.says-Variable v.tree ∙ ap (λ x. item_step (Item-F.Variable x)) v.is;
    }

-- ---- the forms that end with `end`

abbrev pub also : Spot → Spot → List (Made said_block_item) → Made said_also
also at_also at_do ms = record {
  tree = roll-Also (record { also = at_also; do_ = at_do; block = trees ms });
  says = also_step (record { also = at_also; do_ = at_do; block = say ms });
  is = blocks.says_also at_also at_do (trees ms)
      ∙ ap (λ xs. also_step (record { also = at_also; do_ = at_do; block = xs })) (all_is ms);
}

abbrev pub do_ : Spot → List (Made said_block_item) → List (Made said_also) → Spot
    → Made said_delimited
do_ at_do ms ks end = record {
  tree = a_delimited.Do at_do (trees ms) (trees ks) end;
  says = delimited_step (Delimited-F.Do at_do (say ms) (say ks) end);
  is = blocks.says-Do at_do (trees ms) (trees ks) end
      ∙ ap₂ (λ x y. delimited_step (Delimited-F.Do at_do x y end)) (all_is ms) (all_is ks);
}

abbrev pub otherwise : Spot → List (Made said_block_item) → Made said_else_block
otherwise at_else ms = record {
  tree = roll-ElseBlock (record { else_ = at_else; block = trees ms });
  says = else_block_step (record { else_ = at_else; block = say ms });
  is = blocks.says_else_block at_else (trees ms)
      ∙ ap (λ xs. else_block_step (record { else_ = at_else; block = xs })) (all_is ms);
}

-- an `if` without `elif`
abbrev pub if_ : Spot → Made said_flat → Spot → List (Made said_block_item)
    → Option (Made said_else_block) → Spot → Made said_delimited
if_ at_if m at_then ms k end = record {
  tree = a_delimited.If at_if m.tree at_then (trees ms) [] (maybe_tree k) end;
  says = delimited_step (Delimited-F.If at_if m.says at_then (say ms) [] (maybe_says k) end);
  is = blocks.says-If at_if m.tree at_then (trees ms) [] (maybe_tree k) end
      ∙ (ap₂ (λ x y. delimited_step (Delimited-F.If at_if x at_then y []
      (option_map said_else_block (maybe_tree k)) end)) m.is (all_is ms)
      ∙ ap (λ z. delimited_step (Delimited-F.If at_if m.says at_then (say ms) [] z end))
      (maybe_is k));
}

-- a `for` with one generator that is parallel
abbrev pub for_ : Spot → Name → Spot → Made said_flat → Spot → List (Made said_block_item) → Spot
    → Made said_delimited
for_ at_for name at_arrow m at_do ms end = record {
  tree = a_delimited.For at_for (a_generator.Parallel name at_arrow m.tree) [] at_do (trees ms) end;
  says = delimited_step (Delimited-F.For at_for
      (generator_step (Generator-F.Parallel name at_arrow m.says)) [] at_do (say ms) end);
  is = blocks.says-For at_for (a_generator.Parallel name at_arrow m.tree) [] at_do (trees ms) end
      ∙ ap₂ (λ x y. delimited_step (Delimited-F.For at_for x [] at_do y end))
      (flats.says-Parallel name at_arrow m.tree
      ∙ ap (λ x. generator_step (Generator-F.Parallel name at_arrow x)) m.is) (all_is ms);
}

abbrev pub clause : Made said_type → Spot → Made said_expr → Option Spot → Made said_type_clause
clause ty at_arrow m s = record {
  tree = roll-TypeClause
      (record { ty = ty.tree; arrow = at_arrow; value = m.tree; semicolon = s });
  says = said_entry s (said_blocks.clause ty.says at_arrow m.says);
  is = blocks.says_type_clause ty.tree at_arrow m.tree s
      ∙ ap₂ (λ x y. said_entry s (said_blocks.clause x at_arrow y)) ty.is m.is;
}

-- an `else` of clauses, without a second `;` before it
abbrev pub else_ : Spot → Spot → Made said_expr → Made said_else_clause
else_ at_else at_arrow m = record {
  tree = roll-ElseClause
      (record { semicolon = None; else_ = at_else; arrow = at_arrow; value = m.tree });
  says = else_clause_step
      (record { semicolon = None; else_ = at_else; arrow = at_arrow; value = m.says });
  is = blocks.says_else_clause None at_else at_arrow m.tree
      ∙ ap (λ x. else_clause_step
      (record { semicolon = None; else_ = at_else; arrow = at_arrow; value = x })) m.is;
}

abbrev pub typecase : Spot → Name → Spot → Made said_flat → Spot → List (Made said_type_clause)
    → Made said_else_clause → Spot → Made said_delimited
typecase at_typecase name at_equals m of ms k end = record {
  tree = a_delimited.Typecase at_typecase name at_equals m.tree of (trees ms) (Some k.tree) end;
  says = delimited_step
      (Delimited-F.Typecase at_typecase name at_equals m.says of (say ms) (Some k.says) end);
  is = blocks.says-Typecase at_typecase name at_equals m.tree of (trees ms) (Some k.tree) end
      ∙ (ap₂ (λ x y. delimited_step (Delimited-F.Typecase at_typecase name at_equals x of y
      (Some (said_else_clause k.tree)) end)) m.is (all_is ms)
      ∙ ap (λ z. delimited_step
      (Delimited-F.Typecase at_typecase name at_equals m.says of (say ms) (Some z) end)) k.is);
}

abbrev pub catch : Spot → Name → List (Made said_type_clause) → Made said_catch
catch at_catch name ms = record {
  tree = roll-Catch (record { catch = at_catch; name = name; clauses = trees ms });
  says = catch_step (record { catch = at_catch; name = name; clauses = say ms });
  is = blocks.says_catch at_catch name (trees ms)
      ∙ ap (λ xs. catch_step (record { catch = at_catch; name = name; clauses = xs })) (all_is ms);
}

-- a `try` with a `catch` alone
abbrev pub try_ : Spot → List (Made said_block_item) → Made said_catch → Spot
    → Made said_delimited
try_ at_try ms m end = record {
  tree = a_delimited.Try at_try (trees ms) (Some m.tree) None end;
  says = delimited_step (Delimited-F.Try at_try (say ms) (Some m.says) None end);
  is = blocks.says-Try at_try (trees ms) (Some m.tree) None end
      ∙ ap₂ (λ x y. delimited_step (Delimited-F.Try at_try x (Some y) None end)) (all_is ms) m.is;
}

-- ---- declarations

-- what one parameter says
abbrev pub parameter_says : Name → Spot → Said → Said
parameter_says name at_colon ty = record {
  first = named name;
  more = (colon at_colon ∷ tokens_of ty) ++ [];
  obeys = λ names allowed. ty.obeys names elsewhere && true;
}

-- a list of one parameter
abbrev pub parameter : Name → Spot → Made said_type → Made said_parameters
parameter name at_colon ty = record {
  tree = record { first = record { name = name; colon = at_colon; ty = ty.tree }; others = [] };
  says = parameter_says name at_colon ty.says;
  is = ap (parameter_says name at_colon) ty.is;
}

-- what a function says
abbrev pub function_says : Name → Spot → Option Said → Spot → Spot → Said → Spot → Said → Said
function_says name left parameters right at_colon ty at_equals body = record {
  first = named name;
  more = marked mark.OpenParen left
      ∷ (maybe_tokens parameters ++ marked mark.CloseParen right ∷ colon at_colon
      ∷ (tokens_of ty ++ equals at_equals ∷ tokens_of body));
  obeys = λ names allowed. true
      && (maybe_obeys names elsewhere parameters
      && (ty.obeys names elsewhere && body.obeys names elsewhere));
}

abbrev pub function : Name → Spot → Option (Made said_parameters) → Spot → Spot
    → Made said_type → Spot → Made said_expr → Option Spot → Made said_declared
function name left k right at_colon ty at_equals m s = record {
  tree = record {
    declaration = declaration.Function (record {
      name = function_name.Name name;
      left = left;
      parameters = maybe_tree k;
      right = right;
      colon = at_colon;
      result = ty.tree;
      equals = at_equals;
      body = m.tree;
    });
    semicolon = s;
  };
  says = record {
    item = function_says name left (maybe_says k) right at_colon ty.says at_equals m.says;
    semicolon = s;
  };
  is = ap (said_entry s)
      (ap₂ (λ x y. function_says name left x right at_colon y at_equals (said_expr m.tree))
      (maybe_is k) ty.is
      ∙ ap (λ z. function_says name left (maybe_says k) right at_colon ty.says at_equals z) m.is);
}

abbrev pub variable : Option Spot → Name → Spot → Made said_type → Spot → Made said_expr
    → Option Spot → Made said_declared
variable var name at_colon ty at_becomes m s =
    let v = variable_by var name at_colon ty (initial_sign.Becomes at_becomes) m in record {
      tree = record { declaration = declaration.Variable v.tree; semicolon = s };
      says = record { item = v.says; semicolon = s };
      is = ap (said_entry s) v.is;
    }

-- ---- members

-- what a method without parameters says, with these tokens behind its result
abbrev pub method_says : Name → Spot → Spot → Spot → Said → List Token → (Spellings → Bool) → Said
method_says name left right at_colon ty body body_obeys = record {
  first = named name;
  more = marked mark.OpenParen left ∷ marked mark.CloseParen right ∷ colon at_colon
      ∷ (tokens_of ty ++ body);
  obeys = λ names allowed. true
      && (true && (true && (ty.obeys names elsewhere && body_obeys names)));
}

-- a method of a trait, without parameters and body
abbrev pub signature : Name → Spot → Spot → Spot → Made said_type → Made said_trait_entry
signature name left right at_colon ty = record {
  tree = record {
    member = trait_member.Method (record {
      name = function_name.Name name;
      left = left;
      parameters = None;
      right = right;
      colon = at_colon;
      result = ty.tree;
      body = None;
    });
    semicolon = None;
  };
  says = record {
    item = method_says name left right at_colon ty.says [] (λ names. true);
    semicolon = None;
  };
  is = ap (λ x. said_entry None (method_says name left right at_colon x [] (λ names. true))) ty.is;
}

-- what a method of an object says
abbrev pub body_says : Name → Spot → Spot → Spot → Said → Spot → Said → Said
body_says name left right at_colon ty at_equals body =
    let m = method_says name left right at_colon ty (equals at_equals ∷ tokens_of body) (λ
    names. body.obeys names elsewhere) in
    record {
      first = m.first;
      more = m.more;
      obeys = λ names allowed. true && m.obeys names allowed;
    }

-- a method of an object, without parameters
abbrev pub method : Name → Spot → Spot → Spot → Made said_type → Spot → Made said_expr
    → Made said_object_entry
method name left right at_colon ty at_equals m = record {
  tree = record {
    member = object_member.Method (record {
      name = function_name.Name name;
      left = left;
      parameters = None;
      right = right;
      colon = at_colon;
      result = ty.tree;
      body = Some (record { equals = at_equals; body = m.tree });
    });
    semicolon = None;
  };
  says = record {
    item = body_says name left right at_colon ty.says at_equals m.says;
    semicolon = None;
  };
  is = ap₂ (λ x y. said_entry None (body_says name left right at_colon x at_equals y)) ty.is m.is;
}

-- a field with an initial
abbrev pub variable_member : Option Spot → Name → Spot → Made said_type → Spot → Made said_expr
    → Made said_object_entry
variable_member var name at_colon ty at_becomes m =
    let v = variable_by var name at_colon ty (initial_sign.Becomes at_becomes) m in record {
      tree = record { member = object_member.Variable v.tree; semicolon = None };
      says = record { item = v.says; semicolon = None };
      is = ap (said_entry None) v.is;
    }

-- ---- traits and objects

-- what a trait with a list of the types below it says
abbrev pub trait_says : Spot → Name → Spot → Names → List SaidEntry → Spot → Said
trait_says at_trait name at_comprises below members end = record {
  first = word reserved.Trait at_trait;
  more = named name
      ∷ (comprises_tokens (Some (record { comprises = at_comprises; names = below }))
      ++ (entries_tokens members ++ word reserved.End end ∷ []));
  obeys = λ names allowed. entries_obey names members;
}

abbrev pub trait_ : Spot → Name → Spot → Names → List (Made said_trait_entry) → Spot
    → Option Spot → Made said_declared
trait_ at_trait name at_comprises below ms end s = record {
  tree = record {
    declaration = declaration.Trait (record {
      trait_ = at_trait;
      name = name;
      extends = None;
      excludes = None;
      comprises = Some (record { comprises = at_comprises; names = below });
      members = trees ms;
      end = end;
    });
    semicolon = s;
  };
  says = record {
    item = trait_says at_trait name at_comprises below (say ms) end;
    semicolon = s;
  };
  is = ap (λ x. said_entry s (trait_says at_trait name at_comprises below x end)) (all_is ms);
}

-- what one parameter of an object and its parentheses say
abbrev pub field_says : Spot → Name → Spot → Said → Spot → Said
field_says left name at_colon ty right = record {
  first = marked mark.OpenParen left;
  more = (named name ∷ ((colon at_colon ∷ tokens_of ty) ++ []))
      ++ marked mark.CloseParen right ∷ [];
  obeys = λ names allowed. ty.obeys names elsewhere && true;
}

-- a list of one parameter of an object, in its parentheses
abbrev pub field_parameter : Spot → Name → Spot → Made said_type → Spot
    → Made said_object_parameters
field_parameter left name at_colon ty right = record {
  tree = record {
    left = left;
    parameters = Some (record {
      first = record { var = None; name = name; colon = at_colon; ty = ty.tree };
      others = [];
    });
    right = right;
  };
  says = field_says left name at_colon ty.says right;
  is = ap (λ x. field_says left name at_colon x right) ty.is;
}

-- what extends one type
abbrev pub extending : Spot → Name → Extends
extending at_extends name = record { extends = at_extends; names = names_of.One name }

-- what an object says
abbrev pub object_says : Spot → Name → Option Said → Extends → List SaidEntry → Spot → Said
object_says at_object name parameters above members end = record {
  first = word reserved.Object at_object;
  more = named name
      ∷ (maybe_tokens parameters ++ (extends_tokens (Some above)
      ++ (entries_tokens members ++ word reserved.End end ∷ [])));
  obeys = λ names allowed. maybe_obeys names elsewhere parameters && entries_obey names members;
}

abbrev pub object : Spot → Name → Option (Made said_object_parameters) → Extends
    → List (Made said_object_entry) → Spot → Option Spot → Made said_declared
object at_object name k above ms end s = record {
  tree = record {
    declaration = declaration.Object (record {
      object = at_object;
      name = name;
      parameters = maybe_tree k;
      extends = Some above;
      members = trees ms;
      end = end;
    });
    semicolon = s;
  };
  says = record {
    item = object_says at_object name (maybe_says k) above (say ms) end;
    semicolon = s;
  };
  is = ap (said_entry s)
      (ap₂ (λ x y. object_says at_object name x above y end) (maybe_is k) (all_is ms));
}
