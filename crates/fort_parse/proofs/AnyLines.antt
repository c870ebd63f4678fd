-- Whether new lines may stand between the units of a flat expression is nothing to the atoms and
-- runs in it.
use Rattle.std.proofs.Common.{◌≡◌, Bool, List, [], ◌∷◌, Option, Some, None, refl, ap}
use Rattle.std.specs.Prelude.{map, ◌&&◌}
use Rattle.fort_tree.specs.declared.expr.Atom.{Atom}
use Rattle.fort_tree.specs.declared.expr.Postfix.{Postfix}
use Rattle.fort_tree.specs.declared.expr.Prefix.{Prefix}
use Rattle.fort_tree.specs.declared.expr.Prefix.TheVariants as a_prefix
use Rattle.fort_tree.specs.declared.expr.RunPart.{RunPart}
use Rattle.fort_tree.specs.declared.expr.Operand.{Operand, out-Operand}
use Rattle.fort_tree.specs.declared.expr.Run.{Run, out-Run}
use Rattle.fort_tree.specs.declared.delimited.Delimited.{Delimited}
use Rattle.fort_tree.specs.Tokens.{Spellings, is_empty}
use Rattle.fort_tree.specs.Said.{Said, all_obey, gap_of}
use Rattle.fort_tree.specs.Flats.{prefixed as with_prefix}
use Rattle.fort_tree.specs.Yield.{said_delimited, said_atom, said_postfix, said_run_part, said_operand, said_run}
use Rattle.fort_tree.proofs.CasesFlats.{cases_atom, cases_run_part, cases_postfix}
use Rattle.fort_tree.proofs.CasesBlocks.{cases_delimited}
use Rattle.fort_tree.proofs.SaysFlats.{operand_says, run_says, says-Atom, says-Postfix, says-Subscript, says-Power, says-Field, says-Call, says-Name, says-Number, says-Text, says-True, says-False, says-Self_, says-Parens, says-Delimited, says-ArrayFill}
use Rattle.fort_tree.proofs.SaysBlocks.{says-Do, says-If, says-While, says-For, says-Case, says-Typecase, says-Try}
use Rattle.fort_parse.proofs.Statements.{allowing}

module _ (names : Spellings) (a b blocks : Bool) where
  -- a tree obeys with new lines as without
  abbrev Same : Said → Type 0
  Same x = x.obeys names (allowing a blocks) ≡ x.obeys names (allowing b blocks)

  pub delimited_same : (d : Delimited) → Same (said_delimited d)
  delimited_same = cases_delimited (λ d. Same (said_delimited d))
      (λ at b others end. rw (says-Do at b others end) refl)
      (λ at c then b others o end. rw (says-If at c then b others o end) refl)
      (λ at c d b end. rw (says-While at c d b end) refl)
      (λ at g others d b end. rw (says-For at g others d b end) refl)
      (λ at s of c o end. rw (says-Case at s of c o end) refl)
      (λ at n e s of c o end. rw (says-Typecase at n e s of c o end) refl)
      (λ at b c f end. rw (says-Try at b c f end) refl)

  pub atom_same : (x : Atom) → Same (said_atom x)
  atom_same = cases_atom (λ x. Same (said_atom x))
      (λ w. rw (says-Name w) refl) (λ v s. rw (says-Number v s) refl)
      (λ v s. rw (says-Text v s) refl)
      (λ s. rw (says-True s) refl) (λ s. rw (says-False s) refl) (λ s. rw (says-Self_ s) refl)
      (λ left c right. rw (says-Parens left c right) refl)
      (λ d. rw (says-Delimited d) (delimited_same d))
      (λ spots e s v. rw (says-ArrayFill spots e s v) refl)

  pub postfix_same : (x : Postfix) → Same (said_postfix x)
  postfix_same = cases_postfix (λ x. Same (said_postfix x))
      (λ left i right. rw (says-Subscript left i right) refl)
      (λ p e. rw (says-Power p e) (ap (λ
      (c : Bool). is_empty (gap_of (said_atom e)) && c) (atom_same e)))
      (λ d w. rw (says-Field d w) refl) (λ d w left l right. rw (says-Call d w left l right) refl)

  pub run_part_same : (x : RunPart) → Same (said_run_part x)
  run_part_same = cases_run_part (λ x. Same (said_run_part x))
      (λ x. rw (says-Atom x) (ap (λ
      (c : Bool). is_empty (gap_of (said_atom x)) && c) (atom_same x)))
      (λ x. rw (says-Postfix x) (ap (λ
      (c : Bool). is_empty (gap_of (said_postfix x)) && c) (postfix_same x)))

  parts_same : (xs : List RunPart)
      → all_obey names (allowing a blocks) (map said_run_part xs)
      ≡ all_obey names (allowing b blocks) (map said_run_part xs)
  parts_same [] = refl
  parts_same (x ∷ xs) = rw (run_part_same x, parts_same xs) refl

  pub run_same : (r : Run) → Same (said_run r)
  run_same r = rw (run_says r, atom_same (out-Run r).first, parts_same (out-Run r).rest) refl

  unit_same : (prefix : Option Prefix) (r : Run) → Same (with_prefix prefix (said_run r))
  unit_same None r = run_same r
  unit_same (Some (a_prefix.Minus s)) r = run_same r
  unit_same (Some (a_prefix.Not s)) r = run_same r

  pub operand_same : (o : Operand) → Same (said_operand o)
  operand_same o = rw (operand_says o) (unit_same (out-Operand o).prefix (out-Operand o).run)
