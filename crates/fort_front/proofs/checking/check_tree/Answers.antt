use Rattle.std.proofs.Common.{◌≡◌, Err, rules}
use Rattle.fort_hier.specs.Hierarchies.{declares}
use Rattle.fort_front.specs.Front.{IsFormed}
use Rattle.fort_front.proofs.Refused.{refused, types_refused, fields_refused, overloads_refused, typing_refused, are_over}
use Rattle.fort_front.proofs.Same.{exact}
use Rattle.fort_front.proofs.checking.check_tree.Goals as goal

pub returns-in_err-groups : goal.returns-in_err-groups
returns-in_err-groups c =
    let e : c.from_residual.result ≡ Err c.in_err-groups.field-0.0 = search rules in
    rw e (refused c.args.component.now c.in_err-groups.field-0.0 c.in_err-groups.ensures)

pub returns-in_err-types : goal.returns-in_err-types
returns-in_err-types c =
    let e : c.from_residual-in_err-types.result ≡ Err c.in_err-types.field-0.0 = search rules in
    rw e (types_refused c.args.component.now c.in_ok-groups.groups.list
    c.in_err-types.field-0.0 c.in_ok-groups.ensures c.in_err-types.ensures.err)

pub returns-in_err-members : goal.returns-in_err-members
returns-in_err-members c =
    let e : c.from_residual-in_err-members.result ≡ Err c.in_err-members.field-0.0 = search rules in
    rw e (fields_refused c.args.component.now c.in_ok-groups.groups.list c.in_ok-types.types
    c.in_err-members.field-0.0
    c.in_ok-groups.ensures c.in_ok-types.ensures.ok c.in_err-members.ensures.err)

pub returns-in_err-overloads : goal.returns-in_err-overloads
returns-in_err-overloads c =
    let e : c.from_residual-in_err-overloads.result ≡ Err c.in_err-overloads.field-0.0 =
    search rules in
    rw e (overloads_refused c.args.component.now c.in_ok-groups.groups.list
    c.in_ok-types.types c.in_ok-members.members c.in_err-overloads.field-0.0
    c.in_ok-groups.ensures c.in_ok-types.ensures.ok c.in_ok-members.ensures.ok
    (c.in_err-overloads.ensures.err (declares c.args.component.now)
    (are_over c.args.component.now c.in_ok-types.types c.in_ok-members.members
    c.in_ok-types.ensures.ok c.in_ok-members.ensures.ok)))

pub returns-in_err-typed : goal.returns-in_err-typed
returns-in_err-typed c =
    let e : c.from_residual-in_err-typed.result ≡ Err c.in_err-typed.field-0.0 = search rules in
    let formed : IsFormed c.args.component.now = record {
      groups = c.in_ok-groups.groups.list;
      grouped = c.in_ok-groups.ensures;
      types = c.in_ok-types.types;
      typed = c.in_ok-types.ensures.ok;
      members = c.in_ok-members.members;
      belong = c.in_ok-members.ensures.ok;
      ruled = c.in_ok-overloads.ensures.ok (declares c.args.component.now)
          (are_over c.args.component.now c.in_ok-types.types c.in_ok-members.members
          c.in_ok-types.ensures.ok c.in_ok-members.ensures.ok);
    } in
    rw e (typing_refused c.args.component.now formed c.in_err-typed.field-0.0
    (rw (← c.in_ok-forms.ensures) (rw c.as_slice.ensures at c.in_err-typed.ensures.fault)))

pub returns : goal.returns
returns c =
    let formed : IsFormed c.args.component.now = record {
      groups = c.in_ok-groups.groups.list;
      grouped = c.in_ok-groups.ensures;
      types = c.in_ok-types.types;
      typed = c.in_ok-types.ensures.ok;
      members = c.in_ok-members.members;
      belong = c.in_ok-members.ensures.ok;
      ruled = c.in_ok-overloads.ensures.ok (declares c.args.component.now)
          (are_over c.args.component.now c.in_ok-types.types c.in_ok-members.members
          c.in_ok-types.ensures.ok c.in_ok-members.ensures.ok);
    } in
    record {
      formed = formed;
      typed = c.in_ok-typed.typed;
      has_types =
          (exact c.args.component.now formed).has_types c.in_ok-typed.typed
          (rw (← c.in_ok-forms.ensures) (rw c.as_slice.ensures at c.in_ok-typed.ensures.ok));
      becomes = rw c.as_slice-2.ensures at c.in_ok-program.ensures;
    }
